-- The controller of 01's plain slot: what the logged commands make of its state, and which endpoints they leave enabled.
use Rattle.std.specs.Prelude.{ℕ, ◌+◌, Bool, true, false, not, cond, ◌&&◌, ◌||◌, List, [], ◌∷◌, eqb, leb, ltb, take}
use Rattle.command.specs.declared.Sent.{Sent}
use Rattle.command.specs.declared.Sent.TheVariants.{Done, Failed, Cut}
use Rattle.command.specs.Command.{operation_of, outcome_at}
use Rattle.context_field.specs.Field.{read_field}
use Rattle.context_block.specs.Fields.{DROP-FLAG, ADD-FLAG}

-- What a command of an operation, with its outcome and its context, makes of a state.
abbrev pub Step : Type 0 → Type 0
Step S = ℕ → Sent → List ℕ → S → S

-- The state that logged words leave; the first word is command number i of its call, and `contexts i` its context.
unfoldable pub controlled : {S : Type 0} → Step S → (ℕ → List ℕ) → List ℕ → ℕ → List ℕ → S → S
controlled step contexts outcomes i [] state = state
controlled step contexts outcomes i (w ∷ ws) state =
    controlled step contexts outcomes (i + 1) ws (step (operation_of w) (outcome_at outcomes i) (contexts i) state)

-- Configure, SetConfiguration and Disable of the log words.
abbrev pub CONFIGURE : ℕ
CONFIGURE = 3

abbrev pub SET-CONFIGURATION : ℕ
SET-CONFIGURATION = 7

abbrev pub DISABLE : ℕ
DISABLE = 12

unfoldable pub is_done : Sent → Bool
is_done Done = true
is_done (Failed code) = false
is_done Cut = false

-- A done Configure drops the flagged endpoints and then adds the flagged ones: flags 2 to 31 of its context.
unfoldable pub configured : List ℕ → (ℕ → Bool) → ℕ → Bool
configured ctx enabled d =
    cond (leb 2 d && ltb d 32)
    ((enabled d && not (eqb (read_field (take 32 ctx) (DROP-FLAG d)) 1)) || eqb (read_field (take 32 ctx) (ADD-FLAG d)) 1)
    (enabled d)

-- The endpoints, by Dci, that a command leaves enabled: a done Disable leaves none; no other command, and none that failed or was not
-- answered, changes them.
unfoldable pub enabled_after : Step (ℕ → Bool)
enabled_after operation sent ctx enabled =
    cond (eqb operation CONFIGURE && is_done sent) (configured ctx enabled)
    (cond (eqb operation DISABLE && is_done sent) (λ d. false) enabled)

-- Whether a done command of an operation is among logged words.
unfoldable pub done_word : ℕ → List ℕ → ℕ → List ℕ → Bool
done_word operation outcomes i [] = false
done_word operation outcomes i (w ∷ ws) =
    (eqb (operation_of w) operation && is_done (outcome_at outcomes i)) || done_word operation outcomes (i + 1) ws

-- Whether a command of an operation is among logged words, whatever its outcome.
unfoldable pub sent_word : ℕ → List ℕ → Bool
sent_word operation [] = false
sent_word operation (w ∷ ws) = eqb (operation_of w) operation || sent_word operation ws
