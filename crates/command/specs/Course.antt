-- The course of a call: the commands that it sends, one after the other, by the outcomes of those before.
use Rattle.std.specs.Prelude.{ℕ, zero, suc, ◌+◌, ◌≡◌, List, [], ◌∷◌, length}
use Rattle.std.proofs.lemmas.List.Edits.{sets}
use Rattle.command.specs.declared.Command.{Command}
use Rattle.command.specs.declared.Sent.{Sent}
use Rattle.command.specs.declared.Sent.TheVariants.{Done, Failed, Cut}
use Rattle.command.specs.Command.{command_word, outcome_at}

-- It ends, or it sends a command over an input context and goes on by the outcome.
pub data Course (A : Type 0) : Type 0 where
  ends : A → Course A
  sends : Command → List ℕ → (Sent → Course A) → Course A

-- By cases of an outcome: done, failed with a code, cut.
unfoldable pub on_sent : {A : Type 0} → Sent → A → (ℕ → A) → A → A
on_sent Done done failed cut = done
on_sent (Failed code) done failed cut = failed code
on_sent Cut done failed cut = cut

-- One course after the other.
unfoldable pub then : {A B : Type 0} → Course A → (A → Course B) → Course B
then (ends a) next = next a
then (sends c ctx k) next = sends c ctx (λ s. then (k s) next)

-- The words that a course logs and how it ends, where its first command is number n of the call.
unfoldable pub words : {A : Type 0} → List ℕ → ℕ → Course A → List ℕ
words outcomes n (ends a) = []
words outcomes n (sends c ctx k) = command_word c ∷ words outcomes (n + 1) (k (outcome_at outcomes n))

unfoldable pub result : {A : Type 0} → List ℕ → ℕ → Course A → A
result outcomes n (ends a) = a
result outcomes n (sends c ctx k) = result outcomes (n + 1) (k (outcome_at outcomes n))

-- How a course ended, how many words the log has, and the log: what is past them is as it was.
pub record Played (A : Type 0) : Type 0 where
  pub end : A
  pub count : ℕ
  pub log : List ℕ

unfoldable pub played : {A : Type 0} → List ℕ → ℕ → Course A → List ℕ → Played A
played outcomes n course log =
    record {
      end = result outcomes n course;
      count = n + length (words outcomes n course);
      log = sets log n (words outcomes n course);
    }

-- The input context of the command that comes i after the first, along these outcomes; none if the course has ended.
unfoldable pub context_at : {A : Type 0} → List ℕ → ℕ → ℕ → Course A → List ℕ
context_at outcomes n i (ends a) = []
context_at outcomes n zero (sends c ctx k) = ctx
context_at outcomes n (suc i) (sends c ctx k) = context_at outcomes (n + 1) i (k (outcome_at outcomes n))

-- It has ended, with a value of which P holds.
unfoldable pub EndsWith : {A : Type 0} → (A → Type 0) → Course A → Type 0
EndsWith P (ends a) = P a
EndsWith P (sends c ctx k) = ⊥

-- Wherever a command is cut, the course ends, with a value of which P holds at the command's context.
unfoldable pub CutsTo : {A : Type 0} → (List ℕ → A → Type 0) → Course A → Type 0
CutsTo P (ends a) = Unit {0}
CutsTo P (sends c ctx k) = EndsWith (P ctx) (k Cut) × ((s : Sent) → CutsTo P (k s))

-- Wherever a command is cut, the course ends with a value that has the command's context.
abbrev pub CutEnds : {A : Type 0} → (A → List ℕ) → Course A → Type 0
CutEnds context_of = CutsTo (λ ctx a. context_of a ≡ ctx)

-- Where no command is cut, it ends with a value of which P holds.
unfoldable pub Uncut : {A : Type 0} → (A → Type 0) → Course A → Type 0
Uncut P (ends a) = P a
Uncut P (sends c ctx k) = (s : Sent) → (s ≡ Cut → ⊥) → Uncut P (k s)
