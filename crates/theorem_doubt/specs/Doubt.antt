-- The rings that a slot's controller may hold after what the slot's calls logged, where an unanswered command may or may not have
-- acted; statements: over every list of calls, none of these rings is free.
use Rattle.std.specs.Prelude.{ℕ, ◌+◌, ◌*◌, ◌^◌, ◌<◌, ◌≤◌, ◌≡◌, Bool, true, false, cond, ◌&&◌, List, [], ◌∷◌, eqb, leb, ltb, length, take}
use Rattle.laws.specs.Distinct.{elem}
use Rattle.answer.specs.declared.Answer.TheVariants as answer
use Rattle.command.specs.declared.Sent.{Sent}
use Rattle.command.specs.declared.Sent.TheVariants.{Done, Failed, Cut}
use Rattle.context_field.specs.Field.{read_field}
use Rattle.context_block.specs.Fields.{DROP-FLAG, ADD-FLAG, TR-DEQUEUE-POINTER-LO, TR-DEQUEUE-POINTER-HI}
use Rattle.context.specs.Place.{spacing_of, read_at}
use Rattle.theorem_controller.specs.Controller.{Step, controlled, CONFIGURE, DISABLE}
use Rattle.device.specs.Device.{no_device, free_of}
use Rattle.theorem_slot.specs.Call.{Buffers, Asked, brings_up, claims, commits, releases, configures, updates_hub, disconnects, left, context_cut}
use Rattle.theorem_slot.specs.Answers.{is_bring_up}
use Rattle.theorem_slot.specs.Plain.{not_up, plain_route}
use Rattle.theorem_slot.specs.Theorem.{State, Turn, called, Between, Turns}
use Rattle.theorem_device_state.specs.DeviceState.{ADDRESS}

-- The ring of an endpoint in a context: its TR dequeue pointer.
unfoldable pub ring_at : List ℕ → ℕ → ℕ
ring_at ctx d =
    let spacing = spacing_of (length ctx) in
    read_at spacing ctx (d + 1) TR-DEQUEUE-POINTER-LO * 2 ^ 4 + read_at spacing ctx (d + 1) TR-DEQUEUE-POINTER-HI * 2 ^ 32

-- Whether a command acts: a done one does, a failed one does not; of an unanswered one `took` says it.
unfoldable pub acts : Bool → Sent → Bool
acts took Done = true
acts took (Failed code) = false
acts took Cut = took

-- Address puts control's ring in.
unfoldable pub addressed_rings : List ℕ → (ℕ → ℕ) → ℕ → ℕ
addressed_rings ctx rings d = cond (eqb d 1) (ring_at ctx 1) (rings d)

-- Configure takes out the endpoints flagged for drop and then puts in those flagged for addition: flags 2 to 31 of its context.
unfoldable pub configured_rings : List ℕ → (ℕ → ℕ) → ℕ → ℕ
configured_rings ctx rings d =
    cond (leb 2 d && ltb d 32)
    (cond (eqb (read_field (take 32 ctx) (ADD-FLAG d)) 1) (ring_at ctx d)
    (cond (eqb (read_field (take 32 ctx) (DROP-FLAG d)) 1) 0 (rings d)))
    (rings d)

-- By Dci, the rings that a command leaves in the controller, 0 where there is none. Disable takes out all.
unfoldable pub rings_after : Bool → Step (ℕ → ℕ)
rings_after took operation sent ctx rings =
    cond (acts took sent)
    (cond (eqb operation ADDRESS) (addressed_rings ctx rings)
    (cond (eqb operation CONFIGURE) (configured_rings ctx rings)
    (cond (eqb operation DISABLE) (λ d. 0) rings)))
    rings

-- The slot, and the rings that its controller holds.
pub record Watched : Type 0 where
  pub state : State
  pub rings : ℕ → ℕ

-- One call. At most one of its commands is unanswered, the last; `took` says whether that one acted.
unfoldable pub watched : Bool → Watched → Turn → Watched
watched took w t =
    let c = t.call in
    let l = left c.asked c.buffers w.state.device t.table in
    record {
      state = called w.state t;
      rings =
          controlled (rings_after took) (context_cut c w.state.device t.table) c.buffers.outcomes 0 (take l.count l.log)
          w.rings;
    }

-- A list of calls, each with a choice of its own.
unfoldable pub watched_after : (ℕ → Bool) → Watched → List Turn → Watched
watched_after took w [] = w
watched_after took w (t ∷ ts) = watched_after (λ n. took (n + 1)) (watched (took 0) w t) ts

-- A slot before its first call, whatever its words hold: it was given no ring, and its controller holds none.
unfoldable pub unborn : List ℕ → Watched
unborn routes =
    record {
      state =
          record {
            device = no_device;
            routes = routes;
            plain =
                record {
                  phase = not_up;
                  control = 0;
                  list = [];
                  held = [];
                  enabled = λ d. false;
                  broken = false;
                  groups = record { given = []; free = λ x. false; live = λ x. false; quarantined = λ x. false };
                };
          };
      rings = λ d. 0;
    }

-- Given rings have 64 bits, as the code's types have it.
unfoldable pub Given64 : Asked → Type 0
Given64 (brings_up b) = (x : ℕ) → elem x b.rings ≡ true → x < 2 ^ 64
Given64 (claims interface alternate) = Unit {0}
Given64 (commits p) = Unit {0}
Given64 (releases interface) = Unit {0}
Given64 (configures value) = Unit {0}
Given64 (updates_hub ports multi ns) = Unit {0}
Given64 disconnects = Unit {0}

unfoldable pub AllGiven64 : List Turn → Type 0
AllGiven64 [] = Unit {0}
AllGiven64 (t ∷ ts) = Given64 t.call.asked × AllGiven64 ts

-- For every slot before its first bring-up, whatever its words hold, every list of calls, whatever they answer, a first bring-up that is
-- refused or fails too, and every choice of the unanswered commands that acted: P of the slot and what is watched of it after the calls.
abbrev pub AfterAny : (ℕ → Watched → Type 0) → Type 0
AfterAny P =
    (slot : ℕ) (routes : List ℕ) (still took : ℕ → Bool) (turns : List Turn) → AllGiven64 turns →
    Turns slot still (unborn routes).state turns →
    P slot (watched_after took (unborn routes) turns)

-- No ring that the controller may hold is free: not in the groups that the plain slot works out from the calls,
abbrev pub NeverFree : Type 0
NeverFree = AfterAny (λ slot w. (d : ℕ) → (w.rings d ≡ 0 → ⊥) → w.state.plain.groups.free (w.rings d) ≡ false)

-- and not in the record's, from which claims draw.
abbrev pub NeverDrawn : Type 0
NeverDrawn =
    AfterAny
    (λ slot w.
    w.state.device.up ≡ true → (d : ℕ) → (w.rings d ≡ 0 → ⊥) → elem (w.rings d) (free_of w.state.device) ≡ false)

-- While the record is usable, so that no command was left unanswered, nothing is in doubt: control has the record's ring, and each endpoint
-- the one that its route names, or none.
pub record RoutesHeld (w : Watched) : Type 0 where
  pub control : w.rings 1 ≡ w.state.device.control
  pub endpoints : (d : ℕ) → 2 ≤ d → d < 32 → w.rings d ≡ plain_route w.state.plain d

abbrev pub HeldRouted : Type 0
HeldRouted = AfterAny (λ slot w. w.state.device.usable ≡ true → RoutesHeld w)

-- No call on the record is answered with 18, whatever calls of other slots have made of the table.
abbrev pub NeverMismatched : Type 0
NeverMismatched =
    AfterAny
    (λ slot w.
    (asked : Asked) (l : Buffers) (still : ℕ → Bool) (table : List ℕ) → is_bring_up asked ≡ false →
    Between slot still w.state.routes table →
    (left asked l w.state.device table).answer ≡ answer.InvalidEndpoint → ⊥)
