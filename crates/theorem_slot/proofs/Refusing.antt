-- Calls on a record that is neither usable nor up: each is refused with 12 and changes nothing.
use mathlib.Core.Path.{◌≡◌, refl, ap}
use mathlib.Core.Bool.{Bool, true, false}
use mathlib.Core.List.{List}
use Rattle.laws.proofs.Tests.{not_both}
use Rattle.answer.specs.declared.Answer.TheVariants as answer
use Rattle.answer.specs.Answer.{number}
use Rattle.device.specs.declared.record.Device.{Device}
use Rattle.device.specs.Left.{refused}
use Rattle.device.specs.Check.{check_marked, record_check, disconnect_check}
use Rattle.device.specs.Calls.{on_check, hub_update}
use Rattle.device.specs.Ask.{ask_check, commit}
use Rattle.device.specs.Claim.{claim}
use Rattle.device.specs.Release.{release}
use Rattle.device.specs.SetConfiguration.{set_configuration}
use Rattle.device.specs.Disconnect.{disconnect}
use Prim.Native.Nat.{ℕ}
use Rattle.theorem_slot.specs.Call.{Buffers, Asked, brings_up, claims, commits, releases, configures, updates_hub, disconnects, left, context_cut}
use Rattle.theorem_slot.specs.Answers.{is_bring_up}
use Rattle.theorem_slot.specs.Plain.{effect_of}
use Rattle.theorem_slot.specs.Theorem.{State, record_after, called}
use Rattle.theorem_slot.proofs.Good.{Down}
use Rattle.theorem_slot.proofs.Step.{observed_refused, called_here}

pub down_refuses :
    (asked : Asked) (b : Buffers) (d : Device) (routes : List ℕ) → Down d → is_bring_up asked ≡ false →
    left asked b d routes ≡ refused d answer.Unusable b.ctx routes b.log
unfolding left is_bring_up claim commit ask_check release set_configuration hub_update disconnect record_check disconnect_check check_marked on_check
down_refuses (brings_up a) b d routes n e = not_both true refl e
down_refuses (claims i a) b d routes n e = rw n.0 refl
down_refuses (commits p) b d routes n e = rw n.0 refl
down_refuses (releases i) b d routes n e = rw n.0 refl
down_refuses (configures value) b d routes n e = rw n.0 refl
down_refuses (updates_hub ports multi ns) b d routes n e = rw n.0 refl
down_refuses disconnects b d routes n e = rw n.1 refl

-- A call that is no bring-up hands on the record that it returned.
pub called_here_lem :
    (s : State) (asked : Asked) (buffers : Buffers) (keeps : Bool) → is_bring_up asked ≡ false →
    called s (record { call = record { asked = asked; buffers = buffers }; table = s.routes; keeps = keeps })
    ≡ called_here s (record { asked = asked; buffers = buffers })
unfolding called called_here record_after is_bring_up
called_here_lem s (brings_up a) buffers keeps e = not_both true refl e
called_here_lem s (claims i a) buffers keeps e = refl
called_here_lem s (commits p) buffers keeps e = refl
called_here_lem s (releases i) buffers keeps e = refl
called_here_lem s (configures value) buffers keeps e = refl
called_here_lem s (updates_hub ports multi ns) buffers keeps e = refl
called_here_lem s disconnects buffers keeps e = refl

pub down_same :
    (s : State) (asked : Asked) (buffers : Buffers) → Down s.device → is_bring_up asked ≡ false →
    called_here s (record { asked = asked; buffers = buffers }) ≡ s
unfolding called_here refused number
down_same s asked buffers n e =
    rw (down_refuses asked buffers s.device s.routes n e)
    (ap (λ p. record { device = s.device; routes = s.routes; plain = p })
    (observed_refused (effect_of asked) buffers answer.Unusable
    (context_cut (record { asked = asked; buffers = buffers }) s.device s.routes) s.plain (refl, refl)))
