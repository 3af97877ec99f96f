-- What a call leaves by its check, and what the hub update leaves.
use Prim.Native.Nat.{ℕ}
use mathlib.Core.Path.{◌≡◌, refl, sym, ◌∙◌}
use mathlib.Core.Bool.{Bool, true, false, cond}
use mathlib.Core.List.{List}
use lib.ListN.{set}
use Rattle.answer.specs.declared.Answer.{Answer}
use Rattle.answer.specs.Answer.{is_lost}
use Rattle.answer.specs.Check.{Check, Pass, Refuse}
use Rattle.command.specs.declared.Command.TheVariants as command
use Rattle.command.specs.declared.Sent.{Sent}
use Rattle.command.specs.Command.{command_word, outcome_at}
use Rattle.command.specs.Course.{played}
use Rattle.command.proofs.Laws.{played_sends, played_ends}
use Rattle.hub.specs.ThinkTime.{think_time}
use Rattle.context.specs.Place.{written}
use Rattle.context.specs.Steps.{hub_writes}
use Rattle.record_checks.specs.Think.{think_value}
use Rattle.course_steps.specs.End.{answer_of}
use Rattle.device.specs.declared.record.Device.{Device}
use Rattle.device.specs.Device.{rebuilt, with_usable, unusable}
use Rattle.device.specs.Left.{Left, leaves, refused, marked}
use Rattle.device.specs.Calls.{on_check, hub_context, hub_course, hub_left}

module _ (x k : Check) (e : x ≡ k) where
  -- refused: nothing but the answer
  pub refused_left : (a : Answer) → x ≡ Refuse a → (d : Device) (next : Left) (ctx routes log : List ℕ) →
      leaves (record { device = d; answer = a; count = 0 }) ctx routes log
      ≡ on_check k next (λ b. refused d b ctx routes log)
  unfolding on_check refused
  refused_left a p d next ctx routes log = sym (rw (← e, p))

  -- passed: what follows
  pub passed_left : x ≡ Pass → (l next : Left) (refuse : Answer → Left) → l ≡ next → l ≡ on_check k next refuse
  unfolding on_check
  passed_left p l next refuse m = m ∙ sym (rw (← e, p))

-- one Evaluate with the hub's context
pub hub_left_lem :
    (d : Device) (o ctx routes log : List ℕ) (ports : ℕ) (multi : Bool) (ns think : ℕ) (ctx' log' : List ℕ) (s : Sent) (a : Answer) (made : Device) →
    think ≡ think_value (think_time ns) →
    ctx' ≡ written d.spacing (hub_writes d.port_speed ports multi think) ctx →
    (s ≡ outcome_at o 0) × (log' ≡ set log 0 (command_word command.Evaluate)) →
    a ≡ answer_of s → made ≡ marked a d →
    leaves (record { device = made; answer = a; count = 1 }) ctx' routes log'
    ≡ hub_left d (hub_context d ports multi ns ctx) routes (played o 0 (hub_course (hub_context d ports multi ns ctx)) log)
unfolding hub_left hub_course hub_context
hub_left_lem d o ctx routes log ports multi ns think ctx' log' s a made t w sent ea m =
    rw (m, ea, played_sends, played_ends, sent.1, sent.0, w, t)

-- the mark that a call leaves
pub marked_used : (a : Answer) (d : Device) → with_usable (cond (is_lost a) false d.usable) d ≡ marked a d
unfolding with_usable rebuilt marked unusable
marked_used a d = go (is_lost a)
  where
    go : (b : Bool) → with_usable (cond b false d.usable) d ≡ cond b (unusable d) d
    go true = refl
    go false = refl
