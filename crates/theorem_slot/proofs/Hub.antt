-- A hub update keeps the invariant.
use Prim.Native.Nat.{ℕ, ◌≤◌}
use mathlib.Core.Path.{◌≡◌, refl}
use mathlib.Core.Bool.{Bool, true}
use mathlib.Core.List.{List, [], ◌∷◌}
use native.Mathlib.Omega.{arith}
use lib.ListN.{length}
use Rattle.laws.proofs.Cases.{or_left_false}
use Rattle.answer.specs.declared.Answer.{Answer}
use Rattle.answer.specs.Check.{Pass}
use Rattle.answer.specs.Answer.{is_lost}
use Rattle.command.specs.declared.Command.TheVariants as command
use Rattle.command.specs.Command.{command_word, outcome_at}
use Rattle.command.specs.Course.{words, result, played}
use Rattle.course_steps.specs.End.{answer_of}
use Rattle.theorem_controller.specs.Controller.{controlled, enabled_after}
use Rattle.device.specs.Device.{endpoint_map_in, held_of}
use Rattle.device.specs.Sound.{sound}
use Rattle.device.specs.Left.{Left, refused, marked}
use Rattle.device.specs.Calls.{on_check, hub_context, hub_course, hub_left, hub_update}
use Rattle.device.proofs.Made.{marked_made}
use Rattle.device.proofs.Laws.{passed}
use Rattle.theorem_slot.specs.Call.{Buffers, updates_hub, left, cut_at, context_cut}
use Rattle.theorem_slot.specs.Plain.{nothing, effect_of, held_after, groups_after, anew, observed, seen}
use Rattle.theorem_slot.specs.Theorem.{State}
use Rattle.theorem_slot.proofs.Good.{Good, Upheld, live_here}
use Rattle.theorem_slot.proofs.Step.{checked, good_checked, mild_hub, called_here}
use Rattle.theorem_slot.proofs.Moved.{marked_quarantined}
use Rattle.theorem_slot.proofs.Made.{agree_made, made_same}
use Rattle.theorem_slot.proofs.Words.{taken_words}

module _ (slot : ℕ) (before : List ℕ) (s : State) (buffers : Buffers) (ports : ℕ) (multi : Bool) (ns : ℕ) (g : Good slot before s) where
  ctx : List ℕ
  ctx = hub_context s.device ports multi ns buffers.ctx

  -- what an answer makes of record and plain slot
  answered : Answer → State
  answered a =
      record {
        device = marked a s.device;
        routes = s.routes;
        plain = seen nothing buffers a (command_word command.Evaluate ∷ []) s.plain.enabled s.plain;
      }

  upheld : (a : Answer) → Upheld s (answered a)
  unfolding answered seen
  upheld a = record { phase = refl; control = refl; on = refl }

  good_answered : s.device.usable ≡ true → sound s.device ≡ true → (a : Answer) → Good slot before (answered a)
  unfolding answered seen held_after groups_after
  good_answered u t a =
      let l = live_here slot before s g u in
      made_same slot before s (answered a) g l (held_of s.device) (endpoint_map_in s.device) (is_lost a) (marked_made s.device u t a) (upheld a)
      refl l.held l.fits
      (agree_made s.device (marked a s.device) _ _ _ s.plain.groups (marked_made s.device u t a) refl (marked_quarantined a s.device) l.groups)
      refl refl
      (λ b. g.enabled (or_left_false s.plain.broken _ b))

  run : List ℕ → Left
  run o = hub_left s.device ctx s.routes (played o 0 (hub_course ctx) buffers.log)

  refuse : Answer → Left
  refuse a = refused s.device a buffers.ctx s.routes buffers.log

  evaluated :
      length (words buffers.outcomes 0 (hub_course ctx)) ≤ length buffers.log →
      checked s nothing buffers Pass run refuse ≡ answered (answer_of (outcome_at buffers.outcomes 0))
  unfolding checked on_check hub_left answered seen observed anew played result words hub_course controlled enabled_after command_word run
  evaluated h = rw (taken_words buffers.outcomes (hub_course ctx) buffers.log h) refl

  one_word : length (words buffers.outcomes 0 (hub_course ctx)) ≡ 1
  unfolding words hub_course
  one_word = refl

  pub hub_good : Good slot before (called_here s (record { asked = updates_hub ports multi ns; buffers = buffers }))
  unfolding called_here context_cut cut_at left effect_of hub_update checked run refuse ctx
  hub_good =
      good_checked (Good slot before) s nothing buffers run buffers.ctx buffers.log _ (mild_hub s.device _ _ _ ns) g
      (λ e.
      let p = (passed s.device _ _ _ _ e).0 in
      rw (evaluated (omega (arith, one_word, p.room)))
      (good_answered p.usable p.is_sound (answer_of (outcome_at buffers.outcomes 0))))
