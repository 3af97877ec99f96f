use mathlib.Core.Path.{refl, ◌∙◌}
use mathlib.Core.Bool.{false}
use borrow.Author.Rules.{rules}
use lib.ListN.{length-set, get_or-replicate}
use Rattle.record_settings.proofs.Steps.{mark_next, mark_skip, marked_all}
use Rattle.record_settings.proofs.matching.places_of.Goals as goal
use Rattle.record_settings.proofs.matching.places_of.Goals.{in-Some, in_default}

pub loop-w-init : goal.loop-w-init
loop-w-init c = (refl, λ p h. rw (get_or-replicate 30 p false false h))

pub loop-w-preserved : goal.loop-w-preserved
loop-w-preserved c = let l = c.loop-w in
    elim c.match-place_of.branch [
      | in-Some w ↦ rw w.places-is (simp length-set l.invariant.0, mark_next l.places c.args.words.now l.w-index l.invariant.1 _ c.loop-w-test.true l.invariant.0 (w.in-Some.ensures.value ∙ rw c.endpoint_descriptor-e.ensures))
      | in_default w ↦ rw w.places-is (l.invariant.0, mark_skip l.places c.args.words.now l.w-index l.invariant.1 30 c.loop-w-test.true (search rules) (w.in_default.ensures.value ∙ rw c.endpoint_descriptor-e.ensures))
    ]

pub returns : goal.returns
returns c = let l = c.loop-w in
    marked_all l.places c.args.words.now l.w-index l.invariant.1 c.loop-w-test.false l.invariant.0
