use mathlib.Core.Path.{ap, ◌∙◌}
use native.Mathlib.Omega.{arith}
use lib.ListN.{length-take}
use Rattle.record_ring.proofs.Promises.{given_fits}
use Rattle.record_settings.specs.Held.{is_found}
use Rattle.record_settings.proofs.Laws.{with_fits}
use Rattle.course_steps.proofs.Laws.{room_as}
use Rattle.course_claim.specs.declared.ClaimArgs.{ClaimArgs}
use Rattle.descriptor_list.proofs.Laws.{found_inside, valid_count}
use Rattle.device.specs.Device.{list_of, held_of, given_of}
use Rattle.answer.specs.Check.{check_of}
use Rattle.device.specs.Left.{called_of, refused}
use Rattle.device.specs.Calls.{on_check}
use Rattle.device.specs.Ask.{ask_check}
use Rattle.device.specs.Claim.{drawn, pending_of}
use Rattle.device.proofs.Facts.{list_joinable}
use Rattle.device.proofs.Kept.{claim_passed}
use Rattle.device.proofs.AskLaws.{asked}
use Rattle.device.proofs.ClaimLaws.{old_words, new_words, course_doubted, queues_entered, free_placed_in, pending_drawn, drawn_enough, claim_left}
use Rattle.device.proofs.claim.run_claim.Goals as goal

pub claim_args-args-requires : goal.claim_args-args-requires
claim_args-args-requires c = (asked c.args.d.now _ _ _ c.args.interface c.args.alternate (c.requires _ c.in-Ok.is).0).0.facts.counts.held

pub list-list-requires : goal.list-list-requires
list-list-requires c = (asked c.args.d.now _ _ _ c.args.interface c.args.alternate (c.requires _ c.in-Ok.is).0).0.facts.counts.list

pub old_words-old-requires : goal.old_words-old-requires
old_words-old-requires c =
    rw c.list-list.ensures (list_joinable c.args.d.now (asked c.args.d.now _ _ _ c.args.interface c.args.alternate (c.requires _ c.in-Ok.is).0).0.is_sound)

pub found_in-new-requires : goal.found_in-new-requires
unfolding list_of
found_in-new-requires c =
    let p = (asked c.args.d.now _ _ _ c.args.interface c.args.alternate (c.requires _ c.in-Ok.is).0).0 in
    rw c.list-list.ensures (
      (list_joinable c.args.d.now p.is_sound).short,
      (found_inside _ _ _ _ (c.requires _ c.in-Ok.is).1, valid_count _ p.facts.list _ _ _ (c.requires _ c.in-Ok.is).1),
    )

pub given-requires : goal.given-requires
given-requires c = (asked c.args.d.now _ _ _ c.args.interface c.args.alternate (c.requires _ c.in-Ok.is).0).0.facts.counts.given

pub invariant_of-given : goal.invariant_of-given
unfolding given_of
invariant_of-given c =
    let f = (asked c.args.d.now _ _ _ c.args.interface c.args.alternate (c.requires _ c.in-Ok.is).0).0.facts in
    rw c.given.ensures (record { few = simp length-take (omega (arith, f.counts.given)); fit = given_fits (given_of c.args.d.now) f.store.fit })

pub drawn_rings-pending-requires : goal.drawn_rings-pending-requires
unfolding list_of given_of
drawn_rings-pending-requires c =
    let d = c.args.d.now in
    let i = c.args.interface in
    let alt = c.args.alternate in
    let p = asked c.args.d.now _ _ _ c.args.interface c.args.alternate (c.requires _ c.in-Ok.is).0 in
    let new = new_words d i alt c.in-Ok.found (c.requires _ c.in-Ok.is).1 _ (rw c.list-list.ensures at (c.words-new_words.ensures ∙ c.found_in-new.ensures)) in
    let free = free_placed_in d _ p.0.usable p.0.is_sound c.endpoint_map_in-c.ensures in
    rw c.given.ensures (drawn_enough d i alt _ _ free new (claim_passed d i alt p.0.is_sound p.1).enough)

pub endpoint_map_in-c-requires : goal.endpoint_map_in-c-requires
endpoint_map_in-c-requires c = (asked c.args.d.now _ _ _ c.args.interface c.args.alternate (c.requires _ c.in-Ok.is).0).0.facts.counts.endpoints

pub claim_interface-e-requires : goal.claim_interface-e-requires
claim_interface-e-requires c =
    let p = (asked c.args.d.now _ _ _ c.args.interface c.args.alternate (c.requires _ c.in-Ok.is).0).0 in
    record {
      room = rw (ap (λ (x : ClaimArgs). x.spacing) c.claim_args-args.ensures)
          (room_as _ _ _ _ _ _ p.spaced c.queues_of.ensures c.queues_of-3.ensures);
      in_bounds = p.room;
    }

pub claim_end-requires : goal.claim_end-requires
unfolding list_of given_of ask_check
claim_end-requires c =
    let d = c.args.d.now in
    let i = c.args.interface in
    let alt = c.args.alternate in
    let p = (asked c.args.d.now _ _ _ c.args.interface c.args.alternate (c.requires _ c.in-Ok.is).0).0 in
    let f = p.facts in
    let new = new_words d i alt c.in-Ok.found (c.requires _ c.in-Ok.is).1 _ (rw c.list-list.ensures at (c.words-new_words.ensures ∙ c.found_in-new.ensures)) in
    let by = pending_drawn d i alt _ _ _ (free_placed_in d _ p.usable p.is_sound c.endpoint_map_in-c.ensures) new (rw c.given.ensures at c.drawn_rings-pending.ensures) in
    record {
      held_count_bound = (f.counts.held, with_fits (list_of d) (held_of d) i alt f.list f.settings (ap is_found (c.requires _ c.in-Ok.is).1));
      c_value = (
        c.endpoint_map_in-c.ensures,
        queues_entered d i alt _ _ _ (c.requires _ c.in-Ok.is).0 by c.queues_of-2.ensures,
        c.queues_of-2.ensures,
      );
      doubted = course_doubted _ c.args.outcomes.now c.args.ctx.now c.args.routes.now c.args.log.now _ _ _ c.claim_interface-e.result c.claim_interface-e.ensures;
    }

pub returns-in-Err : goal.returns-in-Err
unfolding check_of on_check refused
returns-in-Err c = rw (c.in-Err.is, c.refused.ensures)

pub returns : goal.returns
unfolding list_of pending_of given_of check_of on_check
returns c =
    let d = c.args.d.now in
    let i = c.args.interface in
    let alt = c.args.alternate in
    let p = (asked c.args.d.now _ _ _ c.args.interface c.args.alternate (c.requires _ c.in-Ok.is).0).0 in
    let new = new_words d i alt c.in-Ok.found (c.requires _ c.in-Ok.is).1 _ (rw c.list-list.ensures at (c.words-new_words.ensures ∙ c.found_in-new.ensures)) in
    let by = pending_drawn d i alt _ _ _ (free_placed_in d _ p.usable p.is_sound c.endpoint_map_in-c.ensures) new (rw c.given.ensures at c.drawn_rings-pending.ensures) in
    rw c.in-Ok.is (claim_left d i alt (drawn d i alt) _ c.endpoint_map_in-c.result c.drawn_rings-pending.result _ _ c.args.outcomes.now
    c.args.ctx.now c.args.routes.now c.args.log.now _ _ _ c.claim_interface-e.result (called_of c.claim_end.new.d c.claim_end.result)
    c.endpoint_map_in-c.ensures by (old_words d i alt _ c.claim_args-args.ensures _ (rw c.list-list.ensures at (c.words.ensures ∙ c.old_words-old.ensures)))
    new c.claim_args-args.ensures (rw (← c.owned_rings-own.ensures) c.queues_of.ensures)
    c.queues_of-2.ensures c.queues_of-3.ensures c.claim_interface-e.ensures (c.claim_end.ensures _ _ _ _ by))
