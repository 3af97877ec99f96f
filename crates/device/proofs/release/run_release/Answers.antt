use mathlib.Core.Path.{ap, ◌∙◌}
use Rattle.answer.specs.Check.{check_of}
use Rattle.record_settings.specs.Held.{without_setting}
use Rattle.course_steps.proofs.Laws.{room_as}
use Rattle.device.specs.Device.{list_of, endpoint_map_in, held_of}
use Rattle.device.specs.Release.{release}
use Rattle.device.proofs.Facts.{list_joinable}
use Rattle.device.specs.Left.{called_of}
use Rattle.device.proofs.Exits.{refused_left}
use Rattle.device.proofs.ReleaseLaws.{release_passes, release_passed, release_from, release_left}
use Rattle.device.proofs.release.run_release.Goals as goal

pub returns-in-Err : goal.returns-in-Err
unfolding release check_of
returns-in-Err c =
    rw c.refused.ensures (refused_left _ _ c.release_check.ensures.check _ (ap check_of c.in-Err.is) c.args.d.now _ c.args.ctx.now c.args.routes.now c.args.log.now)

pub settings-requires : goal.settings-requires
settings-requires c = (release_passed c.args.d.now _ _ _ c.args.interface _ c.release_check.ensures _ c.in-Ok.is).facts.counts.held

pub list-requires : goal.list-requires
list-requires c = (release_passed c.args.d.now _ _ _ c.args.interface _ c.release_check.ensures _ c.in-Ok.is).facts.counts.list

pub of_setting-setting-requires : goal.of_setting-setting-requires
of_setting-setting-requires c =
    rw c.list.ensures (list_joinable c.args.d.now (release_passed c.args.d.now _ _ _ c.args.interface _ c.release_check.ensures _ c.in-Ok.is).is_sound)

pub endpoint_map_in-c-requires : goal.endpoint_map_in-c-requires
endpoint_map_in-c-requires c = (release_passed c.args.d.now _ _ _ c.args.interface _ c.release_check.ensures _ c.in-Ok.is).facts.counts.endpoints

pub release_interface-e-requires : goal.release_interface-e-requires
release_interface-e-requires c =
    let p = release_passed c.args.d.now _ _ _ c.args.interface _ c.release_check.ensures _ c.in-Ok.is in
    record { room = room_as c.args.d.now.spacing _ c.queues_of.result c.queues_of-2.result _ _ p.spaced c.queues_of.ensures c.queues_of-2.ensures; in_bounds = p.room }

pub returns : goal.returns
unfolding list_of endpoint_map_in
returns c =
    let s = c in release_left s.args.d.now s.args.interface c.in-Ok.alternate
    c.endpoint_map_in-c.result c.claimed_endpoints-others.result c.owned_rings-own.result _ c.queues_of.result
    c.queues_of-2.result s.args.outcomes.now s.args.ctx.now s.args.routes.now s.args.log.now _ _ _
    c.release_interface-e.result (called_of c.at_end.new.d c.at_end.result) (release_passes s.args.d.now _ _ _ s.args.interface _ c.release_check.ensures _ c.in-Ok.is)
    c.endpoint_map_in-c.ensures (release_from s.args.d.now _ _ _ s.args.interface _ c.release_check.ensures _ c.in-Ok.is)
    c.owned_rings-own.ensures c.queues_of.ensures
    c.queues_of-2.ensures (rw c.list.ensures at (c.words.ensures ∙ c.of_setting-setting.ensures)) c.release_interface-e.ensures c.claimed_endpoints-others.ensures
    (c.at_end.ensures (without_setting s.args.interface (held_of s.args.d.now)) (rw c.settings.ensures at c.without_setting-held.ensures))
