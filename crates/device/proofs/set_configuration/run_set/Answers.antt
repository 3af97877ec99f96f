use native.Mathlib.Omega.{arith}
use mathlib.Core.List.{[]}
use mathlib.Core.Path.{refl}
use Rattle.record_endpoint.specs.Endpoint.{padded}
use Rattle.record_settings.specs.Held.{interfaces_of, alternates_of}
use Rattle.course_steps.proofs.Laws.{room_as}
use Rattle.device.specs.Device.{list_of, endpoint_map_in}
use Rattle.device.specs.SetConfiguration.{set_configuration}
use Rattle.device.proofs.Laws.{record_passed}
use Rattle.device.proofs.Facts.{list_joinable}
use Rattle.device.specs.Left.{called_of}
use Rattle.device.proofs.Exits.{refused_left}
use Rattle.device.proofs.SetConfigurationLaws.{old_entered, set_left}
use Rattle.device.proofs.set_configuration.run_set.Goals as goal

pub returns-in-Err : goal.returns-in-Err
unfolding set_configuration
returns-in-Err c =
    rw c.refused.ensures (refused_left _ _ c.record_check.ensures _ c.in-Err.is
    c.args.d.now _ c.args.ctx.now c.args.routes.now c.args.log.now)

pub settings-requires : goal.settings-requires
settings-requires c = (record_passed _ _ _ _ _ c.record_check.ensures c.in_default.is).facts.counts.held

pub endpoint_map_in-c-requires : goal.endpoint_map_in-c-requires
endpoint_map_in-c-requires c = (record_passed _ _ _ _ _ c.record_check.ensures c.in_default.is).facts.counts.endpoints

pub list-requires : goal.list-requires
list-requires c = (record_passed _ _ _ _ _ c.record_check.ensures c.in_default.is).facts.counts.list

pub run_set_configuration-e-requires : goal.run_set_configuration-e-requires
run_set_configuration-e-requires c =
    let q = c.queues_of.ensures in
    let p = record_passed _ _ _ _ _ c.record_check.ensures c.in_default.is in
    record {
      room = room_as c.args.d.now.spacing _ c.queues_of.result c.queues_of.result _ _ p.spaced q q;
      joinable = rw c.list.ensures (list_joinable c.args.d.now p.is_sound);
      count_in_bounds = omega (arith, q.room, p.room);
    }

pub configure-requires : goal.configure-requires
configure-requires c =
    let p = record_passed _ _ _ _ _ c.record_check.ensures c.in_default.is in
    old_entered c.args.d.now c.endpoint_map_in-c.result c.queues_of.result p.usable p.is_sound c.endpoint_map_in-c.ensures c.queues_of.ensures

pub returns : goal.returns
unfolding padded interfaces_of alternates_of endpoint_map_in list_of
returns c =
    let s = c in set_left s.args.d.now s.args.value c.record_check.result c.settings.result c.endpoint_map_in-c.result
    c.no_endpoints.result c.queues_of.result s.args.outcomes.now s.args.ctx.now
    s.args.routes.now s.args.log.now _ _ _ c.run_set_configuration-e.result
    c.configure.new.d (called_of c.at_end.new.d c.at_end.result) c.record_check.ensures c.in_default.is
    c.settings.ensures c.endpoint_map_in-c.ensures c.queues_of.ensures (rw c.list.ensures at c.run_set_configuration-e.ensures)
    c.configure.ensures c.no_endpoints.ensures (c.at_end.ensures [] (record {
      interfaces =
          refl;
      alternates = refl;
      count = refl;
    }))
