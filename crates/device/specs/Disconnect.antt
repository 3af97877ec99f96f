-- The unplugging of a device.
use Rattle.std.specs.Prelude.{ℕ, cond, List, [], ◌∷◌, length}
use Rattle.answer.specs.Answer.{is_broken}
use Rattle.command.specs.Course.{played}
use Rattle.record_endpoint.specs.declared.endpoint_map.Owner.TheVariants.{Any}
use Rattle.record_endpoint.specs.EndpointMap.{queues_of, queue_dcis, queue_rings, no_endpoints, with_active}
use Rattle.course_steps.specs.End.{End}
use Rattle.course_disconnect.specs.Disconnect.{disconnect_course}
use Rattle.device.specs.declared.record.Device.{Device}
use Rattle.device.specs.Device.{endpoint_map_in, keep, put, rebuilt, control_revoked, gone, endpoint_arrays, setting_arrays, quarantines}
use Rattle.device.specs.Left.{Left, refused, marked, ended}
use Rattle.device.specs.Check.{disconnect_check}
use Rattle.device.specs.Calls.{on_check}

-- The record with control and every endpoint revoked.
unfoldable pub all_revoked : Device → Device
unfolding rebuilt endpoint_arrays
all_revoked d = rebuilt keep control_revoked (put (endpoint_arrays (with_active Any 0 (endpoint_map_in d)))) keep keep d

-- The record of a device that is gone: no endpoint, no held setting; the rest is kept.
unfoldable pub unplugged : Device → Device
unfolding rebuilt endpoint_arrays setting_arrays
unplugged d = rebuilt keep gone (put (endpoint_arrays no_endpoints)) (put (setting_arrays [])) keep d

-- The rings that a failed Disable puts in quarantine: control's, and the endpoints' by rising address.
unfoldable pub rings_in_doubt : Device → List ℕ
rings_in_doubt d = d.control ∷ queue_rings (queues_of (endpoint_map_in d).rings)

-- The record that the end of its course makes.
unfoldable pub disconnect_record : Device → End → Device
disconnect_record d e =
    cond e.moved (unplugged d) (marked e.answer (quarantines (is_broken e.answer) (rings_in_doubt d) (all_revoked d)))

-- The course, and the record that its end makes; the checks have passed.
abbrev pub disconnect_run : Device → List ℕ → List ℕ → List ℕ → List ℕ → Left
disconnect_run d ctx routes log outcomes =
    ended (disconnect_record d)
    (played outcomes 0 (disconnect_course d.slot.0 (queue_dcis (queues_of (endpoint_map_in d).rings)) ctx routes) log)

unfoldable pub disconnect : Device → List ℕ → List ℕ → List ℕ → List ℕ → Left
disconnect d ctx routes log outcomes =
    on_check (disconnect_check d (length ctx) (length routes) (length log))
    (disconnect_run d ctx routes log outcomes)
    (λ a. refused d a ctx routes log)
