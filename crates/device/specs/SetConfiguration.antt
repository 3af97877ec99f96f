-- The setting of a configuration, which ends all held settings.
use Rattle.std.specs.Prelude.{ℕ, cond, List, [], length}
use Rattle.command.specs.Course.{played}
use Rattle.record_endpoint.specs.declared.endpoint_map.Owner.TheVariants.{Any}
use Rattle.record_endpoint.specs.EndpointMap.{queues_of, queue_rings, no_endpoints, with_active}
use Rattle.record_settings.specs.Held.{held_words}
use Rattle.course_steps.specs.End.{End}
use Rattle.course_set_configuration.specs.SetConfiguration.{Settings, set_course}
use Rattle.answer.specs.declared.Answer.{Answer}
use Rattle.answer.specs.Check.{Pass}
use Rattle.answer.specs.Answer.{is_accepted, is_lost}
use Rattle.device.specs.declared.record.Device.{Device}
use Rattle.device.specs.Device.{list_of, endpoint_map_in, held_of, with_endpoints, with_held, with_configuration, quarantines}
use Rattle.device.specs.Left.{Left, refused, marked, ended}
use Rattle.device.specs.Check.{record_check}
use Rattle.device.specs.Calls.{on_check}

-- What the course of a set configuration works on.
unfoldable pub settings_in : Device → ℕ → Settings
settings_in d value =
    record {
      slot = d.slot.0;
      spacing = d.spacing;
      speed = d.port_speed;
      value = value;
      words = held_words (list_of d) (held_of d);
      old = queues_of (endpoint_map_in d).rings;
    }

-- The record without held settings.
unfoldable pub bare : Device → Device
bare d = with_held [] (with_endpoints no_endpoints d)

-- The record whose settings were ended, by the answer: with the value where the last Evaluate is done, and where it is lost with their
-- rings in quarantine.
unfoldable pub ended_by : Answer → ℕ → List ℕ → Device → Device
ended_by a value rings d = cond (is_accepted a) (with_configuration value d) (quarantines (is_lost a) rings d)

-- The record that the end of its course makes: the rings are those of its endpoints, by rising address.
unfoldable pub set_record : Device → ℕ → End → Device
set_record d value e =
    marked e.answer
    (cond e.moved
    (ended_by e.answer value (queue_rings (queues_of (endpoint_map_in d).rings)) (bare d))
    (with_endpoints (with_active Any e.active (endpoint_map_in d)) d))

-- The course, and the record that its end makes; the checks have passed.
abbrev pub set_run : Device → List ℕ → List ℕ → List ℕ → List ℕ → ℕ → Left
set_run d ctx routes log outcomes value =
    ended (set_record d value) (played outcomes 0 (set_course (settings_in d value) ctx routes) log)

unfoldable pub set_configuration : Device → List ℕ → List ℕ → List ℕ → List ℕ → ℕ → Left
set_configuration d ctx routes log outcomes value =
    on_check (record_check d (length ctx) (length routes) (length log) Pass)
    (set_run d ctx routes log outcomes value)
    (λ a. refused d a ctx routes log)
