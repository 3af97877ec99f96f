-- The release of an interface.
use Rattle.std.specs.Prelude.{ℕ, cond, List, length, replicate}
use Rattle.answer.specs.declared.Answer.TheVariants as answer
use Rattle.answer.specs.Check.{Check, Pass, unless}
use Rattle.command.specs.Course.{played}
use Rattle.record_endpoint.specs.Order.{PLACES}
use Rattle.record_endpoint.specs.declared.endpoint_map.Owner.TheVariants.{Interface}
use Rattle.record_endpoint.specs.EndpointMap.{owned_rings, queues_of, queue_dcis, claimed_endpoints, with_active}
use Rattle.record_settings.specs.Held.{is_held, alternate_of, setting_words, without_setting}
use Rattle.course_steps.specs.End.{End}
use Rattle.course_release.specs.Release.{Release, release_course}
use Rattle.device.specs.declared.record.Device.{Device}
use Rattle.device.specs.Device.{list_of, endpoint_map_in, held_of, with_endpoints, with_held}
use Rattle.device.specs.Left.{Left, refused, marked, ended}
use Rattle.device.specs.Check.{record_check}
use Rattle.device.specs.Calls.{on_check}

-- 25: the interface holds no setting.
unfoldable pub release_check : Device → ℕ → Check
release_check d interface = unless (is_held interface (held_of d)) answer.NotClaimed Pass

-- What the course of a release works on: the held setting.
unfoldable pub release_in : Device → ℕ → Release
release_in d interface =
    let alternate = alternate_of interface (held_of d) in
    record {
      slot = d.slot.0;
      spacing = d.spacing;
      speed = d.port_speed;
      interface = interface;
      alternate = alternate;
      words = setting_words (list_of d) interface alternate;
      old = queues_of (owned_rings (Interface interface) (endpoint_map_in d));
      dcis = queue_dcis (queues_of (endpoint_map_in d).rings);
    }

-- The record that the end of its course makes.
unfoldable pub release_record : Device → ℕ → End → Device
release_record d interface e =
    marked e.answer
    (cond e.moved
    (with_held (without_setting interface (held_of d)) (with_endpoints (claimed_endpoints interface (replicate PLACES 0) (endpoint_map_in d)) d))
    (with_endpoints (with_active (Interface interface) e.active (endpoint_map_in d)) d))

-- The course, and the record that its end makes; the checks have passed.
abbrev pub release_run : Device → List ℕ → List ℕ → List ℕ → List ℕ → ℕ → Left
release_run d ctx routes log outcomes interface =
    ended (release_record d interface) (played outcomes 0 (release_course (release_in d interface) ctx routes) log)

unfoldable pub release : Device → List ℕ → List ℕ → List ℕ → List ℕ → ℕ → Left
release d ctx routes log outcomes interface =
    on_check (record_check d (length ctx) (length routes) (length log) (release_check d interface))
    (release_run d ctx routes log outcomes interface)
    (λ a. refused d a ctx routes log)
