-- The claim of an interface's alternate setting, with free rings drawn for its endpoint words.
use Rattle.std.specs.Prelude.{ℕ, cond, ◌&&◌, List, [], length}
use Rattle.answer.specs.Check.{Check, Pass}
use Rattle.answer.specs.Answer.{is_lost}
use Rattle.command.specs.Course.{played}
use Rattle.record_endpoint.specs.declared.endpoint_map.Owner.TheVariants.{Interface}
use Rattle.record_endpoint.specs.EndpointMap.{owned_rings, queues_of, queue_dcis, queue_rings, pending_rings, claimed_endpoints, with_active}
use Rattle.record_settings.specs.Held.{is_held, alternate_of, held_alternate, setting_words, with_setting}
use Rattle.record_ring.specs.Store.{lowest}
use Rattle.record_checks.specs.Draw.{draw_check}
use Rattle.course_steps.specs.End.{End}
use Rattle.course_claim.specs.declared.ClaimArgs.{ClaimArgs}
use Rattle.course_claim.specs.Claim.{Claim, claim_course}
use Rattle.device.specs.declared.record.Device.{Device}
use Rattle.device.specs.Device.{list_of, endpoint_map_in, held_of, free_of, with_endpoints, with_held, quarantines}
use Rattle.device.specs.Left.{Left, refused, marked, ended}
use Rattle.device.specs.Check.{record_check}
use Rattle.device.specs.Calls.{on_check}

-- 8, 9, 21, and then what follows.
unfoldable pub claim_check : Device → ℕ → ℕ → Check → Check
claim_check d interface alternate next =
    draw_check (list_of d) interface alternate (endpoint_map_in d) (length (free_of d)) next

-- The lowest free rings, one for each endpoint word of an alternate in list order.
unfoldable pub drawn : Device → ℕ → ℕ → List ℕ
drawn d interface alternate = lowest (length (setting_words (list_of d) interface alternate)) (free_of d)

-- The rings for the words of an alternate, by place.
unfoldable pub pending_of : Device → ℕ → ℕ → List ℕ → List ℕ
pending_of d interface alternate rings = pending_rings (setting_words (list_of d) interface alternate) rings

-- What the course of a claim works on.
abbrev pub args_in : Device → ℕ → ℕ → ClaimArgs
args_in d interface alternate =
    record {
      slot = d.slot;
      spacing = d.spacing;
      speed = d.port_speed;
      interface = interface;
      alternate = alternate;
      held_alternate = held_alternate interface (held_of d);
    }

unfoldable pub claim_in : Device → ℕ → ℕ → List ℕ → Claim
claim_in d interface alternate rings =
    let held = is_held interface (held_of d) in
    record {
      args = args_in d interface alternate;
      old_words = cond held (setting_words (list_of d) interface (alternate_of interface (held_of d))) [];
      new_words = setting_words (list_of d) interface alternate;
      old = queues_of (owned_rings (Interface interface) (endpoint_map_in d));
      pending = queues_of (pending_of d interface alternate rings);
      dcis = queue_dcis (queues_of (endpoint_map_in d).rings);
    }

-- The record that the end of its course makes: where it is lost with a Configure sent, the pending rings are quarantined, by rising address.
unfoldable pub claim_record : Device → ℕ → ℕ → List ℕ → End → Device
claim_record d interface alternate rings e =
    let pending = pending_of d interface alternate rings in
    marked e.answer
    (cond e.moved
    (with_held (with_setting interface alternate (held_of d)) (with_endpoints (claimed_endpoints interface pending (endpoint_map_in d)) d))
    (quarantines (e.doubted && is_lost e.answer) (queue_rings (queues_of pending))
    (with_endpoints (with_active (Interface interface) e.active (endpoint_map_in d)) d)))

-- The course with some rings, and the record that its end makes; the checks have passed.
abbrev pub claim_run : Device → List ℕ → List ℕ → List ℕ → List ℕ → ℕ → ℕ → List ℕ → Left
claim_run d ctx routes log outcomes interface alternate rings =
    ended (claim_record d interface alternate rings) (played outcomes 0 (claim_course (claim_in d interface alternate rings) ctx routes) log)

unfoldable pub claim : Device → List ℕ → List ℕ → List ℕ → List ℕ → ℕ → ℕ → Left
claim d ctx routes log outcomes interface alternate =
    on_check (record_check d (length ctx) (length routes) (length log) (claim_check d interface alternate Pass))
    (claim_run d ctx routes log outcomes interface alternate (drawn d interface alternate))
    (λ a. refused d a ctx routes log)
