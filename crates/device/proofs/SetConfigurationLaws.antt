-- What a set configuration leaves whose checks have passed.
use Prim.Native.Nat.{ℕ}
use mathlib.Core.Path.{◌≡◌, sym}
use mathlib.Core.Bool.{true, cond}
use mathlib.Core.List.{List, []}
use lib.ListN.{length, take}
use Rattle.answer.specs.Check.{Check, Pass}
use Rattle.command.specs.Course.{played}
use Rattle.record_ring.specs.Rings.{entered}
use Rattle.record_endpoint.specs.declared.endpoint_map.EndpointMap.{EndpointMap}
use Rattle.record_endpoint.specs.declared.endpoint_map.Owner.TheVariants.{Any}
use Rattle.record_endpoint.specs.declared.queues.Queues.{Queues}
use Rattle.record_endpoint.specs.EndpointMap.{no_endpoints, with_active, QueuesAs}
use Rattle.record_settings.specs.declared.held.Settings.{Settings}
use Rattle.record_settings.specs.Held.{held_by}
use Rattle.course_steps.specs.declared.CourseEnd.{CourseEnd}
use Rattle.course_steps.specs.Arrays as arrays
use Rattle.course_steps.proofs.Laws.{queues_as}
use Rattle.course_set_configuration.specs.declared.run.SettingsArgs.{SettingsArgs}
use Rattle.course_set_configuration.specs.SetConfiguration.{settings_of, set_course}
use Rattle.device.specs.declared.record.Device.{Device}
use Rattle.device.specs.declared.record.Called.{Called}
use Rattle.device.specs.Device.{list_of, endpoint_map_in, held_of, quarantined_of, with_endpoints, with_held}
use Rattle.device.specs.Sound.{sound}
use Rattle.device.specs.Left.{leaves, ended}
use Rattle.device.specs.Check.{record_check}
use Rattle.device.specs.Calls.{on_check}
use Rattle.device.specs.SetConfiguration.{settings_in, bare, ended_by, set_record, set_configuration}
use Rattle.device.proofs.Ends.{handed, then_ended}
use Rattle.device.proofs.Made.{sound_apart, pending_entered}

-- what the code hands to the course
abbrev pub args_of : Device → ℕ → Settings → Queues → SettingsArgs
args_of d value held old =
    record {
      slot = d.slot;
      spacing = d.spacing;
      speed = d.port_speed;
      value = value;
      held = held;
      old = old;
    }

-- the settings that the code's arguments stand for
settings_of_lem : (d : Device) (value : ℕ) (held : Settings) (c : EndpointMap) (old : Queues) → held_by held ≡ held_of d → c ≡ endpoint_map_in d →
    QueuesAs old c.rings → settings_of (args_of d value held old) (list_of d) ≡ settings_in d value
unfolding settings_in
settings_of_lem d value held c old w h s = rw (queues_as old c.rings s, h, w)

-- the rings of all its endpoints enter quarantine as they are
pub old_entered : (d : Device) (c : EndpointMap) (q : Queues) → d.usable ≡ true → sound d ≡ true → c ≡ endpoint_map_in d → QueuesAs q c.rings →
    entered (quarantined_of d) (take q.count q.rings) ≡ take q.count q.rings
old_entered d c q u s h a = rw (a.rings, h) (pending_entered d u s (endpoint_map_in d).rings (sound_apart d s))

-- what it leaves is what the end of its course makes of the record
pub set_left :
    (d : Device) (value : ℕ) (x : Check) (held : Settings) (c n : EndpointMap) (old : Queues) (o ctx routes log ctx' routes' log' : List ℕ) (e : CourseEnd)
    (y : Device) (r : Called) →
    x ≡ record_check d (length ctx) (length routes) (length log) Pass → x ≡ Pass → held_by held ≡ held_of d → c ≡ endpoint_map_in d → QueuesAs old c.rings →
    arrays.course_leaves e ctx' routes' log' ≡ played o 0 (set_course (settings_of (args_of d value held old) (list_of d)) ctx routes) log →
    y ≡ cond e.moved (ended_by e.answer value (take old.count old.rings) d) d → n ≡ no_endpoints →
    r ≡ handed e (cond e.moved (with_held [] (with_endpoints n y)) (with_endpoints (with_active Any e.active c) y)) →
    leaves r ctx' routes' log' ≡ set_configuration d ctx routes log o value
unfolding set_configuration on_check set_record bare ended
set_left d value x held c n old o ctx routes log ctx' routes' log' e y r k p w h s run ey en er =
    rw (er, then_ended e.moved e.answer d y [] n (with_active Any e.active c) value (take old.count old.rings) ey, s.rings, en, h)
    (sym (rw (← k, p, ← settings_of_lem d value held c old w h s, ← run)))
