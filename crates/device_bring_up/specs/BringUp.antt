-- Bring-up of a slot's device, whole: the checks in 01's order ("Who can cause an answer"), control's route, the course, and the record that its end makes.
use Rattle.std.specs.Prelude.{ℕ, ◌+◌, ◌*◌, ◌&&◌, ◌||◌, List, eqb, leb, length}
use Rattle.def.specs.Speed.{speed_known}
use Rattle.descriptor_list.specs.Valid.{LIST-ROOM}
use Rattle.descriptor_list.specs.Companions.{list_ok, companions_fit}
use Rattle.hub.specs.Chain.{chain_ok}
use Rattle.transfer.specs.Routes.{route_of, with_route}
use Rattle.record_ring.specs.Store.{GIVEN-ROOM, given_ok}
use Rattle.answer.specs.declared.Answer.TheVariants as answer
use Rattle.answer.specs.Answer.{is_accepted}
use Rattle.answer.specs.Check.{Check, Pass, unless}
use Rattle.command.specs.Command.{LOG-ROOM}
use Rattle.command.specs.Course.{Course, Played, played}
use Rattle.context.specs.Place.{spacing_of}
use Rattle.record_endpoint.specs.declared.entry.Handle.TheVariants.{Active}
use Rattle.record_endpoint.specs.Endpoint.{padded}
use Rattle.course_init.specs.Reading.{BringUp, control_ring, Brought}
use Rattle.course_init.specs.Init.{bring_up_address}
use Rattle.device.specs.declared.record.Device.{Device}
use Rattle.device.specs.Device.{keep, put, rebuilt, no_device}
use Rattle.device.specs.Left.{Left, refused}
use Rattle.device.specs.Calls.{on_check}

-- 11, 1, 2, 3, then what follows.
unfoldable pub slot_check : BringUp → ℕ → ℕ → ℕ → Check → Check
slot_check a ctx routes log next =
    unless (leb 1 a.slot && (leb a.slot a.max_slots && leb a.max_slots 255)) answer.SlotLimitReached
    (unless (eqb ctx 1056 || eqb ctx 2112) answer.ContextLength
    (unless (eqb routes (32 * (a.max_slots + 1))) answer.RoutesLength
    (unless (leb LOG-ROOM log) answer.LogTooShort next)))

-- 6, 4, 26, 5, 10, then what follows.
unfoldable pub device_check : BringUp → Check → Check
device_check a next =
    unless (speed_known a.speed) answer.Speed
    (unless (list_ok a.speed a.list) answer.DescriptorList
    (unless (companions_fit a.speed a.list) answer.Companion
    (unless (chain_ok a.hubs a.parent) answer.HubChain
    (unless (given_ok a.rings) answer.Rings next))))

-- 17: the word of Dci 1 is not 0.
unfoldable pub queue_check : BringUp → List ℕ → Check
queue_check a routes = unless (eqb (route_of routes a.slot 1) 0) answer.QueueFull Pass

-- 11, 1, 2, 3, 6, 4, 26, 5, 10, 17.
unfoldable pub bring_up_check : BringUp → ℕ → List ℕ → ℕ → Check
bring_up_check a ctx routes log = slot_check a ctx (length routes) log (device_check a (queue_check a routes))

-- Control's route is registered first.
unfoldable pub bring_up_course : BringUp → ℕ → List ℕ → List ℕ → Course Brought
bring_up_course a spacing ctx routes = bring_up_address a spacing ctx (with_route routes a.slot 1 (control_ring a))

-- The record of a device that holds no setting.
unfoldable pub brought_record : BringUp → ℕ → Brought → Device
unfolding rebuilt no_device
brought_record a spacing e =
    rebuilt
    (put
    (record {
      slot = a.slot;
      max_slots = a.max_slots;
      spacing = spacing;
      speed = a.speed;
      list = padded LIST-ROOM 0 e.read.list;
      list_length = length e.read.list;
      control = control_ring a;
      given = padded GIVEN-ROOM 0 a.rings;
      given_count = length a.rings;
    }))
    (put
    (record {
      usable = is_accepted e.answer;
      up = is_accepted e.answer;
      configured = e.read.configured;
      value = e.read.value;
      handle = Active;
    }))
    keep keep keep no_device

-- What a bring-up leaves whose course has ended.
unfoldable pub brought_left : BringUp → ℕ → Played Brought → Left
brought_left a spacing p =
    record {
      device = brought_record a spacing p.end;
      answer = p.end.answer;
      count = p.count;
      ctx = p.end.ctx;
      routes = p.end.routes;
      log = p.log;
    }

unfoldable pub bring_up : BringUp → List ℕ → List ℕ → List ℕ → List ℕ → Left
bring_up a ctx routes log outcomes =
    let spacing = spacing_of (length ctx) in
    on_check (bring_up_check a (length ctx) routes (length log))
    (brought_left a spacing (played outcomes 0 (bring_up_course a spacing ctx routes) log))
    (λ x. refused no_device x ctx routes log)
