-- What a bring-up is told of the device, and what it has read of it when it ends: 01, "Course of each call", "Values read and parsed descriptors are inputs".
use Rattle.std.specs.Prelude.{ℕ, zero, suc, Bool, true, false, cond, List, [], ◌∷◌, eqb, Option, is_some, unwrap_or}
use Rattle.descriptor.specs.Word.{kind, CONFIGURATION}
use Rattle.answer.specs.declared.Answer.{Answer}
use Rattle.command.specs.Course.{Played}
use Rattle.record_ring.specs.Store.{least}
use Rattle.course_init.specs.declared.run.BringUpArgs.{BringUpArgs}
use Rattle.course_init.specs.declared.run.InitEnd.{InitEnd}

-- What a bring-up is told of the device: its place, what is read from it, and its descriptor list.
pub record BringUp : Type 0 where
  pub slot : ℕ
  pub max_slots : ℕ
  pub speed : ℕ
  pub hubs : List ℕ
  pub parent : Option ℕ
  pub port : ℕ
  pub root_port : ℕ
  -- the rings given to the slot
  pub rings : List ℕ
  -- how many bytes ReadHeader reads, and the packet size among them
  pub header : ℕ
  pub packet : ℕ
  -- what ReadConfiguration reads
  pub value : ℕ
  pub list : List ℕ

-- Control's ring is the lowest.
unfoldable pub control_ring : BringUp → ℕ
control_ring a = least a.rings

-- The same from the code's arguments.
abbrev pub bring_up_of : BringUpArgs → List ℕ → List ℕ → List ℕ → BringUp
bring_up_of a rings hubs list =
    record {
      slot = a.slot.0;
      max_slots = a.max_slots;
      speed = a.speed;
      hubs = hubs;
      parent = a.parent;
      port = a.port;
      root_port = a.root_port;
      rings = rings;
      header = a.header;
      packet = a.packet;
      value = a.value;
      list = list;
    }

-- The words of the first k configurations of a list.
unfoldable pub first_configurations : ℕ → List ℕ → List ℕ
first_configurations k [] = []
first_configurations zero (w ∷ l) = cond (eqb (kind w) CONFIGURATION) [] (w ∷ first_configurations zero l)
first_configurations (suc k) (w ∷ l) =
    w ∷ cond (eqb (kind w) CONFIGURATION) (first_configurations k l) (first_configurations (suc k) l)

-- What was read of the device, or set: the configuration value, if any, and the words of the list.
pub record Reading : Type 0 where
  pub configured : Bool
  pub value : ℕ
  pub list : List ℕ

unfoldable pub nothing_read : Reading
nothing_read = record { configured = false; value = 0; list = [] }

-- The value that was read, and the words of the first k configurations.
unfoldable pub read_up_to : BringUp → ℕ → Reading
read_up_to a k = record { configured = true; value = a.value; list = first_configurations k a.list }

-- How a bring-up ends, and what it has read until then.
pub record Brought : Type 0 where
  pub answer : Answer
  pub read : Reading
  pub ctx : List ℕ
  pub routes : List ℕ

abbrev pub brought : Answer → Reading → List ℕ → List ℕ → Brought
brought a read ctx routes = record { answer = a; read = read; ctx = ctx; routes = routes }

-- What a phase leaves, as a course's end says it.
abbrev pub leaves_read : InitEnd → List ℕ → List ℕ → List ℕ → List ℕ → Played Brought
leaves_read r list ctx routes log =
    record {
      end =
          record {
            answer = r.answer;
            read = record { configured = is_some r.value; value = unwrap_or r.value 0; list = first_configurations r.configurations list };
            ctx = ctx;
            routes = routes;
          };
      count = r.count;
      log = log;
    }
