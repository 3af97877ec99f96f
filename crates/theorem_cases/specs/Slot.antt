-- The device of the paths, and where its slot stands before and after them.
use Rattle.std.specs.Prelude.{ℕ, zero, suc, Bool, true, false, List, [], ◌∷◌, None}
use Rattle.def.specs.Speed.{HIGH}
use Rattle.transfer.specs.Routes.{Queue}
use Rattle.record_endpoint.specs.declared.entry.Handle.{Handle}
use Rattle.record_endpoint.specs.declared.entry.Handle.TheVariants.{Active, Revoked}
use Rattle.course_init.specs.Reading.{BringUp}
use Rattle.theorem_device_state.specs.DeviceState.{Known, unknown, known}
use Rattle.theorem_cases.specs.Lists.{Holding, holding, bulk, route}
use Rattle.theorem_cases.specs.Path.{Owned, owned, Standing}

-- Value 1: interface 0 with alternates 0 (0x83, 0x02) and 1 (0x81, 0x02), interface 1 with alternates 0 (0x84) and 1 (no endpoint);
-- value 2: interface 2 with alternates 0 (0x81) and 1 (0x85 twice). The Dcis: 0x02 is 4, 0x81 is 3, 0x83 is 7, 0x84 is 9, 0x85 is 11;
-- so 0x02 comes before 0x81 by address, and after it by Dci.
abbrev pub first_words : List ℕ → List ℕ
first_words rest =
    0x00400000
    ∷ 0x40000000
    ∷ bulk 1 3
    ∷ bulk 0 2
    ∷ 0x40004000
    ∷ bulk 1 1
    ∷ bulk 0 2
    ∷ 0x40400000
    ∷ bulk 1 4
    ∷ 0x40404000
    ∷ rest

abbrev pub all_words : List ℕ
all_words = first_words (0x00800000 ∷ 0x40800000 ∷ bulk 1 1 ∷ 0x40804000 ∷ bulk 1 5 ∷ bulk 1 5 ∷ [])

-- The rings that the slot is given; control's is 16, the lowest.
abbrev pub rings : List ℕ
rings = 112 ∷ 32 ∷ 64 ∷ 16 ∷ 80 ∷ 48 ∷ 96 ∷ []

-- Its bring-up on slot 1 of 2: a header of some bytes with a packet byte, a list; the configuration value 5 is read.
abbrev pub bring_up_with : (speed header packet : ℕ) (list : List ℕ) → BringUp
bring_up_with speed header packet list =
    record {
      slot = 1;
      max_slots = 2;
      speed = speed;
      hubs = [];
      parent = None;
      port = 1;
      root_port = 1;
      rings = rings;
      header = header;
      packet = packet;
      value = 5;
      list = list;
    }

abbrev pub usual_bring_up : BringUp
usual_bring_up = bring_up_with HIGH 8 64 all_words

-- A record of the device, the slot's routes, and the alternates that the device has been told of interfaces 0, 1 and 2; its value is 1.
abbrev pub standing :
    (usable up : Bool) → Handle → List Owned → List Holding → (quarantined : List ℕ) → List Queue → List Known → Standing
standing usable up control endpoints held quarantined routes alternates =
    record {
      usable = usable;
      up = up;
      speed = HIGH;
      configured = true;
      value = 1;
      list = all_words;
      control = control;
      endpoints = endpoints;
      held = held;
      quarantined = quarantined;
      given = rings;
      routes = routes;
      device_value = known 1;
      device_alternates = alternates;
    }

-- The alternates of a device whose configuration was set, whatever was before.
abbrev pub first_alternates : List Known
first_alternates = known 0 ∷ known 0 ∷ known 0 ∷ []

-- Brought up, and nothing held.
abbrev pub idle_as : (usable : Bool) → (quarantined : List ℕ) → Standing
idle_as usable quarantined = standing usable true Active [] [] quarantined (route 1 16 ∷ []) first_alternates

abbrev pub idle : Standing
idle = idle_as true []

-- Interface 0 holds alternate 1 and interface 1 alternate 0: 0x81 drew 32, 0x02 drew 48, 0x84 drew 64. Of the handles are said
-- control's and, by rising address, those of 0x02, 0x81 and 0x84.
abbrev pub held_routes : List Queue
held_routes = route 1 16 ∷ route 3 32 ∷ route 4 48 ∷ route 9 64 ∷ []

abbrev pub held_as : (usable : Bool) → (control h02 h81 h84 : Handle) → (quarantined : List ℕ) → Standing
held_as usable control h02 h81 h84 quarantined =
    standing usable true control (owned 0x02 48 0 h02 ∷ owned 0x81 32 0 h81 ∷ owned 0x84 64 1 h84 ∷ []) (holding 0 1 ∷ holding 1 0 ∷ [])
    quarantined held_routes (known 1 ∷ known 0 ∷ known 0 ∷ [])

abbrev pub held : Standing
held = held_as true Active Active Active Active []

-- The same, usable or not, with these handles of 0x02, 0x81 and 0x84.
abbrev pub kept : (h02 h81 h84 : Handle) → Standing
kept h02 h81 h84 = held_as true Active h02 h81 h84 []

abbrev pub lost : (h02 h81 h84 : Handle) → Standing
lost h02 h81 h84 = held_as false Active h02 h81 h84 []

-- Interface 1 holds alternate 1, which has no endpoint.
abbrev pub bare_as : (usable : Bool) → (quarantined : List ℕ) → Standing
bare_as usable quarantined = standing usable true Active [] (holding 1 1 ∷ []) quarantined (route 1 16 ∷ []) (known 0 ∷ known 1 ∷ known 0 ∷ [])

abbrev pub bare : Standing
bare = bare_as true []

-- Where a slot stands, but for the word of a Dci; for the value of record and device; for what the device was told.
abbrev pub with_word : (dci ring : ℕ) → Standing → Standing
with_word dci ring s = record s { routes = route dci ring ∷ s.routes }

abbrev pub with_value : (value : ℕ) → Standing → Standing
with_value value s = record s { value = value; device_value = known value }

abbrev pub telling : (value : Known) → (alternates : List Known) → Standing → Standing
telling value alternates s = record s { device_value = value; device_alternates = alternates }

-- Of one interface, 0, 1 or 2, the device's alternate is another.
abbrev pub with_alternate : (interface : ℕ) → Known → List Known → List Known
with_alternate j k [] = []
with_alternate zero k (a ∷ rest) = k ∷ rest
with_alternate (suc j) k (a ∷ rest) = a ∷ with_alternate j k rest

abbrev pub told : (interface : ℕ) → Known → Standing → Standing
told interface k s = telling s.device_value (with_alternate interface k s.device_alternates) s

-- Of the device nothing is known.
abbrev pub unheard : Standing → Standing
unheard s = telling unknown (unknown ∷ unknown ∷ unknown ∷ []) s

-- Unplugged: no endpoint, nothing held, no route; the record is neither usable nor up. An unplugging tells the device nothing.
abbrev pub gone : (alternates : List Known) → (quarantined : List ℕ) → Standing
gone alternates quarantined = standing false false Revoked [] [] quarantined [] alternates
