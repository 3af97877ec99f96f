-- A device with one configuration and two interfaces that list endpoint 0x81, brought up, and then holding a setting.
use Rattle.std.specs.Prelude.{ℕ, List, [], ◌∷◌, Option, None, replicate}
use Rattle.def.specs.Speed.{HIGH}
use Rattle.course_init.specs.Reading.{BringUp}
use Rattle.device_bring_up.specs.BringUp.{bring_up}
use Rattle.device.specs.Left.{Left}
use Rattle.device.specs.Claim.{claim}
use Rattle.theorem_cases.specs.Added.{interrupt81, companions_behind}

-- Value 1; interface 0 with alternates 0 and 1, interface 1 with alternate 0, each with 0x81.
abbrev pub list : List ℕ
list = 0x00400000 ∷ 0x40000000 ∷ interrupt81 ∷ 0x40004000 ∷ interrupt81 ∷ 0x40400000 ∷ interrupt81 ∷ []

-- With the companions that speeds 4 and 5 want.
abbrev pub super_list : List ℕ
super_list = companions_behind list

-- A bring-up on a slot of 1 with some rings, and with three.
abbrev pub given : (rings : List ℕ) (slot speed header : ℕ) (parent : Option ℕ) (list : List ℕ) → BringUp
given rings slot speed header parent list =
    record {
      slot = slot;
      max_slots = 1;
      speed = speed;
      hubs = [];
      parent = parent;
      port = 1;
      root_port = 1;
      rings = rings;
      header = header;
      packet = 64;
      value = 0;
      list = list;
    }

abbrev pub asked : (slot speed header : ℕ) (parent : Option ℕ) (list : List ℕ) → BringUp
asked = given (48 ∷ 16 ∷ 32 ∷ [])

abbrev pub usual : BringUp
usual = asked 1 HIGH 8 None list

abbrev pub ctx : List ℕ
ctx = replicate 1056 0

abbrev pub log : List ℕ
log = replicate 64 0

abbrev pub free : List ℕ
free = replicate 64 0

abbrev pub done : List ℕ
done = replicate 10 0

-- The device brought up with a ring for control only; with more; and then with interface 0 holding alternate 0.
abbrev pub alone : Left
alone = bring_up (given (16 ∷ []) 1 HIGH 8 None list) ctx free log done

abbrev pub brought_up : Left
brought_up = bring_up usual ctx free log done

abbrev pub second : Left
second = claim brought_up.device ctx brought_up.routes log done 0 0
