-- Lists of calls on one slot, what each call answers, what is left after them and what they have told the USB device: docs/THEOREM.md
-- works through them.
use Rattle.std.specs.Prelude.{ℕ, zero, suc, ◌+◌, Bool, true, false, not, cond, ◌&&◌, List, [], ◌∷◌, ◌++◌, eqb, length, replicate, None}
use Rattle.def.specs.Speed.{HIGH}
use Rattle.answer.specs.declared.Answer.{Answer}
use Rattle.answer.specs.declared.Answer.TheVariants as answer
use Rattle.answer.specs.Answer.{number, code_of}
use Rattle.transfer.specs.Routes.{Queue, route_of}
use Rattle.course_init.specs.Reading.{BringUp}
use Rattle.device.specs.Ask.{asking}
use Rattle.device_bring_up.specs.BringUp.{bring_up}
use Rattle.theorem_slot.specs.Call.{Asked, Call, brings_up, claims, commits, releases, configures, updates_hub, disconnects, left}
use Rattle.theorem_slot.specs.Groups.{Groups}
use Rattle.theorem_slot.specs.Plain.{HeldSetting, Phase, up, unplugged, not_up, is_up, is_unplugged}
use Rattle.theorem_slot.specs.Theorem.{State, Turn, called, start}
use Rattle.theorem_device_state.specs.DeviceState.{Known, unknown, known, DeviceState, nothing_known}
use Rattle.theorem_device_state.specs.Theorem.{device_heard, device_called}
use Rattle.theorem_cases.specs.Added.{word_of}
use Rattle.theorem_cases.specs.Example.{ctx, log, done}

-- Value 1; interface 0: alternate 0 with 0x81, alternate 1 with 0x81 and 0x02; interface 1: alternate 0 with 0x81;
-- interface 2: alternate 0 with 0x83 twice. All bulk.
abbrev pub bulk : (direction_in number : ℕ) → ℕ
bulk direction_in number = word_of direction_in number 2 512 0 0

abbrev pub shared : List ℕ
shared =
    0x00400000
    ∷ 0x40000000
    ∷ bulk 1 1
    ∷ 0x40004000
    ∷ bulk 1 1
    ∷ bulk 0 2
    ∷ 0x40400000
    ∷ bulk 1 1
    ∷ 0x40800000
    ∷ bulk 1 3
    ∷ bulk 1 3
    ∷ []

-- On slot 1 of 2, High speed, no hub above it.
abbrev pub device : BringUp
device =
    record {
      slot = 1;
      max_slots = 2;
      speed = HIGH;
      hubs = [];
      parent = None;
      port = 1;
      root_port = 1;
      rings = 96 ∷ 32 ∷ 64 ∷ 16 ∷ 80 ∷ 48 ∷ [];
      header = 8;
      packet = 64;
      value = 0;
      list = shared;
    }

-- The table before the bring-up: slot 1 has no routes, every other word is set, each to another number.
abbrev pub rising : ℕ → ℕ → List ℕ
rising zero from = []
rising (suc k) from = from ∷ rising k (from + 16)

abbrev pub table : List ℕ
table = rising 32 4096 ++ (replicate 32 0 ++ rising 32 8192)

-- A call, the answer that it gets, and whether the caller keeps his record where it is a bring-up that is not accepted.
pub record Heard : Type 0 where
  pub call : Call
  pub answer : Answer
  pub keeps : Bool

abbrev pub call : Asked → List ℕ → Call
call a outcomes = record { asked = a; buffers = record { ctx = ctx; log = log; outcomes = outcomes } }

abbrev pub hears : Asked → List ℕ → Answer → Heard
hears a outcomes x = record { call = call a outcomes; answer = x; keeps = false }

abbrev pub hears_keeping : Asked → List ℕ → Answer → Heard
hears_keeping a outcomes x = record { call = call a outcomes; answer = x; keeps = true }

-- Interface 0 claimed at alternate 0: ring 32 is drawn for 0x81.
abbrev pub first_claim : Heard
first_claim = hears (claims 0 0) done answer.Accepted

-- An interface and the alternate that it holds.
pub record Holding : Type 0 where
  pub interface : ℕ
  pub alternate : ℕ

abbrev pub holding : ℕ → ℕ → Holding
holding interface alternate = record { interface = interface; alternate = alternate }

-- Calls after the bring-up with their answers; where the slot stands after them, what is held, the endpoints with a route, those
-- enabled, the mark, and the free and the quarantined rings. Live are the routed ones that are not quarantined. Last the USB
-- device: its configuration value, and the alternates of interfaces 0, 1 and 2.
pub record ListOfCalls : Type 0 where
  pub calls : List Heard
  pub phase : Phase
  pub held : List Holding
  pub routed : List Queue
  pub enabled : List ℕ
  pub broken : Bool
  pub free : List ℕ
  pub quarantined : List ℕ
  pub device_value : Known
  pub device_alternates : List Known

abbrev pub route : ℕ → ℕ → Queue
route dci ring = record { dci = dci; ring = ring }

-- With the device up: control's ring is 16, and it is enabled.
abbrev pub while_up : List Heard → List Holding → List Queue → List ℕ → Bool → List ℕ → List ℕ → Known → List Known → ListOfCalls
while_up calls held routed enabled broken free quarantined device_value device_alternates =
    record {
      calls = calls;
      phase = up;
      held = held;
      routed = route 1 16 ∷ routed;
      enabled = 1 ∷ enabled;
      broken = broken;
      free = free;
      quarantined = quarantined;
      device_value = device_value;
      device_alternates = device_alternates;
    }

-- Where they leave the slot without any endpoint: unplugged, or with control's word of a bring-up that failed.
abbrev pub none : List Heard → Phase → List Queue → Bool → List ℕ → Known → List Known → ListOfCalls
none calls phase routed broken free device_value device_alternates =
    record {
      calls = calls;
      phase = phase;
      held = [];
      routed = routed;
      enabled = [];
      broken = broken;
      free = free;
      quarantined = [];
      device_value = device_value;
      device_alternates = device_alternates;
    }

-- The alternates of the three interfaces.
abbrev pub alternates : (a0 a1 a2 : Known) → List Known
alternates a0 a1 a2 = a0 ∷ a1 ∷ a2 ∷ []

abbrev pub lists : List ListOfCalls
lists =
    -- 1: a claim, and one of the other alternate in its place
    while_up (first_claim ∷ hears (claims 0 1) done answer.Accepted ∷ [])
    (holding 0 1 ∷ []) (route 3 48 ∷ route 4 64 ∷ []) (3 ∷ 4 ∷ []) false
    (32 ∷ 80 ∷ 96 ∷ []) []
    (known 1) (alternates (known 1) (known 0) (known 0))
    -- 2: a claim undone: its SetInterface fails
    ∷ while_up (first_claim ∷ hears (claims 0 1) (0 ∷ 0 ∷ 7 ∷ 0 ∷ 0 ∷ []) (answer.Failed 7) ∷ [])
    (holding 0 0 ∷ []) (route 3 32 ∷ []) (3 ∷ []) false
    (48 ∷ 64 ∷ 80 ∷ 96 ∷ []) []
    (known 1) (alternates (known 0) (known 0) (known 0))
    -- 3: the undoing fails too: broken, with the new endpoints in the controller
    ∷ while_up (first_claim ∷ hears (claims 0 1) (0 ∷ 0 ∷ 7 ∷ 5 ∷ []) answer.InterfaceBroken ∷ [])
    (holding 0 0 ∷ []) (route 3 32 ∷ []) (3 ∷ 4 ∷ []) true
    (80 ∷ 96 ∷ []) (48 ∷ 64 ∷ [])
    (known 1) (alternates unknown (known 0) (known 0))
    -- 4: a claim and its release
    ∷ while_up (first_claim ∷ hears (releases 0) done answer.Accepted ∷ []) [] [] [] false
    (32 ∷ 48 ∷ 64 ∷ 80 ∷ 96 ∷ []) []
    (known 1) (alternates (known 0) (known 0) (known 0))
    -- 5: a repeated address: the last word's ring
    ∷ while_up (hears (claims 2 0) done answer.Accepted ∷ []) (holding 2 0 ∷ []) (route 7 48 ∷ []) (7 ∷ []) false
    (32 ∷ 64 ∷ 80 ∷ 96 ∷ []) []
    (known 1) (alternates (known 0) (known 0) (known 0))
    -- 6: a set configuration cut at its last Evaluate: the ended ring is in doubt
    ∷ while_up (first_claim ∷ hears (configures 1) (0 ∷ 0 ∷ 0 ∷ []) answer.Cut ∷ []) [] [] [] true
    (48 ∷ 64 ∷ 80 ∷ 96 ∷ []) (32 ∷ [])
    (known 1) (alternates (known 0) (known 0) (known 0))
    -- 7: a set configuration that fails and is undone
    ∷ while_up (first_claim ∷ hears (configures 1) (0 ∷ 0 ∷ 9 ∷ 0 ∷ 0 ∷ []) (answer.Failed 9) ∷ [])
    (holding 0 0 ∷ []) (route 3 32 ∷ []) (3 ∷ []) false
    (48 ∷ 64 ∷ 80 ∷ 96 ∷ []) []
    (known 1) (alternates (known 0) (known 0) (known 0))
    -- 8: a second bring-up is refused (17), and every call with its record after it (12)
    ∷ while_up (first_claim ∷ hears (brings_up device) done answer.QueueFull ∷ hears (releases 0) done answer.Unusable ∷ [])
    (holding 0 0 ∷ []) (route 3 32 ∷ []) (3 ∷ []) false
    (48 ∷ 64 ∷ 80 ∷ 96 ∷ []) []
    (known 1) (alternates (known 0) (known 0) (known 0))
    -- 9: a claim of an address that another interface has is refused (9)
    ∷ while_up
    (first_claim ∷ hears (claims 1 0) done answer.InvalidParameter ∷ hears (claims 2 0) done answer.Accepted ∷ [])
    (holding 0 0 ∷ holding 2 0 ∷ []) (route 3 32 ∷ route 7 64 ∷ []) (3 ∷ 7 ∷ []) false
    (48 ∷ 80 ∷ 96 ∷ []) []
    (known 1) (alternates (known 0) (known 0) (known 0))
    -- 10: a release of an interface that holds nothing but lists the same address is refused (25)
    ∷ while_up (first_claim ∷ hears (releases 1) done answer.NotClaimed ∷ []) (holding 0 0 ∷ []) (route 3 32 ∷ []) (3 ∷ []) false
    (48 ∷ 64 ∷ 80 ∷ 96 ∷ []) []
    (known 1) (alternates (known 0) (known 0) (known 0))
    -- 11: a dozen calls and one
    ∷ while_up
    (first_claim
    ∷ hears (claims 0 1) done answer.Accepted
    ∷ hears (claims 1 0) done answer.InvalidParameter
    ∷ hears (claims 2 0) done answer.Accepted
    ∷ hears (updates_hub 4 false 666) done answer.Accepted
    ∷ hears (claims 0 0) (0 ∷ 0 ∷ 0 ∷ 7 ∷ 0 ∷ 0 ∷ []) (answer.Failed 7)
    ∷ hears (releases 0) done answer.Accepted
    ∷ hears (releases 5) done answer.NotClaimed
    ∷ hears (claims 1 0) done answer.Accepted
    ∷ hears (configures 9) done answer.Accepted
    ∷ first_claim
    ∷ hears_keeping (brings_up device) done answer.QueueFull
    ∷ hears (claims 2 0) done answer.Accepted
    ∷ [])
    (holding 0 0 ∷ holding 2 0 ∷ []) (route 3 32 ∷ route 7 64 ∷ []) (3 ∷ 7 ∷ []) false
    (48 ∷ 80 ∷ 96 ∷ []) []
    (known 9) (alternates (known 0) (known 0) (known 0))
    -- 12: unplugged with a setting held; every call on the record is refused (12)
    ∷ none (first_claim ∷ hears disconnects done answer.Accepted ∷ hears (configures 1) done answer.Unusable ∷ []) unplugged [] false (16 ∷ 32 ∷ 48 ∷ 64 ∷ 80 ∷ 96 ∷ [])
    (known 1) (alternates (known 0) (known 0) (known 0))
    -- 13: a claim breaks, Disable fails, a Stop is cut, and then it is done; a new bring-up begins all anew, with every given ring
    ∷ while_up
    (first_claim
    ∷ hears (claims 0 1) (0 ∷ 0 ∷ 7 ∷ 5 ∷ []) answer.InterfaceBroken
    ∷ hears disconnects (0 ∷ 0 ∷ 9 ∷ []) answer.InterfaceBroken
    ∷ hears disconnects (0 ∷ []) answer.Cut
    ∷ hears disconnects (3 ∷ 4 ∷ 0 ∷ []) answer.Accepted
    ∷ hears disconnects done answer.Unusable
    ∷ hears (brings_up device) done answer.Accepted
    ∷ hears (claims 0 1) done answer.Accepted
    ∷ [])
    (holding 0 1 ∷ []) (route 3 32 ∷ route 4 48 ∷ []) (3 ∷ 4 ∷ []) false
    (64 ∷ 80 ∷ 96 ∷ []) []
    (known 1) (alternates (known 1) (known 0) (known 0))
    -- 14: Disable fails: routes and settings stay
    ∷ while_up (first_claim ∷ hears disconnects (0 ∷ 0 ∷ 9 ∷ []) answer.InterfaceBroken ∷ []) (holding 0 0 ∷ []) (route 3 32 ∷ []) (3 ∷ []) true
    (48 ∷ 64 ∷ 80 ∷ 96 ∷ []) (16 ∷ 32 ∷ [])
    (known 1) (alternates (known 0) (known 0) (known 0))
    -- 15: after it is unplugged a bring-up fails at its first command; it leaves control's word, and every later one is refused (17)
    ∷ none
    (hears disconnects done answer.Accepted
    ∷ hears_keeping (brings_up device) (7 ∷ []) (answer.Failed 7)
    ∷ hears (brings_up device) done answer.QueueFull
    ∷ [])
    not_up (route 1 16 ∷ []) false (32 ∷ 48 ∷ 64 ∷ 80 ∷ 96 ∷ [])
    unknown (alternates unknown unknown unknown)
    -- 16: the other alternate asked for: a commit with its rings in another order is outdated, and changes nothing; the right one is the claim
    ∷ while_up
    (first_claim
    ∷ hears (commits (asking 0 1 0x08 0x18 (64 ∷ 48 ∷ []))) done answer.OutdatedAsk
    ∷ hears (commits (asking 0 1 0x08 0x18 (48 ∷ 64 ∷ []))) done answer.Accepted ∷ [])
    (holding 0 1 ∷ []) (route 3 48 ∷ route 4 64 ∷ []) (3 ∷ 4 ∷ []) false
    (32 ∷ 80 ∷ 96 ∷ []) []
    (known 1) (alternates (known 1) (known 0) (known 0))
    -- 17: a claim cut at its Configure: the controller may have the new rings
    ∷ while_up (first_claim ∷ hears (claims 0 1) (0 ∷ []) answer.Cut ∷ []) (holding 0 0 ∷ []) (route 3 32 ∷ []) (3 ∷ []) true
    (80 ∷ 96 ∷ []) (48 ∷ 64 ∷ [])
    (known 1) (alternates (known 0) (known 0) (known 0))
    -- 18: one cut at its Stop: it has none
    ∷ while_up (first_claim ∷ hears (claims 0 1) [] answer.Cut ∷ []) (holding 0 0 ∷ []) (route 3 32 ∷ []) (3 ∷ []) true
    (48 ∷ 64 ∷ 80 ∷ 96 ∷ []) []
    (known 1) (alternates (known 0) (known 0) (known 0))
    -- 19: the repeated address again, cut at SetInterface: the ring that it does not keep stays free
    ∷ while_up (hears (claims 2 0) (0 ∷ []) answer.Cut ∷ []) [] [] (7 ∷ []) true
    (32 ∷ 64 ∷ 80 ∷ 96 ∷ []) (48 ∷ [])
    (known 1) (alternates (known 0) (known 0) unknown)
    -- 20: a claim cut in the Resume after its Configure failed: a Configure was sent
    ∷ while_up (first_claim ∷ hears (claims 0 1) (0 ∷ 7 ∷ []) answer.Cut ∷ []) (holding 0 0 ∷ []) (route 3 32 ∷ []) (3 ∷ []) true
    (80 ∷ 96 ∷ []) (48 ∷ 64 ∷ [])
    (known 1) (alternates (known 0) (known 0) (known 0))
    ∷ []

-- The interfaces and alternates of settings, in order.
abbrev pub same_held : List HeldSetting → List Holding → Bool
same_held [] [] = true
same_held [] (a ∷ rest) = false
same_held (s ∷ ss) [] = false
same_held (s ∷ ss) (a ∷ rest) = (eqb s.interface a.interface && eqb s.alternate a.alternate) && same_held ss rest

abbrev pub has : ℕ → List ℕ → Bool
has d [] = false
has d (e ∷ es) = cond (eqb e d) true (has d es)

abbrev pub ring_in : ℕ → List Queue → ℕ
ring_in d [] = 0
ring_in d (q ∷ qs) = cond (eqb q.dci d) q.ring (ring_in d qs)

abbrev pub same_flag : Bool → Bool → Bool
same_flag a b = cond a b (not b)

-- Each of the slot's 32 words, and whether its endpoint is enabled.
abbrev pub words_hold : ℕ → ℕ → State → ListOfCalls → Bool
words_hold zero d s l = true
words_hold (suc k) d s l =
    (eqb (route_of s.routes 1 d) (ring_in d l.routed) && same_flag (s.plain.enabled d) (has d l.enabled))
    && words_hold k (d + 1) s l

-- Each ring is in its group: of k rings from `ring` on, 16 apart.
abbrev pub is_routed : ℕ → List Queue → Bool
is_routed ring [] = false
is_routed ring (q ∷ qs) = cond (eqb q.ring ring) true (is_routed ring qs)

abbrev pub groups_hold : ℕ → ℕ → Groups → ListOfCalls → Bool
groups_hold zero ring g l = true
groups_hold (suc k) ring g l =
    (same_flag (g.free ring) (has ring l.free)
    && (same_flag (g.quarantined ring) (has ring l.quarantined)
    && same_flag (g.live ring) (is_routed ring l.routed && not (has ring l.quarantined))))
    && groups_hold k (ring + 16) g l

-- Each word of a slot is as before the bring-up.
abbrev pub slot_as_before : ℕ → ℕ → ℕ → State → Bool
slot_as_before zero slot d s = true
slot_as_before (suc k) slot d s = eqb (route_of s.routes slot d) (route_of table slot d) && slot_as_before k slot (d + 1) s

abbrev pub same_phase : Phase → Phase → Bool
same_phase a b = same_flag (is_up a) (is_up b) && same_flag (is_unplugged a) (is_unplugged b)

abbrev pub same_known : Known → Known → Bool
same_known unknown unknown = true
same_known unknown (known b) = false
same_known (known a) unknown = false
same_known (known a) (known b) = eqb a b

-- What the device has been told: its value, and the alternates of interfaces from j on.
abbrev pub same_alternates : ℕ → DeviceState → List Known → Bool
same_alternates j u [] = true
same_alternates j u (k ∷ ks) = same_known (u.alternates j) k && same_alternates (j + 1) u ks

abbrev pub same_told : DeviceState → (value : Known) → (alternates : List Known) → Bool
same_told u value alternates = same_known u.configuration value && same_alternates 0 u alternates

abbrev pub left_holds : State → ListOfCalls → Bool
left_holds s l =
    (same_phase s.plain.phase l.phase && same_held s.plain.held l.held)
    && (same_flag s.plain.broken l.broken
    && (groups_hold 7 16 s.plain.groups l
    && (eqb (length s.routes) 96 && (words_hold 32 0 s l && (slot_as_before 32 0 0 s && slot_as_before 32 2 0 s)))))

abbrev pub same_answer : Answer → Answer → Bool
same_answer a b = eqb (number a) (number b) && eqb (code_of a) (code_of b)

-- Each call answers what is listed, and after the last the rest holds.
abbrev pub heard_from : State → DeviceState → List Heard → ListOfCalls → Bool
heard_from s u [] l = left_holds s l && same_told u l.device_value l.device_alternates
heard_from s u (h ∷ hs) l =
    let t : Turn = record { call = h.call; table = s.routes; keeps = h.keeps } in
    same_answer (left h.call.asked h.call.buffers s.device s.routes).answer h.answer
    && heard_from (called s t) (device_called s t u) hs l

-- The bring-up before each list.
abbrev pub first_call : Call
first_call = call (brings_up device) done

abbrev pub listed_holds : ListOfCalls → Bool
listed_holds l =
    let b = bring_up device ctx table log done in
    heard_from (start device b) (device_heard first_call.asked first_call.buffers b nothing_known) l.calls l

abbrev pub all_listed : List ListOfCalls → Bool
all_listed [] = true
all_listed (l ∷ ls) = listed_holds l && all_listed ls
