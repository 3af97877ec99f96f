-- A call on a slot that is written out whole, command by command, and all that it leaves but the context; and what it tells the USB device.
use Rattle.std.specs.Prelude.{ℕ, zero, suc, ◌+◌, ◌-◌, ◌/◌, ◌^◌, Bool, true, false, cond, ◌&&◌, List, [], ◌∷◌, ◌++◌, eqb, length, drop, replicate}
use Rattle.answer.specs.declared.Answer.{Answer}
use Rattle.answer.specs.Answer.{number}
use Rattle.transfer.specs.Routes.{Queue}
use Rattle.record_endpoint.specs.declared.entry.Endpoint.{Endpoint}
use Rattle.record_endpoint.specs.declared.entry.Handle.{Handle}
use Rattle.record_endpoint.specs.declared.entry.Handle.TheVariants.{Active}
use Rattle.record_endpoint.specs.EndpointMap.{is_active}
use Rattle.device.specs.declared.record.Device.{Device}
use Rattle.theorem_slot.specs.Call.{Asked, Buffers, left}
use Rattle.theorem_device_state.specs.DeviceState.{Known, unknown, DeviceState}
use Rattle.theorem_device_state.specs.Theorem.{device_heard}
use Rattle.theorem_cases.specs.Example.{ctx}
use Rattle.theorem_cases.specs.Cases.{same_words}
use Rattle.theorem_cases.specs.Lists.{Holding, same_answer, same_flag, same_told, ring_in, rising}

-- Stop of the log words.
abbrev pub STOP : ℕ
STOP = 4

-- A command that was sent: its word, and the outcomes from its own on: one byte, or none where the call is cut there.
pub record Sent : Type 0 where
  pub word : ℕ
  pub outcome : List ℕ

abbrev pub done : ℕ → Sent
done word = record { word = word; outcome = 0 ∷ [] }

abbrev pub fails : (code word : ℕ) → Sent
fails code word = record { word = word; outcome = code ∷ [] }

abbrev pub cut : ℕ → Sent
cut word = record { word = word; outcome = [] }

abbrev pub words_of : List Sent → List ℕ
words_of [] = []
words_of (s ∷ ss) = s.word ∷ words_of ss

abbrev pub outcomes_of : List Sent → List ℕ
outcomes_of [] = []
outcomes_of (s ∷ ss) = s.outcome ++ outcomes_of ss

-- An endpoint of a record, with the interface that owns it.
pub record Owned : Type 0 where
  pub address : ℕ
  pub ring : ℕ
  pub interface : ℕ
  pub handle : Handle

abbrev pub owned : (address ring interface : ℕ) → Handle → Owned
owned address ring interface handle = record { address = address; ring = ring; interface = interface; handle = handle }

-- Where slot 1 of 2 stands: its record, of spacing 32, whose control ring is 16, its routes, and its USB device.
pub record Standing : Type 0 where
  pub usable : Bool
  pub up : Bool
  pub speed : ℕ
  pub configured : Bool
  pub value : ℕ
  pub list : List ℕ
  pub control : Handle
  pub endpoints : List Owned
  pub held : List Holding
  pub quarantined : List ℕ
  pub given : List ℕ
  pub routes : List Queue
  -- the value that its device has been told or has said, and the alternates of interfaces 0, 1 and 2
  pub device_value : Known
  pub device_alternates : List Known

-- Arrays, what is past the count 0.
abbrev pub with_zeros : (room : ℕ) → List ℕ → List ℕ
with_zeros room l = l ++ replicate (room - length l) 0

abbrev pub entries : List Owned → List Endpoint
entries [] = []
entries (e ∷ es) = record { address = e.address; ring = e.ring; handle = e.handle } ∷ entries es

abbrev pub owners : List Owned → List ℕ
owners [] = []
owners (e ∷ es) = e.interface ∷ owners es

abbrev pub interfaces_held : List Holding → List ℕ
interfaces_held [] = []
interfaces_held (h ∷ hs) = h.interface ∷ interfaces_held hs

abbrev pub alternates_held : List Holding → List ℕ
alternates_held [] = []
alternates_held (h ∷ hs) = h.alternate ∷ alternates_held hs

abbrev pub device_of : Standing → Device
device_of s =
    record {
      usable = s.usable;
      up = s.up;
      slot = record { 0 = 1 };
      max_slots = 2;
      spacing = 32;
      port_speed = s.speed;
      configured = s.configured;
      current_config_value = s.value;
      list = with_zeros 256 s.list;
      list_len = length s.list;
      eps = entries s.endpoints ++ replicate (30 - length s.endpoints) (record { address = 0; ring = 0; handle = Active });
      ep_interfaces = with_zeros 30 (owners s.endpoints);
      ep_count = length s.endpoints;
      interfaces = with_zeros 32 (interfaces_held s.held);
      alternates = with_zeros 32 (alternates_held s.held);
      held_count = length s.held;
      control = 16;
      control_handle = s.control;
      quarantined = with_zeros 61 s.quarantined;
      quarantined_count = length s.quarantined;
      given = with_zeros 64 s.given;
      given_count = length s.given;
    }

-- The table: the slot's words, and those of the other slots, each another number.
abbrev pub own_words : ℕ → ℕ → List Queue → List ℕ
own_words zero d routes = []
own_words (suc k) d routes = ring_in d routes ∷ own_words k (d + 1) routes

abbrev pub table_of : Standing → List ℕ
table_of s = rising 32 4096 ++ (own_words 32 0 s.routes ++ rising 32 8192)

-- The log: what was lent, with the words that a call logs before the rest of it.
abbrev pub lent_log : List ℕ
lent_log = rising 64 0xA0000000

abbrev pub logged : List ℕ → List ℕ
logged words = words ++ drop (length words) lent_log

abbrev pub same_entries : List Endpoint → List Endpoint → Bool
same_entries [] [] = true
same_entries [] (e ∷ es) = false
same_entries (e ∷ es) [] = false
same_entries (d ∷ ds) (e ∷ es) =
    (eqb d.address e.address && (eqb d.ring e.ring && same_flag (is_active d.handle) (is_active e.handle))) && same_entries ds es

-- Records that are the same in every place of every array.
abbrev pub same_device : Device → Device → Bool
same_device d e =
    (same_flag d.usable e.usable && (same_flag d.up e.up && same_flag d.configured e.configured))
    && ((eqb d.slot.0 e.slot.0 && (eqb d.max_slots e.max_slots && (eqb d.spacing e.spacing && eqb d.port_speed e.port_speed)))
    && ((eqb d.current_config_value e.current_config_value && (same_words d.list e.list && eqb d.list_len e.list_len))
    && ((same_entries d.eps e.eps && (same_words d.ep_interfaces e.ep_interfaces && eqb d.ep_count e.ep_count))
    && ((same_words d.interfaces e.interfaces && (same_words d.alternates e.alternates && eqb d.held_count e.held_count))
    && ((eqb d.control e.control && same_flag (is_active d.control_handle) (is_active e.control_handle))
    && ((same_words d.quarantined e.quarantined && eqb d.quarantined_count e.quarantined_count)
    && (same_words d.given e.given && eqb d.given_count e.given_count)))))))

-- The device: of an interface that is not listed nothing is known.
abbrev pub alternate_in : ℕ → List Known → Known
alternate_in j [] = unknown
alternate_in zero (k ∷ ks) = k
alternate_in (suc j) (k ∷ ks) = alternate_in j ks

abbrev pub device_state : Standing → DeviceState
device_state s = record { configuration = s.device_value; alternates = λ j. alternate_in j s.device_alternates }

-- A path: the commands that a call sends, with their outcomes, its answer, and where it leaves the slot.
pub record Path : Type 0 where
  pub sent : List Sent
  pub answer : Answer
  pub end : Standing

abbrev pub path : List Sent → Answer → Standing → Path
path sent answer end = record { sent = sent; answer = answer; end = end }

-- A call and where the slot stands before it, with its paths.
pub record Paths : Type 0 where
  pub begin : Standing
  pub asked : Asked
  pub paths : List Path

abbrev pub paths_of : Standing → Asked → List Path → Paths
paths_of begin asked paths = record { begin = begin; asked = asked; paths = paths }

abbrev pub path_holds : Standing → Asked → Path → Bool
path_holds begin asked p =
    let buffers : Buffers = record { ctx = ctx; log = lent_log; outcomes = outcomes_of p.sent } in
    let l = left asked buffers (device_of begin) (table_of begin) in
    same_answer l.answer p.answer
    && (eqb l.count (length p.sent)
    && (same_words l.log (logged (words_of p.sent))
    && (same_device l.device (device_of p.end)
    && (same_words l.routes (table_of p.end)
    && same_told (device_heard asked buffers l (device_state begin)) p.end.device_value p.end.device_alternates))))

abbrev pub each_path : Standing → Asked → List Path → Bool
each_path begin asked [] = true
each_path begin asked (p ∷ ps) = path_holds begin asked p && each_path begin asked ps

abbrev pub all_paths : List Paths → Bool
all_paths [] = true
all_paths (c ∷ cs) = each_path c.begin c.asked c.paths && all_paths cs

-- No path is missing. A path that is cut after some outcomes goes on where its last command is done, and where it fails: both are listed,
-- and so is the one that is cut at its first command. Since each path that is listed is the call's, every list of outcomes leads to one.
abbrev pub alike : List ℕ → List ℕ → Bool
alike [] [] = true
alike [] (b ∷ bs) = false
alike (a ∷ rest) [] = false
alike (a ∷ rest) (b ∷ bs) = same_flag (eqb a 0) (eqb b 0) && alike rest bs

-- Whether a path with such outcomes, done or failed, is listed.
abbrev pub is_listed : List ℕ → List Path → Bool
is_listed outcomes [] = false
is_listed outcomes (p ∷ ps) = cond (alike (outcomes_of p.sent) outcomes) true (is_listed outcomes ps)

abbrev pub is_cut : Path → Bool
is_cut p = eqb (number p.answer) 15

abbrev pub last_operation : List Sent → ℕ
last_operation [] = 0
last_operation (s ∷ []) = s.word / 2 ^ 28
last_operation (s ∷ t ∷ rest) = last_operation (t ∷ rest)

-- Of the operation `past` it is not asked what comes where it fails.
abbrev pub goes_on : (past : ℕ) → List Path → Path → Bool
goes_on past all p =
    is_listed (outcomes_of p.sent ++ (0 ∷ [])) all
    && cond (eqb (last_operation p.sent) past) true (is_listed (outcomes_of p.sent ++ (1 ∷ [])) all)

abbrev pub each_goes_on : (past : ℕ) → List Path → List Path → Bool
each_goes_on past all [] = true
each_goes_on past all (p ∷ ps) = cond (is_cut p) (goes_on past all p) true && each_goes_on past all ps

abbrev pub none_missing : (past : ℕ) → List Paths → Bool
none_missing past [] = true
none_missing past (c ∷ cs) = (is_listed [] c.paths && each_goes_on past c.paths c.paths) && none_missing past cs
