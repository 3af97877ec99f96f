-- Every path of a set configuration, of a bring-up, of a hub update and of an unplugging: 01, "Course of each call".
use Rattle.std.specs.Prelude.{ℕ, Bool, true, false, List, [], ◌∷◌, ◌++◌}
use Rattle.def.specs.Speed.{HIGH, SUPER}
use Rattle.answer.specs.declared.Answer.TheVariants as answer
use Rattle.record_endpoint.specs.declared.entry.Handle.TheVariants.{Active, Revoked}
use Rattle.theorem_slot.specs.Call.{brings_up, configures, updates_hub, disconnects}
use Rattle.theorem_device_state.specs.DeviceState.{Known, unknown, known}
use Rattle.theorem_calls.specs.Words.{address, evaluate, configure, stop, resume, set_value, read_header, read_configuration, read_device, read_config, disable}
use Rattle.theorem_cases.specs.Lists.{route}
use Rattle.theorem_cases.specs.Added.{companions_behind}
use Rattle.theorem_cases.specs.Path.{Sent, done, fails, cut, Standing, Path, path, Paths, paths_of}
use Rattle.theorem_cases.specs.Slot.{first_words, all_words, rings, bring_up_with, usual_bring_up, standing, idle_as, idle, held_as, held, kept, lost, bare, with_word, with_value, first_alternates, telling, told, unheard, gone}
use Rattle.theorem_cases.specs.InterfacePaths.{one, second_fails, broken}

-- Value 2 is set while 0x02, 0x81 and 0x84 are held: all three are stopped, by rising address; or the third Stop fails.
abbrev pub third_fails : List Sent → List Sent
third_fails rest = done (stop 4) ∷ done (stop 3) ∷ fails 7 (stop 9) ∷ rest

abbrev pub all_stopped : List Sent → List Sent
all_stopped rest = done (stop 4) ∷ done (stop 3) ∷ done (stop 9) ∷ rest

abbrev pub all_dropped : List Sent → List Sent
all_dropped rest = all_stopped (done configure ∷ rest)

abbrev pub not_set : List Sent → List Sent
not_set rest = all_dropped (fails 7 (set_value 2) ∷ rest)

-- The settings are ended once SetConfiguration is done and the routes are out; the value is the record's once the Evaluate is done, and
-- where it is not, the ended rings are in quarantine, by rising address. The device has the value from the SetConfiguration on, with every
-- interface at alternate 0.
abbrev pub ended : (usable : Bool) → (quarantined : List ℕ) → Standing
ended usable quarantined = telling (known 2) first_alternates (idle_as usable quarantined)

abbrev pub set_paths : List Path
set_paths =
    -- a Stop fails: what was stopped is resumed; the answer is 14
    path (cut (stop 4) ∷ []) answer.Cut (lost Revoked Revoked Revoked)
    ∷ path (fails 7 (stop 4) ∷ []) answer.InterfaceBroken (lost Revoked Revoked Revoked)
    ∷ path (done (stop 4) ∷ cut (stop 3) ∷ []) answer.Cut (lost Revoked Revoked Revoked)
    ∷ path (second_fails (done (resume 4) ∷ [])) answer.InterfaceBroken (lost Active Revoked Revoked)
    ∷ path (second_fails (fails 5 (resume 4) ∷ [])) answer.InterfaceBroken (lost Revoked Revoked Revoked)
    ∷ path (second_fails (cut (resume 4) ∷ [])) answer.Cut (lost Revoked Revoked Revoked)
    ∷ path (done (stop 4) ∷ done (stop 3) ∷ cut (stop 9) ∷ []) answer.Cut (lost Revoked Revoked Revoked)
    ∷ path (third_fails (done (resume 4) ∷ done (resume 3) ∷ [])) answer.InterfaceBroken (lost Active Active Revoked)
    ∷ path (third_fails (fails 5 (resume 4) ∷ [])) answer.InterfaceBroken (lost Revoked Revoked Revoked)
    ∷ path (third_fails (cut (resume 4) ∷ [])) answer.Cut (lost Revoked Revoked Revoked)
    ∷ path (third_fails (done (resume 4) ∷ fails 5 (resume 3) ∷ [])) answer.InterfaceBroken (lost Active Revoked Revoked)
    ∷ path (third_fails (done (resume 4) ∷ cut (resume 3) ∷ [])) answer.Cut (lost Active Revoked Revoked)
    -- Configure fails: all are resumed; its code is the answer, whether they are or not
    ∷ path (all_stopped (cut configure ∷ [])) answer.Cut (lost Revoked Revoked Revoked)
    ∷ path (all_stopped (fails 7 configure ∷ done (resume 4) ∷ done (resume 3) ∷ done (resume 9) ∷ [])) (answer.Failed 7) (kept Active Active Active)
    ∷ path (all_stopped (fails 7 configure ∷ fails 5 (resume 4) ∷ [])) (answer.Failed 7) (kept Revoked Revoked Revoked)
    ∷ path (all_stopped (fails 7 configure ∷ done (resume 4) ∷ fails 5 (resume 3) ∷ [])) (answer.Failed 7) (kept Active Revoked Revoked)
    ∷ path (all_stopped (fails 7 configure ∷ done (resume 4) ∷ done (resume 3) ∷ fails 5 (resume 9) ∷ [])) (answer.Failed 7) (kept Active Active Revoked)
    ∷ path (all_stopped (fails 7 configure ∷ cut (resume 4) ∷ [])) answer.Cut (lost Revoked Revoked Revoked)
    ∷ path (all_stopped (fails 7 configure ∷ done (resume 4) ∷ cut (resume 3) ∷ [])) answer.Cut (lost Active Revoked Revoked)
    ∷ path (all_stopped (fails 7 configure ∷ done (resume 4) ∷ done (resume 3) ∷ cut (resume 9) ∷ [])) answer.Cut (lost Active Active Revoked)
    -- SetConfiguration fails: a Configure back, and all are resumed; 14 if one of these fails
    ∷ path (all_dropped (cut (set_value 2) ∷ [])) answer.Cut (unheard (lost Revoked Revoked Revoked))
    ∷ path (not_set (cut configure ∷ [])) answer.Cut (lost Revoked Revoked Revoked)
    ∷ path (not_set (fails 5 configure ∷ [])) answer.InterfaceBroken (lost Revoked Revoked Revoked)
    ∷ path (not_set (done configure ∷ done (resume 4) ∷ done (resume 3) ∷ done (resume 9) ∷ [])) (answer.Failed 7) (kept Active Active Active)
    ∷ path (not_set (done configure ∷ fails 5 (resume 4) ∷ [])) answer.InterfaceBroken (lost Revoked Revoked Revoked)
    ∷ path (not_set (done configure ∷ done (resume 4) ∷ fails 5 (resume 3) ∷ [])) answer.InterfaceBroken (lost Active Revoked Revoked)
    ∷ path (not_set (done configure ∷ done (resume 4) ∷ done (resume 3) ∷ fails 5 (resume 9) ∷ [])) answer.InterfaceBroken (lost Active Active Revoked)
    ∷ path (not_set (done configure ∷ cut (resume 4) ∷ [])) answer.Cut (lost Revoked Revoked Revoked)
    ∷ path (not_set (done configure ∷ done (resume 4) ∷ cut (resume 3) ∷ [])) answer.Cut (lost Active Revoked Revoked)
    ∷ path (not_set (done configure ∷ done (resume 4) ∷ done (resume 3) ∷ cut (resume 9) ∷ [])) answer.Cut (lost Active Active Revoked)
    -- SetConfiguration is done: the settings are ended, and the Evaluate is left
    ∷ path (all_dropped (done (set_value 2) ∷ cut evaluate ∷ [])) answer.Cut (ended false (48 ∷ 32 ∷ 64 ∷ []))
    ∷ path (all_dropped (done (set_value 2) ∷ fails 7 evaluate ∷ [])) answer.InterfaceBroken (ended false (48 ∷ 32 ∷ 64 ∷ []))
    ∷ path (all_dropped (done (set_value 2) ∷ done evaluate ∷ [])) answer.Accepted (with_value 2 (ended true []))
    ∷ []

-- The same where no interface holds anything.
abbrev pub idle_set_paths : List Path
idle_set_paths =
    path (cut configure ∷ []) answer.Cut (idle_as false [])
    ∷ path (fails 7 configure ∷ []) (answer.Failed 7) idle
    ∷ path (done configure ∷ cut (set_value 2) ∷ []) answer.Cut (unheard (idle_as false []))
    ∷ path (done configure ∷ fails 7 (set_value 2) ∷ cut configure ∷ []) answer.Cut (idle_as false [])
    ∷ path (done configure ∷ fails 7 (set_value 2) ∷ fails 5 configure ∷ []) answer.InterfaceBroken (idle_as false [])
    ∷ path (done configure ∷ fails 7 (set_value 2) ∷ done configure ∷ []) (answer.Failed 7) idle
    ∷ path (done configure ∷ done (set_value 2) ∷ cut evaluate ∷ []) answer.Cut (ended false [])
    ∷ path (done configure ∷ done (set_value 2) ∷ fails 7 evaluate ∷ []) answer.InterfaceBroken (ended false [])
    ∷ path (done configure ∷ done (set_value 2) ∷ done evaluate ∷ []) answer.Accepted (with_value 2 idle)
    ∷ []

-- What a bring-up that is not accepted leaves: control's route, and a record with what was read: the value or none, and the list so far.
-- Of the device the value is known that it said; its alternates are not.
abbrev pub read_as : (speed : ℕ) (configured : Bool) (value : ℕ) (list : List ℕ) (said : Known) → Standing
read_as speed configured value list said =
    record {
      usable = false;
      up = false;
      speed = speed;
      configured = configured;
      value = value;
      list = list;
      control = Active;
      endpoints = [];
      held = [];
      quarantined = [];
      given = rings;
      routes = route 1 16 ∷ [];
      device_value = said;
      device_alternates = unknown ∷ unknown ∷ unknown ∷ [];
    }

abbrev pub nothing_read : Standing
nothing_read = read_as HIGH false 0 [] unknown

abbrev pub value_read : Standing
value_read = read_as HIGH true 5 [] (known 5)

abbrev pub first_read : Standing
first_read = read_as HIGH true 5 (first_words []) (known 5)

abbrev pub all_read : Standing
all_read = read_as HIGH true 5 all_words (known 5)

-- SetConfiguration was done, though the record has not its value.
abbrev pub set_unread : Standing
set_unread = telling (known 1) first_alternates all_read

abbrev pub addressed : List Sent → List Sent
addressed rest = done address ∷ done read_header ∷ rest

abbrev pub device_read : List Sent → List Sent
device_read rest = addressed (done evaluate ∷ done read_configuration ∷ done read_device ∷ rest)

abbrev pub everything_read : List Sent → List Sent
everything_read rest = device_read (done (read_config 0) ∷ done (read_config 1) ∷ rest)

abbrev pub bring_up_paths : List Path
bring_up_paths =
    path (cut address ∷ []) answer.Cut nothing_read
    ∷ path (fails 7 address ∷ []) (answer.Failed 7) nothing_read
    ∷ path (done address ∷ cut read_header ∷ []) answer.Cut nothing_read
    ∷ path (done address ∷ fails 7 read_header ∷ []) (answer.Failed 7) nothing_read
    ∷ path (addressed (cut evaluate ∷ [])) answer.Cut nothing_read
    ∷ path (addressed (fails 7 evaluate ∷ [])) (answer.Failed 7) nothing_read
    ∷ path (addressed (done evaluate ∷ cut read_configuration ∷ [])) answer.Cut nothing_read
    ∷ path (addressed (done evaluate ∷ fails 7 read_configuration ∷ [])) (answer.Failed 7) nothing_read
    -- the configuration value is read
    ∷ path (addressed (done evaluate ∷ done read_configuration ∷ cut read_device ∷ [])) answer.Cut value_read
    ∷ path (addressed (done evaluate ∷ done read_configuration ∷ fails 7 read_device ∷ [])) (answer.Failed 7) value_read
    ∷ path (device_read (cut (read_config 0) ∷ [])) answer.Cut value_read
    ∷ path (device_read (fails 7 (read_config 0) ∷ [])) (answer.Failed 7) value_read
    -- and each configuration
    ∷ path (device_read (done (read_config 0) ∷ cut (read_config 1) ∷ [])) answer.Cut first_read
    ∷ path (device_read (done (read_config 0) ∷ fails 7 (read_config 1) ∷ [])) (answer.Failed 7) first_read
    -- then the first configuration is set, value 1
    ∷ path (everything_read (cut configure ∷ [])) answer.Cut all_read
    ∷ path (everything_read (fails 7 configure ∷ [])) (answer.Failed 7) all_read
    ∷ path (everything_read (done configure ∷ cut (set_value 1) ∷ [])) answer.Cut (unheard all_read)
    ∷ path (everything_read (done configure ∷ fails 7 (set_value 1) ∷ cut configure ∷ [])) answer.Cut all_read
    ∷ path (everything_read (done configure ∷ fails 7 (set_value 1) ∷ fails 5 configure ∷ [])) answer.InterfaceBroken all_read
    ∷ path (everything_read (done configure ∷ fails 7 (set_value 1) ∷ done configure ∷ [])) (answer.Failed 7) all_read
    ∷ path (everything_read (done configure ∷ done (set_value 1) ∷ cut evaluate ∷ [])) answer.Cut set_unread
    ∷ path (everything_read (done configure ∷ done (set_value 1) ∷ fails 7 evaluate ∷ [])) answer.InterfaceBroken set_unread
    ∷ path (everything_read (done configure ∷ done (set_value 1) ∷ done evaluate ∷ [])) answer.Accepted idle
    ∷ []

-- With an empty list it ends after ReadDevice, with the value that was read.
abbrev pub no_list : Standing
no_list =
    record {
      usable = true;
      up = true;
      speed = HIGH;
      configured = true;
      value = 5;
      list = [];
      control = Active;
      endpoints = [];
      held = [];
      quarantined = [];
      given = rings;
      routes = route 1 16 ∷ [];
      device_value = known 5;
      device_alternates = unknown ∷ unknown ∷ unknown ∷ [];
    }

-- Everything is stopped, control first, and past what fails; then Disable decides. The device is told nothing.
abbrev pub unplugged : (quarantined : List ℕ) → Standing
unplugged quarantined = gone held.device_alternates quarantined

abbrev pub all_stops : List Sent → List Sent
all_stops rest = done (stop 1) ∷ done (stop 4) ∷ done (stop 3) ∷ done (stop 9) ∷ rest

abbrev pub revoked : (quarantined : List ℕ) → Standing
revoked quarantined = held_as false Revoked Revoked Revoked Revoked quarantined

-- Where it begins with some rings in quarantine: control's ring and the endpoints', by rising address, follow them after 14.
abbrev pub unplugging_paths : (quarantined : List ℕ) → List Path
unplugging_paths quarantined =
    path (cut (stop 1) ∷ []) answer.Cut (revoked quarantined)
    ∷ path (done (stop 1) ∷ cut (stop 4) ∷ []) answer.Cut (revoked quarantined)
    ∷ path (done (stop 1) ∷ done (stop 4) ∷ cut (stop 3) ∷ []) answer.Cut (revoked quarantined)
    ∷ path (done (stop 1) ∷ done (stop 4) ∷ done (stop 3) ∷ cut (stop 9) ∷ []) answer.Cut (revoked quarantined)
    ∷ path (all_stops (cut disable ∷ [])) answer.Cut (revoked quarantined)
    ∷ path (all_stops (fails 7 disable ∷ [])) answer.InterfaceBroken (revoked (quarantined ++ (16 ∷ 48 ∷ 32 ∷ 64 ∷ [])))
    ∷ path (all_stops (done disable ∷ [])) answer.Accepted (unplugged quarantined)
    ∷ []

-- Past failed Stops.
abbrev pub failed_stops_paths : List Path
failed_stops_paths =
    path (fails 1 (stop 1) ∷ cut (stop 4) ∷ []) answer.Cut (revoked [])
    ∷ path (done (stop 1) ∷ fails 2 (stop 4) ∷ done (stop 3) ∷ fails 4 (stop 9) ∷ fails 7 disable ∷ []) answer.InterfaceBroken
    (revoked (16 ∷ 48 ∷ 32 ∷ 64 ∷ []))
    ∷ path (fails 1 (stop 1) ∷ fails 2 (stop 4) ∷ fails 3 (stop 3) ∷ fails 4 (stop 9) ∷ done disable ∷ []) answer.Accepted (unplugged [])
    ∷ []

-- After 14 it may be repeated: no ring enters quarantine twice.
abbrev pub again_paths : List Path
again_paths =
    path (all_stops (fails 7 disable ∷ [])) answer.InterfaceBroken (revoked (16 ∷ 48 ∷ 32 ∷ 64 ∷ []))
    ∷ path (all_stops (done disable ∷ [])) answer.Accepted (unplugged (16 ∷ 48 ∷ 32 ∷ 64 ∷ []))
    ∷ []

-- With nothing held.
abbrev pub idle_revoked : (quarantined : List ℕ) → Standing
idle_revoked quarantined = standing false true Revoked [] [] quarantined (route 1 16 ∷ []) first_alternates

abbrev pub idle_unplugging_paths : List Path
idle_unplugging_paths =
    path (cut (stop 1) ∷ []) answer.Cut (idle_revoked [])
    ∷ path (done (stop 1) ∷ cut disable ∷ []) answer.Cut (idle_revoked [])
    ∷ path (done (stop 1) ∷ fails 5 disable ∷ []) answer.InterfaceBroken (idle_revoked (16 ∷ []))
    ∷ path (fails 7 (stop 1) ∷ fails 5 disable ∷ []) answer.InterfaceBroken (idle_revoked (16 ∷ []))
    ∷ path (done (stop 1) ∷ done disable ∷ []) answer.Accepted (gone first_alternates [])
    ∷ []

abbrev pub hub_paths : List Path
hub_paths =
    path (cut evaluate ∷ []) answer.Cut (lost Active Active Active)
    ∷ path (fails 7 evaluate ∷ []) (answer.Failed 7) held
    ∷ path (done evaluate ∷ []) answer.Accepted held
    ∷ []

-- Each path of these calls.
abbrev pub device_paths : List Paths
device_paths =
    paths_of held (configures 2) set_paths
    ∷ paths_of idle (configures 2) idle_set_paths
    ∷ paths_of (unplugged []) (brings_up usual_bring_up) bring_up_paths
    ∷ paths_of held (updates_hub 4 false 666) hub_paths
    ∷ []

-- Each path of an unplugging, but for those with failed Stops; of a record that is usable, and of one that a claim broke.
abbrev pub unplugging_table : List Paths
unplugging_table =
    paths_of held disconnects (unplugging_paths [])
    ∷ paths_of (told 0 (known 1) broken) disconnects (unplugging_paths (96 ∷ 80 ∷ []))
    ∷ paths_of idle disconnects idle_unplugging_paths
    ∷ []

-- A header of 7 bytes, a packet byte of 8 at SuperSpeed, no configuration; a setting without an endpoint. Where the table has another
-- word than the record's ring, a set configuration answers 18 and keeps the settings, though the device has ended them; an unplugging
-- clears the slot's words whatever they are.
abbrev pub other_device_paths : List Paths
other_device_paths =
    paths_of (unplugged []) (brings_up (bring_up_with HIGH 7 64 all_words)) (one (path (addressed []) answer.ShortHeader nothing_read))
    ∷ paths_of (unplugged []) (brings_up (bring_up_with SUPER 8 8 (companions_behind all_words)))
    (one (path (addressed []) answer.PacketExponent (read_as SUPER false 0 [] unknown)))
    ∷ paths_of (unplugged []) (brings_up (bring_up_with HIGH 8 64 [])) (one (path (device_read []) answer.Accepted no_list))
    ∷ paths_of bare (configures 2) (one (path (done configure ∷ done (set_value 2) ∷ done evaluate ∷ []) answer.Accepted (with_value 2 idle)))
    ∷ paths_of (with_word 9 999 held) (configures 2)
    (one (path (all_dropped (done (set_value 2) ∷ [])) answer.InvalidEndpoint
    (with_word 9 999 (telling (known 2) first_alternates (kept Revoked Revoked Revoked)))))
    ∷ paths_of held disconnects failed_stops_paths
    ∷ paths_of (revoked (16 ∷ 48 ∷ 32 ∷ 64 ∷ [])) disconnects again_paths
    ∷ paths_of (with_word 0 999 (with_word 3 999 held)) disconnects (one (path (all_stops (done disable ∷ [])) answer.Accepted (unplugged [])))
    ∷ []
