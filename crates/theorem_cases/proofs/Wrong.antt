-- Cases, lists, paths, orders of checks and answers that somebody could believe: none of them holds (Cases.antt).
use Rattle.std.specs.Prelude.{ℕ, Bool, true, false, ◌||◌, List, [], ◌∷◌, eqb, Some, None}
use Rattle.def.specs.Speed.{HIGH, SUPER, SUPER-PLUS}
use Rattle.descriptor.specs.Word.{with_companion}
use Rattle.answer.specs.declared.Answer.TheVariants as answer
use Rattle.transfer.specs.Routes.{route_of}
use Rattle.record_endpoint.specs.declared.entry.Handle.TheVariants.{Active}
use Rattle.device.specs.Claim.{claim}
use Rattle.device.specs.Disconnect.{disconnect}
use Rattle.device_bring_up.specs.BringUp.{bring_up}
use Rattle.theorem_slot.specs.Call.{brings_up, claims, releases, configures, updates_hub, disconnects, left}
use Rattle.theorem_slot.specs.Plain.{up, unplugged}
use Rattle.theorem_device_state.specs.DeviceState.{unknown, known}
use Rattle.theorem_calls.specs.Words.{configure, evaluate, stop, resume, set_interface, set_value, disable}
use Rattle.theorem_cases.specs.Added.{word_of, interrupt81, companion, plain_companion}
use Rattle.theorem_cases.specs.Cases as cases-of
use Rattle.theorem_cases.specs.Cases.{hubs, inner, added, logged, unplugs, answered, case_holds, same_words}
use Rattle.theorem_cases.specs.InterfacePaths.{not_switched}
use Rattle.theorem_cases.specs.DevicePaths.{all_dropped, ended}
use Rattle.theorem_cases.specs.Example.{ctx, log, alone, second}
use Rattle.theorem_cases.specs.Example as example
use Rattle.theorem_cases.specs.Faults.{faults, told, try, crowded, asked_of, fit, faults_hold}
use Rattle.theorem_cases.specs.Doubted.{held_either, held_as, control, rings_hold}
use Rattle.theorem_cases.specs.Given.{numbers, releasings, configurings}
use Rattle.theorem_cases.specs.Lists.{ListOfCalls, first_claim, hears, holding, route, alternates, while_up, none, device, listed_holds}
use Rattle.theorem_cases.specs.Path.{path, path_holds, paths_of, none_missing, done, cut, fails, device_of, table_of}
use Rattle.theorem_cases.specs.Slot.{held, lost, with_value, first_alternates, telling}
use Rattle.theorem_cases.specs.Slot as slot

abbrev pub any : List Bool → Bool
any [] = false
any (b ∷ bs) = b || any bs

-- A slot that is up, with nothing held and without control's route.
abbrev pub without_control : ListOfCalls
without_control =
    record {
      calls = first_claim ∷ hears (releases 0) example.done answer.Accepted ∷ [];
      phase = up;
      held = [];
      routed = [];
      enabled = 1 ∷ [];
      broken = false;
      free = 32 ∷ 48 ∷ 64 ∷ 80 ∷ 96 ∷ [];
      quarantined = [];
      device_value = known 1;
      device_alternates = known 0 ∷ known 0 ∷ known 0 ∷ [];
    }

abbrev pub wrong_cases : (ring : ℕ) → List Bool
wrong_cases ring =
    -- the nibbles of a route in the other order
    case_holds (cases-of.route hubs (Some inner) 2 0x42)
    -- the entry count with one above the last endpoint context in use
    ∷ case_holds (added 64 HIGH interrupt81 ring 0x00030000 0x0040003E 0x00400040 4)
    -- the alternate that was claimed, held although the switch failed
    ∷ case_holds (logged (cases-of.switched second) (0x40300000 ∷ 0x30000000 ∷ 0x60001000 ∷ 0x30000000 ∷ 0x60000000 ∷ []) 1)
    -- a claim whose undoing fails, answered as a failed one
    ∷ case_holds (answered (claim second.device ctx second.routes log (0 ∷ 0 ∷ 7 ∷ 5 ∷ []) 0 1) 13 7)
    -- one with too few free rings, answered as a bring-up with wrong ones
    ∷ case_holds (answered (claim alone.device ctx alone.routes log example.done 0 0) 10 0)
    -- a companion at High speed, passed over
    ∷ case_holds (answered (bring_up (example.asked 1 HIGH 8 None example.super_list) ctx example.free log example.done) 0 0)
    -- one that begins a list, answered as one elsewhere
    ∷ case_holds (answered (bring_up (example.asked 1 SUPER 8 None (plain_companion ∷ [])) ctx example.free log example.done) 26 0)
    -- an endpoint without one, accepted at speed 5
    ∷ case_holds (answered (bring_up (record (example.asked 1 SUPER-PLUS 8 None example.list) { packet = 9 }) ctx example.free log example.done) 0 0)
    -- one that takes a ring of its own
    ∷ case_holds (answered cases-of.super_pair 21 0)
    -- its burst at periodic endpoints only, and its mult at a bulk one
    ∷ case_holds (added 32 SUPER (with_companion (word_of 1 1 2 64 1 0) plain_companion) ring 0x00000000 0x00400036 0x00000000 3)
    ∷ case_holds (added 32 SUPER (with_companion (word_of 1 1 2 64 1 0) (companion 5 2 0)) ring 0x00000200 0x00400536 0x00000000 3)
    -- an unplugging that stops the endpoints only
    ∷ case_holds (unplugs (disconnect second.device ctx second.routes log example.done) (0x40300000 ∷ 0xC0000000 ∷ []) 0)
    ∷ []

abbrev pub wrong_lists : List Bool
wrong_lists =
    -- word 1 of the slot is not control's ring
    listed_holds without_control
    -- after a claim of alternate 0 the interface holds alternate 1
    ∷ listed_holds
    (while_up (hears (claims 2 0) example.done answer.Accepted ∷ []) (holding 2 1 ∷ []) (route 7 48 ∷ []) (7 ∷ []) false
    (32 ∷ 64 ∷ 80 ∷ 96 ∷ []) [] (known 1) (alternates (known 0) (known 0) (known 0)))
    -- after a claim that breaks the rings that it drew are free
    ∷ listed_holds
    (while_up (first_claim ∷ hears (claims 0 1) (0 ∷ 0 ∷ 7 ∷ 5 ∷ []) answer.InterfaceBroken ∷ [])
    (holding 0 0 ∷ []) (route 3 32 ∷ []) (3 ∷ 4 ∷ []) true
    (48 ∷ 64 ∷ 80 ∷ 96 ∷ []) [] (known 1) (alternates unknown (known 0) (known 0)))
    -- after one that is cut at its Configure they are free
    ∷ listed_holds
    (while_up (first_claim ∷ hears (claims 0 1) (0 ∷ []) answer.Cut ∷ []) (holding 0 0 ∷ []) (route 3 32 ∷ []) (3 ∷ []) true
    (48 ∷ 64 ∷ 80 ∷ 96 ∷ []) [] (known 1) (alternates (known 0) (known 0) (known 0)))
    -- and after one that is cut in a Resume once its Configure failed
    ∷ listed_holds
    (while_up (first_claim ∷ hears (claims 0 1) (0 ∷ 7 ∷ []) answer.Cut ∷ []) (holding 0 0 ∷ []) (route 3 32 ∷ []) (3 ∷ []) true
    (48 ∷ 64 ∷ 80 ∷ 96 ∷ []) [] (known 1) (alternates (known 0) (known 0) (known 0)))
    -- the ring that a repeated address does not keep is in quarantine too
    ∷ listed_holds
    (while_up (hears (claims 2 0) (0 ∷ []) answer.Cut ∷ []) [] [] (7 ∷ []) true
    (64 ∷ 80 ∷ 96 ∷ []) (32 ∷ 48 ∷ []) (known 1) (alternates (known 0) (known 0) unknown))
    -- the rings that a broken set configuration ended are free
    ∷ listed_holds
    (while_up (first_claim ∷ hears (configures 1) (0 ∷ 0 ∷ 0 ∷ 7 ∷ []) answer.InterfaceBroken ∷ []) [] [] [] true
    (32 ∷ 48 ∷ 64 ∷ 80 ∷ 96 ∷ []) [] (known 1) (alternates (known 0) (known 0) (known 0)))
    -- a release of an interface that holds nothing is accepted, and the controller drops a held endpoint of the same address
    ∷ listed_holds
    (while_up (first_claim ∷ hears (releases 1) example.done answer.Accepted ∷ []) (holding 0 0 ∷ []) (route 3 32 ∷ []) [] false
    (48 ∷ 64 ∷ 80 ∷ 96 ∷ []) [] (known 1) (alternates (known 0) (known 0) (known 0)))
    -- a release after a refused bring-up, with the record that it returned, is accepted
    ∷ listed_holds
    (while_up (first_claim ∷ hears (brings_up device) example.done answer.QueueFull ∷ hears (releases 0) example.done answer.Accepted ∷ [])
    (holding 0 0 ∷ []) (route 3 32 ∷ []) (3 ∷ []) false
    (48 ∷ 64 ∷ 80 ∷ 96 ∷ []) [] (known 1) (alternates (known 0) (known 0) (known 0)))
    -- control's route is left after an unplugging
    ∷ listed_holds
    (none (first_claim ∷ hears disconnects example.done answer.Accepted ∷ hears (configures 1) example.done answer.Unusable ∷ [])
    unplugged (route 1 16 ∷ []) false (16 ∷ 32 ∷ 48 ∷ 64 ∷ 80 ∷ 96 ∷ []) (known 1) (alternates (known 0) (known 0) (known 0)))
    -- after an unplugging and a new bring-up the slot is still marked broken
    ∷ listed_holds
    (while_up
    (first_claim
    ∷ hears (claims 0 1) (0 ∷ 0 ∷ 7 ∷ 5 ∷ []) answer.InterfaceBroken
    ∷ hears disconnects example.done answer.Accepted
    ∷ hears (brings_up device) example.done answer.Accepted
    ∷ hears (claims 0 1) example.done answer.Accepted
    ∷ [])
    (holding 0 1 ∷ []) (route 3 32 ∷ route 4 48 ∷ []) (3 ∷ 4 ∷ []) true
    (64 ∷ 80 ∷ 96 ∷ []) [] (known 1) (alternates (known 1) (known 0) (known 0)))
    -- after a claim that is undone by a done SetInterface the device is at the alternate that was claimed
    ∷ listed_holds
    (while_up (first_claim ∷ hears (claims 0 1) (0 ∷ 0 ∷ 7 ∷ 0 ∷ 0 ∷ []) (answer.Failed 7) ∷ [])
    (holding 0 0 ∷ []) (route 3 32 ∷ []) (3 ∷ []) false
    (48 ∷ 64 ∷ 80 ∷ 96 ∷ []) [] (known 1) (alternates (known 1) (known 0) (known 0)))
    ∷ []

abbrev pub wrong_rings : List Bool
wrong_rings =
    -- after a claim that is cut at its Configure, which acted, the controller has the old ring
    rings_hold
    (held_as (first_claim ∷ hears (claims 0 1) (0 ∷ []) answer.Cut ∷ []) (control (route 3 32 ∷ [])) (control (route 3 32 ∷ [])))
    -- after one whose Configure failed it has the new ones
    ∷ rings_hold
    (held_either (first_claim ∷ hears (claims 0 1) (0 ∷ 7 ∷ 0 ∷ []) (answer.Failed 7) ∷ []) (control (route 3 48 ∷ route 4 64 ∷ [])))
    -- an endpoint that is dropped and added has none
    ∷ rings_hold (held_either (first_claim ∷ hears (claims 0 1) example.done answer.Accepted ∷ []) (control (route 4 64 ∷ [])))
    -- of a repeated address it has the first word's ring
    ∷ rings_hold (held_either (hears (claims 2 0) example.done answer.Accepted ∷ []) (control (route 7 32 ∷ [])))
    -- after an unplugging it has control's
    ∷ rings_hold (held_either (first_claim ∷ hears disconnects example.done answer.Accepted ∷ []) (control []))
    ∷ []

abbrev pub wrong_paths : List Bool
wrong_paths =
    -- another slot's route is out after a release
    eqb
    (route_of (left (releases 0) (record { ctx = ctx; log = log; outcomes = example.done }) (device_of held) (table_of held)).routes 2 3) 0
    -- a claim that is undone switches the device back to alternate 0, and not to the held one
    ∷ path_holds held (claims 0 0)
    (path (not_switched (done configure ∷ done (set_interface 0 0) ∷ [])) (answer.Failed 7) (slot.told 0 (known 0) held))
    -- one whose switch back fails is a failed one
    ∷ path_holds held (claims 0 0)
    (path (not_switched (done configure ∷ fails 5 (set_interface 0 1) ∷ [])) (answer.Failed 7) (slot.told 0 unknown held))
    -- a set configuration sends 1, whatever value was asked for
    ∷ path_holds held (configures 2)
    (path (all_dropped (done (set_value 1) ∷ done evaluate ∷ [])) answer.Accepted
    (telling (known 1) first_alternates (with_value 2 (ended true []))))
    -- a claim goes on past a failed Stop
    ∷ path_holds held (claims 0 0)
    (path (fails 7 (stop 4) ∷ done (stop 3) ∷ done configure ∷ done (set_interface 0 0) ∷ []) answer.Accepted held)
    -- a Stop's code is answered though a Resume after it fails
    ∷ path_holds held (claims 0 0)
    (path (done (stop 4) ∷ fails 7 (stop 3) ∷ fails 5 (resume 4) ∷ []) (answer.Failed 7) held)
    -- a set configuration resumes what it stopped, and goes on with the record
    ∷ path_holds held (configures 2)
    (path (done (stop 4) ∷ fails 7 (stop 3) ∷ done (resume 4) ∷ []) (answer.Failed 7) held)
    -- an unplugging stops the endpoints by rising Dci
    ∷ path_holds held disconnects
    (path (done (stop 1) ∷ done (stop 3) ∷ done (stop 4) ∷ done (stop 9) ∷ done disable ∷ []) answer.Accepted (slot.gone held.device_alternates []))
    -- a hub update whose Evaluate fails is no path
    ∷ none_missing 0
    (paths_of held (updates_hub 4 false 666)
    (path (cut evaluate ∷ []) answer.Cut (lost Active Active Active) ∷ path (done evaluate ∷ []) answer.Accepted held ∷ [])
    ∷ [])
    ∷ []

abbrev pub wrong_orders : List Bool
wrong_orders =
    -- the number of free rings before the addresses
    faults_hold
    (faults 21 9 (told (claims 2 0) (try crowded 1056 96 64)) (told (claims 2 0) (try held 1056 96 64)))
    -- companions before the rest of the list
    ∷ faults_hold
    (faults 26 4 (told (asked_of 1 SUPER None (16 ∷ []) (0x40000000 ∷ interrupt81 ∷ [])) fit) (told (asked_of 1 SUPER None (16 ∷ []) (0x40000000 ∷ [])) fit))
    -- the alternate before the length of the log
    ∷ faults_hold (faults 8 3 (told (claims 9 0) (try held 1056 96 63)) (told (claims 0 0) (try held 1056 96 63)))
    -- that an interface is claimed before the length of the log
    ∷ faults_hold (faults 25 3 (told (releases 2) (try held 1056 96 63)) (told (releases 0) (try held 1056 96 63)))
    ∷ []

abbrev pub wrong_answers : List Bool
wrong_answers =
    -- a release may break
    same_words (numbers releasings) (0 ∷ 1 ∷ 2 ∷ 3 ∷ 12 ∷ 13 ∷ 14 ∷ 15 ∷ 18 ∷ 25 ∷ [])
    -- a release may answer 8
    ∷ same_words (numbers releasings) (0 ∷ 1 ∷ 2 ∷ 3 ∷ 8 ∷ 12 ∷ 13 ∷ 15 ∷ 18 ∷ [])
    -- a set configuration never fails with a code
    ∷ same_words (numbers configurings) (0 ∷ 1 ∷ 2 ∷ 3 ∷ 12 ∷ 14 ∷ 15 ∷ 18 ∷ [])
    ∷ []
