-- Every path of a claim, of a commit and of a release; 01, "Course of each call".
use Rattle.std.specs.Prelude.{true, false, List, [], ◌∷◌, ◌++◌}
use Rattle.answer.specs.declared.Answer.TheVariants as answer
use Rattle.record_endpoint.specs.declared.entry.Handle.{Handle}
use Rattle.record_endpoint.specs.declared.entry.Handle.TheVariants.{Active, Revoked}
use Rattle.device.specs.Ask.{asking}
use Rattle.theorem_slot.specs.Call.{claims, commits, releases}
use Rattle.theorem_device_state.specs.DeviceState.{unknown, known}
use Rattle.theorem_calls.specs.Words.{configure, stop, resume, set_interface}
use Rattle.theorem_cases.specs.Lists.{holding, route}
use Rattle.theorem_cases.specs.Path.{Sent, done, fails, cut, owned, Standing, Path, path, Paths, paths_of}
use Rattle.theorem_cases.specs.Slot.{standing, idle_as, idle, held_as, held, kept, lost, bare_as, bare, with_word, told}

-- Interface 0 is claimed at alternate 0 while it holds alternate 1: 80 is drawn for 0x83, 96 for 0x02.
abbrev pub switched : Standing
switched =
    standing true true Active (owned 0x02 96 0 Active ∷ owned 0x83 80 0 Active ∷ owned 0x84 64 1 Active ∷ [])
    (holding 1 0 ∷ holding 0 0 ∷ []) []
    (route 1 16 ∷ route 4 96 ∷ route 7 80 ∷ route 9 64 ∷ [])
    (known 0 ∷ known 0 ∷ known 0 ∷ [])

-- Lost with a Configure sent: both new rings are in quarantine, by rising address.
abbrev pub doubted : (h02 h81 h84 : Handle) → Standing
doubted h02 h81 h84 = held_as false Active h02 h81 h84 (96 ∷ 80 ∷ [])

-- Broken: the device may be at either alternate.
abbrev pub broken : Standing
broken = told 0 unknown (doubted Revoked Revoked Active)

-- The second Stop fails, and what comes after.
abbrev pub second_fails : List Sent → List Sent
second_fails rest = done (stop 4) ∷ fails 7 (stop 3) ∷ rest

-- Both old endpoints are stopped, 0x02 before 0x81.
abbrev pub stopped : List Sent → List Sent
stopped rest = done (stop 4) ∷ done (stop 3) ∷ rest

abbrev pub configured : List Sent → List Sent
configured rest = stopped (done configure ∷ rest)

abbrev pub not_switched : List Sent → List Sent
not_switched rest = configured (fails 7 (set_interface 0 0) ∷ rest)

-- Not all Stops are done: of a claim and of a release the same.
abbrev pub unstopped_paths : List Path
unstopped_paths =
    -- a Stop
    path (cut (stop 4) ∷ []) answer.Cut (lost Revoked Revoked Active)
    ∷ path (fails 7 (stop 4) ∷ []) (answer.Failed 7) (kept Active Active Active)
    ∷ path (done (stop 4) ∷ cut (stop 3) ∷ []) answer.Cut (lost Revoked Revoked Active)
    -- Stop 3 fails: what was stopped is resumed, and all old endpoints are active; a failed Resume's code is the answer
    ∷ path (second_fails (done (resume 4) ∷ [])) (answer.Failed 7) (kept Active Active Active)
    ∷ path (second_fails (fails 5 (resume 4) ∷ [])) (answer.Failed 5) (kept Active Active Active)
    ∷ path (second_fails (cut (resume 4) ∷ [])) answer.Cut (lost Revoked Revoked Active)
    ∷ []

abbrev pub claim_paths : List Path
claim_paths =
    unstopped_paths
    -- Configure fails: both are resumed, and only those are active; a failed Resume's code is the answer
    ++ (path (stopped (cut configure ∷ [])) answer.Cut (doubted Revoked Revoked Active)
    ∷ path (stopped (fails 7 configure ∷ done (resume 4) ∷ done (resume 3) ∷ [])) (answer.Failed 7) (kept Active Active Active)
    ∷ path (stopped (fails 7 configure ∷ fails 5 (resume 4) ∷ [])) (answer.Failed 5) (kept Revoked Revoked Active)
    ∷ path (stopped (fails 7 configure ∷ cut (resume 4) ∷ [])) answer.Cut (doubted Revoked Revoked Active)
    ∷ path (stopped (fails 7 configure ∷ done (resume 4) ∷ fails 5 (resume 3) ∷ [])) (answer.Failed 5) (kept Active Revoked Active)
    ∷ path (stopped (fails 7 configure ∷ done (resume 4) ∷ cut (resume 3) ∷ [])) answer.Cut (doubted Active Revoked Active)
    -- SetInterface fails: a Configure back, and the device back at alternate 1
    ∷ path (configured (cut (set_interface 0 0) ∷ [])) answer.Cut broken
    ∷ path (not_switched (cut configure ∷ [])) answer.Cut broken
    ∷ path (not_switched (fails 5 configure ∷ [])) answer.InterfaceBroken broken
    ∷ path (not_switched (done configure ∷ cut (set_interface 0 1) ∷ [])) answer.Cut broken
    ∷ path (not_switched (done configure ∷ fails 5 (set_interface 0 1) ∷ [])) answer.InterfaceBroken broken
    ∷ path (not_switched (done configure ∷ done (set_interface 0 1) ∷ [])) (answer.Failed 7) (kept Active Active Active)
    -- all done
    ∷ path (configured (done (set_interface 0 0) ∷ [])) answer.Accepted switched
    ∷ [])

-- All commands are done: what comes of it goes by the table.
abbrev pub all_done : List Sent
all_done = configured (done (set_interface 0 0) ∷ [])

-- Interface 0 is claimed at alternate 1 while nothing is held: 32 is drawn for 0x81, 48 for 0x02.
abbrev pub first_held : Standing
first_held =
    standing true true Active (owned 0x02 48 0 Active ∷ owned 0x81 32 0 Active ∷ []) (holding 0 1 ∷ []) []
    (route 1 16 ∷ route 3 32 ∷ route 4 48 ∷ []) (known 1 ∷ known 0 ∷ known 0 ∷ [])

abbrev pub first_broken : Standing
first_broken = told 0 unknown (idle_as false (48 ∷ 32 ∷ []))

abbrev pub first_not_switched : List Sent → List Sent
first_not_switched rest = done configure ∷ fails 7 (set_interface 0 1) ∷ rest

abbrev pub first_claim_paths : List Path
first_claim_paths =
    path (cut configure ∷ []) answer.Cut (idle_as false (48 ∷ 32 ∷ []))
    ∷ path (fails 7 configure ∷ []) (answer.Failed 7) idle
    ∷ path (done configure ∷ cut (set_interface 0 1) ∷ []) answer.Cut first_broken
    -- SetInterface fails: a Configure back, and no SetInterface, since nothing was held
    ∷ path (first_not_switched (cut configure ∷ [])) answer.Cut first_broken
    ∷ path (first_not_switched (fails 5 configure ∷ [])) answer.InterfaceBroken first_broken
    ∷ path (first_not_switched (done configure ∷ [])) (answer.Failed 7) (told 0 unknown idle)
    ∷ path (done configure ∷ done (set_interface 0 1) ∷ []) answer.Accepted first_held
    ∷ []

-- Interface 1 is claimed at alternate 0 while it holds alternate 1, without an endpoint: 32 is drawn for 0x84. The device is switched
-- back though nothing is stopped.
abbrev pub bare_not_switched : List Sent → List Sent
bare_not_switched rest = done configure ∷ fails 7 (set_interface 1 0) ∷ done configure ∷ rest

abbrev pub bare_broken : Standing
bare_broken = told 1 unknown (bare_as false (32 ∷ []))

abbrev pub bare_claim_paths : List Path
bare_claim_paths =
    path (cut configure ∷ []) answer.Cut (bare_as false (32 ∷ []))
    ∷ path (fails 7 configure ∷ []) (answer.Failed 7) bare
    ∷ path (done configure ∷ cut (set_interface 1 0) ∷ []) answer.Cut bare_broken
    ∷ path (done configure ∷ fails 7 (set_interface 1 0) ∷ cut configure ∷ []) answer.Cut bare_broken
    ∷ path (done configure ∷ fails 7 (set_interface 1 0) ∷ fails 5 configure ∷ []) answer.InterfaceBroken bare_broken
    ∷ path (bare_not_switched (cut (set_interface 1 1) ∷ [])) answer.Cut bare_broken
    ∷ path (bare_not_switched (fails 5 (set_interface 1 1) ∷ [])) answer.InterfaceBroken bare_broken
    ∷ path (bare_not_switched (done (set_interface 1 1) ∷ [])) (answer.Failed 7) bare
    ∷ path (done configure ∷ done (set_interface 1 0) ∷ []) answer.Accepted
    (standing true true Active (owned 0x84 32 1 Active ∷ []) (holding 1 0 ∷ []) [] (route 1 16 ∷ route 9 32 ∷ []) (known 0 ∷ known 0 ∷ known 0 ∷ []))
    ∷ []

-- Interface 2 is claimed at alternate 1, which has 0x85 twice: 80 and 96 are drawn, and the last word's is kept, in quarantine too.
abbrev pub repeated_paths : List Path
repeated_paths =
    path (done configure ∷ done (set_interface 2 1) ∷ []) answer.Accepted
    (standing true true Active (owned 0x02 48 0 Active ∷ owned 0x81 32 0 Active ∷ owned 0x84 64 1 Active ∷ owned 0x85 96 2 Active ∷ [])
    (holding 0 1 ∷ holding 1 0 ∷ holding 2 1 ∷ []) []
    (route 1 16 ∷ route 3 32 ∷ route 4 48 ∷ route 9 64 ∷ route 11 96 ∷ [])
    (known 1 ∷ known 0 ∷ known 1 ∷ []))
    ∷ path (done configure ∷ fails 7 (set_interface 2 1) ∷ fails 5 configure ∷ []) answer.InterfaceBroken
    (told 2 unknown (held_as false Active Active Active Active (96 ∷ [])))
    ∷ path (done configure ∷ cut (set_interface 2 1) ∷ []) answer.Cut (told 2 unknown (held_as false Active Active Active Active (96 ∷ [])))
    ∷ []

-- A release of interface 0: its old endpoints are stopped; interface 1's stays. It tells the device nothing, so that is still at alternate 1.
abbrev pub released : Standing
released =
    standing true true Active (owned 0x84 64 1 Active ∷ []) (holding 1 0 ∷ []) [] (route 1 16 ∷ route 9 64 ∷ [])
    (known 1 ∷ known 0 ∷ known 0 ∷ [])

abbrev pub release_paths : List Path
release_paths =
    unstopped_paths
    -- Configure fails: both are resumed; its own code is the answer, whether they are or not
    ++ (path (stopped (cut configure ∷ [])) answer.Cut (lost Revoked Revoked Active)
    ∷ path (stopped (fails 7 configure ∷ done (resume 4) ∷ done (resume 3) ∷ [])) (answer.Failed 7) (kept Active Active Active)
    ∷ path (stopped (fails 7 configure ∷ fails 5 (resume 4) ∷ [])) (answer.Failed 7) (kept Revoked Revoked Active)
    ∷ path (stopped (fails 7 configure ∷ cut (resume 4) ∷ [])) answer.Cut (lost Revoked Revoked Active)
    ∷ path (stopped (fails 7 configure ∷ done (resume 4) ∷ fails 5 (resume 3) ∷ [])) (answer.Failed 7) (kept Active Revoked Active)
    ∷ path (stopped (fails 7 configure ∷ done (resume 4) ∷ cut (resume 3) ∷ [])) answer.Cut (lost Active Revoked Active)
    -- all done
    ∷ path (configured []) answer.Accepted released
    ∷ [])

-- Of an interface that holds an alternate without an endpoint: one Configure.
abbrev pub bare_release_paths : List Path
bare_release_paths =
    path (cut configure ∷ []) answer.Cut (bare_as false [])
    ∷ path (fails 7 configure ∷ []) (answer.Failed 7) bare
    ∷ path (done configure ∷ []) answer.Accepted (told 1 (known 1) idle)
    ∷ []

abbrev pub one : Path → List Path
one p = p ∷ []

-- Where a slot stands before a path is where another path leaves it: after the bring-up (DevicePaths.antt) and the first claim,
-- interface 1 is claimed at alternate 0, or at alternate 1 alone.
abbrev pub interface_beginnings : List Paths
interface_beginnings =
    paths_of first_held (claims 1 0) (one (path (done configure ∷ done (set_interface 1 0) ∷ []) answer.Accepted held))
    ∷ paths_of idle (claims 1 1) (one (path (done configure ∷ done (set_interface 1 1) ∷ []) answer.Accepted bare))
    ∷ []

-- Each path of these calls.
abbrev pub interface_paths : List Paths
interface_paths =
    paths_of held (claims 0 0) claim_paths
    ∷ paths_of held (commits (asking 0 0 0x18 0x90 (80 ∷ 96 ∷ []))) claim_paths
    ∷ paths_of idle (claims 0 1) first_claim_paths
    ∷ paths_of bare (claims 1 0) bare_claim_paths
    ∷ paths_of held (releases 0) release_paths
    ∷ paths_of bare (releases 1) bare_release_paths
    -- interface 2 holds nothing, though its alternate 0 lists 0x81: no command
    ∷ paths_of held (releases 2) (one (path [] answer.NotClaimed held))
    ∷ []

-- Where the table has another word than the record's ring, a claim breaks, and a release answers 18 and keeps the setting. A new
-- endpoint's word must be 0, an old endpoint's, or its own ring already.
abbrev pub interface_mismatches : List Paths
interface_mismatches =
    paths_of (with_word 3 999 held) (claims 0 0) (one (path all_done answer.InterfaceBroken (with_word 3 999 (told 0 (known 0) broken))))
    ∷ paths_of (with_word 4 0 held) (claims 0 0) (one (path all_done answer.InterfaceBroken (with_word 4 0 (told 0 (known 0) broken))))
    ∷ paths_of (with_word 7 999 held) (claims 0 0) (one (path all_done answer.InterfaceBroken (with_word 7 999 (told 0 (known 0) broken))))
    ∷ paths_of (with_word 7 80 held) (claims 0 0) (one (path all_done answer.Accepted switched))
    ∷ paths_of (with_word 4 999 idle) (claims 0 1)
    (one (path (done configure ∷ done (set_interface 0 1) ∷ []) answer.InterfaceBroken (with_word 4 999 (told 0 (known 1) first_broken))))
    ∷ paths_of held (claims 2 1) repeated_paths
    ∷ paths_of (with_word 3 999 held) (releases 0)
    (one (path (configured []) answer.InvalidEndpoint (with_word 3 999 (kept Revoked Revoked Active))))
    ∷ []
