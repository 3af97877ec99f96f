-- Each answer that a call may give is given: a call for each, by kind, on the device of Example.antt.
use Rattle.std.specs.Prelude.{ℕ, Bool, false, ◌&&◌, List, [], ◌∷◌, Some, None}
use Rattle.def.specs.Speed.{HIGH, SUPER}
use Rattle.answer.specs.Answer.{number}
use Rattle.device.specs.Device.{no_device}
use Rattle.device.specs.Left.{Left}
use Rattle.device.specs.Ask.{asking}
use Rattle.theorem_slot.specs.Call.{Buffers, Asked, brings_up, claims, commits, releases, configures, updates_hub, disconnects, left}
use Rattle.theorem_calls.specs.Possible.{answers_of}
use Rattle.theorem_cases.specs.Cases.{same_words}
use Rattle.theorem_cases.specs.Example.{list, super_list, given, asked, usual, ctx, log, free, done, alone, brought_up, second}

-- What is lent: with some outcomes; with all done; and with no context, or no log.
abbrev pub lent : List ℕ → Buffers
lent outcomes = record { ctx = ctx; log = log; outcomes = outcomes }

abbrev pub enough : Buffers
enough = lent done

abbrev pub short_context : Buffers
short_context = record enough { ctx = [] }

abbrev pub short_log : Buffers
short_log = record enough { log = [] }

-- By rising number, as `answers_of` has them.
abbrev pub bring_ups : List Left
bring_ups =
    brought_up
    ∷ left (brings_up usual) short_context no_device free
    ∷ left (brings_up usual) enough no_device []
    ∷ left (brings_up usual) short_log no_device free
    ∷ left (brings_up (asked 1 HIGH 8 None (0xC0000000 ∷ []))) enough no_device free
    ∷ left (brings_up (asked 1 HIGH 8 (Some 0) list)) enough no_device free
    ∷ left (brings_up (asked 1 0 8 None list)) enough no_device free
    ∷ left (brings_up (given [] 1 HIGH 8 None list)) enough no_device free
    ∷ left (brings_up (asked 0 HIGH 8 None list)) enough no_device free
    ∷ left (brings_up usual) (lent (7 ∷ [])) no_device free
    ∷ left (brings_up usual) (lent (0 ∷ 0 ∷ 0 ∷ 0 ∷ 0 ∷ 0 ∷ 0 ∷ 0 ∷ 7 ∷ [])) no_device free
    ∷ left (brings_up usual) (lent []) no_device free
    ∷ left (brings_up (asked 1 HIGH 9 None list)) enough no_device free
    ∷ left (brings_up usual) enough no_device brought_up.routes
    ∷ left (brings_up (asked 1 SUPER 8 None super_list)) enough no_device free
    ∷ left (brings_up (asked 1 SUPER 8 None list)) enough no_device free
    ∷ []

abbrev pub claimings : List Left
claimings =
    second
    ∷ left (claims 0 0) short_context brought_up.device brought_up.routes
    ∷ left (claims 0 0) enough brought_up.device []
    ∷ left (claims 0 0) short_log brought_up.device brought_up.routes
    ∷ left (claims 0 9) enough brought_up.device brought_up.routes
    ∷ left (claims 1 0) enough second.device second.routes
    ∷ left (claims 0 0) enough no_device brought_up.routes
    ∷ left (claims 0 0) (lent (7 ∷ [])) brought_up.device brought_up.routes
    ∷ left (claims 0 0) (lent (0 ∷ 7 ∷ 8 ∷ [])) brought_up.device brought_up.routes
    ∷ left (claims 0 0) (lent []) brought_up.device brought_up.routes
    ∷ left (claims 0 0) enough alone.device alone.routes
    ∷ []

abbrev pub commit_00 : Asked
commit_00 = commits (asking 0 0 0 8 (32 ∷ []))

abbrev pub committings : List Left
committings =
    left commit_00 enough brought_up.device brought_up.routes
    ∷ left commit_00 short_context brought_up.device brought_up.routes
    ∷ left commit_00 enough brought_up.device []
    ∷ left commit_00 short_log brought_up.device brought_up.routes
    ∷ left (commits (asking 0 9 0 8 (32 ∷ []))) enough brought_up.device brought_up.routes
    ∷ left (commits (asking 1 0 0 8 (32 ∷ []))) enough second.device second.routes
    ∷ left commit_00 enough no_device brought_up.routes
    ∷ left commit_00 (lent (7 ∷ [])) brought_up.device brought_up.routes
    ∷ left commit_00 (lent (0 ∷ 7 ∷ 8 ∷ [])) brought_up.device brought_up.routes
    ∷ left commit_00 (lent []) brought_up.device brought_up.routes
    ∷ left commit_00 enough alone.device alone.routes
    ∷ left (commits (asking 0 0 0 8 (48 ∷ []))) enough brought_up.device brought_up.routes
    ∷ []

abbrev pub releasings : List Left
releasings =
    left (releases 0) enough second.device second.routes
    ∷ left (releases 0) short_context second.device second.routes
    ∷ left (releases 0) enough second.device []
    ∷ left (releases 0) short_log second.device second.routes
    ∷ left (releases 0) enough no_device second.routes
    ∷ left (releases 0) (lent (7 ∷ [])) second.device second.routes
    ∷ left (releases 0) (lent []) second.device second.routes
    ∷ left (releases 0) enough second.device brought_up.routes
    ∷ left (releases 1) enough second.device second.routes
    ∷ []

abbrev pub configurings : List Left
configurings =
    left (configures 1) enough second.device second.routes
    ∷ left (configures 1) short_context second.device second.routes
    ∷ left (configures 1) enough second.device []
    ∷ left (configures 1) short_log second.device second.routes
    ∷ left (configures 1) enough no_device second.routes
    ∷ left (configures 1) (lent (0 ∷ 7 ∷ 0 ∷ [])) second.device second.routes
    ∷ left (configures 1) (lent (7 ∷ [])) second.device second.routes
    ∷ left (configures 1) (lent []) second.device second.routes
    ∷ left (configures 1) enough second.device brought_up.routes
    ∷ []

abbrev pub updatings : List Left
updatings =
    left (updates_hub 4 false 666) enough brought_up.device brought_up.routes
    ∷ left (updates_hub 4 false 666) short_context brought_up.device brought_up.routes
    ∷ left (updates_hub 4 false 666) enough brought_up.device []
    ∷ left (updates_hub 4 false 666) short_log brought_up.device brought_up.routes
    ∷ left (updates_hub 4 false 1) enough brought_up.device brought_up.routes
    ∷ left (updates_hub 4 false 666) enough no_device brought_up.routes
    ∷ left (updates_hub 4 false 666) (lent (7 ∷ [])) brought_up.device brought_up.routes
    ∷ left (updates_hub 4 false 666) (lent []) brought_up.device brought_up.routes
    ∷ []

abbrev pub unpluggings : List Left
unpluggings =
    left disconnects enough brought_up.device brought_up.routes
    ∷ left disconnects short_context brought_up.device brought_up.routes
    ∷ left disconnects enough brought_up.device []
    ∷ left disconnects short_log brought_up.device brought_up.routes
    ∷ left disconnects enough no_device brought_up.routes
    ∷ left disconnects (lent (0 ∷ 7 ∷ [])) brought_up.device brought_up.routes
    ∷ left disconnects (lent []) brought_up.device brought_up.routes
    ∷ []

abbrev pub numbers : List Left → List ℕ
numbers [] = []
numbers (l ∷ ls) = number l.answer ∷ numbers ls

-- Some calls give the answers that a call of their kind may give, all of them.
abbrev pub each_given : List Left → Asked → Bool
each_given calls asked = same_words (numbers calls) (answers_of asked)

abbrev pub all_given : Bool
all_given =
    each_given bring_ups (brings_up usual)
    && (each_given claimings (claims 0 0)
    && (each_given committings commit_00
    && (each_given releasings (releases 0)
    && (each_given configurings (configures 1)
    && (each_given updatings (updates_hub 4 false 666) && each_given unpluggings disconnects)))))
