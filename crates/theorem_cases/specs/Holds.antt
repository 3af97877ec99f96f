-- All that the checker computes, as one test; proofs/Cases.antt says that it holds.
use Rattle.std.specs.Prelude.{ℕ, Bool, ◌&&◌, ◌++◌}
use Rattle.theorem_cases.specs.Cases.{cases, all_hold}
use Rattle.theorem_cases.specs.DevicePaths.{device_paths, unplugging_table, other_device_paths}
use Rattle.theorem_cases.specs.Doubted.{rings_held, all_rings}
use Rattle.theorem_cases.specs.Faults.{all_faults, fault_table}
use Rattle.theorem_cases.specs.Given.{all_given}
use Rattle.theorem_cases.specs.InterfacePaths.{interface_beginnings, interface_paths, interface_mismatches}
use Rattle.theorem_cases.specs.Lists.{lists, all_listed}
use Rattle.theorem_cases.specs.Path.{STOP, all_paths, none_missing}

-- Every path holds, and none is missing; of an unplugging's Stops not where they fail. No operation is 0.
abbrev pub paths_hold : Bool
paths_hold =
    all_paths (interface_beginnings ++ (interface_paths ++ (interface_mismatches ++ (device_paths ++ (unplugging_table ++ other_device_paths)))))
    && (none_missing 0 (interface_paths ++ device_paths) && none_missing STOP unplugging_table)

-- The ring of the added endpoint is any.
abbrev pub holds : (ring : ℕ) → Bool
holds ring = all_hold (cases ring) && (all_listed lists && (all_rings rings_held && (paths_hold && (all_faults fault_table && all_given))))
