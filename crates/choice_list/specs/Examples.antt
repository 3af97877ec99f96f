-- Candidates and choices of a list. proofs/Examples.antt computes them.
use Rattle.std.specs.Prelude.{ℕ, ◌≡◌, true, false, Some, None, List, [], ◌∷◌, map}
use Rattle.choice_search.specs.Search.{pick}
use Rattle.choice_list.specs.Candidate.{is_candidate}
use Rattle.choice_list.specs.Tried.{candidates, new_names}

-- Interface 0 with alternates 2 (0x81, interrupt, byte 16), 1 (0x82, interrupt, byte 4) and 0 (no endpoint); interface 1 with alternate 0 (0x82,
-- bulk, and 0x83, isochronous, both byte 16); a second configuration with interface 0 and, at place 11, interface 2.
abbrev pub words : List ℕ
words =
    0x00400000 ∷ 0x40008000 ∷ 0xA3C00040 ∷ 0x40004000 ∷ 0xA5C00010 ∷ 0x40000000 ∷ 0x40400000 ∷ 0xA5400040 ∷ 0xA6800040
    ∷ 0x00800000 ∷ 0x40000000 ∷ 0x40800000 ∷ []

-- At High speed: places 1 (its interval is 15), 3 and 5 of interface 0, place 6 of interface 1, whose endpoints have no say; none of the second
-- configuration.
abbrev pub CandidateExamples : Type 0
CandidateExamples =
    (is_candidate words 3 14 0 1 ≡ false) × (is_candidate words 3 15 0 1 ≡ true) × (is_candidate words 3 2 0 3 ≡ false)
    × (is_candidate words 3 3 0 3 ≡ true) × (is_candidate words 3 0 0 5 ≡ true) × (is_candidate words 3 0 1 6 ≡ true)
    × (is_candidate words 3 15 0 6 ≡ false) × (is_candidate words 3 15 0 10 ≡ false) × (is_candidate words 3 15 2 11 ≡ false)

-- The places picked for the names, each once.
abbrev pub picked : ℕ → List ℕ → List ℕ → Type 0
picked longest names places = pick (map (candidates words 3 longest) (new_names [] names)) 0 ≡ Some places

-- Place 3 has the address of place 6; a name that only the second configuration has.
abbrev pub PickExamples : Type 0
PickExamples =
    picked 15 (0 ∷ 1 ∷ []) (1 ∷ 6 ∷ []) × picked 3 (0 ∷ 1 ∷ []) (5 ∷ 6 ∷ []) × picked 3 (0 ∷ []) (3 ∷ [])
    × picked 15 (1 ∷ 0 ∷ 1 ∷ []) (6 ∷ 1 ∷ []) × picked 0 [] [] × (pick (map (candidates words 3 15) (new_names [] (0 ∷ 2 ∷ []))) 0 ≡ None)
