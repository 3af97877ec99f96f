-- Which answers a call may give, whatever record and table it gets.
use Rattle.std.specs.Prelude.{ℕ, ◌≡◌, true, List, [], ◌∷◌}
use Rattle.laws.specs.Distinct.{elem}
use Rattle.answer.specs.Answer.{number}
use Rattle.device.specs.declared.record.Device.{Device}
use Rattle.theorem_slot.specs.Call.{Asked, brings_up, claims, commits, releases, configures, updates_hub, disconnects, Call, left}

-- By their numbers. Only a bring-up answers 16, 17, 19 and 26, and only it never 12; only a release and a set configuration 18, only a claim
-- and its commit 8, 9 and 21, only a commit 22, only a release 25. A release never breaks, an unplugging never fails with a code.
unfoldable pub answers_of : Asked → List ℕ
answers_of (brings_up a) =
    0 ∷ 1 ∷ 2 ∷ 3 ∷ 4 ∷ 5 ∷ 6 ∷ 10 ∷ 11 ∷ 13 ∷ 14 ∷ 15 ∷ 16 ∷ 17 ∷ 19 ∷ 26 ∷ []
answers_of (claims interface alternate) = 0 ∷ 1 ∷ 2 ∷ 3 ∷ 8 ∷ 9 ∷ 12 ∷ 13 ∷ 14 ∷ 15 ∷ 21 ∷ []
answers_of (commits p) = 0 ∷ 1 ∷ 2 ∷ 3 ∷ 8 ∷ 9 ∷ 12 ∷ 13 ∷ 14 ∷ 15 ∷ 21 ∷ 22 ∷ []
answers_of (releases interface) = 0 ∷ 1 ∷ 2 ∷ 3 ∷ 12 ∷ 13 ∷ 15 ∷ 18 ∷ 25 ∷ []
answers_of (configures value) = 0 ∷ 1 ∷ 2 ∷ 3 ∷ 12 ∷ 13 ∷ 14 ∷ 15 ∷ 18 ∷ []
answers_of (updates_hub ports multi ns) = 0 ∷ 1 ∷ 2 ∷ 3 ∷ 7 ∷ 12 ∷ 13 ∷ 15 ∷ []
answers_of disconnects = 0 ∷ 1 ∷ 2 ∷ 3 ∷ 12 ∷ 14 ∷ 15 ∷ []

abbrev pub OnlyThese : Type 0
OnlyThese =
    (c : Call) (d : Device) (routes : List ℕ) →
    elem (number (left c.asked c.buffers d routes).answer) (answers_of c.asked) ≡ true
