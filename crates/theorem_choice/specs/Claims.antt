-- The alternates of a choice can be claimed: one after the other on a record that holds nothing, no claim of them is refused with 8 or 9.
use Rattle.std.specs.Prelude.{ℕ, ◌+◌, ◌<◌, ◌≡◌, List, length, get_or}
use Rattle.answer.specs.declared.Answer.TheVariants as answer
use Rattle.device.specs.declared.record.Device.{Device}
use Rattle.device.specs.Claim.{claim}
use Rattle.choice_list.specs.declared.chosen.Chosen.{Chosen}
use Rattle.choice.specs.Choose.{Answered}
use Rattle.theorem_checks.specs.Checks.{IsListed, NoneOwned}

-- The record that an accepted claim makes of another, whatever the claim was lent.
pub record MadeBy (d e : Device) (interface alternate : ℕ) : Type 0 where
  pub ctx : List ℕ
  pub routes : List ℕ
  pub log : List ℕ
  pub outcomes : List ℕ
  pub accepted : (claim d ctx routes log outcomes interface alternate).answer ≡ answer.Accepted
  pub left : (claim d ctx routes log outcomes interface alternate).device ≡ e

-- The records that accepted claims of the first n names lead through, each with its alternate.
pub record ClaimedUpTo (d : Device) (names alternates : List ℕ) (n : ℕ) (records : ℕ → Device) : Type 0 where
  pub start : records 0 ≡ d
  pub each : (j : ℕ) → j < n → MadeBy (records j) (records (j + 1)) (get_or names j 0) (get_or alternates j 0)

-- What a claim asks of its alternate holds, so its answer is neither 8 nor 9.
pub record Claimable (d : Device) (interface alternate : ℕ) : Type 0 where
  pub listed : IsListed d interface alternate
  pub none_owned : NoneOwned d interface alternate
  pub found : (ctx routes log outcomes : List ℕ) → (claim d ctx routes log outcomes interface alternate).answer ≡ answer.NotFound → ⊥
  pub not_owned : (ctx routes log outcomes : List ℕ) → (claim d ctx routes log outcomes interface alternate).answer ≡ answer.InvalidParameter → ⊥

abbrev pub ChoiceClaimed : Type 0
ChoiceClaimed =
    (d : Device) (names : List ℕ) (longest : ℕ) (r : Chosen) → Answered d names longest r → r.answer ≡ 0 → d.held_count ≡ 0 →
    (n : ℕ) → n < length names → (records : ℕ → Device) → ClaimedUpTo d names r.alternates n records →
    Claimable (records n) (get_or names n 0) (get_or r.alternates n 0)
