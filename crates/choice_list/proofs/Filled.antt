-- The alternates, name by name.
use Rattle.std.specs.Prelude.{ℕ, zero, suc, ◌+◌, ◌<◌, ◌≤◌, ◌≡◌, List, length, get_or, set, map, replicate}
use mathlib.Core.Path.{refl, sym, ◌∙◌}
use native.Mathlib.Omega.{arith}
use native.Mathlib.Decide.{dec_lt, ℕ_discrete}
use Rattle.std.proofs.lemmas.List.{get_or-set_same, get_or-set_other, get_or-map, length-map}
use lib.ListN.{get_or-eq_default, length-set}
use Rattle.choice_list.specs.Chosen.{AlternatesAs}

pub zeros : (n k : ℕ) → get_or {A = ℕ} (replicate n 0) k 0 ≡ 0
zeros zero k = refl
zeros (suc n) zero = refl
zeros (suc n) (suc k) = zeros n k

module _ (f : ℕ → ℕ) (names : List ℕ) where
  pub record Filling (alternates : List ℕ) (j : ℕ) : Type 0 where
    pub room : length alternates ≡ 8
    pub each : (k : ℕ) → k < j → get_or alternates k 0 ≡ f (get_or names k 0)
    pub rest : (k : ℕ) → j ≤ k → get_or alternates k 0 ≡ 0

  pub filling_goes : (alternates : List ℕ) (j x : ℕ) → j < 8 → x ≡ f (get_or names j 0) → Filling alternates j → Filling (set alternates j x) (j + 1)
  filling_goes alternates j x h e l =
      record {
        room = simp length-set l.room;
        each = λ k g. here k g (ℕ_discrete k j);
        rest = λ k g. get_or-set_other alternates j k x 0 (λ q. omega arith) ∙ l.rest k (omega arith);
      }
    where
      here : (k : ℕ) → k < j + 1 → Dec (k ≡ j) → get_or (set alternates j x) k 0 ≡ f (get_or names k 0)
      here k g (yes q) = rw q (get_or-set_same alternates j x 0 (rw l.room h) ∙ e)
      here k g (no q) = get_or-set_other alternates j k x 0 q ∙ l.each k (omega (arith, q))

  pub filling_ends : (alternates : List ℕ) (j : ℕ) → length names ≤ j → j ≤ length names → Filling alternates j → AlternatesAs (map f names) alternates
  filling_ends alternates j h g l k = go (dec_lt k (length names))
    where
      go : Dec (k < length names) → get_or alternates k 0 ≡ get_or (map f names) k 0
      go (yes q) = l.each k (omega arith) ∙ sym (get_or-map f names k 0 0 q)
      go (no q) = l.rest k (omega (arith, q)) ∙ sym (get_or-eq_default (map f names) 0 (rw (length-map names f) (omega (arith, q))))
