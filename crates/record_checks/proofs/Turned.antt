-- Control's ring before the others or behind them.
use Prim.Native.Nat.{ℕ}
use mathlib.Core.Path.{◌≡◌, refl, sym, ap, ◌∙◌}
use mathlib.Core.Logic.{⊎_elim}
use mathlib.Core.Bool.{Bool, true, false, ◌&&◌, ◌||◌}
use mathlib.Core.List.{List, [], ◌∷◌, ◌++◌}
use native.Mathlib.Omega.{arith}
use lib.Dec.{eqb}
use Rattle.laws.specs.Distinct.{elem, distinct}
use Rattle.laws.proofs.Tests.{not_both}
use Rattle.laws.proofs.Cases.{false_if, or_right}
use Rattle.laws.proofs.Distinct.{elem_none, elem_here, elem_cases, elem_append, distinct_first, distinct_rest, distinct_cons, distinct_append}
use Rattle.record_ring.specs.Store.{given_ok, among}
use Rattle.record_checks.specs.Rings.{sound_rings}
use Rattle.record_checks.specs.Store.{sound_store}
use Rattle.record_checks.proofs.Together.{SoundRings, both_ways, rings_told, rings_sound, once_live, once_kept, once_fits, rings_ok_elem, rings_ok_each, distinct_left}

module _ (control : ℕ) (l : List ℕ) where
  turned_elem : (x : ℕ) → elem x (control ∷ l) ≡ elem x (l ++ (control ∷ []))
  unfolding elem
  turned_elem x = sym (elem_append x l (control ∷ []) ∙ swap (elem x l) (eqb x control))
    where
      swap : (a b : Bool) → (a || (b || false)) ≡ (b || a)
      swap true true = refl
      swap true false = refl
      swap false true = refl
      swap false false = refl

  last_out : distinct (l ++ (control ∷ [])) ≡ true → elem control l ≡ false
  last_out d = go l d
    where
      go : (m : List ℕ) → distinct (m ++ (control ∷ [])) ≡ true → elem control m ≡ false
      go [] d = false_if (elem control []) (λ e. elem_none control e)
      go (x ∷ m) d = false_if (elem control (x ∷ m)) (λ e. ⊎_elim first (λ h. not_both (elem control m) h (go m (distinct_rest x (m ++ (control ∷ [])) d))) (elem_cases control x m e))
        where
          first : control ≡ x → ⊥
          first e = not_both (elem x (m ++ (control ∷ []))) (rw (elem_append x m (control ∷ [])) (or_right (elem x m) (elem x (control ∷ [])) (rw (← e) (elem_here control [])))) (distinct_first x (m ++ (control ∷ [])) d)

  front : distinct (l ++ (control ∷ [])) ≡ true → distinct (control ∷ l) ≡ true
  front d = distinct_cons control l (last_out d) (distinct_left l (control ∷ []) d)

  back : distinct (control ∷ l) ≡ true → distinct (l ++ (control ∷ [])) ≡ true
  unfolding distinct elem
  back d =
      distinct_append l (control ∷ []) (distinct_rest control l d) refl
      (λ x h. false_if (elem x (control ∷ [])) (λ g. ⊎_elim (λ e. not_both (elem control l) (rw (← e) h) (distinct_first control l d)) (λ e. elem_none x e) (elem_cases x control [] g)))

-- The same rings in another order.
module _ (usable : Bool) (a b quarantined : List ℕ) (same : (x : ℕ) → elem x b ≡ elem x a) (apart : distinct a ≡ true → distinct b ≡ true) where
  other_order : SoundRings usable a quarantined → SoundRings usable b quarantined
  other_order s =
      record {
        few =
            let n = once_fits a quarantined b quarantined (apart s.live_distinct) s.apart
            (λ x h. once_live a quarantined x (sym (same x) ∙ h)) (λ x h. once_kept a quarantined x h) in
            omega (arith, n, s.few);
        live_ok = rings_ok_each b (λ x h. rings_ok_elem a s.live_ok x (sym (same x) ∙ h));
        live_distinct = apart s.live_distinct;
        ok = s.ok;
        apart = s.apart;
        free = s.free;
      }

pub sound_turned :
    (usable : Bool) (control : ℕ) (l quarantined : List ℕ) →
    sound_rings usable (control ∷ l) quarantined ≡ sound_rings usable (l ++ (control ∷ [])) quarantined
sound_turned usable control l quarantined =
    both_ways (sound_rings usable (control ∷ l) quarantined) (sound_rings usable (l ++ (control ∷ [])) quarantined)
    (λ e. rings_sound usable (l ++ (control ∷ [])) quarantined
    (other_order usable (control ∷ l) (l ++ (control ∷ [])) quarantined (λ x. sym (turned_elem control l x)) (back control l)
    (rings_told usable (control ∷ l) quarantined e)))
    (λ e. rings_sound usable (control ∷ l) quarantined
    (other_order usable (l ++ (control ∷ [])) (control ∷ l) quarantined (turned_elem control l) (front control l)
    (rings_told usable (l ++ (control ∷ [])) quarantined e)))

pub among_append : (l m given : List ℕ) → among (l ++ m) given ≡ (among l given && among m given)
unfolding among
among_append [] m given = refl
among_append (x ∷ l) m given = rw (among_append l m given) (go (elem x given))
  where
    go : (b : Bool) → (b && (among l given && among m given)) ≡ (b && among l given && among m given)
    go true = refl
    go false = refl

pub store_turned :
    (control : ℕ) (l quarantined given : List ℕ) → sound_store given (control ∷ l) quarantined ≡ sound_store given (l ++ (control ∷ [])) quarantined
unfolding among
store_turned control l quarantined given = rw (among_append l (control ∷ []) given) (swap (elem control given) (among l given))
  where
    swap : (a b : Bool) → (given_ok given && ((a && b) && among quarantined given)) ≡ (given_ok given && ((b && (a && true)) && among quarantined given))
    swap true true = refl
    swap true false = refl
    swap false true = refl
    swap false false = refl

-- As the code tests them: all rings together, then the given ones beside them.
module _ (usable : Bool) (control : ℕ) (l rings quarantined given : List ℕ) (front : rings ≡ control ∷ l) (t : Bool) (e : t ≡ sound_rings usable rings quarantined) where
  turned : t ≡ sound_rings usable (l ++ (control ∷ [])) quarantined
  turned = e ∙ ap (λ (m : List ℕ). sound_rings usable m quarantined) front ∙ sound_turned usable control l quarantined

  pub all_unsound : t ≡ false → false ≡ (sound_rings usable (l ++ (control ∷ [])) quarantined && sound_store given (l ++ (control ∷ [])) quarantined)
  all_unsound f = rw (sym turned ∙ f)

  pub all_sound : (s : Bool) → t ≡ true → s ≡ sound_store given rings quarantined →
      s ≡ (sound_rings usable (l ++ (control ∷ [])) quarantined && sound_store given (l ++ (control ∷ [])) quarantined)
  all_sound s f g =
      rw (sym turned ∙ f) (g ∙ ap (λ (m : List ℕ). sound_store given m quarantined) front ∙ store_turned control l quarantined given)
