-- A list of which the first configurations are read is valid at a speed where the whole is: what is read ends before a configuration, so no
-- companion is cut from its endpoint.
use Prim.Native.Nat.{ℕ, zero, suc, ◌+◌, ◌-◌, ◌≤◌}
use mathlib.Core.Path.{◌≡◌, refl, sym, ap, ◌∙◌}
use mathlib.Core.Bool.{Bool, true, false, not, cond, ◌&&◌, ◌||◌}
use mathlib.Core.List.{List, [], ◌∷◌, ◌++◌}
use mathlib.Core.Logic.{inl, inr}
use native.Mathlib.Omega.{arith}
use borrow.Author.Tests.{eqb-true, le-leb, leb-true, not-true}
use lib.Dec.{eqb, leb}
use lib.ListN.{length, replicate, length-append, length-replicate}
use Rattle.laws.proofs.Tests.{and_left, and_right, and-true, not_both}
use Rattle.laws.proofs.Cases.{Decided, decided}
use Rattle.def.specs.Speed.{is_super}
use Rattle.descriptor.specs.Word.{kind, is_companion, CONFIGURATION, ENDPOINT, COMPANION}
use Rattle.descriptor_list.specs.Valid.{begins_with_configuration, configurations, valid_list}
use Rattle.descriptor_list.specs.Companions.{joined, companions_ok, list_ok, follows, paired_after, paired, companions_fit, valid_at}
use Rattle.descriptor_list.specs.Promises.{passed_over}
use Rattle.descriptor_list.proofs.Passed.{valid_passed, configurations_passed, passed_both}
use Rattle.course_init.specs.Reading.{first_configurations}
use Rattle.theorem_driver.specs.Driven.{partly_read}
use Rattle.theorem_driver.proofs.Partly.{Behind, behind, zeros, zeros_begin, begin_both, few_configurations, partly_valid}

-- Words of kind 3 by themselves.
companions_both : (super : Bool) (x s t : List ℕ) → companions_ok super (x ++ s) ≡ true → companions_ok super t ≡ true →
    companions_ok super (x ++ t) ≡ true
unfolding companions_ok
companions_both super [] s t e f = f
companions_both super (w ∷ x) s t e f =
    and-true _ (companions_ok super (x ++ t)) (and_left _ (companions_ok super (x ++ s)) e)
    (companions_both super x s t (and_right _ (companions_ok super (x ++ s)) e) f)

zeros_companions : (super : Bool) (n : ℕ) → companions_ok super (zeros n) ≡ true
unfolding companions_ok is_companion kind
zeros_companions super zero = refl
zeros_companions super (suc n) = zeros_companions super n

-- Before a configuration, or the end, no endpoint waits for its companion.
none_waits : (p : ℕ) (s : List ℕ) → begins_with_configuration s ≡ true → paired_after p s ≡ true → eqb (kind p) ENDPOINT ≡ false
unfolding begins_with_configuration paired_after follows is_companion
none_waits p [] e f = not-true (eqb (kind p) ENDPOINT) f
none_waits p (w ∷ s) e f = go (decided (eqb (kind p) ENDPOINT))
  where
    go : Decided (eqb (kind p) ENDPOINT) → eqb (kind p) ENDPOINT ≡ false
    go (inl q) =
        let z : false ≡ true = rw (q, eqb-true (kind w) CONFIGURATION e) at (and_left (follows p w) _ f) in not_both false z refl
    go (inr q) = q

zeros_paired : (p n : ℕ) → eqb (kind p) ENDPOINT ≡ false → paired_after p (zeros n) ≡ true
unfolding paired_after follows is_companion kind
zeros_paired p zero e = rw e
zeros_paired p (suc n) e = rw e (zeros_paired 0 n refl)

paired_both : (p : ℕ) (x s t : List ℕ) → begins_with_configuration s ≡ true →
    ((q : ℕ) → eqb (kind q) ENDPOINT ≡ false → paired_after q t ≡ true) → paired_after p (x ++ s) ≡ true → paired_after p (x ++ t) ≡ true
unfolding paired_after
paired_both p [] s t b f e = f p (none_waits p s b e)
paired_both p (w ∷ x) s t b f e =
    and-true (follows p w) (paired_after w (x ++ t)) (and_left (follows p w) _ e)
    (paired_both w x s t b f (and_right (follows p w) _ e))

-- The words that are not of kind 3.
zeros_passed : (n : ℕ) → passed_over (zeros n) ≡ zeros n
unfolding passed_over kind
zeros_passed zero = refl
zeros_passed (suc n) = ap (λ z. 0 ∷ z) (zeros_passed n)

first_passed : (k : ℕ) (l : List ℕ) → passed_over (first_configurations k l) ≡ first_configurations k (passed_over l)
unfolding passed_over first_configurations
first_passed k [] = refl
first_passed zero (w ∷ l) = go (decided (eqb (kind w) COMPANION)) (decided (eqb (kind w) CONFIGURATION)) (first_passed zero l)
  where
    go : Decided (eqb (kind w) COMPANION) → Decided (eqb (kind w) CONFIGURATION) →
        passed_over (first_configurations zero l) ≡ first_configurations zero (passed_over l) →
        passed_over (cond (eqb (kind w) CONFIGURATION) [] (w ∷ first_configurations zero l))
        ≡ first_configurations zero (cond (eqb (kind w) COMPANION) (passed_over l) (w ∷ passed_over l))
    go (inl p) q e = let k = eqb-true (kind w) COMPANION p in rw k (rw k e)
    go (inr p) (inl q) e = rw (p, q)
    go (inr p) (inr q) e = rw (p, q) (rw p (ap (λ z. w ∷ z) e))
first_passed (suc k) (w ∷ l) =
    go (decided (eqb (kind w) COMPANION)) (decided (eqb (kind w) CONFIGURATION)) (first_passed k l) (first_passed (suc k) l)
  where
    go : Decided (eqb (kind w) COMPANION) → Decided (eqb (kind w) CONFIGURATION) →
        passed_over (first_configurations k l) ≡ first_configurations k (passed_over l) →
        passed_over (first_configurations (suc k) l) ≡ first_configurations (suc k) (passed_over l) →
        passed_over (w ∷ cond (eqb (kind w) CONFIGURATION) (first_configurations k l) (first_configurations (suc k) l))
        ≡ first_configurations (suc k) (cond (eqb (kind w) COMPANION) (passed_over l) (w ∷ passed_over l))
    go (inl p) q e f = let k = eqb-true (kind w) COMPANION p in rw k f
    go (inr p) (inl q) e f = rw (p, q) (ap (λ z. w ∷ z) e)
    go (inr p) (inr q) e f = rw (p, q) (ap (λ z. w ∷ z) f)

partly_passed : (k : ℕ) (l : List ℕ) → passed_over (partly_read k l) ≡ partly_read k (passed_over l)
unfolding partly_read
partly_passed k l =
    passed_both (first_configurations k l) (zeros (configurations l - k))
    ∙ rw (first_passed k l, zeros_passed (configurations l - k), configurations_passed l)

where_super : (b x y : Bool) → (x ≡ true → y ≡ true) → (not b || x) ≡ true → (not b || y) ≡ true
where_super true x y f e = f e
where_super false x y f e = refl

module _ (speed k : ℕ) (l : List ℕ) (v : valid_at speed l ≡ true) where
  b : Behind k l
  b = behind k l

  abbrev first : List ℕ
  first = first_configurations k l

  abbrev s : List ℕ
  s = b.rest

  abbrev n : ℕ
  n = configurations l - k

  listed : list_ok speed l ≡ true
  unfolding valid_at
  listed = and_left (list_ok speed l) _ v

  partly_listed : list_ok speed (partly_read k l) ≡ true
  unfolding list_ok partly_read
  partly_listed =
      let e : (begins_with_configuration l && (companions_ok (is_super speed) l && valid_list (joined l))) ≡ true =
      and_right (leb (length l) 256) _ listed in
      let e2 : (companions_ok (is_super speed) l && valid_list (joined l)) ≡ true = and_right (begins_with_configuration l) _ e in
      let short : length l ≤ 256 = leb-true (length l) 256 (and_left _ _ listed) in
      let same : length l ≡ length (first ++ s) = ap length b.whole in
      let size : length (first ++ zeros n) ≤ 256 =
      omega (
        arith,
        length-append first (zeros n),
        length-append first s,
        length-replicate {A = ℕ} n 0,
        few_configurations s,
        b.count,
        short,
        same,
      ) in
      let begins : begins_with_configuration (first ++ s) ≡ true = rw (← b.whole) (and_left (begins_with_configuration l) _ e) in
      let companions : companions_ok (is_super speed) (first ++ s) ≡ true = rw (← b.whole) (and_left (companions_ok (is_super speed) l) _ e2) in
      let valid : valid_list (joined (first ++ zeros n)) ≡ true =
      valid_passed (partly_read k l) ∙ ap valid_list (partly_passed k l)
      ∙ partly_valid k (passed_over l) (sym (valid_passed l) ∙ and_right (companions_ok (is_super speed) l) _ e2) in
      rw (
        le-leb (length (first ++ zeros n)) 256 size,
        begin_both first s (zeros n) begins (zeros_begin n),
        companions_both (is_super speed) first s (zeros n) companions (zeros_companions (is_super speed) n),
        valid,
      )

  partly_fits : companions_fit speed (partly_read k l) ≡ true
  unfolding valid_at companions_fit paired partly_read
  partly_fits =
      where_super (is_super speed) (paired_after 0 l) (paired_after 0 (first ++ zeros n))
      (λ e. paired_both 0 first s (zeros n) b.begins (λ q. zeros_paired q n) (rw (← b.whole) e))
      (and_right (list_ok speed l) _ v)

  pub partly_valid_at : valid_at speed (partly_read k l) ≡ true
  unfolding valid_at
  partly_valid_at = rw (partly_listed, partly_fits)
