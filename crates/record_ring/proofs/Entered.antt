-- Rings that enter quarantine, and rings that are not among others.
use Prim.Native.Nat.{ℕ, suc, ◌≤◌}
use mathlib.Core.Path.{◌≡◌, refl, sym, ◌∙◌}
use mathlib.Core.Logic.{◌⊎◌, inl, inr, ⊎_elim}
use mathlib.Core.Bool.{true, false, cond}
use mathlib.Core.List.{List, [], ◌∷◌, ◌++◌, append-nil, append_assoc}
use native.Mathlib.Omega.{arith}
use lib.ListN.{length, length-append}
use Rattle.laws.specs.Distinct.{elem, distinct}
use Rattle.laws.proofs.Tests.{and_left, and_right, and-true, not_both}
use Rattle.laws.proofs.Cases.{Decided, decided, false_if, or_left, or_right, or_cases}
use Rattle.laws.proofs.Distinct.{elem_none, elem_here, elem_there, elem_cases, elem_append, distinct_first, distinct_rest, distinct_cons, distinct_append}
use Rattle.record_ring.specs.Rings.{ring_ok, rings_ok, not_among, entered}

-- Rings of two lists are rings.
pub rings_ok_append : (l m : List ℕ) → rings_ok l ≡ true → rings_ok m ≡ true → rings_ok (l ++ m) ≡ true
unfolding rings_ok
rings_ok_append [] m e f = f
rings_ok_append (x ∷ l) m e f =
    and-true (ring_ok x) (rings_ok (l ++ m)) (and_left (ring_ok x) (rings_ok l) e)
    (rings_ok_append l m (and_right (ring_ok x) (rings_ok l) e) f)

rings_ok_one : (r : ℕ) → ring_ok r ≡ true → rings_ok (r ∷ []) ≡ true
unfolding rings_ok
rings_ok_one r e = rw e

-- What is in either list is in both together, and nothing else.
pub elem_left : (x : ℕ) (l m : List ℕ) → elem x l ≡ true → elem x (l ++ m) ≡ true
elem_left x l m e = rw (elem_append x l m) (or_left (elem x l) (elem x m) e)

pub elem_right : (x : ℕ) (l m : List ℕ) → elem x m ≡ true → elem x (l ++ m) ≡ true
elem_right x l m e = rw (elem_append x l m) (or_right (elem x l) (elem x m) e)

pub elem_either : (x : ℕ) (l m : List ℕ) → elem x (l ++ m) ≡ true → (elem x l ≡ true) ⊎ (elem x m ≡ true)
elem_either x l m e = or_cases (elem x l) (elem x m) (rw (elem_append x l m) at e)

elem_one : (x r : ℕ) → elem x (r ∷ []) ≡ true → x ≡ r
elem_one x r e = ⊎_elim (λ s. s) (λ s. elem_none x s) (elem_cases x r [] e)

distinct_one : (r : ℕ) → distinct (r ∷ []) ≡ true
unfolding distinct elem
distinct_one r = refl

-- One ring enters.
module _ (r : ℕ) (q : List ℕ) where
  abbrev pub with_one : List ℕ
  with_one = cond (elem r q) q (q ++ (r ∷ []))

  one_cases : (P : List ℕ → Type 0) → (elem r q ≡ true → P q) → (elem r q ≡ false → P (q ++ (r ∷ []))) → P with_one
  one_cases P there new = go (decided (elem r q))
    where
      go : Decided (elem r q) → P (cond (elem r q) q (q ++ (r ∷ [])))
      go (inl e) = rw e (there e)
      go (inr e) = rw e (new e)

  one_has : (x : ℕ) → elem x q ≡ true → elem x with_one ≡ true
  one_has x h = one_cases (λ l. elem x l ≡ true) (λ e. h) (λ e. elem_left x q (r ∷ []) h)

  one_new : elem r with_one ≡ true
  one_new = one_cases (λ l. elem r l ≡ true) (λ e. e) (λ e. elem_right r q (r ∷ []) (elem_here r []))

  one_from : (x : ℕ) → elem x with_one ≡ true → (elem x q ≡ true) ⊎ (x ≡ r)
  one_from x =
      one_cases (λ l. elem x l ≡ true → (elem x q ≡ true) ⊎ (x ≡ r)) (λ e h. inl h)
      (λ e h. ⊎_elim (λ s. inl s) (λ s. inr (elem_one x r s)) (elem_either x q (r ∷ []) h))

  one_distinct : distinct q ≡ true → distinct with_one ≡ true
  one_distinct d =
      one_cases (λ l. distinct l ≡ true) (λ e. d)
      (λ e. distinct_append q (r ∷ []) d (distinct_one r) (λ x h. false_if (elem x (r ∷ [])) (λ g. not_both (elem r q) (rw (← elem_one x r g) h) e)))

  one_ok : rings_ok q ≡ true → ring_ok r ≡ true → rings_ok with_one ≡ true
  one_ok o k = one_cases (λ l. rings_ok l ≡ true) (λ e. o) (λ e. rings_ok_append q (r ∷ []) o (rings_ok_one r k))

-- What was in quarantine stays, and what enters is there.
pub entered_has : (q rs : List ℕ) (x : ℕ) → elem x q ≡ true → elem x (entered q rs) ≡ true
unfolding entered
entered_has q [] x h = h
entered_has q (r ∷ rs) x h = entered_has (with_one r q) rs x (one_has r q x h)

pub entered_new : (q rs : List ℕ) (x : ℕ) → elem x rs ≡ true → elem x (entered q rs) ≡ true
unfolding entered
entered_new q [] x h = elem_none x h
entered_new q (r ∷ rs) x h =
    ⊎_elim (λ s. entered_has (with_one r q) rs x (rw s (one_new r q))) (λ s. entered_new (with_one r q) rs x s) (elem_cases x r rs h)

-- and nothing else
pub entered_from : (q rs : List ℕ) (x : ℕ) → elem x (entered q rs) ≡ true → (elem x q ≡ true) ⊎ (elem x rs ≡ true)
unfolding entered
entered_from q [] x h = inl h
entered_from q (r ∷ rs) x h = go (entered_from (with_one r q) rs x h)
  where
    go : (elem x (with_one r q) ≡ true) ⊎ (elem x rs ≡ true) → (elem x q ≡ true) ⊎ (elem x (r ∷ rs) ≡ true)
    go (inl s) = ⊎_elim (λ t. inl t) (λ t. inr (rw t (elem_here r rs))) (one_from r q x s)
    go (inr s) = inr (elem_there x r rs s)

-- No ring is twice in quarantine.
pub entered_distinct : (q rs : List ℕ) → distinct q ≡ true → distinct (entered q rs) ≡ true
unfolding entered
entered_distinct q [] d = d
entered_distinct q (r ∷ rs) d = entered_distinct (with_one r q) rs (one_distinct r q d)

-- Rings stay rings.
pub entered_ok : (q rs : List ℕ) → rings_ok q ≡ true → rings_ok rs ≡ true → rings_ok (entered q rs) ≡ true
unfolding entered rings_ok
entered_ok q [] o k = o
entered_ok q (r ∷ rs) o k =
    entered_ok (with_one r q) rs (one_ok r q o (and_left (ring_ok r) (rings_ok rs) k)) (and_right (ring_ok r) (rings_ok rs) k)

-- Rings that are there already change nothing.
pub entered_all : (q rs : List ℕ) → ((x : ℕ) → elem x rs ≡ true → elem x q ≡ true) → entered q rs ≡ q
unfolding entered
entered_all q [] h = refl
entered_all q (r ∷ rs) h = rw (h r (elem_here r rs)) (entered_all q rs (λ x g. h x (elem_there x r rs g)))

pub entered_again : (q rs : List ℕ) → entered (entered q rs) rs ≡ entered q rs
entered_again q rs = entered_all (entered q rs) rs (λ x h. entered_new q rs x h)

-- Rings that are not there, each once, come after those that are.
pub entered_fresh : (q rs : List ℕ) → distinct rs ≡ true → ((x : ℕ) → elem x rs ≡ true → elem x q ≡ false) → entered q rs ≡ q ++ rs
unfolding entered
entered_fresh q [] d h = sym (append-nil q)
entered_fresh q (r ∷ rs) d h =
    rw (h r (elem_here r rs))
    (entered_fresh (q ++ (r ∷ [])) rs (distinct_rest r rs d)
    (λ x g. false_if (elem x (q ++ (r ∷ []))) (λ s. old x g (elem_either x q (r ∷ []) s)))
    ∙ append_assoc q (r ∷ []) rs)
  where
    old : (x : ℕ) → elem x rs ≡ true → (elem x q ≡ true) ⊎ (elem x (r ∷ []) ≡ true) → ⊥
    old x g (inl s) = not_both (elem x q) s (h x (elem_there x r rs g))
    old x g (inr s) = not_both (elem r rs) (rw (← elem_one x r s) g) (distinct_first r rs d)

pub entered_none : (rs : List ℕ) → distinct rs ≡ true → entered [] rs ≡ rs
unfolding elem
entered_none rs d = entered_fresh [] rs d (λ x h. refl)

-- Quarantine grows.
one_longer : (r : ℕ) (q : List ℕ) → length q ≤ length (with_one r q)
one_longer r q = one_cases r q (λ l. length q ≤ length l) (λ e. omega arith) (λ e. simp length-append (omega arith))

pub entered_longer : (q rs : List ℕ) → length q ≤ length (entered q rs)
unfolding entered
entered_longer q [] = omega arith
entered_longer q (r ∷ rs) = omega (arith, one_longer r q, entered_longer (with_one r q) rs)

-- Some after the others.
pub entered_append : (q rs ss : List ℕ) → entered q (rs ++ ss) ≡ entered (entered q rs) ss
unfolding entered
entered_append q [] ss = refl
entered_append q (r ∷ rs) ss = entered_append (with_one r q) rs ss

-- Those that are not among others: each of them, in order.
module _ (others : List ℕ) where
  among_cases : (r : ℕ) (rs : List ℕ) (P : List ℕ → Type 0) → (elem r others ≡ true → P (not_among others rs)) →
      (elem r others ≡ false → P (r ∷ not_among others rs)) → P (not_among others (r ∷ rs))
  unfolding not_among
  among_cases r rs P there new = go (decided (elem r others)) there new
    where
      go : Decided (elem r others) → (elem r others ≡ true → P (not_among others rs)) → (elem r others ≡ false → P (r ∷ not_among others rs)) →
          P (cond (elem r others) (not_among others rs) (r ∷ not_among others rs))
      go (inl e) f g = rw e (f e)
      go (inr e) f g = rw e (g e)

  pub not_among_from : (rs : List ℕ) (x : ℕ) → elem x (not_among others rs) ≡ true → (elem x rs ≡ true) × (elem x others ≡ false)
  unfolding not_among
  not_among_from [] x h = elem_none x h
  not_among_from (r ∷ rs) x h =
      among_cases r rs (λ l. elem x l ≡ true → (elem x (r ∷ rs) ≡ true) × (elem x others ≡ false))
      (λ e h. let t = not_among_from rs x h in (elem_there x r rs t.0, t.1))
      (λ e h. ⊎_elim (λ s. (rw s (elem_here r rs), rw s e)) (λ s. let t = not_among_from rs x s in (elem_there x r rs t.0, t.1)) (elem_cases x r (not_among others rs) h))
      h

  pub not_among_has : (rs : List ℕ) (x : ℕ) → elem x rs ≡ true → elem x others ≡ false → elem x (not_among others rs) ≡ true
  unfolding not_among
  not_among_has [] x h n = elem_none x h
  not_among_has (r ∷ rs) x h n =
      among_cases r rs (λ l. elem x l ≡ true)
      (λ e. ⊎_elim (λ s. not_both (elem r others) e (rw (← s) n)) (λ s. not_among_has rs x s n) (elem_cases x r rs h))
      (λ e. ⊎_elim (λ s. rw s (elem_here r (not_among others rs))) (λ s. elem_there x r (not_among others rs) (not_among_has rs x s n)) (elem_cases x r rs h))

  pub not_among_distinct : (rs : List ℕ) → distinct rs ≡ true → distinct (not_among others rs) ≡ true
  unfolding not_among
  not_among_distinct [] d = d
  not_among_distinct (r ∷ rs) d =
      let rest = not_among_distinct rs (distinct_rest r rs d) in
      among_cases r rs (λ l. distinct l ≡ true) (λ e. rest)
      (λ e. distinct_cons r (not_among others rs) (false_if (elem r (not_among others rs)) (λ h. not_both (elem r rs) (not_among_from rs r h).0 (distinct_first r rs d))) rest)

  pub not_among_ok : (rs : List ℕ) → rings_ok rs ≡ true → rings_ok (not_among others rs) ≡ true
  unfolding not_among rings_ok
  not_among_ok [] o = o
  not_among_ok (r ∷ rs) o =
      let rest = not_among_ok rs (and_right (ring_ok r) (rings_ok rs) o) in
      among_cases r rs (λ l. rings_ok l ≡ true) (λ e. rest)
      (λ e. and-true (ring_ok r) (rings_ok (not_among others rs)) (and_left (ring_ok r) (rings_ok rs) o) rest)

  pub not_among_short : (rs : List ℕ) → length (not_among others rs) ≤ length rs
  unfolding not_among
  not_among_short [] = omega arith
  not_among_short (r ∷ rs) =
      let rest = not_among_short rs in
      among_cases r rs (λ l. length l ≤ suc (length rs)) (λ e. omega (arith, rest)) (λ e. omega (arith, rest))
