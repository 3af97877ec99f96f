-- Descriptor words, valid lists and lookup are what specs/Descriptors.antt says.
use Rattle.std.proofs.Common.{Some}
use Prim.Native.Nat.{ℕ, zero, suc, ◌+◌, ◌-◌, ◌%◌, ◌^◌, ◌≤◌, ◌<◌}
use mathlib.Core.Path.{◌≡◌, refl, sym, ap, ◌∙◌}
use mathlib.Core.Logic.{◌⊎◌, inl, inr}
use mathlib.Core.Bool.{Bool, true, false, not, cond, ◌&&◌}
use mathlib.Core.List.{List, [], ◌∷◌, ◌++◌}
use native.Mathlib.Decide.{dec_lt}
use native.Mathlib.Omega.{arith}
use borrow.Author.Tests.{eqb-true, eqb-false, eq-eqb, ne_eqb, le-leb, leb-true, not-true}
use lib.Dec.{eqb, leb}
use lib.ListN.{length, get_or, take, drop, length-drop, length-take}
use lib.Seq.{get_or-drop, get_or-take}
use Rattle.laws.specs.Distinct.{elem, distinct}
use Rattle.laws.proofs.Tests.{and_left, and_right, and-true, not_both}
use Rattle.laws.proofs.Cases.{Decided, decided, or_cases, false_if}
use Rattle.laws.proofs.Distinct.{elem_none, elem_here, elem_there, elem_cases, distinct_cons}
use Rattle.descriptor.specs.Endpoint.{dci_of}
use Rattle.context_block.specs.Blocks.{word_dci, some_dci}
use Rattle.descriptor.specs.Word.{direction_in, endpoint_descriptor, kind, interface_number, alternate_setting, endpoint_number, type_number, endpoint_ok, word_ok}
use Rattle.descriptor_list.specs.Lookup.{endpoint_run, of_interface, is_alternate, find_from, find_endpoints}
use Rattle.descriptor_list.specs.Valid.{begins_with_configuration, words_ok, run_fits, runs_fit, configurations, has_interface, interfaces, valid_list}
use Rattle.descriptor_list.specs.declared.EndpointWords.{EndpointWords}
use Rattle.descriptor_list.proofs.Laws.{run_inside, run_endpoints, found_start, found_inside, found_endpoints, found_end, found_alternate, found_first, has_at, interface_numbers, numbers_length, numbers_all, numbers_only, numbers_distinct}
use Rattle.record_settings.specs.Held.{found_words, is_found, setting_words}
use Rattle.record_settings.proofs.Laws.{found_at}
use Rattle.theorem_checks.specs.Descriptors.{bits, dci_of_word, IsConfiguration, IsAlternate, IsEndpoint, WordFits, Follows, AtMost, ConfigurationAt, HasInterface, ValidList, ValidTells, Listed, LookupTells}
use Rattle.theorem_checks.proofs.Numbers.{at_most_by, at_most_at}

-- The kinds.
pub kind_bits : (w : ℕ) → kind w ≡ bits 30 2 w
unfolding kind
kind_bits w = refl

alternate_made : (i a w : ℕ) → IsAlternate i a w → is_alternate i a w ≡ true
unfolding is_alternate of_interface kind interface_number alternate_setting
alternate_made i a w s =
    and-true (eqb (bits 30 2 w) 1 && eqb (bits 22 8 w) i) (eqb (bits 14 8 w) a)
    (and-true (eqb (bits 30 2 w) 1) (eqb (bits 22 8 w) i) (eq-eqb (bits 30 2 w) 1 s.kind) (eq-eqb (bits 22 8 w) i s.interface_is))
    (eq-eqb (bits 14 8 w) a s.alternate_is)

alternate_read : (i a w : ℕ) → is_alternate i a w ≡ true → IsAlternate i a w
unfolding is_alternate of_interface kind interface_number alternate_setting
alternate_read i a w e =
    let one : (eqb (bits 30 2 w) 1 && eqb (bits 22 8 w) i) ≡ true = and_left _ (eqb (bits 14 8 w) a) e in
    record {
      kind = eqb-true (bits 30 2 w) 1 (and_left _ (eqb (bits 22 8 w) i) one);
      interface_is = eqb-true (bits 22 8 w) i (and_right (eqb (bits 30 2 w) 1) _ one);
      alternate_is = eqb-true (bits 14 8 w) a (and_right (eqb (bits 30 2 w) 1 && eqb (bits 22 8 w) i) _ e);
    }

interface_read : (i w : ℕ) → of_interface i w ≡ true → (bits 30 2 w ≡ 1) × (bits 22 8 w ≡ i)
unfolding of_interface kind interface_number
interface_read i w e = (eqb-true (bits 30 2 w) 1 (and_left _ (eqb (bits 22 8 w) i) e), eqb-true (bits 22 8 w) i (and_right (eqb (bits 30 2 w) 1) _ e))

interface_made : (i w : ℕ) → bits 30 2 w ≡ 1 → bits 22 8 w ≡ i → of_interface i w ≡ true
unfolding of_interface kind interface_number
interface_made i w k n = and-true (eqb (bits 30 2 w) 1) (eqb (bits 22 8 w) i) (eq-eqb (bits 30 2 w) 1 k) (eq-eqb (bits 22 8 w) i n)

-- Its Dci.
pub word_dci_is : (w : ℕ) → word_dci w ≡ dci_of_word w
unfolding word_dci dci_of endpoint_descriptor direction_in endpoint_number
word_dci_is w =
    let i = bits 29 1 w in
    let n = bits 25 4 w in
    let small : n < 16 = omega arith in
    let in_one : i < 2 = omega arith in
    omega arith

pub no_dci : (w : ℕ) (ys : List ℕ) → ((j : ℕ) → j < length ys → dci_of_word (get_or ys j 0) ≡ dci_of_word w → ⊥) → some_dci (word_dci w) ys ≡ false
unfolding some_dci
no_dci w [] f = refl
no_dci w (y ∷ ys) f =
    rw (
      ne_eqb (word_dci y) (word_dci w) (λ e. f 0 (omega arith) (sym (word_dci_is y) ∙ e ∙ word_dci_is w)),
      no_dci w ys (λ j h. f (suc j) (omega arith)),
    )

-- A word by itself.
one_or_more : (n : ℕ) → not (eqb n 0) ≡ true → 1 ≤ n
one_or_more n e = let z : n ≡ 0 → ⊥ = eqb-false n 0 (not-true (eqb n 0) e) in omega arith

not_zero : (n : ℕ) → 1 ≤ n → not (eqb n 0) ≡ true
not_zero n h = rw (ne_eqb n 0 (λ e. omega arith)) refl

pub word_read : (w : ℕ) → word_ok w ≡ true → WordFits w
unfolding word_ok kind endpoint_ok endpoint_number type_number
word_read w e = go (decided (eqb (bits 30 2 w) 0)) (decided (eqb (bits 30 2 w) 1)) (decided (eqb (bits 30 2 w) 2))
  where
    go : Decided (eqb (bits 30 2 w) 0) → Decided (eqb (bits 30 2 w) 1) → Decided (eqb (bits 30 2 w) 2) → WordFits w
    go (inl p) q r =
        let u : eqb (w % 2 ^ 22) 0 ≡ true = rw p at e in
        inl (eqb-true _ _ p, eqb-true (w % 2 ^ 22) 0 u)
    go (inr n) (inl p) r = inr (inl (eqb-true _ _ p, eqb-true _ _ (rw (n, p) at e)))
    go (inr n) (inr m) (inl p) =
        let f : ((not (eqb (bits 25 4 w) 0) && not (eqb (bits 23 2 w) 0)) && eqb (w % 2 ^ 2) 0) ≡ true = rw (n, m, p) at e in
        let g = and_left (not (eqb (bits 25 4 w) 0) && not (eqb (bits 23 2 w) 0)) (eqb (w % 2 ^ 2) 0) f in
        inr (inr (record {
          kind = eqb-true _ _ p;
          number = one_or_more (bits 25 4 w) (and_left _ (not (eqb (bits 23 2 w) 0)) g);
          type = one_or_more (bits 23 2 w) (and_right (not (eqb (bits 25 4 w) 0)) _ g);
          unused = eqb-true _ _ (and_right (not (eqb (bits 25 4 w) 0) && not (eqb (bits 23 2 w) 0)) (eqb (w % 2 ^ 2) 0) f);
        }))
    go (inr n) (inr m) (inr p) = not_both false (rw (n, m, p) at e) refl

pub word_made : (w : ℕ) → WordFits w → word_ok w ≡ true
unfolding word_ok kind endpoint_ok endpoint_number type_number
word_made w (inl p) = rw (p.0, p.1)
word_made w (inr (inl p)) = rw (p.0, p.1)
word_made w (inr (inr p)) = rw (p.kind, not_zero (bits 25 4 w) p.number, not_zero (bits 23 2 w) p.type, p.unused)

-- The words of a list.
words_each : (l : List ℕ) → words_ok l ≡ true → (k : ℕ) → k < length l → WordFits (get_or l k 0)
unfolding words_ok
words_each [] e k h = absurd (omega arith)
words_each (w ∷ l) e zero h = word_read w (and_left (word_ok w) (words_ok l) e)
words_each (w ∷ l) e (suc k) h = words_each l (and_right (word_ok w) (words_ok l) e) k (omega arith)

each_word : (l : List ℕ) → ((k : ℕ) → k < length l → WordFits (get_or l k 0)) → words_ok l ≡ true
unfolding words_ok
each_word [] f = refl
each_word (w ∷ l) f =
    and-true (word_ok w) (words_ok l) (word_made w (f 0 (omega arith))) (each_word l (λ k h. f (suc k) (omega arith)))

-- Runs of endpoint words.
abbrev Runs : List ℕ → Type 0
Runs l = (k : ℕ) → k < length l → run_fits (bits 30 2 (get_or l k 0)) (endpoint_run (drop (suc k) l)) ≡ true

runs_each : (l : List ℕ) → runs_fit l ≡ true → Runs l
unfolding runs_fit kind
runs_each [] e k h = absurd (omega arith)
runs_each (w ∷ l) e zero h = and_left _ (runs_fit l) e
runs_each (w ∷ l) e (suc k) h = runs_each l (and_right (run_fits (bits 30 2 w) (endpoint_run l)) _ e) k (omega arith)

each_run : (l : List ℕ) → Runs l → runs_fit l ≡ true
unfolding runs_fit kind
each_run [] f = refl
each_run (w ∷ l) f = and-true (run_fits (bits 30 2 w) (endpoint_run l)) (runs_fit l) (f 0 (omega arith)) (each_run l (λ k h. f (suc k) (omega arith)))

run_configuration : (k run : ℕ) → k ≡ 0 → run_fits k run ≡ true → run ≡ 0
unfolding run_fits
run_configuration k run p e = eqb-true run 0 (rw p at e)

run_alternate : (k run : ℕ) → k ≡ 1 → run_fits k run ≡ true → run ≤ 30
unfolding run_fits
run_alternate k run p e = leb-true run 30 (rw p at e)

run_none : (k run : ℕ) → k ≡ 0 → run ≡ 0 → run_fits k run ≡ true
unfolding run_fits
run_none k run p e = rw (p, e)

run_few : (k run : ℕ) → k ≡ 1 → run ≤ 30 → run_fits k run ≡ true
unfolding run_fits
run_few k run p h = rw p (le-leb run 30 h)

run_any : (k run : ℕ) → k ≡ 2 → run_fits k run ≡ true
unfolding run_fits
run_any k run p = rw p

-- A run is as long as there are endpoint words.
run_long : (l : List ℕ) (n : ℕ) → n ≤ length l → ((j : ℕ) → j < n → IsEndpoint (get_or l j 0)) → n ≤ endpoint_run l
unfolding endpoint_run kind
run_long l zero h f = omega arith
run_long [] (suc n) h f = absurd (omega arith)
run_long (w ∷ l) (suc n) h f =
    let first : bits 30 2 w ≡ 2 = f 0 (omega arith) in
    let rest : n ≤ endpoint_run l = run_long l n (omega arith) (λ j g. f (suc j) (omega arith)) in
    rw first (omega arith)

run_word : (l : List ℕ) (s k : ℕ) → k < endpoint_run (drop s l) → (s + k < length l) × IsEndpoint (get_or l (s + k) 0)
unfolding kind
run_word l s k h =
    (omega (arith, run_inside (drop s l), length-drop s l), rw (get_or-drop s l k 0) at (run_endpoints (drop s l) k h))

two_kinds : {P : Type 0} (a b w : ℕ) → bits 30 2 w ≡ a → bits 30 2 w ≡ b → (a ≡ b → ⊥) → P
two_kinds a b w p q n = absurd (n (sym p ∙ q))

-- Each endpoint of a list whose runs fit is behind an alternate.
module _ (l : List ℕ) (words : (k : ℕ) → k < length l → WordFits (get_or l k 0)) (runs : Runs l)
    (begins : 0 < length l → IsConfiguration (get_or l 0 0)) where
  few_behind :
      (at k : ℕ) → at < k → k < length l → bits 30 2 (get_or l at 0) ≡ 1 →
      ((j : ℕ) → at < j → j < k → IsEndpoint (get_or l j 0)) → IsEndpoint (get_or l k 0) → k ≤ at + 30
  few_behind at k p h a b e =
      let n : k - at ≤ endpoint_run (drop (suc at) l) =
      run_long (drop (suc at) l) (k - at) (omega (arith, length-drop (suc at) l))
      (λ j g. rw (get_or-drop (suc at) l j 0) (here j g (dec_lt (suc at + j) k))) in
      omega (arith, n, run_alternate (bits 30 2 (get_or l at 0)) (endpoint_run (drop (suc at) l)) a (runs at (omega arith)))
    where
      here : (j : ℕ) → j < k - at → Dec (suc at + j < k) → IsEndpoint (get_or l (suc at + j) 0)
      here j g (yes q) = b (suc at + j) (omega arith) q
      here j g (no q) = let s : suc at + j ≡ k = omega arith in rw s e

  follows : (k : ℕ) → k < length l → IsEndpoint (get_or l k 0) → Follows l k
  follows zero h e = two_kinds 0 2 (get_or l 0 0) (begins h) e (λ z. omega (arith, z))
  follows (suc k) h e = go (words k (omega arith)) (follows k (omega arith))
    where
      between : (at : ℕ) → ((j : ℕ) → at < j → j < k → IsEndpoint (get_or l j 0)) → IsEndpoint (get_or l k 0) →
          (j : ℕ) → at < j → j < suc k → Dec (j < k) → IsEndpoint (get_or l j 0)
      between at f n j p q (yes r) = f j p r
      between at f n j p q (no r) = let s : j ≡ k = omega arith in rw s n

      go : WordFits (get_or l k 0) → (IsEndpoint (get_or l k 0) → Follows l k) → Follows l (suc k)
      go (inl c) g =
          let one : 1 ≤ endpoint_run (drop (suc k) l) =
          run_long (drop (suc k) l) 1 (omega (arith, length-drop (suc k) l))
          (λ j g. let z : j ≡ 0 = omega arith in rw (get_or-drop (suc k) l j 0, z) (let p : suc k + 0 ≡ suc k = omega arith in rw p e)) in
          absurd (omega (arith, one, run_configuration (bits 30 2 (get_or l k 0)) _ c.0 (runs k (omega arith))))
      go (inr (inl a)) g =
          record {
            at = k;
            before = omega arith;
            few = omega arith;
            alternate = a.0;
            between = λ j p q. absurd (omega arith);
          }
      go (inr (inr n)) g =
          let f = g n.kind in
          let b = λ (j : ℕ) (p : f.at < j) (q : j < suc k). between f.at f.between n.kind j p q (dec_lt j k) in
          record {
            at = f.at;
            before = omega (arith, f.before);
            few = few_behind f.at (suc k) (omega (arith, f.before)) h f.alternate b e;
            alternate = f.alternate;
            between = b;
          }

-- And a list in which each is has runs that fit.
module _ (l : List ℕ) (words : (k : ℕ) → k < length l → WordFits (get_or l k 0))
    (behind : (k : ℕ) → k < length l → IsEndpoint (get_or l k 0) → Follows l k) where
  no_run : (k : ℕ) → k < length l → bits 30 2 (get_or l k 0) ≡ 0 → 1 ≤ endpoint_run (drop (suc k) l) → ⊥
  no_run k h c n =
      let t = run_word l (suc k) 0 (omega arith) in
      let f = behind (suc k + 0) t.0 t.1 in
      go f.at f.before f.alternate f.between (dec_lt f.at k)
    where
      go : (at : ℕ) → at < suc k + 0 → bits 30 2 (get_or l at 0) ≡ 1 → ((j : ℕ) → at < j → j < suc k + 0 → IsEndpoint (get_or l j 0)) →
          Dec (at < k) → ⊥
      go at b a f (yes p) = two_kinds 0 2 (get_or l k 0) c (f k p (omega arith)) (λ z. omega (arith, z))
      go at b a f (no p) = let s : at ≡ k = omega arith in two_kinds 0 1 (get_or l k 0) c (rw s at a) (λ z. omega (arith, z))

  short_run : (k : ℕ) → k < length l → bits 30 2 (get_or l k 0) ≡ 1 → 31 ≤ endpoint_run (drop (suc k) l) → ⊥
  short_run k h a n =
      let t = run_word l (suc k) 30 (omega arith) in
      let f = behind (suc k + 30) t.0 t.1 in
      let i : ℕ = f.at - suc k in
      let s : suc k + i ≡ f.at = omega (arith, f.few) in
      let u = run_word l (suc k) i (omega (arith, f.before)) in
      two_kinds 1 2 (get_or l f.at 0) f.alternate (rw s at u.1) (λ z. omega (arith, z))

  made_runs : Runs l
  made_runs k h = go (words k h) (dec_lt 0 (endpoint_run (drop (suc k) l))) (dec_lt 30 (endpoint_run (drop (suc k) l)))
    where
      go : WordFits (get_or l k 0) → Dec (0 < endpoint_run (drop (suc k) l)) → Dec (30 < endpoint_run (drop (suc k) l)) →
          run_fits (bits 30 2 (get_or l k 0)) (endpoint_run (drop (suc k) l)) ≡ true
      go (inl c) (yes p) q = absurd (no_run k h c.0 (omega arith))
      go (inl c) (no p) q = run_none _ _ c.0 (omega arith)
      go (inr (inl a)) p (yes q) = absurd (short_run k h a.0 (omega arith))
      go (inr (inl a)) p (no q) = run_few _ _ a.0 (omega arith)
      go (inr (inr e)) p q = run_any _ _ e.kind

-- The configurations of a list, by place.
places_from : ℕ → List ℕ → List ℕ
places_from n [] = []
places_from n (w ∷ l) = cond (eqb (bits 30 2 w) 0) (n ∷ places_from (suc n) l) (places_from (suc n) l)

places_length : (n : ℕ) (l : List ℕ) → length (places_from n l) ≡ configurations l
unfolding places_from configurations kind
places_length n [] = refl
places_length n (w ∷ l) = go (eqb (bits 30 2 w) 0) (places_length (suc n) l)
  where
    go : (b : Bool) → length (places_from (suc n) l) ≡ configurations l →
        length (cond b (n ∷ places_from (suc n) l) (places_from (suc n) l)) ≡ cond b (suc (configurations l)) (configurations l)
    go true e = ap suc e
    go false e = e

record Placed (n : ℕ) (l : List ℕ) (x : ℕ) : Type 0 where
  pub at : ℕ
  pub inside : at < length l
  pub same : x ≡ n + at
  pub is : IsConfiguration (get_or l at 0)

placed_later : (n w : ℕ) (l : List ℕ) (x : ℕ) → Placed (suc n) l x → Placed n (w ∷ l) x
placed_later n w l x p =
    record { at = suc p.at; inside = omega (arith, p.inside); same = omega (arith, p.same); is = p.is }

places_only : (n : ℕ) (l : List ℕ) (x : ℕ) → elem x (places_from n l) ≡ true → Placed n l x
unfolding places_from
places_only n [] x e = elem_none x e
places_only n (w ∷ l) x e = go (decided (eqb (bits 30 2 w) 0)) (places_only (suc n) l x)
  where
    first : eqb (bits 30 2 w) 0 ≡ true → x ≡ n → Placed n (w ∷ l) x
    first p s = record { at = 0; inside = omega arith; same = omega arith; is = eqb-true (bits 30 2 w) 0 p }

    here : eqb (bits 30 2 w) 0 ≡ true → (elem x (places_from (suc n) l) ≡ true → Placed (suc n) l x) →
        (x ≡ n) ⊎ (elem x (places_from (suc n) l) ≡ true) → Placed n (w ∷ l) x
    here p f (inl s) = first p s
    here p f (inr s) = placed_later n w l x (f s)

    go : Decided (eqb (bits 30 2 w) 0) → (elem x (places_from (suc n) l) ≡ true → Placed (suc n) l x) → Placed n (w ∷ l) x
    go (inl p) f = here p f (elem_cases x n (places_from (suc n) l) (rw p at e))
    go (inr p) f = placed_later n w l x (f (rw p at e))

places_all : (n : ℕ) (l : List ℕ) (k : ℕ) → k < length l → IsConfiguration (get_or l k 0) → elem (n + k) (places_from n l) ≡ true
unfolding places_from
places_all n [] k h c = absurd (omega arith)
places_all n (w ∷ l) zero h c =
    let z : n + 0 ≡ n = omega arith in rw (z, eq-eqb (bits 30 2 w) 0 c) (elem_here n (places_from (suc n) l))
places_all n (w ∷ l) (suc k) h c = go (eqb (bits 30 2 w) 0) (rw s at (places_all (suc n) l k (omega arith) c))
  where
    s : suc n + k ≡ n + suc k
    s = omega arith

    go : (b : Bool) → elem (n + suc k) (places_from (suc n) l) ≡ true →
        elem (n + suc k) (cond b (n ∷ places_from (suc n) l) (places_from (suc n) l)) ≡ true
    go true e = elem_there (n + suc k) n (places_from (suc n) l) e
    go false e = e

places_distinct : (n : ℕ) (l : List ℕ) → distinct (places_from n l) ≡ true
unfolding places_from distinct
places_distinct n [] = refl
places_distinct n (w ∷ l) = go (eqb (bits 30 2 w) 0) (places_distinct (suc n) l)
  where
    go : (b : Bool) → distinct (places_from (suc n) l) ≡ true → distinct (cond b (n ∷ places_from (suc n) l) (places_from (suc n) l)) ≡ true
    go true e =
        distinct_cons n (places_from (suc n) l)
        (false_if _ (λ f. let p = places_only (suc n) l n f in absurd (omega (arith, p.same)))) e
    go false e = e

configurations_read : (n : ℕ) (l : List ℕ) → configurations l ≤ n → AtMost n (ConfigurationAt l)
configurations_read n l h =
    at_most_by n (ConfigurationAt l) (places_from 0 l) (λ x p. let z : 0 + x ≡ x = omega arith in rw z at (places_all 0 l x p.0 p.1))
    (omega (arith, places_length 0 l))

configurations_made : (n : ℕ) (l : List ℕ) → AtMost n (ConfigurationAt l) → configurations l ≤ n
configurations_made n l a =
    rw (← places_length 0 l)
    (at_most_at n (ConfigurationAt l) (places_from 0 l) a (places_distinct 0 l)
    (λ x e. let p = places_only 0 l x e in let s : x ≡ p.at = omega (arith, p.same) in rw s (p.inside, p.is)))

-- The interfaces of a list.
has_read : (i : ℕ) (l : List ℕ) → has_interface i l ≡ true → HasInterface l i
unfolding has_interface
has_read i [] e = not_both false e refl
has_read i (w ∷ l) e = go (or_cases (of_interface i w) (has_interface i l) e) (has_read i l)
  where
    first : of_interface i w ≡ true → HasInterface (w ∷ l) i
    first p = let t = interface_read i w p in record { at = 0; inside = omega arith; kind = t.0; number = t.1 }

    later : HasInterface l i → HasInterface (w ∷ l) i
    later f = record { at = suc f.at; inside = omega (arith, f.inside); kind = f.kind; number = f.number }

    go : (of_interface i w ≡ true) ⊎ (has_interface i l ≡ true) → (has_interface i l ≡ true → HasInterface l i) → HasInterface (w ∷ l) i
    go (inl p) f = first p
    go (inr p) f = later (f p)

has_made : (i : ℕ) (l : List ℕ) → HasInterface l i → has_interface i l ≡ true
has_made i l h = has_at i l h.at h.inside (interface_made i (get_or l h.at 0) h.kind h.number)

interfaces_read : (n : ℕ) (l : List ℕ) → interfaces l ≤ n → AtMost n (HasInterface l)
interfaces_read n l h =
    at_most_by n (HasInterface l) (interface_numbers l) (λ x p. numbers_all x l (has_made x l p)) (omega (arith, numbers_length l))

interfaces_made : (n : ℕ) (l : List ℕ) → AtMost n (HasInterface l) → interfaces l ≤ n
interfaces_made n l a =
    rw (← numbers_length l)
    (at_most_at n (HasInterface l) (interface_numbers l) a (numbers_distinct l) (λ x e. has_read x l (numbers_only x l e)))

-- Valid lists.
pub begins_read : (l : List ℕ) → begins_with_configuration l ≡ true → 0 < length l → IsConfiguration (get_or l 0 0)
unfolding begins_with_configuration kind
begins_read [] e h = absurd (omega arith)
begins_read (w ∷ l) e h = eqb-true (bits 30 2 w) 0 e

pub begins_made : (l : List ℕ) → (0 < length l → IsConfiguration (get_or l 0 0)) → begins_with_configuration l ≡ true
unfolding begins_with_configuration kind
begins_made [] f = refl
begins_made (w ∷ l) f = eq-eqb (bits 30 2 w) 0 (f (omega arith))

valid_read : (l : List ℕ) → valid_list l ≡ true → ValidList l
unfolding valid_list
valid_read l v =
    let few = leb (length l) 256 in
    let begins = begins_with_configuration l in
    let words = words_ok l in
    let runs = runs_fit l in
    let eight = leb (configurations l) 8 in
    let many = leb (interfaces l) 32 in
    let e1 : (begins && (words && (runs && (eight && many)))) ≡ true = and_right few _ v in
    let e2 : (words && (runs && (eight && many))) ≡ true = and_right begins _ e1 in
    let e3 : (runs && (eight && many)) ≡ true = and_right words _ e2 in
    let e4 : (eight && many) ≡ true = and_right runs _ e3 in
    let w = words_each l (and_left words _ e2) in
    let b = begins_read l (and_left begins _ e1) in
    record {
      few = leb-true (length l) 256 (and_left few _ v);
      begins = b;
      words = w;
      endpoints = follows l w (runs_each l (and_left runs _ e3)) b;
      configurations = configurations_read 8 l (leb-true (configurations l) 8 (and_left eight _ e4));
      interfaces = interfaces_read 32 l (leb-true (interfaces l) 32 (and_right eight _ e4));
    }

valid_made : (l : List ℕ) → ValidList l → valid_list l ≡ true
unfolding valid_list
valid_made l v =
    rw (
      le-leb (length l) 256 v.few,
      begins_made l v.begins,
      each_word l v.words,
      each_run l (made_runs l v.words v.endpoints),
      le-leb (configurations l) 8 (configurations_made 8 l v.configurations),
      le-leb (interfaces l) 32 (interfaces_made 32 l v.interfaces),
    )

pub valid_tells : ValidTells
valid_tells l = (valid_read l, valid_made l)

-- Lookup.
run_counted : (words after : List ℕ) → ((k : ℕ) → k < length words → IsEndpoint (get_or words k 0)) →
    (0 < length after → IsEndpoint (get_or after 0 0) → ⊥) → endpoint_run (words ++ after) ≡ length words
unfolding endpoint_run kind
run_counted [] [] f e = refl
run_counted [] (w ∷ after) f e = rw (ne_eqb (bits 30 2 w) 2 (e (omega arith)))
run_counted (w ∷ words) after f e =
    let first : bits 30 2 w ≡ 2 = f 0 (omega arith) in
    rw (first, run_counted words after (λ k h. f (suc k) (omega arith)) e)

not_alternate : (i a w : ℕ) → (IsAlternate i a w → ⊥) → is_alternate i a w ≡ false
not_alternate i a w n = false_if (is_alternate i a w) (λ e. n (alternate_read i a w e))

module _ (i a word : ℕ) (words after : List ℕ) (is : IsAlternate i a word)
    (endpoints : (k : ℕ) → k < length words → IsEndpoint (get_or words k 0))
    (ends : 0 < length after → IsEndpoint (get_or after 0 0) → ⊥) where
  found_there : (before : List ℕ) (at : ℕ) → ((k : ℕ) → k < length before → IsAlternate i a (get_or before k 0) → ⊥) →
      find_from i a at (before ++ (word ∷ (words ++ after))) ≡ Some (record { start = at + 1 + length before; count = length words })
  unfolding find_from
  found_there [] at f =
      let z : at + 1 + 0 ≡ at + 1 = omega arith in
      rw (alternate_made i a word is, run_counted words after endpoints ends, z) refl
  found_there (b ∷ before) at f =
      let n : is_alternate i a b ≡ false = not_alternate i a b (f 0 (omega arith)) in
      let s : at + 1 + 1 + length before ≡ at + 1 + suc (length before) = omega arith in
      rw n (found_there before (at + 1) (λ k h. f (suc k) (omega arith)) ∙ rw s refl)

rest_of : (before rest : List ℕ) (word : ℕ) → drop (suc (length before)) (before ++ (word ∷ rest)) ≡ rest
rest_of [] rest word = refl
rest_of (b ∷ before) rest word = rest_of before rest word

front_of : (words after : List ℕ) → take (length words) (words ++ after) ≡ words
front_of [] after = refl
front_of (w ∷ words) after = ap (λ (t : List ℕ). w ∷ t) (front_of words after)

module _ (l : List ℕ) (i a : ℕ) where
  listed_found : (words : List ℕ) (s : Listed l i a words) →
      find_endpoints l i a ≡ Some (record { start = suc (length s.before); count = length words })
  unfolding find_endpoints
  listed_found words s =
      let z : 0 + 1 + length s.before ≡ suc (length s.before) = omega arith in
      rw s.parts (found_there i a s.word words s.after s.is s.endpoints s.ends s.before 0 s.first ∙ rw z refl)

  listed_words : (words : List ℕ) (s : Listed l i a words) → setting_words l i a ≡ words
  unfolding setting_words found_words
  listed_words words s =
      rw (listed_found words s)
      (rw s.parts (ap (take (length words)) (rest_of s.before (words ++ s.after) s.word) ∙ front_of words s.after))

-- The parts of a list.
split_at : (l : List ℕ) (n : ℕ) → n < length l → l ≡ take n l ++ (get_or l n 0 ∷ drop (suc n) l)
split_at [] n h = absurd (omega arith)
split_at (w ∷ l) zero h = refl
split_at (w ∷ l) (suc n) h = ap (λ (t : List ℕ). w ∷ t) (split_at l n (omega arith))

split_in : (l : List ℕ) (n : ℕ) → l ≡ take n l ++ drop n l
split_in l zero = refl
split_in [] (suc n) = refl
split_in (w ∷ l) (suc n) = ap (λ (t : List ℕ). w ∷ t) (split_in l n)

module _ (l : List ℕ) (i a : ℕ) (f : EndpointWords) (e : find_endpoints l i a ≡ Some f) where
  at_word : ℕ
  at_word = f.start - 1

  found_listed : Listed l i a (take f.count (drop f.start l))
  found_listed =
      let s : suc (f.start - 1) ≡ f.start = omega (arith, found_start l i a f e) in
      let inside = found_inside l i a f e in
      record {
        before = take (f.start - 1) l;
        word = get_or l (f.start - 1) 0;
        after = drop f.count (drop f.start l);
        parts =
            split_at l (f.start - 1) (omega (arith, found_start l i a f e, inside))
            ∙ ap (λ (t : List ℕ). take (f.start - 1) l ++ (get_or l (f.start - 1) 0 ∷ t)) (ap (λ n. drop n l) s ∙ split_in (drop f.start l) f.count);
        is = alternate_read i a (get_or l (f.start - 1) 0) (found_alternate l i a f e);
        first = λ k h g.
            let m : k < f.start - 1 = omega (arith, length-take (f.start - 1) l) in
            not_both (is_alternate i a (get_or l k 0)) (rw (get_or-take (f.start - 1) l k 0 m) at (alternate_made i a _ g))
            (found_first l i a f e k (omega arith));
        endpoints = λ k h.
            let m : k < f.count = omega (arith, length-take f.count (drop f.start l)) in
            rw (get_or-take f.count (drop f.start l) k 0 m, get_or-drop f.start l k 0) (rw kind_bits at (found_endpoints l i a f e k m));
        ends = λ h g.
            let z : f.count + 0 ≡ f.count = omega arith in
            found_end l i a f e (omega (arith, length-drop f.count (drop f.start l), length-drop f.start l))
            (rw kind_bits (rw (get_or-drop f.count (drop f.start l) 0 0, z, get_or-drop f.start l f.count 0) at g));
      }

found_as : (l : List ℕ) (i a : ℕ) → is_found (find_endpoints l i a) ≡ true → Listed l i a (setting_words l i a)
unfolding setting_words found_words
found_as l i a h =
    let t = found_at (find_endpoints l i a) h in
    rw t.1 (found_listed l i a t.0 t.1)

pub lookup_tells : LookupTells
lookup_tells l i a =
    record { found = found_as l i a; listed = λ words s. (rw (listed_found l i a words s), listed_words l i a words s) }
