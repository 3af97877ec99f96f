-- What lookup finds and what a valid list has, for callers, who need not open the definitions.
use Prim.Native.Nat.{ℕ, zero, suc, ◌+◌, ◌-◌, ◌≤◌, ◌<◌}
use mathlib.Core.Path.{◌≡◌, refl, ap}
use mathlib.Core.Logic.{◌⊎◌, inl, inr, ⊎_elim}
use mathlib.Core.Bool.{Bool, true, false, cond, ◌&&◌, ◌||◌}
use mathlib.Core.List.{List, [], ◌∷◌}
use Rattle.std.proofs.Common.{Option, Some, None}
use native.Mathlib.Omega.{arith}
use borrow.Author.Tests.{eqb-true, eqb-false, eq-eqb, leb-true, not-true, not-false}
use lib.Dec.{eqb, leb}
use lib.ListN.{length, get_or, drop, length-drop}
use lib.Seq.{get_or-drop}
use Rattle.laws.proofs.Tests.{and_left, and_right, not_both}
use Rattle.laws.proofs.Cases.{Decided, decided, false_if, or_left, or_right, or_cases}
use Rattle.laws.specs.Distinct.{elem, distinct}
use Rattle.laws.proofs.Distinct.{elem_none, elem_here, elem_there, elem_cases, distinct_cons, distinct_fits}
use Rattle.descriptor.specs.Word.{kind, interface_number, word_ok, ALTERNATE, ENDPOINT}
use Rattle.descriptor_list.specs.declared.EndpointWords.{EndpointWords}
use Rattle.descriptor_list.specs.Lookup.{endpoint_run, of_interface, is_alternate, find_from, find_endpoints}
use Rattle.descriptor_list.specs.Valid.{begins_with_configuration, words_ok, run_fits, runs_fit, configurations, has_interface, last_alternate, interfaces, valid_list}

-- a run of endpoint words lies inside the list
pub run_inside : (l : List ℕ) → endpoint_run l ≤ length l
unfolding endpoint_run
run_inside [] = omega arith
run_inside (w ∷ l) = go (eqb (kind w) ENDPOINT) (run_inside l)
  where
    go : (b : Bool) → endpoint_run l ≤ length l → cond b (suc (endpoint_run l)) 0 ≤ length (w ∷ l)
    go true h = omega arith
    go false h = omega arith

-- each word of it is an endpoint word
pub run_endpoints : (l : List ℕ) (k : ℕ) → k < endpoint_run l → kind (get_or l k 0) ≡ ENDPOINT
unfolding endpoint_run
run_endpoints [] k h = absurd (omega arith)
run_endpoints (w ∷ l) zero h = go (decided (eqb (kind w) ENDPOINT))
  where
    go : Decided (eqb (kind w) ENDPOINT) → kind w ≡ ENDPOINT
    go (inl p) = eqb-true (kind w) ENDPOINT p
    go (inr p) = let n : 0 < 0 = rw p at h in absurd (omega arith)
run_endpoints (w ∷ l) (suc k) h = go (eqb (kind w) ENDPOINT) h (run_endpoints l k)
  where
    go : (b : Bool) → suc k < cond b (suc (endpoint_run l)) 0 → (k < endpoint_run l → kind (get_or l k 0) ≡ ENDPOINT) →
        kind (get_or l k 0) ≡ ENDPOINT
    go true n f = f (omega arith)
    go false n f = absurd (omega arith)

-- and the word after it is none
pub run_ends : (l : List ℕ) → endpoint_run l < length l → kind (get_or l (endpoint_run l) 0) ≡ ENDPOINT → ⊥
unfolding endpoint_run
run_ends [] h = absurd (omega arith)
run_ends (w ∷ l) h = go (decided (eqb (kind w) ENDPOINT)) (run_ends l)
  where
    go : Decided (eqb (kind w) ENDPOINT) → (endpoint_run l < length l → kind (get_or l (endpoint_run l) 0) ≡ ENDPOINT → ⊥) →
        kind (get_or (w ∷ l) (cond (eqb (kind w) ENDPOINT) (suc (endpoint_run l)) 0) 0) ≡ ENDPOINT → ⊥
    go (inl p) f q = let n : suc (endpoint_run l) < suc (length l) = rw p at h in f (omega arith) (rw p at q)
    go (inr p) f q = eqb-false (kind w) ENDPOINT p (rw p at q)

-- an alternate's word is an alternate word of its interface
pub alternate_interface : (i a w : ℕ) → is_alternate i a w ≡ true → of_interface i w ≡ true
unfolding is_alternate
alternate_interface i a w e = and_left _ _ e

-- of kind 1
pub interface_kind : (i w : ℕ) → of_interface i w ≡ true → kind w ≡ ALTERNATE
unfolding of_interface
interface_kind i w e = eqb-true (kind w) ALTERNATE (and_left _ _ e)

-- with its number
pub interface_number_lem : (i w : ℕ) → of_interface i w ≡ true → interface_number w ≡ i
unfolding of_interface
interface_number_lem i w e = eqb-true (interface_number w) i (and_right (eqb (kind w) ALTERNATE) _ e)

-- an interface with a word in the list is in the list
pub has_at : (i : ℕ) (l : List ℕ) (k : ℕ) → k < length l → of_interface i (get_or l k 0) ≡ true → has_interface i l ≡ true
unfolding has_interface
has_at i [] k h e = absurd (omega arith)
has_at i (w ∷ l) zero h e = or_left (of_interface i w) (has_interface i l) e
has_at i (w ∷ l) (suc k) h e = or_right (of_interface i w) (has_interface i l) (has_at i l k (omega arith) e)

-- The first match in a list whose words count from `at`: `passed` words stand before it.
record Match (i a at : ℕ) (l : List ℕ) (f : EndpointWords) : Type 0 where
  pub passed : ℕ
  pub inside : passed < length l
  pub placed : f.start ≡ at + passed + 1
  pub matches : is_alternate i a (get_or l passed 0) ≡ true
  pub earlier : (k : ℕ) → k < passed → is_alternate i a (get_or l k 0) ≡ false
  pub counted : f.count ≡ endpoint_run (drop (suc passed) l)

module _ (i a : ℕ) (f : EndpointWords) where
  match_of : (l : List ℕ) (at : ℕ) → find_from i a at l ≡ Some f → Match i a at l f
  unfolding find_from
  match_of [] at e = absurd (cc)
  match_of (w ∷ l) at e = go (decided (is_alternate i a w)) (match_of l (at + 1))
    where
      go : Decided (is_alternate i a w) → (find_from i a (at + 1) l ≡ Some f → Match i a (at + 1) l f) → Match i a at (w ∷ l) f
      go (inl p) g =
          let q : Some (record { start = at + 1; count = endpoint_run l }) ≡ Some f = rw p at e in
          let r : record { start = at + 1; count = endpoint_run l } ≡ f = cc in
          record {
            passed = 0;
            inside = omega arith;
            placed = rw (← r) (omega arith);
            matches = p;
            earlier = λ k h. absurd (omega arith);
            counted = rw (← r);
          }
      go (inr p) g =
          let m = g (rw p at e) in
          record {
            passed = suc m.passed;
            inside = omega arith;
            placed = omega arith;
            matches = m.matches;
            earlier = earlier m;
            counted = m.counted;
          }
        where
          earlier : (m : Match i a (at + 1) l f) (k : ℕ) → k < suc m.passed → is_alternate i a (get_or (w ∷ l) k 0) ≡ false
          earlier m zero h = p
          earlier m (suc k) h = m.earlier k (omega arith)

-- What lookup found.
module _ (list : List ℕ) (i a : ℕ) (f : EndpointWords) (e : find_endpoints list i a ≡ Some f) where
  found : Match i a 0 list f
  unfolding find_endpoints
  found = match_of i a f list 0 e

  -- a word stands before the found ones
  pub found_start : 1 ≤ f.start
  found_start = omega (arith, found.placed)

  -- the found words are the run of endpoint words from `start` on
  pub found_run : f.count ≡ endpoint_run (drop f.start list)
  found_run = let s : f.start ≡ suc found.passed = omega (arith, found.placed) in rw s found.counted

  -- they lie inside the list
  pub found_inside : f.start + f.count ≤ length list
  found_inside =
      omega (arith, found.placed, found.inside, found_run, run_inside (drop f.start list), length-drop f.start list)

  -- each is an endpoint word
  pub found_endpoints : (k : ℕ) → k < f.count → kind (get_or list (f.start + k) 0) ≡ ENDPOINT
  found_endpoints k h = rw (← get_or-drop f.start list k 0) (run_endpoints (drop f.start list) k (rw (← found_run) h))

  -- and the word after them is none
  pub found_end : f.start + f.count < length list → kind (get_or list (f.start + f.count) 0) ≡ ENDPOINT → ⊥
  found_end h q =
      run_ends (drop f.start list) (omega (arith, found_run, length-drop f.start list)) (rw (get_or-drop, ← found_run) q)

  -- the word before them is the alternate that was asked for
  pub found_alternate : is_alternate i a (get_or list (f.start - 1) 0) ≡ true
  found_alternate = let s : f.start - 1 ≡ found.passed = omega (arith, found.placed) in rw s found.matches

  -- and no earlier word is
  pub found_first : (k : ℕ) → k + 1 < f.start → is_alternate i a (get_or list k 0) ≡ false
  found_first k h = found.earlier k (omega (arith, found.placed))

  -- a found alternate's interface is in the list
  pub found_interface : has_interface i list ≡ true
  found_interface =
      has_at i list found.passed found.inside (alternate_interface i a (get_or list found.passed 0) found.matches)

-- No word of a list is the alternate.
abbrev pub Absent : ℕ → ℕ → List ℕ → Type 0
Absent i a l = (k : ℕ) → k < length l → is_alternate i a (get_or l k 0) ≡ false

module _ (i a : ℕ) where
  none_from : (l : List ℕ) (at : ℕ) → find_from i a at l ≡ None → Absent i a l
  unfolding find_from
  none_from [] at e k h = absurd (omega arith)
  none_from (w ∷ l) at e k h = go (decided (is_alternate i a w)) (none_from l (at + 1)) k h
    where
      go : Decided (is_alternate i a w) → (find_from i a (at + 1) l ≡ None → Absent i a l) → Absent i a (w ∷ l)
      go (inl p) f k h =
          let q : ◌≡◌ {A = Option EndpointWords} (Some (record { start = at + 1; count = endpoint_run l })) None = rw p at e in
          absurd (cc)
      go (inr p) f zero h = p
      go (inr p) f (suc k) h = f (rw p at e) k (omega arith)

  from_none : (l : List ℕ) (at : ℕ) → Absent i a l → find_from i a at l ≡ None
  unfolding find_from
  from_none [] at f = refl
  from_none (w ∷ l) at f = rw (f 0 (omega arith)) (from_none l (at + 1) (λ k h. f (suc k) (omega arith)))

-- where lookup finds nothing, no word is the alternate asked for
pub not_found : (list : List ℕ) (i a : ℕ) → find_endpoints list i a ≡ None → Absent i a list
unfolding find_endpoints
not_found list i a e = none_from i a list 0 e

-- where no word is, lookup finds nothing
pub not_found_if : (list : List ℕ) (i a : ℕ) → Absent i a list → find_endpoints list i a ≡ None
unfolding find_endpoints
not_found_if list i a f = from_none i a list 0 f

-- where some word is, lookup finds one
pub found_if : (list : List ℕ) (i a k : ℕ) → k < length list → is_alternate i a (get_or list k 0) ≡ true →
    (f : EndpointWords) × (find_endpoints list i a ≡ Some f)
found_if list i a k h p = go (find_endpoints list i a) refl
  where
    go : (r : Option EndpointWords) → find_endpoints list i a ≡ r → (f : EndpointWords) × (find_endpoints list i a ≡ Some f)
    go (Some f) e = (f, e)
    go None e = not_both (is_alternate i a (get_or list k 0)) p (not_found list i a e k h)

words_at : (l : List ℕ) → words_ok l ≡ true → (k : ℕ) → k < length l → word_ok (get_or l k 0) ≡ true
unfolding words_ok
words_at [] e k h = absurd (omega arith)
words_at (w ∷ l) e zero h = and_left _ (words_ok l) e
words_at (w ∷ l) e (suc k) h = words_at l (and_right (word_ok w) _ e) k (omega arith)

runs_at : (l : List ℕ) → runs_fit l ≡ true → (k : ℕ) → k < length l →
    run_fits (kind (get_or l k 0)) (endpoint_run (drop (suc k) l)) ≡ true
unfolding runs_fit
runs_at [] e k h = absurd (omega arith)
runs_at (w ∷ l) e zero h = and_left _ (runs_fit l) e
runs_at (w ∷ l) e (suc k) h = runs_at l (and_right (run_fits (kind w) (endpoint_run l)) _ e) k (omega arith)

alternate_run : (k run : ℕ) → k ≡ ALTERNATE → run_fits k run ≡ true → run ≤ 30
unfolding run_fits
alternate_run k run p e = leb-true run 30 (rw p at e)

-- A valid list.
module _ (list : List ℕ) (v : valid_list list ≡ true) where
  -- has at most 256 words
  pub valid_length : length list ≤ 256
  unfolding valid_list
  valid_length = leb-true (length list) 256 (and_left _ _ v)

  -- begins with a configuration, unless it is empty
  pub valid_begins : begins_with_configuration list ≡ true
  unfolding valid_list
  valid_begins = and_left _ _ (and_right (leb (length list) 256) _ v)

  valid_words : (words_ok list && (runs_fit list && (leb (configurations list) 8 && leb (interfaces list) 32))) ≡ true
  unfolding valid_list
  valid_words = and_right (begins_with_configuration list) _ (and_right (leb (length list) 256) _ v)

  valid_runs : (runs_fit list && (leb (configurations list) 8 && leb (interfaces list) 32)) ≡ true
  valid_runs = and_right (words_ok list) _ valid_words

  valid_counts : (leb (configurations list) 8 && leb (interfaces list) 32) ≡ true
  valid_counts = and_right (runs_fit list) _ valid_runs

  -- each word is one that may stand in a list
  pub valid_word : (k : ℕ) → k < length list → word_ok (get_or list k 0) ≡ true
  valid_word = words_at list (and_left (words_ok list) _ valid_words)

  -- has at most 8 configurations
  pub valid_configurations : configurations list ≤ 8
  valid_configurations = leb-true (configurations list) 8 (and_left _ _ valid_counts)

  -- and at most 32 interfaces
  pub valid_interfaces : interfaces list ≤ 32
  valid_interfaces = leb-true (interfaces list) 32 (and_right (leb (configurations list) 8) _ valid_counts)

  -- lookup finds at most 30 endpoint words
  pub valid_count : (i a : ℕ) (f : EndpointWords) → find_endpoints list i a ≡ Some f → f.count ≤ 30
  valid_count i a f e =
      let m = found list i a f e in
      let w : ℕ = get_or list m.passed 0 in
      let alternate : kind w ≡ ALTERNATE = interface_kind i w (alternate_interface i a w m.matches) in
      let fits = runs_at list (and_left (runs_fit list) _ valid_runs) m.passed m.inside in
      rw m.counted (alternate_run (kind w) _ alternate fits)

  -- and each may stand in a list
  pub valid_found : (i a : ℕ) (f : EndpointWords) → find_endpoints list i a ≡ Some f → (k : ℕ) → k < f.count →
      word_ok (get_or list (f.start + k) 0) ≡ true
  valid_found i a f e k h = valid_word (f.start + k) (omega (arith, found_inside list i a f e))

module _ (w : ℕ) (l : List ℕ) where
  -- a last alternate word is one of its interface, with none after it
  last_first : last_alternate w l ≡ true → of_interface (interface_number w) w ≡ true
  unfolding last_alternate of_interface
  last_first q = rw (and_left (eqb (kind w) ALTERNATE) _ q) (eq-eqb (interface_number w) (interface_number w) refl)

  last_none : last_alternate w l ≡ true → has_interface (interface_number w) l ≡ false
  unfolding last_alternate
  last_none q = not-true _ (and_right (eqb (kind w) ALTERNATE) _ q)

  -- an alternate word that is not the last has a later one
  last_later : (x : ℕ) → of_interface x w ≡ true → last_alternate w l ≡ false → has_interface x l ≡ true
  unfolding last_alternate
  last_later x p q =
      rw (← interface_number_lem x w p)
      (not-false (has_interface (interface_number w) l) (rw (eq-eqb (kind w) ALTERNATE (interface_kind x w p)) at q))

-- The interface numbers of a list, each once, at its last alternate word.
pub interface_numbers : List ℕ → List ℕ
interface_numbers [] = []
interface_numbers (w ∷ l) = cond (last_alternate w l) (interface_number w ∷ interface_numbers l) (interface_numbers l)

-- `interfaces` counts them
pub numbers_length : (l : List ℕ) → length (interface_numbers l) ≡ interfaces l
unfolding interface_numbers interfaces
numbers_length [] = refl
numbers_length (w ∷ l) = go (last_alternate w l) (numbers_length l)
  where
    go : (b : Bool) → length (interface_numbers l) ≡ interfaces l →
        length (cond b (interface_number w ∷ interface_numbers l) (interface_numbers l))
        ≡ cond b (suc (interfaces l)) (interfaces l)
    go true e = ap suc e
    go false e = e

-- each interface of the list is among them
pub numbers_all : (x : ℕ) (l : List ℕ) → has_interface x l ≡ true → elem x (interface_numbers l) ≡ true
unfolding interface_numbers has_interface
numbers_all x [] e = not_both false e refl
numbers_all x (w ∷ l) e = go (decided (last_alternate w l)) (or_cases (of_interface x w) _ e) (numbers_all x l)
  where
    go : Decided (last_alternate w l) → (of_interface x w ≡ true) ⊎ (has_interface x l ≡ true) →
        (has_interface x l ≡ true → elem x (interface_numbers l) ≡ true) →
        elem x (cond (last_alternate w l) (interface_number w ∷ interface_numbers l) (interface_numbers l)) ≡ true
    go (inl q) (inl p) f = rw (q, interface_number_lem x w p) (elem_here x (interface_numbers l))
    go (inl q) (inr p) f = rw q (elem_there x (interface_number w) (interface_numbers l) (f p))
    go (inr q) (inl p) f = rw q (f (last_later w l x p q))
    go (inr q) (inr p) f = rw q (f p)

-- and no other
pub numbers_only : (x : ℕ) (l : List ℕ) → elem x (interface_numbers l) ≡ true → has_interface x l ≡ true
unfolding interface_numbers has_interface
numbers_only x [] e = elem_none x e
numbers_only x (w ∷ l) e = go (decided (last_alternate w l)) (numbers_only x l)
  where
    go : Decided (last_alternate w l) → (elem x (interface_numbers l) ≡ true → has_interface x l ≡ true) →
        (of_interface x w || has_interface x l) ≡ true
    go (inl q) f =
        ⊎_elim
        (λ p. or_left (of_interface x w) (has_interface x l) (rw p (last_first w l q)))
        (λ p. or_right (of_interface x w) (has_interface x l) (f p))
        (elem_cases x (interface_number w) (interface_numbers l) (rw q at e))
    go (inr q) f = or_right (of_interface x w) (has_interface x l) (f (rw q at e))

-- each once
pub numbers_distinct : (l : List ℕ) → distinct (interface_numbers l) ≡ true
unfolding interface_numbers distinct
numbers_distinct [] = refl
numbers_distinct (w ∷ l) = go (decided (last_alternate w l)) (numbers_distinct l)
  where
    once : last_alternate w l ≡ true → elem (interface_number w) (interface_numbers l) ≡ false
    once q = false_if _ (λ p. not_both _ (numbers_only (interface_number w) l p) (last_none w l q))

    go : Decided (last_alternate w l) → distinct (interface_numbers l) ≡ true →
        distinct (cond (last_alternate w l) (interface_number w ∷ interface_numbers l) (interface_numbers l)) ≡ true
    go (inl q) d = rw q (distinct_cons (interface_number w) (interface_numbers l) (once q) d)
    go (inr q) d = rw q d

-- pigeonhole: different interfaces of a list are no more than it has
pub interfaces_bound : (is l : List ℕ) → distinct is ≡ true →
    ((x : ℕ) → elem x is ≡ true → has_interface x l ≡ true) → length is ≤ interfaces l
interfaces_bound is l d f =
    rw (← numbers_length l) (distinct_fits is (interface_numbers l) d (λ x p. numbers_all x l (f x p)))

-- so at most 32 of a valid list
pub valid_held : (is l : List ℕ) → valid_list l ≡ true → distinct is ≡ true →
    ((x : ℕ) → elem x is ≡ true → has_interface x l ≡ true) → length is ≤ 32
valid_held is l v d f = omega (arith, interfaces_bound is l d f, valid_interfaces l v)
