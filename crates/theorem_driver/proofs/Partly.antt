-- A list of which the first configurations are read, and the others are one word each: it is valid where the whole is.
use Prim.Native.Nat.{ℕ, zero, suc, ◌+◌, ◌-◌, ◌≤◌}
use mathlib.Core.Path.{◌≡◌, refl, sym, ap, ◌∙◌}
use mathlib.Core.Bool.{Bool, true, false, not, cond, ◌&&◌, ◌||◌}
use mathlib.Core.List.{List, [], ◌∷◌, ◌++◌}
use mathlib.Core.Logic.{inl, inr}
use native.Mathlib.Omega.{arith}
use borrow.Author.Tests.{eqb-true, eqb-false, ne_eqb, le-leb, leb-true}
use lib.Dec.{eqb, leb}
use lib.ListN.{length, replicate, length-append, length-replicate}
use Rattle.laws.proofs.Tests.{and_left, and_right}
use Rattle.laws.proofs.Cases.{Decided, decided, or_none}
use Rattle.descriptor.specs.Word.{kind, interface_number, word_ok, CONFIGURATION, ALTERNATE}
use Rattle.descriptor_list.specs.Lookup.{endpoint_run, of_interface}
use Rattle.descriptor_list.specs.Valid.{begins_with_configuration, words_ok, run_fits, runs_fit, configurations, has_interface, last_alternate, interfaces, valid_list}
use Rattle.descriptor_list.proofs.Laws.{valid_configurations, valid_interfaces}
use Rattle.course_init.specs.Reading.{first_configurations}
use Rattle.theorem_driver.specs.Driven.{partly_read}

-- What is left of a list behind its first k configurations.
pub record Behind (k : ℕ) (l : List ℕ) : Type 0 where
  pub rest : List ℕ
  pub whole : l ≡ first_configurations k l ++ rest
  pub count : configurations rest ≡ configurations l - k
  pub begins : begins_with_configuration rest ≡ true

-- by the first word, kept or not
module _ (w : ℕ) (l : List ℕ) where
  kept : (k m : ℕ) → first_configurations k (w ∷ l) ≡ w ∷ first_configurations m l → configurations (w ∷ l) - k ≡ configurations l - m →
      Behind m l → Behind k (w ∷ l)
  kept k m e n b =
      record {
        rest = b.rest;
        whole = ap (λ z. w ∷ z) b.whole ∙ ap (λ z. z ++ b.rest) (sym e);
        count = b.count ∙ sym n;
        begins = b.begins;
      }

pub behind : (k : ℕ) (l : List ℕ) → Behind k l
unfolding first_configurations configurations begins_with_configuration
behind k [] = record { rest = []; whole = refl; count = omega arith; begins = refl }
behind zero (w ∷ l) = go (decided (eqb (kind w) CONFIGURATION)) (behind zero l)
  where
    go : Decided (eqb (kind w) CONFIGURATION) → Behind zero l → Behind zero (w ∷ l)
    go (inl e) b = record { rest = w ∷ l; whole = rw e; count = omega arith; begins = e }
    go (inr e) b = kept w l zero zero (rw e) (rw e) b
behind (suc k) (w ∷ l) = go (decided (eqb (kind w) CONFIGURATION)) (behind k l) (behind (suc k) l)
  where
    go : Decided (eqb (kind w) CONFIGURATION) → Behind k l → Behind (suc k) l → Behind (suc k) (w ∷ l)
    go (inl e) b c = kept w l (suc k) k (rw e) (rw e (omega arith)) b
    go (inr e) b c = kept w l (suc k) (suc k) (rw e) (rw e) c

-- Words 0, each a configuration.
abbrev pub zeros : ℕ → List ℕ
zeros n = replicate n 0

pub zeros_begin : (n : ℕ) → begins_with_configuration (zeros n) ≡ true
unfolding begins_with_configuration kind
zeros_begin zero = refl
zeros_begin (suc n) = refl

zeros_count : (n : ℕ) → configurations (zeros n) ≡ n
unfolding configurations kind
zeros_count zero = refl
zeros_count (suc n) = ap suc (zeros_count n)

zeros_ok : (n : ℕ) → words_ok (zeros n) ≡ true
unfolding words_ok word_ok kind
zeros_ok zero = refl
zeros_ok (suc n) = zeros_ok n

begun_run : (l : List ℕ) → begins_with_configuration l ≡ true → endpoint_run l ≡ 0
unfolding begins_with_configuration endpoint_run
begun_run [] e = refl
begun_run (w ∷ l) e = let k = eqb-true (kind w) CONFIGURATION e in rw k

zeros_fit : (n : ℕ) → runs_fit (zeros n) ≡ true
unfolding runs_fit run_fits kind
zeros_fit zero = refl
zeros_fit (suc n) = rw (begun_run (zeros n) (zeros_begin n)) (zeros_fit n)

zeros_none : (i n : ℕ) → has_interface i (zeros n) ≡ false
unfolding has_interface of_interface kind
zeros_none i zero = refl
zeros_none i (suc n) = zeros_none i n

pub few_configurations : (l : List ℕ) → configurations l ≤ length l
unfolding configurations
few_configurations [] = omega arith
few_configurations (w ∷ l) = go (eqb (kind w) CONFIGURATION) (few_configurations l)
  where
    go : (b : Bool) → configurations l ≤ length l → cond b (suc (configurations l)) (configurations l) ≤ suc (length l)
    go true h = omega arith
    go false h = omega arith

-- Words before others.
count_both : (x s : List ℕ) → configurations (x ++ s) ≡ configurations x + configurations s
unfolding configurations
count_both [] s = omega arith
count_both (w ∷ x) s = go (eqb (kind w) CONFIGURATION) (count_both x s)
  where
    go : (b : Bool) → configurations (x ++ s) ≡ configurations x + configurations s →
        cond b (suc (configurations (x ++ s))) (configurations (x ++ s)) ≡ cond b (suc (configurations x)) (configurations x) + configurations s
    go true h = omega (arith, h)
    go false h = h

pub begin_both : (x s t : List ℕ) → begins_with_configuration (x ++ s) ≡ true → begins_with_configuration t ≡ true →
    begins_with_configuration (x ++ t) ≡ true
unfolding begins_with_configuration
begin_both [] s t e f = f
begin_both (w ∷ x) s t e f = e

ok_both : (x s t : List ℕ) → words_ok (x ++ s) ≡ true → words_ok t ≡ true → words_ok (x ++ t) ≡ true
unfolding words_ok
ok_both [] s t e f = f
ok_both (w ∷ x) s t e f = rw (and_left (word_ok w) _ e) (ok_both x s t (and_right (word_ok w) _ e) f)

run_both : (x s t : List ℕ) → endpoint_run s ≡ endpoint_run t → endpoint_run (x ++ s) ≡ endpoint_run (x ++ t)
unfolding endpoint_run
run_both [] s t e = e
run_both (w ∷ x) s t e = rw (run_both x s t e)

fit_both : (x s t : List ℕ) → endpoint_run s ≡ endpoint_run t → runs_fit (x ++ s) ≡ true → runs_fit t ≡ true → runs_fit (x ++ t) ≡ true
unfolding runs_fit
fit_both [] s t r e f = f
fit_both (w ∷ x) s t r e f =
    rw (← run_both x s t r, and_left (run_fits (kind w) (endpoint_run (x ++ s))) _ e)
    (fit_both x s t r (and_right (run_fits (kind w) (endpoint_run (x ++ s))) _ e) f)

has_both : (i : ℕ) (x s : List ℕ) → has_interface i (x ++ s) ≡ (has_interface i x || has_interface i s)
unfolding has_interface
has_both i [] s = refl
has_both i (w ∷ x) s = go (of_interface i w) (has_both i x s)
  where
    go : (b : Bool) → has_interface i (x ++ s) ≡ (has_interface i x || has_interface i s) →
        (b || has_interface i (x ++ s)) ≡ ((b || has_interface i x) || has_interface i s)
    go true h = refl
    go false h = h

cond_suc : (b : Bool) (n : ℕ) → suc (cond b (suc n) n) ≡ cond b (suc (suc n)) (suc n)
cond_suc true n = refl
cond_suc false n = refl

-- Interfaces: a word more does not take one away.
has_more : (i w : ℕ) (x s : List ℕ) → has_interface i (x ++ (w ∷ s)) ≡ (of_interface i w || has_interface i (x ++ s))
unfolding has_interface
has_more i w [] s = refl
has_more i w (z ∷ x) s = go (of_interface i z) (of_interface i w) (has_more i w x s)
  where
    go : (b c : Bool) → has_interface i (x ++ (w ∷ s)) ≡ (c || has_interface i (x ++ s)) →
        (b || has_interface i (x ++ (w ∷ s))) ≡ (c || (b || has_interface i (x ++ s)))
    go true true h = refl
    go true false h = refl
    go false c h = h

-- a word of an interface that is not there counts
one_more : (i w : ℕ) (x s : List ℕ) → has_interface i (x ++ s) ≡ false → of_interface i w ≡ true →
    interfaces (x ++ (w ∷ s)) ≡ suc (interfaces (x ++ s))
unfolding interfaces last_alternate has_interface of_interface
one_more i w [] s h e =
    let k = and_left (eqb (kind w) ALTERNATE) _ e in
    let n : interface_number w ≡ i = eqb-true (interface_number w) i (and_right (eqb (kind w) ALTERNATE) _ e) in
    rw (k, n, h)
one_more i w (z ∷ x) s h e =
    go (eqb (kind z) ALTERNATE) refl (or_none (of_interface i z) _ h).0 (one_more i w x s (or_none (of_interface i z) _ h).1 e)
  where
    m : ℕ
    m = interface_number z

    -- of another interface
    other : eqb m i ≡ false → of_interface m w ≡ false
    other f =
        let n : interface_number w ≡ i = eqb-true (interface_number w) i (and_right (eqb (kind w) ALTERNATE) _ e) in
        rw (n, and_left (eqb (kind w) ALTERNATE) _ e) (ne_eqb i m (λ q. eqb-false m i f (sym q)))

    go : (b : Bool) → eqb (kind z) ALTERNATE ≡ b → (eqb (kind z) ALTERNATE && eqb m i) ≡ false →
        interfaces (x ++ (w ∷ s)) ≡ suc (interfaces (x ++ s)) →
        cond (eqb (kind z) ALTERNATE && not (has_interface m (x ++ (w ∷ s)))) (suc (interfaces (x ++ (w ∷ s)))) (interfaces (x ++ (w ∷ s)))
        ≡ suc (cond (eqb (kind z) ALTERNATE && not (has_interface m (x ++ s))) (suc (interfaces (x ++ s))) (interfaces (x ++ s)))
    go true k f t =
        let f2 : eqb m i ≡ false = rw k at f in
        rw (k, has_more m w x s, other f2, t) (sym (cond_suc (not (has_interface m (x ++ s))) (interfaces (x ++ s))))
    go false k f t = rw k t

word_more : (w : ℕ) (x s : List ℕ) → interfaces (x ++ s) ≤ interfaces (x ++ (w ∷ s))
unfolding interfaces last_alternate
word_more w [] s = go (last_alternate w s)
  where
    go : (b : Bool) → interfaces s ≤ cond b (suc (interfaces s)) (interfaces s)
    go true = omega arith
    go false = omega arith
word_more w (z ∷ x) s =
    go (eqb (kind z) ALTERNATE) (has_interface m (x ++ s)) refl (of_interface m w) refl (word_more w x s)
  where
    m : ℕ
    m = interface_number z

    less : ℕ
    less = interfaces (x ++ s)

    more : ℕ
    more = interfaces (x ++ (w ∷ s))

    go : (a b : Bool) → has_interface m (x ++ s) ≡ b → (c : Bool) → of_interface m w ≡ c → less ≤ more →
        cond (a && not (has_interface m (x ++ s))) (suc less) less ≤ cond (a && not (has_interface m (x ++ (w ∷ s)))) (suc more) more
    go false b h c e t = t
    go true true h true e t = rw (has_more m w x s, h, e) t
    go true true h false e t = rw (has_more m w x s, h, e) t
    go true false h true e t = rw (has_more m w x s, h, e) (let n = one_more m w x s h e in omega (arith, n))
    go true false h false e t = rw (has_more m w x s, h, e) (omega (arith, t))

words_more : (x s : List ℕ) → interfaces (x ++ []) ≤ interfaces (x ++ s)
words_more x [] = omega arith
words_more x (w ∷ s) = omega (arith, words_more x s, word_more w x s)

zeros_no_more : (x : List ℕ) (n : ℕ) → interfaces (x ++ zeros n) ≡ interfaces (x ++ [])
unfolding interfaces last_alternate has_interface kind
zeros_no_more [] zero = refl
zeros_no_more [] (suc n) = zeros_no_more [] n
zeros_no_more (w ∷ x) n =
    let h = has_both (interface_number w) x (zeros n) in
    let e = has_both (interface_number w) x [] in
    rw (h, e, zeros_none (interface_number w) n, zeros_no_more x n)

module _ (k : ℕ) (l : List ℕ) where
  abbrev first : List ℕ
  first = first_configurations k l

  abbrev unread : List ℕ
  unread = zeros (configurations l - k)

  pub partly_count : configurations (partly_read k l) ≡ configurations l
  unfolding partly_read
  partly_count =
      let b = behind k l in
      let z = zeros_count (configurations l - k) in
      let p = count_both first unread in
      let w : configurations l ≡ configurations first + configurations b.rest = ap configurations b.whole ∙ count_both first b.rest in
      omega (arith, p, w, z, b.count)

  pub partly_valid : valid_list l ≡ true → valid_list (partly_read k l) ≡ true
  unfolding partly_read valid_list
  partly_valid v =
      let b = behind k l in
      let s = b.rest in
      let n : ℕ = configurations l - k in
      let w : valid_list (first ++ s) ≡ true = rw (← b.whole) v in
      let w2 = and_right (leb (length (first ++ s)) 256) _ w in
      let w3 = and_right (begins_with_configuration (first ++ s)) _ w2 in
      let w4 = and_right (words_ok (first ++ s)) _ w3 in
      let size : length (first ++ unread) ≤ 256 =
      omega (
        arith,
        length-append first unread,
        length-append first s,
        length-replicate {A = ℕ} n 0,
        few_configurations s,
        b.count,
        leb-true (length (first ++ s)) 256 (and_left _ _ w),
      ) in
      let runs : endpoint_run s ≡ endpoint_run unread = begun_run s b.begins ∙ sym (begun_run unread (zeros_begin n)) in
      let many : interfaces (first ++ unread) ≤ 32 =
      omega (arith, zeros_no_more first n, words_more first s, valid_interfaces (first ++ s) w) in
      let few : configurations (first ++ unread) ≤ 8 = omega (arith, partly_count, valid_configurations l v) in
      rw (
        le-leb (length (first ++ unread)) 256 size,
        begin_both first s unread (and_left _ _ w2) (zeros_begin n),
        ok_both first s unread (and_left _ _ w3) (zeros_ok n),
        fit_both first s unread runs (and_left _ _ w4) (zeros_fit n),
        le-leb (configurations (first ++ unread)) 8 few,
        le-leb (interfaces (first ++ unread)) 32 many,
      )

-- what was read is read from it
zeros_first : (n : ℕ) → first_configurations 0 (zeros n) ≡ []
unfolding first_configurations kind
zeros_first zero = refl
zeros_first (suc n) = refl

pub partly_first : (m k : ℕ) (l : List ℕ) → m ≤ k → first_configurations m (partly_read k l) ≡ first_configurations m l
unfolding partly_read first_configurations configurations
partly_first m k [] h = let z : 0 - k ≡ 0 = omega arith in rw z
partly_first m zero (w ∷ l) h =
    let z : m ≡ 0 = omega arith in rw z (go (decided (eqb (kind w) CONFIGURATION)) (partly_first 0 zero l (omega arith)))
  where
    go : Decided (eqb (kind w) CONFIGURATION) → first_configurations 0 (partly_read zero l) ≡ first_configurations 0 l →
        first_configurations 0 (partly_read zero (w ∷ l)) ≡ first_configurations 0 (w ∷ l)
    go (inl e) t = rw e (zeros_first (suc (configurations l) - 0))
    go (inr e) t = rw e (rw e (ap (λ x. w ∷ x) t))
partly_first zero (suc k) (w ∷ l) h = go (decided (eqb (kind w) CONFIGURATION)) (partly_first zero (suc k) l h)
  where
    go : Decided (eqb (kind w) CONFIGURATION) → first_configurations zero (partly_read (suc k) l) ≡ first_configurations zero l →
        first_configurations zero (partly_read (suc k) (w ∷ l)) ≡ first_configurations zero (w ∷ l)
    go (inl e) t = rw e
    go (inr e) t = rw e (ap (λ x. w ∷ x) t)
partly_first (suc m) (suc k) (w ∷ l) h =
    go (decided (eqb (kind w) CONFIGURATION)) (partly_first m k l (omega arith)) (partly_first (suc m) (suc k) l h)
  where
    go : Decided (eqb (kind w) CONFIGURATION) → first_configurations m (partly_read k l) ≡ first_configurations m l →
        first_configurations (suc m) (partly_read (suc k) l) ≡ first_configurations (suc m) l →
        first_configurations (suc m) (partly_read (suc k) (w ∷ l)) ≡ first_configurations (suc m) (w ∷ l)
    go (inl e) t u = let z : suc (configurations l) - suc k ≡ configurations l - k = omega arith in rw (e, z) (ap (λ x. w ∷ x) t)
    go (inr e) t u = rw e (ap (λ x. w ∷ x) u)
