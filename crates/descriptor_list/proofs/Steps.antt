-- One turn of the walk that tests words from the end of a list; the exits of `valid_list`.
use Prim.Native.Nat.{ℕ, zero, suc, ◌+◌, ◌-◌, ◌≤◌, ◌<◌}
use mathlib.Core.Path.{◌≡◌, refl}
use mathlib.Core.Logic.{◌≢◌}
use mathlib.Core.Bool.{Bool, true, false, ◌&&◌, and-false}
use mathlib.Core.List.{List, [], ◌∷◌}
use native.Mathlib.Numerals.{add-one}
use native.Mathlib.Omega.{arith}
use borrow.Author.Tests.{eq-eqb, ne_eqb, le-leb, lt-leb}
use lib.Dec.{eqb, leb}
use lib.ListN.{length, get_or, drop, drop_of_length-le}
use Rattle.std.proofs.Common.{Some, None, slice_get}
use Rattle.laws.proofs.Tests.{and_left, and_right}
use Rattle.descriptor.specs.Word.{kind, word_ok, CONFIGURATION, ALTERNATE, ENDPOINT}
use Rattle.descriptor_list.specs.Lookup.{endpoint_run}
use Rattle.descriptor_list.specs.Valid.{begins_with_configuration, words_ok, run_fits, runs_fit, configurations, interfaces, valid_list, LIST-ROOM}
use Rattle.descriptor_list.proofs.Next.{drop_back}

-- What the code tests of the words: each by itself, and how many endpoint words follow it.
abbrev pub fit : List ℕ → Bool
fit l = words_ok l && runs_fit l

-- A list does not fit where what is left of it does not.
fit_whole : (l : List ℕ) (k : ℕ) → fit (drop k l) ≡ false → fit l ≡ false
unfolding words_ok runs_fit
fit_whole l zero e = e
fit_whole [] (suc k) e = e
fit_whole (w ∷ l) (suc k) e = go (word_ok w) (words_ok l) (run_fits (kind w) (endpoint_run l)) (runs_fit l) (fit_whole l k e)
  where
    go : (a b c d : Bool) → (b && d) ≡ false → ((a && b) && (c && d)) ≡ false
    go false b c d f = refl
    go true false c d f = refl
    go true true false d f = refl
    go true true true d f = f

-- What the walk knows of the words behind it.
pub record Walked (l : List ℕ) (run : ℕ) : Type 0 where
  pub counted : run ≡ endpoint_run l
  pub fits : fit l ≡ true

none_walked : Walked [] 0
unfolding endpoint_run words_ok runs_fit
none_walked = record { counted = refl; fits = refl }

-- nothing stands after the end
pub walked_end : (l : List ℕ) → Walked (drop (length l) l) 0
walked_end l = let h : length l ≤ length l = omega arith in rw (drop_of_length-le l h) none_walked

-- at the beginning all of them fit
pub walked_all : (l : List ℕ) (i run : ℕ) → i ≤ 0 → Walked (drop i l) run → fit l ≡ true
walked_all l i run h v = let e : i ≡ 0 = omega arith in rw e at v.fits

module _ (l : List ℕ) (i run : ℕ) (h : 0 < i) (g : i ≤ length l) (v : Walked (drop i l) run) where
  pub word_refused : word_ok (get_or l (i - 1) 0) ≡ false → fit l ≡ false
  unfolding words_ok runs_fit
  word_refused e = fit_whole l (i - 1) (rw (drop_back l i h g, e))

  run_refused : run_fits (kind (get_or l (i - 1) 0)) run ≡ false → fit l ≡ false
  unfolding words_ok runs_fit
  run_refused e =
      fit_whole l (i - 1)
      (rw (drop_back l i h g, ← v.counted, e, and-false (word_ok (get_or l (i - 1) 0) && words_ok (drop i l))))

  -- endpoint words after a configuration
  pub configuration_refused : kind (get_or l (i - 1) 0) ≡ CONFIGURATION → run ≢ 0 → fit l ≡ false
  unfolding run_fits
  configuration_refused e r = run_refused (rw (e, ne_eqb run 0 r))

  -- too many after an alternate
  pub alternate_refused : kind (get_or l (i - 1) 0) ≡ ALTERNATE → 30 < run → fit l ≡ false
  unfolding run_fits
  alternate_refused e r = run_refused (rw (e, lt-leb run 30 r))

  module _ (ok : word_ok (get_or l (i - 1) 0) ≡ true) where
    word_taken : run_fits (kind (get_or l (i - 1) 0)) run ≡ true → fit (drop (i - 1) l) ≡ true
    unfolding words_ok runs_fit
    word_taken r = rw (drop_back l i h g, ok, ← v.counted, r) v.fits

    pub configuration_taken : kind (get_or l (i - 1) 0) ≡ CONFIGURATION → run ≡ 0 → Walked (drop (i - 1) l) run
    unfolding endpoint_run run_fits
    configuration_taken e r =
        record { counted = rw (drop_back l i h g, e) r; fits = word_taken (rw (e, eq-eqb run 0 r)) }

    pub alternate_taken : kind (get_or l (i - 1) 0) ≡ ALTERNATE → run ≤ 30 → Walked (drop (i - 1) l) 0
    unfolding endpoint_run run_fits
    alternate_taken e r =
        record { counted = rw (drop_back l i h g, e); fits = word_taken (rw (e, le-leb run 30 r)) }

    pub endpoint_taken : kind (get_or l (i - 1) 0) ≡ ENDPOINT → Walked (drop (i - 1) l) (run + 1)
    unfolding endpoint_run run_fits
    endpoint_taken e = record { counted = rw (drop_back l i h g, e, v.counted, add-one); fits = word_taken (rw e) }

-- All rules of the words.
abbrev pub words_fit : List ℕ → Bool
words_fit l = words_ok l && (runs_fit l && leb (interfaces l) 32)

pub unfit : (l : List ℕ) → fit l ≡ false → words_fit l ≡ false
unfit l e = go (words_ok l) (runs_fit l) (leb (interfaces l) 32) e
  where
    go : (a b c : Bool) → (a && b) ≡ false → (a && (b && c)) ≡ false
    go true b c f = rw f
    go false b c f = refl

pub fitting : (l : List ℕ) (count : ℕ) → fit l ≡ true → count ≡ interfaces l → words_fit l ≡ leb count 32
fitting l count f c = rw (and_left (words_ok l) (runs_fit l) f, and_right (words_ok l) (runs_fit l) f, c)

-- The tests of `valid_list`, as the code joins them.
pub valid_tests : (l : List ℕ) →
    valid_list l ≡ (((leb (length l) LIST-ROOM && begins_with_configuration l) && leb (configurations l) 8) && words_fit l)
unfolding valid_list
valid_tests l =
    go (leb (length l) LIST-ROOM) (begins_with_configuration l) (words_ok l) (runs_fit l) (leb (configurations l) 8) (leb (interfaces l) 32)
  where
    go : (a b w r c i : Bool) → (a && (b && (w && (r && (c && i))))) ≡ (((a && b) && c) && (w && (r && i)))
    go false b w r c i = refl
    go true false w r c i = refl
    go true true false r true i = refl
    go true true false r false i = refl
    go true true true false true i = refl
    go true true true false false i = refl
    go true true true true true i = refl
    go true true true true false i = refl

-- a list without a first word is empty
pub empty_valid : (l : List ℕ) → None ≡ slice_get l 0 → valid_list l ≡ true
unfolding valid_list begins_with_configuration words_ok runs_fit configurations interfaces
empty_valid [] e = refl
empty_valid (w ∷ l) e = absurd (cc)

pub begins : (l : List ℕ) (x : ℕ) → Some x ≡ slice_get l 0 → begins_with_configuration l ≡ eqb (kind x) CONFIGURATION
unfolding begins_with_configuration
begins [] x e = absurd (cc)
begins (w ∷ l) x e = let s : x ≡ w = cc in rw s
