-- The search, candidate by candidate.
use Rattle.std.specs.Prelude.{ℕ, zero, suc, ◌+◌, ◌-◌, ◌^◌, ◌<◌, ◌≤◌, ◌≡◌, Bool, true, false, cond, Option, Some, None, Ok, Err, List, [], ◌∷◌, eqb, length, get_or, set, take, drop, min, replicate}
use mathlib.Core.Path.{refl, sym, ap, ◌∙◌}
use native.Mathlib.Omega.{arith}
use borrow.Author.Tests.{eq-eqb, ne_eqb}
use lib.Seq.{take_all, drop-cons}
use native.Mathlib.Numerals.{add-one}
use Rattle.std.proofs.lemmas.List.{drop_all, get_or-set_same, get_or-set_other, take_rest, take_min, drop_min}
use lib.ListN.{length-take, length-drop}
use Rattle.std.specs.Int.Bits.{bit_and, bit_or}
use Rattle.choice_search.specs.declared.by_name.Candidate.{Candidate}
use Rattle.choice_search.specs.Search.{grouped, PickedAs, with_place, or_else, pick_one, pick, Within, FoundWithin, Blamed, turned}
use Rattle.choice_search.proofs.Sets.{within_none, within_left, within_right, within_or, within_and, within_join, within_first, within_blame, meets_too}

abbrev blank : Candidate
blank = record { place = 0; addresses = 0 }

module _ (names : List (List Candidate)) where
  abbrev others : ℕ → Option (List ℕ)
  others t = pick names t

  -- One candidate.
  clashes : (c : Candidate) (cs : List Candidate) (t : ℕ) → (bit_and c.addresses t ≡ 0 → ⊥) → pick_one (c ∷ cs) t others ≡ pick_one cs t others
  unfolding pick_one
  clashes c cs t h = rw (ne_eqb (bit_and c.addresses t) 0 h)

  fails : (c : Candidate) (cs : List Candidate) (t : ℕ) → others (bit_or t c.addresses) ≡ None → pick_one (c ∷ cs) t others ≡ pick_one cs t others
  unfolding pick_one or_else with_place
  fails c cs t e = rw e (go (eqb (bit_and c.addresses t) 0))
    where
      go : (b : Bool) → cond b (pick_one cs t others) (pick_one cs t others) ≡ pick_one cs t others
      go true = refl
      go false = refl

  finds : (c : Candidate) (cs : List Candidate) (t : ℕ) (places : List ℕ) → bit_and c.addresses t ≡ 0 → others (bit_or t c.addresses) ≡ Some places →
      pick_one (c ∷ cs) t others ≡ Some (c.place ∷ places)
  unfolding pick_one or_else with_place
  finds c cs t places h e = rw (eq-eqb (bit_and c.addresses t) 0 h, e)

  -- Where the others cannot be given theirs whatever is taken besides, no candidate helps.
  no_help : (cs : List Candidate) (t : ℕ) → ((m : ℕ) → others (bit_or t m) ≡ None) → pick_one cs t others ≡ None
  unfolding pick_one
  no_help [] t h = refl
  no_help (c ∷ cs) t h = fails c cs t (h c.addresses) ∙ no_help cs t h

  -- Where the search stands before a candidate.
  pub record Searching (cs : List Candidate) (taken i blame : ℕ) : Type 0 where
    pub same : pick_one cs taken others ≡ pick_one (drop i cs) taken others
    pub skipped : (t : ℕ) → Within blame t → pick_one cs t others ≡ pick_one (drop i cs) t others
    pub few : Within blame taken

  pub search_starts : (cs : List Candidate) (taken : ℕ) → Searching cs taken 0 0
  search_starts cs taken = record { same = refl; skipped = λ t w. refl; few = within_none taken }

  module _ (cs : List Candidate) (taken i blame : ℕ) (h : i < length cs) (s : Searching cs taken i blame) where
    abbrev c : Candidate
    c = get_or cs i blank

    is : drop i cs ≡ c ∷ drop (i + 1) cs
    is = rw (add-one, drop-cons cs i blank h)

    pub search_clashes : (part : ℕ) → part < 2 ^ 32 → Within part (bit_and c.addresses taken) × (part ≡ 0 → ⊥) →
        (bit_and c.addresses taken ≡ 0 → ⊥) → Searching cs taken (i + 1) (bit_or blame part)
    search_clashes part few p n =
        record {
          same = s.same ∙ ap (λ l. pick_one l taken others) is ∙ clashes c _ taken n;
          skipped = λ t w.
              s.skipped t (within_left blame part t w) ∙ ap (λ l. pick_one l t others) is
              ∙ clashes c _ t (meets_too 32 part c.addresses taken t few p.1 p.0 (within_right blame part t w));
          few = within_or blame part taken s.few (λ k e. within_and c.addresses taken k (p.0 k e));
        }

    module _ (later : ℕ) (b : Blamed names later) (w : Within later (bit_or taken c.addresses)) where
      pub search_goes_on : Searching cs taken (i + 1) (bit_or blame (bit_and later taken))
      search_goes_on =
          record {
            same = s.same ∙ ap (λ l. pick_one l taken others) is ∙ fails c _ taken (b _ w);
            skipped = λ t v.
                s.skipped t (within_left blame _ t v) ∙ ap (λ l. pick_one l t others) is
                ∙ fails c _ t (b _ (within_blame later taken c.addresses t w (within_right blame _ t v)));
            few = within_or blame _ taken s.few (within_and later taken);
          }

      pub search_jumps : bit_and later c.addresses ≡ 0 → Blamed (cs ∷ names) later × Within later taken
      unfolding pick
      search_jumps e = (λ t v. no_help cs t (λ m. b _ (within_join later t m v)), within_first later taken c.addresses w e)

    pub search_finds : (places : List ℕ) → bit_and c.addresses taken ≡ 0 → pick names (bit_or taken c.addresses) ≡ Some places →
        pick (cs ∷ names) taken ≡ Some (c.place ∷ places)
    unfolding pick
    search_finds places h e = s.same ∙ ap (λ l. pick_one l taken others) is ∙ finds c _ taken places h e

  pub search_ends : (cs : List Candidate) (taken i blame : ℕ) → length cs ≤ i → Searching cs taken i blame →
      Blamed (cs ∷ names) blame × Within blame taken
  unfolding pick pick_one
  search_ends cs taken i blame h s = (λ t w. s.skipped t w ∙ rw (drop_all i cs h) refl, s.few)

-- Each blame that is remembered is one.
abbrev pub Remembered : List (List Candidate) → List ℕ → Type 0
Remembered names blames = (k : ℕ) → (get_or blames k 0 ≡ 0 → ⊥) → Blamed names (get_or blames k 0)

pub remembers_none : (names : List (List Candidate)) (n : ℕ) → Remembered names (replicate n 0)
remembers_none names zero k h = absurd (h refl)
remembers_none names (suc n) zero h = absurd (h refl)
remembers_none names (suc n) (suc k) h = remembers_none names n k h

pub remembers : (names : List (List Candidate)) (blames : List ℕ) (i later : ℕ) → Remembered names blames → Blamed names later →
    Remembered names (set blames i later)
remembers names [] i later r b k h = absurd (h refl)
remembers names (x ∷ l) zero later r b zero h = b
remembers names (x ∷ l) zero later r b (suc k) h = r (suc k) h
remembers names (x ∷ l) (suc i) later r b zero h = r zero h
remembers names (x ∷ l) (suc i) later r b (suc k) h = remembers names l i later (λ j. r (suc j)) b k h

pub remembered : (names : List (List Candidate)) (blames : List ℕ) (set before : ℕ) → Remembered names blames → FoundWithin blames set before →
    (before ≡ 0 → ⊥) → Blamed names before × Within before set
remembered names blames set before r f h = go (f h)
  where
    go : ((k : ℕ) × ((get_or blames k 0 ≡ before) × Within before set)) → Blamed names before × Within before set
    go (k, (e, w)) = (rw e at (r k (λ z. h (sym e ∙ z))), w)

turned_set : (places : List ℕ) (n k place : ℕ) → n ≤ k → turned (set places k place) n ≡ turned places n
unfolding turned
turned_set places zero k place h = refl
turned_set places (suc n) k place h = rw (get_or-set_other places k n place 0 (λ e. omega arith), turned_set places n k place (omega arith)) refl

pub length-grouped : (counts : List ℕ) (all : List Candidate) → length (grouped counts all) ≡ length counts
unfolding grouped
length-grouped [] all = refl
length-grouped (count ∷ counts) all = rw (length-grouped counts (drop count all)) refl

grouped_first : (counts : List ℕ) (all : List Candidate) → 1 ≤ length counts →
    grouped counts all ≡ take (get_or counts 0 0) all ∷ grouped (take (length counts - 1) (drop 1 counts)) (drop (get_or counts 0 0) all)
unfolding grouped
grouped_first [] all h = absurd (omega arith)
grouped_first (x ∷ l) all h = rw (take_all (length (x ∷ l) - 1) l (omega arith)) refl

-- The first name, and the others.
module _ (counts : List ℕ) (all : List Candidate) (some : 1 ≤ length counts) (end : ℕ) (is : end ≡ min (get_or counts 0 0) (length all)) (taken : ℕ) where
  abbrev own : List Candidate
  own = take end all

  abbrev rest : List ℕ
  rest = take (length counts - 1) (drop 1 counts)

  abbrev behind : List Candidate
  behind = take (length all - end) (drop end all)

  first_and_rest : grouped counts all ≡ own ∷ grouped rest behind
  first_and_rest = rw (take_rest all end, is, take_min (get_or counts 0 0) all, drop_min (get_or counts 0 0) all) (grouped_first counts all some)

  pub blames : (blame : ℕ) → Blamed (own ∷ grouped rest behind) blame × Within blame taken → PickedAs (grouped counts all) taken (Err blame)
  unfolding PickedAs
  blames blame b = rw first_and_rest b

  -- The place of the first name goes behind those of the others.
  pub picks : (place : ℕ) (places : List ℕ) → length places ≡ 8 → length counts ≤ 8 →
      pick (own ∷ grouped rest behind) taken ≡ Some (place ∷ turned places (length (grouped rest behind))) →
      PickedAs (grouped counts all) taken (Ok (set places (length rest) place))
  unfolding PickedAs turned
  picks place places l h e =
      let n : length (grouped rest behind) ≡ length rest = length-grouped rest behind in
      let m : length rest < length places = let k = length_rest in omega arith in
      rw (first_and_rest, n, turned_set places (length rest) (length rest) place (omega arith), get_or-set_same places (length rest) place 0 m)
      (rw n at e)
    where
      length_rest : length rest < length counts
      length_rest = rw (length-take (length counts - 1) (drop 1 counts), length-drop 1 counts) (omega arith)

-- No name.
pub picks_none : (counts : List ℕ) (all : List Candidate) (taken : ℕ) (places : List ℕ) → length counts < 1 →
    PickedAs (grouped counts all) taken (Ok places)
unfolding PickedAs grouped pick turned
picks_none [] all taken places h = refl
picks_none (x ∷ l) all taken places h = absurd (omega arith)
