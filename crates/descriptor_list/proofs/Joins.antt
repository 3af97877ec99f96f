-- One turn of the walks that join companions to their words and that judge them; the exits of `list_ok`.
use Prim.Native.Nat.{ℕ, ◌+◌, ◌≤◌, ◌<◌}
use mathlib.Core.Path.{◌≡◌, refl, sym, ◌∙◌}
use mathlib.Core.Bool.{Bool, true, false, not, ◌&&◌, ◌||◌}
use mathlib.Core.List.{List, [], ◌∷◌, ◌++◌, append_assoc, append-nil}
use Rattle.std.proofs.Common.{None, slice_get}
use Rattle.std.specs.List.{list_all}
use native.Mathlib.Nat.{add-zero}
use native.Mathlib.Numerals.{add-one}
use native.Mathlib.Omega.{arith}
use lib.Dec.{eqb, leb}
use lib.ListN.{length, get_or, set, length-set, take, drop, drop_of_length-le}
use lib.Seq.{take-suc-set, get_or-drop}
use Rattle.def.specs.Speed.{is_super}
use Rattle.descriptor.specs.Word.{kind, is_companion, companion_ok, ENDPOINT}
use Rattle.descriptor_list.specs.Valid.{LIST-ROOM, begins_with_configuration, valid_list}
use Rattle.descriptor_list.specs.Companions.{joined_word, joined, companions_ok, list_ok, follows, paired_after}
use Rattle.descriptor_list.proofs.Next.{drop_next}
use Rattle.descriptor_list.proofs.Steps.{empty_valid}

-- The first words of an array are those joined so far, and the others are still to come.
pub record Joining (list words : List ℕ) (count i : ℕ) : Type 0 where
  pub inside : i ≤ length list
  pub few : count ≤ i
  pub long : length words ≡ 256
  pub whole : joined list ≡ take count words ++ joined (drop i list)

pub joining_starts : (list words : List ℕ) → length words ≡ 256 → Joining list words 0 0
joining_starts list words e = record { inside = omega arith; few = omega arith; long = e; whole = refl }

module _ (list words : List ℕ) (count i : ℕ) (h : i < length list) (g : Joining list words count i) where
  skipped : is_companion (get_or list i 0) ≡ true → joined (drop i list) ≡ joined (drop (i + 1) list)
  unfolding joined
  skipped e = rw (drop_next list i h, e)

  behind : get_or (drop (i + 1) list) 0 0 ≡ get_or list (i + 1) 0
  behind = rw add-zero at (get_or-drop (i + 1) list 0 0)

  kept : is_companion (get_or list i 0) ≡ false →
      joined (drop i list) ≡ joined_word (get_or list i 0) (get_or list (i + 1) 0) ∷ joined (drop (i + 1) list)
  unfolding joined
  kept e = rw (drop_next list i h, e, behind)

  pub joining_skips : is_companion (get_or list i 0) ≡ true → Joining list words count (i + 1)
  joining_skips e =
      record {
        inside = omega arith;
        few = omega (arith, g.few);
        long = g.long;
        whole = g.whole ∙ rw (skipped e);
      }

  pub joining_puts : is_companion (get_or list i 0) ≡ false → length list ≤ 256 → (x : ℕ) →
      x ≡ joined_word (get_or list i 0) (get_or list (i + 1) 0) → Joining list (set words count x) (count + 1) (i + 1)
  joining_puts e room x is =
      let inside : count < length words = omega (arith, g.few, g.long) in
      record {
        inside = omega arith;
        few = omega (arith, g.few);
        long = simp length-set g.long;
        whole = g.whole ∙ rw (kept e, ← is, add-one count, take-suc-set words count x inside, append_assoc);
      }

pub joining_ends : (list words : List ℕ) (count i : ℕ) → length list ≤ i → Joining list words count i → take count words ≡ joined list
unfolding joined
joining_ends list words count i h g = sym (g.whole ∙ rw (drop_of_length-le list h, append-nil))

-- What a closure tests of a word.
abbrev pub passes : Bool → ℕ → Bool
passes allowed w = not (is_companion w) || (allowed && companion_ok w)

pub passes_all : (allowed : Bool) (l : List ℕ) → list_all (passes allowed) l ≡ companions_ok allowed l
unfolding companions_ok
passes_all allowed [] = refl
passes_all allowed (w ∷ l) = rw (passes_all allowed l) refl

module _ (l : List ℕ) (i p : ℕ) where
  pub paired_next : i < length l → paired_after p (drop i l) ≡ follows p (get_or l i 0) && paired_after (get_or l i 0) (drop (i + 1) l)
  unfolding paired_after
  paired_next h = rw (drop_next l i h)

  pub paired_end : length l ≤ i → paired_after p (drop i l) ≡ not (eqb (kind p) ENDPOINT)
  unfolding paired_after
  paired_end h = rw (drop_of_length-le l h)

-- The tests of `list_ok`, as the code joins them.
pub ok_tests : (speed : ℕ) (l : List ℕ) →
    list_ok speed l
    ≡ (((leb (length l) LIST-ROOM && begins_with_configuration l) && companions_ok (is_super speed) l) && valid_list (joined l))
unfolding list_ok
ok_tests speed l = go (leb (length l) LIST-ROOM) (begins_with_configuration l) (companions_ok (is_super speed) l) (valid_list (joined l))
  where
    go : (a b c d : Bool) → (a && (b && (c && d))) ≡ (((a && b) && c) && d)
    go false b c d = refl
    go true false c d = refl
    go true true c d = refl

-- a list without a first word is empty
pub empty_ok : (speed : ℕ) (l : List ℕ) → None ≡ slice_get l 0 → list_ok speed l ≡ true
unfolding list_ok begins_with_configuration companions_ok joined
empty_ok speed [] e = empty_valid [] e
empty_ok speed (w ∷ l) e = absurd (cc)
