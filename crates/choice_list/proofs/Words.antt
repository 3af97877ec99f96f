-- What is asked of a word that an interface may choose, and the first configuration.
use Rattle.std.specs.Prelude.{ℕ, suc, ◌+◌, ◌-◌, ◌<◌, ◌≤◌, ◌≡◌, Bool, true, false, cond, Some, None, List, [], ◌∷◌, eqb, length, get_or, take, drop}
use mathlib.Core.Path.{refl, ◌∙◌}
use mathlib.Core.Bool.{and-false}
use native.Mathlib.Omega.{arith}
use lib.Seq.{take_all}
use borrow.Author.Tests.{eq-eqb, ne_eqb}
use Rattle.std.specs.List.{list_all}
use Rattle.descriptor.specs.Word.{kind, CONFIGURATION, alternate_setting}
use Rattle.descriptor_configuration.specs.Words.{up_to_configuration}
use Rattle.descriptor_list.specs.declared.EndpointWords.{EndpointWords}
use Rattle.descriptor_list.specs.Lookup.{of_interface, find_endpoints}
use Rattle.record_settings.specs.Held.{found_words, setting_words}
use Rattle.choice_list.specs.Candidate.{first_length, is_short, all_short, found_at, words_at}
use Rattle.choice_list.specs.Tried.{may_choose}

pub first_none : (l : List ℕ) → length l < 1 → 0 ≡ first_length l
unfolding first_length
first_none [] h = refl
first_none (w ∷ l) h = absurd (omega arith)

pub first_some : (l : List ℕ) → 1 ≤ length l → length (up_to_configuration (take (length l - 1) (drop 1 l))) + 1 ≡ first_length l
unfolding first_length
first_some [] h = absurd (omega arith)
first_some (w ∷ l) h = rw (take_all (length (w ∷ l) - 1) l (omega arith)) refl

up_to_few : (l : List ℕ) → length (up_to_configuration l) ≤ length l
unfolding up_to_configuration
up_to_few [] = omega arith
up_to_few (w ∷ l) = go (eqb (kind w) CONFIGURATION) (up_to_few l)
  where
    go : (b : Bool) → length (up_to_configuration l) ≤ length l → length (cond b [] (w ∷ up_to_configuration l)) ≤ suc (length l)
    go true h = omega arith
    go false h = omega arith

pub first_few : (l : List ℕ) → first_length l ≤ length l
unfolding first_length
first_few [] = omega arith
first_few (w ∷ l) = let h = up_to_few l in omega arith

pub short_all : (speed longest : ℕ) (words : List ℕ) → list_all (is_short speed longest) words ≡ all_short speed longest words
unfolding all_short
short_all speed longest [] = refl
short_all speed longest (w ∷ ws) = rw (short_all speed longest ws) refl

-- The exits of `may_choose`.
module _ (list : List ℕ) (speed longest interface place : ℕ) where
  pub not_its : of_interface interface (get_or list place 0) ≡ false → false ≡ may_choose list speed longest interface place
  unfolding may_choose
  not_its e = rw e refl

  pub not_found : find_endpoints list interface (alternate_setting (get_or list place 0)) ≡ None → false ≡ may_choose list speed longest interface place
  unfolding may_choose found_at
  not_found e = rw (e, and-false (of_interface interface (get_or list place 0))) refl

  module _ (its : of_interface interface (get_or list place 0) ≡ true) (f : EndpointWords)
      (is : find_endpoints list interface (alternate_setting (get_or list place 0)) ≡ Some f) where
    pub found_elsewhere : (f.start ≡ place + 1 → ⊥) → eqb f.start (place + 1) ≡ may_choose list speed longest interface place
    unfolding may_choose found_at
    found_elsewhere h = rw (its, is, ne_eqb f.start (place + 1) h) refl

    pub found_here : f.start ≡ place + 1 → (words : List ℕ) → words ≡ take f.count (drop f.start list) → (r : Bool) →
        r ≡ all_short speed longest words → r ≡ may_choose list speed longest interface place
    unfolding may_choose found_at words_at setting_words found_words
    found_here h words w r e = e ∙ rw (its, is, eq-eqb f.start (place + 1) h, w) refl
