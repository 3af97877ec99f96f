-- The words of a configuration as the library's words for chains of iterators, and pairs, turn by turn.
use Rattle.std.proofs.Common.{ℕ, ◌+◌, ◌≡◌, refl, sym, ap, ◌∙◌, cond, List, [], ◌∷◌, length, take, drop, Some, None, option_map, inl, inr, Bool, true, false, ◌&&◌}
use Prim.Native.Nat.{◌-◌, ◌≤◌, ◌<◌}
use mathlib.Core.Bool.{and-false}
use native.Mathlib.Omega.{arith}
use native.Mathlib.Numerals.{add-one}
use borrow.Author.Tests.{le-leb, lt-leb, leb-true}
use lib.Dec.{eqb, leb}
use lib.ListN.{get_or, length-drop}
use lib.Seq.{take_all}
use Rattle.std.specs.List.{position, position_from, list_any}
use Rattle.std.proofs.lemmas.List.{drop-drop}
use Rattle.std.proofs.lemmas.Iterator.Adapters.{position_from-zero}
use Rattle.laws.proofs.Cases.{Decided, decided}
use Rattle.laws.proofs.Tests.{and_left}
use Rattle.descriptor.specs.declared.WordKind.TheVariants.{Alternate}
use Rattle.descriptor.specs.Word.{interface_number, alternate_setting}
use Rattle.descriptor.proofs.Kind.{is_kind, kind_test}
use Rattle.descriptor_list.specs.Lookup.{of_interface, is_alternate}
use Rattle.descriptor_configuration.specs.Words.{up_to_configuration}
use Rattle.settings_form.specs.Held.{is_configuration, configuration_words, pairs_held, held_in, settings_held}

-- The words of a configuration by the place of its own word.
abbrev pub words_after : List ℕ → ℕ → List ℕ
words_after list k = up_to_configuration (drop (k + 1) list)

module _ (value : ℕ) (list : List ℕ) where
  from_position : (at : ℕ) (l : List ℕ) → drop at list ≡ l →
      configuration_words value l ≡ option_map (words_after list) (position_from (is_configuration value) at l)
  unfolding configuration_words
  from_position at [] e = refl
  from_position at (w ∷ l) e =
      let next : drop (at + 1) list ≡ l = sym (drop-drop 1 at list) ∙ ap (drop 1) e in
      go (decided (is_configuration value w)) next (from_position (at + 1) l next)
    where
      go : Decided (is_configuration value w) → drop (at + 1) list ≡ l →
          configuration_words value l ≡ option_map (words_after list) (position_from (is_configuration value) (at + 1) l) →
          cond (is_configuration value w) (Some (up_to_configuration l)) (configuration_words value l)
          ≡ option_map (words_after list) (cond (is_configuration value w) (Some at) (position_from (is_configuration value) (at + 1) l))
      go (inl p) n f = rw (p, n)
      go (inr p) n f = rw p f

  pub words_position : configuration_words value list ≡ option_map (words_after list) (position (is_configuration value) list)
  words_position = from_position 0 list refl ∙ rw (position_from-zero (is_configuration value) list)

pub rest_whole : (m : ℕ) (l : List ℕ) → take (length l - m) (drop m l) ≡ drop m l
rest_whole m l = take_all _ (drop m l) (omega (arith, length-drop m l))

-- What a closure tests of a word, and the alternates that words have.
abbrev pub alternate_test : ℕ → ℕ → ℕ → Bool
alternate_test interface alternate w =
    (is_kind Alternate w && eqb (interface_number w) interface) && eqb (alternate_setting w) alternate

pub any_alternate : (interface alternate : ℕ) (l : List ℕ) →
    list_any (alternate_test interface alternate) l ≡ list_any (is_alternate interface alternate) l
unfolding is_alternate of_interface
any_alternate interface alternate [] = refl
any_alternate interface alternate (w ∷ l) = rw (kind_test Alternate w, any_alternate interface alternate l)

-- One pair.
module _ (least : ℕ) (words left : List ℕ) where
  pub pairs_end : length left < 2 → (b : Bool) → b ≡ eqb (length left) 0 → b ≡ pairs_held least words left
  unfolding pairs_held
  pairs_end h b e = e ∙ go left h
    where
      go : (left : List ℕ) → length left < 2 → eqb (length left) 0 ≡ pairs_held least words left
      go [] h = refl
      go (i ∷ []) h = refl
      go (i ∷ (a ∷ l)) h = absurd (omega arith)

  module _ (two : 2 ≤ length left) where
    two_at : left ≡ get_or left 0 0 ∷ (get_or left 1 0 ∷ take (length left - 2) (drop 2 left))
    two_at = rw (rest_whole 2 left) (go left two)
      where
        go : (left : List ℕ) → 2 ≤ length left → left ≡ get_or left 0 0 ∷ (get_or left 1 0 ∷ drop 2 left)
        go [] h = absurd (omega arith)
        go (i ∷ []) h = absurd (omega arith)
        go (i ∷ (a ∷ l)) h = refl

    held_two : pairs_held least words left
        ≡ (leb least (get_or left 0 0) && (list_any (is_alternate (get_or left 0 0) (get_or left 1 0)) words && pairs_held (get_or left 0 0 + 1) words (take (length left - 2) (drop 2 left))))
    unfolding pairs_held
    held_two = ap (pairs_held least words) two_at ∙ rw add-one

    pub not_rising : get_or left 0 0 < least → pairs_held least words left ≡ false
    not_rising h = held_two ∙ rw (lt-leb least (get_or left 0 0) h)

    module _ (f : Bool) (q : f ≡ list_any (is_alternate (get_or left 0 0) (get_or left 1 0)) words) where
      pub not_found : f ≡ false → pairs_held least words left ≡ false
      not_found h = held_two ∙ rw (← q, h, and-false (leb least (get_or left 0 0)))

      pub pair_held : least ≤ get_or left 0 0 → f ≡ true →
          pairs_held (get_or left 0 0 + 1) words (take (length left - 2) (drop 2 left)) ≡ pairs_held least words left
      pair_held h t = sym (held_two ∙ rw (← q, t, le-leb least (get_or left 0 0) h))

-- The exits of `settings_held`.
module _ (list : List ℕ) (value : ℕ) (pairs : List ℕ) where
  pub many_pairs : 64 < length pairs → settings_held list value pairs ≡ false
  unfolding settings_held
  many_pairs h = rw (lt-leb (length pairs) 64 h)

  pub no_words : configuration_words value list ≡ None → settings_held list value pairs ≡ false
  unfolding settings_held held_in
  no_words e = rw (e, and-false (leb (length pairs) 64))

  pub held_words : length pairs ≤ 64 → (words : List ℕ) → configuration_words value list ≡ Some words →
      settings_held list value pairs ≡ pairs_held 0 words pairs
  unfolding settings_held held_in
  held_words h words e = rw (le-leb (length pairs) 64 h, e)

  pub held_few : settings_held list value pairs ≡ true → length pairs ≤ 64
  unfolding settings_held
  held_few h = leb-true (length pairs) 64 (and_left (leb (length pairs) 64) _ h)
