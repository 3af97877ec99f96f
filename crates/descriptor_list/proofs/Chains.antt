-- The definitions as the library's words for chains of iterators.
use Rattle.std.proofs.Common.{ℕ, suc, ◌+◌, ◌≡◌, refl, sym, ap, ◌∙◌, cond, List, [], ◌∷◌, length, take, drop, Some, option_map, count_by, arith, inl, inr}
use Prim.Native.Nat.{◌-◌, ◌≤◌, ◌<◌, min}
use native.Mathlib.Decide.{dec_lt}
use lib.ListN.{length-drop, drop_of_length-le}
use lib.Seq.{take_all}
use Rattle.std.specs.List.{prefix_len, position, position_from}
use Rattle.std.proofs.lemmas.List.{drop-drop}
use Rattle.std.proofs.lemmas.List.Recursion.{is_count_by}
use Rattle.std.proofs.lemmas.List.Folds.{length-prefix_len}
use Rattle.std.proofs.lemmas.Iterator.Adapters.{position_from-zero}
use Rattle.laws.proofs.Cases.{Decided, decided}
use Rattle.descriptor.specs.declared.WordKind.TheVariants.{Configuration, Endpoint}
use Rattle.descriptor.proofs.Kind.{is_kind, kind_test}
use Rattle.descriptor_list.specs.declared.EndpointWords.{EndpointWords}
use Rattle.descriptor_list.specs.Lookup.{endpoint_run, is_alternate, find_from, find_endpoints}
use Rattle.descriptor_list.specs.Valid.{configurations}

one-add : (n : ℕ) → suc n ≡ 1 + n
one-add n = omega arith

prefix_run : (l : List ℕ) → prefix_len (is_kind Endpoint) l ≡ endpoint_run l
unfolding endpoint_run
prefix_run [] = refl
prefix_run (w ∷ l) = rw (kind_test Endpoint w, prefix_run l, one-add (endpoint_run l))

pub run_taken : (l : List ℕ) → length (take (prefix_len (is_kind Endpoint) l) l) ≡ endpoint_run l
run_taken l = length-prefix_len (is_kind Endpoint) l ∙ prefix_run l

pub configurations_counted : (l : List ℕ) → count_by (is_kind Configuration) l ≡ configurations l
unfolding configurations
configurations_counted l =
    sym (is_count_by configurations (is_kind Configuration) refl (λ w l. rw (kind_test Configuration w, one-add (configurations l))) l)

-- The endpoint words that stand after the word at an index.
abbrev pub words_after : List ℕ → ℕ → EndpointWords
words_after list k = record { start = k + 1; count = endpoint_run (drop (k + 1) list) }

module _ (i a : ℕ) (list : List ℕ) where
  from_position : (at : ℕ) (l : List ℕ) → drop at list ≡ l →
      find_from i a at l ≡ option_map (words_after list) (position_from (is_alternate i a) at l)
  unfolding find_from
  from_position at [] e = refl
  from_position at (w ∷ l) e =
      let next : drop (at + 1) list ≡ l = sym (drop-drop 1 at list) ∙ ap (drop 1) e in
      go (decided (is_alternate i a w)) next (from_position (at + 1) l next)
    where
      go : Decided (is_alternate i a w) → drop (at + 1) list ≡ l →
          find_from i a (at + 1) l ≡ option_map (words_after list) (position_from (is_alternate i a) (at + 1) l) →
          cond (is_alternate i a w) (Some (record { start = at + 1; count = endpoint_run l })) (find_from i a (at + 1) l)
          ≡ option_map (words_after list) (cond (is_alternate i a w) (Some at) (position_from (is_alternate i a) (at + 1) l))
      go (inl p) n f = rw (p, n)
      go (inr p) n f = rw p f

  pub found_position : find_endpoints list i a ≡ option_map (words_after list) (position (is_alternate i a) list)
  unfolding find_endpoints
  found_position = from_position 0 list refl ∙ rw (position_from-zero (is_alternate i a) list)

-- The words from an index on, or none where the list ends before it.
pub rest_from : (l : List ℕ) (from m : ℕ) → m ≡ min from (length l) → take (length l - m) (drop m l) ≡ drop from l
rest_from l from m e = take_all _ (drop m l) (omega (arith, length-drop m l)) ∙ go (dec_lt (length l) from)
  where
    go : Dec (length l < from) → drop m l ≡ drop from l
    go (yes h) = let a : length l ≤ m = omega arith in let b : length l ≤ from = omega arith in drop_of_length-le l a ∙ sym (drop_of_length-le l b)
    go (no h) = let a : m ≡ from = omega arith in rw a
