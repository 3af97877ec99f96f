-- One turn of the walk that gathers words.
use Prim.Native.Nat.{ℕ, suc, ◌+◌, ◌≤◌, ◌<◌}
use mathlib.Core.Path.{◌≡◌, sym, ap, ◌∙◌}
use mathlib.Core.Bool.{Bool}
use mathlib.Core.List.{List, [], ◌∷◌, ◌++◌, append_assoc, append-nil}
use native.Mathlib.Numerals.{add-one}
use native.Mathlib.Omega.{arith}
use lib.ListN.{length, take, set, length-append, length-set}
use lib.Seq.{take-suc-set, length-take-le}
use Rattle.std.proofs.Common.{Option, Some, None}
use Rattle.descriptor_raw.specs.Read.{cut, descriptors, words_of, all_words, settled_word, settled_after, read_words}
use Rattle.descriptor_reader.specs.declared.cut.Descriptor.{Descriptor}
use Rattle.descriptor_reader.specs.declared.cut.Descriptors.{Descriptors}
use Rattle.descriptor_reader.specs.Walk.{Step, made_words}

-- The first words of an array are those read so far, and the others are still to come, behind the word that was read last.
pub record Gathering (super : Bool) (bytes list : List ℕ) (count last : ℕ) (rest : Descriptors) : Type 0 where
  pub room : count ≤ 256
  pub long : length list ≡ 256
  pub same : rest.companions ≡ super
  pub words : read_words super bytes ≡ take count list ++ settled_after super last (all_words super (descriptors rest.bytes.now))

module _ (super : Bool) (bytes list : List ℕ) (count last : ℕ) (rest : Descriptors) (g : Gathering super bytes list count last rest) where
  pub gathered_all : rest.bytes.now ≡ [] → (count ≤ 256) × (take count list ≡ read_words super bytes)
  unfolding descriptors cut all_words settled_after
  gathered_all e = (g.room, sym (g.words ∙ rw (e, append-nil)))

  module _ (d : Descriptor) (after : Descriptors) (f : Step rest d after) (made : Option ℕ) (m : made_words made ≡ words_of d.companions d.bytes.now) where
    next : read_words super bytes ≡ take count list ++ settled_after super last (made_words made ++ all_words super (descriptors after.bytes.now))
    unfolding all_words
    next = g.words ∙ rw (f.cut_off.next, m, f.given, g.same)

    pub gathered_nothing : made ≡ None → Gathering super bytes list count last after
    unfolding made_words
    gathered_nothing p = record { room = g.room; long = g.long; same = f.kept ∙ g.same; words = next ∙ rw p }

    module _ (w : ℕ) (p : made ≡ Some w) where
      pub gathered_word : count < 256 → (v : ℕ) → v ≡ settled_word d.companions last w → Gathering super bytes (set list count v) (count + 1) w after
      unfolding made_words settled_after
      gathered_word r v e =
          let q : count < length list = omega (arith, g.long) in
          let s : v ≡ settled_word super last w = e ∙ rw (f.given, g.same) in
          record {
            room = omega arith;
            long = simp length-set g.long;
            same = f.kept ∙ g.same;
            words = next ∙ rw (p, s, add-one count, take-suc-set list count (settled_word super last w) q, append_assoc);
          }

      pub gathered_many : count ≡ 256 → 256 < length (read_words super bytes)
      unfolding made_words settled_after
      gathered_many r =
          let q : read_words super bytes ≡ take count list ++ (settled_word super last w ∷ settled_after super w (all_words super (descriptors after.bytes.now))) = next ∙ rw p in
          let k : length (take count list) ≡ count = length-take-le count list (omega (arith, g.long)) in
          let s : length (read_words super bytes) ≡ count + suc (length (settled_after super w (all_words super (descriptors after.bytes.now)))) = ap length q ∙ rw (length-append, k) in
          omega arith
