-- The exits of the reader.
use Prim.Native.Nat.{ℕ, ◌≤◌, ◌<◌}
use mathlib.Core.Path.{◌≡◌}
use mathlib.Core.Bool.{Bool, true, false, ◌&&◌, and-false}
use mathlib.Core.List.{List}
use borrow.Author.Tests.{le-leb, lt-leb}
use lib.ListN.{length}
use Rattle.std.proofs.Common.{Result, Ok, Err}
use Rattle.std.specs.Result.{IsErrAnd}
use Rattle.def.specs.Speed.{speed_known, is_super}
use Rattle.descriptor_list.specs.Companions.{list_ok, companions_fit}
use Rattle.function_answer.specs.declared.Refusal.{Refusal}
use Rattle.function_answer.specs.declared.Refusal.TheVariants.{TooShort, Speed, DescriptorList, Companion, Malformed}
use Rattle.function_answer.specs.Answer.{leaves, accepts, unless}
use Rattle.descriptor_raw.specs.Read.{descriptors, all_whole, all_borne_out, well_formed, read_words, bursts_fit, read_descriptors}

-- what the exit of a `?` returns
pub returned : {T : Type 0} (r : Result ℕ Refusal) (error refusal : Refusal) → IsErrAnd r (λ e. e ≡ error) →
    ◌≡◌ {A = Result T Refusal} (Err error) (Err refusal) → r ≡ Err refusal
returned (Ok count) error refusal h q = absurd h
returned (Err e) error refusal h q = let s : error ≡ refusal = cc in rw (h, s)

module _ (speed : ℕ) (bytes buffer : List ℕ) where
  pub too_short : length buffer < 256 → leaves (Err TooShort) buffer ≡ read_descriptors speed bytes buffer
  unfolding read_descriptors
  too_short h = rw (lt-leb 256 (length buffer) h)

  module _ (room : 256 ≤ length buffer) where
    pub not_known : speed_known speed ≡ false → leaves (Err Speed) buffer ≡ read_descriptors speed bytes buffer
    unfolding read_descriptors
    not_known k = rw (le-leb 256 (length buffer) room, k)

    module _ (k : speed_known speed ≡ true) where
      pub not_whole : all_whole (is_super speed) (descriptors bytes) ≡ false → leaves (Err Malformed) buffer ≡ read_descriptors speed bytes buffer
      unfolding read_descriptors well_formed
      not_whole w = rw (le-leb 256 (length buffer) room, k, w)

      pub not_borne_out : all_borne_out (descriptors bytes) ≡ false → leaves (Err Malformed) buffer ≡ read_descriptors speed bytes buffer
      unfolding read_descriptors well_formed
      not_borne_out b = rw (le-leb 256 (length buffer) room, k, b, and-false (all_whole (is_super speed) (descriptors bytes)))

      module _ (w : all_whole (is_super speed) (descriptors bytes) ≡ true) (b : all_borne_out (descriptors bytes) ≡ true) where
        pub too_many : 256 < length (read_words (is_super speed) bytes) → leaves (Err DescriptorList) buffer ≡ read_descriptors speed bytes buffer
        unfolding read_descriptors well_formed list_ok
        too_many m = rw (le-leb 256 (length buffer) room, k, w, b, lt-leb (length (read_words (is_super speed) bytes)) 256 m)

        -- what is gathered is judged, and taken
        pub taken :
            (fit : Bool) →
            fit ≡ bursts_fit (is_super speed) (descriptors bytes) →
            (list : List ℕ) →
            list ≡ read_words (is_super speed) bytes →
            unless (list_ok speed list) DescriptorList buffer (unless (fit && companions_fit speed list) Companion buffer (accepts list buffer))
            ≡ read_descriptors speed bytes buffer
        unfolding read_descriptors well_formed
        taken fit f list e = rw (le-leb 256 (length buffer) room, k, w, b, f, e)
