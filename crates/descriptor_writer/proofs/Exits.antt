-- The exits of the writer.
use Prim.Native.Nat.{ℕ, ◌≤◌, ◌<◌}
use mathlib.Core.Path.{◌≡◌}
use mathlib.Core.Bool.{true, false}
use mathlib.Core.List.{List}
use borrow.Author.Tests.{le-leb, lt-leb, leb-true}
use lib.Dec.{leb}
use lib.ListN.{length}
use lib.Seq.{sets}
use Rattle.laws.proofs.Tests.{and_left}
use Rattle.def.specs.Speed.{speed_known}
use Rattle.descriptor_list.specs.Companions.{list_ok, companions_fit}
use Rattle.std.proofs.Common.{Ok, Err}
use Rattle.function_answer.specs.declared.Refusal.TheVariants.{TooShort, Speed, DescriptorList, Companion, Malformed}
use Rattle.function_answer.specs.Answer.{leaves}
use Rattle.descriptor_raw.specs.Write.{packets_given, written_bytes, write_descriptors}
use Rattle.descriptor_writer.specs.Written.{Listed}

module _ (speed : ℕ) (list buffer : List ℕ) where
  pub too_short : length buffer < 2304 → leaves (Err TooShort) buffer ≡ write_descriptors speed list buffer
  unfolding write_descriptors
  too_short h = rw (lt-leb 2304 (length buffer) h)

  module _ (room : 2304 ≤ length buffer) where
    pub not_known : speed_known speed ≡ false → leaves (Err Speed) buffer ≡ write_descriptors speed list buffer
    unfolding write_descriptors
    not_known k = rw (le-leb 2304 (length buffer) room, k)

    module _ (k : speed_known speed ≡ true) where
      pub not_ok : list_ok speed list ≡ false → leaves (Err DescriptorList) buffer ≡ write_descriptors speed list buffer
      unfolding write_descriptors
      not_ok v = rw (le-leb 2304 (length buffer) room, k, v)

      module _ (v : list_ok speed list ≡ true) where
        pub not_paired : companions_fit speed list ≡ false → leaves (Err Companion) buffer ≡ write_descriptors speed list buffer
        unfolding write_descriptors
        not_paired q = rw (le-leb 2304 (length buffer) room, k, v, q)

        module _ (q : companions_fit speed list ≡ true) where
          pub not_given : packets_given list ≡ false → leaves (Err Malformed) buffer ≡ write_descriptors speed list buffer
          unfolding write_descriptors
          not_given p = rw (le-leb 2304 (length buffer) room, k, v, q, p)

          module _ (p : packets_given list ≡ true) where
            pub may_write : Listed list
            unfolding list_ok
            may_write = record { short = leb-true (length list) 256 (and_left (leb (length list) 256) _ v); packets = p }

            pub all_written : (count : ℕ) (out : List ℕ) → (count ≡ length (written_bytes list)) × (out ≡ sets buffer 0 (written_bytes list)) →
                leaves (Ok count) out ≡ write_descriptors speed list buffer
            unfolding write_descriptors
            all_written count out w = rw (le-leb 2304 (length buffer) room, k, v, q, p, w.0, w.1)
