-- The fields that a companion gives.
use Prim.Native.Nat.{ℕ, ◌+◌, ◌/◌, ◌%◌, ◌^◌, ◌<◌, ◌≤◌}
use mathlib.Core.Path.{◌≡◌, refl, ap, ◌∙◌}
use mathlib.Core.Logic.{◌⊎◌, inl, inr}
use mathlib.Core.Bool.{Bool, true, false, cond, ◌&&◌}
use mathlib.Core.List.{List}
use borrow.Author.Tests.{le-leb}
use lib.Dec.{leb}
use Rattle.def.specs.Speed.{is_super}
use Rattle.descriptor.specs.Word.{type_number, transfer_type, with_companion, endpoint_descriptor}
use Rattle.descriptor.specs.Endpoint.{dci_of, is_periodic}
use Rattle.descriptor.proofs.Joined.{same_promise, companion_promise}
use Rattle.context_field.specs.Field.{read_field}
use Rattle.context_block.specs.FieldWrite.{FieldWrite}
use Rattle.context_block.specs.Blocks.{word_dci}
use Rattle.context_block.specs.Promises.{Holds, ring_reads, companion_reads, endpoint_reads}
use Rattle.context.specs.Place.{block_at, read_at, written}
use Rattle.context.specs.Steps.{add_all}
use Rattle.theorem_contexts.specs.Companions.{type_of, CompanionRead, CompanionsRead}

super_speed : (speed : ℕ) → 4 ≤ speed → speed ≤ 5 → is_super speed ≡ true
unfolding is_super
super_speed speed low high = rw (le-leb 4 speed low, le-leb speed 5 high)

own_type : (w n : ℕ) → type_of w ≡ n → (endpoint_descriptor w).transfer_type ≡ transfer_type n
unfolding endpoint_descriptor type_number
own_type w n e = ap transfer_type e

module _ (w c : ℕ) where
  type_is : (n : ℕ) → type_of w ≡ n → (endpoint_descriptor (with_companion w c)).transfer_type ≡ transfer_type n
  type_is n e = (same_promise w c).transfer ∙ own_type w n e

  periodic : (type_of w ≡ 1) ⊎ (type_of w ≡ 3) → is_periodic (endpoint_descriptor (with_companion w c)).transfer_type ≡ true
  unfolding transfer_type is_periodic
  periodic (inl e) = ap is_periodic (type_is 1 e)
  periodic (inr e) = ap is_periodic (type_is 3 e)

  not_periodic : type_of w ≡ 2 → is_periodic (endpoint_descriptor (with_companion w c)).transfer_type ≡ false
  unfolding transfer_type is_periodic
  not_periodic e = ap is_periodic (type_is 2 e)

  fields_told : (block before : List ℕ) → w < 2 ^ 32 → Holds block (companion_reads before (endpoint_descriptor (with_companion w c))) →
      CompanionRead (read_field block) (read_field before) w c
  unfolding Holds companion_reads
  fields_told block before small h =
      let says = (companion_promise w c small).0 in
      record {
        burst = h.0 ∙ says.burst;
        mult = λ p. h.1.0 ∙ rw (periodic p) says.mult;
        average = λ p. h.1.1.0 ∙ rw (periodic p) says.bytes;
        low = λ p. h.1.1.1.0 ∙ rw (periodic p) says.bytes;
        high = λ p. h.1.1.1.1.1.0 ∙ rw (periodic p);
        bulk = λ p.
            let n = not_periodic p in
            (h.1.0 ∙ rw n, (h.1.1.1.1.1.0 ∙ rw n, (h.1.1.1.0 ∙ rw n, h.1.1.0 ∙ rw n)));
      }

which_holds : (block : List ℕ) (b : Bool) (x y : List FieldWrite) → b ≡ true → Holds block (cond b x y) → Holds block x
which_holds block b x y e h = rw e at h

pub companions_read : CompanionsRead
unfolding read_at Holds ring_reads endpoint_reads word_dci
companions_read s speed interface alternate dropped added queues dcis was ctx low high r xs ys w c small e last =
    let v = with_companion w c in
    let same : word_dci v ≡ word_dci w = ap dci_of (same_promise w c).address in
    let h = (r.last xs ys v e (rw same last)).named in
    rw (← same)
    (fields_told w c (block_at s ctx (word_dci v + 1)) (block_at s (written s (add_all speed queues xs) was) (word_dci v + 1)) small
    (which_holds _ (is_super speed) _ _ (super_speed speed low high) h.1.1.1.1.1.1.1))
