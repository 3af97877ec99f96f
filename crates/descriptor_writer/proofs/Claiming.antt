-- One turn of the walk that finds what a configuration says.
use Prim.Native.Nat.{ℕ, ◌+◌, ◌-◌, ◌*◌, ◌≤◌, ◌<◌}
use mathlib.Core.Path.{◌≡◌, sym, ◌∙◌}
use mathlib.Core.Logic.{◌≢◌}
use mathlib.Core.Bool.{Bool, true, false, cond}
use mathlib.Core.List.{List, [], ◌∷◌}
use native.Mathlib.Nat.{zero-add}
use native.Mathlib.Omega.{arith}
use lib.ListN.{length, get_or, drop, replicate, drop_of_length-le}
use Rattle.descriptor.specs.Word.{CONFIGURATION, ALTERNATE, ENDPOINT, COMPANION, kind, interface_number}
use Rattle.descriptor_list.proofs.Next.{drop_next}
use Rattle.descriptor_raw.specs.declared.marks.Marks.{Marks}
use Rattle.descriptor_raw.specs.Marked.{has_mark, MarkedWith}
use Rattle.descriptor_raw.specs.Claims.{up_to, bytes_of, interface_numbers, bytes_after, interfaces_after}
use Rattle.descriptor_raw.specs.Write.{descriptor_of, all_descriptors}
use Rattle.descriptor_raw.proofs.Made.{numbers_after, configuration_bytes, configuration_numbers, interface_bytes, interface_numbers_lem, endpoint_bytes_lem, endpoint_numbers, companion_bytes_lem, companion_numbers}
use Rattle.descriptor_raw.proofs.Unmarked.{unmarked, unmarked_all, none_left, met_other, met}
use Rattle.descriptor_writer.specs.Written.{ClaimedAs}

-- The descriptors of the words from an index on.
abbrev descriptors_from : List ℕ → ℕ → List (List ℕ)
descriptors_from list i = all_descriptors (drop i list)

abbrev descriptor_at : List ℕ → ℕ → List ℕ
descriptor_at list i = descriptor_of (get_or list i 0) (descriptors_from list (i + 1))

from_next : (list : List ℕ) (i : ℕ) → i < length list → descriptors_from list i ≡ descriptor_at list i ∷ descriptors_from list (i + 1)
unfolding all_descriptors
from_next list i h = rw (drop_next list i h)

from_end : (list : List ℕ) (i : ℕ) → length list ≤ i → descriptors_from list i ≡ []
unfolding all_descriptors
from_end list i h = rw (drop_of_length-le list h)

-- What is counted before an index, with a mark for each interface met.
pub record Claiming (list : List ℕ) (marks : Marks) (bytes i : ℕ) : Type 0 where
  pub few_bytes : bytes + 9 * (length list - i) ≤ 9 * length list
  pub few_interfaces : marks.count + (length list - i) ≤ length list
  pub bytes_left : bytes + bytes_after (descriptors_from list i) ≡ bytes_after (all_descriptors list)
  pub interfaces_left : marks.count + unmarked marks (numbers_after (descriptors_from list i)) ≡ interfaces_after (all_descriptors list)

pub claiming_start : (list : List ℕ) (marks : Marks) → marks.met ≡ replicate 256 false → marks.count ≡ 0 → Claiming list marks 0 0
unfolding interfaces_after
claiming_start list marks m c =
    record {
      few_bytes = omega arith;
      few_interfaces = omega arith;
      bytes_left = zero-add _;
      interfaces_left = omega (arith, unmarked_all marks m (numbers_after (all_descriptors list)));
    }

-- A number marked is one more at most.
count_below : (n : ℕ) (old new : Marks) → MarkedWith n old new → new.count ≤ old.count + 1
count_below n old new m = omega (arith, m.count, go (has_mark old n) old.count)
  where
    go : (b : Bool) (k : ℕ) → cond b k (k + 1) ≤ k + 1
    go true k = omega arith
    go false k = omega arith

module _ (list : List ℕ) (marks : Marks) (bytes i : ℕ) (g : Claiming list marks bytes i) where
  claimed : bytes_after (descriptors_from list i) ≡ 0 → numbers_after (descriptors_from list i) ≡ [] →
      ClaimedAs list (record { bytes = bytes; interfaces = marks.count })
  claimed b n =
      let u : unmarked marks (numbers_after (descriptors_from list i)) ≡ 0 = none_left marks _ n in
      record {
        bytes = omega (arith, g.bytes_left);
        interfaces = omega (arith, g.interfaces_left);
        few_bytes = omega (arith, g.few_bytes);
        few_interfaces = omega (arith, g.few_interfaces);
      }

  pub claimed_end : length list ≤ i → ClaimedAs list (record { bytes = bytes; interfaces = marks.count })
  unfolding bytes_after up_to bytes_of interface_numbers
  claimed_end h = claimed (rw (from_end list i h)) (rw (from_end list i h))

  module _ (h : i < length list) where
    pub claimed_configuration : kind (get_or list i 0) ≡ CONFIGURATION → ClaimedAs list (record { bytes = bytes; interfaces = marks.count })
    claimed_configuration e =
        claimed (rw (from_next list i h) (configuration_bytes _ _ e)) (rw (from_next list i h) (configuration_numbers _ _ e))

    module _ (e : kind (get_or list i 0) ≡ ALTERNATE) (x : ℕ) (s : x ≡ interface_number (get_or list i 0)) where
      bytes_interface : bytes_after (descriptors_from list i) ≡ 9 + bytes_after (descriptors_from list (i + 1))
      bytes_interface = rw (from_next list i h) (interface_bytes _ _ e)

      numbers_interface : numbers_after (descriptors_from list i) ≡ interface_number (get_or list i 0) ∷ numbers_after (descriptors_from list (i + 1))
      numbers_interface = rw (from_next list i h) (interface_numbers_lem _ _ e)

      pub claiming_interface : (next : Marks) → MarkedWith x marks next → Claiming list next (bytes + 9) (i + 1)
      claiming_interface next m =
          record {
            few_bytes = omega (arith, g.few_bytes);
            few_interfaces = omega (arith, g.few_interfaces, count_below x marks next m);
            bytes_left = omega (arith, g.bytes_left, bytes_interface);
            interfaces_left = met marks _ _ _ g.interfaces_left x next numbers_interface s m;
          }

    -- a word whose descriptor adds bytes only
    claiming_other : (n : ℕ) → n ≤ 9 →
        bytes_after (descriptors_from list i) ≡ n + bytes_after (descriptors_from list (i + 1)) →
        numbers_after (descriptors_from list i) ≡ numbers_after (descriptors_from list (i + 1)) →
        Claiming list marks (bytes + n) (i + 1)
    claiming_other n few b e =
        record {
          few_bytes = omega (arith, g.few_bytes);
          few_interfaces = omega (arith, g.few_interfaces);
          bytes_left = omega (arith, g.bytes_left);
          interfaces_left = met_other marks _ _ _ g.interfaces_left e;
        }

    pub claiming_endpoint : kind (get_or list i 0) ≡ ENDPOINT → Claiming list marks (bytes + 7) (i + 1)
    claiming_endpoint k =
        let c : kind (get_or list i 0) ≢ CONFIGURATION = λ x. let z : ◌≡◌ {A = ℕ} 2 0 = sym k ∙ x in omega arith in
        let a : kind (get_or list i 0) ≢ ALTERNATE = λ x. let z : ◌≡◌ {A = ℕ} 2 1 = sym k ∙ x in omega arith in
        let x : kind (get_or list i 0) ≢ COMPANION = λ x. let z : ◌≡◌ {A = ℕ} 2 3 = sym k ∙ x in omega arith in
        claiming_other 7 (omega arith) (rw (from_next list i h) (endpoint_bytes_lem _ _ c a x)) (rw (from_next list i h) (endpoint_numbers _ _ c a x))

    pub claiming_companion : kind (get_or list i 0) ≡ COMPANION → Claiming list marks (bytes + 6) (i + 1)
    claiming_companion k =
        claiming_other 6 (omega arith) (rw (from_next list i h) (companion_bytes_lem _ _ k)) (rw (from_next list i h) (companion_numbers _ _ k))

-- What is no other kind's is a companion's.
pub companion_left : (w : ℕ) → kind w ≢ CONFIGURATION → kind w ≢ ALTERNATE → kind w ≢ ENDPOINT → kind w ≡ COMPANION
unfolding kind
companion_left w c a e = omega arith
