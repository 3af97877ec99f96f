-- The descriptor of a word by its kind, and what it adds to the total length and the counts of those before it.
use Prim.Native.Nat.{ℕ, suc, ◌+◌, ◌≤◌}
use mathlib.Core.Path.{◌≡◌, refl}
use mathlib.Core.Logic.{◌≢◌}
use mathlib.Core.Bool.{Bool, true, false, cond}
use mathlib.Core.List.{List, [], ◌∷◌}
use native.Mathlib.Omega.{arith}
use borrow.Author.Tests.{ne_eqb}
use lib.Dec.{eqb}
use lib.ListN.{length}
use Rattle.descriptor.specs.Word.{CONFIGURATION, ALTERNATE, COMPANION, kind, companion_burst, companion_mult, companion_bytes, configuration_value, interface_number, alternate_setting, type_number, endpoint_descriptor}
use Rattle.descriptor_raw.specs.Descriptor.{CONFIGURATION-TYPE, LENGTH, size_of, byte_at, is_configuration}
use Rattle.descriptor_raw.specs.Claims.{up_to, bytes_of, interface_numbers, endpoints, bytes_after, interfaces_after, endpoints_after}
use Rattle.descriptor_raw.specs.Write.{configuration_descriptor, interface_descriptor, endpoint_bytes, companion_descriptor, word_packets, descriptor_of}

-- The interface numbers before the next configuration.
abbrev pub numbers_after : List (List ℕ) → List ℕ
numbers_after ds = interface_numbers (up_to is_configuration ds)

module _ (w : ℕ) (after : List (List ℕ)) where
  module _ (k : kind w ≡ CONFIGURATION) where
    pub made_configuration :
        descriptor_of w after ≡ configuration_descriptor (size_of true CONFIGURATION-TYPE + bytes_after after) (interfaces_after after) (configuration_value w)
    unfolding descriptor_of
    made_configuration = rw k

    pub configuration_bytes : bytes_after (descriptor_of w after ∷ after) ≡ 0
    unfolding bytes_after up_to bytes_of configuration_descriptor size_of
    configuration_bytes = rw made_configuration

    pub configuration_numbers : numbers_after (descriptor_of w after ∷ after) ≡ []
    unfolding up_to interface_numbers configuration_descriptor size_of
    configuration_numbers = rw made_configuration

    pub configuration_endpoints : endpoints_after (descriptor_of w after ∷ after) ≡ 0
    unfolding endpoints_after up_to endpoints configuration_descriptor size_of
    configuration_endpoints = rw made_configuration

  module _ (k : kind w ≡ ALTERNATE) where
    pub made_interface :
        descriptor_of w after ≡ interface_descriptor (interface_number w) (alternate_setting w) (endpoints_after after)
    unfolding descriptor_of
    made_interface = rw k

    pub interface_bytes : bytes_after (descriptor_of w after ∷ after) ≡ 9 + bytes_after after
    unfolding bytes_after up_to bytes_of interface_descriptor size_of
    interface_bytes = rw made_interface

    pub interface_numbers_lem : numbers_after (descriptor_of w after ∷ after) ≡ interface_number w ∷ numbers_after after
    unfolding up_to interface_numbers interface_descriptor size_of
    interface_numbers_lem = rw made_interface

    pub interface_endpoints : endpoints_after (descriptor_of w after ∷ after) ≡ 0
    unfolding endpoints_after up_to endpoints interface_descriptor size_of
    interface_endpoints = rw made_interface

  module _ (k : kind w ≡ COMPANION) where
    pub made_companion : descriptor_of w after ≡ companion_descriptor (companion_burst w) (companion_mult w) (companion_bytes w)
    unfolding descriptor_of
    made_companion = rw k

    pub companion_bytes_lem : bytes_after (descriptor_of w after ∷ after) ≡ 6 + bytes_after after
    unfolding bytes_after up_to bytes_of companion_descriptor size_of
    companion_bytes_lem = rw made_companion

    pub companion_numbers : numbers_after (descriptor_of w after ∷ after) ≡ numbers_after after
    unfolding up_to interface_numbers companion_descriptor size_of
    companion_numbers = rw made_companion

    pub companion_endpoints : endpoints_after (descriptor_of w after ∷ after) ≡ endpoints_after after
    unfolding endpoints_after up_to endpoints companion_descriptor size_of
    companion_endpoints = rw made_companion

  module _ (c : kind w ≢ CONFIGURATION) (a : kind w ≢ ALTERNATE) (x : kind w ≢ COMPANION) where
    pub made_endpoint :
        descriptor_of w after
        ≡ endpoint_bytes (endpoint_descriptor w).address (type_number w) (word_packets w) (endpoint_descriptor w).interval
    unfolding descriptor_of
    made_endpoint = rw (ne_eqb _ _ c, ne_eqb _ _ a, ne_eqb _ _ x)

    pub endpoint_bytes_lem : bytes_after (descriptor_of w after ∷ after) ≡ 7 + bytes_after after
    unfolding bytes_after up_to bytes_of endpoint_bytes size_of
    endpoint_bytes_lem = rw made_endpoint

    pub endpoint_numbers : numbers_after (descriptor_of w after ∷ after) ≡ numbers_after after
    unfolding up_to interface_numbers endpoint_bytes size_of
    endpoint_numbers = rw made_endpoint

    pub endpoint_endpoints : endpoints_after (descriptor_of w after ∷ after) ≡ suc (endpoints_after after)
    unfolding endpoints_after up_to endpoints endpoint_bytes size_of
    endpoint_endpoints = rw made_endpoint

-- A descriptor that is written has the length that it says, at most 9.
pub made_length : (w : ℕ) (after : List (List ℕ)) →
    (byte_at LENGTH (descriptor_of w after) ≡ length (descriptor_of w after)) × (2 ≤ length (descriptor_of w after)) × (length (descriptor_of w after) ≤ 9)
unfolding descriptor_of configuration_descriptor interface_descriptor endpoint_bytes companion_descriptor size_of
made_length w after = go (eqb (kind w) CONFIGURATION) (eqb (kind w) ALTERNATE) (eqb (kind w) COMPANION)
  where
    d : Bool → Bool → Bool → List ℕ
    d c a x =
        cond c
        (configuration_descriptor (size_of true CONFIGURATION-TYPE + bytes_after after) (interfaces_after after) (configuration_value w))
        (cond a
        (interface_descriptor (interface_number w) (alternate_setting w) (endpoints_after after))
        (cond x (companion_descriptor (companion_burst w) (companion_mult w) (companion_bytes w))
        (endpoint_bytes (endpoint_descriptor w).address (type_number w) (word_packets w) (endpoint_descriptor w).interval)))

    go : (c a x : Bool) → (byte_at LENGTH (d c a x) ≡ length (d c a x)) × (2 ≤ length (d c a x)) × (length (d c a x) ≤ 9)
    go true a x = (refl, omega arith, omega arith)
    go false true x = (refl, omega arith, omega arith)
    go false false true = (refl, omega arith, omega arith)
    go false false false = (refl, omega arith, omega arith)
