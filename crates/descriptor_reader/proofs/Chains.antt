-- The total length and the count of endpoints as the library's words for chains of iterators.
use Prim.Native.Nat.{ℕ, zero, suc, ◌+◌, ◌-◌, ◌≤◌}
use mathlib.Core.Path.{◌≡◌, refl, sym, ap, ◌∙◌}
use mathlib.Core.Logic.{inl, inr}
use mathlib.Core.Bool.{Bool, true, false, cond, not, ◌&&◌, ◌||◌}
use mathlib.Core.List.{List, [], ◌∷◌}
use native.Mathlib.Omega.{arith}
use denote.Enum.Bare.{sameb}
use lib.ListN.{length, take, length-take}
use Rattle.std.specs.List.{prefix_len, sum_by, filter}
use Rattle.std.proofs.lemmas.List.Sums.{sum_by-cons}
use Rattle.std.proofs.lemmas.Iterator.{YieldsList}
use Rattle.std.proofs.lemmas.Iterator.Consumers.{YieldsList-from_shown}
use Rattle.laws.proofs.Cases.{Decided, decided}
use Rattle.descriptor_raw.specs.contracts.DescriptorKind.{the_type}
use Rattle.descriptor_raw.specs.declared.DescriptorKind.{DescriptorKind}
use Rattle.descriptor_raw.specs.declared.DescriptorKind.TheVariants.{Configuration, Interface, Endpoint}
use Rattle.descriptor_raw.specs.Descriptor.{TYPE, kind_of, byte_at, is_configuration, is_interface, is_endpoint}
use Rattle.descriptor_raw.specs.Claims.{up_to, bytes_of, bytes_after, endpoints, endpoints_after}
use Rattle.descriptor_raw.specs.Read.{cut, descriptors}
use Rattle.descriptor_reader.specs.declared.cut.Descriptors.{Descriptors}
use Rattle.descriptor_reader.specs.Walk.{Yields}
use Rattle.descriptor_reader.proofs.Step.{typed, same_configuration, same_interface, same_endpoint}

none_left : (l : List ℕ) → l ≡ [] → length (descriptors l) ≡ 0
unfolding descriptors cut
none_left l e = rw e

-- The iterator gives the descriptors of its bytes.
pub walked : (s : Descriptors) → YieldsList Yields (λ d. d.bytes.now) s (descriptors s.bytes.now)
walked s =
    YieldsList-from_shown Yields (λ d. d.bytes.now) (λ t. descriptors t.bytes.now)
    (λ t u h. none_left t.bytes.now h) (λ t x u h. h.cut_off.next) s

-- What a closure tests of a descriptor.
abbrev pub is_kind : DescriptorKind → List ℕ → Bool
is_kind k d = sameb the_type (kind_of (byte_at TYPE d)) k

configuration_test : (d : List ℕ) → is_kind Configuration d ≡ is_configuration d
configuration_test d = same_configuration (kind_of (byte_at TYPE d)) ∙ sym (typed (byte_at TYPE d) (kind_of (byte_at TYPE d)) refl).configuration

interface_test : (d : List ℕ) → is_kind Interface d ≡ is_interface d
interface_test d = same_interface (kind_of (byte_at TYPE d)) ∙ sym (typed (byte_at TYPE d) (kind_of (byte_at TYPE d)) refl).interface

endpoint_test : (d : List ℕ) → is_kind Endpoint d ≡ is_endpoint d
endpoint_test d = same_endpoint (kind_of (byte_at TYPE d)) ∙ sym (typed (byte_at TYPE d) (kind_of (byte_at TYPE d)) refl).endpoint

abbrev pub goes_on : List ℕ → Bool
goes_on d = not (is_kind Configuration d)

one_add : (n : ℕ) → suc n ≡ 1 + n
one_add n = omega arith

pub bytes_taken : (ds : List (List ℕ)) → sum_by length (take (prefix_len goes_on ds) ds) ≡ bytes_after ds
unfolding bytes_after up_to bytes_of
bytes_taken [] = refl
bytes_taken (d ∷ ds) = go (decided (is_configuration d)) (bytes_taken ds)
  where
    go : Decided (is_configuration d) → sum_by length (take (prefix_len goes_on ds) ds) ≡ bytes_of (up_to is_configuration ds) →
        sum_by length (take (cond (not (is_kind Configuration d)) (1 + prefix_len goes_on ds) 0) (d ∷ ds))
        ≡ bytes_of (cond (is_configuration d) [] (d ∷ up_to is_configuration ds))
    go (inl c) r = rw (configuration_test d, c) refl
    go (inr c) r = rw (configuration_test d, c, ← one_add (prefix_len goes_on ds)) (sum_by-cons length d (take (prefix_len goes_on ds) ds) ∙ ap (λ n. length d + n) r)

-- What stands before a descriptor that passes a test is inside the bytes.
bytes_inside : (test : List ℕ → Bool) (left : ℕ) (l : List ℕ) → bytes_of (up_to test (cut left l)) ≤ length l - left
unfolding up_to bytes_of cut
bytes_inside test left [] = omega arith
bytes_inside test (suc left) (b ∷ l) = omega (arith, bytes_inside test left l)
bytes_inside test zero (b ∷ l) = go (test (take b (b ∷ l))) (bytes_inside test (b - 1) l)
  where
    go : (t : Bool) → bytes_of (up_to test (cut (b - 1) l)) ≤ length l - (b - 1) →
        bytes_of (cond t [] (take b (b ∷ l) ∷ up_to test (cut (b - 1) l))) ≤ length (b ∷ l) - 0
    go true r = omega arith
    go false r = omega (arith, length-take b (b ∷ l))

pub bytes_room : (l : List ℕ) → bytes_after (descriptors l) ≤ length l
unfolding bytes_after descriptors
bytes_room l = omega (arith, bytes_inside is_configuration 0 l)

abbrev pub stays : List ℕ → Bool
stays d = not (is_kind Configuration d) && not (is_kind Interface d)

abbrev ended : List ℕ → Bool
ended d = is_configuration d || is_interface d

pub endpoints_taken : (ds : List (List ℕ)) → length (filter (is_kind Endpoint) (take (prefix_len stays ds) ds)) ≡ endpoints_after ds
unfolding endpoints_after up_to endpoints
endpoints_taken [] = refl
endpoints_taken (d ∷ ds) = go (decided (is_configuration d)) (decided (is_interface d)) (decided (is_endpoint d)) (endpoints_taken ds)
  where
    go : Decided (is_configuration d) → Decided (is_interface d) → Decided (is_endpoint d) →
        length (filter (is_kind Endpoint) (take (prefix_len stays ds) ds)) ≡ endpoints (up_to ended ds) →
        length (filter (is_kind Endpoint) (take (cond (stays d) (1 + prefix_len stays ds) 0) (d ∷ ds)))
        ≡ endpoints (cond (ended d) [] (d ∷ up_to ended ds))
    go (inl c) i e r = rw (configuration_test d, c) refl
    go (inr c) (inl i) e r = rw (configuration_test d, c, interface_test d, i) refl
    go (inr c) (inr i) (inl e) r =
        rw (configuration_test d, c, interface_test d, i, ← one_add (prefix_len stays ds), endpoint_test d, e) (ap suc r)
    go (inr c) (inr i) (inr e) r =
        rw (configuration_test d, c, interface_test d, i, ← one_add (prefix_len stays ds), endpoint_test d, e) r
