-- What a descriptor of a kind is judged by and yields.
use Prim.Native.Nat.{ℕ, ◌+◌, ◌≤◌}
use mathlib.Core.Path.{◌≡◌, refl, sym}
use mathlib.Core.Logic.{◌≢◌}
use mathlib.Core.Bool.{Bool, true, false, not, ◌&&◌, and-false}
use mathlib.Core.List.{List, [], ◌∷◌}
use lib.Dec.{eqb, leb}
use lib.ListN.{length}
use Rattle.descriptor_raw.specs.declared.DescriptorKind.{DescriptorKind}
use Rattle.descriptor_raw.specs.declared.DescriptorKind.TheVariants.{Configuration, Interface, Endpoint, Companion, Other}
use Rattle.descriptor_raw.specs.Descriptor.{TYPE, TOTAL-LENGTH, NUM-INTERFACES, CONFIGURATION-VALUE, INTERFACE-NUMBER, ALTERNATE-SETTING, NUM-ENDPOINTS, ENDPOINT-ADDRESS, ENDPOINT-ATTRIBUTES, MAX-PACKET-SIZE, INTERVAL, MAX-BURST, COMPANION-ATTRIBUTES, BYTES-PER-INTERVAL, packets_less_one, kind_of, size_of, byte_at, two_bytes_at}
use Rattle.descriptor_raw.specs.Claims.{bytes_after, interfaces_after, endpoints_after}
use Rattle.descriptor_raw.specs.Words.{configuration_word, alternate_word, endpoint_word, companion_word}
use Rattle.descriptor_raw.specs.Read.{cut, descriptors, whole, borne_out, all_borne_out, words_of, burst_fits, bursts_fit}
use Rattle.descriptor_reader.specs.declared.cut.Descriptor.{Descriptor}
use Rattle.descriptor_reader.specs.declared.cut.Descriptors.{Descriptors}
use Rattle.descriptor_reader.specs.Walk.{CutOff, Step}
use Rattle.descriptor_reader.proofs.Step.{typed, whole_is, not_configuration, not_interface, not_endpoint, not_companion}

module _ (super : Bool) (d : List ℕ) (kind : DescriptorKind) (q : kind ≡ kind_of (byte_at TYPE d)) where
  module _ (k : kind ≡ Configuration) where
    configuration_9 : whole super d ≡ true → 9 ≤ length d
    unfolding size_of
    configuration_9 w =
        let t = typed (byte_at TYPE d) kind q in
        rw (t.configuration, k) at (whole_is super d w).sized

    pub configuration_words : words_of super d ≡ configuration_word (byte_at CONFIGURATION-VALUE d) ∷ []
    unfolding words_of
    configuration_words = let t = typed (byte_at TYPE d) kind q in rw (t.configuration, k)

    pub configuration_judged : (after : List (List ℕ)) →
        borne_out d after
        ≡ (eqb (two_bytes_at TOTAL-LENGTH d) (length d + bytes_after after) && eqb (byte_at NUM-INTERFACES d) (interfaces_after after))
    unfolding borne_out
    configuration_judged after = let t = typed (byte_at TYPE d) kind q in rw (t.configuration, k)

  module _ (k : kind ≡ Interface) where
    interface_9 : whole super d ≡ true → 9 ≤ length d
    unfolding size_of
    interface_9 w =
        let t = typed (byte_at TYPE d) kind q in
        rw (t.configuration, t.interface, k) at (whole_is super d w).sized

    pub interface_words : words_of super d ≡ alternate_word (byte_at INTERFACE-NUMBER d) (byte_at ALTERNATE-SETTING d) ∷ []
    unfolding words_of
    interface_words = let t = typed (byte_at TYPE d) kind q in rw (t.configuration, t.interface, k)

    pub interface_judged : (after : List (List ℕ)) → borne_out d after ≡ eqb (byte_at NUM-ENDPOINTS d) (endpoints_after after)
    unfolding borne_out
    interface_judged after = let t = typed (byte_at TYPE d) kind q in rw (t.configuration, t.interface, k)

  module _ (k : kind ≡ Endpoint) where
    endpoint_7 : whole super d ≡ true → 7 ≤ length d
    unfolding size_of
    endpoint_7 w =
        let t = typed (byte_at TYPE d) kind q in
        rw (t.configuration, t.interface, t.endpoint, k) at (whole_is super d w).sized

    pub endpoint_words :
        words_of super d
        ≡ endpoint_word (byte_at ENDPOINT-ADDRESS d) (byte_at ENDPOINT-ATTRIBUTES d) (two_bytes_at MAX-PACKET-SIZE d) (byte_at INTERVAL d) ∷ []
    unfolding words_of
    endpoint_words = let t = typed (byte_at TYPE d) kind q in rw (t.configuration, t.interface, t.endpoint, k)

    pub endpoint_judged : (after : List (List ℕ)) → borne_out d after ≡ not (eqb (packets_less_one (two_bytes_at MAX-PACKET-SIZE d)) 3)
    unfolding borne_out
    endpoint_judged after = let t = typed (byte_at TYPE d) kind q in rw (t.configuration, t.interface, t.endpoint, k)

  module _ (k : kind ≡ Companion) where
    companion_6 : super ≡ true → whole super d ≡ true → 6 ≤ length d
    unfolding size_of
    companion_6 u w =
        let t = typed (byte_at TYPE d) kind q in
        rw (t.configuration, t.interface, t.endpoint, t.companion, k, u) at (whole_is super d w).sized

    pub companion_words :
        super ≡ true →
        words_of super d
        ≡ companion_word (byte_at MAX-BURST d) (byte_at COMPANION-ATTRIBUTES d) (two_bytes_at BYTES-PER-INTERVAL d) ∷ []
    unfolding words_of
    companion_words u =
        let t = typed (byte_at TYPE d) kind q in rw (t.configuration, t.interface, t.endpoint, t.companion, k, u)

    pub companion_nothing : super ≡ false → words_of super d ≡ []
    unfolding words_of
    companion_nothing u = let t = typed (byte_at TYPE d) kind q in rw (t.configuration, t.interface, t.endpoint, k, u)

    pub companion_burst : super ≡ true → burst_fits super d ≡ leb (byte_at MAX-BURST d) 15
    unfolding burst_fits
    companion_burst u = let t = typed (byte_at TYPE d) kind q in rw (t.companion, k, u)

  module _ (k : kind ≡ Other) where
    pub other_words : words_of super d ≡ []
    unfolding words_of
    other_words =
        let t = typed (byte_at TYPE d) kind q in
        rw (t.configuration, t.interface, t.endpoint, t.companion, k, and-false super)

  pub other_judged : kind ≢ Configuration → kind ≢ Interface → kind ≢ Endpoint → (after : List (List ℕ)) → borne_out d after ≡ true
  unfolding borne_out
  other_judged c i e after =
      let t = typed (byte_at TYPE d) kind q in
      rw (t.configuration, t.interface, t.endpoint, not_configuration kind c, not_interface kind i, not_endpoint kind e)

  -- of any other kind there is no burst
  pub other_burst : kind ≢ Companion → burst_fits super d ≡ true
  unfolding burst_fits
  other_burst n = let t = typed (byte_at TYPE d) kind q in rw (t.companion, not_companion kind n, and-false super)

-- Nor without companions.
pub no_burst : (super : Bool) (d : List ℕ) → super ≡ false → burst_fits super d ≡ true
unfolding burst_fits
no_burst super d u = rw u

-- How long a whole descriptor of a kind is at least.
pub long_configuration : (d : Descriptor) → kind_of (byte_at TYPE d.bytes.now) ≡ Configuration → 9 ≤ length d.bytes.now
long_configuration d k = configuration_9 _ _ _ (sym k) refl d.whole

pub long_interface : (d : Descriptor) → kind_of (byte_at TYPE d.bytes.now) ≡ Interface → 9 ≤ length d.bytes.now
long_interface d k = interface_9 _ _ _ (sym k) refl d.whole

pub long_endpoint : (d : Descriptor) → kind_of (byte_at TYPE d.bytes.now) ≡ Endpoint → 7 ≤ length d.bytes.now
long_endpoint d k = endpoint_7 _ _ _ (sym k) refl d.whole

pub long_companion : (d : Descriptor) → kind_of (byte_at TYPE d.bytes.now) ≡ Companion → d.companions ≡ true → 6 ≤ length d.bytes.now
long_companion d k u = companion_6 _ _ _ (sym k) refl u d.whole

pub judged_on : (l d after : List ℕ) → CutOff l d after →
    all_borne_out (descriptors l) ≡ (borne_out d (descriptors after) && all_borne_out (descriptors after))
unfolding all_borne_out
judged_on l d after f = rw f.next

pub judged_end : (l : List ℕ) → l ≡ [] → all_borne_out (descriptors l) ≡ true
unfolding descriptors cut all_borne_out
judged_end l e = rw e

-- One turn of the walk over the bursts.
pub bursts_on : (from : Descriptors) (d : Descriptor) (left : Descriptors) → Step from d left →
    bursts_fit from.companions (descriptors from.bytes.now)
    ≡ (burst_fits d.companions d.bytes.now && bursts_fit left.companions (descriptors left.bytes.now))
unfolding bursts_fit
bursts_on from d left f = rw (f.cut_off.next, f.given, f.kept)

pub bursts_end : (super : Bool) (l : List ℕ) → l ≡ [] → bursts_fit super (descriptors l) ≡ true
unfolding descriptors cut bursts_fit
bursts_end super l e = rw e
