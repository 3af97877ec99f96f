-- What a descriptor adds to the interface numbers of those before it.
use Prim.Native.Nat.{ℕ}
use mathlib.Core.Path.{◌≡◌}
use mathlib.Core.Bool.{true, false}
use mathlib.Core.List.{List, [], ◌∷◌}
use Rattle.descriptor_raw.specs.declared.DescriptorKind.{DescriptorKind}
use Rattle.descriptor_raw.specs.Descriptor.{INTERFACE-NUMBER, TYPE, kind_of, byte_at}
use Rattle.descriptor_raw.specs.Claims.{up_to, interface_numbers}
use Rattle.descriptor_raw.specs.Read.{cut, descriptors}
use Rattle.descriptor_raw.proofs.Made.{numbers_after}
use Rattle.descriptor_reader.specs.Walk.{CutOff}
use Rattle.descriptor_reader.proofs.Step.{is_c, is_i, typed}

-- At the end there are none.
pub numbers_end : (l : List ℕ) → l ≡ [] → numbers_after (descriptors l) ≡ []
unfolding descriptors cut up_to interface_numbers
numbers_end l e = rw e

-- A descriptor of a kind, and the bytes after it.
module _ (l d after : List ℕ) (f : CutOff l d after) (kind : DescriptorKind) (q : kind ≡ kind_of (byte_at TYPE d)) where
  -- a configuration ends what is counted
  pub numbers_stop : is_c kind ≡ true → numbers_after (descriptors l) ≡ []
  unfolding up_to interface_numbers
  numbers_stop c = rw (f.next, (typed _ kind q).configuration, c)

  -- any other does not
  module _ (c : is_c kind ≡ false) where
    pub numbers_interface : is_i kind ≡ true → numbers_after (descriptors l) ≡ byte_at INTERFACE-NUMBER d ∷ numbers_after (descriptors after)
    unfolding up_to interface_numbers
    numbers_interface i = rw (f.next, (typed _ kind q).configuration, c, (typed _ kind q).interface, i)

    pub numbers_other : is_i kind ≡ false → numbers_after (descriptors l) ≡ numbers_after (descriptors after)
    unfolding up_to interface_numbers
    numbers_other i = rw (f.next, (typed _ kind q).configuration, c, (typed _ kind q).interface, i)
