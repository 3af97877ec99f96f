-- What the parts of the writer take and give.
use Rattle.std.specs.Prelude.{ℕ, ◌*◌, ◌≤◌, ◌≡◌, Bool, true, not, ◌&&◌, List, ◌∷◌, eqb, length}
use Rattle.descriptor.specs.Word.{ENDPOINT, kind, endpoint_descriptor}
use Rattle.descriptor_raw.specs.Claims.{bytes_after, interfaces_after}
use Rattle.descriptor_raw.specs.Write.{all_descriptors, packets_given}
use Rattle.descriptor_writer.specs.declared.claims.Claims.{Claims}

-- A word that is no endpoint's or has packets.
unfoldable pub gives_packets : ℕ → Bool
gives_packets w = not (eqb (kind w) ENDPOINT && eqb (endpoint_descriptor w).packets_per_microframe 0)

-- What a configuration says of the words after it.
pub record ClaimedAs (after : List ℕ) (claims : Claims) : Type 0 where
  pub bytes : claims.bytes ≡ bytes_after (all_descriptors after)
  pub interfaces : claims.interfaces ≡ interfaces_after (all_descriptors after)
  pub few_bytes : claims.bytes ≤ 9 * length after
  pub few_interfaces : claims.interfaces ≤ length after

-- A list that may be written.
pub record Listed (list : List ℕ) : Type 0 where
  pub short : length list ≤ 256
  pub packets : packets_given list ≡ true

-- A word and those after it, and room for its descriptor.
pub record Room (w : ℕ) (after : List ℕ) (room : ℕ) : Type 0 where
  pub listed : Listed (w ∷ after)
  pub space : 9 ≤ room
