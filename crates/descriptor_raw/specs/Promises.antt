-- What reader and writer promise: proofs/Promises.antt proves each `..Promise`, and proofs/Before.antt that of speeds 1 to 3.
use Rattle.std.specs.Prelude.{ℕ, ◌^◌, ◌≤◌, ◌<◌, ◌≡◌, true, false, List, [], length, get_or, Ok, Err}
use Rattle.std.proofs.lemmas.List.Edits.{sets}
use Rattle.laws.specs.Bounds.{Below}
use Rattle.def.specs.Speed.{speed_known, is_super}
use Rattle.descriptor_list.specs.Companions.{valid_at}
use Rattle.function_answer.specs.declared.Refusal.TheVariants.{Companion}
use Rattle.function_answer.specs.Answer.{leaves, accepts, RestKept}
use Rattle.descriptor_raw.specs.Descriptor.{MAX-BURST, byte_at, is_configuration, is_interface, is_endpoint, is_companion}
use Rattle.descriptor_raw.specs.Read.{descriptors, well_formed, read_words, read_descriptors}
use Rattle.descriptor_raw.specs.Write.{packets_given, written_bytes, write_descriptors}
use Rattle.descriptor_raw.specs.Before as before

-- The writer accepts a list and writes 2,304 bytes at most, and the reader of these, at the same speed, gives the list back.
pub record ComesBack (speed : ℕ) (list buffer words : List ℕ) : Type 0 where
  pub written : write_descriptors speed list buffer ≡ accepts (written_bytes list) buffer
  pub fits : length (written_bytes list) ≤ 2304
  pub read : read_descriptors speed (written_bytes list) words ≡ accepts list words

-- Every list that is valid at a speed and whose endpoint words have 1 to 3 packets comes back: two bits hold no more than 3.
abbrev pub WrittenPromise : Type 0
WrittenPromise =
    (speed : ℕ) (list buffer words : List ℕ) →
    speed_known speed ≡ true →
    Below (2 ^ 32) list →
    valid_at speed list ≡ true →
    packets_given list ≡ true →
    2304 ≤ length buffer →
    256 ≤ length words →
    ComesBack speed list buffer words

-- The words that accepted bytes are read as, are a valid list, stand in the lent words, and come back.
pub record IsRead (speed : ℕ) (bytes words buffer : List ℕ) (count : ℕ) : Type 0 where
  pub counted : count ≡ length (read_words (is_super speed) bytes)
  pub left : (read_descriptors speed bytes words).memory ≡ sets words 0 (read_words (is_super speed) bytes)
  pub valid : valid_at speed (read_words (is_super speed) bytes) ≡ true
  pub again : ComesBack speed (read_words (is_super speed) bytes) buffer words

abbrev pub ReadPromise : Type 0
ReadPromise =
    (speed : ℕ) (bytes words buffer : List ℕ) (count : ℕ) →
    Below (2 ^ 8) bytes →
    (read_descriptors speed bytes words).answer ≡ Ok count →
    2304 ≤ length buffer →
    IsRead speed bytes words buffer count

-- At speeds 1 to 3 reader and writer are those of Before.antt.
abbrev pub BeforePromise : Type 0
BeforePromise =
    (speed : ℕ) (given buffer : List ℕ) →
    speed_known speed ≡ true →
    is_super speed ≡ false →
    (read_descriptors speed given buffer ≡ before.read_descriptors given buffer)
    × (write_descriptors speed given buffer ≡ before.write_descriptors given buffer)

-- A companion whose burst is above 15 makes bytes that nothing else is wrong with refused with 26.
abbrev pub BurstPromise : Type 0
BurstPromise =
    (speed : ℕ) (bytes words : List ℕ) (k : ℕ) →
    is_super speed ≡ true →
    256 ≤ length words →
    well_formed true (descriptors bytes) ≡ true →
    valid_at speed (read_words true bytes) ≡ true →
    k < length (descriptors bytes) →
    is_companion (get_or (descriptors bytes) k []) ≡ true →
    15 < byte_at MAX-BURST (get_or (descriptors bytes) k []) →
    read_descriptors speed bytes words ≡ leaves (Err Companion) words

-- A descriptor of another type.
pub record Other (speed : ℕ) (d : List ℕ) : Type 0 where
  pub no_configuration : is_configuration d ≡ false
  pub no_interface : is_interface d ≡ false
  pub no_endpoint : is_endpoint d ≡ false
  pub no_companion : is_super speed ≡ true → is_companion d ≡ false

-- Bytes that are not malformed and hold descriptors of other types only are accepted as the empty list.
abbrev pub OthersPromise : Type 0
OthersPromise =
    (speed : ℕ) (bytes words : List ℕ) →
    speed_known speed ≡ true →
    well_formed (is_super speed) (descriptors bytes) ≡ true →
    ((k : ℕ) → k < length (descriptors bytes) → Other speed (get_or (descriptors bytes) k [])) →
    256 ≤ length words →
    read_descriptors speed bytes words ≡ accepts [] words

-- What is lent past the output keeps its contents, so all of it after a refusal.
abbrev pub KeptPromise : Type 0
KeptPromise =
    (speed : ℕ) (given buffer : List ℕ) →
    RestKept buffer (read_descriptors speed given buffer) × RestKept buffer (write_descriptors speed given buffer)
