-- What an endpoint word with its companion says: proofs/Joined.antt proves each `..Promise`.
use Rattle.std.specs.Prelude.{ℕ, ◌/◌, ◌%◌, ◌^◌, ◌<◌, ◌≡◌}
use Rattle.descriptor.specs.Word.{kind, configuration_value, interface_number, alternate_setting, type_number, with_companion, endpoint_descriptor, word_ok}

-- All but the companion is the word's.
pub record SaysSame (w v : ℕ) : Type 0 where
  pub kind : kind v ≡ kind w
  pub value : configuration_value v ≡ configuration_value w
  pub interface : interface_number v ≡ interface_number w
  pub alternate : alternate_setting v ≡ alternate_setting w
  pub type : type_number v ≡ type_number w
  pub address : (endpoint_descriptor v).address ≡ (endpoint_descriptor w).address
  pub transfer : (endpoint_descriptor v).transfer_type ≡ (endpoint_descriptor w).transfer_type
  pub size : (endpoint_descriptor v).max_packet_size ≡ (endpoint_descriptor w).max_packet_size
  pub packets : (endpoint_descriptor v).packets_per_microframe ≡ (endpoint_descriptor w).packets_per_microframe
  pub interval : (endpoint_descriptor v).interval ≡ (endpoint_descriptor w).interval
  pub ok : word_ok v ≡ word_ok w

abbrev pub SamePromise : Type 0
SamePromise = (w c : ℕ) → SaysSame w (with_companion w c)

-- The rest is the companion's.
pub record SaysOf (v b m n : ℕ) : Type 0 where
  pub burst : (endpoint_descriptor v).burst ≡ b
  pub mult : (endpoint_descriptor v).mult ≡ m
  pub bytes : (endpoint_descriptor v).bytes_per_interval ≡ n

-- Burst in bits 29:26 of the companion, mult in 25:24, bytes per interval in 23:8; of a word without a companion all are 0.
abbrev pub CompanionPromise : Type 0
CompanionPromise =
    (w c : ℕ) →
    w < 2 ^ 32 →
    SaysOf (with_companion w c) (c / 2 ^ 26 % 2 ^ 4) (c / 2 ^ 24 % 2 ^ 2) (c / 2 ^ 8 % 2 ^ 16) × SaysOf w 0 0 0
