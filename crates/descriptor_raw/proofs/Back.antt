-- A word that may stand in a valid list is made of its fields, so that its descriptor gives it back.
use Prim.Native.Nat.{ℕ, ◌+◌, ◌*◌, ◌/◌, ◌%◌, ◌^◌, ◌≤◌, ◌<◌}
use mathlib.Core.Path.{◌≡◌}
use mathlib.Core.Bool.{true}
use native.Mathlib.Omega.{arith}
use native.Mathlib.Nat.{mod-eq_of_lt}
use borrow.Author.Tests.{eqb-true}
use lib.Pow.{mod-pow-add}
use Rattle.laws.proofs.Tests.{and_right}
use Rattle.descriptor.specs.Word.{CONFIGURATION, ALTERNATE, ENDPOINT, kind, configuration_value, interface_number, alternate_setting, direction_in, endpoint_number, type_number, endpoint_descriptor, endpoint_ok, word_ok}
use Rattle.descriptor.proofs.Laws.{fields_fit, address_in, address_number}
use Rattle.descriptor_raw.specs.Words.{configuration_word, alternate_word, endpoint_word}
use Rattle.descriptor_raw.specs.Write.{word_packets}

-- fields one below the other, with nothing below the last
summed :
    (w k a b c d e f r₃₀ r₂₉ r₂₅ r₂₃ r₁₂ r₁₀ r₂ : ℕ) →
    w ≡ k * 2 ^ 30 + r₃₀ →
    k ≡ 2 →
    r₃₀ ≡ a * 2 ^ 29 + r₂₉ →
    r₂₉ ≡ b * 2 ^ 25 + r₂₅ →
    r₂₅ ≡ c * 2 ^ 23 + r₂₃ →
    r₂₃ ≡ d * 2 ^ 12 + r₁₂ →
    r₁₂ ≡ e * 2 ^ 10 + r₁₀ →
    r₁₀ ≡ f * 2 ^ 2 + r₂ →
    r₂ ≡ 0 →
    2 * 2 ^ 30 + a * 2 ^ 29 + b * 2 ^ 25 + c * 2 ^ 23 + d * 2 ^ 12 + e * 2 ^ 10 + f * 2 ^ 2 ≡ w
summed w k a b c d e f r₃₀ r₂₉ r₂₅ r₂₃ r₁₂ r₁₀ r₂ e₁ e₂ e₃ e₄ e₅ e₆ e₇ e₈ e₉ = omega arith

summed_two :
    (w k a b r₃₀ r₂₂ r₁₄ : ℕ) →
    w ≡ k * 2 ^ 30 + r₃₀ →
    k ≡ 1 →
    r₃₀ ≡ a * 2 ^ 22 + r₂₂ →
    r₂₂ ≡ b * 2 ^ 14 + r₁₄ →
    r₁₄ ≡ 0 →
    1 * 2 ^ 30 + a * 2 ^ 22 + b * 2 ^ 14 ≡ w
summed_two w k a b r₃₀ r₂₂ r₁₄ e₁ e₂ e₃ e₄ e₅ = omega arith

-- The packet size field taken apart.
pub packet_back : (w : ℕ) → 1 ≤ (endpoint_descriptor w).packets_per_microframe →
    (word_packets w % 2048 ≡ (endpoint_descriptor w).max_packet_size)
    × (word_packets w / 2048 % 4 + 1 ≡ (endpoint_descriptor w).packets_per_microframe)
unfolding word_packets
packet_back w p = let s = (fields_fit w).size in let q = (fields_fit w).packets in (omega arith, omega arith)

module _ (w : ℕ) (h : w < 2 ^ 32) (ok : word_ok w ≡ true) where
  -- the two highest bits are the kind
  top : w ≡ kind w * 2 ^ 30 + w % 2 ^ 30
  unfolding kind
  top = omega arith

  pub configuration_back : kind w ≡ CONFIGURATION → configuration_word (configuration_value w) ≡ w
  unfolding word_ok configuration_word configuration_value kind
  configuration_back k =
      let low : w % 2 ^ 22 ≡ 0 = eqb-true _ 0 (rw k at ok) in
      omega arith

  pub alternate_back : kind w ≡ ALTERNATE → alternate_word (interface_number w) (alternate_setting w) ≡ w
  unfolding word_ok alternate_word interface_number alternate_setting
  alternate_back k =
      let low : w % 2 ^ 14 ≡ 0 = eqb-true _ 0 (rw k at ok) in
      summed_two _ _ _ _ _ _ _ top k (mod-pow-add w 8 22) (mod-pow-add w 8 14) low

  -- the fields of an endpoint word, one below the other
  endpoint_fields : kind w ≡ ENDPOINT →
      2 * 2 ^ 30
      + direction_in w * 2 ^ 29
      + endpoint_number w * 2 ^ 25
      + type_number w * 2 ^ 23
      + (endpoint_descriptor w).max_packet_size * 2 ^ 12
      + (endpoint_descriptor w).packets_per_microframe * 2 ^ 10
      + (endpoint_descriptor w).interval * 2 ^ 2
      ≡ w
  unfolding word_ok direction_in endpoint_number type_number endpoint_descriptor
  endpoint_fields k =
      let low : w % 2 ^ 2 ≡ 0 = eqb-true _ 0 (and_right (endpoint_ok w) _ (rw k at ok)) in
      summed _ _ _ _ _ _ _ _ _ _ _ _ _ _ _ top k
      (mod-pow-add w 1 29)
      (mod-pow-add w 4 25)
      (mod-pow-add w 2 23)
      (mod-pow-add w 11 12)
      (mod-pow-add w 2 10)
      (mod-pow-add w 8 2)
      low

  -- what an endpoint's descriptor says is the word's
  pub endpoint_back : kind w ≡ ENDPOINT → 1 ≤ (endpoint_descriptor w).packets_per_microframe →
      endpoint_word (endpoint_descriptor w).address (type_number w) (word_packets w) (endpoint_descriptor w).interval ≡ w
  unfolding endpoint_word
  endpoint_back k p =
      let t : type_number w % 4 ≡ type_number w = mod-eq_of_lt (fields_fit w).type in
      let f = packet_back w p in
      rw (address_in w, address_number w, t, f.0, f.1) (endpoint_fields k)
