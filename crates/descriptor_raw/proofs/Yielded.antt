-- The words that the reader yields are of 32 bits, and give their packets.
use Prim.Native.Nat.{ℕ, zero, suc, ◌+◌, ◌-◌, ◌*◌, ◌/◌, ◌%◌, ◌^◌, ◌<◌}
use mathlib.Core.Path.{◌≡◌, refl, ◌∙◌}
use mathlib.Core.Logic.{◌≢◌, inl, inr}
use mathlib.Core.Bool.{Bool, true, false, not, cond, ◌&&◌, and-false}
use mathlib.Core.List.{List, [], ◌∷◌, ◌++◌}
use native.Mathlib.Decide.{dec_lt}
use native.Mathlib.Omega.{arith}
use borrow.Author.Tests.{eqb-true, eqb-false, ne_eqb, not-true}
use lib.Dec.{eqb}
use lib.ListN.{length, take, length-take, get_or-eq_default}
use lib.Seq.{get_or-take}
use Rattle.laws.specs.Bounds.{Below}
use Rattle.laws.proofs.Tests.{and_left, and_right}
use Rattle.laws.proofs.Cases.{Decided, decided}
use Rattle.descriptor.specs.Word.{ENDPOINT, COMPANION, kind, companion_mult, endpoint_descriptor}
use Rattle.descriptor_raw.specs.Descriptor.{CONFIGURATION-VALUE, INTERFACE-NUMBER, ALTERNATE-SETTING, ENDPOINT-ADDRESS, ENDPOINT-ATTRIBUTES, MAX-PACKET-SIZE, INTERVAL, MAX-BURST, COMPANION-ATTRIBUTES, BYTES-PER-INTERVAL, byte_at, two_bytes_at, is_configuration, is_interface, is_endpoint, is_companion}
use Rattle.descriptor_raw.specs.Words.{placed, configuration_word, alternate_word, endpoint_word, companion_word}
use Rattle.descriptor_raw.specs.Read.{cut, descriptors, borne_out, all_borne_out, words_of, all_words, is_isochronous, settled_word, settled_after, read_words}
use Rattle.descriptor_raw.specs.Write.{packets_given}

pub record Fine (l : List ℕ) : Type 0 where
  pub small : Below (2 ^ 32) l
  pub packets : packets_given l ≡ true

none_fine : Fine []
unfolding packets_given
none_fine = record { small = λ k h. absurd (omega arith); packets = refl }

-- A word that is no endpoint's or has packets.
given : ℕ → Bool
given w = not (eqb (kind w) ENDPOINT && eqb (endpoint_descriptor w).packets_per_microframe 0)

fine_cons : (w : ℕ) (l : List ℕ) → w < 2 ^ 32 → given w ≡ true → Fine l → Fine (w ∷ l)
unfolding packets_given given
fine_cons w l h g f = record { small = small; packets = rw g f.packets }
  where
    small : Below (2 ^ 32) (w ∷ l)
    small zero k = h
    small (suc n) k = f.small n (omega arith)

-- The words made of bytes.
configuration_fine : (value : ℕ) → value < 256 → (configuration_word value < 2 ^ 32) × (given (configuration_word value) ≡ true)
unfolding configuration_word given kind
configuration_fine value h =
    let k : (0 * 2 ^ 30 + value * 2 ^ 22) / 2 ^ 30 % 2 ^ 2 ≢ 2 = λ e. omega arith in (omega arith, rw (ne_eqb _ _ k))

alternate_fine : (interface alternate : ℕ) → interface < 256 → alternate < 256 →
    (alternate_word interface alternate < 2 ^ 32) × (given (alternate_word interface alternate) ≡ true)
unfolding alternate_word given kind
alternate_fine interface alternate h g =
    let k : (1 * 2 ^ 30 + interface * 2 ^ 22 + alternate * 2 ^ 14) / 2 ^ 30 % 2 ^ 2 ≢ 2 = λ e. omega arith in
    (omega arith, rw (ne_eqb _ _ k))

companion_fine : (burst attributes bytes : ℕ) → bytes < 65536 →
    (companion_word burst attributes bytes < 2 ^ 32) × (given (companion_word burst attributes bytes) ≡ true)
unfolding companion_word given kind
companion_fine burst attributes bytes h =
    let k : (3 * 2 ^ 30 + burst % 16 * 2 ^ 26 + attributes % 4 * 2 ^ 24 + bytes * 2 ^ 8) / 2 ^ 30 % 2 ^ 2 ≢ 2 = λ e. omega arith in
    (omega arith, rw (ne_eqb _ _ k))

digit : (a q i : ℕ) → q < 4 → i < 256 → (a * 4096 + q * 1024 + i * 4) / 1024 % 4 ≡ q
digit a q i h g = omega arith

module _ (address attributes packet interval : ℕ) (h : address < 256) (g : interval < 256) (b : packet / 2048 % 4 ≢ 3) where
  above : ℕ
  above = 2 * 2 ^ 18 + address / 128 * 2 ^ 17 + address % 16 * 2 ^ 13 + attributes % 4 * 2 ^ 11 + packet % 2048

  parts : endpoint_word address attributes packet interval ≡ above * 4096 + (packet / 2048 % 4 + 1) * 1024 + interval * 4
  unfolding endpoint_word above
  parts = omega arith

  packets_are : (endpoint_descriptor (endpoint_word address attributes packet interval)).packets_per_microframe ≡ packet / 2048 % 4 + 1
  unfolding endpoint_descriptor
  packets_are = rw parts (digit above (packet / 2048 % 4 + 1) interval (omega arith) g)

  word_small : endpoint_word address attributes packet interval < 2 ^ 32
  unfolding endpoint_word
  word_small = omega arith

  endpoint_fine :
      (endpoint_word address attributes packet interval < 2 ^ 32) × (given (endpoint_word address attributes packet interval) ≡ true)
  unfolding given
  endpoint_fine =
      let z : packet / 2048 % 4 + 1 ≢ 0 = λ e. omega arith in (
        word_small,
        rw (packets_are, ne_eqb _ _ z, and-false (eqb (kind (endpoint_word address attributes packet interval)) ENDPOINT)),
      )

-- Every byte of a descriptor, and what is read past its end, is below 256.
byte_below : (d : List ℕ) → Below (2 ^ 8) d → (k : ℕ) → byte_at k d < 256
byte_below d b k = go (dec_lt k (length d))
  where
    go : Dec (k < length d) → byte_at k d < 256
    go (yes h) = b k h
    go (no h) =
        let z : byte_at k d ≡ 0 = get_or-eq_default d 0 {n = k} (omega arith) in omega arith

words_fine : (super : Bool) (d : List ℕ) (after : List (List ℕ)) (l : List ℕ) → Below (2 ^ 8) d → borne_out d after ≡ true → Fine l →
    Fine (words_of super d ++ l)
unfolding words_of borne_out
words_fine super d after l b o f =
    go (decided (is_configuration d)) (decided (is_interface d)) (decided (is_endpoint d)) (decided (super && is_companion d))
  where
    at : (k : ℕ) → byte_at k d < 256
    at = byte_below d b

    go : Decided (is_configuration d) → Decided (is_interface d) → Decided (is_endpoint d) → Decided (super && is_companion d) →
        Fine (words_of super d ++ l)
    go (inl c) i e x =
        let w = configuration_fine (byte_at CONFIGURATION-VALUE d) (at CONFIGURATION-VALUE) in
        rw c (fine_cons _ l w.0 w.1 f)
    go (inr c) (inl i) e x =
        let w = alternate_fine (byte_at INTERFACE-NUMBER d) (byte_at ALTERNATE-SETTING d) (at INTERFACE-NUMBER) (at ALTERNATE-SETTING) in
        rw (c, i) (fine_cons _ l w.0 w.1 f)
    go (inr c) (inr i) (inl e) x =
        let n : two_bytes_at MAX-PACKET-SIZE d / 2048 % 4 ≢ 3 = eqb-false _ 3 (not-true _ (rw (c, i, e) at o)) in
        let w =
        endpoint_fine (byte_at ENDPOINT-ADDRESS d) (byte_at ENDPOINT-ATTRIBUTES d) (two_bytes_at MAX-PACKET-SIZE d)
        (byte_at INTERVAL d) (at ENDPOINT-ADDRESS) (at INTERVAL) n in
        rw (c, i, e) (fine_cons _ l w.0 w.1 f)
    go (inr c) (inr i) (inr e) (inl x) =
        let low = at BYTES-PER-INTERVAL in
        let high = at (BYTES-PER-INTERVAL + 1) in
        let w = companion_fine (byte_at MAX-BURST d) (byte_at COMPANION-ATTRIBUTES d) (two_bytes_at BYTES-PER-INTERVAL d) (omega (arith, low, high)) in
        rw (c, i, e, x) (fine_cons _ l w.0 w.1 f)
    go (inr c) (inr i) (inr e) (inr x) = rw (c, i, e, x) f

piece_below : (n : ℕ) (l : List ℕ) → Below (2 ^ 8) l → Below (2 ^ 8) (take n l)
piece_below n l b k h =
    let s : k < n = omega (arith, length-take n l) in
    rw (get_or-take n l k 0 s) (b k (omega (arith, length-take n l)))

cut_fine : (super : Bool) (left : ℕ) (l : List ℕ) → Below (2 ^ 8) l → all_borne_out (cut left l) ≡ true → Fine (all_words super (cut left l))
unfolding cut all_words all_borne_out
cut_fine super left [] b o = none_fine
cut_fine super zero (x ∷ l) b o =
    words_fine super (take x (x ∷ l)) (cut (x - 1) l) _ (piece_below x (x ∷ l) b) (and_left _ (all_borne_out (cut (x - 1) l)) o)
    (cut_fine super (x - 1) l (λ k h. b (suc k) (omega arith)) (and_right (borne_out (take x (x ∷ l)) (cut (x - 1) l)) _ o))
cut_fine super (suc left) (x ∷ l) b o = cut_fine super left l (λ k h. b (suc k) (omega arith)) o

-- A companion that loses its mult stays a companion.
less : (w : ℕ) → (w - w / 2 ^ 24 % 2 ^ 2 * 2 ^ 24) / 2 ^ 30 % 2 ^ 2 ≡ w / 2 ^ 30 % 2 ^ 2
less w = omega arith

lower : (w : ℕ) → w < 2 ^ 32 → w - placed 6 2 (companion_mult w) < 2 ^ 32
lower w h = omega arith

lost : (w : ℕ) → kind w ≡ COMPANION →
    let v = w - placed 6 2 (companion_mult w) in
    not (eqb (kind v) ENDPOINT && eqb (endpoint_descriptor v).packets_per_microframe 0) ≡ true
unfolding kind companion_mult
lost w c = let e : (w - w / 2 ^ 24 % 2 ^ 2 * 2 ^ 24) / 2 ^ 30 % 2 ^ 2 ≡ 3 = less w ∙ c in rw e

settled_fine : (super : Bool) (p w : ℕ) → w < 2 ^ 32 → given w ≡ true → (settled_word super p w < 2 ^ 32) × (given (settled_word super p w) ≡ true)
unfolding settled_word given
settled_fine super p w h g = go super (decided (eqb (kind w) COMPANION)) (not (is_isochronous p))
  where
    go : (s : Bool) → Decided (eqb (kind w) COMPANION) → (t : Bool) →
        let v = cond (s && (eqb (kind w) COMPANION && t)) (w - placed 6 2 (companion_mult w)) w in
        (v < 2 ^ 32) × (not (eqb (kind v) ENDPOINT && eqb (endpoint_descriptor v).packets_per_microframe 0) ≡ true)
    go false c t = (h, g)
    go true (inr c) t = rw c (h, g)
    go true (inl c) false = rw c (h, g)
    go true (inl c) true = rw c (lower w h, lost w (eqb-true (kind w) COMPANION c))

all_settled : (super : Bool) (p : ℕ) (l : List ℕ) → Fine l → Fine (settled_after super p l)
unfolding settled_after packets_given given
all_settled super p [] f = none_fine
all_settled super p (w ∷ l) f =
    let s = settled_fine super p w (f.small 0 (omega arith)) (and_left (given w) (packets_given l) f.packets) in
    fine_cons _ _ s.0 s.1
    (all_settled super w l (record { small = λ k h. f.small (suc k) (omega arith); packets = and_right (given w) (packets_given l) f.packets }))

pub yielded_fine : (super : Bool) (bytes : List ℕ) → Below (2 ^ 8) bytes → all_borne_out (descriptors bytes) ≡ true → Fine (read_words super bytes)
unfolding read_words descriptors
yielded_fine super bytes b o = all_settled super 0 _ (cut_fine super 0 bytes b o)
