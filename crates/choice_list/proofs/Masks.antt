-- Sets of addresses as bits, one for each Dci: two have a bit in common exactly if they have an address in common.
use Rattle.std.specs.Prelude.{ℕ, zero, suc, ◌+◌, ◌*◌, ◌/◌, ◌%◌, ◌^◌, ◌<◌, ◌≡◌, ◌⊎◌, Bool, true, false, cond, ◌&&◌, List, [], ◌∷◌, eqb}
use mathlib.Core.Path.{refl, sym, ap, ◌∙◌}
use mathlib.Core.Logic.{inl, inr}
use native.Mathlib.Omega.{arith}
use native.Mathlib.Nat.{mod-eq_of_lt}
use native.Mathlib.Decide.{dec_lt}
use borrow.Author.Tests.{eqb-true, eq-eqb}
use Rattle.std.specs.Int.Bits.{bit_and, bit_or}
use Rattle.std.proofs.lemmas.Nat.{and_le_l}
use Rattle.std.proofs.lemmas.Nat.Bits.{bit_at_above}
use Rattle.laws.proofs.Tests.{and_left, and_right, and-true, not_both}
use Rattle.laws.proofs.Cases.{or_cases, or_left, or_right, false_if}
use Rattle.descriptor.specs.Word.{direction_in, endpoint_number, endpoint_descriptor}
use Rattle.descriptor.specs.Endpoint.{dci_of}
use Rattle.context_block.specs.Blocks.{word_dci, some_dci}
use Rattle.context_block.specs.Flags.{flags_of}
use Rattle.context_block.proofs.Flags.{flags_small, flags_promise}
use Rattle.choice_search.specs.Search.{has}
use Rattle.choice_search.proofs.Sets.{has_or, not_apart}
use Rattle.choice_list.specs.Candidate.{has_address}

-- No bit in common.
abbrev pub Apart : ℕ → ℕ → Type 0
Apart a b = (k : ℕ) → has a k ≡ true → has b k ≡ true → ⊥

pub apart_turned : (a b : ℕ) → Apart a b → Apart b a
apart_turned a b f k x y = f k y x

pub apart_from_both : (a b c : ℕ) → Apart a b → Apart a c → Apart a (bit_or b c)
apart_from_both a b c f g k x y = go (or_cases (has b k) (has c k) (sym (has_or b c k) ∙ y))
  where
    go : (has b k ≡ true) ⊎ (has c k ≡ true) → ⊥
    go (inl z) = f k x z
    go (inr z) = g k x z

pub apart_first : (a b c : ℕ) → Apart a (bit_or b c) → Apart a b
apart_first a b c f k x y = f k x (has_or b c k ∙ or_left (has b k) (has c k) y)

pub apart_second : (a b c : ℕ) → Apart a (bit_or b c) → Apart a c
apart_second a b c f k x y = f k x (has_or b c k ∙ or_right (has b k) (has c k) y)

bit_true : (b : Bool) → eqb (cond b 1 0) 1 ≡ b
bit_true true = refl
bit_true false = refl

module _ (ws : List ℕ) where
  flags_fit : flags_of ws < 2 ^ 32
  unfolding flags_of
  flags_fit = flags_small 32 ws

  -- Without a bit in common, none in the conjunction.
  pub mask_apart : (taken : ℕ) → Apart (flags_of ws) taken → bit_and (flags_of ws) taken ≡ 0
  mask_apart taken f = not_apart 32 (flags_of ws) taken (let h = and_le_l (flags_of ws) taken in let g = flags_fit in omega arith) f

  has_mask : (k : ℕ) → k < 32 → has (flags_of ws) k ≡ some_dci k ws
  unfolding has
  has_mask k h = rw (flags_promise ws k h) (bit_true (some_dci k ws))

  has_below : (k : ℕ) → has (flags_of ws) k ≡ true → k < 32
  unfolding has
  has_below k e = go (dec_lt k 32)
    where
      go : Dec (k < 32) → k < 32
      go (yes h) = h
      go (no h) = not_both (has (flags_of ws) k) e (rw (bit_at_above (flags_of ws) 32 k flags_fit (omega (arith, h))) refl)

-- The address of a word, by direction and number.
record Address (a : ℕ) : Type 0 where
  side : ℕ
  number : ℕ
  side_small : side < 2
  number_small : number < 16
  is : a ≡ side * 128 + number

word_address : (w : ℕ) → Address (endpoint_descriptor w).address
unfolding endpoint_descriptor direction_in endpoint_number
word_address w = record { side = direction_in w; number = endpoint_number w; side_small = omega arith; number_small = omega arith; is = refl }

dci_is : (a : ℕ) (x : Address a) → dci_of a ≡ 2 * x.number + x.side
unfolding dci_of
dci_is a x = go x.side x.side_small x.is
  where
    go : (i : ℕ) → i < 2 → a ≡ i * 128 + x.number → 2 * (a % 16) + a / 128 ≡ 2 * x.number + i
    go zero h e =
        let n = x.number_small in
        let z : a ≡ x.number = omega arith in
        rw (z, mod-eq_of_lt x.number_small) (omega arith)
    go (suc zero) h e =
        let n = x.number_small in
        let d : a / 128 ≡ 1 = omega arith in
        let m : a % 16 ≡ x.number = omega arith in
        omega (arith, d, m)
    go (suc (suc i)) h e = absurd (omega arith)

dci_small : (a : ℕ) → Address a → dci_of a < 32
dci_small a x = let e = dci_is a x in let i = x.side_small in let n = x.number_small in omega arith

same_address : (a b : ℕ) → Address a → Address b → dci_of a ≡ dci_of b → a ≡ b
same_address a b x y e =
    let p = dci_is a x in let q = dci_is b y in
    let i = x.side_small in let k = y.side_small in let m = x.is in let n = y.is in
    omega arith

-- An address that the words have, and the Dci of one of them.
record Found (k : ℕ) (ws : List ℕ) : Type 0 where
  address : ℕ
  among : has_address address ws ≡ true
  known : Address address
  dci : dci_of address ≡ k

address_in : (a : ℕ) (ws : List ℕ) → has_address a ws ≡ true → Address a × (some_dci (dci_of a) ws ≡ true)
unfolding has_address some_dci word_dci
address_in a [] e = not_both false e refl
address_in a (w ∷ ws) e = go (or_cases (eqb (endpoint_descriptor w).address a) (has_address a ws) e) (address_in a ws)
  where
    go : (eqb (endpoint_descriptor w).address a ≡ true) ⊎ (has_address a ws ≡ true) →
        (has_address a ws ≡ true → Address a × (some_dci (dci_of a) ws ≡ true)) → Address a × (some_dci (dci_of a) (w ∷ ws) ≡ true)
    go (inl h) i =
        let q = eqb-true (endpoint_descriptor w).address a h in
        (rw q at (word_address w), or_left _ (some_dci (dci_of a) ws) (eq-eqb (dci_of (endpoint_descriptor w).address) (dci_of a) (ap dci_of q)))
    go (inr h) i = let t = i h in (t.0, or_right (eqb (dci_of (endpoint_descriptor w).address) (dci_of a)) _ t.1)

dci_in : (k : ℕ) (ws : List ℕ) → some_dci k ws ≡ true → Found k ws
unfolding has_address some_dci word_dci
dci_in k [] e = not_both false e refl
dci_in k (w ∷ ws) e = go (or_cases (eqb (dci_of (endpoint_descriptor w).address) k) (some_dci k ws) e) (dci_in k ws)
  where
    go : (eqb (dci_of (endpoint_descriptor w).address) k ≡ true) ⊎ (some_dci k ws ≡ true) → (some_dci k ws ≡ true → Found k ws) → Found k (w ∷ ws)
    go (inl h) i =
        record {
          address = (endpoint_descriptor w).address;
          among = or_left _ (has_address (endpoint_descriptor w).address ws) (eq-eqb (endpoint_descriptor w).address _ refl);
          known = word_address w;
          dci = eqb-true (dci_of (endpoint_descriptor w).address) k h;
        }
    go (inr h) i =
        let t = i h in
        record {
          address = t.address;
          among = or_right (eqb (endpoint_descriptor w).address t.address) (has_address t.address ws) t.among;
          known = t.known;
          dci = t.dci;
        }

has_its : (a : ℕ) (ws : List ℕ) → has_address a ws ≡ true → has (flags_of ws) (dci_of a) ≡ true
has_its a ws e = let t = address_in a ws e in has_mask ws (dci_of a) (dci_small a t.0) ∙ t.1

pub apart_addresses : (ws vs : List ℕ) → Apart (flags_of ws) (flags_of vs) → (a : ℕ) → (has_address a ws && has_address a vs) ≡ false
apart_addresses ws vs f a =
    false_if (has_address a ws && has_address a vs)
    (λ e. f (dci_of a) (has_its a ws (and_left (has_address a ws) (has_address a vs) e)) (has_its a vs (and_right (has_address a ws) (has_address a vs) e)))

pub apart_masks : (ws vs : List ℕ) → ((a : ℕ) → (has_address a ws && has_address a vs) ≡ false) → Apart (flags_of ws) (flags_of vs)
apart_masks ws vs f k x y =
    let h = has_below ws k x in
    let a = dci_in k ws (sym (has_mask ws k h) ∙ x) in
    let b = dci_in k vs (sym (has_mask vs k h) ∙ y) in
    let e = same_address b.address a.address b.known a.known (b.dci ∙ sym a.dci) in
    not_both (has_address a.address ws && has_address a.address vs)
    (and-true (has_address a.address ws) (has_address a.address vs) a.among (rw e at b.among)) (f a.address)
