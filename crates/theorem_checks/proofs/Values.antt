-- The values that contexts are given are what specs/Values.antt says.
use Rattle.std.proofs.Common.{Some}
use Prim.Native.Nat.{ℕ, zero, suc, ◌+◌, ◌-◌, ◌*◌, ◌/◌, ◌%◌, ◌^◌, ◌≤◌, ◌<◌, min, max}
use mathlib.Core.Path.{◌≡◌, refl, sym, ap, ◌∙◌}
use mathlib.Core.Logic.{◌⊎◌, inl, inr}
use mathlib.Core.Bool.{Bool, true, false, cond, ◌&&◌, ◌||◌}
use mathlib.Core.List.{List, [], ◌∷◌}
use native.Mathlib.Omega.{arith}
use Rattle.std.proofs.Math.Nat.{pow-succ', mul-add-div, mul-add-mod_self_left}
use Rattle.std.proofs.Math.Arith.{digits_lt, digits_div}
use Rattle.std.proofs.lemmas.Nat.{pow-add}
use borrow.Author.Tests.{eqb-true, eqb-false, ne_eqb, le-leb, leb-true, ltb-true}
use lib.Dec.{eqb, leb, ltb}
use lib.ListN.{length, get_or}
use Rattle.laws.proofs.Tests.{and_left, and_right}
use Rattle.laws.proofs.Cases.{Decided, decided, false_if}
use Rattle.laws.proofs.Computed.{all_below}
use Rattle.def.specs.Speed.{is_super, first_packet_size}
use Rattle.descriptor.specs.declared.TransferType.{TransferType}
use Rattle.descriptor.specs.declared.TransferType.TheVariants.{Isochronous, Bulk, Interrupt}
use Rattle.descriptor.specs.Word.{direction_in, endpoint_number, type_number, transfer_type, companion_of, companion_burst, endpoint_descriptor}
use Rattle.descriptor.specs.Endpoint.{endpoint_type, halvings, held_exponent, periodic_interval, isochronous_interval, xhci_interval, is_periodic, periodic_burst}
use Rattle.hub.specs.HubWord.{hub_info, hub_at}
use Rattle.hub.specs.declared.translator.Translator.{Translator}
use Rattle.hub.specs.Route.{ports, clamp, route_of_ports, route_string}
use Rattle.hub.proofs.Laws.{length_ports}
use Rattle.hub.specs.Translator.{nearest_high, translator_of}
use Rattle.context_field.specs.declared.Field.{Field}
use Rattle.context_block.specs.Fields.{INTERVAL, EP-TYPE, MAX-BURST-SIZE}
use Rattle.context_block.specs.Blocks.{word_dci}
use Rattle.context_block.specs.FieldWrite.{FieldWrite}
use Rattle.context_block.specs.Promises.{Holds, ring_reads, plain_reads, companion_reads, endpoint_reads}
use Rattle.context.specs.Place.{read_at}
use Rattle.theorem_checks.specs.Descriptors.{bits, address_of, IsSuper}
use Rattle.theorem_checks.specs.Hubs.{ParentOf, Chain}
use Rattle.theorem_checks.specs.Values.{FirstSizes, type_of, EndpointValues, ConfigureValues, IsHigh, port_on, IsAt, IsNone, Nearest, TranslatorTells, Nibbles, RouteTells}
use Rattle.theorem_checks.proofs.Descriptors.{word_dci_is, no_dci}

pub first_sizes : FirstSizes
unfolding read_at Holds first_packet_size
first_sizes s speed route translator root_port ring ctx r =
    let size = r.endpoint.named.1.1.0 in
    record {
      full = λ e. size ∙ rw e;
      low = λ e. size ∙ rw e;
      high = λ e. size ∙ rw e;
      super = λ e. size ∙ rw e;
      super_plus = λ e. size ∙ rw e;
    }

-- Types.
abbrev descriptor_type : ℕ → TransferType
descriptor_type n = transfer_type n

iso : (n : ℕ) → n ≡ 1 → transfer_type n ≡ Isochronous
unfolding transfer_type
iso n e = rw e

bulk : (n : ℕ) → n ≡ 2 → transfer_type n ≡ Bulk
unfolding transfer_type
bulk n e = rw e

interrupt : (n : ℕ) → n ≡ 3 → transfer_type n ≡ Interrupt
unfolding transfer_type
interrupt n e = rw e

number_typed : (n address : ℕ) → 1 ≤ n → n < 4 → endpoint_type (transfer_type n) address ≡ n + 4 * (address / 128)
unfolding endpoint_type
number_typed n address h l = go (decided (eqb n 1)) (decided (eqb n 2))
  where
    go : Decided (eqb n 1) → Decided (eqb n 2) → endpoint_type (transfer_type n) address ≡ n + 4 * (address / 128)
    go (inl p) q = let e = eqb-true n 1 p in rw (iso n e, e) refl
    go (inr p) (inl q) = let e = eqb-true n 2 q in rw (bulk n e, e) refl
    go (inr p) (inr q) =
        let a = eqb-false n 1 p in
        let b = eqb-false n 2 q in
        let e : n ≡ 3 = omega arith in
        rw (interrupt n e, e) refl

high_bit : (w : ℕ) → address_of w / 128 ≡ bits 29 1 w
high_bit w =
    let i = bits 29 1 w in
    let n = bits 25 4 w in
    let small : n < 16 = omega arith in
    omega arith

-- Intervals and bursts, by type.
module _ (byte speed n : ℕ) where
  exponent_here : (n ≡ 1) ⊎ (n ≡ 3) → 3 ≤ speed → speed ≤ 5 → xhci_interval byte (transfer_type n) speed ≡ min (max byte 1) 16 - 1
  unfolding xhci_interval isochronous_interval periodic_interval held_exponent
  exponent_here (inl e) low high =
      rw (iso n e, ne_eqb speed 1 (λ z. omega arith), le-leb 3 speed low, le-leb speed 5 high) refl
  exponent_here (inr e) low high = rw (interrupt n e, le-leb 3 speed low, le-leb speed 5 high) refl

  full_here : n ≡ 1 → speed ≡ 1 → xhci_interval byte (transfer_type n) speed ≡ min (max byte 1) 16 + 2
  unfolding xhci_interval isochronous_interval held_exponent
  full_here e s = rw (iso n e, s) refl

  halved : ((n ≡ 3) × (speed ≡ 1)) ⊎ (((n ≡ 1) ⊎ (n ≡ 3)) × (speed ≡ 2)) → xhci_interval byte (transfer_type n) speed ≡ 3 + halvings 8 byte
  unfolding xhci_interval isochronous_interval periodic_interval
  halved (inl t) = rw (interrupt n t.0, t.1) refl
  halved (inr (inl e, s)) = rw (iso n e, s) refl
  halved (inr (inr e, s)) = rw (interrupt n e, s) refl

  bulk_here : n ≡ 2 → xhci_interval byte (transfer_type n) speed ≡ byte
  unfolding xhci_interval
  bulk_here e = rw (bulk n e) refl

  burst_here : (packets old : ℕ) → (n ≡ 1) ⊎ (n ≡ 3) → speed ≡ 3 →
      cond (is_periodic (transfer_type n)) (periodic_burst (transfer_type n) packets speed) old ≡ packets - 1
  unfolding is_periodic periodic_burst
  burst_here packets old (inl e) s = rw (iso n e, s) refl
  burst_here packets old (inr e) s = rw (interrupt n e, s) refl

  no_burst_here : (packets old : ℕ) → (n ≡ 1) ⊎ (n ≡ 3) → speed ≤ 2 →
      cond (is_periodic (transfer_type n)) (periodic_burst (transfer_type n) packets speed) old ≡ 0
  unfolding is_periodic periodic_burst
  no_burst_here packets old (inl e) s = rw (iso n e, ne_eqb speed 3 (λ z. omega arith)) refl
  no_burst_here packets old (inr e) s = rw (interrupt n e, ne_eqb speed 3 (λ z. omega arith)) refl

abbrev power_test : ℕ → Bool
power_test b = leb (2 ^ (3 + halvings 8 b)) (8 * max b 1) && ltb (8 * max b 1) (2 ^ (3 + halvings 8 b + 1))

power : (b : ℕ) → b < 256 → (2 ^ (3 + halvings 8 b) ≤ 8 * max b 1) × (8 * max b 1 < 2 ^ (3 + halvings 8 b + 1))
unfolding halvings
power b h =
    let t = all_below power_test 256 refl b h in
    (leb-true _ _ (and_left (leb (2 ^ (3 + halvings 8 b)) (8 * max b 1)) _ t), ltb-true _ _ (and_right (leb (2 ^ (3 + halvings 8 b)) (8 * max b 1)) _ t))

-- At speeds 4 and 5, and below.
at_super : (speed : ℕ) → IsSuper speed → is_super speed ≡ true
unfolding is_super
at_super speed s = rw (le-leb 4 speed s.0, le-leb speed 5 s.1)

below_super : (speed : ℕ) → speed ≤ 3 → is_super speed ≡ false
unfolding is_super
below_super speed h = false_if (leb 4 speed && leb speed 5) (λ e. let l = leb-true 4 speed (and_left (leb 4 speed) _ e) in omega (arith, l))

plain_holds : (block : List ℕ) (b : Bool) (x y : List FieldWrite) → b ≡ false → Holds block (cond b x y) → Holds block y
plain_holds block b x y e h = rw e at h

companion_holds : (block : List ℕ) (b : Bool) (x y : List FieldWrite) → b ≡ true → Holds block (cond b x y) → Holds block x
companion_holds block b x y e h = rw e at h

-- A companion's bits, in the word that is joined of both.
companion_bits : (w : ℕ) → w / 2 ^ 32 / 2 ^ 26 % 2 ^ 4 ≡ bits (32 + 26) 4 w
companion_bits w = omega arith

-- What a block reads.
values :
    (speed w old : ℕ) (reads : Field → ℕ) → 1 ≤ type_of w →
    reads INTERVAL ≡ xhci_interval (bits 2 8 w) (transfer_type (type_of w)) speed →
    reads EP-TYPE ≡ endpoint_type (transfer_type (type_of w)) (address_of w) →
    (is_super speed ≡ false →
    reads MAX-BURST-SIZE ≡ cond (is_periodic (transfer_type (type_of w))) (periodic_burst (transfer_type (type_of w)) (bits 10 2 w) speed) old) →
    (is_super speed ≡ true → reads MAX-BURST-SIZE ≡ bits (32 + 26) 4 w) →
    EndpointValues speed w reads
values speed w old reads h i t b c =
    let byte = bits 2 8 w in
    let n = type_of w in
    let four : n < 4 = omega arith in
    let small : byte < 256 = omega arith in
    let p = power byte small in
    record {
      type = t ∙ number_typed n (address_of w) h four ∙ ap (λ x. n + 4 * x) (high_bit w);
      bulk = λ e. i ∙ bulk_here byte speed n e;
      exponent = λ k low high. i ∙ exponent_here byte speed n k low high;
      full = λ e s. i ∙ full_here byte speed n e s;
      not_above = λ m. rw (i ∙ halved byte speed n m) p.0;
      highest = λ m. rw (i ∙ halved byte speed n m) p.1;
      burst = λ k s. b (below_super speed (omega (arith, s))) ∙ burst_here byte speed n (bits 10 2 w) old k s;
      companion_burst = λ s. c (at_super speed s);
      no_burst = λ k s. b (below_super speed (omega (arith, s))) ∙ no_burst_here byte speed n (bits 10 2 w) old k s;
    }

pub configure_values : ConfigureValues
unfolding read_at Holds ring_reads plain_reads companion_reads endpoint_reads endpoint_descriptor direction_in endpoint_number type_number companion_of companion_burst
configure_values s speed interface alternate dropped added queues dcis was ctx r xs ys w e last typed =
    let named = (r.last xs ys w e (no_dci w ys last)).named in
    let v : EndpointValues speed w (read_at s ctx (word_dci w + 1)) =
    values speed w _ (read_at s ctx (word_dci w + 1)) typed named.0 named.1.1.0
    (λ f. (plain_holds _ (is_super speed) _ _ f named.1.1.1.1.1.1.1).0)
    (λ f. (companion_holds _ (is_super speed) _ _ f named.1.1.1.1.1.1.1).0 ∙ companion_bits w) in
    rw (word_dci_is w) at v

-- Translators.
module _ (hubs : List ℕ) where
  none_at : IsNone (record { slot_id = 0; multi = false; port = 0 })
  none_at = record { slot = refl; multi = refl; port_is = refl }

  port_next : (x port j : ℕ) (way : List ℕ) → port_on hubs way (bits 32 8 (get_or hubs x 0)) j ≡ port_on hubs (x ∷ way) port (suc j)
  unfolding port_on
  port_next x port zero way = refl
  port_next x port (suc j) way = refl

  at_next : (x port j : ℕ) (way : List ℕ) (t : Translator) → IsAt hubs way (bits 32 8 (get_or hubs x 0)) j t → IsAt hubs (x ∷ way) port (suc j) t
  at_next x port j way t i = record { slot = i.slot; multi = i.multi; port_is = i.port_is ∙ port_next x port j way }

  nearest : (d at port : ℕ) (way : List ℕ) → get_or way 0 0 ≡ at → length way ≡ d + 1 →
      ((j : ℕ) → j < d → ParentOf hubs (get_or way j 0) (get_or way (suc j) 0)) → Nearest hubs way port d (nearest_high hubs at port d)
  unfolding nearest_high port_on hub_at hub_info
  nearest zero at port way b l p = record { there = λ j h. absurd (omega arith); nowhere = λ f. none_at }
  nearest (suc d) at port [] b l p = absurd (omega arith)
  nearest (suc d) at port (x ∷ way) b l p =
      rw (← b)
      (go (decided (eqb (bits 40 3 (get_or hubs x 0)) 3))
      (nearest d (bits 54 8 (get_or hubs x 0)) (bits 32 8 (get_or hubs x 0)) way (sym (p 0 (omega arith)).parent_is) (omega (arith, l))
      (λ j h. p (suc j) (omega arith))))
    where
      rest : Translator
      rest = nearest_high hubs (bits 54 8 (get_or hubs x 0)) (bits 32 8 (get_or hubs x 0)) d

      here : Translator
      here = record { slot_id = bits 46 8 (get_or hubs x 0); multi = eqb (bits 31 1 (get_or hubs x 0)) 1; port = port }

      first : IsHigh hubs x → (j : ℕ) → j < suc d → IsHigh hubs (get_or (x ∷ way) j 0) →
          ((k : ℕ) → k < j → IsHigh hubs (get_or (x ∷ way) k 0) → ⊥) → IsAt hubs (x ∷ way) port j here
      first q zero h i f = record { slot = refl; multi = refl; port_is = refl }
      first q (suc j) h i f = absurd (f 0 (omega arith) q)

      later : Nearest hubs way (bits 32 8 (get_or hubs x 0)) d rest → (IsHigh hubs x → ⊥) → (j : ℕ) → j < suc d →
          IsHigh hubs (get_or (x ∷ way) j 0) → ((k : ℕ) → k < j → IsHigh hubs (get_or (x ∷ way) k 0) → ⊥) → IsAt hubs (x ∷ way) port j rest
      later r q zero h i f = absurd (q i)
      later r q (suc j) h i f = at_next x port j way rest (r.there j (omega arith) i (λ k g. f (suc k) (omega arith)))

      go : Decided (eqb (bits 40 3 (get_or hubs x 0)) 3) → Nearest hubs way (bits 32 8 (get_or hubs x 0)) d rest →
          Nearest hubs (x ∷ way) port (suc d) (cond (eqb (bits 40 3 (get_or hubs x 0)) 3) here rest)
      go (inl e) r =
          let q = eqb-true (bits 40 3 (get_or hubs x 0)) 3 e in
          rw e (record { there = first q; nowhere = λ f. absurd (f 0 (omega arith) q) })
      go (inr e) r =
          let q = eqb-false (bits 40 3 (get_or hubs x 0)) 3 e in
          rw e (record { there = later r q; nowhere = λ f. r.nowhere (λ j h. f (suc j) (omega arith)) })

  translated : (speed port at : ℕ) (c : Chain hubs at) → (speed ≡ 1) ⊎ (speed ≡ 2) → Nearest hubs c.way port c.above (translator_of speed hubs (Some at) port)
  unfolding translator_of hub_at hub_info
  translated speed port at c s =
      let h = c.fit 0 (omega arith) in
      let z : c.above - 0 ≡ c.above = omega arith in
      let depth : bits 43 3 (get_or hubs at 0) ≡ c.above = rw (c.begins, z) at h.depth in
      let slow : (eqb speed 1 || eqb speed 2) ≡ true = one speed s in
      rw (slow, depth)
      (nearest c.above at port c.way c.begins c.counted (λ j q. let y : j + 1 ≡ suc j = omega arith in rw y at (c.parents j q)))
    where
      one : (k : ℕ) → (k ≡ 1) ⊎ (k ≡ 2) → (eqb k 1 || eqb k 2) ≡ true
      one k (inl e) = rw e
      one k (inr e) = rw e

pub translator_tells : TranslatorTells
unfolding translator_of
translator_tells speed hubs port =
    record {
      below = λ at c s. translated hubs speed port at c s;
      fast = λ at n m. rw (ne_eqb speed 1 n, ne_eqb speed 2 m) (none_at hubs);
      alone = none_at hubs;
    }

-- Route strings.
upper : (c r e i : ℕ) → (c * 16 ^ (e + suc i) + r) / 16 ^ e % 16 ≡ r / 16 ^ e % 16
upper c r e i =
    let q = 16 ^ e in
    let k = 16 ^ i in
    let some : 0 < q = pow-pos e in
    let p : c * 16 ^ (e + suc i) ≡ q * (16 * (c * k)) = rw (pow-add 16 e (suc i), pow-succ' 16 i) (turned c q k) in
    let d : (q * (16 * (c * k)) + r) / q ≡ 16 * (c * k) + r / q = mul-add-div some (16 * (c * k)) r in
    rw (p, d) (mul-add-mod_self_left 16 (c * k) (r / q))
  where
    pow-pos : (n : ℕ) → 0 < 16 ^ n
    pow-pos zero = omega arith
    pow-pos (suc n) = let h = pow-pos n in rw (pow-succ' 16 n) (omega arith)

    turned : (a b c : ℕ) → a * (b * (16 * c)) ≡ b * (16 * (a * c))
    turned a b c = grind arith

module _ (hubs : List ℕ) where
  nibbles : (d at port : ℕ) (way : List ℕ) → get_or way 0 0 ≡ at → length way ≡ d + 1 →
      ((j : ℕ) → j < d → ParentOf hubs (get_or way j 0) (get_or way (suc j) 0)) → Nibbles hubs way port d (route_of_ports (ports hubs at port d))
  unfolding ports route_of_ports clamp port_on hub_at hub_info
  nibbles zero at port way b l p = record { nibble = λ j h. absurd (omega arith); high = omega arith }
  nibbles (suc d) at port [] b l p = absurd (omega arith)
  nibbles (suc d) at port (x ∷ way) b l p =
      rw (← b)
      (go
      (nibbles d (bits 54 8 (get_or hubs x 0)) (bits 32 8 (get_or hubs x 0)) way (sym (p 0 (omega arith)).parent_is) (omega (arith, l))
      (λ j h. p (suc j) (omega arith))))
    where
      rest : ℕ
      rest = route_of_ports (ports hubs (bits 54 8 (get_or hubs x 0)) (bits 32 8 (get_or hubs x 0)) d)

      count : length (ports hubs (bits 54 8 (get_or hubs x 0)) (bits 32 8 (get_or hubs x 0)) d) ≡ d
      count = length_ports hubs (bits 54 8 (get_or hubs x 0)) (bits 32 8 (get_or hubs x 0)) d

      nibble : Nibbles hubs way (bits 32 8 (get_or hubs x 0)) d rest → (j : ℕ) → j < suc d →
          (min port 15 * 16 ^ d + rest) / 16 ^ (suc d - 1 - j) % 16 ≡ min (port_on hubs (x ∷ way) port j) 15
      nibble r zero h =
          let z : suc d - 1 - 0 ≡ d = omega arith in
          let c : min port 15 % 16 ≡ min port 15 = omega arith in
          rw (z, digits_div (min port 15) r.high) c
      nibble r (suc i) h =
          let e = d - 1 - i in
          let z : suc d - 1 - suc i ≡ e = omega arith in
          let s : d ≡ e + suc i = omega arith in
          rw (z) (ap (λ n. (min port 15 * 16 ^ n + rest) / 16 ^ e % 16) s ∙ upper (min port 15) rest e i ∙ r.nibble i (omega arith) ∙ ap (λ n. min n 15) (port_next hubs x port i way))

      high : Nibbles hubs way (bits 32 8 (get_or hubs x 0)) d rest → min port 15 * 16 ^ d + rest < 16 ^ suc d
      high r = let c : min port 15 < 16 = omega arith in rw (pow-succ' 16 d) (digits_lt c r.high)

      go : Nibbles hubs way (bits 32 8 (get_or hubs x 0)) d rest →
          Nibbles hubs (x ∷ way) port (suc d)
          (min port 15 * 16 ^ length (ports hubs (bits 54 8 (get_or hubs x 0)) (bits 32 8 (get_or hubs x 0)) d) + rest)
      go r = rw count (record { nibble = nibble r; high = high r })

  routed : (port at : ℕ) (c : Chain hubs at) → Nibbles hubs c.way port c.above (route_string hubs (Some at) port)
  unfolding route_string hub_at hub_info
  routed port at c =
      let h = c.fit 0 (omega arith) in
      let z : c.above - 0 ≡ c.above = omega arith in
      let depth : bits 43 3 (get_or hubs at 0) ≡ c.above = rw (c.begins, z) at h.depth in
      rw depth
      (nibbles c.above at port c.way c.begins c.counted (λ j q. let y : j + 1 ≡ suc j = omega arith in rw y at (c.parents j q)))

pub route_tells : RouteTells
unfolding route_string
route_tells hubs port = record { below = λ at c. routed hubs port at c; alone = refl }
