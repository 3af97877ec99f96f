-- The steps of the functions.
use Prim.Native.Nat.{ℕ, ◌+◌, ◌%◌, ◌^◌, ◌≤◌, ◌<◌}
use mathlib.Core.Path.{◌≡◌, refl}
use mathlib.Core.Logic.{inl, inr}
use mathlib.Core.Bool.{true, false, cond, ◌||◌}
use mathlib.Core.List.{List}
use native.Mathlib.Omega.{arith}
use borrow.Author.Tests.{eq-eqb, ne_eqb, eqb-false}
use lib.Dec.{eqb}
use lib.ListN.{length, get_or, drop, drop_of_length-le, get_or-eq_default}
use Rattle.laws.proofs.Cases.{Decided, decided}
use Rattle.descriptor.specs.Word.{endpoint_descriptor}
use Rattle.descriptor_list.proofs.Next.{drop_next}
use Rattle.record_endpoint.specs.Order.{place_of}
use Rattle.record_endpoint.specs.declared.endpoint_map.EndpointMap.{EndpointMap}
use Rattle.device.specs.declared.record.Device.{Device}
use Rattle.record_settings.specs.Match.{address_free}
use Rattle.reason.specs.declared.Reason.TheVariants.{Endpoint, Rings, Command, Number}
use Rattle.reason.specs.Reason.{owner_of, first_owned, first_failed, claim_reason}

-- `other_owner`: a word at a place that no other interface owns, and at one that another does.
module _ (w i : ℕ) (c : EndpointMap) (q : ℕ) (e : q ≡ place_of (endpoint_descriptor w).address) where
  pub free_unowned : get_or c.rings q 0 ≡ 0 → address_free w i c ≡ true
  unfolding address_free
  free_unowned h = rw (← e, h)

  pub free_own : (get_or c.rings q 0 ≡ 0 → ⊥) → get_or c.owners q 0 ≡ i → address_free w i c ≡ true
  unfolding address_free
  free_own n h = rw (← e, ne_eqb _ _ n, h, eq-eqb i i refl)

  pub not_free : (get_or c.rings q 0 ≡ 0 → ⊥) → (get_or c.owners q 0 ≡ i → ⊥) → address_free w i c ≡ false
  unfolding address_free
  not_free n m = rw (← e, ne_eqb _ _ n, ne_eqb _ _ m)

  pub owner_at : get_or c.owners q 0 ≡ owner_of w c
  unfolding owner_of
  owner_at = rw (← e)

-- And one that no endpoint can have.
pub free_nowhere : (w i : ℕ) (c : EndpointMap) → length c.rings ≡ 30 → 30 ≡ place_of (endpoint_descriptor w).address → address_free w i c ≡ true
free_nowhere w i c l e = free_unowned w i c 30 e (get_or-eq_default c.rings 0 (omega arith))

-- `first_owned`
module _ (words : List ℕ) (i : ℕ) (c : EndpointMap) (k : ℕ) (h : k < length words) where
  pub owned_here : (owner : ℕ) → address_free (get_or words k 0) i c ≡ false → owner ≡ owner_of (get_or words k 0) c →
      first_owned (drop k words) i c ≡ Endpoint (get_or words k 0 % 2 ^ 32) owner
  unfolding first_owned
  owned_here owner f o = rw (drop_next words k h, f, o)

  pub owned_next : address_free (get_or words k 0) i c ≡ true → first_owned (drop k words) i c ≡ first_owned (drop (k + 1) words) i c
  unfolding first_owned
  owned_next f = rw (drop_next words k h, f)

pub owned_end : (words : List ℕ) (i : ℕ) (c : EndpointMap) (k : ℕ) → length words ≤ k → first_owned (drop k words) i c ≡ Number 9
unfolding first_owned
owned_end words i c k h = rw (drop_of_length-le words h)

-- `first_failed`
module _ (o log : List ℕ) (n k : ℕ) (h : k < length log) where
  pub failed_here : (get_or o k 0 ≡ 0 → ⊥) → first_failed o k (drop k log) n ≡ Command k (get_or log k 0)
  unfolding first_failed
  failed_here e = rw (drop_next log k h, ne_eqb _ _ e)

  pub failed_next : get_or o k 0 ≡ 0 → first_failed o k (drop k log) n ≡ first_failed o (k + 1) (drop (k + 1) log) n
  unfolding first_failed
  failed_next e = rw (drop_next log k h, e)

pub failed_end : (o log : List ℕ) (n k : ℕ) → length log ≤ k → first_failed o k (drop k log) n ≡ Number n
unfolding first_failed
failed_end o log n k h = rw (drop_of_length-le log h)

-- `claim_reason`
module _ (d : Device) (i a n : ℕ) (ws o : List ℕ) where
  pub failed_told : 13 ≤ n → n ≤ 14 → first_failed o 0 ws n ≡ claim_reason d i a n ws o
  unfolding claim_reason
  failed_told low high =
      let z : n ≡ 0 → ⊥ = λ e. omega arith in
      let e : n ≡ 8 → ⊥ = λ e. omega arith in
      let f : n ≡ 9 → ⊥ = λ e. omega arith in
      rw (ne_eqb n 0 z, ne_eqb n 8 e, ne_eqb n 9 f) (go (decided (eqb n 13)))
    where
      go : Decided (eqb n 13) → first_failed o 0 ws n ≡ cond (eqb n 13 || eqb n 14) (first_failed o 0 ws n) (cond (eqb n 21) Rings (Number n))
      go (inl k) = rw k
      go (inr k) = let m = eqb-false n 13 k in let q : n ≡ 14 = omega arith in rw (k, eq-eqb n 14 q)

  pub number_told : (n ≡ 0 → ⊥) → (n ≡ 8 → ⊥) → (n ≡ 9 → ⊥) → (n ≡ 13 → ⊥) → (n ≡ 14 → ⊥) → (n ≡ 21 → ⊥) → Number n ≡ claim_reason d i a n ws o
  unfolding claim_reason
  number_told p q r s t u = rw (ne_eqb n 0 p, ne_eqb n 8 q, ne_eqb n 9 r, ne_eqb n 13 s, ne_eqb n 14 t, ne_eqb n 21 u)
