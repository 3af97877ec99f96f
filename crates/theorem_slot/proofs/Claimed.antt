-- The plain slot's settings beside the endpoints that a claim or a release leaves.
use Prim.Native.Nat.{ℕ, suc, ◌≤◌, ◌<◌}
use mathlib.Core.Path.{◌≡◌, refl, sym, ◌∙◌}
use mathlib.Core.Bool.{Bool, true, false, not, cond, ◌&&◌, ◌||◌, and-false, and-true as and_one, or-true, or-false}
use mathlib.Core.List.{List, [], ◌∷◌}
use mathlib.Core.Logic.{◌⊎◌, inl, inr, ⊎_elim}
use native.Mathlib.Omega.{arith}
use borrow.Author.Tests.{eq-eqb, ne_eqb, eqb-true, not-true, not-false}
use lib.Dec.{eqb}
use lib.ListN.{length, get_or}
use Rattle.laws.proofs.Tests.{and_left, and_right, not_both}
use Rattle.laws.proofs.Cases.{Decided, decided, or_cases}
use Rattle.descriptor_list.specs.Valid.{valid_list}
use Rattle.descriptor.specs.Word.{endpoint_descriptor}
use Rattle.descriptor.specs.Endpoint.{dci_of}
use Rattle.context_block.specs.Blocks.{word_dci, some_dci}
use Rattle.record_endpoint.specs.Order.{dci_at, place_of}
use Rattle.record_endpoint.specs.EndpointMap.{is_owned, owns, pending_rings, claimed_ring, claimed_endpoints}
use Rattle.record_endpoint.specs.declared.endpoint_map.EndpointMap.{EndpointMap}
use Rattle.record_endpoint.specs.declared.endpoint_map.Owner.TheVariants.{Interface}
use Rattle.record_endpoint.proofs.Laws.{dci_low, dci_high, place_dci, claimed_ring_lem}
use Rattle.record_settings.specs.Held.{setting_words}
use Rattle.record_settings.specs.Match.{has_place, addresses_free}
use Rattle.record_settings.proofs.Laws.{setting_place, claimed_owned, free_apart}
use Rattle.theorem_routing.proofs.Laws.{words_dci, words_name, words_ring}
use Rattle.theorem_slot.specs.Plain.{HeldSetting, setting_of}
use Rattle.theorem_slot.proofs.Settings.{Fits}

-- The Dcis of words are at their places.
pub some_place : (words : List ℕ) (p : ℕ) → p < 30 → some_dci (dci_at p) words ≡ has_place p words
some_place words p h = sym (words_dci (dci_at p) words []) ∙ words_name words [] p h

-- They are endpoints'.
pub words_inside :
    (words : List ℕ) → ((k : ℕ) → k < length words → place_of (endpoint_descriptor (get_or words k 0)).address < 30) → (d : ℕ) →
    some_dci d words ≡ true → (2 ≤ d) × (d < 32)
unfolding some_dci word_dci
words_inside [] h d e = not_both false e refl
words_inside (w ∷ ws) h d e =
    ⊎_elim
    (λ x.
    let p = place_of (endpoint_descriptor w).address in
    let s : dci_at p ≡ d = place_dci (endpoint_descriptor w).address (h 0 (omega arith)) ∙ eqb-true (dci_of (endpoint_descriptor w).address) d x in
    (omega (arith, dci_low p (h 0 (omega arith)), s), omega (arith, dci_high p (h 0 (omega arith)), s)))
    (λ x. words_inside ws (λ k l. h (suc k) (omega arith)) d x)
    (or_cases (eqb (dci_of (endpoint_descriptor w).address) d) (some_dci d ws) e)

-- An endpoint that is owned has a ring.
pub owned_ring : (i : ℕ) (c : EndpointMap) (p : ℕ) → is_owned (Interface i) c p ≡ true → eqb (get_or c.rings p 0) 0 ≡ false
unfolding is_owned owns
owned_ring i c p o = not-true (eqb (get_or c.rings p 0) 0) (and_left (not (eqb (get_or c.rings p 0) 0)) _ o)

-- It has one owner.
one_owner :
    (i j : ℕ) (c : EndpointMap) (p : ℕ) → (i ≡ j → ⊥) → is_owned (Interface i) c p ≡ true → is_owned (Interface j) c p ≡ false
unfolding is_owned owns
one_owner i j c p n o =
    let w : get_or c.owners p 0 ≡ i = eqb-true (get_or c.owners p 0) i (and_right (not (eqb (get_or c.rings p 0) 0)) _ o) in
    rw (ne_eqb (get_or c.owners p 0) j (λ e. n (sym w ∙ e))) (and-false (not (eqb (get_or c.rings p 0) 0)))

-- The endpoints of another interface, after a claim of interface i with these pending rings.
module _ (i j : ℕ) (pending : List ℕ) (c : EndpointMap) (p : ℕ) (h : p < 30) (n : i ≡ j → ⊥)
    (free : eqb (get_or pending p 0) 0 ≡ false → is_owned (Interface j) c p ≡ false) where
  other_owned : is_owned (Interface j) (claimed_endpoints i pending c) p ≡ is_owned (Interface j) c p
  other_owned = claimed_owned i j pending c p h ∙ go (decided (eqb (get_or pending p 0) 0)) (decided (is_owned (Interface i) c p))
    where
      go :
          Decided (eqb (get_or pending p 0) 0) → Decided (is_owned (Interface i) c p) →
          cond (eqb (get_or pending p 0) 0) (is_owned (Interface j) c p && not (is_owned (Interface i) c p)) (eqb i j)
          ≡ is_owned (Interface j) c p
      go (inl z) (inl o) = rw (z, one_owner i j c p n o)
      go (inl z) (inr o) = rw (z, o) (and_one (is_owned (Interface j) c p))
      go (inr z) o = rw (z, ne_eqb i j n, free z)

  other_ring : is_owned (Interface j) c p ≡ true → get_or (claimed_endpoints i pending c).rings p 0 ≡ get_or c.rings p 0
  unfolding claimed_ring
  other_ring o = claimed_ring_lem i pending c p h ∙ go (decided (eqb (get_or pending p 0) 0)) (decided (is_owned (Interface i) c p))
    where
      go :
          Decided (eqb (get_or pending p 0) 0) → Decided (is_owned (Interface i) c p) →
          cond (eqb (get_or pending p 0) 0) (cond (is_owned (Interface i) c p) 0 (get_or c.rings p 0)) (get_or pending p 0)
          ≡ get_or c.rings p 0
      go (inl z) (inl w) = not_both (is_owned (Interface j) c p) o (one_owner i j c p n w)
      go (inl z) (inr w) = rw (z, w)
      go (inr z) w = not_both (is_owned (Interface j) c p) o (free z)

-- Its settings stay.
pub fits_other :
    (i : ℕ) (pending : List ℕ) (c : EndpointMap) (s : HeldSetting) → (i ≡ s.interface → ⊥) →
    ((p : ℕ) → p < 30 → eqb (get_or pending p 0) 0 ≡ false → is_owned (Interface s.interface) c p ≡ false) →
    Fits c s → Fits (claimed_endpoints i pending c) s
fits_other i pending c s n free f =
    record {
      named = λ p h. f.named p h ∙ sym (other_owned i s.interface pending c p h n (free p h));
      ring = λ p h o.
          let w : is_owned (Interface s.interface) c p ≡ true = sym (other_owned i s.interface pending c p h n (free p h)) ∙ o in
          f.ring p h w ∙ sym (other_ring i s.interface pending c p h n (free p h) w);
      inside = f.inside;
      byte = f.byte;
    }

-- The setting that was claimed.
module _ (list : List ℕ) (valid : valid_list list ≡ true) (i a : ℕ) (rings : List ℕ) (c : EndpointMap)
    (places : (p : ℕ) → p < 30 →
    eqb (get_or (pending_rings (setting_words list i a) rings) p 0) 0 ≡ not (has_place p (setting_words list i a))) where
  abbrev words : List ℕ
  words = setting_words list i a

  abbrev pending : List ℕ
  pending = pending_rings (setting_words list i a) rings

  pub own_owned : (p : ℕ) → p < 30 → is_owned (Interface i) (claimed_endpoints i pending c) p ≡ has_place p words
  own_owned p h =
      claimed_owned i i pending c p h ∙ rw (places p h, eq-eqb i i refl) (go (has_place p words) (is_owned (Interface i) c p))
    where
      go : (b o : Bool) → cond (not b) (o && not o) true ≡ b
      go true o = refl
      go false true = refl
      go false false = refl

  own_ring : (p : ℕ) → p < 30 → has_place p words ≡ true → get_or (claimed_endpoints i pending c).rings p 0 ≡ get_or pending p 0
  unfolding claimed_ring
  own_ring p h w = claimed_ring_lem i pending c p h ∙ rw (places p h, w)

  pub fits_own : a < 256 → Fits (claimed_endpoints i pending c) (setting_of list i a rings)
  unfolding setting_of
  fits_own b =
      record {
        named = λ p h. words_name words rings p h ∙ sym (own_owned p h);
        ring = λ p h o. words_ring words rings p h ∙ sym (own_ring p h (sym (own_owned p h) ∙ o));
        inside = λ d e. words_inside words (setting_place list valid i a) d (sym (words_dci d words rings) ∙ e);
        byte = b;
      }

-- Where other interfaces' endpoints are not at the words' places.
pub pending_free :
    (words : List ℕ) (i : ℕ) (pending : List ℕ) (c : EndpointMap) → addresses_free words i c ≡ true →
    ((p : ℕ) → p < 30 → eqb (get_or pending p 0) 0 ≡ not (has_place p words)) →
    (j : ℕ) → (i ≡ j → ⊥) → (p : ℕ) → p < 30 → eqb (get_or pending p 0) 0 ≡ false → is_owned (Interface j) c p ≡ false
pending_free words i pending c free places j n p h z =
    free_apart words i j c p free h (not-false (has_place p words) (sym (places p h) ∙ z)) n

-- What a claim makes of an endpoint's ring.
pub claimed_some :
    (i : ℕ) (pending : List ℕ) (c : EndpointMap) (p : ℕ) (w : Bool) → p < 30 → eqb (get_or pending p 0) 0 ≡ not w →
    ((not (eqb (get_or c.rings p 0) 0) && not (is_owned (Interface i) c p)) || w)
    ≡ not (eqb (get_or (claimed_endpoints i pending c).rings p 0) 0)
unfolding claimed_ring
claimed_some i pending c p w h e =
    rw (claimed_ring_lem i pending c p h) (go w (is_owned (Interface i) c p) e)
  where
    go :
        (w o : Bool) → eqb (get_or pending p 0) 0 ≡ not w →
        ((not (eqb (get_or c.rings p 0) 0) && not o) || w)
        ≡ not (eqb (cond (eqb (get_or pending p 0) 0) (cond o 0 (get_or c.rings p 0)) (get_or pending p 0)) 0)
    go true o z = rw (z, z) (or-true (not (eqb (get_or c.rings p 0) 0) && not o))
    go false true z = rw z (or-false (not (eqb (get_or c.rings p 0) 0) && false) ∙ and-false (not (eqb (get_or c.rings p 0) 0)))
    go false false z = rw z (or-false (not (eqb (get_or c.rings p 0) 0) && true) ∙ and_one (not (eqb (get_or c.rings p 0) 0)))
