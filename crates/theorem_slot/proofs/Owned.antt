-- The queues of the plain slot's settings, by place.
use Prim.Native.Nat.{ℕ, ◌≤◌, ◌<◌}
use mathlib.Core.Path.{◌≡◌, refl, sym, ◌∙◌, ap}
use mathlib.Core.Bool.{true, false, not, cond, not-not}
use mathlib.Core.List.{List, [], ◌∷◌}
use mathlib.Core.Logic.{◌⊎◌, inl, inr}
use borrow.Author.Tests.{eqb-true}
use lib.Dec.{eqb}
use lib.ListN.{get_or}
use Rattle.laws.proofs.Tests.{not_both}
use Rattle.laws.proofs.Cases.{Decided, decided}
use Rattle.descriptor_list.specs.Valid.{valid_list}
use Rattle.context.specs.Steps.{word_dcis}
use Rattle.transfer.specs.Routes.{Queue, queues, ring_for, names}
use Rattle.transfer.proofs.Laws.{ring_for_none}
use Rattle.record_endpoint.specs.Order.{dci_at}
use Rattle.record_endpoint.specs.EndpointMap.{is_owned, owned_rings, pending_rings}
use Rattle.record_endpoint.specs.declared.endpoint_map.EndpointMap.{EndpointMap}
use Rattle.record_endpoint.specs.declared.endpoint_map.Owner.TheVariants.{Interface}
use Rattle.record_endpoint.proofs.Laws.{owned_at, pending_length}
use Rattle.record_settings.specs.Held.{setting_words}
use Rattle.record_settings.specs.Match.{has_place}
use Rattle.record_settings.proofs.Laws.{setting_place}
use Rattle.theorem_routing.proofs.Laws.{words_dci, words_name, words_ring}
use Rattle.theorem_slot.specs.Plain.{HeldSetting, queues_of_one}
use Rattle.theorem_slot.proofs.Kept.{ByPlace, owned_long}
use Rattle.theorem_slot.proofs.Settings.{Fits, AllFit, has_setting}
use Rattle.theorem_slot.proofs.Claimed.{owned_ring, words_inside}

-- The setting of an interface, if it has one.
record One (c : EndpointMap) (i : ℕ) (ss : List HeldSetting) : Type 0 where
  setting : HeldSetting
  queues : queues_of_one i ss ≡ setting.queues
  interface : setting.interface ≡ i
  fits : Fits c setting

one_of :
    (c : EndpointMap) (i : ℕ) (ss : List HeldSetting) → AllFit c ss →
    One c i ss ⊎ ((has_setting i ss ≡ false) × (queues_of_one i ss ≡ []))
unfolding AllFit has_setting queues_of_one
one_of c i [] f = inr (refl, refl)
one_of c i (s ∷ ss) f = go (decided (eqb s.interface i)) (one_of c i ss f.1)
  where
    go :
        Decided (eqb s.interface i) → One c i ss ⊎ ((has_setting i ss ≡ false) × (queues_of_one i ss ≡ [])) →
        One c i (s ∷ ss) ⊎ ((has_setting i (s ∷ ss) ≡ false) × (queues_of_one i (s ∷ ss) ≡ []))
    go (inl e) r = inl (record { setting = s; queues = rw e; interface = eqb-true s.interface i e; fits = f.0 })
    go (inr e) (inl r) =
        inl (record { setting = r.setting; queues = rw e r.queues; interface = r.interface; fits = r.fits })
    go (inr e) (inr r) = inr (rw e r.0, rw e r.1)

-- Its queues are those of its endpoints.
module _ (c : EndpointMap) (i : ℕ) where
  nonzero : (p : ℕ) → p < 30 → not (eqb (get_or (owned_rings (Interface i) c) p 0) 0) ≡ is_owned (Interface i) c p
  nonzero p h = rw (owned_at (Interface i) c p h) (go (decided (is_owned (Interface i) c p)))
    where
      go :
          Decided (is_owned (Interface i) c p) →
          not (eqb (cond (is_owned (Interface i) c p) (get_or c.rings p 0) 0) 0) ≡ is_owned (Interface i) c p
      go (inl o) = rw (o, owned_ring i c p o)
      go (inr o) = rw o

  by_place :
      (qs : List Queue) → ((p : ℕ) → p < 30 → names (dci_at p) qs ≡ is_owned (Interface i) c p) →
      ((p : ℕ) → p < 30 → is_owned (Interface i) c p ≡ true → ring_for (dci_at p) qs 0 ≡ get_or c.rings p 0) →
      ((d : ℕ) → names d qs ≡ true → (2 ≤ d) × (d < 32)) → ByPlace qs (owned_rings (Interface i) c)
  by_place qs named ring inside =
      record {
        long = owned_long (Interface i) c;
        named = λ p h. named p h ∙ sym (nonzero p h);
        ring = λ p h. rw (owned_at (Interface i) c p h) (go p h (decided (is_owned (Interface i) c p)));
        inside = inside;
      }
    where
      go :
          (p : ℕ) → p < 30 → Decided (is_owned (Interface i) c p) →
          ring_for (dci_at p) qs 0 ≡ cond (is_owned (Interface i) c p) (get_or c.rings p 0) 0
      go p h (inl o) = rw o (ring p h o)
      go p h (inr o) = rw o (ring_for_none (dci_at p) qs 0 (named p h ∙ o))

  pub one_by_place :
      (ss : List HeldSetting) → AllFit c ss → ((p : ℕ) → p < 30 → has_setting i ss ≡ false → is_owned (Interface i) c p ≡ false) →
      ByPlace (queues_of_one i ss) (owned_rings (Interface i) c)
  unfolding names
  one_by_place ss f none = go (one_of c i ss f)
    where
      go : One c i ss ⊎ ((has_setting i ss ≡ false) × (queues_of_one i ss ≡ [])) → ByPlace (queues_of_one i ss) (owned_rings (Interface i) c)
      go (inl r) =
          rw r.queues
          (by_place r.setting.queues (λ p h. r.fits.named p h ∙ ap (λ j. is_owned (Interface j) c p) r.interface)
          (λ p h o. r.fits.ring p h (ap (λ j. is_owned (Interface j) c p) r.interface ∙ o)) r.fits.inside)
      go (inr r) =
          rw r.1
          (by_place [] (λ p h. sym (none p h r.0)) (λ p h o. not_both (is_owned (Interface i) c p) o (none p h r.0))
          (λ d e. not_both false e refl))

-- The queues of rings drawn for words.
pub pending_by_place :
    (list : List ℕ) → valid_list list ≡ true → (i a : ℕ) (rings : List ℕ) →
    ((p : ℕ) → p < 30 → eqb (get_or (pending_rings (setting_words list i a) rings) p 0) 0 ≡ not (has_place p (setting_words list i a))) →
    ByPlace (queues (word_dcis (setting_words list i a)) rings) (pending_rings (setting_words list i a) rings)
pending_by_place list valid i a rings places =
    let words = setting_words list i a in
    record {
      long = pending_length words rings;
      named = λ p h. words_name words rings p h ∙ sym (ap not (places p h) ∙ not-not (has_place p words));
      ring = λ p h. words_ring words rings p h;
      inside = λ d e. words_inside words (setting_place list valid i a) d (sym (words_dci d words rings) ∙ e);
    }
