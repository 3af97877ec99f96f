-- A record's rings beside the plain slot's groups.
use Prim.Native.Nat.{ℕ}
use mathlib.Core.Path.{◌≡◌, refl, sym, ◌∙◌, ap}
use mathlib.Core.Bool.{Bool, true, false, not, ◌&&◌, ◌||◌, or_assoc, or-false}
use mathlib.Core.List.{List, [], ◌∷◌, ◌++◌}
use mathlib.Core.Logic.{inl, inr}
use borrow.Author.Tests.{eqb-true, eqb-false}
use lib.Dec.{eqb}
use lib.ListN.{length, take}
use Rattle.laws.specs.Distinct.{elem}
use Rattle.laws.proofs.Cases.{Decided, decided, false_if, or_left}
use Rattle.laws.proofs.Distinct.{elem_append}
use Rattle.record_ring.specs.Rings.{ring_ok}
use Rattle.record_ring.specs.Store.{lowest, free_rings}
use Rattle.record_ring.proofs.Laws.{ring_nonzero}
use Rattle.record_ring.proofs.Sorted.{elem_not_among}
use Rattle.record_endpoint.specs.declared.entry.Endpoint.{Endpoint}
use Rattle.record_endpoint.specs.Endpoint.{rings_of}
use Rattle.record_endpoint.specs.EndpointMap.{endpoint_map_of}
use Rattle.record_settings.specs.Held.{setting_words}
use Rattle.record_checks.proofs.Laws.{live_placed}
use Rattle.record_checks.proofs.Together.{rings_ok_elem}
use Rattle.device.specs.declared.record.Device.{Device}
use Rattle.device.specs.Device.{list_of, endpoint_map_in, quarantined_of, given_of, free_of}
use Rattle.device.specs.Sound.{live_rings, sound}
use Rattle.device.specs.Claim.{drawn}
use Rattle.device.proofs.Facts.{sound_facts}
use Rattle.theorem_slot.specs.Groups.{Groups, drawn_from, Parted}
use Rattle.theorem_slot.specs.Rings.{OfRecord}
use Rattle.theorem_slot.proofs.Bools.{law}
use Rattle.theorem_slot.proofs.Kept.{has}
use Rattle.theorem_slot.proofs.Agree.{Agree}
use Rattle.theorem_slot.proofs.Parted.{given_distinct, parted_agree, chosen_among}

-- Control or an endpoint uses a ring; one is in quarantine.
unfoldable pub used_by : Device → ℕ → Bool
used_by d x = has (endpoint_map_in d).rings x || eqb x d.control

unfoldable pub in_doubt : Device → ℕ → Bool
in_doubt d x = elem x (quarantined_of d)

pub used_same : (d e : Device) → (endpoint_map_in e).rings ≡ (endpoint_map_in d).rings → e.control ≡ d.control → (x : ℕ) → used_by e x ≡ used_by d x
unfolding used_by
used_same d e r c x = rw (r, c) refl

pub doubt_same : (d e : Device) → quarantined_of e ≡ quarantined_of d → (x : ℕ) → in_doubt e x ≡ in_doubt d x
unfolding in_doubt
doubt_same d e q x = rw q refl

-- The groups are the record's.
abbrev pub AgreeWith : Device → Groups → Type 0
AgreeWith d g = Agree (given_of d) (used_by d) (in_doubt d) g

module _ (d : Device) (s : sound d ≡ true) where
  abbrev n : ℕ
  n = d.ep_count

  abbrev eps : List Endpoint
  eps = d.eps

  abbrev live : List ℕ
  live = rings_of (take d.ep_count d.eps)

  -- The rings by place are the arrays'.
  pub has_live : (x : ℕ) → has (endpoint_map_in d).rings x ≡ elem x live
  unfolding has endpoint_map_in live_rings
  has_live x = go (decided (eqb x 0))
    where
      ring_ok_live : elem x live ≡ true → ring_ok x ≡ true
      ring_ok_live e =
          rings_ok_elem (live ++ (d.control ∷ [])) (sound_facts d s).rings.live_ok x
          (elem_append x live (d.control ∷ []) ∙ or_left (elem x live) (elem x (d.control ∷ [])) e)

      go : Decided (eqb x 0) → (not (eqb x 0) && elem x (endpoint_map_of n eps d.ep_interfaces).rings) ≡ elem x live
      go (inl e) =
          let none : elem x live ≡ false = false_if (elem x live) (λ h. ring_nonzero x (ring_ok_live h) (eqb-true x 0 e)) in
          rw (e, none)
      go (inr e) = let f = sound_facts d s in
          rw e (live_placed n eps d.ep_interfaces d.control f.rings.live_ok f.addresses_fit_lem x (eqb-false x 0 e))

  pub used_live : (x : ℕ) → used_by d x ≡ elem x (live_rings d)
  unfolding used_by live_rings elem
  used_live x = rw (has_live x, elem_append x live (d.control ∷ [])) (ap (λ b. elem x live || b) (sym (or-false (eqb x d.control))))

  pub used_given : (x : ℕ) → used_by d x ≡ true → elem x (given_of d) ≡ true
  used_given x e = (sound_facts d s).store.live_given x (sym (used_live x) ∙ e)

  module _ (g : Groups) (a : AgreeWith d g) where
    pub parted_record : Parted g
    unfolding in_doubt
    parted_record =
        let f = (sound_facts d s).store in
        parted_agree (given_of d) (used_by d) (in_doubt d) g a (given_distinct (given_of d) f.fit) used_given f.kept_given

    used_elsewhere : (x : ℕ) → elem x (live ++ (d.control ∷ quarantined_of d)) ≡ (used_by d x || in_doubt d x)
    unfolding used_by in_doubt elem
    used_elsewhere x = elem_append x live (d.control ∷ quarantined_of d) ∙ rw (← has_live x) (sym (or_assoc (has (endpoint_map_in d).rings x) (eqb x d.control) (elem x (quarantined_of d))))

    free_here : (x : ℕ) → elem x (given_of d) ≡ true → g.free x ≡ not (elem x (live ++ (d.control ∷ quarantined_of d)))
    free_here x e =
        a.free x
        ∙ rw (e, used_elsewhere x)
        (law (λ a b c d e. true) (λ a b c d e. not a && not b) (λ a b c d e. not (a || b)) refl (used_by d x) (in_doubt d x) false false false refl)

    -- A claim of either draws the same rings.
    pub draws_same : (i w : ℕ) → drawn_from g (length (setting_words (list_of d) i w)) ≡ drawn d i w
    unfolding drawn_from drawn free_of free_rings
    draws_same i w =
        rw a.given
        (ap (lowest (length (setting_words (list_of d) i w)))
        (chosen_among g.free (live ++ (d.control ∷ quarantined_of d)) (given_of d) free_here))

    pub of_record : OfRecord d g
    unfolding free_of free_rings in_doubt
    of_record =
        record {
          given = a.given;
          free = λ x.
              a.free x
              ∙ sym (elem_not_among x (live ++ (d.control ∷ quarantined_of d)) (given_of d)
              ∙ rw (used_elsewhere x)
              (law (λ a b c d e. true) (λ a b c d e. a && not (b || c)) (λ a b c d e. a && (not b && not c)) refl (elem x (given_of d)) (used_by d x) (in_doubt d x) false false refl));
          live = λ x. a.live x ∙ rw (used_live x) refl;
          quarantined = a.quarantined;
        }
