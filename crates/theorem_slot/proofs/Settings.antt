-- The plain slot's held settings: their queues, and the endpoints of a record that they fit.
use Rattle.record_settings.proofs.Laws.{eqb_turned}
use Prim.Native.Nat.{ℕ, ◌≤◌, ◌<◌}
use mathlib.Core.Path.{◌≡◌, refl, sym, ◌∙◌}
use native.Mathlib.Omega.{arith}
use mathlib.Core.Bool.{Bool, true, false, not, cond, ◌&&◌, ◌||◌, and-false, and-or_distrib_left}
use mathlib.Core.List.{List, [], ◌∷◌, ◌++◌, append_assoc, append-nil}
use mathlib.Core.Logic.{inl, inr, ⊎_elim}
use borrow.Author.Tests.{eqb-false}
use lib.Dec.{eqb}
use lib.ListN.{get_or}
use Rattle.laws.proofs.Tests.{not_both}
use Rattle.laws.proofs.Cases.{Decided, decided, false_if, or_none, or_cases}
use Rattle.transfer.specs.Routes.{ring_for, names}
use Rattle.record_endpoint.specs.Order.{dci_at}
use Rattle.record_endpoint.specs.EndpointMap.{is_owned, owns}
use Rattle.record_endpoint.specs.declared.endpoint_map.EndpointMap.{EndpointMap}
use Rattle.record_endpoint.specs.declared.endpoint_map.Owner.TheVariants.{Interface}
use Rattle.record_settings.specs.Held.{Held, is_held, alternate_of, without_setting}
use Rattle.theorem_routing.proofs.Laws.{names_append, ring_for_append, ring_for_start}
use Rattle.theorem_slot.specs.Plain.{HeldSetting, held_queues, without}

-- A setting's queues are those of its interface's endpoints.
pub record Fits (c : EndpointMap) (s : HeldSetting) : Type 0 where
  pub named : (p : ℕ) → p < 30 → names (dci_at p) s.queues ≡ is_owned (Interface s.interface) c p
  pub ring :
      (p : ℕ) → p < 30 → is_owned (Interface s.interface) c p ≡ true → ring_for (dci_at p) s.queues 0 ≡ get_or c.rings p 0
  pub inside : (d : ℕ) → names d s.queues ≡ true → (2 ≤ d) × (d < 32)
  pub byte : s.alternate < 256

unfoldable pub AllFit : EndpointMap → List HeldSetting → Type 0
AllFit c [] = Unit {0}
AllFit c (s ∷ ss) = Fits c s × AllFit c ss

-- It names no slot context.
fits_low : (c : EndpointMap) (s : HeldSetting) → Fits c s → names 0 s.queues ≡ false
fits_low c s f = false_if (names 0 s.queues) (λ e. omega (arith, (f.inside 0 e).0))

-- They name none.
pub held_low : (c : EndpointMap) (ss : List HeldSetting) → AllFit c ss → names 0 (held_queues ss) ≡ false
unfolding AllFit held_queues names
held_low c [] f = refl
held_low c (s ∷ ss) f = names_append 0 s.queues (held_queues ss) ∙ rw (fits_low c s f.0, held_low c ss f.1)

-- They name endpoints only.
pub held_inside : (c : EndpointMap) (ss : List HeldSetting) → AllFit c ss → (d : ℕ) → names d (held_queues ss) ≡ true → (2 ≤ d) × (d < 32)
unfolding AllFit held_queues names
held_inside c [] f d e = not_both false e refl
held_inside c (s ∷ ss) f d e =
    ⊎_elim (λ h. f.0.inside d h) (λ h. held_inside c ss f.1 d h)
    (or_cases (names d s.queues) (names d (held_queues ss)) (sym (names_append d s.queues (held_queues ss)) ∙ e))

-- An interface holds one.
unfoldable pub has_setting : ℕ → List HeldSetting → Bool
has_setting i [] = false
has_setting i (s ∷ ss) = eqb s.interface i || has_setting i ss

-- Endpoint p has a ring, and its owner holds one of the settings.
abbrev pub held_at : EndpointMap → ℕ → List HeldSetting → Bool
held_at c p ss = not (eqb (get_or c.rings p 0) 0) && has_setting (get_or c.owners p 0) ss

owned_turned :
    (c : EndpointMap) (i p : ℕ) → is_owned (Interface i) c p ≡ (not (eqb (get_or c.rings p 0) 0) && eqb i (get_or c.owners p 0))
unfolding is_owned owns
owned_turned c i p = rw (eqb_turned (get_or c.owners p 0) i)

-- The endpoints that the held settings name.
pub held_names :
    (c : EndpointMap) (ss : List HeldSetting) (p : ℕ) → AllFit c ss → p < 30 → names (dci_at p) (held_queues ss) ≡ held_at c p ss
unfolding AllFit held_queues has_setting names
held_names c [] p f h = sym (and-false (not (eqb (get_or c.rings p 0) 0)))
held_names c (s ∷ ss) p f h =
    names_append (dci_at p) s.queues (held_queues ss)
    ∙ rw (f.0.named p h, owned_turned c s.interface p, held_names c ss p f.1 h)
    (sym (and-or_distrib_left (not (eqb (get_or c.rings p 0) 0)) (eqb s.interface (get_or c.owners p 0)) (has_setting (get_or c.owners p 0) ss)))

-- One setting leaves its endpoints their rings.
one_ring :
    (c : EndpointMap) (s : HeldSetting) (p v : ℕ) → Fits c s → p < 30 →
    ring_for (dci_at p) s.queues v ≡ cond (is_owned (Interface s.interface) c p) (get_or c.rings p 0) v
one_ring c s p v f h =
    ring_for_start (dci_at p) s.queues v ∙ rw (f.named p h) (go (decided (is_owned (Interface s.interface) c p)))
  where
    go :
        Decided (is_owned (Interface s.interface) c p) →
        cond (is_owned (Interface s.interface) c p) (ring_for (dci_at p) s.queues 0) v
        ≡ cond (is_owned (Interface s.interface) c p) (get_or c.rings p 0) v
    go (inl o) = rw (o, f.ring p h o)
    go (inr o) = rw o

-- The rings that they leave.
pub held_ring :
    (c : EndpointMap) (ss : List HeldSetting) (p v : ℕ) → AllFit c ss → p < 30 →
    ring_for (dci_at p) (held_queues ss) v ≡ cond (held_at c p ss) (get_or c.rings p 0) v
unfolding AllFit held_queues has_setting ring_for
held_ring c [] p v f h = rw (and-false (not (eqb (get_or c.rings p 0) 0)))
held_ring c (s ∷ ss) p v f h =
    ring_for_append (dci_at p) s.queues (held_queues ss) v
    ∙ held_ring c ss p (ring_for (dci_at p) s.queues v) f.1 h
    ∙ rw (one_ring c s p v f.0 h, owned_turned c s.interface p)
    (go (not (eqb (get_or c.rings p 0) 0)) (eqb s.interface (get_or c.owners p 0)) (has_setting (get_or c.owners p 0) ss))
  where
    go :
        (a b k : Bool) →
        cond (a && k) (get_or c.rings p 0) (cond (a && b) (get_or c.rings p 0) v) ≡ cond (a && (b || k)) (get_or c.rings p 0) v
    go true true true = refl
    go true true false = refl
    go true false true = refl
    go true false false = refl
    go false b k = refl

held_append : (x y : List HeldSetting) → held_queues (x ++ y) ≡ held_queues x ++ held_queues y
unfolding held_queues
held_append [] y = refl
held_append (s ∷ x) y = rw (held_append x y, append_assoc)

-- Of an endpoint that the last setting names, its ring.
pub last_ring :
    (d : ℕ) (ss : List HeldSetting) (s : HeldSetting) → names d s.queues ≡ true →
    ring_for d (held_queues (ss ++ (s ∷ []))) 0 ≡ ring_for d s.queues 0
unfolding held_queues
last_ring d ss s n =
    rw (held_append ss (s ∷ []), append-nil, ring_for_append d (held_queues ss) s.queues 0)
    (ring_for_start d s.queues (ring_for d (held_queues ss) 0) ∙ rw n)

-- Interfaces with their alternates, as a record keeps them.
unfoldable pub pairs : List HeldSetting → List Held
pairs [] = []
pairs (s ∷ ss) = record { interface = s.interface; alternate = s.alternate } ∷ pairs ss

pub pairs_setting : (i : ℕ) (ss : List HeldSetting) → has_setting i ss ≡ is_held i (pairs ss)
unfolding pairs has_setting is_held
pairs_setting i [] = refl
pairs_setting i (s ∷ ss) = rw (pairs_setting i ss)

pub pairs_append : (x y : List HeldSetting) → pairs (x ++ y) ≡ pairs x ++ pairs y
unfolding pairs
pairs_append [] y = refl
pairs_append (s ∷ x) y = rw (pairs_append x y)

pub pairs_without : (i : ℕ) (ss : List HeldSetting) → pairs (without i ss) ≡ without_setting i (pairs ss)
unfolding pairs without without_setting
pairs_without i [] = refl
pairs_without i (s ∷ ss) = go (eqb s.interface i) (pairs_without i ss)
  where
    go :
        (t : Bool) → pairs (without i ss) ≡ without_setting i (pairs ss) →
        pairs (cond t (without i ss) (s ∷ without i ss))
        ≡ cond t (without_setting i (pairs ss))
        (record { interface = s.interface; alternate = s.alternate } ∷ without_setting i (pairs ss))
    go true e = e
    go false e = rw e

-- Settings that fit some endpoints fit others where each does.
pub fit_other :
    (c e : EndpointMap) (ss : List HeldSetting) → ((s : HeldSetting) → Fits c s → Fits e s) → AllFit c ss → AllFit e ss
unfolding AllFit
fit_other c e [] h f = tt
fit_other c e (s ∷ ss) h f = (h s f.0, fit_other c e ss h f.1)

pub fit_without :
    (c e : EndpointMap) (i : ℕ) (ss : List HeldSetting) →
    ((s : HeldSetting) → (i ≡ s.interface → ⊥) → Fits c s → Fits e s) → AllFit c ss → AllFit e (without i ss)
unfolding AllFit without
fit_without c e i [] h f = tt
fit_without c e i (s ∷ ss) h f = go (decided (eqb s.interface i)) (fit_without c e i ss h f.1)
  where
    go : Decided (eqb s.interface i) → AllFit e (without i ss) → AllFit e (cond (eqb s.interface i) (without i ss) (s ∷ without i ss))
    go (inl t) r = rw t r
    go (inr t) r = rw t (h s (λ q. eqb-false s.interface i t (sym q)) f.0, r)

pub fit_append : (c : EndpointMap) (x y : List HeldSetting) → AllFit c x → AllFit c y → AllFit c (x ++ y)
unfolding AllFit
fit_append c [] y f g = g
fit_append c (s ∷ x) y f g = (f.0, fit_append c x y f.1 g)

-- The alternate that an interface holds is a byte.
pub alternate_byte : (c : EndpointMap) (i : ℕ) (ss : List HeldSetting) → AllFit c ss → alternate_of i (pairs ss) < 256
unfolding AllFit pairs alternate_of
alternate_byte c i [] f = omega arith
alternate_byte c i (s ∷ ss) f = go (eqb s.interface i) f.0.byte (alternate_byte c i ss f.1)
  where
    go : (t : Bool) → s.alternate < 256 → alternate_of i (pairs ss) < 256 → cond t s.alternate (alternate_of i (pairs ss)) < 256
    go true a b = a
    go false a b = b

-- An interface without a setting loses none.
pub without_none : (i : ℕ) (ss : List HeldSetting) → has_setting i ss ≡ false → without i ss ≡ ss
unfolding without has_setting
without_none i [] e = refl
without_none i (s ∷ ss) e =
    let n : (eqb s.interface i ≡ false) × (has_setting i ss ≡ false) = or_none (eqb s.interface i) (has_setting i ss) e in
    rw (n.0, without_none i ss n.1)
