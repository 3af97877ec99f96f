-- What callers use of held settings, and of endpoints that match them.
use Prim.Native.Nat.{ℕ, zero, suc, ◌+◌, ◌-◌, ◌≤◌, ◌<◌}
use mathlib.Core.Path.{◌≡◌, refl, sym, ap, ◌∙◌}
use mathlib.Core.Logic.{◌⊎◌, inl, inr}
use mathlib.Core.Bool.{Bool, true, false, not, cond, ◌&&◌, ◌||◌, or-false, and_assoc, and-false, and-not_self, and-true as and_one}
use mathlib.Core.List.{List, [], ◌∷◌, ◌++◌}
use native.Mathlib.Decide.{dec_lt}
use native.Mathlib.Omega.{arith}
use borrow.Author.Tests.{eq-eqb, ne_eqb, eqb-true, eqb-false, not-true, not-false}
use lib.Dec.{eqb}
use lib.ListN.{length, get_or, drop, replicate, length-append, length-take}
use lib.Seq.{get_or-take, get_or-drop}
use Rattle.std.proofs.Common.{Option, Some, None}
use Rattle.laws.proofs.Tests.{and_left, and_right, and-true, not_both}
use Rattle.laws.proofs.Cases.{Decided, decided, false_if, or_left, or_right, or_cases, or_none}
use Rattle.laws.specs.Distinct.{elem, distinct}
use Rattle.laws.proofs.Distinct.{without, elem_cases, elem_append, elem_without, distinct_cons, distinct_append, without_gone, distinct_without, length_without_le, length_without_one, distinct_first, distinct_rest, elem_none}
use Rattle.descriptor.specs.Endpoint.{dci_of}
use Rattle.descriptor.specs.Word.{ENDPOINT, kind, word_ok, endpoint_descriptor}
use Rattle.descriptor_list.specs.Lookup.{find_endpoints}
use Rattle.descriptor_list.specs.Valid.{has_interface, valid_list}
use Rattle.descriptor_list.specs.declared.EndpointWords.{EndpointWords}
use Rattle.descriptor_list.proofs.Laws.{found_interface, found_endpoints, valid_count, valid_found, valid_held}
use Rattle.record_endpoint.specs.Order.{dci_at, place_of}
use Rattle.record_endpoint.specs.Endpoint.{padded}
use Rattle.record_endpoint.specs.EndpointMap.{no_endpoints, is_owned, owns, pending_rings, claimed_ring, claimed_owner, claimed_endpoints, with_active}
use Rattle.record_endpoint.specs.declared.endpoint_map.EndpointMap.{EndpointMap}
use Rattle.record_endpoint.specs.declared.endpoint_map.Owner.{Owner}
use Rattle.record_endpoint.specs.declared.endpoint_map.Owner.TheVariants.{Interface}
use Rattle.record_endpoint.proofs.Laws.{word_place, word_dcis, word_at, pending_some, claimed_ring_lem, claimed_owner_lem}
use Rattle.record_settings.specs.Match.{has_place, agree, each_from, each_place, owns_places, all_own, owners_held, endpoints_match, address_free, addresses_free}
use Rattle.record_settings.specs.declared.held.Settings.{Settings}
use Rattle.record_settings.specs.Held.{Held, held_in, interfaces_of, alternates_of, is_held, alternate_of, held_alternate, without_setting, with_setting, found_words, setting_words, is_found, each_setting, all_found, settings_sound, SettingsAs}

-- A test of equality turned around.
pub eqb_turned : (a b : ℕ) → eqb a b ≡ eqb b a
eqb_turned a b = go (decided (eqb b a))
  where
    go : Decided (eqb b a) → eqb a b ≡ eqb b a
    go (inl p) = rw p (eq-eqb a b (sym (eqb-true b a p)))
    go (inr p) = rw p (ne_eqb a b (λ e. eqb-false b a p (sym e)))

-- Held settings.

-- An interface is held exactly if it is among the interfaces.
pub held_elem : (i : ℕ) (hs : List Held) → is_held i hs ≡ elem i (interfaces_of hs)
unfolding is_held interfaces_of elem
held_elem i [] = refl
held_elem i (h ∷ hs) = rw (eqb_turned h.interface i, held_elem i hs)

-- A setting has one interface.
pub interfaces_length : (hs : List Held) → length (interfaces_of hs) ≡ length hs
unfolding interfaces_of
interfaces_length [] = refl
interfaces_length (h ∷ hs) = ap suc (interfaces_length hs)

-- And one alternate.
pub alternates_length : (hs : List Held) → length (alternates_of hs) ≡ length hs
unfolding alternates_of
alternates_length [] = refl
alternates_length (h ∷ hs) = ap suc (alternates_length hs)

-- The settings of the first n places of arrays are n.
pub held_length : (n : ℕ) (interfaces alternates : List ℕ) → length (held_in n interfaces alternates) ≡ n
unfolding held_in
held_length zero is alts = refl
held_length (suc n) is alts = ap suc (held_length n (drop 1 is) (drop 1 alts))

-- The interfaces do not depend on the alternates.
pub interfaces_any : (n : ℕ) (is alts bs : List ℕ) → interfaces_of (held_in n is alts) ≡ interfaces_of (held_in n is bs)
unfolding held_in interfaces_of
interfaces_any zero is alts bs = refl
interfaces_any (suc n) is alts bs = rw (interfaces_any n (drop 1 is) (drop 1 alts) (drop 1 bs))

held_back : (hs : List Held) (is alts : List ℕ) → held_in (length hs) (interfaces_of hs ++ is) (alternates_of hs ++ alts) ≡ hs
unfolding held_in interfaces_of alternates_of
held_back [] is alts = refl
held_back (h ∷ hs) is alts = rw (held_back hs is alts)

-- Settings written to arrays are read back.
pub held_padded : (hs : List Held) → held_in (length hs) (padded 32 0 (interfaces_of hs)) (padded 32 0 (alternates_of hs)) ≡ hs
unfolding padded
held_padded hs = held_back hs (replicate (32 - length (interfaces_of hs)) 0) (replicate (32 - length (alternates_of hs)) 0)

-- So are those that a call returns.
pub held_as : (s : Settings) (hs : List Held) → SettingsAs s hs → held_in s.count s.interfaces s.alternates ≡ hs
held_as s hs a = rw (a.count, a.interfaces, a.alternates) (held_padded hs)

-- Two lists of settings put together.
pub interfaces_append : (hs gs : List Held) → interfaces_of (hs ++ gs) ≡ interfaces_of hs ++ interfaces_of gs
unfolding interfaces_of
interfaces_append [] gs = refl
interfaces_append (h ∷ hs) gs = rw (interfaces_append hs gs)

pub alternates_append : (hs gs : List Held) → alternates_of (hs ++ gs) ≡ alternates_of hs ++ alternates_of gs
unfolding alternates_of
alternates_append [] gs = refl
alternates_append (h ∷ hs) gs = rw (alternates_append hs gs)

held_append : (j : ℕ) (hs gs : List Held) → is_held j (hs ++ gs) ≡ is_held j hs || is_held j gs
held_append j hs gs =
    held_elem j (hs ++ gs)
    ∙ rw (interfaces_append hs gs, elem_append j (interfaces_of hs) (interfaces_of gs), held_elem j hs, held_elem j gs)

alternate_append :
    (j : ℕ) (hs gs : List Held) → alternate_of j (hs ++ gs) ≡ cond (is_held j hs) (alternate_of j hs) (alternate_of j gs)
unfolding alternate_of is_held
alternate_append j [] gs = refl
alternate_append j (h ∷ hs) gs = rw (alternate_append j hs gs) (go (eqb h.interface j))
  where
    go :
        (t : Bool) →
        cond t h.alternate (cond (is_held j hs) (alternate_of j hs) (alternate_of j gs))
        ≡ cond (t || is_held j hs) (cond t h.alternate (alternate_of j hs)) (alternate_of j gs)
    go true = refl
    go false = refl

-- An interface that is not held has alternate 0.
pub alternate_none : (j : ℕ) (hs : List Held) → is_held j hs ≡ false → alternate_of j hs ≡ 0
unfolding alternate_of is_held
alternate_none j [] e = refl
alternate_none j (h ∷ hs) e =
    let t = or_none (eqb h.interface j) (is_held j hs) e in rw t.0 (alternate_none j hs t.1)

-- The alternate that an interface holds, where it holds one.
pub held_alternate_is : (j : ℕ) (hs : List Held) → held_alternate j hs ≡ cond (is_held j hs) (Some (alternate_of j hs)) None
unfolding held_alternate alternate_of is_held
held_alternate_is j [] = refl
held_alternate_is j (h ∷ hs) = rw (held_alternate_is j hs) (go (eqb h.interface j) (is_held j hs))
  where
    go :
        (t u : Bool) →
        cond t (Some h.alternate) (cond u (Some (alternate_of j hs)) None)
        ≡ cond {A = Option ℕ} (t || u) (Some (cond t h.alternate (alternate_of j hs))) None
    go true u = refl
    go false u = refl

-- Without an interface's setting.
module _ (i : ℕ) where
  -- The others' interfaces are left.
  pub interfaces_without : (hs : List Held) → interfaces_of (without_setting i hs) ≡ without i (interfaces_of hs)
  unfolding interfaces_of without_setting without
  interfaces_without [] = refl
  interfaces_without (h ∷ hs) = rw (eqb_turned h.interface i) (go (eqb i h.interface) (interfaces_without hs))
    where
      go :
          (t : Bool) → interfaces_of (without_setting i hs) ≡ without i (interfaces_of hs) →
          interfaces_of (cond t (without_setting i hs) (h ∷ without_setting i hs))
          ≡ cond t (without i (interfaces_of hs)) (h.interface ∷ without i (interfaces_of hs))
      go true e = e
      go false e = rw e

  -- It is not held.
  pub held_without : (hs : List Held) → is_held i (without_setting i hs) ≡ false
  held_without hs = held_elem i (without_setting i hs) ∙ rw (interfaces_without hs) (without_gone i (interfaces_of hs))

  -- Another is as before.
  pub held_without_other : (j : ℕ) (hs : List Held) → (i ≡ j → ⊥) → is_held j (without_setting i hs) ≡ is_held j hs
  held_without_other j hs n =
      held_elem j (without_setting i hs) ∙ rw (interfaces_without hs, held_elem j hs) (elem_without i j (interfaces_of hs) n)

  pub alternate_without : (hs : List Held) → alternate_of i (without_setting i hs) ≡ 0
  alternate_without hs = alternate_none i (without_setting i hs) (held_without hs)

  pub alternate_without_other :
      (j : ℕ) (hs : List Held) → (i ≡ j → ⊥) → alternate_of j (without_setting i hs) ≡ alternate_of j hs
  unfolding alternate_of without_setting
  alternate_without_other j [] n = refl
  alternate_without_other j (h ∷ hs) n = go (decided (eqb h.interface i)) (alternate_without_other j hs n)
    where
      go :
          Decided (eqb h.interface i) → alternate_of j (without_setting i hs) ≡ alternate_of j hs →
          alternate_of j (cond (eqb h.interface i) (without_setting i hs) (h ∷ without_setting i hs))
          ≡ cond (eqb h.interface j) h.alternate (alternate_of j hs)
      go (inl p) e =
          rw (p, ne_eqb h.interface j (λ q. n (sym (eqb-true h.interface i p) ∙ q))) e
      go (inr p) e = rw (p, e)

  -- Settings that do not have it stay as they are.
  pub without_unheld : (hs : List Held) → is_held i hs ≡ false → without_setting i hs ≡ hs
  unfolding is_held without_setting
  without_unheld [] e = refl
  without_unheld (h ∷ hs) e =
      let t = or_none (eqb h.interface i) (is_held i hs) e in rw (t.0, without_unheld hs t.1)

  -- Distinct interfaces stay distinct.
  pub distinct_without_setting :
      (hs : List Held) → distinct (interfaces_of hs) ≡ true → distinct (interfaces_of (without_setting i hs)) ≡ true
  distinct_without_setting hs d = rw (interfaces_without hs) (distinct_without i (interfaces_of hs) d)

  -- There are no more of them.
  pub without_length : (hs : List Held) → length (without_setting i hs) ≤ length hs
  without_length hs =
      rw (← interfaces_length (without_setting i hs), ← interfaces_length hs, interfaces_without hs)
      (length_without_le i (interfaces_of hs))

distinct_nil : distinct [] ≡ true
unfolding distinct
distinct_nil = refl

-- With an interface's setting.
module _ (i a : ℕ) where
  pub interfaces_with : (hs : List Held) → interfaces_of (with_setting i a hs) ≡ without i (interfaces_of hs) ++ (i ∷ [])
  unfolding with_setting interfaces_of
  interfaces_with hs = interfaces_append (without_setting i hs) _ ∙ rw (interfaces_without i hs)

  -- It is held.
  pub held_with : (hs : List Held) → is_held i (with_setting i a hs) ≡ true
  unfolding with_setting is_held
  held_with hs = held_append i (without_setting i hs) _ ∙ rw (held_without i hs, eq-eqb i i refl)

  -- Another is as before.
  pub held_with_other : (j : ℕ) (hs : List Held) → (i ≡ j → ⊥) → is_held j (with_setting i a hs) ≡ is_held j hs
  unfolding with_setting is_held
  held_with_other j hs n =
      held_append j (without_setting i hs) _ ∙ rw (held_without_other i j hs n, ne_eqb i j n) (or-false (is_held j hs))

  -- It has the alternate.
  pub alternate_with : (hs : List Held) → alternate_of i (with_setting i a hs) ≡ a
  unfolding with_setting alternate_of
  alternate_with hs = alternate_append i (without_setting i hs) _ ∙ rw (held_without i hs, eq-eqb i i refl)

  pub alternate_with_other :
      (j : ℕ) (hs : List Held) → (i ≡ j → ⊥) → alternate_of j (with_setting i a hs) ≡ alternate_of j hs
  unfolding with_setting alternate_of
  alternate_with_other j hs n =
      alternate_append j (without_setting i hs) _
      ∙ rw (held_without_other i j hs n, alternate_without_other i j hs n, ne_eqb i j n) (go (decided (is_held j hs)))
    where
      go : Decided (is_held j hs) → cond (is_held j hs) (alternate_of j hs) 0 ≡ alternate_of j hs
      go (inl p) = rw p
      go (inr p) = rw p (sym (alternate_none j hs p))

  -- Distinct interfaces stay distinct.
  pub distinct_with_setting :
      (hs : List Held) → distinct (interfaces_of hs) ≡ true → distinct (interfaces_of (with_setting i a hs)) ≡ true
  distinct_with_setting hs d =
      rw (interfaces_with hs)
      (distinct_append (without i (interfaces_of hs)) (i ∷ []) (distinct_without i (interfaces_of hs) d) one apart)
    where
      one : distinct (i ∷ []) ≡ true
      one = distinct_cons i [] (false_if (elem i []) (λ e. elem_none i e)) (distinct_nil)

      apart : (x : ℕ) → elem x (without i (interfaces_of hs)) ≡ true → elem x (i ∷ []) ≡ false
      apart x p =
          false_if (elem x (i ∷ [])) (λ q. go (elem_cases x i [] q))
        where
          go : (x ≡ i) ⊎ (elem x [] ≡ true) → ⊥
          go (inl s) = not_both (elem i (without i (interfaces_of hs))) (rw s at p) (without_gone i (interfaces_of hs))
          go (inr e) = elem_none x e

  -- A setting more than without the interface's.
  pub with_length : (hs : List Held) → length (with_setting i a hs) ≡ length (without_setting i hs) + 1
  unfolding with_setting
  with_length hs = length-append (without_setting i hs) _

  -- As many as before if the interface was held.
  pub with_held_length :
      (hs : List Held) → distinct (interfaces_of hs) ≡ true → is_held i hs ≡ true → length (with_setting i a hs) ≡ length hs
  with_held_length hs d e =
      let h : elem i (interfaces_of hs) ≡ true = sym (held_elem i hs) ∙ e in
      let n = length_without_one i (interfaces_of hs) d h in
      let w : length (without_setting i hs) ≡ length (without i (interfaces_of hs)) =
      sym (interfaces_length (without_setting i hs)) ∙ ap length (interfaces_without i hs)
      in
      omega (arith, with_length hs, n, w, interfaces_length hs)

-- Tests of every setting.
module _ (test : ℕ → ℕ → Bool) where
  pub passed_append : (hs gs : List Held) → each_setting test (hs ++ gs) ≡ each_setting test hs && each_setting test gs
  unfolding each_setting
  passed_append [] gs = refl
  passed_append (h ∷ hs) gs =
      rw (passed_append hs gs) (sym (and_assoc (test h.interface h.alternate) (each_setting test hs) (each_setting test gs)))

  -- Without an interface's setting they still pass.
  pub passed_without :
      (i : ℕ) (hs : List Held) → each_setting test hs ≡ true → each_setting test (without_setting i hs) ≡ true
  unfolding each_setting without_setting
  passed_without i [] e = refl
  passed_without i (h ∷ hs) e =
      go (eqb h.interface i) (and_left first (each_setting test hs) e) (passed_without i hs (and_right first (each_setting test hs) e))
    where
      first : Bool
      first = test h.interface h.alternate

      go :
          (t : Bool) → first ≡ true → each_setting test (without_setting i hs) ≡ true →
          each_setting test (cond t (without_setting i hs) (h ∷ without_setting i hs)) ≡ true
      go true q f = f
      go false q f = and-true first (each_setting test (without_setting i hs)) q f

  -- And with one that passes.
  pub passed_with :
      (i a : ℕ) (hs : List Held) → test i a ≡ true → each_setting test hs ≡ true → each_setting test (with_setting i a hs) ≡ true
  unfolding with_setting each_setting
  passed_with i a hs f e = passed_append (without_setting i hs) _ ∙ rw (passed_without i hs e, f)

  -- The alternate of a held interface passes.
  pub passed_at :
      (hs : List Held) → each_setting test hs ≡ true → (i : ℕ) → is_held i hs ≡ true → test i (alternate_of i hs) ≡ true
  unfolding each_setting is_held alternate_of
  passed_at [] e i h = not_both false h refl
  passed_at (g ∷ hs) e i h =
      go (decided (eqb g.interface i)) (and_left first (each_setting test hs) e) (passed_at hs (and_right first (each_setting test hs) e) i)
    where
      first : Bool
      first = test g.interface g.alternate

      go :
          Decided (eqb g.interface i) → first ≡ true → (is_held i hs ≡ true → test i (alternate_of i hs) ≡ true) →
          test i (cond (eqb g.interface i) g.alternate (alternate_of i hs)) ≡ true
      go (inl p) q f = let s : g.interface ≡ i = eqb-true g.interface i p in rw (p, ← s) q
      go (inr p) q f = rw p (f (rw p at h))

  -- With distinct interfaces: if each held one's alternate passes, all settings do.
  pub passed_if :
      (hs : List Held) → distinct (interfaces_of hs) ≡ true →
      ((i : ℕ) → is_held i hs ≡ true → test i (alternate_of i hs) ≡ true) → each_setting test hs ≡ true
  unfolding each_setting is_held alternate_of interfaces_of
  passed_if [] d f = refl
  passed_if (g ∷ hs) d f =
      let here : eqb g.interface g.interface ≡ true = eq-eqb g.interface g.interface refl in
      and-true (test g.interface g.alternate) (each_setting test hs) (rw here at (f g.interface (rw here)))
      (passed_if hs (distinct_rest g.interface (interfaces_of hs) d) rest)
    where
      apart : (i : ℕ) → is_held i hs ≡ true → eqb g.interface i ≡ false
      apart i h =
          ne_eqb g.interface i
          (λ s. not_both (is_held i hs) h (rw (← s) (held_elem g.interface hs ∙ distinct_first g.interface (interfaces_of hs) d)))

      rest : (i : ℕ) → is_held i hs ≡ true → test i (alternate_of i hs) ≡ true
      rest i h = rw (apart i h) at (f i (rw (apart i h) h))

-- Tests of every place.

each_from_lem : (t u : ℕ → Bool) (k a : ℕ) → ((p : ℕ) → a ≤ p → p < a + k → t p ≡ u p) → each_from t k a ≡ each_from u k a
unfolding each_from
each_from_lem t u zero a h = refl
each_from_lem t u (suc k) a h =
    rw (h a (omega arith) (omega arith), each_from_lem t u k (a + 1) (λ p l g. h p (omega arith) (omega arith)))

-- Tests that agree at every place.
pub each_same : (t u : ℕ → Bool) → ((p : ℕ) → p < 30 → t p ≡ u p) → each_place t ≡ each_place u
unfolding each_place
each_same t u h = each_from_lem t u 30 0 (λ p l g. h p g)

at_from : (t : ℕ → Bool) (k a : ℕ) → each_from t k a ≡ true → (p : ℕ) → a ≤ p → p < a + k → t p ≡ true
unfolding each_from
at_from t zero a e p l g = absurd (omega arith)
at_from t (suc k) a e p l g =
    go (dec_lt a p) (and_left (t a) (each_from t k (a + 1)) e) (at_from t k (a + 1) (and_right (t a) (each_from t k (a + 1)) e) p)
  where
    go : Dec (a < p) → t a ≡ true → (a + 1 ≤ p → p < a + 1 + k → t p ≡ true) → t p ≡ true
    go (yes d) q f = f (omega arith) (omega arith)
    go (no d) q f = let s : p ≡ a = omega arith in rw s q

-- What every place passes, a place passes.
pub each_at : (t : ℕ → Bool) → each_place t ≡ true → (p : ℕ) → p < 30 → t p ≡ true
unfolding each_place
each_at t e p h = at_from t 30 0 e p (omega arith) h

from_true : (k a : ℕ) → each_from (λ p. true) k a ≡ true
unfolding each_from
from_true zero a = refl
from_true (suc k) a = from_true k (a + 1)

-- What each place passes, every place passes.
pub each_if : (t : ℕ → Bool) → ((p : ℕ) → p < 30 → t p ≡ true) → each_place t ≡ true
unfolding each_place
each_if t h = each_same t (λ p. true) h ∙ from_true 30 0

-- Sound settings.

-- What lookup finds it still finds without an interface's setting.
pub found_without :
    (list : List ℕ) (i : ℕ) (hs : List Held) → all_found list hs ≡ true → all_found list (without_setting i hs) ≡ true
unfolding all_found
found_without list i hs e = passed_without _ i hs e

-- And with one that it finds.
pub found_with :
    (list : List ℕ) (i a : ℕ) (hs : List Held) → is_found (find_endpoints list i a) ≡ true → all_found list hs ≡ true →
    all_found list (with_setting i a hs) ≡ true
unfolding all_found
found_with list i a hs f e = passed_with _ i a hs f e

module _ (list : List ℕ) (hs : List Held) (sound : settings_sound list hs ≡ true) where
  -- Their interfaces are distinct.
  pub sound_distinct : distinct (interfaces_of hs) ≡ true
  unfolding settings_sound
  sound_distinct = and_left (distinct (interfaces_of hs)) (all_found list hs) sound

  -- Lookup finds them all.
  pub sound_found : all_found list hs ≡ true
  unfolding settings_sound
  sound_found = and_right (distinct (interfaces_of hs)) (all_found list hs) sound

  -- They stay sound without an interface's.
  pub sound_without : (i : ℕ) → settings_sound list (without_setting i hs) ≡ true
  unfolding settings_sound
  sound_without i =
      and-true (distinct (interfaces_of (without_setting i hs))) (all_found list (without_setting i hs))
      (distinct_without_setting i hs sound_distinct) (found_without list i hs sound_found)

  -- And with one that lookup finds.
  pub sound_with :
      (i a : ℕ) → is_found (find_endpoints list i a) ≡ true → settings_sound list (with_setting i a hs) ≡ true
  unfolding settings_sound
  sound_with i a f =
      and-true (distinct (interfaces_of (with_setting i a hs))) (all_found list (with_setting i a hs))
      (distinct_with_setting i a hs sound_distinct) (found_with list i a hs f sound_found)

-- No settings are sound.
pub sound_none : (list : List ℕ) → settings_sound list [] ≡ true
unfolding settings_sound interfaces_of distinct all_found each_setting
sound_none list = refl

-- Lookup finds the alternate of a held interface.
pub held_found :
    (list : List ℕ) (hs : List Held) → all_found list hs ≡ true → (i : ℕ) → is_held i hs ≡ true →
    is_found (find_endpoints list i (alternate_of i hs)) ≡ true
unfolding all_found
held_found list hs e i h = passed_at _ hs e i h

-- Where endpoint words stand that lookup finds.
pub found_at : (o : Option EndpointWords) → is_found o ≡ true → (f : EndpointWords) × (o ≡ Some f)
found_at (Some f) e = (f, refl)
found_at None e = not_both false e refl

-- Sound settings of a valid list fit the arrays.
pub sound_fits :
    (list : List ℕ) (hs : List Held) → valid_list list ≡ true → settings_sound list hs ≡ true → length hs ≤ 32
sound_fits list hs v sound =
    rw (← interfaces_length hs) (valid_held (interfaces_of hs) list v (sound_distinct list hs sound) listed)
  where
    listed : (x : ℕ) → elem x (interfaces_of hs) ≡ true → has_interface x list ≡ true
    listed x e =
        let f = held_found list hs (sound_found list hs sound) x (held_elem x hs ∙ e) in
        let w = found_at (find_endpoints list x (alternate_of x hs)) f in
        found_interface list x (alternate_of x hs) w.0 w.1

-- And so do those with one more that lookup finds.
pub with_fits :
    (list : List ℕ) (hs : List Held) (i a : ℕ) → valid_list list ≡ true → settings_sound list hs ≡ true →
    is_found (find_endpoints list i a) ≡ true → length (with_setting i a hs) ≤ 32
with_fits list hs i a v sound f = sound_fits list (with_setting i a hs) v (sound_with list hs sound i a f)

-- The words of a setting, and their places.

-- A word's place is one that the words have.
pub has_place_lem :
    (ws : List ℕ) (k : ℕ) → k < length ws → has_place (place_of (endpoint_descriptor (get_or ws k 0)).address) ws ≡ true
unfolding has_place
has_place_lem [] k h = absurd (omega arith)
has_place_lem (w ∷ ws) zero h =
    let p = place_of (endpoint_descriptor w).address in or_left (eqb p p) (has_place p ws) (eq-eqb p p refl)
has_place_lem (w ∷ ws) (suc k) h =
    or_right (eqb (place_of (endpoint_descriptor w).address) (place_of (endpoint_descriptor (get_or ws k 0)).address)) _
    (has_place_lem ws k (omega arith))

-- A place that the words have is a word's.
pub place_word :
    (p : ℕ) (ws : List ℕ) → has_place p ws ≡ true →
    (k : ℕ) × (k < length ws) × (place_of (endpoint_descriptor (get_or ws k 0)).address ≡ p)
unfolding has_place
place_word p [] e = not_both false e refl
place_word p (w ∷ ws) e = go (or_cases (eqb (place_of (endpoint_descriptor w).address) p) (has_place p ws) e) (place_word p ws)
  where
    Word : List ℕ → Type 0
    Word l = (k : ℕ) × (k < length l) × (place_of (endpoint_descriptor (get_or l k 0)).address ≡ p)

    go :
        (eqb (place_of (endpoint_descriptor w).address) p ≡ true) ⊎ (has_place p ws ≡ true) →
        (has_place p ws ≡ true → Word ws) → Word (w ∷ ws)
    go (inl q) f = (zero, omega arith, eqb-true (place_of (endpoint_descriptor w).address) p q)
    go (inr q) f = let t = f q in (suc t.0, omega arith, t.2)

-- The words of a setting of a valid list.
module _ (list : List ℕ) (v : valid_list list ≡ true) (i a : ℕ) where
  length_found : (o : Option EndpointWords) → find_endpoints list i a ≡ o → length (found_words o list) ≤ 30
  unfolding found_words
  length_found (Some f) e = omega (arith, length-take f.count (drop f.start list), valid_count list v i a f e)
  length_found None e = omega arith

  -- There are at most 30.
  pub setting_length : length (setting_words list i a) ≤ 30
  unfolding setting_words
  setting_length = length_found (find_endpoints list i a) refl

  word_found :
      (o : Option EndpointWords) → find_endpoints list i a ≡ o → (k : ℕ) → k < length (found_words o list) →
      (kind (get_or (found_words o list) k 0) ≡ ENDPOINT) × (word_ok (get_or (found_words o list) k 0) ≡ true)
  unfolding found_words
  word_found (Some f) e k h =
      let l : k < f.count = omega (arith, length-take f.count (drop f.start list)) in
      rw (get_or-take f.count (drop f.start list) k 0 l, get_or-drop f.start list k 0)
      (found_endpoints list i a f e k l, valid_found list v i a f e k l)
  word_found None e k h = absurd (omega arith)

  -- Each is an endpoint word that may stand in a list.
  pub setting_word :
      (k : ℕ) → k < length (setting_words list i a) →
      (kind (get_or (setting_words list i a) k 0) ≡ ENDPOINT) × (word_ok (get_or (setting_words list i a) k 0) ≡ true)
  unfolding setting_words
  setting_word = word_found (find_endpoints list i a) refl

  -- Each has a place.
  pub setting_place :
      (k : ℕ) → k < length (setting_words list i a) →
      place_of (endpoint_descriptor (get_or (setting_words list i a) k 0)).address < 30
  setting_place k h = let t = setting_word k h in word_place (get_or (setting_words list i a) k 0) t.0 t.1

  -- They have no place past the last.
  pub setting_past : (p : ℕ) → 30 ≤ p → has_place p (setting_words list i a) ≡ false
  setting_past p h =
      false_if (has_place p (setting_words list i a))
      (λ e. let t = place_word p (setting_words list i a) e in omega (arith, setting_place t.0 t.1, t.2))

has_dci : (p : ℕ) (ws : List ℕ) → p < 30 → elem (dci_at p) (word_dcis ws) ≡ has_place p ws
unfolding elem word_dcis has_place
has_dci p [] h = refl
has_dci p (w ∷ ws) h =
    rw (eqb_turned (dci_at p) (dci_of (endpoint_descriptor w).address), word_at w p h, has_dci p ws h)

-- Rings offered for words, none of them 0, are at the words' places.
pub pending_place :
    (words rings : List ℕ) (p : ℕ) → p < 30 → ((k : ℕ) → k < length words → get_or rings k 0 ≡ 0 → ⊥) →
    eqb (get_or (pending_rings words rings) p 0) 0 ≡ not (has_place p words)
pending_place words rings p h z = pending_some words rings p h z ∙ ap not (has_dci p words h)

-- Endpoints that match the held settings.

-- Each held interface has endpoints exactly at the places of its setting's words, and each endpoint's owner is held.
pub record Matches (list : List ℕ) (hs : List Held) (c : EndpointMap) : Type 0 where
  pub owned :
      (i p : ℕ) → is_held i hs ≡ true → p < 30 →
      is_owned (Interface i) c p ≡ has_place p (setting_words list i (alternate_of i hs))
  pub held : (p : ℕ) → p < 30 → (get_or c.rings p 0 ≡ 0 → ⊥) → is_held (get_or c.owners p 0) hs ≡ true

same_true : (a b : Bool) → agree a b ≡ true → b ≡ a
unfolding agree
same_true true b e = e
same_true false b e = not-true b e

same_if : (a b : Bool) → b ≡ a → agree a b ≡ true
unfolding agree
same_if true b e = e
same_if false b e = rw e

module _ (list : List ℕ) (hs : List Held) (c : EndpointMap) where
  -- What the test says.
  pub match_facts : endpoints_match list hs c ≡ true → Matches list hs c
  unfolding endpoints_match all_own owners_held owns_places
  match_facts e =
      record {
        owned = λ i p h l.
            same_true (has_place p (setting_words list i (alternate_of i hs))) (is_owned (Interface i) c p)
            (each_at _ (passed_at _ hs (and_left (all_own list hs c) _ e) i h) p l);
        held = λ p l r.
            rw (ne_eqb (get_or c.rings p 0) 0 r) at (each_at _ (and_right (all_own list hs c) _ e) p l);
      }

  -- And what makes it true.
  pub match_if : distinct (interfaces_of hs) ≡ true → Matches list hs c → endpoints_match list hs c ≡ true
  unfolding endpoints_match all_own owners_held owns_places
  match_if d m =
      and-true (all_own list hs c) _
      (passed_if _ hs d
      (λ i h. each_if _ (λ p l. same_if (has_place p (setting_words list i (alternate_of i hs))) (is_owned (Interface i) c p) (m.owned i p h l))))
      (each_if _ (λ p l. owner p l (decided (eqb (get_or c.rings p 0) 0))))
    where
      owner :
          (p : ℕ) → p < 30 → Decided (eqb (get_or c.rings p 0) 0) →
          eqb (get_or c.rings p 0) 0 || is_held (get_or c.owners p 0) hs ≡ true
      owner p l (inl q) = rw q
      owner p l (inr q) = rw q (m.held p l (eqb-false (get_or c.rings p 0) 0 q))

  -- An interface that is not held has no endpoint.
  pub match_unheld :
      Matches list hs c → (i p : ℕ) → is_held i hs ≡ false → p < 30 → is_owned (Interface i) c p ≡ false
  unfolding is_owned owns
  match_unheld m i p h l =
      false_if (is_owned (Interface i) c p)
      (λ e.
      let ring = not (eqb (get_or c.rings p 0) 0) in
      let owner = eqb (get_or c.owners p 0) i in
      let r : ring ≡ true = and_left ring owner e in
      let o : get_or c.owners p 0 ≡ i = eqb-true (get_or c.owners p 0) i (and_right ring owner e) in
      let t = m.held p l (eqb-false (get_or c.rings p 0) 0 (not-true (eqb (get_or c.rings p 0) 0) r)) in
      not_both (is_held i hs) (rw o at t) h)

-- Making endpoints active or revoked keeps the match.
pub match_active :
    (list : List ℕ) (hs : List Held) (who : Owner) (n : ℕ) (c : EndpointMap) →
    endpoints_match list hs (with_active who n c) ≡ endpoints_match list hs c
unfolding endpoints_match all_own owners_held owns_places is_owned with_active
match_active list hs who n c = refl

-- No settings and no endpoints match.
pub match_none : (list : List ℕ) → endpoints_match list [] no_endpoints ≡ true
unfolding endpoints_match all_own each_setting owners_held each_place each_from no_endpoints
match_none list = refl

-- Claims and releases.

-- An endpoint is not another interface's where there is no ring, or the owner is this one.
free_other :
    (ring owner i j : ℕ) → (i ≡ j → ⊥) → (eqb ring 0 || eqb owner i) ≡ true → not (eqb ring 0) && eqb owner j ≡ false
free_other ring owner i j n e = go (or_cases (eqb ring 0) (eqb owner i) e)
  where
    go : (eqb ring 0 ≡ true) ⊎ (eqb owner i ≡ true) → not (eqb ring 0) && eqb owner j ≡ false
    go (inl p) = rw p
    go (inr p) =
        rw (ne_eqb owner j (λ q. n (sym (eqb-true owner i p) ∙ q))) (and-false (not (eqb ring 0)))

-- By place: where a word's address is there is no endpoint, or the interface's.
pub free_at :
    (words : List ℕ) (i : ℕ) (c : EndpointMap) (p : ℕ) → addresses_free words i c ≡ true → has_place p words ≡ true →
    (eqb (get_or c.rings p 0) 0 || eqb (get_or c.owners p 0) i) ≡ true
unfolding addresses_free address_free has_place
free_at [] i c p f h = not_both false h refl
free_at (w ∷ ws) i c p f h =
    go (or_cases (eqb place p) (has_place p ws) h) (λ t. free_at ws i c p (and_right (free place) (addresses_free ws i c) f) t)
  where
    place : ℕ
    place = place_of (endpoint_descriptor w).address

    free : ℕ → Bool
    free q = eqb (get_or c.rings q 0) 0 || eqb (get_or c.owners q 0) i

    go : (eqb place p ≡ true) ⊎ (has_place p ws ≡ true) → (has_place p ws ≡ true → free p ≡ true) → free p ≡ true
    go (inl e) t = ap free (sym (eqb-true place p e)) ∙ and_left (free place) (addresses_free ws i c) f
    go (inr e) t = t e

-- At a free address no other interface has an endpoint.
pub free_apart :
    (words : List ℕ) (i j : ℕ) (c : EndpointMap) (p : ℕ) → addresses_free words i c ≡ true → p < 30 → has_place p words ≡ true →
    (i ≡ j → ⊥) → is_owned (Interface j) c p ≡ false
unfolding is_owned owns
free_apart words i j c p free l h n =
    free_other (get_or c.rings p 0) (get_or c.owners p 0) i j n (free_at words i c p free h)

claimed_entry :
    (pending ring owner i j : ℕ) (own : Bool) →
    not (eqb (cond (eqb pending 0) (cond own 0 ring) pending) 0) && eqb (cond (eqb pending 0) (cond own 0 owner) i) j
    ≡ cond (eqb pending 0) ((not (eqb ring 0) && eqb owner j) && not own) (eqb i j)
claimed_entry pending ring owner i j own = go (decided (eqb pending 0)) own
  where
    go :
        Decided (eqb pending 0) → (own : Bool) →
        not (eqb (cond (eqb pending 0) (cond own 0 ring) pending) 0) && eqb (cond (eqb pending 0) (cond own 0 owner) i) j
        ≡ cond (eqb pending 0) ((not (eqb ring 0) && eqb owner j) && not own) (eqb i j)
    go (inl p) true = rw p (sym (and-false (not (eqb ring 0) && eqb owner j)))
    go (inl p) false = rw p (sym (and_one (not (eqb ring 0) && eqb owner j)))
    go (inr p) own = rw (p, p)

claimed_at :
    (i j : ℕ) (pending : List ℕ) (c : EndpointMap) (p : ℕ) →
    not (eqb (claimed_ring i pending c p) 0) && eqb (claimed_owner i pending c p) j
    ≡ cond (eqb (get_or pending p 0) 0)
    ((not (eqb (get_or c.rings p 0) 0) && eqb (get_or c.owners p 0) j) && not (is_owned (Interface i) c p)) (eqb i j)
unfolding claimed_ring claimed_owner
claimed_at i j pending c p =
    claimed_entry (get_or pending p 0) (get_or c.rings p 0) (get_or c.owners p 0) i j (is_owned (Interface i) c p)

-- Who owns a place after a claim: the interface where a ring is pending, and elsewhere another as before.
pub claimed_owned :
    (i j : ℕ) (pending : List ℕ) (c : EndpointMap) (p : ℕ) → p < 30 →
    is_owned (Interface j) (claimed_endpoints i pending c) p
    ≡ cond (eqb (get_or pending p 0) 0) (is_owned (Interface j) c p && not (is_owned (Interface i) c p)) (eqb i j)
unfolding is_owned owns
claimed_owned i j pending c p h =
    rw (claimed_ring_lem i pending c p h, claimed_owner_lem i pending c p h) (claimed_at i j pending c p)

-- The endpoints after a claim, or a release, of interface i, whose words are then `words`.
module _ (list : List ℕ) (hs after : List Held) (i : ℕ) (words pending : List ℕ) (c : EndpointMap)
    (m : Matches list hs c)
    (rings : (p : ℕ) → p < 30 → eqb (get_or pending p 0) 0 ≡ not (has_place p words))
    (free : addresses_free words i c ≡ true)
    (held-other : (j : ℕ) → (i ≡ j → ⊥) → is_held j after ≡ is_held j hs)
    (alternate-other : (j : ℕ) → (i ≡ j → ⊥) → alternate_of j after ≡ alternate_of j hs)
    (own : is_held i after ≡ true → setting_words list i (alternate_of i after) ≡ words)
    (some : (p : ℕ) → has_place p words ≡ true → is_held i after ≡ true) where
  one_owner : (p j : ℕ) → (i ≡ j → ⊥) → is_owned (Interface i) c p ≡ true → is_owned (Interface j) c p ≡ false
  unfolding is_owned owns
  one_owner p j n e =
      free_other (get_or c.rings p 0) (get_or c.owners p 0) i j n
      (or_right (eqb (get_or c.rings p 0) 0) _ (and_right (not (eqb (get_or c.rings p 0) 0)) _ e))

  own_place : (p : ℕ) → p < 30 → is_held i after ≡ true → is_owned (Interface i) (claimed_endpoints i pending c) p ≡ has_place p words
  own_place p l h =
      claimed_owned i i pending c p l ∙ rw (rings p l, eq-eqb i i refl) (go (has_place p words) (is_owned (Interface i) c p))
    where
      go : (b o : Bool) → cond (not b) (o && not o) true ≡ b
      go true o = refl
      go false o = and-not_self o

  other_place :
      (p j : ℕ) → p < 30 → (i ≡ j → ⊥) → is_owned (Interface j) (claimed_endpoints i pending c) p ≡ is_owned (Interface j) c p
  other_place p j l n =
      claimed_owned i j pending c p l
      ∙ rw (rings p l, ne_eqb i j n)
      (go (decided (has_place p words)) (decided (is_owned (Interface i) c p)))
    where
      go :
          Decided (has_place p words) → Decided (is_owned (Interface i) c p) →
          cond (not (has_place p words)) (is_owned (Interface j) c p && not (is_owned (Interface i) c p)) false
          ≡ is_owned (Interface j) c p
      go (inl q) o = rw (q, free_apart words i j c p free l q n)
      go (inr q) (inl o) = rw (q, one_owner p j n o)
      go (inr q) (inr o) = rw (q, o) (and_one (is_owned (Interface j) c p))

  owned_after :
      (j p : ℕ) → is_held j after ≡ true → p < 30 →
      is_owned (Interface j) (claimed_endpoints i pending c) p ≡ has_place p (setting_words list j (alternate_of j after))
  owned_after j p h l = go (decided (eqb i j))
    where
      go :
          Decided (eqb i j) →
          is_owned (Interface j) (claimed_endpoints i pending c) p ≡ has_place p (setting_words list j (alternate_of j after))
      go (inl q) =
          let s : j ≡ i = sym (eqb-true i j q) in
          let k : is_held i after ≡ true = rw s at h in
          rw (s, own k) (own_place p l k)
      go (inr q) =
          let n : i ≡ j → ⊥ = eqb-false i j q in
          other_place p j l n ∙ m.owned j p (sym (held-other j n) ∙ h) l ∙ rw (alternate-other j n)

  held_after :
      (p : ℕ) → p < 30 → (get_or (claimed_endpoints i pending c).rings p 0 ≡ 0 → ⊥) →
      is_held (get_or (claimed_endpoints i pending c).owners p 0) after ≡ true
  unfolding claimed_ring claimed_owner is_owned owns
  held_after p l r =
      rw (claimed_owner_lem i pending c p l)
      (go (decided (eqb (get_or pending p 0) 0)) (decided (is_owned (Interface i) c p)) (λ e. r (claimed_ring_lem i pending c p l ∙ e)))
    where
      go :
          Decided (eqb (get_or pending p 0) 0) → Decided (is_owned (Interface i) c p) → (claimed_ring i pending c p ≡ 0 → ⊥) →
          is_held (claimed_owner i pending c p) after ≡ true
      go (inr q) o z = rw q (some p (not-false (has_place p words) (sym (rings p l) ∙ q)))
      go (inl q) (inl o) z = absurd (z (rw (q, o)))
      go (inl q) (inr o) z =
          let ring : get_or c.rings p 0 ≡ 0 → ⊥ = λ e. z (rw (q, o) e) in
          let n : i ≡ get_or c.owners p 0 → ⊥ =
          λ e. not_both (is_owned (Interface i) c p) (rw (ne_eqb (get_or c.rings p 0) 0 ring) (eq-eqb (get_or c.owners p 0) i (sym e))) o
          in
          rw (q, o) (held-other (get_or c.owners p 0) n ∙ m.held p l ring)

  matches_after : Matches list after (claimed_endpoints i pending c)
  matches_after = record { owned = owned_after; held = held_after }

module _ (list : List ℕ) (hs : List Held) (i : ℕ) (pending : List ℕ) (c : EndpointMap)
    (sound : settings_sound list hs ≡ true) (m : endpoints_match list hs c ≡ true) where
  -- A claim whose rings are at the places of its words keeps the match, where the addresses are free.
  pub match_claimed :
      (a : ℕ) → addresses_free (setting_words list i a) i c ≡ true →
      ((p : ℕ) → p < 30 → eqb (get_or pending p 0) 0 ≡ not (has_place p (setting_words list i a))) →
      endpoints_match list (with_setting i a hs) (claimed_endpoints i pending c) ≡ true
  match_claimed a free rings =
      match_if list (with_setting i a hs) (claimed_endpoints i pending c) (distinct_with_setting i a hs (sound_distinct list hs sound))
      (matches_after list hs (with_setting i a hs) i (setting_words list i a) pending c (match_facts list hs c m) rings free
      (λ j n. held_with_other i a j hs n) (λ j n. alternate_with_other i a j hs n) (λ h. rw (alternate_with i a hs))
      (λ p h. held_with i a hs))

  -- A release keeps it.
  pub match_released :
      ((p : ℕ) → p < 30 → get_or pending p 0 ≡ 0) →
      endpoints_match list (without_setting i hs) (claimed_endpoints i pending c) ≡ true
  unfolding has_place addresses_free
  match_released none =
      match_if list (without_setting i hs) (claimed_endpoints i pending c) (distinct_without_setting i hs (sound_distinct list hs sound))
      (matches_after list hs (without_setting i hs) i [] pending c (match_facts list hs c m)
      (λ p l. eq-eqb (get_or pending p 0) 0 (none p l)) refl
      (λ j n. held_without_other i j hs n) (λ j n. alternate_without_other i j hs n)
      (λ h. not_both (is_held i (without_setting i hs)) h (held_without i hs))
      (λ p h. not_both false h refl))
