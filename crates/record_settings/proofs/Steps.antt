-- One turn of each loop.
use Prim.Native.Nat.{ℕ, zero, suc, ◌+◌, ◌-◌, ◌≤◌, ◌<◌}
use mathlib.Core.Path.{◌≡◌, refl, sym, ap, ◌∙◌}
use mathlib.Core.Logic.{inl, inr}
use mathlib.Core.Bool.{Bool, true, false, not, cond, ◌&&◌, ◌||◌, or-true, or-false, and-false, beq}
use mathlib.Core.List.{List, [], ◌∷◌, ◌++◌, append_assoc, append-nil}
use native.Mathlib.Numerals.{add-one, one-add}
use native.Mathlib.Nat.{add-zero}
use native.Mathlib.Omega.{arith}
use native.Mathlib.Decide.{dec_lt}
use borrow.Author.Rules.{rules}
use borrow.Author.Tests.{eq-eqb, ne_eqb, lt-ltb, eqb-true, eqb-false}
use lib.Dec.{eqb, leb-suc-suc}
use Rattle.std.proofs.Common.{Some, None, nat_lt, option_map, position}
use Rattle.std.specs.List.{list_any, list_all, position_or_len, range_with_len}
use lib.ListN.{length, get_or, set, take, drop, length-append, drop_of_length-le, get_or-eq_default}
use lib.Seq.{drop-drop, get_or-drop, get_or-set_same, get_or-set_other, set-append_seam, drop-cons, ext_get_or}
use Rattle.laws.proofs.Tests.{and_left, and_right, not_both}
use Rattle.laws.proofs.Cases.{Decided, decided, false_if}
use Rattle.laws.specs.Distinct.{elem, distinct}
use Rattle.laws.proofs.Distinct.{elem_append}
use Rattle.descriptor_list.specs.Lookup.{find_endpoints}
use Rattle.descriptor.specs.Word.{endpoint_descriptor}
use Rattle.record_endpoint.specs.Order.{place_of}
use Rattle.record_endpoint.specs.Endpoint.{padded}
use Rattle.record_endpoint.specs.EndpointMap.{is_owned}
use Rattle.record_endpoint.specs.declared.endpoint_map.Owner.TheVariants.{Interface}
use Rattle.record_endpoint.specs.declared.endpoint_map.EndpointMap.{EndpointMap}
use Rattle.record_endpoint.proofs.Laws.{tabulated_at, tabulated_length}
use Rattle.record_settings.specs.declared.held.Settings.{Settings}
use Rattle.record_settings.specs.Held.{Held, held_in, interfaces_of, alternates_of, is_held, held_alternate, without_setting, is_found, each_setting, all_found, settings_sound, SettingsAs}
use Rattle.record_settings.specs.Match.{has_place, places_of, agree, each_from, each_place, owns_places, all_own, owners_held, endpoints_match, address_free, addresses_free}
use Rattle.record_settings.proofs.Laws.{eqb_turned, passed_append, held_elem, interfaces_length, alternates_length, interfaces_append, alternates_append, each_same}

abbrev pub held_at : List ℕ → List ℕ → ℕ → Held
held_at is alts i = record { interface = get_or is i 0; alternate = get_or alts i 0 }

-- The settings from an index on: the one there and those after it.
held_step :
    (m : ℕ) (is is' alts alts' : List ℕ) (x a : ℕ) →
    drop 1 is ≡ is' → drop 1 alts ≡ alts' → get_or is 0 0 ≡ x → get_or alts 0 0 ≡ a →
    held_in (suc m) is alts ≡ record { interface = x; alternate = a } ∷ held_in m is' alts'
unfolding held_in
held_step m is is' alts alts' x a p q r s = rw (← p, ← q, ← r, ← s)

first_drop : (i : ℕ) (l : List ℕ) → get_or (drop i l) 0 0 ≡ get_or l i 0
first_drop i l = get_or-drop i l 0 0 ∙ rw (add-zero i)

held_from :
    (is alts : List ℕ) (k p : ℕ) →
    held_in (suc k) (drop p is) (drop p alts) ≡ held_at is alts p ∷ held_in k (drop (p + 1) is) (drop (p + 1) alts)
held_from is alts k p =
    held_step k (drop p is) (drop (p + 1) is) (drop p alts) (drop (p + 1) alts) (get_or is p 0) (get_or alts p 0)
    (drop-drop 1 p is) (drop-drop 1 p alts) (first_drop p is) (first_drop p alts)

-- An interface is looked up among the first n.
pub held_any :
    (n : ℕ) (is alts : List ℕ) (x : ℕ) → n ≤ length is → list_any (λ y. eqb y x) (take n is) ≡ is_held x (held_in n is alts)
unfolding held_in is_held
held_any zero is alts x h = refl
held_any (suc n) [] alts x h = absurd (omega arith)
held_any (suc n) (y ∷ ys) alts x h = ap (λ b. eqb y x || b) (held_any n ys (drop 1 alts) x (omega arith))

pub held_position :
    (n : ℕ) (is alts : List ℕ) (x : ℕ) → n ≤ length is →
    option_map (λ k. get_or alts k 0) (position (λ y. eqb y x) (take n is)) ≡ held_alternate x (held_in n is alts)
unfolding held_in held_alternate
held_position zero is alts x h = refl
held_position (suc n) [] alts x h = absurd (omega arith)
held_position (suc n) (y ∷ ys) alts x h = rw (one-add k) (go (eqb y x) (held_position n ys (drop 1 alts) x (omega arith)))
  where
    k : ℕ
    k = position_or_len (λ y. eqb y x) (take n ys)

    m : ℕ
    m = length (take n ys)

    later :
        (t : Bool) → option_map (λ k. get_or alts k 0) (cond t (Some (suc k)) None)
        ≡ option_map (λ k. get_or (drop 1 alts) k 0) (cond t (Some k) None)
    later true = ap Some (rw (← one-add k) (sym (get_or-drop 1 alts k 0)))
    later false = refl

    go :
        (t : Bool) →
        option_map (λ k. get_or (drop 1 alts) k 0) (cond (nat_lt k m) (Some k) None) ≡ held_alternate x (held_in n ys (drop 1 alts)) →
        option_map (λ k. get_or alts k 0) (cond (nat_lt (cond (not t) (suc k) 0) (suc m)) (Some (cond (not t) (suc k) 0)) None)
        ≡ cond t (Some (get_or alts 0 0)) (held_alternate x (held_in n ys (drop 1 alts)))
    go true e = rw (lt-ltb 0 (suc m) (omega arith))
    go false e = rw (leb-suc-suc (suc k) m) (later (nat_lt k m) ∙ e)

-- The test of each setting from an index on.
pub each_index :
    (test : ℕ → ℕ → Bool) (is alts : List ℕ) (k p : ℕ) →
    list_all (λ i. test (get_or is i 0) (get_or alts i 0)) (range_with_len p k) ≡ each_setting test (held_in k (drop p is) (drop p alts))
unfolding held_in each_setting
each_index test is alts zero p = refl
each_index test is alts (suc k) p =
    ap (λ b. test (get_or is p 0) (get_or alts p 0) && b) (each_index test is alts k (p + 1)) ∙ ap (each_setting test) (sym (held_from is alts k p))

-- The first settings, one more.
held_snoc : (k : ℕ) (is alts : List ℕ) → held_in (suc k) is alts ≡ held_in k is alts ++ (held_at is alts k ∷ [])
unfolding held_in
held_snoc zero is alts = refl
held_snoc (suc k) is alts =
    rw (held_snoc k (drop 1 is) (drop 1 alts), get_or-drop 1 is k 0, get_or-drop 1 alts k 0, one-add)

without_append : (j : ℕ) (hs gs : List Held) → without_setting j (hs ++ gs) ≡ without_setting j hs ++ without_setting j gs
unfolding without_setting
without_append j [] gs = refl
without_append j (h ∷ hs) gs = rw (without_append j hs gs) (go (eqb h.interface j))
  where
    go :
        (t : Bool) →
        cond t (without_setting j hs ++ without_setting j gs) (h ∷ without_setting j hs ++ without_setting j gs)
        ≡ cond t (without_setting j hs) (h ∷ without_setting j hs) ++ without_setting j gs
    go true = refl
    go false = refl

module _ (is alts : List ℕ) (j i : ℕ) where
  pub without_in :
      (get_or is i 0 ≡ j → ⊥) →
      without_setting j (held_in (i + 1) is alts) ≡ without_setting j (held_in i is alts) ++ (held_at is alts i ∷ [])
  unfolding without_setting
  without_in h = rw (add-one i, held_snoc i is alts, without_append j, ne_eqb (get_or is i 0) j h)

  pub without_out :
      get_or is i 0 ≡ j → without_setting j (held_in (i + 1) is alts) ≡ without_setting j (held_in i is alts)
  unfolding without_setting
  without_out h = rw (add-one i, held_snoc i is alts, without_append j, eq-eqb (get_or is i 0) j h, append-nil)

-- `settings_sound`: one setting more after sound ones.
distinct_snoc : (l : List ℕ) (x : ℕ) → distinct (l ++ (x ∷ [])) ≡ (distinct l && not (elem x l))
unfolding distinct elem
distinct_snoc [] x = refl
distinct_snoc (y ∷ l) x =
    rw (distinct_snoc l x, elem_append y l (x ∷ []), eqb_turned x y) (go (elem y l) (eqb y x) (distinct l) (elem x l))
  where
    go : (e t d f : Bool) → (not (e || (t || false)) && (d && not f)) ≡ ((not e && d) && not (t || f))
    go true t d f = refl
    go false true true f = refl
    go false true false f = refl
    go false false d f = refl

sound_put :
    (list : List ℕ) (hs : List Held) (h : Held) →
    settings_sound list (hs ++ (h ∷ []))
    ≡ (settings_sound list hs && (not (is_held h.interface hs) && is_found (find_endpoints list h.interface h.alternate)))
unfolding settings_sound all_found each_setting interfaces_of
sound_put list hs h =
    rw (
      interfaces_append hs (h ∷ []),
      distinct_snoc (interfaces_of hs) h.interface,
      passed_append (λ i a. is_found (find_endpoints list i a)) hs (h ∷ []),
      held_elem h.interface hs,
    )
    (go (distinct (interfaces_of hs)) (elem h.interface (interfaces_of hs)) (each_setting (λ i a. is_found (find_endpoints list i a)) hs)
    (is_found (find_endpoints list h.interface h.alternate)))
  where
    go : (d e a f : Bool) → ((d && not e) && (a && (f && true))) ≡ ((d && a) && (not e && f))
    go false e a f = refl
    go true true true f = refl
    go true true false f = refl
    go true false a true = refl
    go true false a false = refl

module _ (list is alts : List ℕ) where
  abbrev Fresh : ℕ → Bool
  Fresh i = not (is_held (get_or is i 0) (held_in i is alts)) && is_found (find_endpoints list (get_or is i 0) (get_or alts i 0))

  sound_step :
      (i : ℕ) → settings_sound list (held_in (i + 1) is alts) ≡ (settings_sound list (held_in i is alts) && Fresh i)
  sound_step i = rw (add-one i, held_snoc i is alts) (sound_put list (held_in i is alts) (held_at is alts i))

  sound_first :
      (n k : ℕ) → k ≤ n → settings_sound list (held_in n is alts) ≡ true → settings_sound list (held_in k is alts) ≡ true
  sound_first zero k h e = let s : k ≡ zero = omega arith in rw s e
  sound_first (suc n) k h e =
      go (dec_lt n k)
      (λ l. sound_first n k l (and_left (settings_sound list (held_in n is alts)) (Fresh n) (sym (sound_step n) ∙ rw (add-one n) e)))
    where
      go : Dec (n < k) → (k ≤ n → settings_sound list (held_in k is alts) ≡ true) → settings_sound list (held_in k is alts) ≡ true
      go (yes l) f = let s : k ≡ suc n = omega arith in rw s e
      go (no l) f = f (omega arith)

  not_sound : (n i : ℕ) → i < n → Fresh i ≡ false → settings_sound list (held_in n is alts) ≡ false
  not_sound n i h f =
      false_if (settings_sound list (held_in n is alts))
      (λ e. not_both (Fresh i) (and_right (settings_sound list (held_in i is alts)) (Fresh i) (sym (sound_step i) ∙ sound_first n (i + 1) (omega arith) e)) f)

  pub sound_none : settings_sound list (held_in 0 is alts) ≡ true
  unfolding settings_sound all_found each_setting held_in interfaces_of distinct
  sound_none = refl

  pub sound_next :
      (i : ℕ) → settings_sound list (held_in i is alts) ≡ true → is_held (get_or is i 0) (held_in i is alts) ≡ false →
      is_found (find_endpoints list (get_or is i 0) (get_or alts i 0)) ≡ true → settings_sound list (held_in (i + 1) is alts) ≡ true
  sound_next i s h f = rw (sound_step i, s, h, f)

  -- its interface is held already
  pub sound_again :
      (n i : ℕ) → i < n → is_held (get_or is i 0) (held_in i is alts) ≡ true → settings_sound list (held_in n is alts) ≡ false
  sound_again n i h e = not_sound n i h (rw e)

  -- or lookup does not find its alternate
  pub sound_lost :
      (n i : ℕ) → i < n → is_found (find_endpoints list (get_or is i 0) (get_or alts i 0)) ≡ false →
      settings_sound list (held_in n is alts) ≡ false
  sound_lost n i h e = not_sound n i h (rw e (and-false (not (is_held (get_or is i 0) (held_in i is alts)))))

-- An array filled from its front, one more.
padded_put :
    (n : ℕ) (l : List ℕ) (a : ℕ) → length l < n → set (padded n 0 l) (length l) a ≡ padded n 0 (l ++ (a ∷ []))
unfolding padded
padded_put n l a h =
    let m : n - length l ≡ suc (n - (length l + 1)) = omega arith in
    let m' : n - length (l ++ (a ∷ [])) ≡ n - (length l + 1) = simp length-append in
    rw (m, m', set-append_seam, append_assoc) refl

-- One setting more at the end of the arrays.
pub settings_put :
    (s : Settings) (hs : List Held) (x a : ℕ) (fits : s.count + 1 ≤ 32) → SettingsAs s hs →
    SettingsAs
    (record {
      interfaces = set s.interfaces s.count x;
      alternates = set s.alternates s.count a;
      count = s.count + 1;
      fits = fits;
    })
    (hs ++ (record { interface = x; alternate = a } ∷ []))
unfolding interfaces_of alternates_of
settings_put s hs x a fits w =
    let i : length (interfaces_of hs) < 32 = omega (arith, interfaces_length hs, w.count) in
    let b : length (alternates_of hs) < 32 = omega (arith, alternates_length hs, w.count) in
    record {
      interfaces =
          rw (w.interfaces, w.count, interfaces_append hs, ← interfaces_length hs) (padded_put 32 (interfaces_of hs) x i);
      alternates =
          rw (w.alternates, w.count, alternates_append hs, ← alternates_length hs) (padded_put 32 (alternates_of hs) a b);
      count = rw (w.count, length-append) refl;
    }

-- The tests of all places as those of a list.
pub each_list : (test : ℕ → Bool) (k p : ℕ) → list_all test (range_with_len p k) ≡ each_from test k p
unfolding each_from
each_list test zero p = refl
each_list test (suc k) p = ap (λ b. test p && b) (each_list test k (p + 1))

-- The places of words: those that are marked, and those of the words left.
abbrev pub Marked : List Bool → List ℕ → List ℕ → Type 0
Marked places rest words = (p : ℕ) → p < 30 → get_or places p false || has_place p rest ≡ has_place p words

next_word :
    (words : List ℕ) (i p : ℕ) → i < length words →
    has_place p (drop i words)
    ≡ eqb (place_of (endpoint_descriptor (get_or words i 0)).address) p || has_place p (drop (i + 1) words)
unfolding has_place
next_word words i p h = rw (add-one, drop-cons words i 0)

module _ (places : List Bool) (words : List ℕ) (i : ℕ) (m : Marked places (drop i words) words) where
  pub mark_next :
      (q : ℕ) → i < length words → length places ≡ 30 → q ≡ place_of (endpoint_descriptor (get_or words i 0)).address →
      Marked (set places q true) (drop (i + 1) words) words
  mark_next q h l e p g = go (decided (eqb q p)) ∙ m p g
    where
      go :
          Decided (eqb q p) →
          get_or (set places q true) p false || has_place p (drop (i + 1) words) ≡ get_or places p false || has_place p (drop i words)
      go (inl t) =
          let s : q ≡ p = eqb-true q p t in
          rw (next_word words i p h, ← e, t, s, get_or-set_same places p true false (rw l g)) (sym (or-true (get_or places p false)))
      go (inr t) =
          rw (next_word words i p h, ← e, t, get_or-set_other places q p true false (λ s. eqb-false q p t (sym s)))

  pub mark_skip :
      (q : ℕ) → i < length words → 30 ≤ q → q ≡ place_of (endpoint_descriptor (get_or words i 0)).address →
      Marked places (drop (i + 1) words) words
  mark_skip q h l e p g = rw (ne_eqb q p (λ s. absurd (omega arith))) at (rw (next_word words i p h, ← e) at (m p g))

  no_word : (p : ℕ) → has_place p [] ≡ false
  unfolding has_place
  no_word p = refl

  pub marked_all : length words ≤ i → length places ≡ 30 → places ≡ places_of words
  unfolding places_of
  marked_all h l =
      ext_get_or false places (places_of words) (l ∙ sym (tabulated_length (λ p. has_place p words) 30 0))
      (λ p g. let k : p < 30 = rw (← l) g in sym (tabulated_at (λ q. has_place q words) 30 p false k ∙ sym (m p k) ∙ last p))
    where
      last : (p : ℕ) → get_or places p false || has_place p (drop i words) ≡ get_or places p false
      last p = rw (drop_of_length-le words h, no_word p) (or-false (get_or places p false))

place_at : (words : List ℕ) (p : ℕ) → p < 30 → get_or (places_of words) p false ≡ has_place p words
unfolding places_of
place_at words p h = tabulated_at (λ q. has_place q words) 30 p false h

-- A place has a word exactly if it has an endpoint.
pub same_test : (word own : Bool) → agree word own ≡ beq word own
unfolding agree
same_test true true = refl
same_test true false = refl
same_test false true = refl
same_test false false = refl

-- The endpoints of an interface against the places of its words.
pub owns_same :
    (places : List Bool) (words : List ℕ) (i : ℕ) (c : EndpointMap) →
    places ≡ places_of words →
    owns_places words i c ≡ each_place (λ p. agree (get_or places p false) (is_owned (Interface i) c p))
unfolding owns_places
owns_same places words i c e = each_same _ _ (λ p h. rw (e, place_at words p h))

-- The test of a word at place q, and of one that no endpoint can have.
pub free_with :
    (w i : ℕ) (c : EndpointMap) (q : ℕ) → q ≡ place_of (endpoint_descriptor w).address →
    address_free w i c ≡ (eqb (get_or c.rings q 0) 0 || eqb (get_or c.owners q 0) i)
unfolding address_free
free_with w i c q e = rw (← e)

pub free_without :
    (w i : ℕ) (c : EndpointMap) → length c.rings ≡ 30 → 30 ≡ place_of (endpoint_descriptor w).address → address_free w i c ≡ true
free_without w i c l e =
    let z : length c.rings ≤ 30 = rw l (search rules) in free_with w i c 30 e ∙ rw (get_or-eq_default c.rings 0 z)

-- The test of each word.
pub free_list : (ws : List ℕ) (i : ℕ) (c : EndpointMap) → list_all (λ w. address_free w i c) ws ≡ addresses_free ws i c
unfolding addresses_free
free_list [] i c = refl
free_list (w ∷ ws) i c = ap (λ b. address_free w i c && b) (free_list ws i c)

-- `endpoints_match`: first the endpoints of each setting, then the owners.
module _ (list : List ℕ) (hs : List Held) (c : EndpointMap) where
  pub match_not : all_own list hs c ≡ false → endpoints_match list hs c ≡ false
  unfolding endpoints_match
  match_not e = rw e

  pub match_owners : all_own list hs c ≡ true → endpoints_match list hs c ≡ owners_held hs c
  unfolding endpoints_match
  match_owners e = rw e
