-- One turn of each loop, and what is known before and after.
use Prim.Native.Nat.{ℕ, zero, suc, ◌+◌, ◌-◌, ◌≤◌, ◌<◌}
use mathlib.Core.Path.{◌≡◌, refl, sym, ap, subst, ◌∙◌}
use mathlib.Core.Bool.{Bool, true, false, cond, ◌&&◌}
use lib.Dec.{eqb}
use mir.Val.{Val}
use denote.Shadow.{shadow}
use denote.Array.{each}
use mathlib.Core.List.{List, [], ◌∷◌, map}
use native.Mathlib.Numerals.{add-one}
use native.Mathlib.Nat.{add-zero}
use native.Mathlib.Omega.{arith}
use native.Mathlib.Decide.{dec_lt}
use denote.Param.Members.{Mut, Called}
use Rattle.std.specs.Array.{index_steps, IsFromFnResultFrom, IsFromFnResult}
use Rattle.std.specs.Iterator.{CallableAtEachTurn, ActsAs}
use Rattle.std.specs.List.{FoldsTo}
use borrow.Author.Tests.{eqb-true}
use lib.ListN.{length, get_or, set, drop, drop_of_length-le}
use mathlib.Core.List.{append_assoc}
use borrow.Rule.Slice.PartMut.{put_mid}
use lib.Seq.{drop-cons, drop-drop, sets, sets-eq}
use Rattle.laws.specs.Bounds.{Below}
use Rattle.laws.proofs.Tests.{and_left, and_right}
use Rattle.record_endpoint.specs.EndpointMap.{tabulated, handle_of}
use Rattle.record_endpoint.specs.declared.entry.Handle.{Handle}
use Rattle.record_endpoint.specs.declared.entry.Handle.TheVariants.{Active, Revoked}
use Rattle.record_endpoint.specs.declared.entry.Endpoint.{Endpoint}
use Rattle.record_endpoint.specs.declared.entry.Endpoints.{Endpoints}
use Rattle.record_endpoint.specs.contracts.entry.Endpoint.{the_row}
use Rattle.descriptor_list.specs.Valid.{LIST-ROOM}
use Rattle.record_ring.specs.Rings.{RING-ROOM}
use Rattle.record_ring.specs.Store.{GIVEN-ROOM}
use Rattle.record_settings.specs.Held.{HELD-ROOM}
use Rattle.device_image.specs.Layout.{USABLE, CONTROL-REVOKED, SLOT, INTERFACES, ALTERNATES, LIST, SPACING, QUARANTINED, UP, GIVEN-COUNT, GIVEN, WORDS}
use denote.Enum.Declared.{tag_of}
use Rattle.record_endpoint.specs.contracts.entry.Handle.{the_type}
use Rattle.device_image.specs.Image.{revoked, address_word, handle_in, number_at, endpoints_in, numbered, read, below, is_image, decode}
use Rattle.device_image.proofs.Parts.{below_in, tabulated_list}

-- An array that a closure makes, where no call changes the closure: it may be called at each index, and each element is what it says there.
module _ {F B : Type 0} (g : Mut F (ℕ × Unit {0}) B) (f : F) (n : ℕ) where
  abbrev Turn : F → ℕ → F → Type 0
  Turn p i q = (y : B) × Called g p (i, tt) y q

  module _ (still : (i : ℕ) (y : B) (q : F) → Called g f (i, tt) y q → q ≡ f) (may : (i : ℕ) → i < n → g.pre f (i, tt)) where
    stays : (xs : List ℕ) (p q : F) → p ≡ f → FoldsTo Turn p xs q → q ≡ f
    stays [] p q e h = sym h ∙ e
    stays (i ∷ xs) p q e h = stays xs h.0 q (still i h.1.0 h.0 (rw e at h.1.1)) h.2

    pub callable : CallableAtEachTurn (index_steps n) Turn (λ p i. g.pre p (i, tt)) 0 f
    callable = record { at = λ xs t q i u ys h s. rw (stays xs f q refl h) (may i (omega (arith, s.0, s.1))) }

  module _ (said : ℕ → B) (from : ℕ) (acts : ActsAs g f (λ i. said (from + i))) where
    made_at :
        (k i : ℕ) (p : F) (ys : List B) → p ≡ f → IsFromFnResultFrom g p ys i k →
        (j : ℕ) (d : B) → i ≤ j → j < i + k → said (from + j) ≡ get_or ys j d
    made_at zero i p ys e h j d low high = absurd (omega arith)
    made_at (suc k) i p ys e h j d low high =
        let here = acts i h.1 h.0 (rw e at h.3) in
        go (dec_lt i j) here.1 (made_at k (i + 1) h.0 ys here.0 h.4 j d)
      where
        go : Dec (i < j) → h.1 ≡ said (from + i) → (i + 1 ≤ j → j < i + 1 + k → said (from + j) ≡ get_or ys j d) → said (from + j) ≡ get_or ys j d
        go (yes later) here rest = rest (omega arith) (omega arith)
        go (no later) here rest =
            let same : i ≡ j = omega arith in
            subst (λ (m : ℕ). said (from + m) ≡ get_or ys m d) same (sym here ∙ sym (h.2.1 d))

    pub made : (ys : List B) → IsFromFnResult g f ys n → B → ys ≡ tabulated said n from
    made ys h d = sym (tabulated_list said ys n from d h.long (λ i k. made_at n 0 f ys refl h.each i d (omega arith) (omega arith)))

pub handle_is : (w : ℕ) → handle_of (eqb w 0) ≡ handle_in w
unfolding handle_of handle_in
handle_is w = go (eqb w 0)
  where
    go : (b : Bool) → handle_of b ≡ cond b Active Revoked
    go true = refl
    go false = refl

pub handle_tag : (h : Handle) → tag_of the_type h ≡ revoked h
unfolding revoked
handle_tag Active = refl
handle_tag Revoked = refl

-- A list's elements from i on, still to be written over the words from a on.
unfoldable pub rest : ℕ → List ℕ → ℕ → List ℕ → List ℕ
rest a vs i l = sets l (a + i) (drop i vs)

pub rest_none : (a : ℕ) (vs l : List ℕ) → sets l a vs ≡ rest a vs 0 l
unfolding rest
rest_none a vs l = rw add-zero

pub rest_all : (a : ℕ) (vs : List ℕ) (i : ℕ) (l : List ℕ) → length vs ≤ i → rest a vs i l ≡ l
unfolding rest
rest_all a vs i l h = rw (drop_of_length-le vs {i = i} h)

pub rest_next :
    (a : ℕ) (vs : List ℕ) (i : ℕ) (l : List ℕ) → i < length vs → rest a vs i l ≡ rest a vs (i + 1) (set l (a + i) (get_or vs i 0))
unfolding rest
rest_next a vs i l h = let e : a + (i + 1) ≡ suc (a + i) = omega arith in rw (e, drop-cons vs i 0 h, add-one i)

-- A part of a buffer written over.
pub part_written :
    (a k : ℕ) (l part vs : List ℕ) → part ≡ vs → length vs ≡ k → a + k ≤ length l → put_mid a k l part ≡ sets l a vs
part_written a k l part vs e n h =
    let there = sets-eq vs l a (omega arith) in
    rw e (sym (there ∙ rw (n, append_assoc, ← drop-drop k a l)))

-- What a list's elements say, element by element.
length_map : {A B : Type 0} (f : A → B) (l : List A) → length (map f l) ≡ length l
length_map f [] = refl
length_map f (x ∷ l) = ap suc (length_map f l)

pub length_mapped : {A : Type 0} {k : ℕ} (f : A → ℕ) (l : List A) → length l ≡ k → length (map f l) ≡ k
length_mapped f l e = length_map f l ∙ e

pub mapped :
    {A : Type 0} {k : ℕ} (f : A → ℕ) (l : List A) (i : ℕ) (d : A) → length l ≡ k → i < k →
    f (get_or l i d) ≡ get_or (map f l) i 0
mapped {A = A} f l i d e h = go l i (rw e h)
  where
    go : (l : List A) (i : ℕ) → i < length l → f (get_or l i d) ≡ get_or (map f l) i 0
    go [] i h = absurd (omega arith)
    go (x ∷ l) zero h = refl
    go (x ∷ l) (suc i) h = go l i (omega arith)

pub put_next :
    {A : Type 0} (a i : ℕ) (l : List ℕ) (f : A → ℕ) (xs : List A) {x : A} {w : ℕ} → i < length xs → x ≡ get_or xs i x → w ≡ f x →
    rest a (map f xs) i l ≡ rest a (map f xs) (i + 1) (set l (a + i) w)
put_next a i l f xs {x} {w} h e v =
    let said : w ≡ get_or (map f xs) i 0 = v ∙ ap f e ∙ mapped f xs i x refl h in
    rw said (rest_next a (map f xs) i l (rw (length_mapped f xs refl) h))

-- What owning a record tells of its endpoints.
each_address :
    (eps : List Endpoint) (us : List Val) (i : ℕ) →
    shadow (each the_row.Denot the_row.own_val eps us) → get_or (map address_word eps) i 0 < 256
unfolding address_word
each_address [] us i p = omega arith
each_address (e ∷ eps) [] i p = absurd p
each_address (e ∷ eps) (u ∷ us) zero p = p.0.1.1.0.1
each_address (e ∷ eps) (u ∷ us) (suc i) p = each_address eps us i p.1

pub endpoints_known :
    (eps : List Endpoint) (us : List Val) → shadow (each the_row.Denot the_row.own_val eps us) → Below 256 (map address_word eps)
endpoints_known eps us p = λ i h. each_address eps us i p

-- What an image is.
module _ (l : List ℕ) (e : is_image l ≡ true) where
  bounds :
      (below 2 (SLOT - USABLE) USABLE l
      && (below 256 (LIST - SLOT) SLOT l && (below 4294967296 (SPACING - LIST) LIST l && below 2 (GIVEN-COUNT - UP) UP l)))
      ≡ true
  unfolding is_image
  bounds = and_right (eqb (length l) WORDS) _ e

  numbers : (below 256 (LIST - SLOT) SLOT l && (below 4294967296 (SPACING - LIST) LIST l && below 2 (GIVEN-COUNT - UP) UP l)) ≡ true
  numbers = and_right (below 2 (SLOT - USABLE) USABLE l) _ bounds

  words : (below 4294967296 (SPACING - LIST) LIST l && below 2 (GIVEN-COUNT - UP) UP l) ≡ true
  words = and_right (below 256 (LIST - SLOT) SLOT l) _ numbers

  pub image_length : length l ≡ WORDS
  unfolding is_image
  image_length = eqb-true (length l) WORDS (and_left (eqb (length l) WORDS) _ e)

  pub image_flag : (i : ℕ) → i < SLOT → get_or l i 0 < 2
  image_flag i h = below_in 2 (SLOT - USABLE) USABLE l (and_left (below 2 (SLOT - USABLE) USABLE l) _ bounds) i (omega arith) (omega arith)

  pub image_byte : (i : ℕ) → SLOT ≤ i → i < LIST → get_or l i 0 < 256
  image_byte i g h = below_in 256 (LIST - SLOT) SLOT l (and_left (below 256 (LIST - SLOT) SLOT l) _ numbers) i g (omega arith)

  pub image_word : (i : ℕ) → LIST ≤ i → i < SPACING → get_or l i 0 < 4294967296
  image_word i g h = below_in 4294967296 (SPACING - LIST) LIST l (and_left (below 4294967296 (SPACING - LIST) LIST l) _ words) i g (omega arith)

  pub image_up : get_or l UP 0 < 2
  image_up = below_in 2 (GIVEN-COUNT - UP) UP l (and_right (below 4294967296 (SPACING - LIST) LIST l) _ words) UP (omega arith) (omega arith)

-- A record of what was read.
pub read_of :
    (l : List ℕ) {list interfaces alternates quarantined given : List ℕ} {e : Endpoints} {handle : Handle} →
    list ≡ tabulated (number_at l) LIST-ROOM LIST → e ≡ endpoints_in l → interfaces ≡ tabulated (number_at l) HELD-ROOM INTERFACES →
    alternates ≡ tabulated (number_at l) HELD-ROOM ALTERNATES → handle ≡ handle_in (get_or l CONTROL-REVOKED 0) →
    quarantined ≡ tabulated (number_at l) RING-ROOM QUARANTINED → given ≡ tabulated (number_at l) GIVEN-ROOM GIVEN → is_image l ≡ true →
    numbered l list e interfaces alternates handle quarantined given ≡ decode l
unfolding decode read
read_of l list e interfaces alternates handle quarantined given image =
    rw (image, list, e, interfaces, alternates, handle, quarantined, given)
