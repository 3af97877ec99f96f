-- Which lists give 4 and which 26 is what specs/Descriptors.antt says.
use Prim.Native.Nat.{ℕ, zero, suc, ◌/◌, ◌%◌, ◌^◌, ◌≤◌, ◌<◌}
use mathlib.Core.Path.{◌≡◌, refl, sym, ap, ◌∙◌}
use mathlib.Core.Logic.{◌⊎◌, inl, inr, ⊎_elim}
use mathlib.Core.Bool.{Bool, true, false, not, cond, ◌&&◌, ◌||◌}
use mathlib.Core.List.{List, [], ◌∷◌}
use native.Mathlib.Omega.{arith}
use borrow.Author.Tests.{eqb-true, eqb-false, eq-eqb, ne_eqb, le-leb, leb-true, not-true}
use lib.Dec.{eqb, leb}
use lib.ListN.{length, get_or}
use Rattle.laws.proofs.Tests.{and_left, and_right, and-true, not_both}
use Rattle.laws.proofs.Cases.{Decided, decided}
use Rattle.def.specs.Speed.{is_super}
use Rattle.descriptor.specs.Word.{kind, is_companion, type_number, companion_mult, companion_ok}
use Rattle.descriptor_list.specs.Valid.{begins_with_configuration, valid_list}
use Rattle.descriptor_list.specs.Companions.{joined, companions_ok, list_ok, mult_room, follows, paired_after, paired, companions_fit}
use Rattle.descriptor_list.specs.Promises.{passed_over}
use Rattle.descriptor_list.proofs.Passed.{valid_passed}
use Rattle.theorem_checks.specs.Descriptors.{bits, IsCompanion, IsEndpoint, IsSuper, ListFits, ListTells, HasCompanion, CompanionsFit, CompanionsTell}
use Rattle.theorem_checks.proofs.Descriptors.{begins_read, begins_made, valid_tells}

super_read : (s : ℕ) → is_super s ≡ true → IsSuper s
unfolding is_super
super_read s e = (leb-true 4 s (and_left (leb 4 s) (leb s 5) e), leb-true s 5 (and_right (leb 4 s) (leb s 5) e))

super_made : (s : ℕ) → IsSuper s → is_super s ≡ true
unfolding is_super
super_made s h = and-true (leb 4 s) (leb s 5) (le-leb 4 s h.0) (le-leb s 5 h.1)

-- Companions by themselves.
abbrev Alone : Bool → ℕ → Type 0
Alone super w = IsCompanion w → (super ≡ true) × (w % 2 ^ 8 ≡ 0)

one_read : (super : Bool) (w : ℕ) → (not (is_companion w) || (super && companion_ok w)) ≡ true → Alone super w
unfolding is_companion kind companion_ok
one_read super w e c =
    let t : (super && eqb (w % 2 ^ 8) 0) ≡ true = rw c at e in
    (and_left super _ t, eqb-true (w % 2 ^ 8) 0 (and_right super _ t))

one_made : (super : Bool) (w : ℕ) → Alone super w → (not (is_companion w) || (super && companion_ok w)) ≡ true
unfolding is_companion kind companion_ok
one_made super w f = go (decided (eqb (bits 30 2 w) 3))
  where
    go : Decided (eqb (bits 30 2 w) 3) → (not (eqb (bits 30 2 w) 3) || (super && eqb (w % 2 ^ 8) 0)) ≡ true
    go (inl p) = let t = f (eqb-true (bits 30 2 w) 3 p) in rw (p, t.0, eq-eqb (w % 2 ^ 8) 0 t.1)
    go (inr p) = rw p

alone_read : (super : Bool) (l : List ℕ) → companions_ok super l ≡ true → (k : ℕ) → k < length l → Alone super (get_or l k 0)
unfolding companions_ok
alone_read super [] e k h = absurd (omega arith)
alone_read super (w ∷ l) e zero h = one_read super w (and_left _ (companions_ok super l) e)
alone_read super (w ∷ l) e (suc k) h = alone_read super l (and_right _ (companions_ok super l) e) k (omega arith)

alone_made : (super : Bool) (l : List ℕ) → ((k : ℕ) → k < length l → Alone super (get_or l k 0)) → companions_ok super l ≡ true
unfolding companions_ok
alone_made super [] f = refl
alone_made super (w ∷ l) f =
    and-true _ (companions_ok super l) (one_made super w (f 0 (omega arith))) (alone_made super l (λ k h. f (suc k) (omega arith)))

list_read : (speed : ℕ) (l : List ℕ) → list_ok speed l ≡ true → ListFits speed l
unfolding list_ok
list_read speed l e =
    let e1 : (begins_with_configuration l && (companions_ok (is_super speed) l && valid_list (joined l))) ≡ true =
    and_right (leb (length l) 256) _ e in
    let e2 : (companions_ok (is_super speed) l && valid_list (joined l)) ≡ true = and_right (begins_with_configuration l) _ e1 in
    let alone = alone_read (is_super speed) l (and_left (companions_ok (is_super speed) l) _ e2) in
    record {
      few = leb-true (length l) 256 (and_left (leb (length l) 256) _ e);
      begins = begins_read l (and_left (begins_with_configuration l) _ e1);
      companions = λ k h c. let t = alone k h c in (super_read speed t.0, t.1);
      others = (valid_tells (passed_over l)).0 (sym (valid_passed l) ∙ and_right (companions_ok (is_super speed) l) _ e2);
    }

list_made : (speed : ℕ) (l : List ℕ) → ListFits speed l → list_ok speed l ≡ true
unfolding list_ok
list_made speed l f =
    rw (
      le-leb (length l) 256 f.few,
      begins_made l f.begins,
      alone_made (is_super speed) l (λ k h c. let t = f.companions k h c in (super_made speed t.0, t.1)),
      valid_passed l,
      (valid_tells (passed_over l)).1 f.others,
    )

pub list_tells : ListTells
list_tells speed l = (list_read speed l, list_made speed l)

-- Pairs, from a word before the list on.
record Behind (p : ℕ) (l : List ℕ) : Type 0 where
  each : (k : ℕ) → k < suc (length l) → IsEndpoint (get_or (p ∷ l) k 0) → HasCompanion (p ∷ l) k
  others : (k : ℕ) → k < length l → IsCompanion (get_or l k 0) → IsEndpoint (get_or (p ∷ l) k 0)

-- a word directly behind another
follows_read : (p w : ℕ) (l : List ℕ) → follows p w ≡ true →
    (IsEndpoint p → HasCompanion (p ∷ (w ∷ l)) 0) × (IsCompanion w → IsEndpoint p)
unfolding follows is_companion kind mult_room type_number companion_mult
follows_read p w l e = (has, back (decided (eqb (bits 30 2 p) 2)))
  where
    has : IsEndpoint p → HasCompanion (p ∷ (w ∷ l)) 0
    has i =
        let t : (eqb (bits 30 2 w) 3 && leb (bits 24 2 w) (cond (eqb (bits 23 2 p) 1) 2 0)) ≡ true = rw i at e in
        let m : bits 24 2 w ≤ cond (eqb (bits 23 2 p) 1) 2 0 = leb-true _ _ (and_right (eqb (bits 30 2 w) 3) _ t) in
        record {
          inside = omega arith;
          kind = eqb-true (bits 30 2 w) 3 (and_left (eqb (bits 30 2 w) 3) _ t);
          isochronous = λ s. rw s at m;
          other = λ n. let z : bits 24 2 w ≤ 0 = rw (ne_eqb (bits 23 2 p) 1 n) at m in omega (arith, z);
        }

    back : Decided (eqb (bits 30 2 p) 2) → IsCompanion w → IsEndpoint p
    back (inl q) c = eqb-true (bits 30 2 p) 2 q
    back (inr q) c = let z : false ≡ true = rw (q, c) at e in not_both false z refl

follows_made : (p w : ℕ) (l : List ℕ) → (IsEndpoint p → HasCompanion (p ∷ (w ∷ l)) 0) → (IsCompanion w → IsEndpoint p) → follows p w ≡ true
unfolding follows is_companion kind mult_room type_number companion_mult
follows_made p w l f g = go (decided (eqb (bits 30 2 p) 2))
  where
    room : HasCompanion (p ∷ (w ∷ l)) 0 → Decided (eqb (bits 23 2 p) 1) → leb (bits 24 2 w) (cond (eqb (bits 23 2 p) 1) 2 0) ≡ true
    room h (inl i) = rw i (le-leb (bits 24 2 w) 2 (h.isochronous (eqb-true (bits 23 2 p) 1 i)))
    room h (inr i) = rw (i, h.other (eqb-false (bits 23 2 p) 1 i))

    plain : (eqb (bits 30 2 p) 2 ≡ false) → Decided (eqb (bits 30 2 w) 3) → not (eqb (bits 30 2 w) 3) ≡ true
    plain q (inl c) = not_both (eqb (bits 30 2 p) 2) (eq-eqb (bits 30 2 p) 2 (g (eqb-true (bits 30 2 w) 3 c))) q
    plain q (inr c) = rw c

    go : Decided (eqb (bits 30 2 p) 2) →
        cond (eqb (bits 30 2 p) 2) (eqb (bits 30 2 w) 3 && leb (bits 24 2 w) (cond (eqb (bits 23 2 p) 1) 2 0)) (not (eqb (bits 30 2 w) 3)) ≡ true
    go (inl q) =
        let h = f (eqb-true (bits 30 2 p) 2 q) in
        rw q (and-true (eqb (bits 30 2 w) 3) _ (eq-eqb (bits 30 2 w) 3 h.kind) (room h (decided (eqb (bits 23 2 p) 1))))
    go (inr q) = rw q (plain q (decided (eqb (bits 30 2 w) 3)))

-- one place further on
further : (p : ℕ) (l : List ℕ) (k : ℕ) → HasCompanion l k → HasCompanion (p ∷ l) (suc k)
further p l k h = record { inside = omega (arith, h.inside); kind = h.kind; isochronous = h.isochronous; other = h.other }

nearer : (p : ℕ) (l : List ℕ) (k : ℕ) → HasCompanion (p ∷ l) (suc k) → HasCompanion l k
nearer p l k h = record { inside = omega (arith, h.inside); kind = h.kind; isochronous = h.isochronous; other = h.other }

behind_more : (p w : ℕ) (l : List ℕ) → (IsEndpoint p → HasCompanion (p ∷ (w ∷ l)) 0) × (IsCompanion w → IsEndpoint p) → Behind w l → Behind p (w ∷ l)
behind_more p w l here rest = record { each = each; others = others }
  where
    each : (k : ℕ) → k < suc (length (w ∷ l)) → IsEndpoint (get_or (p ∷ (w ∷ l)) k 0) → HasCompanion (p ∷ (w ∷ l)) k
    each zero h i = here.0 i
    each (suc k) h i = further p (w ∷ l) k (rest.each k (omega arith) i)

    others : (k : ℕ) → k < length (w ∷ l) → IsCompanion (get_or (w ∷ l) k 0) → IsEndpoint (get_or (p ∷ (w ∷ l)) k 0)
    others zero h c = here.1 c
    others (suc k) h c = rest.others k (omega arith) c

behind_read : (p : ℕ) (l : List ℕ) → paired_after p l ≡ true → Behind p l
unfolding paired_after kind
behind_read p [] e = record { each = last; others = λ k h c. absurd (omega arith) }
  where
    last : (k : ℕ) → k < 1 → IsEndpoint (get_or (p ∷ []) k 0) → HasCompanion (p ∷ []) k
    last zero h i = let z : false ≡ true = rw i at e in not_both false z refl
    last (suc k) h i = absurd (omega arith)
behind_read p (w ∷ l) e = behind_more p w l (follows_read p w l (and_left (follows p w) _ e)) (behind_read w l (and_right (follows p w) _ e))

behind_made : (p : ℕ) (l : List ℕ) → Behind p l → paired_after p l ≡ true
unfolding paired_after kind
behind_made p [] b = go (decided (eqb (bits 30 2 p) 2))
  where
    go : Decided (eqb (bits 30 2 p) 2) → not (eqb (bits 30 2 p) 2) ≡ true
    go (inl q) = let h = b.each 0 (omega arith) (eqb-true (bits 30 2 p) 2 q) in let z : 1 < 1 = h.inside in absurd (omega arith)
    go (inr q) = rw q
behind_made p (w ∷ l) b =
    and-true (follows p w) (paired_after w l)
    (follows_made p w l (b.each 0 (omega arith)) (b.others 0 (omega arith)))
    (behind_made w l
    (record {
      each = λ k h i. nearer p (w ∷ l) k (b.each (suc k) (omega arith) i);
      others = λ k h c. b.others (suc k) (omega arith) c;
    }))

-- A whole list: before its first word stands a configuration's.
none : IsEndpoint 0 → ⊥
none i = let z : ◌≡◌ {A = ℕ} 0 2 = i in absurd (omega arith)

pairs_read : (l : List ℕ) → paired l ≡ true → CompanionsFit l
unfolding paired
pairs_read l e =
    let b = behind_read 0 l e in
    record {
      each = λ k h i. nearer 0 l k (b.each (suc k) (omega arith) i);
      first = λ h c. none (b.others 0 h c);
      others = λ k h c. b.others (suc k) h c;
    }

pairs_made : (l : List ℕ) → CompanionsFit l → paired l ≡ true
unfolding paired
pairs_made l f = behind_made 0 l (record { each = each; others = others })
  where
    each : (k : ℕ) → k < suc (length l) → IsEndpoint (get_or (0 ∷ l) k 0) → HasCompanion (0 ∷ l) k
    each zero h i = absurd (none i)
    each (suc k) h i = further 0 l k (f.each k (omega arith) i)

    others : (k : ℕ) → k < length l → IsCompanion (get_or l k 0) → IsEndpoint (get_or (0 ∷ l) k 0)
    others zero h c = absurd (f.first h c)
    others (suc k) h c = f.others k h c

pub companions_tell : CompanionsTell
unfolding companions_fit
companions_tell speed l = (read, made (decided (is_super speed)))
  where
    read : (not (is_super speed) || paired l) ≡ true → IsSuper speed → CompanionsFit l
    read e s = let z : paired l ≡ true = rw (super_made speed s) at e in pairs_read l z

    made : Decided (is_super speed) → (IsSuper speed → CompanionsFit l) → (not (is_super speed) || paired l) ≡ true
    made (inl p) f = rw p (pairs_made l (f (super_read speed p)))
    made (inr p) f = rw p
