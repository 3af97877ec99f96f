-- The three groups beside a record's rings: what the calls make of both.
use Prim.Native.Nat.{ℕ}
use mathlib.Core.Path.{◌≡◌, refl}
use mathlib.Core.Bool.{Bool, true, false, not, ◌&&◌, ◌||◌}
use mathlib.Core.List.{List}
use Rattle.laws.specs.Distinct.{elem}
use Rattle.laws.proofs.Tests.{and-true}
use Rattle.transfer.specs.Routes.{Queue}
use Rattle.theorem_slot.specs.Groups.{Groups, keeps, claimed_groups, broken_groups, returned_groups, ended_groups, doubted_groups}
use Rattle.theorem_slot.proofs.Bools.{Tests, implies, implies_if, alike, law}

-- The rings that endpoints or control use and those in quarantine, of given ones, are the groups'.
pub record Agree (rings : List ℕ) (used doubted : ℕ → Bool) (g : Groups) : Type 0 where
  pub given : g.given ≡ rings
  pub live : (x : ℕ) → g.live x ≡ (used x && not (doubted x))
  pub free : (x : ℕ) → g.free x ≡ (elem x rings && (not (used x) && not (doubted x)))
  pub quarantined : (x : ℕ) → g.quarantined x ≡ doubted x

-- The same groups beside the same rings otherwise told.
pub agree_same :
    (rings : List ℕ) (u q v r : ℕ → Bool) (g : Groups) → Agree rings u q g → ((x : ℕ) → v x ≡ u x) → ((x : ℕ) → r x ≡ q x) →
    Agree rings v r g
agree_same rings u q v r g a e f =
    record {
      given = a.given;
      live = λ x. rw (e x, f x) (a.live x);
      free = λ x. rw (e x, f x) (a.free x);
      quarantined = λ x. rw (f x) (a.quarantined x);
    }

-- Of a ring that is given, used, in quarantine, kept, old: a kept one is free, an old one live.
abbrev moves : Tests
moves m u q k o = implies k (m && (not u && not q)) && implies o (m && (u && not q))

module _ (rings : List ℕ) (u q : ℕ → Bool) (g : Groups) (a : Agree rings u q g) (k o : ℕ → Bool)
    (drawn : (x : ℕ) → k x ≡ true → (elem x rings && (not (u x) && not (q x))) ≡ true)
    (held : (x : ℕ) → o x ≡ true → (elem x rings && (u x && not (q x))) ≡ true) where
  premise : (x : ℕ) → moves (elem x rings) (u x) (q x) (k x) (o x) ≡ true
  premise x = and-true _ _ (implies_if (k x) _ (drawn x)) (implies_if (o x) _ (held x))

  by_law :
      (l r : Tests) → alike moves l r ≡ true → (x : ℕ) →
      l (elem x rings) (u x) (q x) (k x) (o x) ≡ r (elem x rings) (u x) (q x) (k x) (o x)
  by_law l r e x = law moves l r e (elem x rings) (u x) (q x) (k x) (o x) (premise x)

  -- A claim is accepted.
  pub agree_claimed :
      (new old : List Queue) (v : ℕ → Bool) → ((x : ℕ) → keeps x new ≡ k x) → ((x : ℕ) → keeps x old ≡ o x) →
      ((x : ℕ) → v x ≡ ((u x && not (o x)) || k x)) → Agree rings v q (claimed_groups new old g)
  unfolding claimed_groups
  agree_claimed new old v kept returned made =
      record {
        given = a.given;
        live = λ x.
            rw (a.live x, kept x, returned x, made x)
            (by_law (λ m u q k o. ((u && not q) && not o) || k) (λ m u q k o. ((u && not o) || k) && not q) refl x);
        free = λ x.
            rw (a.free x, kept x, returned x, made x)
            (by_law (λ m u q k o. ((m && (not u && not q)) && not k) || o) (λ m u q k o. m && (not ((u && not o) || k) && not q)) refl x);
        quarantined = a.quarantined;
      }

  -- A claim is broken.
  pub agree_broken :
      (new : List Queue) (r : ℕ → Bool) → ((x : ℕ) → keeps x new ≡ k x) → ((x : ℕ) → r x ≡ (q x || k x)) →
      Agree rings u r (broken_groups new g)
  unfolding broken_groups
  agree_broken new r kept made =
      record {
        given = a.given;
        live = λ x.
            rw (a.live x, made x)
            (by_law (λ m u q k o. u && not q) (λ m u q k o. u && not (q || k)) refl x);
        free = λ x.
            rw (a.free x, kept x, made x)
            (by_law (λ m u q k o. (m && (not u && not q)) && not k) (λ m u q k o. m && (not u && not (q || k))) refl x);
        quarantined = λ x. rw (a.quarantined x, kept x, made x) refl;
      }

  -- Settings end.
  pub agree_returned :
      (old : List Queue) (v : ℕ → Bool) → ((x : ℕ) → keeps x old ≡ o x) → ((x : ℕ) → v x ≡ (u x && not (o x))) →
      Agree rings v q (returned_groups old g)
  unfolding returned_groups
  agree_returned old v returned made =
      record {
        given = a.given;
        live = λ x.
            rw (a.live x, returned x, made x)
            (by_law (λ m u q k o. (u && not q) && not o) (λ m u q k o. (u && not o) && not q) refl x);
        free = λ x.
            rw (a.free x, returned x, made x)
            (by_law (λ m u q k o. (m && (not u && not q)) || o) (λ m u q k o. m && (not (u && not o) && not q)) refl x);
        quarantined = a.quarantined;
      }

  -- Settings end in a call that is lost.
  pub agree_lost :
      (old : List Queue) (v r : ℕ → Bool) → ((x : ℕ) → keeps x old ≡ o x) → ((x : ℕ) → v x ≡ (u x && not (o x))) →
      ((x : ℕ) → r x ≡ (q x || o x)) → Agree rings v r (ended_groups old g)
  unfolding ended_groups
  agree_lost old v r returned made doubted =
      record {
        given = a.given;
        live = λ x.
            rw (a.live x, returned x, made x, doubted x)
            (by_law (λ m u q k o. (u && not q) && not o) (λ m u q k o. (u && not o) && not (q || o)) refl x);
        free = λ x.
            rw (a.free x, made x, doubted x)
            (by_law (λ m u q k o. m && (not u && not q)) (λ m u q k o. m && (not (u && not o) && not (q || o))) refl x);
        quarantined = λ x. rw (a.quarantined x, returned x, doubted x) refl;
      }

  -- An unplugging is broken.
  pub agree_doubted : (r : ℕ → Bool) → ((x : ℕ) → r x ≡ (q x || u x)) → Agree rings u r (doubted_groups g)
  unfolding doubted_groups
  agree_doubted r made =
      record {
        given = a.given;
        live = λ x.
            rw (made x)
            (by_law (λ m u q k o. false) (λ m u q k o. u && not (q || u)) refl x);
        free = λ x.
            rw (a.free x, made x)
            (by_law (λ m u q k o. m && (not u && not q)) (λ m u q k o. m && (not u && not (q || u))) refl x);
        quarantined = λ x.
            rw (a.quarantined x, a.live x, made x)
            (by_law (λ m u q k o. q || (u && not q)) (λ m u q k o. q || u) refl x);
      }
