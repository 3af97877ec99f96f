-- The rings given to a slot in three groups, free, live and quarantined, and what the calls make of them: each group by its own rule.
use Rattle.std.specs.Prelude.{ℕ, ◌+◌, ◌≡◌, Bool, true, false, not, cond, ◌&&◌, ◌||◌, List, [], ◌∷◌, eqb, length}
use Rattle.laws.specs.Distinct.{elem, distinct}
use Rattle.transfer.specs.Routes.{Queue, names}
use Rattle.record_ring.specs.Store.{lowest, least}

pub record Groups : Type 0 where
  pub given : List ℕ
  pub free : ℕ → Bool
  pub live : ℕ → Bool
  pub quarantined : ℕ → Bool

-- From a bring-up that passes its checks on: the lowest is control's and live, the others are free.
unfoldable pub given_groups : List ℕ → Groups
given_groups rings =
    record {
      given = rings;
      free = λ x. elem x rings && not (eqb x (least rings));
      live = λ x. eqb x (least rings);
      quarantined = λ x. false;
    }

-- Of some rings, those of a group.
unfoldable pub chosen : (ℕ → Bool) → List ℕ → List ℕ
chosen group [] = []
chosen group (r ∷ rings) = cond (group r) (r ∷ chosen group rings) (chosen group rings)

-- The rings that a claim of so many endpoint words draws: the lowest free ones.
unfoldable pub drawn_from : Groups → ℕ → List ℕ
drawn_from g n = lowest n (chosen g.free g.given)

-- Whether an endpoint keeps a ring: of a repeated address the last word's is kept.
unfoldable pub keeps : ℕ → List Queue → Bool
keeps x [] = false
keeps x (q ∷ qs) = (eqb x q.ring && not (names q.dci qs)) || keeps x qs

-- A claim is accepted: the kept rings are live, those of the interface's old setting free.
unfoldable pub claimed_groups : List Queue → List Queue → Groups → Groups
claimed_groups new old g =
    record {
      given = g.given;
      free = λ x. (g.free x && not (keeps x new)) || keeps x old;
      live = λ x. (g.live x && not (keeps x old)) || keeps x new;
      quarantined = g.quarantined;
    }

-- A claim is lost after a Configure was sent: the kept rings are quarantined.
unfoldable pub broken_groups : List Queue → Groups → Groups
broken_groups new g =
    record {
      given = g.given;
      free = λ x. g.free x && not (keeps x new);
      live = g.live;
      quarantined = λ x. g.quarantined x || keeps x new;
    }

-- Settings end, by a release or a set configuration: their rings are free.
unfoldable pub returned_groups : List Queue → Groups → Groups
returned_groups old g =
    record {
      given = g.given;
      free = λ x. g.free x || keeps x old;
      live = λ x. g.live x && not (keeps x old);
      quarantined = g.quarantined;
    }

-- Settings end in a set configuration that is lost: their rings are quarantined.
unfoldable pub ended_groups : List Queue → Groups → Groups
ended_groups old g =
    record {
      given = g.given;
      free = g.free;
      live = λ x. g.live x && not (keeps x old);
      quarantined = λ x. g.quarantined x || keeps x old;
    }

-- An unplugging is accepted: every live ring is free, control's too.
unfoldable pub freed_groups : Groups → Groups
freed_groups g =
    record { given = g.given; free = λ x. g.free x || g.live x; live = λ x. false; quarantined = g.quarantined }

-- An unplugging is answered with 14: every live ring is quarantined, control's too.
unfoldable pub doubted_groups : Groups → Groups
doubted_groups g =
    record { given = g.given; free = g.free; live = λ x. false; quarantined = λ x. g.quarantined x || g.live x }

-- Exactly one of three.
unfoldable pub only_one : Bool → Bool → Bool → Bool
only_one a b c = (a && (not b && not c)) || ((not a && (b && not c)) || (not a && (not b && c)))

-- Each given ring is in exactly one group, no other ring is in any, and the three counts add up to the number given.
pub record Parted (g : Groups) : Type 0 where
  pub apart : distinct g.given ≡ true
  pub one : (x : ℕ) → elem x g.given ≡ true → only_one (g.free x) (g.live x) (g.quarantined x) ≡ true
  pub none : (x : ℕ) → elem x g.given ≡ false → (g.free x || (g.live x || g.quarantined x)) ≡ false
  pub together :
      length (chosen g.free g.given) + (length (chosen g.live g.given) + length (chosen g.quarantined g.given))
      ≡ length g.given
