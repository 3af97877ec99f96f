-- Over every list of calls no ring that the controller may hold is free.
use Prim.Native.Nat.{ℕ, ◌+◌}
use mathlib.Core.Path.{◌≡◌, refl, sym, ◌∙◌}
use mathlib.Core.Logic.{inl, inr, ⊎_elim}
use mathlib.Core.Bool.{Bool, true, false}
use mathlib.Core.List.{List, [], ◌∷◌}
use Rattle.laws.specs.Distinct.{elem}
use Rattle.laws.proofs.Tests.{not_both}
use Rattle.theorem_routing.proofs.Laws.{each_dci}
use Rattle.device.specs.Device.{no_device, free_of}
use Rattle.theorem_slot.specs.Call.{Buffers, Asked, left}
use Rattle.theorem_slot.specs.Answers.{is_bring_up}
use Rattle.theorem_slot.specs.Plain.{plain_route}
use Rattle.theorem_slot.specs.Theorem.{Turn, after, Between}
use Rattle.theorem_slot.proofs.Demand3.{at_table, stands_between}
use Rattle.theorem_slot.proofs.Good.{Stands, live_tells, usable_live, up_live, route_at}
use Rattle.theorem_slot.proofs.Matched.{Other, stands_other, down_other}
use Rattle.theorem_slot.proofs.Record.{of_record}
use Rattle.theorem_doubt.specs.Doubt.{Watched, watched, watched_after, unborn, AfterAny, NeverFree, NeverDrawn, RoutesHeld, HeldRouted, NeverMismatched}
use Rattle.theorem_doubt.proofs.Held.{Ringed}
use Rattle.theorem_doubt.proofs.Doubts.{NoneFree, Doubts, all_doubts}

-- What is watched beside them are the states of the theorem.
pub watched_state : (took : ℕ → Bool) (turns : List Turn) (w : Watched) → (watched_after took w turns).state ≡ after w.state turns
unfolding watched watched_after after
watched_state took [] w = refl
watched_state took (t ∷ ts) w = watched_state (λ n. took (n + 1)) ts (watched (took 0) w t)

-- From a slot before its first call.
pub after_doubts :
    (P : ℕ → Watched → Type 0) → ((slot : ℕ) (still : ℕ → Bool) (w : Watched) → Doubts slot still w → P slot w) → AfterAny P
unfolding unborn no_device
after_doubts P h slot routes still took turns given o =
    h slot still _ (all_doubts slot still took turns (unborn routes) given o (inl ((refl, refl), λ x. refl)))

pub never_free : NeverFree
never_free = after_doubts (λ slot w. NoneFree w.state.plain w.rings) go
  where
    go : (slot : ℕ) (still : ℕ → Bool) (w : Watched) → Doubts slot still w → NoneFree w.state.plain w.rings
    go slot still w (inl g) x n = absurd (n (g.1 x))
    go slot still w (inr s) x n = s.never x n

pub never_drawn : NeverDrawn
never_drawn =
    after_doubts (λ slot w. w.state.device.up ≡ true → (d : ℕ) → (w.rings d ≡ 0 → ⊥) → elem (w.rings d) (free_of w.state.device) ≡ false) go
  where
    go :
        (slot : ℕ) (still : ℕ → Bool) (w : Watched) → Doubts slot still w → w.state.device.up ≡ true → (d : ℕ) → (w.rings d ≡ 0 → ⊥) →
        elem (w.rings d) (free_of w.state.device) ≡ false
    go slot still w (inl g) u x n = absurd (n (g.1 x))
    go slot still w (inr s) u x n =
        let l = up_live slot s.so_far.base w.state s.so_far.stands u in
        sym ((of_record w.state.device l.is_sound w.state.plain.groups l.groups).free (w.rings x)) ∙ s.never x n

pub held_routed : HeldRouted
held_routed = after_doubts (λ slot w. w.state.device.usable ≡ true → RoutesHeld w) go
  where
    holds : (slot : ℕ) (w : Watched) (base : List ℕ) → Stands slot base w.state → Ringed w.state.device w.rings → w.state.device.usable ≡ true → RoutesHeld w
    holds slot w base g r u =
        let t = live_tells slot w.state.device w.state.plain (usable_live slot base w.state g u) in
        record {
          control = r.first u;
          endpoints =
              each_dci (λ d. w.rings d ≡ plain_route w.state.plain d) (λ q h. r.own u q h ∙ sym (t.ring q h) ∙ sym (route_at w.state.plain q h));
        }

    go : (slot : ℕ) (still : ℕ → Bool) (w : Watched) → Doubts slot still w → w.state.device.usable ≡ true → RoutesHeld w
    go slot still w (inl g) u = not_both w.state.device.usable u g.0.0
    go slot still w (inr s) u =
        ⊎_elim (λ x. holds slot w s.so_far.base s.so_far.stands x.1 u) (λ n. not_both w.state.device.usable u n.0) s.held

pub never_mismatched : NeverMismatched
never_mismatched =
    after_doubts
    (λ slot w.
    (asked : Asked) (b : Buffers) (still : ℕ → Bool) (table : List ℕ) → is_bring_up asked ≡ false → Between slot still w.state.routes table →
    Other (left asked b w.state.device table).answer)
    go
  where
    go :
        (slot : ℕ) (still : ℕ → Bool) (w : Watched) → Doubts slot still w → (asked : Asked) (b : Buffers) (others : ℕ → Bool) (table : List ℕ) →
        is_bring_up asked ≡ false → Between slot others w.state.routes table → Other (left asked b w.state.device table).answer
    go slot still w (inl g) asked b others table e t = down_other asked b w.state.device table g.0 e
    go slot still w (inr s) asked b others table e t =
        stands_other slot _ (at_table w.state table) (stands_between slot others s.so_far.base w.state table t s.so_far.stands) asked b e
