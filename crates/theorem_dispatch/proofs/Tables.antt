-- Tables that a slot cannot tell apart are changed alike by what its calls do to them.
use Prim.Native.Nat.{ℕ, suc, ◌+◌, ◌*◌, ◌<◌, ◌≤◌}
use mathlib.Core.Path.{◌≡◌, refl, sym, ◌∙◌}
use Rattle.std.proofs.Common.{Result, Ok, Err}
use mathlib.Core.List.{List, [], ◌∷◌}
use native.Mathlib.Omega.{arith}
use native.Mathlib.Decide.{ℕ_discrete, dec_lt}
use lib.ListN.{length, get_or, set, length-set, replicate, get_or-eq_default}
use lib.Seq.{sets, get_or-set_same, get_or-set_other}
use Rattle.transfer.specs.declared.RouteError.{RouteError}
use Rattle.transfer.specs.Routes.{Queue, route_index, route_of, with_route, without_slot, old_match, is_free, new_free, replaced, cleared, published, moved, with_replaced, Small}
use Rattle.theorem_dispatch.specs.Isolation.{SameWords}

pub same_set : (slot : ℕ) (t u : List ℕ) (dci ring : ℕ) → dci < 32 → SameWords slot t u → SameWords slot (with_route t slot dci ring) (with_route u slot dci ring)
unfolding with_route route_of route_index
same_set slot t u dci ring h s =
    record {
      long = length-set u (32 * slot + dci) ring ∙ s.long ∙ sym (length-set t (32 * slot + dci) ring);
      own = λ d l. at d l (ℕ_discrete d dci) (dec_lt (32 * slot + dci) (length t));
    }
  where
    at : (d : ℕ) → d < 32 → Dec (d ≡ dci) → Dec (32 * slot + dci < length t) →
        get_or (set u (32 * slot + dci) ring) (32 * slot + d) 0 ≡ get_or (set t (32 * slot + dci) ring) (32 * slot + d) 0
    at d l (no n) i =
        get_or-set_other u (32 * slot + dci) (32 * slot + d) ring 0 (λ e. n (omega arith))
        ∙ s.own d l
        ∙ sym (get_or-set_other t (32 * slot + dci) (32 * slot + d) ring 0 (λ e. n (omega arith)))
    at d l (yes e) (yes i) =
        rw e (get_or-set_same u (32 * slot + dci) ring 0 (let k = s.long in omega arith) ∙ sym (get_or-set_same t (32 * slot + dci) ring 0 i))
    at d l (yes e) (no i) =
        get_or-eq_default (set u (32 * slot + dci) ring) 0 (let k = length-set u (32 * slot + dci) ring in let m = s.long in omega (arith, e, i))
        ∙ sym (get_or-eq_default (set t (32 * slot + dci) ring) 0 (let k = length-set t (32 * slot + dci) ring in omega (arith, e, i)))

pub same_cleared : (slot : ℕ) (t u : List ℕ) (qs : List Queue) → Small qs → SameWords slot t u → SameWords slot (cleared t slot qs) (cleared u slot qs)
unfolding cleared Small
same_cleared slot t u [] m s = s
same_cleared slot t u (q ∷ qs) m s = same_cleared slot (with_route t slot q.dci 0) (with_route u slot q.dci 0) qs m.1 (same_set slot t u q.dci 0 m.0 s)

pub same_published : (slot : ℕ) (t u : List ℕ) (qs : List Queue) → Small qs → SameWords slot t u → SameWords slot (published t slot qs) (published u slot qs)
unfolding published Small
same_published slot t u [] m s = s
same_published slot t u (q ∷ qs) m s = same_published slot (with_route t slot q.dci q.ring) (with_route u slot q.dci q.ring) qs m.1 (same_set slot t u q.dci q.ring m.0 s)

same_old : (slot : ℕ) (t u : List ℕ) (qs : List Queue) → Small qs → SameWords slot t u → old_match u slot qs ≡ old_match t slot qs
unfolding old_match Small
same_old slot t u [] m s = refl
same_old slot t u (q ∷ qs) m s = rw (s.own q.dci m.0, same_old slot t u qs m.1 s)

same_new : (slot : ℕ) (t u : List ℕ) (old qs : List Queue) → Small qs → SameWords slot t u → new_free u slot old qs ≡ new_free t slot old qs
unfolding new_free is_free Small
same_new slot t u old [] m s = refl
same_new slot t u old (q ∷ qs) m s = rw (s.own q.dci m.0, same_new slot t u old qs m.1 s)

module _ (slot : ℕ) (t u : List ℕ) (old new : List Queue) (a : Small old) (b : Small new) (s : SameWords slot t u) where
  pub same_answer : replaced u slot old new ≡ replaced t slot old new
  unfolding replaced
  same_answer = rw (same_old slot t u old a s, same_new slot t u old new b s)

  same_moved : (r : Result Unit RouteError) → SameWords slot (moved r t slot old new) (moved r u slot old new)
  unfolding moved
  same_moved (Ok _) = same_published slot (cleared t slot old) (cleared u slot old) new b (same_cleared slot t u old a s)
  same_moved (Err _) = s

  pub same_replaced : SameWords slot (with_replaced t slot old new) (with_replaced u slot old new)
  unfolding with_replaced
  same_replaced = rw same_answer (same_moved (replaced t slot old new))

set_there : (slot : ℕ) (t u : List ℕ) (i k w : ℕ) → i ≡ 32 * slot + k → k < 32 → SameWords slot t u → SameWords slot (set t i w) (set u i w)
unfolding with_route route_index
set_there slot t u i k w e h s = rw e (same_set slot t u k w h s)

same_sets : (slot : ℕ) (ws : List ℕ) (i k : ℕ) (t u : List ℕ) → i ≡ 32 * slot + k → k + length ws ≤ 32 → SameWords slot t u → SameWords slot (sets t i ws) (sets u i ws)
same_sets slot [] i k t u e h s = s
same_sets slot (w ∷ ws) i k t u e h s =
    same_sets slot ws (suc i) (suc k) (set t i w) (set u i w) (omega arith) (omega arith) (set_there slot t u i k w e (omega arith) s)

pub same_without : (slot : ℕ) (t u : List ℕ) → SameWords slot t u → SameWords slot (without_slot t slot) (without_slot u slot)
unfolding without_slot
same_without slot t u s = same_sets slot (replicate 32 0) (32 * slot) 0 t u (omega arith) (omega arith) s
