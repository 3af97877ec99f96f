-- The route table of all slots, from 01, "Routes" and "replace_queues".
use Rattle.std.specs.Prelude.{ℕ, ◌+◌, ◌*◌, ◌≤◌, ◌<◌, Bool, true, false, cond, ◌&&◌, ◌||◌, List, [], ◌∷◌, ◌⊎◌, eqb, get_or, set, drop, replicate, Result, Ok, Err}
use Rattle.std.proofs.lemmas.List.Edits.{sets}
use Rattle.transfer.specs.declared.RouteError.{RouteError}
use Rattle.transfer.specs.declared.RouteError.TheVariants.{InvalidEndpoint, QueueFull}

-- Word 32 × slot + Dci is a ring's bus address; 0 is none.
unfoldable pub route_index : ℕ → ℕ → ℕ
route_index slot dci = 32 * slot + dci

unfoldable pub route_of : List ℕ → ℕ → ℕ → ℕ
route_of routes slot dci = get_or routes (route_index slot dci) 0

unfoldable pub with_route : List ℕ → ℕ → ℕ → ℕ → List ℕ
with_route routes slot dci ring = set routes (route_index slot dci) ring

-- The table without any route of a slot.
unfoldable pub without_slot : List ℕ → ℕ → List ℕ
without_slot routes slot = sets routes (32 * slot) (replicate 32 0)

-- An endpoint and its ring.
pub record Queue : Type 0 where
  pub dci : ℕ
  pub ring : ℕ

-- What `register_queue` answers, and the table that it leaves.
unfoldable pub registered : List ℕ → ℕ → ℕ → Result Unit RouteError
registered routes slot dci = cond (eqb (route_of routes slot dci) 0) (Ok tt) (Err QueueFull)

unfoldable pub with_registered : List ℕ → ℕ → ℕ → ℕ → List ℕ
with_registered routes slot dci ring = cond (eqb (route_of routes slot dci) 0) (with_route routes slot dci ring) routes

-- Whether one of the queues is of this endpoint.
unfoldable pub names : ℕ → List Queue → Bool
names d [] = false
names d (q ∷ qs) = eqb q.dci d || names d qs

-- Each old endpoint's route is its ring.
unfoldable pub old_match : List ℕ → ℕ → List Queue → Bool
old_match routes slot [] = true
old_match routes slot (q ∷ qs) = eqb (route_of routes slot q.dci) q.ring && old_match routes slot qs

-- A new endpoint's route is none, or an old endpoint's, or its own ring already.
unfoldable pub is_free : List ℕ → ℕ → List Queue → Queue → Bool
is_free routes slot old q =
    (eqb (route_of routes slot q.dci) 0 || names q.dci old) || eqb (route_of routes slot q.dci) q.ring

unfoldable pub new_free : List ℕ → ℕ → List Queue → List Queue → Bool
new_free routes slot old [] = true
new_free routes slot old (q ∷ qs) = is_free routes slot old q && new_free routes slot old qs

-- What `replace_queues` answers: all old routes are checked, then all new ones.
unfoldable pub replaced : List ℕ → ℕ → List Queue → List Queue → Result Unit RouteError
replaced routes slot old new =
    cond (old_match routes slot old)
    (cond (new_free routes slot old new) (Ok tt) (Err QueueFull))
    (Err InvalidEndpoint)

unfoldable pub cleared : List ℕ → ℕ → List Queue → List ℕ
cleared routes slot [] = routes
cleared routes slot (q ∷ qs) = cleared (with_route routes slot q.dci 0) slot qs

unfoldable pub published : List ℕ → ℕ → List Queue → List ℕ
published routes slot [] = routes
published routes slot (q ∷ qs) = published (with_route routes slot q.dci q.ring) slot qs

-- The table that it leaves: only where both checks hold is anything moved.
unfoldable pub moved : Result Unit RouteError → List ℕ → ℕ → List Queue → List Queue → List ℕ
moved (Ok _) routes slot old new = published (cleared routes slot old) slot new
moved (Err _) routes slot old new = routes

unfoldable pub with_replaced : List ℕ → ℕ → List Queue → List Queue → List ℕ
with_replaced routes slot old new = moved (replaced routes slot old new) routes slot old new

-- Dcis and rings that stand side by side; a ring that is missing is 0.
unfoldable pub queues : List ℕ → List ℕ → List Queue
queues [] rings = []
queues (d ∷ ds) rings = record { dci = d; ring = get_or rings 0 0 } ∷ queues ds (drop 1 rings)

-- The ring that queues leave an endpoint whose route was v: the last queue of it counts.
unfoldable pub ring_for : ℕ → List Queue → ℕ → ℕ
ring_for d [] v = v
ring_for d (q ∷ qs) v = ring_for d qs (cond (eqb q.dci d) q.ring v)

-- Each queue is of a Dci below 32, so that its word is one of the slot's.
unfoldable pub Small : List Queue → Type 0
Small [] = Unit {0}
Small (q ∷ qs) = (q.dci < 32) × Small qs

-- A word of the table that is none of the slot's.
abbrev pub OutsideSlot : ℕ → ℕ → Type 0
OutsideSlot slot k = (k < 32 * slot) ⊎ (32 * slot + 32 ≤ k)
