-- The endpoints of a record by place: what the arrays say, whatever their order.
use Rattle.std.specs.Prelude.{ℕ, zero, suc, ◌+◌, ◌-◌, ◌≤◌, Bool, true, false, not, cond, ◌&&◌, List, [], ◌∷◌, eqb, ltb, length, get_or, set, take, drop, replicate, ◌≡◌}
use Rattle.transfer.specs.Routes.{Queue}
use Rattle.descriptor.specs.Word.{endpoint_descriptor}
use Rattle.record_endpoint.specs.Order.{PLACES, address_at, dci_at, place_of}
use Rattle.record_endpoint.specs.Endpoint.{blank, padded}
use Rattle.record_endpoint.specs.declared.entry.Handle.{Handle}
use Rattle.record_endpoint.specs.declared.entry.Handle.TheVariants.{Active, Revoked}
use Rattle.record_endpoint.specs.declared.entry.Endpoint.{Endpoint}
use Rattle.record_endpoint.specs.declared.entry.Endpoints.{Endpoints}
use Rattle.record_endpoint.specs.declared.queues.Queues.{Queues}
use Rattle.record_endpoint.specs.declared.endpoint_map.EndpointMap.{EndpointMap}
use Rattle.record_endpoint.specs.declared.endpoint_map.Owner.{Owner}
use Rattle.record_endpoint.specs.declared.endpoint_map.Owner.TheVariants.{Any, Interface}

-- An entry for each place.
pub record Whole (c : EndpointMap) : Type 0 where
  pub rings : length c.rings ≡ PLACES
  pub owners : length c.owners ≡ PLACES
  pub active : length c.active ≡ PLACES

-- No endpoint at any place: ring 0.
unfoldable pub no_endpoints : EndpointMap
no_endpoints = record { rings = replicate PLACES 0; owners = replicate PLACES 0; active = replicate PLACES false }

unfoldable pub with_endpoint : EndpointMap → ℕ → ℕ → ℕ → Bool → EndpointMap
with_endpoint c place ring owner on =
    record { rings = set c.rings place ring; owners = set c.owners place owner; active = set c.active place on }

unfoldable pub is_active : Handle → Bool
is_active Active = true
is_active Revoked = false

unfoldable pub handle_of : Bool → Handle
handle_of true = Active
handle_of false = Revoked

-- The map of n endpoints with their owners.
unfoldable pub endpoint_map_from : ℕ → List Endpoint → List ℕ → EndpointMap → EndpointMap
endpoint_map_from zero eps owners c = c
endpoint_map_from (suc n) eps owners c =
    let e = get_or eps 0 blank in
    endpoint_map_from n (drop 1 eps) (drop 1 owners)
    (with_endpoint c (place_of e.address) e.ring (get_or owners 0 0) (is_active e.handle))

unfoldable pub endpoint_map_of : ℕ → List Endpoint → List ℕ → EndpointMap
endpoint_map_of n eps owners = endpoint_map_from n eps owners no_endpoints

-- What f says of each place with a ring, by rising address: of k places from `place` on.
unfoldable pub gathered : {A : Type 0} → (ℕ → A) → List ℕ → ℕ → ℕ → List A
gathered f rings zero place = []
gathered f rings (suc k) place =
    let rest = gathered f rings k (place + 1) in
    cond (eqb (get_or rings place 0) 0) rest (f place ∷ rest)

-- Back to arrays, by rising address.
unfoldable pub endpoint_at : EndpointMap → ℕ → Endpoint
endpoint_at c p =
    record { address = address_at p; ring = get_or c.rings p 0; handle = handle_of (get_or c.active p false) }

unfoldable pub endpoints_of : EndpointMap → List Endpoint
endpoints_of c = gathered (endpoint_at c) c.rings PLACES 0

unfoldable pub owners_of : EndpointMap → List ℕ
owners_of c = gathered (λ p. get_or c.owners p 0) c.rings PLACES 0

-- The endpoints of every interface, or of one.
unfoldable pub owns : Owner → ℕ → Bool
owns Any owner = true
owns (Interface i) owner = eqb owner i

unfoldable pub is_owned : Owner → EndpointMap → ℕ → Bool
is_owned who c place = not (eqb (get_or c.rings place 0) 0) && owns who (get_or c.owners place 0)

-- What f says of k places from `place` on.
unfoldable pub tabulated : {A : Type 0} → (ℕ → A) → ℕ → ℕ → List A
tabulated f zero place = []
tabulated f (suc k) place = f place ∷ tabulated f k (place + 1)

-- Their rings by place, 0 elsewhere.
unfoldable pub owned_rings : Owner → EndpointMap → List ℕ
owned_rings who c = tabulated (λ p. cond (is_owned who c p) (get_or c.rings p 0) 0) PLACES 0

-- Rings by place as queues, by rising address.
unfoldable pub queues_of : List ℕ → List Queue
queues_of rings = gathered (λ p. record { dci = dci_at p; ring = get_or rings p 0 }) rings PLACES 0

-- The rings drawn for endpoint words, by place: of a repeated address the last word's.
unfoldable pub pending_from : List ℕ → List ℕ → List ℕ → List ℕ
pending_from [] rings by = by
pending_from (w ∷ ws) rings by =
    pending_from ws (drop 1 rings) (set by (place_of (endpoint_descriptor w).address) (get_or rings 0 0))

unfoldable pub pending_rings : List ℕ → List ℕ → List ℕ
pending_rings words rings = pending_from words rings (replicate PLACES 0)

-- The endpoints after a claim: the pending rings are the interface's, active; its other endpoints are gone. With none pending: after a release.
abbrev pub claimed_or : {A : Type 0} → ℕ → Bool → A → A → A → A
claimed_or pending owned new none was = cond (eqb pending 0) (cond owned none was) new

unfoldable pub claimed_ring : ℕ → List ℕ → EndpointMap → ℕ → ℕ
claimed_ring i pending c p =
    claimed_or (get_or pending p 0) (is_owned (Interface i) c p) (get_or pending p 0) 0 (get_or c.rings p 0)

unfoldable pub claimed_owner : ℕ → List ℕ → EndpointMap → ℕ → ℕ
claimed_owner i pending c p = claimed_or (get_or pending p 0) (is_owned (Interface i) c p) i 0 (get_or c.owners p 0)

unfoldable pub claimed_active : ℕ → List ℕ → EndpointMap → ℕ → Bool
claimed_active i pending c p =
    claimed_or (get_or pending p 0) (is_owned (Interface i) c p) true false (get_or c.active p false)

unfoldable pub claimed_endpoints : ℕ → List ℕ → EndpointMap → EndpointMap
claimed_endpoints i pending c =
    record {
      rings = tabulated (claimed_ring i pending c) PLACES 0;
      owners = tabulated (claimed_owner i pending c) PLACES 0;
      active = tabulated (claimed_active i pending c) PLACES 0;
    }

-- Of the endpoints of an owner, by rising address, the first n active and the others revoked: k places from `place` on.
unfoldable pub active_from : ℕ → ℕ → Owner → ℕ → EndpointMap → List Bool
active_from zero place who n c = []
active_from (suc k) place who n c =
    cond (is_owned who c place)
    (ltb 0 n ∷ active_from k (place + 1) who (n - 1) c)
    (get_or c.active place false ∷ active_from k (place + 1) who n c)

unfoldable pub with_active : Owner → ℕ → EndpointMap → EndpointMap
with_active who n c = record { rings = c.rings; owners = c.owners; active = active_from PLACES 0 who n c }

unfoldable pub queue_dcis : List Queue → List ℕ
queue_dcis [] = []
queue_dcis (q ∷ qs) = q.dci ∷ queue_dcis qs

unfoldable pub queue_rings : List Queue → List ℕ
queue_rings [] = []
queue_rings (q ∷ qs) = q.ring ∷ queue_rings qs

-- What the code's arrays hold: the queues of some rings.
pub record QueuesAs (q : Queues) (by : List ℕ) : Type 0 where
  pub dcis : take q.count q.dcis ≡ queue_dcis (queues_of by)
  pub rings : take q.count q.rings ≡ queue_rings (queues_of by)
  pub count : q.count ≡ length (queues_of by)
  pub room : q.count ≤ PLACES

-- What the code's arrays hold: the endpoints of a map of endpoints, with their owners.
pub record EndpointsAs (r : Endpoints) (c : EndpointMap) : Type 0 where
  pub eps : r.eps ≡ padded PLACES blank (endpoints_of c)
  pub owners : r.owners ≡ padded PLACES 0 (owners_of c)
  pub count : r.count ≡ length (endpoints_of c)
  pub room : r.count ≤ PLACES
