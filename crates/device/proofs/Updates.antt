-- What an update makes of what a record says.
use Prim.Native.Nat.{ℕ, ◌-◌}
use mathlib.Core.Path.{◌≡◌, refl, ap, ◌∙◌}
use mathlib.Core.List.{List}
use lib.ListN.{length, take, replicate}
use lib.Seq.{take-append_seam}
use Rattle.record_ring.specs.Rings.{RING-ROOM, entered}
use Rattle.record_endpoint.specs.Order.{PLACES}
use Rattle.record_endpoint.specs.declared.entry.Endpoint.{Endpoint}
use Rattle.record_endpoint.specs.declared.entry.Endpoints.{Endpoints}
use Rattle.record_endpoint.specs.declared.endpoint_map.EndpointMap.{EndpointMap}
use Rattle.record_endpoint.specs.Endpoint.{blank, padded}
use Rattle.record_endpoint.specs.EndpointMap.{endpoints_of}
use Rattle.record_endpoint.proofs.Clean.{CleanMap, map_back}
use Rattle.record_settings.specs.Held.{Held}
use Rattle.record_settings.proofs.Laws.{held_padded}
use Rattle.descriptor_list.specs.Companions.{joined}
use Rattle.device.specs.declared.record.Device.{Device}
use Rattle.device.specs.Device.{words_of, list_of, endpoint_map_in, held_of, quarantined_of, given_of, Same, Status, HeldArrays, keep, rebuilt, with_endpoints, with_held, with_quarantined}

-- a record has its own
pub same_self : (d : Device) → Same d d
same_self d =
    record { slot = refl; max_slots = refl; spacing = refl; speed = refl; list = refl; list_length = refl; control = refl; given = refl; given_count = refl }

-- what two changes keep, both together do
pub same_then : (d e f : Device) → Same d e → Same e f → Same d f
same_then d e f s t =
    record {
      slot = t.slot ∙ s.slot;
      max_slots = t.max_slots ∙ s.max_slots;
      spacing = t.spacing ∙ s.spacing;
      speed = t.speed ∙ s.speed;
      list = t.list ∙ s.list;
      list_length = t.list_length ∙ s.list_length;
      control = t.control ∙ s.control;
      given = t.given ∙ s.given;
      given_count = t.given_count ∙ s.given_count;
    }

-- and the list that lookup works on
pub same_list : (d e : Device) → Same d e → list_of e ≡ list_of d
unfolding list_of
same_list d e s = ap joined s.list

-- Whatever becomes of the other parts: the frame of every update. (What a part says that is kept, computes.)
pub rebuilt_same :
    (status : Status → Status) (endpoints : Endpoints → Endpoints) (settings : HeldArrays → HeldArrays)
    (quarantine : List ℕ × ℕ → List ℕ × ℕ) (d : Device) → Same d (rebuilt keep status endpoints settings quarantine d)
unfolding rebuilt words_of given_of
rebuilt_same status endpoints settings quarantine d =
    record { slot = refl; max_slots = refl; spacing = refl; speed = refl; list = refl; list_length = refl; control = refl; given = refl; given_count = refl }

-- The endpoints of the arrays, in their order.
unfoldable pub live_of : Device → List Endpoint
live_of d = take d.ep_count d.eps

-- What is put in is read back: clean endpoints, settings, and rings that entered quarantine.
pub take_padded : {A : Type 0} (n : ℕ) (b : A) (l : List A) → take (length l) (padded n b l) ≡ l
unfolding padded
take_padded n b l = take-append_seam l (replicate (n - length l) b)

pub with_endpoints_map : (c : EndpointMap) (d : Device) → CleanMap c → endpoint_map_in (with_endpoints c d) ≡ c
unfolding with_endpoints endpoint_map_in
with_endpoints_map c d clean = map_back c clean

pub with_endpoints_live : (c : EndpointMap) (d : Device) → live_of (with_endpoints c d) ≡ endpoints_of c
unfolding with_endpoints live_of
with_endpoints_live c d = take_padded PLACES blank (endpoints_of c)

pub with_held_held : (hs : List Held) (d : Device) → held_of (with_held hs d) ≡ hs
unfolding with_held held_of
with_held_held hs d = held_padded hs

pub with_quarantined_quarantined : (rings : List ℕ) (d : Device) → quarantined_of (with_quarantined rings d) ≡ entered (quarantined_of d) rings
unfolding with_quarantined quarantined_of
with_quarantined_quarantined rings d = take_padded RING-ROOM 0 (entered (quarantined_of d) rings)
