-- The rings of a record together.
use Rattle.std.specs.Prelude.{ℕ, ◌≡◌, Bool, not, ◌&&◌, ◌||◌, List, ◌++◌, eqb, leb, length, take}
use Rattle.laws.specs.Distinct.{distinct}
use Rattle.record_ring.specs.Rings.{RING-ROOM, rings_ok, not_among}
use Rattle.record_endpoint.specs.Endpoint.{padded}
use Rattle.record_checks.specs.declared.quarantine.Quarantine.{Quarantine}

-- Distinct nonzero multiples of 16, no more than there is room for.
abbrev pub rings_fit : List ℕ → Bool
rings_fit rings = leb (length rings) RING-ROOM && (rings_ok rings && distinct rings)

-- The rings of a record, each once: the live ones, control's among them, and those quarantined that are not live.
unfoldable pub each_once : List ℕ → List ℕ → List ℕ
each_once live quarantined = live ++ not_among live quarantined

-- They fit, none is twice in quarantine, and while the record is usable none is there.
abbrev pub sound_rings : Bool → List ℕ → List ℕ → Bool
sound_rings usable live quarantined =
    rings_fit (each_once live quarantined) && (distinct quarantined && (not usable || eqb (length quarantined) 0))

-- The rings in the code's array.
abbrev pub quarantined_by : Quarantine → List ℕ
quarantined_by q = take q.count q.rings

-- Some rings as an array has them, zeros after them.
pub record QuarantinedAs (q : Quarantine) (rings : List ℕ) : Type 0 where
  pub rings_are : q.rings ≡ padded RING-ROOM 0 rings
  pub counted : q.count ≡ length rings
