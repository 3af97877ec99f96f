-- The endpoints of a record: the maps `eps` and `ep_interfaces` of the original, as arrays beside their count.
use Rattle.std.specs.Prelude.{ℕ, ◌-◌, Bool, true, not, ◌&&◌, List, [], ◌∷◌, ◌++◌, ltb, length, replicate}
use Rattle.laws.specs.Distinct.{elem}
use Rattle.record_endpoint.specs.Order.{PLACES, place_of}
use Rattle.record_endpoint.specs.declared.entry.Handle.TheVariants.{Active}
use Rattle.record_endpoint.specs.declared.entry.Endpoint.{Endpoint}

abbrev pub blank : Endpoint
blank = record { address = 0; ring = 0; handle = Active }

unfoldable pub addresses : List Endpoint → List ℕ
addresses [] = []
addresses (e ∷ es) = e.address ∷ addresses es

unfoldable pub rings_of : List Endpoint → List ℕ
rings_of [] = []
rings_of (e ∷ es) = e.ring ∷ rings_of es

-- Each address has a place, and no two endpoints have one.
unfoldable pub addresses_fit : List ℕ → Bool
addresses_fit [] = true
addresses_fit (a ∷ rest) = (ltb (place_of a) PLACES && not (elem a rest)) && addresses_fit rest

-- An array of n places that begins with a list, blanks after it.
unfoldable pub padded : {A : Type 0} → ℕ → A → List A → List A
padded n blank l = l ++ replicate (n - length l) blank
