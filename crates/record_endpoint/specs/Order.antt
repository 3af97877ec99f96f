-- The endpoint addresses in rising order, OUT 1 to 15 and then IN 1 to 15: thirty places.
use Rattle.std.specs.Prelude.{ℕ, ◌+◌, ◌-◌, ◌*◌, cond, ◌&&◌, ltb, leb}

abbrev pub PLACES : ℕ
PLACES = 30

unfoldable pub address_at : ℕ → ℕ
address_at place = cond (ltb place 15) (place + 1) (128 + (place - 14))

unfoldable pub dci_at : ℕ → ℕ
dci_at place = cond (ltb place 15) (2 * (place + 1)) (2 * (place - 14) + 1)

-- The place of an address; PLACES for one that no endpoint can have.
unfoldable pub place_of : ℕ → ℕ
place_of address =
    cond (leb 1 address && leb address 15) (address - 1) (cond (leb 129 address && leb address 143) (address - 114) PLACES)
