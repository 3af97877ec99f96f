use Rattle.std.specs.Prelude.{ℕ, ◌^◌, Bool, not, cond, ◌&&◌, ◌||◌, eqb, leb}

-- The xHCI default speed ids.
abbrev pub FULL : ℕ
FULL = 1

abbrev pub LOW : ℕ
LOW = 2

abbrev pub HIGH : ℕ
HIGH = 3

abbrev pub SUPER : ℕ
SUPER = 4

abbrev pub SUPER-PLUS : ℕ
SUPER-PLUS = 5

unfoldable pub speed_known : ℕ → Bool
speed_known s = leb FULL s && leb s SUPER-PLUS

unfoldable pub is_super : ℕ → Bool
is_super s = leb SUPER s && leb s SUPER-PLUS

-- First control packet size, by speed; 0 at an unknown one.
unfoldable pub first_packet_size : ℕ → ℕ
first_packet_size s =
    cond (eqb s FULL) 64
    (cond (eqb s LOW) 8
    (cond (eqb s HIGH) 64
    (cond (eqb s SUPER) 512
    (cond (eqb s SUPER-PLUS) 512 0))))

-- The packet byte of the device descriptor's header, at speeds 4 and 5 an exponent: USB 3.2, section 9.6.1, knows 9 alone.
unfoldable pub exponent_ok : ℕ → ℕ → Bool
exponent_ok s b = not (is_super s) || eqb b 9

-- `setup_max_packet`: the size that the byte says. At speeds 1 to 3, 0 means 8 and every other byte is the size itself.
unfoldable pub header_packet_size : ℕ → ℕ → ℕ
header_packet_size s b = cond (is_super s) (2 ^ b) (cond (eqb b 0) 8 b)
