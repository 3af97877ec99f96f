-- Where the words of an image stand, by the names of host/include/xhci_device.h. What a record gets from now on is appended: no word moves.
use Rattle.std.specs.Prelude.{ℕ}

-- Flags: 0 or 1.
abbrev pub USABLE : ℕ
USABLE = 0

abbrev pub CONFIGURED : ℕ
CONFIGURED = 1

abbrev pub CONTROL-REVOKED : ℕ
CONTROL-REVOKED = 2

abbrev pub EP-REVOKED : ℕ
EP-REVOKED = 3

-- Bytes.
abbrev pub SLOT : ℕ
SLOT = 33

abbrev pub MAX-SLOTS : ℕ
MAX-SLOTS = 34

abbrev pub PORT-SPEED : ℕ
PORT-SPEED = 35

abbrev pub CURRENT-CONFIG-VALUE : ℕ
CURRENT-CONFIG-VALUE = 36

abbrev pub EP-ADDRESSES : ℕ
EP-ADDRESSES = 37

abbrev pub EP-INTERFACES : ℕ
EP-INTERFACES = 67

abbrev pub INTERFACES : ℕ
INTERFACES = 97

abbrev pub ALTERNATES : ℕ
ALTERNATES = 129

-- Words of 32 bits.
abbrev pub LIST : ℕ
LIST = 161

-- Words of 64 bits.
abbrev pub SPACING : ℕ
SPACING = 417

abbrev pub LIST-LEN : ℕ
LIST-LEN = 418

abbrev pub EP-COUNT : ℕ
EP-COUNT = 419

abbrev pub HELD-COUNT : ℕ
HELD-COUNT = 420

abbrev pub QUARANTINED-COUNT : ℕ
QUARANTINED-COUNT = 421

abbrev pub CONTROL : ℕ
CONTROL = 422

abbrev pub EP-RINGS : ℕ
EP-RINGS = 423

abbrev pub QUARANTINED : ℕ
QUARANTINED = 453

-- A flag.
abbrev pub UP : ℕ
UP = 514

-- Words of 64 bits.
abbrev pub GIVEN-COUNT : ℕ
GIVEN-COUNT = 515

abbrev pub GIVEN : ℕ
GIVEN = 516

-- How many there are.
abbrev pub WORDS : ℕ
WORDS = 580
