-- The descriptor words of 01 and 02, made of their fields.
use Rattle.std.specs.Prelude.{ℕ, ◌+◌, ◌-◌, ◌*◌, ◌/◌, ◌%◌, ◌^◌}
use Rattle.descriptor.specs.Word.{CONFIGURATION, ALTERNATE, ENDPOINT, COMPANION}
use Rattle.descriptor_raw.specs.Descriptor.{packet_size, packets_less_one}

-- A field at its place in a word of 32 bits: `width` bits after the `used` highest ones.
abbrev pub placed : ℕ → ℕ → ℕ → ℕ
placed used width value = value * 2 ^ (32 - used - width)

unfoldable pub configuration_word : ℕ → ℕ
configuration_word value = placed 0 2 CONFIGURATION + placed 2 8 value

unfoldable pub alternate_word : ℕ → ℕ → ℕ
alternate_word interface alternate = placed 0 2 ALTERNATE + placed 2 8 interface + placed 10 8 alternate

-- Of the address bit 7 is IN and bits 3 to 0 are the number, and bits 1 and 0 of the attributes are the type.
unfoldable pub endpoint_word : ℕ → ℕ → ℕ → ℕ → ℕ
endpoint_word address attributes packet interval =
    placed 0 2 ENDPOINT
    + placed 2 1 (address / 128)
    + placed 3 4 (address % 16)
    + placed 7 2 (attributes % 4)
    + placed 9 11 (packet_size packet)
    + placed 20 2 (packets_less_one packet + 1)
    + placed 22 8 interval

-- Of a companion's attributes bits 1 and 0 are the mult. A burst above 15, which no word holds, is judged apart.
unfoldable pub companion_word : ℕ → ℕ → ℕ → ℕ
companion_word burst attributes bytes =
    placed 0 2 COMPANION + placed 2 4 (burst % 16) + placed 6 2 (attributes % 4) + placed 8 16 bytes
