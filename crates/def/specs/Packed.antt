-- 01's house words: fields packed most significant bit first, unused low bits zero.
use Rattle.std.specs.Prelude.{ℕ, ◌-◌, ◌/◌, ◌%◌, ◌^◌}

-- Of a word of `bits` bits, the `width` bits that follow its `used` highest ones.
abbrev pub packed : ℕ → ℕ → ℕ → ℕ → ℕ
packed bits used width w = w / 2 ^ (bits - used - width) % 2 ^ width

-- What stands below its `used` highest bits.
abbrev pub rest_below : ℕ → ℕ → ℕ → ℕ
rest_below bits used w = w % 2 ^ (bits - used)
