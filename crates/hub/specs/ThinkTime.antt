-- `update_hub_inner`: the think time field of a High speed hub, ns / 666 less one, where that fits its two bits.
use Rattle.std.specs.Prelude.{ℕ, ◌-◌, ◌/◌, cond, ◌&&◌, eqb, leb, Option, Some, None}

unfoldable pub think_time : ℕ → Option ℕ
think_time ns = cond (eqb ns 0) (Some 0) (cond (leb 1 (ns / 666) && leb (ns / 666) 4) (Some (ns / 666 - 1)) None)
