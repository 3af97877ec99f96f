-- Marks on interface numbers.
use Rattle.std.specs.Prelude.{ℕ, ◌+◌, ◌≡◌, Bool, false, cond, ◌||◌, eqb, get_or}
use Rattle.descriptor_raw.specs.declared.marks.Marks.{Marks}

-- Whether a number has a mark.
abbrev pub has_mark : Marks → ℕ → Bool
has_mark m k = get_or m.met k false

-- A number marked, and counted where it had no mark.
pub record MarkedWith (n : ℕ) (old new : Marks) : Type 0 where
  pub marks : (k : ℕ) → has_mark new k ≡ (eqb n k || has_mark old k)
  pub count : new.count ≡ cond (has_mark old n) old.count (old.count + 1)
