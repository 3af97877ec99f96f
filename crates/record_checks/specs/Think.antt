-- The think time that a hub update is given.
use Rattle.std.specs.Prelude.{ℕ, cond, eqb, Option, Some, None}
use Rattle.def.specs.Speed.{HIGH}
use Rattle.answer.specs.declared.Answer.TheVariants as answer
use Rattle.answer.specs.Check.{Check, Pass, Refuse}
use Rattle.hub.specs.ThinkTime.{think_time}

unfoldable pub is_thought : Option ℕ → Check
is_thought (Some v) = Pass
is_thought None = Refuse answer.ThinkTime

-- 7, at High speed only.
abbrev pub think_check : ℕ → ℕ → Check
think_check speed ns = cond (eqb speed HIGH) (is_thought (think_time ns)) Pass

-- The value of a think time; 0 where it is refused, which is not written then.
unfoldable pub think_value : Option ℕ → ℕ
think_value (Some v) = v
think_value None = 0
