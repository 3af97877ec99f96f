-- The checks of a call, in 01's order: the first that does not hold is the answer.
use Rattle.std.specs.Prelude.{◌≡◌, Bool, cond, ⊤, Option, Some, Result, Ok, Err}
use Rattle.answer.specs.declared.Answer.{Answer}

-- Whether a call may go on, or its refusal.
abbrev pub Check : Type 0
Check = Result ⊤ Answer

abbrev pub Pass : Check
Pass = Ok tt

abbrev pub Refuse : Answer → Check
Refuse a = Err a

-- One check, and what follows where it holds.
abbrev pub unless : Bool → Answer → Check → Check
unless holds a next = cond holds next (Refuse a)

-- Of a check that hands something on: whether it passes.
unfoldable pub check_of : {T : Type 0} → Result T Answer → Check
check_of (Ok v) = Pass
check_of (Err a) = Refuse a

-- It is a check, and where it passes it hands on what was found.
pub record CheckedAs {T : Type 0} (r : Result T Answer) (k : Check) (found : Option T) : Type 0 where
  pub check : check_of r ≡ k
  pub value : (v : T) → r ≡ Ok v → found ≡ Some v
