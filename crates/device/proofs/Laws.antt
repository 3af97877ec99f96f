-- What a passed check says.
use Rattle.std.specs.Result.{IsErrAnd}
use Rattle.std.proofs.Common.{Ok, Err, Result}
use Prim.Native.Nat.{ℕ, ◌+◌, ◌*◌, ◌≤◌}
use mathlib.Core.Path.{◌≡◌, refl, sym, ◌∙◌, ap}
use mathlib.Core.Bool.{Bool, true, false, cond, ◌&&◌}
use native.Mathlib.Omega.{arith}
use borrow.Author.Tests.{eqb-true, leb-true}
use lib.Dec.{eqb, leb}
use Rattle.laws.proofs.Tests.{and_left, and_right}
use Rattle.answer.specs.declared.Answer.{Answer}
use Rattle.answer.specs.declared.Answer.TheVariants as answer
use Rattle.answer.specs.Check.{Check, Pass, Refuse}
use Rattle.context.specs.Place.{Spaced}
use Rattle.device.specs.declared.record.Device.{Device}
use Rattle.device.specs.Sound.{sound}
use Rattle.device.specs.Check.{record_check}
use Rattle.device.proofs.Facts.{SoundFacts, sound_facts}

pub record Passed (d : Device) (ctx routes log : ℕ) : Type 0 where
  pub usable : d.usable ≡ true
  pub is_sound : sound d ≡ true
  pub context : ctx ≡ 33 * d.spacing
  pub table : routes ≡ 32 * (d.max_slots + 1)
  pub room : 64 ≤ log
  pub facts : SoundFacts d
  pub spaced : Spaced d.spacing ctx

-- a check that passed held, and so did what followed
pub pass_if : (b : Bool) (x : Check) (a : Answer) → cond b x (Refuse a) ≡ Pass → (b ≡ true) × (x ≡ Pass)
pass_if true x a e = (refl, e)
pass_if false x a e = let z : ◌≡◌ {A = ℕ} 0 1 = cc in absurd (omega arith)

-- what it says that the checks of a record passed
pub passed : (d : Device) (ctx routes log : ℕ) (next : Check) → record_check d ctx routes log next ≡ Pass →
    Passed d ctx routes log × (next ≡ Pass)
unfolding record_check
passed d ctx routes log next e =
    let s : ((d.usable && sound d) ≡ true) × _ = pass_if _ _ _ e in
    let c : (eqb ctx (33 * d.spacing) ≡ true) × _ = pass_if _ _ _ s.1 in
    let r : (eqb routes (32 * (d.max_slots + 1)) ≡ true) × _ = pass_if _ _ _ c.1 in
    let l : (leb 64 log ≡ true) × _ = pass_if _ _ _ r.1 in
    let right : sound d ≡ true = and_right d.usable (sound d) s.0 in
    let f : SoundFacts d = sound_facts d right in
    let x : ctx ≡ 33 * d.spacing = eqb-true _ _ c.0 in (
      record {
        usable = and_left d.usable (sound d) s.0;
        is_sound = right;
        context = x;
        table = eqb-true _ _ r.0;
        room = leb-true _ _ l.0;
        facts = f;
        spaced = record { wide = f.place.wide; narrow = f.place.narrow; room = omega arith };
      },
      l.1,
    )

-- the checks of a record, and then what follows where they pass
unfoldable pub and_then : Check → Check → Check
and_then (Ok _) next = next
and_then (Err a) next = Refuse a

pub then_if : (b : Bool) (x y : Check) (a : Answer) (next : Check) → x ≡ and_then y next →
    cond b x (Refuse a) ≡ and_then (cond b y (Refuse a)) next
unfolding and_then
then_if true x y a next e = e
then_if false x y a next e = refl

-- a call's own check comes after those of the record
pub check_then : (d : Device) (ctx routes log : ℕ) (next : Check) →
    record_check d ctx routes log next ≡ and_then (record_check d ctx routes log Pass) next
unfolding record_check and_then
check_then d ctx routes log next =
    then_if (d.usable && sound d) _ _ answer.Unusable next
    (then_if (eqb ctx (33 * d.spacing)) _ _ answer.ContextLength next
    (then_if (eqb routes (32 * (d.max_slots + 1))) _ _ answer.RoutesLength next
    (then_if (leb 64 log) _ _ answer.LogTooShort next refl)))

-- what it says that the record's own checks passed
pub record_passed : (d : Device) (ctx routes log : ℕ) (x : Check) → x ≡ record_check d ctx routes log Pass → x ≡ Pass → Passed d ctx routes log
record_passed d ctx routes log x k p = (passed d ctx routes log Pass (sym k ∙ p)).0

-- and what it says of them that a call's checks passed
pub call_passed : (d : Device) (ctx routes log : ℕ) (x next : Check) → x ≡ record_check d ctx routes log next → x ≡ Pass → Passed d ctx routes log
call_passed d ctx routes log x next k p = (passed d ctx routes log next (sym k ∙ p)).0

-- what a `?` returns
pub returned : {T : Type 0} (r : Result T Answer) (a : Answer) → IsErrAnd r (λ e. e ≡ a) → r ≡ Err a
returned (Ok v) a h = absurd h
returned (Err e) a h = ap Err h

-- refused by the record's checks, or by the call's own after they passed
module _ (d : Device) (ctx routes log : ℕ) (x next : Check) (k : x ≡ record_check d ctx routes log Pass) where
  pub refused_first : (a : Answer) → x ≡ Refuse a → x ≡ record_check d ctx routes log next
  unfolding and_then
  refused_first a p = p ∙ sym (check_then d ctx routes log next ∙ rw (← k, p))

  pub own_check : x ≡ Pass → (y : Check) → y ≡ next → y ≡ record_check d ctx routes log next
  unfolding and_then
  own_check p y e = e ∙ sym (check_then d ctx routes log next ∙ rw (← k, p))
