-- What a call makes of the record's mark.
use Rattle.std.proofs.Common.{Ok, Err}
use Prim.Native.Nat.{ℕ}
use mathlib.Core.Path.{◌≡◌, refl}
use mathlib.Core.Logic.{◌⊎◌, inl, inr}
use mathlib.Core.Bool.{Bool, true, false, cond}
use mathlib.Core.List.{List}
use native.Mathlib.Omega.{arith}
use lib.ListN.{length}
use Rattle.answer.specs.declared.Answer.{Answer}
use Rattle.answer.specs.declared.Answer.TheVariants.{Accepted, InterfaceBroken, Cut}
use Rattle.answer.specs.Answer.{number, is_accepted, is_lost}
use Rattle.answer.specs.Check.{Check, Pass}
use Rattle.device.specs.declared.record.Device.{Device}
use Rattle.device.specs.Device.{unusable}
use Rattle.device.specs.Left.{Left, refused, marked}
use Rattle.device.specs.Check.{record_check, hub_check}
use Rattle.device.specs.Calls.{on_check, hub_left, hub_update}

-- A record, or the same marked unusable.
abbrev pub SameOr : Device → Device → Type 0
SameOr d r = (r ≡ d) ⊎ (r ≡ unusable d)

-- an answer leaves the record, or marks it
pub marked_one : (a : Answer) (d : Device) → SameOr d (marked a d)
unfolding marked
marked_one a d = go (is_lost a)
  where
    go : (b : Bool) → SameOr d (cond b (unusable d) d)
    go true = inr refl
    go false = inl refl

-- 14 and 15 mark it
pub marked_lost : (a : Answer) (d : Device) → (a ≡ InterfaceBroken) ⊎ (a ≡ Cut) → unusable d ≡ marked a d
unfolding marked number
marked_lost a d (inl e) = rw e
marked_lost a d (inr e) = rw e

-- and no other does
pub marked_kept : (a : Answer) (d : Device) → (a ≡ InterfaceBroken → ⊥) → (a ≡ Cut → ⊥) → d ≡ marked a d
unfolding marked number
marked_kept a d b k = grind arith

-- only an accepted one sets a value
pub not_configured : (a : Answer) (d : Device) (moved : Bool) (made : Device) → moved ≡ true → (a ≡ Accepted → ⊥) → d ≡ cond moved (cond (is_accepted a) made d) d
unfolding number
not_configured a d moved made m n = grind arith

-- what holds of a call that runs after its checks, and of each refusal, holds of the call
pub on_pass : (P : Left → Type 0) (k : Check) (run : Left) (refuse : Answer → Left) → (k ≡ Pass → P run) →
    ((a : Answer) → P (refuse a)) → P (on_check k run refuse)
unfolding on_check
on_pass P (Ok _) run refuse p q = p refl
on_pass P (Err a) run refuse p q = q a

-- and what holds of it whatever its checks say
pub on_check_lem : (P : Left → Type 0) (k : Check) (run : Left) (refuse : Answer → Left) → P run → ((a : Answer) → P (refuse a)) →
    P (on_check k run refuse)
on_check_lem P k run refuse p q = on_pass P k run refuse (λ e. p) q

-- a hub update returns the record as it came, or marked unusable
pub hub_update_sound : (d : Device) (ctx routes log outcomes : List ℕ) (ports : ℕ) (multi : Bool) (ns : ℕ) →
    SameOr d (hub_update d ctx routes log outcomes ports multi ns).device
unfolding hub_update hub_left refused
hub_update_sound d ctx routes log outcomes ports multi ns =
    on_check_lem (λ l. SameOr d l.device)
    (record_check d (length ctx) (length routes) (length log) (hub_check d ns))
    _ (λ a. refused d a ctx routes log)
    (marked_one _ d)
    (λ a. inl refl)
