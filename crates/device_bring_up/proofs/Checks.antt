-- What the checks of a bring-up come to, and what it says that they passed.
use Prim.Native.Nat.{ℕ, ◌+◌, ◌*◌, ◌≤◌}
use mathlib.Core.Path.{◌≡◌, refl, sym, ap, ◌∙◌}
use mathlib.Core.Bool.{Bool, true, false, cond, ◌&&◌, ◌||◌}
use mathlib.Core.List.{List}
use mathlib.Core.Logic.{◌⊎◌, inl, inr, ⊎_elim}
use native.Mathlib.Omega.{arith}
use borrow.Author.Tests.{eqb-true, leb-true}
use lib.Dec.{eqb, leb}
use lib.ListN.{length}
use Rattle.laws.proofs.Tests.{and_left, and_right}
use Rattle.laws.proofs.Cases.{or_cases}
use Rattle.def.specs.Speed.{speed_known}
use Rattle.descriptor_list.specs.Companions.{list_ok, companions_fit, valid_at}
use Rattle.hub.specs.Chain.{chain_ok}
use Rattle.record_ring.specs.Store.{given_ok}
use Rattle.answer.specs.declared.Answer.{Answer}
use Rattle.answer.specs.declared.Answer.TheVariants as answer
use Rattle.answer.specs.Check.{Check, Pass, Refuse}
use Rattle.context.specs.Place.{Spaced, spacing_of}
use Rattle.record_checks.specs.Lengths.{lengths_check}
use Rattle.device.proofs.Laws.{and_then, then_if, pass_if}
use Rattle.course_init.specs.Reading.{BringUp}
use Rattle.device_bring_up.specs.BringUp.{slot_check, device_check, queue_check, bring_up_check}

-- a length is a context's where it is 33 blocks of the spacing that the code takes
known_length : (ctx : ℕ) (b : Bool) → eqb ctx 1056 ≡ b → eqb ctx (33 * cond b 32 64) ≡ (b || eqb ctx 2112)
known_length ctx true e = e
known_length ctx false e = refl

-- which is one of two
pub taken_narrow : (b : Bool) (spacing : ℕ) → spacing ≡ cond b 32 64 → spacing ≤ 64
taken_narrow true spacing e = omega arith
taken_narrow false spacing e = omega arith

module _ (a : BringUp) (ctx : ℕ) (routes : List ℕ) (log : ℕ) where
  -- 11
  pub slot_refused : (leb 1 a.slot && (leb a.slot a.max_slots && leb a.max_slots 255)) ≡ false → Refuse answer.SlotLimitReached ≡ bring_up_check a ctx routes log
  unfolding bring_up_check slot_check
  slot_refused e = rw e

  pub few_slots : (leb 1 a.slot && (leb a.slot a.max_slots && leb a.max_slots 255)) ≡ true → a.max_slots ≤ 255
  few_slots e = leb-true a.max_slots 255 (and_right (leb a.slot a.max_slots) _ (and_right (leb 1 a.slot) _ e))

  module _
      (spacing : ℕ) (x : Check) (fits : (leb 1 a.slot && (leb a.slot a.max_slots && leb a.max_slots 255)) ≡ true)
      (s : spacing ≡ cond (eqb ctx 1056) 32 64) (k : x ≡ lengths_check spacing a.max_slots ctx (length routes) log Pass) where
    -- 1, 2, 3
    lengths_then : bring_up_check a ctx routes log ≡ and_then x (device_check a (queue_check a routes))
    unfolding bring_up_check slot_check and_then
    lengths_then =
        let next = device_check a (queue_check a routes) in
        rw (fits, ← known_length ctx (eqb ctx 1056) refl, ← s)
        (then_if (eqb ctx (33 * spacing)) _ _ answer.ContextLength next
        (then_if (eqb (length routes) (32 * (a.max_slots + 1))) _ _ answer.RoutesLength next
        (then_if (leb 64 log) _ _ answer.LogTooShort next refl))
        ∙ ap (λ y. and_then y next) (sym k))

    pub lengths_refused : (y : Answer) → x ≡ Refuse y → Refuse y ≡ bring_up_check a ctx routes log
    unfolding and_then
    lengths_refused y e = sym (lengths_then ∙ rw e)

    pub lengths_passed : x ≡ Pass → bring_up_check a ctx routes log ≡ device_check a (queue_check a routes)
    unfolding and_then
    lengths_passed e = lengths_then ∙ rw e

-- What the checks before 17 say.
pub record Passed (a : BringUp) (ctx routes log : ℕ) : Type 0 where
  pub slot_low : 1 ≤ a.slot
  pub slot_high : a.slot ≤ a.max_slots
  pub n_high : a.max_slots ≤ 255
  pub known : (eqb (spacing_of ctx) 32 || eqb (spacing_of ctx) 64) ≡ true
  pub context : ctx ≡ 33 * spacing_of ctx
  pub spaced : Spaced (spacing_of ctx) ctx
  pub taken : cond (eqb ctx 1056) 32 64 ≡ spacing_of ctx
  pub table : routes ≡ 32 * (a.max_slots + 1)
  pub room : 64 ≤ log
  pub speed : speed_known a.speed ≡ true
  pub list : valid_at a.speed a.list ≡ true
  pub chain : chain_ok a.hubs a.parent ≡ true
  pub rings : given_ok a.rings ≡ true

record Lengths (ctx : ℕ) : Type 0 where
  known : (eqb (spacing_of ctx) 32 || eqb (spacing_of ctx) 64) ≡ true
  context : ctx ≡ 33 * spacing_of ctx
  spaced : Spaced (spacing_of ctx) ctx
  taken : cond (eqb ctx 1056) 32 64 ≡ spacing_of ctx

lengths : (ctx : ℕ) → (ctx ≡ 1056) ⊎ (ctx ≡ 2112) → Lengths ctx
unfolding spacing_of
lengths ctx (inl e) =
    rw e (record { known = refl; context = refl; spaced = record { wide = omega arith; narrow = omega arith; room = omega arith }; taken = refl })
lengths ctx (inr e) =
    rw e (record { known = refl; context = refl; spaced = record { wide = omega arith; narrow = omega arith; room = omega arith }; taken = refl })

module _ (a : BringUp) where
  -- what it says that they passed
  pub passed : (ctx routes log : ℕ) (next : Check) → slot_check a ctx routes log (device_check a next) ≡ Pass →
      Passed a ctx routes log × (next ≡ Pass)
  unfolding slot_check device_check valid_at
  passed ctx routes log next e =
      let s = leb 1 a.slot in
      let t = leb a.slot a.max_slots in
      let u = leb a.max_slots 255 in
      let e1 : ((s && (t && u)) ≡ true) × _ = pass_if _ _ _ e in
      let e2 : ((eqb ctx 1056 || eqb ctx 2112) ≡ true) × _ = pass_if _ _ _ e1.1 in
      let e3 : (eqb routes (32 * (a.max_slots + 1)) ≡ true) × _ = pass_if _ _ _ e2.1 in
      let e4 : (leb 64 log ≡ true) × _ = pass_if _ _ _ e3.1 in
      let e5 : (speed_known a.speed ≡ true) × _ = pass_if _ _ _ e4.1 in
      let e6 : (list_ok a.speed a.list ≡ true) × _ = pass_if _ _ _ e5.1 in
      let e7 : (companions_fit a.speed a.list ≡ true) × _ = pass_if _ _ _ e6.1 in
      let e8 : (chain_ok a.hubs a.parent ≡ true) × _ = pass_if _ _ _ e7.1 in
      let e9 : (given_ok a.rings ≡ true) × _ = pass_if _ _ _ e8.1 in
      let right : (t && u) ≡ true = and_right s (t && u) e1.0 in
      let l : Lengths ctx =
      lengths ctx
      (⊎_elim (λ p. inl (eqb-true ctx 1056 p)) (λ p. inr (eqb-true ctx 2112 p)) (or_cases (eqb ctx 1056) (eqb ctx 2112) e2.0)) in (
        record {
          slot_low = leb-true 1 a.slot (and_left s (t && u) e1.0);
          slot_high = leb-true a.slot a.max_slots (and_left t u right);
          n_high = leb-true a.max_slots 255 (and_right t u right);
          known = l.known;
          context = l.context;
          spaced = l.spaced;
          taken = l.taken;
          table = eqb-true _ _ e3.0;
          room = leb-true _ _ e4.0;
          speed = e5.0;
          list = rw (e6.0, e7.0);
          chain = e8.0;
          rings = e9.0;
        },
        e9.1,
      )
