-- The promises of specs/Promises.antt.
use Prim.Native.Nat.{ℕ, ◌*◌, ◌/◌, ◌≤◌, ◌<◌}
use mathlib.Core.Path.{◌≡◌, refl}
use mathlib.Core.Logic.{inl, inr}
use mathlib.Core.Bool.{Bool, true, false, ◌&&◌}
use mathlib.Core.List.{List}
use Rattle.std.proofs.Common.{Result, Ok, Err}
use Rattle.std.specs.Bool.{⊤}
use native.Mathlib.Nat.{mod-lt}
use native.Mathlib.Omega.{arith}
use borrow.Author.Tests.{eqb-true, eq-eqb}
use lib.Dec.{eqb, leb}
use lib.ListN.{length}
use Rattle.laws.proofs.Tests.{and_left, and_right}
use Rattle.laws.proofs.Cases.{Decided, decided}
use Rattle.def.specs.Speed.{speed_known, is_super}
use Rattle.descriptor.specs.Word.{configuration_value}
use Rattle.descriptor_list.proofs.Companions.{before_promise}
use Rattle.function_answer.specs.declared.Refusal.{Refusal}
use Rattle.function_answer.specs.declared.Refusal.TheVariants.{Settings, OtherConfiguration}
use Rattle.function_answer.specs.Answer.{count_of, on_check}
use Rattle.function_answer.proofs.Kept.{accepted_kept, unless_kept, checked_kept}
use Rattle.settings_form.specs.Form.{new_form, value_in, count_in, pairs_in, is_new_form}
use Rattle.settings_form.specs.Held.{settings_held, configuration_words}
use Rattle.settings_form.specs.Convert.{list_check, first_value, to_new, to_old}
use Rattle.settings_form.specs.Before as before
use Rattle.settings_form.specs.Promises.{output, NewAndBackPromise, OldAndBackPromise, OtherFound, OtherPromise, KeptPromise, BeforePromise}
use Rattle.settings_form.proofs.Read.{form_long, pairs_long}
use Rattle.settings_form.proofs.Words.{held_few}
use Rattle.settings_form.proofs.Exits.{taken_back, form_length, passed, passes, checked_other}
use Rattle.settings_form.proofs.Back.{made_value, made_form, made_pairs, held_even, form_again}

-- What a conversion has passed that is accepted, or that answers 24.
record PassedNew (speed : ℕ) (settings list buffer : List ℕ) : Type 0 where
  pub check : list_check speed list (length buffer) ≡ Ok tt
  pub held : settings_held list (first_value list) settings ≡ true

record PassedOld (speed : ℕ) (settings list buffer : List ℕ) : Type 0 where
  pub check : list_check speed list (length buffer) ≡ Ok tt
  pub formed : is_new_form settings ≡ true
  pub held : settings_held list (value_in settings) (pairs_in settings) ≡ true

module _ (speed : ℕ) (settings list buffer : List ℕ) where
  passed_new : (count : ℕ) → (to_new speed settings list buffer).answer ≡ Ok count → PassedNew speed settings list buffer
  unfolding to_new on_check
  passed_new count e = go (list_check speed list (length buffer)) refl (decided (settings_held list (first_value list) settings))
    where
      go : (r : Result ⊤ Refusal) → list_check speed list (length buffer) ≡ r → Decided (settings_held list (first_value list) settings) →
          PassedNew speed settings list buffer
      go (Ok tt) k (inl h) = record { check = k; held = h }
      go (Ok tt) k (inr h) = let q : Err Settings ≡ Ok count = rw (k, h) at e in absurd (cc)
      go (Err refusal) k h = let q : Err refusal ≡ Ok count = rw k at e in absurd (cc)

  new_output : PassedNew speed settings list buffer → output (to_new speed settings list buffer) ≡ new_form (first_value list) settings
  unfolding to_new on_check count_of
  new_output p =
      let few = held_few list (first_value list) settings p.held in
      let room = (passed speed list (length buffer) p.check).room in
      rw (p.check, p.held)
      (taken_back (new_form (first_value list) settings) buffer _ refl (omega (arith, form_length (first_value list) settings)))

  abbrev judged : Bool
  judged = is_new_form settings && settings_held list (value_in settings) (pairs_in settings)

  passed_from : (check : list_check speed list (length buffer) ≡ Ok tt) → judged ≡ true → PassedOld speed settings list buffer
  passed_from k h = record { check = k; formed = and_left (is_new_form settings) _ h; held = and_right (is_new_form settings) _ h }

  -- accepted, with the value of the first configuration
  passed_old : (count : ℕ) → (to_old speed settings list buffer).answer ≡ Ok count →
      PassedOld speed settings list buffer × (value_in settings ≡ first_value list)
  unfolding to_old on_check
  passed_old count e = go (list_check speed list (length buffer)) refl (decided judged) (decided (eqb (value_in settings) (first_value list)))
    where
      go : (r : Result ⊤ Refusal) → list_check speed list (length buffer) ≡ r → Decided judged → Decided (eqb (value_in settings) (first_value list)) →
          PassedOld speed settings list buffer × (value_in settings ≡ first_value list)
      go (Ok tt) k (inl h) (inl v) = (passed_from k h, eqb-true _ _ v)
      go (Ok tt) k (inl h) (inr v) = let q : Err OtherConfiguration ≡ Ok count = rw (k, h, v) at e in absurd (cc)
      go (Ok tt) k (inr h) v = let q : Err Settings ≡ Ok count = rw (k, h) at e in absurd (cc)
      go (Err refusal) k h v = let q : Err refusal ≡ Ok count = rw k at e in absurd (cc)

  old_output : PassedOld speed settings list buffer → value_in settings ≡ first_value list → output (to_old speed settings list buffer) ≡ pairs_in settings
  unfolding to_old on_check count_of
  old_output p f =
      let few = held_few list (value_in settings) (pairs_in settings) p.held in
      let room = (passed speed list (length buffer) p.check).room in
      rw (p.check, p.formed, p.held, eq-eqb (value_in settings) (first_value list) f)
      (taken_back (pairs_in settings) buffer _ refl (omega arith))

first_small : (list : List ℕ) → first_value list < 256
unfolding first_value configuration_value
first_small list = mod-lt _ (omega arith)

even_held : (list : List ℕ) (value : ℕ) (pairs : List ℕ) → settings_held list value pairs ≡ true → length pairs ≡ 2 * (length pairs / 2)
unfolding settings_held
even_held list value pairs h = held_even (configuration_words value list) pairs (and_right (leb (length pairs) 64) _ h)

new_and_back : NewAndBackPromise
unfolding to_old on_check
new_and_back speed settings list buffer again count small e room =
    let p = passed_new speed settings list buffer count e in
    let v = first_small list in
    let few = held_few list (first_value list) settings p.held in
    let even = even_held list (first_value list) settings p.held in
    rw (
      new_output speed settings list buffer p,
      passes speed list (length buffer) (length again) (passed speed list (length buffer) p.check) room,
      made_form (first_value list) settings v few even small,
      made_value (first_value list) settings v few even small,
      made_pairs (first_value list) settings v few even small,
      p.held,
      eq-eqb (first_value list) (first_value list) refl,
    )

old_and_back : OldAndBackPromise
unfolding to_new on_check
old_and_back speed settings list buffer again count small e room =
    let w = passed_old speed settings list buffer count e in
    let p = w.0 in
    let f = w.1 in
    let few = held_few list (value_in settings) (pairs_in settings) p.held in
    let c : count_in settings ≤ 32 = omega (arith, pairs_long settings p.formed, form_long settings p.formed) in
    let h : settings_held list (first_value list) (pairs_in settings) ≡ true = rw (← f) p.held in
    let n : new_form (first_value list) (pairs_in settings) ≡ settings = rw (← f) (form_again settings small p.formed c) in
    rw (old_output speed settings list buffer p f, passes speed list (length buffer) (length again) (passed speed list (length buffer) p.check) room, h, n)

other : OtherPromise
unfolding to_old on_check
other speed settings list buffer e =
    go (list_check speed list (length buffer)) refl (decided (is_new_form settings && settings_held list (value_in settings) (pairs_in settings))) (decided (eqb (value_in settings) (first_value list)))
  where
    go : (r : Result ⊤ Refusal) → list_check speed list (length buffer) ≡ r →
        Decided (is_new_form settings && settings_held list (value_in settings) (pairs_in settings)) → Decided (eqb (value_in settings) (first_value list)) →
        OtherFound settings list
    go (Ok tt) k (inl h) (inr v) = record { formed = and_left (is_new_form settings) _ h; held = and_right (is_new_form settings) _ h; other = v }
    go (Ok tt) k (inl h) (inl v) = let q : Ok (length (pairs_in settings)) ≡ Err OtherConfiguration = rw (k, h, v) at e in absurd (cc)
    go (Ok tt) k (inr h) v = let q : ◌≡◌ {A = Result ℕ Refusal} (Err Settings) (Err OtherConfiguration) = rw (k, h) at e in let r : Settings ≡ OtherConfiguration = cc in absurd (cc)
    go (Err refusal) k h v = absurd (checked_other speed list (length buffer) refusal k (rw k at e))

kept : KeptPromise
unfolding to_new to_old
kept speed settings list buffer = (
  checked_kept (list_check speed list (length buffer)) buffer _
      (unless_kept (settings_held list (first_value list) settings) Settings buffer _
      (accepted_kept (new_form (first_value list) settings) buffer)),
  checked_kept (list_check speed list (length buffer)) buffer _
      (unless_kept (is_new_form settings && settings_held list (value_in settings) (pairs_in settings)) Settings buffer _
      (unless_kept (eqb (value_in settings) (first_value list)) OtherConfiguration buffer _
      (accepted_kept (pairs_in settings) buffer))),
)

-- The check of the list at speeds 1 to 3.
check_same : (speed : ℕ) (list : List ℕ) (lent : ℕ) → speed_known speed ≡ true → is_super speed ≡ false → list_check speed list lent ≡ before.list_check list lent
unfolding list_check before.list_check
check_same speed list lent k s = let b = before_promise speed list s in rw (k, b.list, b.companions)

before_lem : BeforePromise
unfolding to_new before.to_new to_old before.to_old
before_lem speed settings list buffer k s = (rw (check_same speed list (length buffer) k s), rw (check_same speed list (length buffer) k s))
