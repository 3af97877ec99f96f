-- A bring-up: refused it changes nothing, accepted the device has the value that it read or set, and else the slot is not up.
use Prim.Native.Nat.{ℕ, ◌+◌, ◌≤◌}
use mathlib.Core.Path.{◌≡◌, refl, sym, ◌∙◌, ap}
use mathlib.Core.Bool.{Bool, true, false, not, cond, ◌&&◌, and-false}
use mathlib.Core.List.{List}
use mathlib.Core.Logic.{◌⊎◌, inl, inr}
use native.Mathlib.Omega.{arith}
use borrow.Author.Tests.{ne_eqb}
use lib.ListN.{length, take, length-take}
use lib.Seq.{length-sets}
use Rattle.laws.proofs.Tests.{not_both}
use Rattle.laws.proofs.Cases.{Decided, decided}
use Rattle.descriptor_list.proofs.Companions.{listed}
use Rattle.answer.specs.Answer.{is_accepted}
use Rattle.command.specs.Course.{words, played}
use Rattle.context.specs.Place.{spacing_of}
use Rattle.transfer.specs.Routes.{with_route}
use Rattle.course_init.specs.Reading.{BringUp, control_ring}
use Rattle.device.specs.Device.{no_device}
use Rattle.device.specs.Left.{Left}
use Rattle.device_bring_up.specs.BringUp.{bring_up_course, brought_record, brought_left, bring_up}
use Rattle.device_bring_up.proofs.Laws.{Refused, Ran, bring_up_cases, bring_up_words}
use Rattle.theorem_slot.specs.Call.{Buffers, brings_up, left, context_cut}
use Rattle.theorem_slot.specs.Plain.{Plain, is_up, begins, effect_of, begun, failed, anew, observed}
use Rattle.theorem_slot.specs.Theorem.{State, record_after, called}
use Rattle.theorem_slot.proofs.Step.{observed_refused}
use Rattle.theorem_slot.proofs.Ends.{bring_up_sends}
use Rattle.theorem_device_state.specs.DeviceState.{known, DeviceState, device_told}
use Rattle.theorem_device_state.specs.Theorem.{value_read, device_heard, device_called, EachSet}
use Rattle.theorem_device_state.proofs.Heard.{heard}
use Rattle.theorem_device_state.proofs.Init.{address_says, address_bytes}
use Rattle.theorem_device_state.proofs.Kept.{Configured, Agrees, down_agrees}
use Rattle.theorem_device_state.proofs.Calls.{AgreesCalled, log_told}

module _ (a : BringUp) (buffers : Buffers) (table : List ℕ) where
  abbrev l : Left
  l = bring_up a buffers.ctx table buffers.log buffers.outcomes

  abbrev o : List ℕ
  o = buffers.outcomes

  abbrev spacing : ℕ
  spacing = spacing_of (length buffers.ctx)

  abbrev Cases : Type 0
  Cases = Refused buffers.ctx table buffers.log l ⊎ Ran a buffers.ctx table buffers.log buffers.outcomes l

  cases : Cases
  cases = bring_up_cases a buffers.ctx table buffers.log buffers.outcomes

  abbrev told : DeviceState → DeviceState
  told = device_heard (brings_up a) buffers l

  -- What the device has after one that is accepted.
  ran_value : Ran a buffers.ctx table buffers.log buffers.outcomes l → is_accepted l.answer ≡ true → (u : DeviceState) → Configured l.device (told u)
  unfolding device_heard value_read brought_left brought_record bring_up_course played
  ran_value r t u =
      let few = (listed a.speed a.list r.pass.list).few in
      let room : length (words o 0 (bring_up_course a spacing buffers.ctx table)) ≤ length buffers.log =
      omega (arith, few, bring_up_words a spacing buffers.ctx table o, r.pass.room) in
      let same : told u ≡ heard (known a.value) o 0 (bring_up_course a spacing buffers.ctx table) u =
      ap (λ (x : Left). device_told (known a.value) o 0 (take x.count x.log) u) r.left
      ∙ log_told (known a.value) o (bring_up_course a spacing buffers.ctx table) buffers.log u room (address_bytes a spacing _ few buffers.ctx) in
      let says = address_says a spacing _ o 0 buffers.ctx u (sym (ap (λ (x : Left). is_accepted x.answer) r.left) ∙ t) in
      record {
        up = ap (λ (x : Left). x.device.up) r.left ∙ sym (ap (λ (x : Left). is_accepted x.answer) r.left) ∙ t;
        configured = ap (λ (x : Left). x.device.configured) r.left ∙ says.0;
        value = ap (λ (w : DeviceState). w.configuration) same ∙ says.1 ∙ sym (ap (λ (x : Left). known x.device.current_config_value) r.left);
      }

  accepted_value : Cases → is_accepted l.answer ≡ true → (u : DeviceState) → Configured l.device (told u)
  accepted_value (inl r) t u = not_both (is_accepted l.answer) t r.answer.accepted
  accepted_value (inr r) t u = ran_value r t u

  -- So the plain slot begins.
  pub start_agrees : is_accepted l.answer ≡ true → (u : DeviceState) → Agrees (begun a) l.device (told u)
  unfolding begun EachSet
  start_agrees t u = record { alternates = λ up b. tt; unbroken = λ up x. refl; configuration = λ up x. accepted_value cases t u }

module _ (s : State) (a : BringUp) (buffers : Buffers) (keeps : Bool) (u : DeviceState) (g : Agrees s.plain s.device u) where
  abbrev x : Left
  x = l a buffers s.routes

  abbrev now : Plain
  now =
      observed (begins a) buffers x.answer (take x.count x.log)
      (context_cut (record { asked = brings_up a; buffers = buffers }) s.device s.routes) s.plain

  abbrev Goal : Type 0
  Goal = Agrees now (cond (keeps && not (is_accepted x.answer)) s.device x.device) (device_heard (brings_up a) buffers x u)

  module _ (r : Refused buffers.ctx s.routes buffers.log x) where
    plain_same : now ≡ s.plain
    plain_same = rw r.count (observed_refused (begins a) buffers _ _ s.plain (r.answer.accepted, simp (r.answer.broken, r.answer.cut)))

    told_same : device_heard (brings_up a) buffers x u ≡ u
    unfolding device_heard device_told
    told_same = rw r.count refl

    refused_agrees : (b : Bool) → Agrees now (cond b s.device x.device) (device_heard (brings_up a) buffers x u)
    unfolding no_device
    refused_agrees true = rw (plain_same, told_same) g
    refused_agrees false =
        rw (plain_same, told_same, r.device)
        (record { alternates = g.alternates; unbroken = λ up t. not_both false t refl; configuration = λ up t. not_both false t refl })

  module _ (r : Ran a buffers.ctx s.routes buffers.log buffers.outcomes x) (n : is_accepted x.answer ≡ false) where
    logged : length (take x.count x.log) ≡ 0 → ⊥
    unfolding brought_left bring_up_course played
    logged z =
        let ws = words buffers.outcomes 0 (bring_up_course a (spacing_of (length buffers.ctx)) buffers.ctx s.routes) in
        let c : x.count ≡ 0 + length ws = ap (λ (y : Left). y.count) r.left in
        let m : length x.log ≡ length buffers.log = ap (λ (y : Left). length y.log) r.left ∙ length-sets buffers.log 0 ws in
        omega (
          arith,
          c,
          m,
          r.pass.room,
          bring_up_sends buffers.outcomes buffers.ctx (with_route s.routes a.slot 1 (control_ring a)) a (spacing_of (length buffers.ctx)),
          length-take x.count x.log,
          z,
        )

    not_up : is_up now.phase ≡ false
    unfolding observed anew failed is_up
    not_up = rw (n, ne_eqb (length (take x.count x.log)) 0 logged) refl

  goal : Cases a buffers s.routes → Decided (is_accepted x.answer) → Goal
  unfolding observed anew
  goal (inl r) t = refused_agrees r (keeps && not (is_accepted x.answer))
  goal (inr r) (inl t) = rw (t, and-false keeps) (start_agrees a buffers s.routes t u)
  goal (inr r) (inr t) = down_agrees now _ _ (not_up r t)

  pub bring_up_agrees : AgreesCalled s (brings_up a) buffers keeps u
  unfolding called device_called record_after effect_of left
  bring_up_agrees = goal (cases a buffers s.routes) (decided (is_accepted x.answer))
