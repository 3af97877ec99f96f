-- The configuration value that a bring-up has read or set where it is accepted.
use Prim.Native.Nat.{ℕ, zero, suc, ◌+◌}
use mathlib.Core.Path.{◌≡◌, refl, sym, ◌∙◌, ap}
use mathlib.Core.Bool.{Bool, true, false, cond}
use mathlib.Core.List.{List}
use mathlib.Core.Logic.{◌⊎◌, inl, inr}
use borrow.Author.Tests.{eq-eqb}
use lib.Dec.{eqb}
use lib.ListN.{length}
use Rattle.def.specs.Speed.{exponent_ok}
use Rattle.laws.proofs.Tests.{not_both}
use Rattle.descriptor_list.specs.Valid.{configurations}
use Rattle.answer.specs.declared.Answer.TheVariants as answer
use Rattle.answer.specs.Answer.{number, is_accepted}
use Rattle.command.specs.declared.Command.{Command}
use Rattle.command.specs.Course.{Course, ends, result, played}
use Rattle.command.proofs.EachEnd.{EachEnd, end_of, end_then}
use Rattle.command.proofs.Cuts.{on_sent_lem}
use Rattle.course_set_configuration.specs.SetConfiguration.{set_course}
use Rattle.course_init.specs.Reading.{BringUp, control_ring, Reading, nothing_read, read_up_to, Brought, brought}
use Rattle.course_init.specs.Init.{step, bring_up_settings, bring_up_set, bring_up_configs, bring_up_device, bring_up_configuration, bring_up_packet, bring_up_header, bring_up_address}
use Rattle.transfer.specs.Routes.{with_route}
use Rattle.device.specs.Left.{Left}
use Rattle.context.specs.Place.{spacing_of}
use Rattle.device_bring_up.specs.BringUp.{bring_up_course, brought_record, brought_left, bring_up}
use Rattle.device_bring_up.proofs.Laws.{Refused, Ran, bring_up_cases}
use Rattle.theorem_accepting.specs.Accepting.{value_set}

-- Where a bring-up is accepted.
pub record Valued (a : BringUp) (b : Brought) : Type 0 where
  pub configured : number b.answer ≡ 0 → b.read.configured ≡ true
  pub value : number b.answer ≡ 0 → b.read.value ≡ value_set a

module _ (a : BringUp) (spacing : ℕ) (routes : List ℕ) where
  -- an end that is not accepted
  other : (b : Brought) → eqb (number b.answer) 0 ≡ false → Valued a b
  other b n =
      record { configured = λ e. absurd (zero_not e); value = λ e. absurd (zero_not e) }
    where
      zero_not : number b.answer ≡ 0 → ⊥
      zero_not e = not_both (eqb (number b.answer) 0) (eq-eqb (number b.answer) 0 e) n

  step_valued : (c : Command) (read : Reading) (ctx : List ℕ) (next : Course Brought) → EachEnd (Valued a) next →
      EachEnd (Valued a) (step c read ctx routes next)
  unfolding EachEnd step number
  step_valued c read ctx next e = λ s.
      on_sent_lem (EachEnd (Valued a)) s _ _ _ (λ x. e) (λ code x. other (brought (answer.Failed code) read ctx routes) refl)
      (λ x. other (brought answer.Cut read ctx routes) refl)

  set_valued : eqb (length a.list) 0 ≡ false → (ctx : List ℕ) → EachEnd (Valued a) (bring_up_set a spacing ctx routes)
  unfolding EachEnd bring_up_set bring_up_settings value_set
  set_valued some ctx =
      end_then (Valued a) (set_course (bring_up_settings a spacing) ctx routes) _
      (λ e. record { configured = λ z. refl; value = λ z. rw (z, some) refl })

  configs_valued : eqb (length a.list) 0 ≡ false → (k i : ℕ) (ctx : List ℕ) → EachEnd (Valued a) (bring_up_configs a spacing k i ctx routes)
  unfolding bring_up_configs
  configs_valued some zero i ctx = set_valued some ctx
  configs_valued some (suc k) i ctx = step_valued _ _ ctx _ (configs_valued some k (i + 1) ctx)

  read_valued :
      (ctx : List ℕ) (b : Bool) → eqb (length a.list) 0 ≡ b →
      EachEnd (Valued a)
      (cond b (ends (brought answer.Accepted (read_up_to a 0) ctx routes))
      (bring_up_configs a spacing (configurations a.list) 0 ctx routes))
  unfolding EachEnd read_up_to value_set
  read_valued ctx true e = record { configured = λ z. refl; value = λ z. rw e refl }
  read_valued ctx false e = configs_valued e (configurations a.list) 0 ctx

  header_valued :
      (ctx : List ℕ) (b t : Bool) →
      EachEnd (Valued a)
      (cond b (cond t (bring_up_packet a spacing ctx routes) (ends (brought answer.PacketExponent nothing_read ctx routes)))
      (ends (brought answer.ShortHeader nothing_read ctx routes)))
  unfolding EachEnd bring_up_packet bring_up_configuration bring_up_device number
  header_valued ctx true true =
      step_valued _ _ _ _ (step_valued _ _ _ _ (step_valued _ _ _ _ (read_valued _ (eqb (length a.list) 0) refl)))
  header_valued ctx true false = other (brought answer.PacketExponent nothing_read ctx routes) refl
  header_valued ctx false t = other (brought answer.ShortHeader nothing_read ctx routes) refl

  pub valued : (o : List ℕ) (n : ℕ) (ctx : List ℕ) → Valued a (result o n (bring_up_address a spacing ctx routes))
  unfolding bring_up_address bring_up_header
  valued o n ctx = end_of (Valued a) o n _ (step_valued _ _ _ _ (step_valued _ _ _ _ (header_valued _ (eqb a.header 8) (exponent_ok a.speed a.packet))))

-- The record of an accepted bring-up.
pub record Values (a : BringUp) (l : Left) : Type 0 where
  pub configured : l.device.configured ≡ true
  pub value : l.device.current_config_value ≡ value_set a

module _ (a : BringUp) (ctx routes log outcomes : List ℕ) where
  values_of :
      (l : Left) → Refused ctx routes log l ⊎ Ran a ctx routes log outcomes l → l.answer ≡ answer.Accepted → Values a l
  unfolding number brought_left brought_record played bring_up_course
  values_of l (inl r) e = not_both (is_accepted l.answer) (rw e refl) r.answer.accepted
  values_of l (inr r) e = rw r.left (ran (sym (ap (λ (x : Left). number x.answer) r.left) ∙ ap number e))
    where
      left : Left
      left = brought_left a (spacing_of (length ctx)) (played outcomes 0 (bring_up_course a (spacing_of (length ctx)) ctx routes) log)

      ran : number left.answer ≡ 0 → Values a left
      ran z =
          let v = valued a (spacing_of (length ctx)) (with_route routes a.slot 1 (control_ring a)) outcomes 0 ctx in
          record { configured = v.configured z; value = v.value z }

  pub bring_up_values :
      (bring_up a ctx routes log outcomes).answer ≡ answer.Accepted → Values a (bring_up a ctx routes log outcomes)
  bring_up_values e = values_of _ (bring_up_cases a ctx routes log outcomes) e
