-- What the course of a bring-up tells the device.
use Rattle.std.proofs.Common.{Ok}
use Prim.Native.Nat.{ℕ, zero, suc, ◌+◌, ◌≤◌, ◌<◌}
use mathlib.Core.Path.{◌≡◌, refl}
use mathlib.Core.Bool.{Bool, true, false, cond}
use mathlib.Core.List.{List, []}
use native.Mathlib.Omega.{arith}
use lib.Dec.{eqb}
use lib.ListN.{length, get_or}
use Rattle.laws.proofs.Tests.{not_both}
use Rattle.def.specs.Speed.{exponent_ok}
use Rattle.descriptor.specs.Word.{configuration_value}
use Rattle.descriptor_list.specs.Valid.{configurations}
use Rattle.answer.specs.declared.Answer.TheVariants as answer
use Rattle.answer.specs.Answer.{number, is_accepted}
use Rattle.command.specs.declared.Command.{Command}
use Rattle.command.specs.declared.Command.TheVariants as command
use Rattle.command.specs.declared.Sent.TheVariants as sent
use Rattle.command.specs.Course.{Course, ends, result}
use Rattle.command.proofs.Cuts.{each_outcome}
use Rattle.command.proofs.Operations.{ByteOperands, EachCommand, each_then}
use Rattle.transfer.specs.Routes.{old_match, new_free, replaced}
use Rattle.course_set_configuration.specs.SetConfiguration.{set_course}
use Rattle.course_set_configuration.proofs.Laws.{set_operands}
use Rattle.record_endpoint.specs.EndpointMap.{queue_dcis}
use Rattle.course_init.specs.Reading.{BringUp, Reading, nothing_read, read_up_to, Brought, brought}
use Rattle.course_init.specs.Init.{step, bring_up_settings, bring_up_set, bring_up_configs, bring_up_device, bring_up_configuration, bring_up_packet, bring_up_header, bring_up_address}
use Rattle.theorem_controller.specs.Controller.{is_done}
use Rattle.theorem_device_state.specs.DeviceState.{Known, known, DeviceState, nothing_known, configuration_read}
use Rattle.theorem_device_state.proofs.Heard.{device_step, heard, Hears, hears_result, hears_sends, hears_then}
use Rattle.theorem_device_state.proofs.SetConfiguration as set

module _ (a : BringUp) (spacing : ℕ) (routes : List ℕ) where
  -- Accepted, the device has the value that is read or set.
  Says : Brought → DeviceState → Type 0
  Says b w = is_accepted b.answer ≡ true → (b.read.configured ≡ true) × (w.configuration ≡ known b.read.value)

  abbrev v : Known
  v = known a.value

  other : (b : Brought) (w : DeviceState) → is_accepted b.answer ≡ false → Says b w
  unfolding Says
  other b w n t = not_both (is_accepted b.answer) t n

  step_hears : (c : Command) (read : Reading) (ctx : List ℕ) (next : Course Brought) (w : DeviceState) →
      Hears v Says (device_step v c sent.Done w) next → Hears v Says w (step c read ctx routes next)
  unfolding step Hears number
  step_hears c read ctx next w h = hears_sends v Says w c ctx _ _ _ h (λ code. other _ _ refl) (other _ _ refl)

  none_replaced : (slot : ℕ) → replaced routes slot [] [] ≡ Ok tt
  unfolding replaced old_match new_free
  none_replaced slot = refl

  allowed : replaced routes (bring_up_settings a spacing).slot (bring_up_settings a spacing).old [] ≡ Ok tt
  unfolding bring_up_settings
  allowed = none_replaced a.slot

  set_hears : (ctx : List ℕ) (w : DeviceState) → Hears v Says w (bring_up_set a spacing ctx routes)
  unfolding bring_up_set Hears Says
  set_hears ctx w =
      hears_then v Says w (set.Says v (bring_up_settings a spacing) routes w allowed) w (set_course (bring_up_settings a spacing) ctx routes) _
      (set.set_hears v (bring_up_settings a spacing) routes w allowed ctx)
      (λ e x h t. (refl, rw t (h.accepted t).1))

  configs_hears : (k i : ℕ) (ctx : List ℕ) (w : DeviceState) → Hears v Says w (bring_up_configs a spacing k i ctx routes)
  unfolding bring_up_configs device_step
  configs_hears zero i ctx w = set_hears ctx w
  configs_hears (suc k) i ctx w = step_hears (command.ReadConfig i) _ ctx _ w (configs_hears k (i + 1) ctx w)

  device_hears : (ctx : List ℕ) (w : DeviceState) → w.configuration ≡ known a.value → Hears v Says w (bring_up_device a spacing ctx routes)
  unfolding bring_up_device device_step Hears Says read_up_to
  device_hears ctx w e = step_hears command.ReadDevice _ ctx _ w (go (eqb (length a.list) 0))
    where
      go : (b : Bool) →
          Hears v Says w
          (cond b (ends (brought answer.Accepted (read_up_to a 0) ctx routes)) (bring_up_configs a spacing (configurations a.list) 0 ctx routes))
      go true = λ t. (refl, e)
      go false = configs_hears (configurations a.list) 0 ctx w

  configuration_hears : (ctx : List ℕ) (w : DeviceState) → Hears v Says w (bring_up_configuration a spacing ctx routes)
  unfolding bring_up_configuration device_step configuration_read is_done
  configuration_hears ctx w =
      step_hears command.ReadConfiguration _ ctx _ w (device_hears ctx (configuration_read v sent.Done w) refl)

  header_hears : (ctx : List ℕ) (w : DeviceState) → Hears v Says w (bring_up_header a spacing ctx routes)
  unfolding bring_up_header device_step Hears number bring_up_packet
  header_hears ctx w = step_hears command.ReadHeader _ ctx _ w (go (eqb a.header 8) (exponent_ok a.speed a.packet))
    where
      go : (b t : Bool) →
          Hears v Says w
          (cond b (cond t (bring_up_packet a spacing ctx routes) (ends (brought answer.PacketExponent nothing_read ctx routes)))
          (ends (brought answer.ShortHeader nothing_read ctx routes)))
      go true true = step_hears command.Evaluate _ _ _ w (configuration_hears _ w)
      go true false = other _ w refl
      go false t = other _ w refl

  address_hears : (ctx : List ℕ) (w : DeviceState) → Hears v Says w (bring_up_address a spacing ctx routes)
  unfolding bring_up_address device_step
  address_hears ctx w = step_hears command.Address _ _ _ w (header_hears _ nothing_known)

  pub address_says : (o : List ℕ) (n : ℕ) (ctx : List ℕ) (w : DeviceState) →
      is_accepted (result o n (bring_up_address a spacing ctx routes)).answer ≡ true →
      ((result o n (bring_up_address a spacing ctx routes)).read.configured ≡ true)
      × ((heard v o n (bring_up_address a spacing ctx routes) w).configuration ≡ known (result o n (bring_up_address a spacing ctx routes)).read.value)
  unfolding Says
  address_says o n ctx w = hears_result v Says o n (bring_up_address a spacing ctx routes) w (address_hears ctx w)

-- The operands of its commands are bytes.
module _ (a : BringUp) (spacing : ℕ) (routes : List ℕ) where
  step_bytes : (c : Command) → ByteOperands c → (read : Reading) (ctx : List ℕ) (next : Course Brought) → EachCommand ByteOperands next →
      EachCommand ByteOperands (step c read ctx routes next)
  unfolding step EachCommand
  step_bytes c b read ctx next e = (b, each_outcome (EachCommand ByteOperands) _ _ _ e (λ code. tt) tt)

  value_byte : (w : ℕ) → configuration_value w < 256
  unfolding configuration_value
  value_byte w = omega arith

  set_bytes : (ctx : List ℕ) → EachCommand ByteOperands (bring_up_set a spacing ctx routes)
  unfolding bring_up_set bring_up_settings EachCommand queue_dcis
  set_bytes ctx =
      each_then ByteOperands (set_course (bring_up_settings a spacing) ctx routes) _
      (set_operands (bring_up_settings a spacing) ctx routes (value_byte (get_or a.list 0 0)) (λ k. omega arith))
      (λ e. tt)

  configs_bytes : (k i : ℕ) (ctx : List ℕ) → i + k ≤ 256 → EachCommand ByteOperands (bring_up_configs a spacing k i ctx routes)
  unfolding bring_up_configs ByteOperands
  configs_bytes zero i ctx h = set_bytes ctx
  configs_bytes (suc k) i ctx h = step_bytes (command.ReadConfig i) (omega arith) _ ctx _ (configs_bytes k (i + 1) ctx (omega arith))

  module _ (few : configurations a.list ≤ 8) where
    packet_bytes : (ctx : List ℕ) → EachCommand ByteOperands (bring_up_packet a spacing ctx routes)
    unfolding bring_up_packet bring_up_configuration bring_up_device EachCommand ByteOperands
    packet_bytes ctx =
        step_bytes command.Evaluate tt _ _ _
        (step_bytes command.ReadConfiguration tt _ _ _ (step_bytes command.ReadDevice tt _ _ _ (go _ (eqb (length a.list) 0))))
      where
        go : (ctx : List ℕ) (b : Bool) →
            EachCommand ByteOperands
            (cond b (ends (brought answer.Accepted (read_up_to a 0) ctx routes)) (bring_up_configs a spacing (configurations a.list) 0 ctx routes))
        go ctx true = tt
        go ctx false = configs_bytes (configurations a.list) 0 ctx (omega (arith, few))

    pub address_bytes : (ctx : List ℕ) → EachCommand ByteOperands (bring_up_address a spacing ctx routes)
    unfolding bring_up_address bring_up_header EachCommand ByteOperands
    address_bytes ctx =
        step_bytes command.Address tt _ _ _
        (step_bytes command.ReadHeader tt _ _ _ (go _ (eqb a.header 8) (exponent_ok a.speed a.packet)))
      where
        go : (ctx : List ℕ) (b t : Bool) →
            EachCommand ByteOperands
            (cond b (cond t (bring_up_packet a spacing ctx routes) (ends (brought answer.PacketExponent nothing_read ctx routes)))
            (ends (brought answer.ShortHeader nothing_read ctx routes)))
        go ctx true true = packet_bytes ctx
        go ctx true false = tt
        go ctx false t = tt
