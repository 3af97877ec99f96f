-- The contexts that the controller reads along a bring-up.
use Prim.Native.Nat.{ℕ, zero, suc, ◌+◌, ◌^◌, ◌<◌}
use mathlib.Core.Path.{◌≡◌, refl, ◌∙◌}
use mathlib.Core.Bool.{true, cond}
use mathlib.Core.List.{List, []}
use native.Mathlib.Nat.{add-zero, mod-lt}
use native.Mathlib.Omega.{arith}
use borrow.Author.Tests.{leb-true, eq-eqb, ne_eqb}
use lib.Dec.{eqb, leb}
use lib.ListN.{length, get_or, length-replicate}
use Rattle.laws.proofs.Tests.{and_right}
use Rattle.def.specs.Speed.{speed_known, exponent_ok, header_packet_size}
use Rattle.descriptor.specs.Word.{configuration_value}
use Rattle.descriptor_list.specs.Valid.{configurations}
use Rattle.hub.specs.Chain.{chain_ok}
use Rattle.hub.specs.Route.{route_string}
use Rattle.hub.specs.Translator.{translator_of}
use Rattle.hub.proofs.Laws.{route_fits, translator_bytes}
use Rattle.std.specs.Prelude.{Ok}
use Rattle.transfer.specs.Routes.{old_match, new_free, cleared, published, moved, replaced, with_replaced}
use Rattle.answer.specs.declared.Answer.TheVariants as answer
use Rattle.answer.specs.Answer.{number, is_accepted}
use Rattle.command.specs.declared.Command.{Command}
use Rattle.command.specs.declared.Command.TheVariants as command
use Rattle.command.specs.declared.Sent.TheVariants as sent
use Rattle.command.specs.Command.{outcome_at}
use Rattle.command.specs.Course.{Course, ends, on_sent, then}
use Rattle.command.proofs.Done.{AllDone}
use Rattle.command.proofs.Reached.{Comes, comes_self, comes_then, comes_sends, comes_in, comes_true, comes_false, comes_as, CutHere, cut_here}
use Rattle.context.specs.Place.{Spaced, written}
use Rattle.context.specs.Steps.{address_context, max_packet_writes}
use Rattle.context.specs.Promises.{EndpointDcis, AddressReads, MaxPacketReads, ConfigurationReads, ConfigureReads}
use Rattle.context.proofs.Laws.{written_length}
use Rattle.context.proofs.Promises.{address_promise, max_packet_promise}
use Rattle.record_endpoint.specs.EndpointMap.{queue_dcis}
use Rattle.course_steps.specs.End.{End}
use Rattle.course_steps.proofs.Empty.{no_endpoints_lem, no_ring}
use Rattle.course_set_configuration.specs.SetConfiguration.{Settings, drop_context, restore_context, value_context, set_evaluate, set_restore, set_configure, set_course}
use Rattle.course_set_configuration.proofs.Contexts.{set_stopped, set_to_restore, set_to_evaluate, set_configure_reads, set_restore_reads, set_evaluate_reads, drop_context_length}
use Rattle.course_init.specs.Reading.{BringUp, control_ring, Reading, nothing_read, Brought, brought}
use Rattle.course_init.specs.Init.{HeaderRead, step, bring_up_settings, bring_up_set, bring_up_configs, bring_up_device, bring_up_configuration, bring_up_packet, bring_up_header, bring_up_address}

-- The commands that its course comes to.
comes_step : (o : List ℕ) (n : ℕ) (c : Command) (read : Reading) (ctx routes : List ℕ) (next : Course Brought) →
    outcome_at o n ≡ sent.Done → Comes o n (step c read ctx routes next) (n + 1) next
unfolding step on_sent
comes_step o n c read ctx routes next e = comes_sends o n c ctx _ sent.Done e

cut_step : (o : List ℕ) (course : Course Brought) (n : ℕ) (c : Command) (read : Reading) (ctx routes : List ℕ) (next : Course Brought) →
    Comes o 0 course n (step c read ctx routes next) → outcome_at o n ≡ sent.Cut → CutHere o course n c (brought answer.Cut read ctx routes)
unfolding step on_sent
cut_step o course n c read ctx routes next x e = cut_here o course n c ctx _ _ x e refl

module _ (a : BringUp) (spacing : ℕ) (ctx routes : List ℕ) where
  -- The contexts of Address, of the addressed Evaluate, and of the set configuration.
  unfoldable pub addressed : List ℕ
  addressed =
      address_context spacing a.speed (route_string a.hubs a.parent a.port)
      (translator_of a.speed a.hubs a.parent a.port) a.root_port (control_ring a) ctx

  unfoldable pub sized : List ℕ
  sized = written spacing (max_packet_writes a.speed a.packet) addressed

  unfoldable pub settings : Settings
  settings = bring_up_settings a spacing

  module _ (o : List ℕ) where
    pub bring_up_at_address : outcome_at o 0 ≡ sent.Cut →
        CutHere o (bring_up_address a spacing ctx routes) 0 command.Address (brought answer.Cut nothing_read addressed routes)
    unfolding addressed bring_up_address
    bring_up_at_address z = cut_step o _ 0 _ _ _ routes _ (comes_self o 0 (bring_up_address a spacing ctx routes)) z

    to_packet : AllDone o 0 2 → HeaderRead a → Comes o 0 (bring_up_address a spacing ctx routes) 2 (bring_up_packet a spacing addressed routes)
    unfolding addressed bring_up_address bring_up_header
    to_packet h e =
        comes_then o (comes_step o 0 _ _ _ routes _ (h 0 (omega arith) (omega arith)))
        (comes_then o (comes_step o 1 _ _ _ routes _ (h 1 (omega arith) (omega arith)))
        (comes_then o (comes_true o 2 (eqb a.header 8) _ _ (eq-eqb a.header 8 e.0))
        (comes_true o 2 (exponent_ok a.speed a.packet) _ _ e.1)))

    pub bring_up_at_packet : AllDone o 0 2 → HeaderRead a → outcome_at o 2 ≡ sent.Cut →
        CutHere o (bring_up_address a spacing ctx routes) 2 command.Evaluate (brought answer.Cut nothing_read sized routes)
    unfolding sized bring_up_packet
    bring_up_at_packet h e z = cut_step o _ 2 _ _ _ routes _ (to_packet h e) z

    configs : (k i n : ℕ) → AllDone o n k → Comes o n (bring_up_configs a spacing k i sized routes) (n + k) (bring_up_set a spacing sized routes)
    unfolding bring_up_configs
    configs zero i n h = rw add-zero (comes_self o n (bring_up_set a spacing sized routes))
    configs (suc k) i n h =
        comes_as o (n + suc k) (omega arith)
        (comes_then o (comes_step o n _ _ _ routes _ (h n (omega arith) (omega arith)))
        (configs k (i + 1) (n + 1) (λ j l m. h j (omega arith) (omega arith))))

    to_set : AllDone o 0 (5 + configurations a.list) → HeaderRead a → 0 < length a.list →
        Comes o 0 (bring_up_address a spacing ctx routes) (5 + configurations a.list) (bring_up_set a spacing sized routes)
    unfolding sized bring_up_packet bring_up_configuration bring_up_device
    to_set h e some =
        comes_then o (to_packet (λ j l m. h j (omega arith) (omega arith)) e)
        (comes_then o (comes_step o 2 _ _ _ routes _ (h 2 (omega arith) (omega arith)))
        (comes_then o (comes_step o 3 _ _ _ routes _ (h 3 (omega arith) (omega arith)))
        (comes_then o (comes_step o 4 _ _ _ routes _ (h 4 (omega arith) (omega arith)))
        (comes_then o (comes_false o 5 (eqb (length a.list) 0) _ _ (ne_eqb (length a.list) 0 (λ z. omega arith)))
        (configs (configurations a.list) 0 5 (λ j l m. h j (omega arith) (omega arith)))))))

  -- What it makes of the end of its set configuration.
  unfoldable ending : End → Course Brought
  ending e =
      ends
      (brought e.answer
      (record { configured = true; value = cond (is_accepted e.answer) settings.value a.value; list = a.list })
      e.ctx e.routes)

  -- A cut there.
  unfoldable pub ended_here : List ℕ → Brought
  ended_here at = brought answer.Cut (record { configured = true; value = a.value; list = a.list }) at routes

  none_replaced : replaced routes a.slot [] [] ≡ Ok (tt {0})
  unfolding replaced old_match new_free
  none_replaced = refl

  none_moved : with_replaced routes a.slot [] [] ≡ routes
  unfolding with_replaced moved replaced old_match new_free cleared published
  none_moved = refl

  module _ (o : List ℕ) (e : HeaderRead a) (some : 0 < length a.list) where
    set_part : {n : ℕ} {d : Course End} → AllDone o 0 (5 + configurations a.list) →
        Comes o (5 + configurations a.list) (set_course settings sized routes) n d →
        Comes o 0 (bring_up_address a spacing ctx routes) n (then d ending)
    unfolding settings ending bring_up_set
    set_part h x = comes_then o (to_set o h e some) (comes_in o ending x)

    pub bring_up_at_configure : AllDone o 0 (5 + configurations a.list) → outcome_at o (5 + configurations a.list) ≡ sent.Cut →
        CutHere o (bring_up_address a spacing ctx routes) (5 + configurations a.list) command.Configure (ended_here (drop_context settings sized))
    unfolding settings bring_up_settings ending ended_here set_configure then on_sent number
    bring_up_at_configure h z =
        let n = 5 + configurations a.list in
        cut_here o _ n _ _ _ _
        (comes_as o n (omega arith) (set_part h (set_stopped settings sized routes o n (λ i k j. absurd (omega arith)))))
        z refl

    pub bring_up_at_restore : (code : ℕ) → AllDone o 0 (6 + configurations a.list) → outcome_at o (6 + configurations a.list) ≡ sent.Failed code →
        outcome_at o (7 + configurations a.list) ≡ sent.Cut →
        CutHere o (bring_up_address a spacing ctx routes) (7 + configurations a.list) command.Configure
        (ended_here (restore_context settings (drop_context settings sized)))
    unfolding settings bring_up_settings ending ended_here set_restore then on_sent number
    bring_up_at_restore code h f z =
        let n = 5 + configurations a.list in
        let one : 6 + configurations a.list ≡ n + 0 + 1 = omega arith in
        cut_here o _ (7 + configurations a.list) _ _ _ _
        (comes_as o (7 + configurations a.list) (omega arith)
        (set_part (λ i k j. h i k (omega arith))
        (set_to_restore settings sized routes o n code (λ i k j. h i (omega arith) (omega arith)) (rw (← one) f))))
        z refl

    pub bring_up_at_evaluate : AllDone o 0 (7 + configurations a.list) → outcome_at o (7 + configurations a.list) ≡ sent.Cut →
        CutHere o (bring_up_address a spacing ctx routes) (7 + configurations a.list) command.Evaluate
        (ended_here (value_context settings (drop_context settings sized)))
    unfolding settings bring_up_settings ending ended_here set_evaluate then on_sent number
    bring_up_at_evaluate h z =
        let n = 5 + configurations a.list in
        cut_here o _ (7 + configurations a.list) _ _ _ _
        (comes_as o (7 + configurations a.list) (omega arith)
        (set_part (λ i k j. h i k (omega arith))
        (set_to_evaluate settings sized routes o n (λ i k j. h i (omega arith) (omega arith)) none_replaced)))
        z (rw none_moved)

-- What they read.

speed_fits : (s : ℕ) → speed_known s ≡ true → s < 2 ^ 4
unfolding speed_known
speed_fits s e = omega (arith, leb-true s 5 (and_right (leb 1 s) (leb s 5) e))

value_below : (w : ℕ) → configuration_value w < 2 ^ 8
unfolding configuration_value
value_below w = mod-lt _ (omega arith)

no_dcis : EndpointDcis []
no_dcis i l = absurd (omega arith)

module _ (a : BringUp) (spacing : ℕ) (ctx routes : List ℕ) (sp : Spaced spacing (length ctx)) where
  -- Address: the device's place
  pub bring_up_address_reads :
      speed_known a.speed ≡ true → chain_ok a.hubs a.parent ≡ true → a.port < 2 ^ 8 → a.root_port < 2 ^ 8 →
      control_ring a < 2 ^ 64 →
      AddressReads spacing a.speed (route_string a.hubs a.parent a.port)
      (translator_of a.speed a.hubs a.parent a.port) a.root_port (control_ring a) (addressed a spacing ctx routes)
  unfolding addressed
  bring_up_address_reads known chain port root_port ring =
      let t = translator_bytes a.speed a.hubs a.parent a.port port in
      address_promise spacing a.speed (route_string a.hubs a.parent a.port)
      (translator_of a.speed a.hubs a.parent a.port) a.root_port (control_ring a) ctx sp (speed_fits a.speed known)
      (route_fits a.hubs a.parent a.port chain) t.0 t.1 root_port ring

  addressed_length : length (addressed a spacing ctx routes) ≡ length ctx
  unfolding addressed address_context
  addressed_length = written_length _ _ _ ∙ length-replicate (length ctx) 0

  -- the packet size
  pub bring_up_packet_reads : a.packet < 2 ^ 8 → HeaderRead a →
      MaxPacketReads spacing (header_packet_size a.speed a.packet) (addressed a spacing ctx routes) (sized a spacing ctx routes)
  unfolding sized
  bring_up_packet_reads byte e =
      max_packet_promise spacing a.speed a.packet (addressed a spacing ctx routes) (rw addressed_length sp) byte e.1

  sized_length : length (sized a spacing ctx routes) ≡ length ctx
  unfolding sized
  sized_length = written_length _ _ _ ∙ addressed_length

  -- the set configuration of a device without endpoints
  pub bring_up_configure_reads :
      ConfigureReads spacing a.speed 0 0 [] [] [] [] (sized a spacing ctx routes)
      (drop_context (settings a spacing ctx routes) (sized a spacing ctx routes))
  unfolding settings bring_up_settings queue_dcis
  bring_up_configure_reads =
      set_configure_reads (settings a spacing ctx routes) (sized a spacing ctx routes) (rw sized_length sp) no_endpoints_lem no_dcis

  dropped_spaced : Spaced spacing (length (drop_context (settings a spacing ctx routes) (sized a spacing ctx routes)))
  dropped_spaced = rw (drop_context_length (settings a spacing ctx routes) (sized a spacing ctx routes), sized_length) sp

  pub bring_up_restore_reads :
      let was = drop_context (settings a spacing ctx routes) (sized a spacing ctx routes) in
      ConfigureReads spacing a.speed 0 0 [] [] [] [] was (restore_context (settings a spacing ctx routes) was)
  unfolding settings bring_up_settings queue_dcis
  bring_up_restore_reads = set_restore_reads (settings a spacing ctx routes) _ dropped_spaced no_endpoints_lem no_ring no_dcis

  pub bring_up_evaluate_reads :
      let was = drop_context (settings a spacing ctx routes) (sized a spacing ctx routes) in
      ConfigurationReads spacing (configuration_value (get_or a.list 0 0)) was (value_context (settings a spacing ctx routes) was)
  unfolding settings bring_up_settings
  bring_up_evaluate_reads = set_evaluate_reads (settings a spacing ctx routes) _ dropped_spaced (value_below (get_or a.list 0 0))
