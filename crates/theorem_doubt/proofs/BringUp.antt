-- A bring-up puts no ring but control's in the controller.
use Prim.Native.Nat.{ℕ, zero, suc, ◌+◌, ◌%◌, ◌^◌, ◌<◌, ◌≤◌}
use mathlib.Core.Path.{◌≡◌, refl, ap, ◌∙◌}
use mathlib.Core.Logic.{inl, inr, ⊎_elim}
use mathlib.Core.Bool.{Bool, true, false, cond}
use mathlib.Core.List.{List}
use native.Mathlib.Omega.{arith}
use borrow.Author.Tests.{ne_eqb}
use lib.Dec.{eqb, lit<}
use lib.ListN.{length, get_or}
use Rattle.laws.proofs.Tests.{not_both}
use Rattle.def.specs.Speed.{exponent_ok}
use Rattle.hub.specs.Route.{route_string}
use Rattle.hub.specs.Translator.{translator_of}
use Rattle.descriptor.specs.Word.{configuration_value}
use Rattle.descriptor_list.specs.Valid.{configurations}
use Rattle.answer.specs.declared.Answer.TheVariants as answer
use Rattle.answer.specs.Answer.{number, is_accepted}
use Rattle.command.specs.declared.Command.{Command}
use Rattle.command.specs.declared.Command.TheVariants as command
use Rattle.command.specs.declared.Sent.{Sent}
use Rattle.command.specs.declared.Sent.TheVariants as sent
use Rattle.command.specs.Command.{outcome_at}
use Rattle.command.specs.Course.{Course, ends, sends, on_sent, then, result}
use Rattle.command.proofs.Cuts.{each_outcome}
use Rattle.command.proofs.Operations.{ByteOperands, operation, EachCommand, each_then}
use Rattle.context_block.specs.Blocks.{some_dci}
use Rattle.context.specs.Place.{Spaced, spacing_of, written}
use Rattle.context.specs.Steps.{address_context, max_packet_writes}
use Rattle.context.proofs.Laws.{written_length}
use Rattle.transfer.specs.Routes.{ring_for}
use Rattle.record_endpoint.specs.EndpointMap.{queue_dcis}
use Rattle.theorem_controller.specs.Controller.{Step}
use Rattle.theorem_controller.proofs.Followed.{followed, Follows, follows_result}
use Rattle.course_set_configuration.specs.SetConfiguration.{set_course}
use Rattle.course_set_configuration.proofs.Laws.{OfEach, set_sends}
use Rattle.course_init.specs.Reading.{BringUp, control_ring, Reading, nothing_read, read_up_to, Brought, brought}
use Rattle.course_init.specs.Init.{step, bring_up_settings, bring_up_set, bring_up_configs, bring_up_device, bring_up_configuration, bring_up_packet, bring_up_header, bring_up_address}
use Rattle.theorem_doubt.specs.Doubt.{ring_at, acts, addressed_rings, rings_after}
use Rattle.theorem_doubt.proofs.Configured.{addressed_length, ring_addressed}
use Rattle.theorem_doubt.proofs.Watch.{sees_other}
use Rattle.theorem_doubt.proofs.Held.{OrNone, Outer}
use Rattle.theorem_doubt.proofs.Outer.{Leaving, outer_followed}
use Rattle.theorem_doubt.proofs.Others.{SetTold, set_sees}

-- What holds of each command that it sends after Address.
record OfRest (P : Command → Type 0) (a : BringUp) (spacing : ℕ) : Type 0 where
  pub evaluate : P command.Evaluate
  pub header : P command.ReadHeader
  pub configuration : P command.ReadConfiguration
  pub device : P command.ReadDevice
  pub config : (i : ℕ) → i < 256 → P (command.ReadConfig i)
  pub set : OfEach P (bring_up_settings a spacing)

module _ (P : Command → Type 0) (a : BringUp) (spacing : ℕ) (routes : List ℕ) (p : OfRest P a spacing) where
  step_each :
      (c : Command) → P c → (read : Reading) (ctx : List ℕ) (next : Course Brought) → EachCommand P next →
      EachCommand P (step c read ctx routes next)
  unfolding step EachCommand
  step_each c b read ctx next e = (b, each_outcome (EachCommand P) _ _ _ e (λ code. tt) tt)

  configs_each : (k i : ℕ) (ctx : List ℕ) → i + k ≤ 256 → EachCommand P (bring_up_configs a spacing k i ctx routes)
  unfolding bring_up_configs bring_up_set EachCommand
  configs_each zero i ctx h =
      each_then P (set_course (bring_up_settings a spacing) ctx routes) _ (set_sends P (bring_up_settings a spacing) p.set ctx routes) (λ e. tt)
  configs_each (suc k) i ctx h =
      step_each (command.ReadConfig i) (p.config i (omega arith)) _ ctx _ (configs_each k (i + 1) ctx (omega arith))

  packet_each : configurations a.list ≤ 8 → (ctx : List ℕ) → EachCommand P (bring_up_packet a spacing ctx routes)
  unfolding bring_up_packet bring_up_configuration bring_up_device EachCommand
  packet_each few ctx =
      step_each command.Evaluate p.evaluate _ _ _
      (step_each command.ReadConfiguration p.configuration _ _ _
      (step_each command.ReadDevice p.device _ _ _ (go _ (eqb (length a.list) 0))))
    where
      go :
          (ctx : List ℕ) (b : Bool) →
          EachCommand P
          (cond b (ends (brought answer.Accepted (read_up_to a 0) ctx routes)) (bring_up_configs a spacing (configurations a.list) 0 ctx routes))
      go ctx true = tt
      go ctx false = configs_each (configurations a.list) 0 ctx (omega (arith, few))

  header_each : configurations a.list ≤ 8 → (ctx : List ℕ) → EachCommand P (bring_up_header a spacing ctx routes)
  unfolding bring_up_header EachCommand
  header_each few ctx = step_each command.ReadHeader p.header _ _ _ (go _ (eqb a.header 8) (exponent_ok a.speed a.packet))
    where
      go :
          (ctx : List ℕ) (b t : Bool) →
          EachCommand P
          (cond b (cond t (bring_up_packet a spacing ctx routes) (ends (brought answer.PacketExponent nothing_read ctx routes)))
          (ends (brought answer.ShortHeader nothing_read ctx routes)))
      go ctx true true = packet_each few ctx
      go ctx true false = tt
      go ctx false t = tt

-- The operands of its commands are bytes.
value_byte : (w : ℕ) → configuration_value w < 256
unfolding configuration_value
value_byte w = omega arith

rest_bytes : (a : BringUp) (spacing : ℕ) → OfRest ByteOperands a spacing
unfolding ByteOperands bring_up_settings queue_dcis
rest_bytes a spacing =
    record {
      evaluate = tt;
      header = tt;
      configuration = tt;
      device = tt;
      config = λ i h. h;
      set =
          record {
            configure = tt;
            switch = value_byte (get_or a.list 0 0);
            evaluate = tt;
            stop = λ k. omega arith;
            resume = λ k. omega arith;
          };
    }

pub bring_up_bytes :
    (a : BringUp) (spacing : ℕ) (routes ctx : List ℕ) → configurations a.list ≤ 8 → EachCommand ByteOperands (bring_up_address a spacing ctx routes)
unfolding bring_up_address ByteOperands
bring_up_bytes a spacing routes ctx few =
    step_each ByteOperands a spacing routes (rest_bytes a spacing) command.Address tt _ _ _
    (header_each ByteOperands a spacing routes (rest_bytes a spacing) few _)

-- None of those after Address is one, or a Disable.
rest_leaving : (a : BringUp) (spacing : ℕ) → OfRest Leaving a spacing
unfolding operation
rest_leaving a spacing =
    record {
      evaluate = refl;
      header = refl;
      configuration = refl;
      device = refl;
      config = λ i h. refl;
      set = record { configure = refl; switch = refl; evaluate = refl; stop = λ k. refl; resume = λ k. refl };
    }

-- One course after the other.
follows_after :
    {S A B : Type 0} (st : Step S) (P : A → S → Type 0) (Q : B → S → Type 0) (c : Course A) (f : A → Course B) (state : S) →
    Follows st P state c → ((a : A) (t : S) → P a t → Follows st Q t (f a)) → Follows st Q state (then c f)
unfolding Follows then
follows_after st P Q (ends a) f state h g = g a state h
follows_after st P Q (sends c ctx k) f state h g = λ s. follows_after st P Q (k s) f _ (h s) g

-- An endpoint that was not there is not there.
module _ (a : BringUp) (spacing : ℕ) (routes : List ℕ) (d : ℕ) (two : 2 ≤ d) (h : d < 32) (took : Bool) where
  unfoldable None : Brought → (ℕ → ℕ) → Type 0
  None e now = now d ≡ 0

  abbrev Leaves : (ℕ → ℕ) → Course Brought → Type 0
  Leaves rings c = Follows (rings_after took) None rings c

  module _ (rings : ℕ → ℕ) (z : rings d ≡ 0) where
    module _ (ctx : List ℕ) (sp : Spaced spacing (length ctx)) (own : spacing_of (length ctx) ≡ spacing) where
      set_none : Leaves rings (bring_up_set a spacing ctx routes)
      unfolding bring_up_set bring_up_settings None Follows SetTold some_dci queue_dcis ring_for
      set_none =
          follows_after (rings_after took)
          (SetTold (bring_up_settings a spacing) routes d two h rings took (λ i l. not_both false l refl) (λ x. lit< tt) (λ i l. absurd (omega arith)) refl)
          None (set_course (bring_up_settings a spacing) ctx routes) _ rings
          (set_sees (bring_up_settings a spacing) routes d two h rings took (λ i l. not_both false l refl) (λ x. lit< tt) (λ i l. absurd (omega arith)) refl ctx
          sp own)
          (λ e w s. ⊎_elim (λ y. y ∙ z) (⊎_elim (λ y. y ∙ z) (λ y. y ∙ z)) s.any)

      configs_none : (k i : ℕ) → Leaves rings (bring_up_configs a spacing k i ctx routes)
      unfolding bring_up_configs step None Follows operation
      configs_none zero i = set_none
      configs_none (suc k) i = sees_other took None rings (command.ReadConfig i) refl ctx _ _ _ (configs_none k (i + 1)) (λ code. z) z

      device_none : Leaves rings (bring_up_device a spacing ctx routes)
      unfolding bring_up_device step None Follows operation
      device_none = sees_other took None rings command.ReadDevice refl ctx _ _ _ (go (eqb (length a.list) 0)) (λ code. z) z
        where
          go :
              (b : Bool) →
              Leaves rings
              (cond b (ends (brought answer.Accepted (read_up_to a 0) ctx routes)) (bring_up_configs a spacing (configurations a.list) 0 ctx routes))
          go true = z
          go false = configs_none (configurations a.list) 0

      configuration_none : Leaves rings (bring_up_configuration a spacing ctx routes)
      unfolding bring_up_configuration step None Follows operation
      configuration_none = sees_other took None rings command.ReadConfiguration refl ctx _ _ _ device_none (λ code. z) z

    module _ (ctx : List ℕ) (sp : Spaced spacing (length ctx)) (own : spacing_of (length ctx) ≡ spacing) where
      packet_none : Leaves rings (bring_up_packet a spacing ctx routes)
      unfolding bring_up_packet step None Follows operation
      packet_none =
          let next : List ℕ = written spacing (max_packet_writes a.speed a.packet) ctx in
          let same : length next ≡ length ctx = written_length _ _ ctx in
          sees_other took None rings command.Evaluate refl next _ _ _ (configuration_none next (rw same sp) (ap spacing_of same ∙ own)) (λ code. z) z

      header_none : Leaves rings (bring_up_header a spacing ctx routes)
      unfolding bring_up_header step None Follows operation
      header_none = sees_other took None rings command.ReadHeader refl ctx _ _ _ (go (eqb a.header 8) (exponent_ok a.speed a.packet)) (λ code. z) z
        where
          go :
              (b e : Bool) →
              Leaves rings
              (cond b (cond e (bring_up_packet a spacing ctx routes) (ends (brought answer.PacketExponent nothing_read ctx routes)))
              (ends (brought answer.ShortHeader nothing_read ctx routes)))
          go true true = packet_none
          go true false = z
          go false e = z

-- The whole course, on a controller without rings.
module _ (a : BringUp) (spacing : ℕ) (routes o ctx : List ℕ) (sp : Spaced spacing (length ctx)) (own : spacing_of (length ctx) ≡ spacing)
    (few : configurations a.list ≤ 8) (even : control_ring a % 16 ≡ 0) (wide : control_ring a < 2 ^ 64) (took : Bool)
    (rings : ℕ → ℕ) (none : (x : ℕ) → rings x ≡ 0) where
  next : List ℕ
  next =
      address_context spacing a.speed (route_string a.hubs a.parent a.port) (translator_of a.speed a.hubs a.parent a.port) a.root_port
      (control_ring a) ctx

  next_length : length next ≡ length ctx
  unfolding next
  next_length = addressed_length spacing a.speed _ _ a.root_port (control_ring a) ctx sp own even wide

  -- Address: acted or not.
  abbrev first : Sent → ℕ → ℕ
  first s = rings_after took (operation command.Address) s next rings

  first_rings : (s : Sent) (x : ℕ) → first s x ≡ cond (acts took s) (cond (eqb x 1) (control_ring a) 0) 0
  unfolding rings_after addressed_rings operation next
  first_rings s x = go (acts took s)
    where
      there : ring_at next 1 ≡ control_ring a
      there = ring_addressed spacing a.speed _ _ a.root_port (control_ring a) ctx sp own even wide

      go :
          (b : Bool) →
          cond b (λ (k : ℕ). cond (eqb k 1) (ring_at next 1) (rings k)) rings x ≡ cond b (cond (eqb x 1) (control_ring a) 0) 0
      go true = rw (there, none x) refl
      go false = none x

  abbrev course : Course Brought
  course = bring_up_address a spacing ctx routes

  now : ℕ → ℕ
  now = followed (rings_after took) o 0 course rings

  -- No endpoint but control has a ring,
  pub brought_place : (d : ℕ) → 2 ≤ d → d < 32 → followed (rings_after took) o 0 (bring_up_address a spacing ctx routes) rings d ≡ 0
  unfolding bring_up_address step Follows None next
  brought_place d two h =
      follows_result (rings_after took) (None a spacing routes d two h took) o 0 course rings
      (λ s.
      each_outcome (Follows (rings_after took) (None a spacing routes d two h took) (first s)) _ _ _
      (header_none a spacing routes d two h took (first s) (zero_first s) next (rw next_length sp) (ap spacing_of next_length ∙ own))
      (λ code. zero_first s) (zero_first s) s)
    where
      n : eqb d 1 ≡ false
      n = ne_eqb d 1 (λ e. omega arith)

      after : (b : Bool) → cond b (cond (eqb d 1) (control_ring a) 0) 0 ≡ 0
      after true = rw n
      after false = refl

      zero_first : (s : Sent) → first s d ≡ 0
      zero_first s = first_rings s d ∙ after (acts took s)

  -- elsewhere it stays what Address has put there:
  later : (x : ℕ) → Outer x → followed (rings_after took) o 0 (bring_up_address a spacing ctx routes) rings x ≡ first (outcome_at o 0) x
  unfolding bring_up_address step followed EachCommand next
  later x h =
      outer_followed took o 1 _ (first (outcome_at o 0)) x h
      (each_outcome (EachCommand Leaving) _ _ _ (header_each Leaving a spacing routes (rest_leaving a spacing) few next) (λ code. tt) tt (outcome_at o 0))

  -- none, or control's,
  pub brought_outer : (x : ℕ) → Outer x → OrNone (followed (rings_after took) o 0 (bring_up_address a spacing ctx routes) rings x) (control_ring a)
  brought_outer x h = rw (later x h ∙ first_rings (outcome_at o 0) x) (go (acts took (outcome_at o 0)) (eqb x 1))
    where
      go : (b e : Bool) → OrNone (cond b (cond e (control_ring a) 0) 0) (control_ring a)
      go true true = inr refl
      go true false = inl refl
      go false e = inl refl

  -- which control has where it is accepted.
  pub brought_first :
      is_accepted (result o 0 (bring_up_address a spacing ctx routes)).answer ≡ true →
      followed (rings_after took) o 0 (bring_up_address a spacing ctx routes) rings 1 ≡ control_ring a
  unfolding bring_up_address step result on_sent acts number next
  brought_first e = later 1 refl ∙ first_rings (outcome_at o 0) 1 ∙ go (outcome_at o 0) e
    where
      go :
          (s : Sent) →
          is_accepted
          (result o 1
          (on_sent s (bring_up_header a spacing next routes) (λ code. ends (brought (answer.Failed code) nothing_read next routes))
          (ends (brought answer.Cut nothing_read next routes)))).answer ≡ true →
          cond (acts took s) (control_ring a) 0 ≡ control_ring a
      go sent.Done t = refl
      go (sent.Failed code) t = not_both false t refl
      go sent.Cut t = not_both false t refl
