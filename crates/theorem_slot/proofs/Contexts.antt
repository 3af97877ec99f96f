-- The context of each command is what the call leaves that is cut there.
use Rattle.std.proofs.Common.{Ok, Err}
use Prim.Native.Nat.{ℕ, zero, suc, ◌+◌, ◌<◌}
use mathlib.Core.Path.{◌≡◌, refl, ◌∙◌}
use mathlib.Core.Bool.{Bool, true, false, cond}
use mathlib.Core.List.{List}
use native.Mathlib.Omega.{arith}
use lib.Dec.{eqb}
use lib.ListN.{length, take}
use Rattle.def.specs.Speed.{exponent_ok}
use Rattle.descriptor_list.specs.Valid.{configurations}
use Rattle.answer.specs.declared.Answer.{Answer}
use Rattle.answer.specs.Check.{Check}
use Rattle.command.specs.declared.Command.{Command}
use Rattle.command.specs.Course.{Course, Played, played, on_sent, context_at, EndsWith, CutsTo, CutEnds}
use Rattle.command.proofs.Cuts.{on_sent_lem, cuts_then, cut_context}
use Rattle.transfer.specs.Routes.{with_route}
use Rattle.course_steps.specs.End.{End}
use Rattle.course_claim.specs.Claim.{claim_course}
use Rattle.course_claim.proofs.Laws.{claim_cuts}
use Rattle.course_release.specs.Release.{release_course}
use Rattle.course_release.proofs.Laws.{release_cuts}
use Rattle.record_endpoint.specs.EndpointMap.{queues_of, queue_dcis}
use Rattle.course_disconnect.specs.Disconnect.{disconnect_course}
use Rattle.course_disconnect.proofs.Ends.{disconnect_cuts}
use Rattle.course_set_configuration.specs.SetConfiguration.{set_course}
use Rattle.course_set_configuration.proofs.Laws.{set_cuts}
use Rattle.course_init.specs.Reading.{BringUp, control_ring, Reading, Brought}
use Rattle.course_init.specs.Init.{step, bring_up_settings, bring_up_set, bring_up_configs, bring_up_device, bring_up_configuration, bring_up_packet, bring_up_header, bring_up_address}
use Rattle.device.specs.declared.record.Device.{Device}
use Rattle.device.specs.Left.{Left, refused, ended}
use Rattle.device.specs.Calls.{on_check, hub_context, hub_course, hub_left, hub_update}
use Rattle.device.specs.Ask.{commit}
use Rattle.device.specs.Claim.{drawn, claim_in, claim_record, claim}
use Rattle.device.specs.Disconnect.{disconnect_record, disconnect}
use Rattle.device.specs.Release.{release_in, release_record, release}
use Rattle.device.specs.SetConfiguration.{settings_in, set_record, set_configuration}
use Rattle.device.specs.Device.{endpoint_map_in, no_device}
use Rattle.context.specs.Place.{spacing_of}
use Rattle.device_bring_up.specs.BringUp.{bring_up_course, brought_left, bring_up}
use Rattle.theorem_slot.specs.Call.{Buffers, Asked, brings_up, claims, commits, releases, configures, updates_hub, disconnects, left, cut_at, context_cut}
use Rattle.theorem_slot.specs.Answers.{command_context, ContextsAgree}

-- The course of a bring-up, where a command is cut.
abbrev pub BroughtCuts : Course Brought → Type 0
BroughtCuts = CutEnds (λ (b : Brought). b.ctx)

step_cuts : (c : Command) (read : Reading) (ctx routes : List ℕ) (next : Course Brought) → BroughtCuts next →
    BroughtCuts (step c read ctx routes next)
unfolding CutsTo EndsWith step on_sent
step_cuts c read ctx routes next t = (refl, λ s. on_sent_lem BroughtCuts s _ _ _ (λ e. t) (λ code e. tt) (λ e. tt))

either : (b : Bool) (x y : Course Brought) → BroughtCuts x → BroughtCuts y → BroughtCuts (cond b x y)
either true x y t u = t
either false x y t u = u

module _ (a : BringUp) (spacing : ℕ) (routes : List ℕ) where
  set_brought_cuts : (ctx : List ℕ) → BroughtCuts (bring_up_set a spacing ctx routes)
  unfolding CutsTo EndsWith bring_up_set
  set_brought_cuts ctx =
      cuts_then (λ at (e : End). e.ctx ≡ at) (λ at (b : Brought). b.ctx ≡ at) (set_course (bring_up_settings a spacing) ctx routes) _
      (set_cuts (bring_up_settings a spacing) ctx routes) (λ at e p. p) (λ e. tt)

  configs_cuts : (k i : ℕ) (ctx : List ℕ) → BroughtCuts (bring_up_configs a spacing k i ctx routes)
  unfolding bring_up_configs
  configs_cuts zero i ctx = set_brought_cuts ctx
  configs_cuts (suc k) i ctx = step_cuts _ _ ctx routes _ (configs_cuts k (i + 1) ctx)

  packet_cuts : (ctx : List ℕ) → BroughtCuts (bring_up_packet a spacing ctx routes)
  unfolding CutsTo bring_up_packet bring_up_configuration bring_up_device
  packet_cuts ctx =
      step_cuts _ _ _ routes _
      (step_cuts _ _ _ routes _
      (step_cuts _ _ _ routes _ (either (eqb (length a.list) 0) _ _ tt (configs_cuts (configurations a.list) 0 _))))

  pub bring_up_cuts : (ctx : List ℕ) → BroughtCuts (bring_up_address a spacing ctx routes)
  unfolding CutsTo bring_up_address bring_up_header
  bring_up_cuts ctx =
      step_cuts _ _ _ routes _ (step_cuts _ _ _ routes _ (either (eqb a.header 8) _ _ (either (exponent_ok a.speed a.packet) _ _ (packet_cuts _) tt) tt))

-- A call that checks, and then leaves what a course leaves.
module _ {A : Type 0} (context_in : A → List ℕ) (leaves : Played A → Left) (c : Course A) (log o : List ℕ)
    (contexts : (p : Played A) → (leaves p).ctx ≡ context_in p.end) (counts : (p : Played A) → (leaves p).count ≡ p.count)
    (cuts : CutEnds context_in c) where
  context_there :
      (k : Check) (refuse : Answer → Left) (i : ℕ) → ((a : Answer) → (refuse a).count ≡ 0) →
      i < (on_check k (leaves (played o 0 c log)) refuse).count →
      (on_check k (leaves (played (take i o) 0 c log)) refuse).ctx ≡ context_at o 0 i c
  unfolding on_check played
  context_there (Ok _) refuse i none h =
      let z : 0 + i ≡ i = omega arith in
      let n = counts (played o 0 c log) in
      contexts (played (take i o) 0 c log) ∙ (rw z at (cut_context context_in o 0 i c cuts (omega (arith, n, h))))
  context_there (Err a) refuse i none h = absurd (omega (arith, none a, h))

hub_cuts : (ctx : List ℕ) → CutEnds (λ (a : Answer). ctx) (hub_course ctx)
unfolding CutsTo EndsWith hub_course
hub_cuts ctx = (refl, λ s. tt)

module _ (b : Buffers) (d : Device) (routes : List ℕ) (i : ℕ) where
  each :
      (a : Asked) → i < (left a b d routes).count →
      context_cut (record { asked = a; buffers = b }) d routes i ≡ command_context a b d routes i
  unfolding left cut_at context_cut command_context claim commit release set_configuration hub_update disconnect bring_up ended hub_left brought_left bring_up_course refused
  each (brings_up a) h =
      context_there (λ (x : Brought). x.ctx) (brought_left a (spacing_of (length b.ctx)))
      (bring_up_course a (spacing_of (length b.ctx)) b.ctx routes) b.log b.outcomes (λ p. refl) (λ p. refl)
      (bring_up_cuts a (spacing_of (length b.ctx)) (with_route routes a.slot 1 (control_ring a)) b.ctx) _
      (λ x. refused no_device x b.ctx routes b.log) i (λ x. refl) h
  each (claims j a) h =
      context_there (λ (x : End). x.ctx) (ended (claim_record d j a (drawn d j a))) (claim_course (claim_in d j a (drawn d j a)) b.ctx routes) b.log
      b.outcomes (λ p. refl) (λ p. refl) (claim_cuts (claim_in d j a (drawn d j a)) b.ctx routes) _
      (λ x. refused d x b.ctx routes b.log) i (λ x. refl) h
  each (commits p) h =
      context_there (λ (x : End). x.ctx) (ended (claim_record d p.interface p.alternate (drawn d p.interface p.alternate))) (claim_course (claim_in d p.interface p.alternate (drawn d p.interface p.alternate)) b.ctx routes) b.log
      b.outcomes (λ x. refl) (λ x. refl) (claim_cuts (claim_in d p.interface p.alternate (drawn d p.interface p.alternate)) b.ctx routes) _
      (λ x. refused d x b.ctx routes b.log) i (λ x. refl) h
  each (releases j) h =
      context_there (λ (x : End). x.ctx) (ended (release_record d j)) (release_course (release_in d j) b.ctx routes) b.log
      b.outcomes (λ p. refl) (λ p. refl) (release_cuts (release_in d j) b.ctx routes) _
      (λ x. refused d x b.ctx routes b.log) i (λ x. refl) h
  each (configures value) h =
      context_there (λ (x : End). x.ctx) (ended (set_record d value)) (set_course (settings_in d value) b.ctx routes) b.log
      b.outcomes (λ p. refl) (λ p. refl) (set_cuts (settings_in d value) b.ctx routes) _
      (λ x. refused d x b.ctx routes b.log) i (λ x. refl) h
  each (updates_hub ports multi ns) h =
      let ctx = hub_context d ports multi ns b.ctx in
      context_there (λ (x : Answer). ctx) (hub_left d ctx routes) (hub_course ctx) b.log b.outcomes (λ p. refl) (λ p. refl)
      (hub_cuts ctx) _ (λ x. refused d x b.ctx routes b.log) i (λ x. refl) h
  each disconnects h =
      let dcis = queue_dcis (queues_of (endpoint_map_in d).rings) in
      context_there (λ (x : End). x.ctx) (ended (disconnect_record d)) (disconnect_course d.slot.0 dcis b.ctx routes) b.log
      b.outcomes (λ p. refl) (λ p. refl) (disconnect_cuts d.slot.0 dcis b.ctx routes) _
      (λ x. refused d x b.ctx routes b.log) i (λ x. refl) h

pub contexts_agree : ContextsAgree
unfolding context_cut
contexts_agree c d routes i h = each c.buffers d routes i c.asked h
