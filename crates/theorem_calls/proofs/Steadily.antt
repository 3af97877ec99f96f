-- The contexts of the calls' commands: each command that reads none is sent over that of the command before it.
use Rattle.std.proofs.Common.{Result, Ok, Err, is_some}
use Prim.Native.Nat.{ℕ, zero, suc, ◌+◌}
use mathlib.Core.Path.{◌≡◌, refl}
use mathlib.Core.Bool.{Bool, true, false, cond}
use mathlib.Core.List.{List, ◌∷◌}
use lib.Dec.{eqb}
use lib.ListN.{length}
use Rattle.def.specs.Speed.{exponent_ok}
use Rattle.laws.proofs.Tests.{not_both}
use Rattle.descriptor_list.specs.Valid.{configurations}
use Rattle.answer.specs.declared.Answer.{Answer}
use Rattle.answer.specs.declared.Answer.TheVariants as answer
use Rattle.command.specs.declared.Command.{Command}
use Rattle.command.specs.declared.Command.TheVariants as command
use Rattle.command.specs.Command.{command_word}
use Rattle.command.specs.Course.{Course, ends}
use Rattle.command.specs.Sweep.{stop_endpoints, resume_stopped_endpoints, stop_each}
use Rattle.command.proofs.Cuts.{each_outcome}
use Rattle.record_endpoint.specs.EndpointMap.{queue_dcis}
use Rattle.transfer.specs.declared.RouteError.{RouteError}
use Rattle.transfer.specs.Routes.{Queue, replaced}
use Rattle.course_steps.specs.End.{End, settings_kept, published, move_routes}
use Rattle.course_claim.specs.Claim.{Claim, claim_publish, claim_switch_back, claim_undone, claim_undo, claim_switch, claim_resume, claim_configure, claim_course}
use Rattle.course_release.specs.Release.{Release, release_publish, release_resume, release_configure, release_course}
use Rattle.course_set_configuration.specs.SetConfiguration.{Settings, set_evaluate, set_published, set_publish, set_restored, set_restore, set_switch, set_resume, set_configure, set_course}
use Rattle.course_disconnect.specs.Disconnect.{disable, disconnect_course}
use Rattle.course_init.specs.Reading.{BringUp, Reading, Brought}
use Rattle.course_init.specs.Init.{step, bring_up_settings, bring_up_set, bring_up_configs, bring_up_device, bring_up_configuration, bring_up_packet, bring_up_header, bring_up_address}
use Rattle.device.specs.Calls.{hub_course}
use Rattle.theorem_calls.specs.Commands.{reads_context}
use Rattle.theorem_calls.proofs.Courses.{Steady, steady_then, steady_end, stop_over, resume_over, stop_each_over}

abbrev pub context_in : End → List ℕ
context_in e = e.ctx

abbrev EndSteady : List ℕ → Course End → Type 0
EndSteady = Steady context_in

-- Commands that read the context they are sent over.
configure_reads : {P : Type 0} → reads_context (command_word command.Configure) ≡ false → P
unfolding reads_context command_word
configure_reads e = not_both true refl e

evaluate_reads : {P : Type 0} → reads_context (command_word command.Evaluate) ≡ false → P
unfolding reads_context command_word
evaluate_reads e = not_both true refl e

address_reads : {P : Type 0} → reads_context (command_word command.Address) ≡ false → P
unfolding reads_context command_word
address_reads e = not_both true refl e

published_steady : (refused : Answer) (doubted : Bool) (slot : ℕ) (old new : List Queue) (ctx routes : List ℕ) →
    EndSteady ctx (ends (move_routes refused doubted slot old new ctx routes))
unfolding Steady published
published_steady refused doubted slot old new ctx routes = go (replaced routes slot old new)
  where
    go : (r : Result Unit RouteError) → (published r refused doubted slot old new ctx routes).ctx ≡ ctx
    go (Ok _) = refl
    go (Err _) = refl

-- Claim.
module _ (a : Claim) (routes : List ℕ) where
  undone_steady : (code : ℕ) (ctx : List ℕ) → EndSteady ctx (claim_undone a code ctx routes)
  unfolding Steady claim_undone claim_switch_back
  undone_steady code ctx = go (is_some a.args.held_alternate)
    where
      go : (b : Bool) → EndSteady ctx (cond b (claim_switch_back a code ctx routes) (ends (settings_kept (answer.Failed code) (length a.old) ctx routes)))
      go true = (λ e. refl, each_outcome (EndSteady ctx) _ _ _ refl (λ later. refl) refl)
      go false = refl

  undo_steady : (code : ℕ) (ctx : List ℕ) → EndSteady ctx (claim_undo a code ctx routes)
  unfolding Steady claim_undo
  undo_steady code ctx = (λ e. configure_reads e, each_outcome (EndSteady _) _ _ _ (undone_steady code _) (λ later. refl) refl)

  resume_steady : (code : ℕ) (ctx : List ℕ) → EndSteady ctx (claim_resume a code ctx routes)
  unfolding Steady claim_resume
  resume_steady code ctx =
      steady_then context_in ctx (resume_stopped_endpoints ctx (queue_dcis a.old)) _ (resume_over ctx (queue_dcis a.old)) (λ r. refl)

  switch_steady : (ctx : List ℕ) → EndSteady ctx (claim_switch a ctx routes)
  unfolding Steady claim_switch claim_publish
  switch_steady ctx =
      (λ e. refl, each_outcome (EndSteady ctx) _ _ _ (published_steady _ _ _ _ _ ctx routes) (λ code. undo_steady code ctx) refl)

  configure_steady : (ctx : List ℕ) → EndSteady ctx (claim_configure a ctx routes)
  unfolding Steady claim_configure
  configure_steady ctx =
      (λ e. configure_reads e, each_outcome (EndSteady _) _ _ _ (switch_steady _) (λ code. resume_steady code _) refl)

  pub claim_steady : (ctx : List ℕ) → EndSteady ctx (claim_course a ctx routes)
  unfolding Steady claim_course
  claim_steady ctx =
      steady_then context_in ctx (stop_endpoints ctx (queue_dcis a.old)) _ (stop_over ctx (queue_dcis a.old))
      (λ r. each_outcome (EndSteady ctx) _ _ _ (configure_steady ctx) (λ code. refl) refl r.sent)

-- Release.
module _ (a : Release) (routes : List ℕ) where
  release_resume_steady : (code : ℕ) (ctx : List ℕ) → EndSteady ctx (release_resume a code ctx routes)
  unfolding Steady release_resume
  release_resume_steady code ctx =
      steady_then context_in ctx (resume_stopped_endpoints ctx (queue_dcis a.old)) _ (resume_over ctx (queue_dcis a.old)) (λ r. refl)

  release_configure_steady : (ctx : List ℕ) → EndSteady ctx (release_configure a ctx routes)
  unfolding Steady release_configure release_publish
  release_configure_steady ctx = (
    λ e. configure_reads e,
    each_outcome (EndSteady _) _ _ _ (published_steady _ _ _ _ _ _ routes) (λ code. release_resume_steady code _) refl,
  )

  pub release_steady : (ctx : List ℕ) → EndSteady ctx (release_course a ctx routes)
  unfolding Steady release_course
  release_steady ctx =
      steady_then context_in ctx (stop_endpoints ctx (queue_dcis a.old)) _ (stop_over ctx (queue_dcis a.old))
      (λ r. each_outcome (EndSteady ctx) _ _ _ (release_configure_steady ctx) (λ code. refl) refl r.sent)

-- Set configuration.
module _ (a : Settings) where
  set_resume_steady : (code : ℕ) (ctx routes : List ℕ) → EndSteady ctx (set_resume a code ctx routes)
  unfolding Steady set_resume
  set_resume_steady code ctx routes =
      steady_then context_in ctx (resume_stopped_endpoints ctx (queue_dcis a.old)) _ (resume_over ctx (queue_dcis a.old)) (λ r. refl)

  set_restored_steady : (code : ℕ) (ctx routes : List ℕ) → EndSteady ctx (set_restored a code ctx routes)
  unfolding Steady set_restored
  set_restored_steady code ctx routes =
      steady_then context_in ctx (resume_stopped_endpoints ctx (queue_dcis a.old)) _ (resume_over ctx (queue_dcis a.old))
      (λ r. each_outcome (EndSteady ctx) _ _ _ refl (λ later. refl) refl r.sent)

  set_restore_steady : (code : ℕ) (ctx routes : List ℕ) → EndSteady ctx (set_restore a code ctx routes)
  unfolding Steady set_restore
  set_restore_steady code ctx routes =
      (λ e. configure_reads e, each_outcome (EndSteady _) _ _ _ (set_restored_steady code _ routes) (λ later. refl) refl)

  set_published_steady : (r : Result Unit RouteError) (ctx routes : List ℕ) → EndSteady ctx (set_published r a ctx routes)
  unfolding Steady set_published set_evaluate
  set_published_steady (Ok _) ctx routes = (λ e. evaluate_reads e, each_outcome (EndSteady _) _ _ _ refl (λ code. refl) refl)
  set_published_steady (Err _) ctx routes = refl

  set_switch_steady : (ctx routes : List ℕ) → EndSteady ctx (set_switch a ctx routes)
  unfolding Steady set_switch set_publish
  set_switch_steady ctx routes = (
    λ e. refl,
    each_outcome (EndSteady ctx) _ _ _ (set_published_steady _ ctx routes) (λ code. set_restore_steady code ctx routes) refl,
  )

  set_configure_steady : (ctx routes : List ℕ) → EndSteady ctx (set_configure a ctx routes)
  unfolding Steady set_configure
  set_configure_steady ctx routes = (
    λ e. configure_reads e,
    each_outcome (EndSteady _) _ _ _ (set_switch_steady _ routes) (λ code. set_resume_steady code _ routes) refl,
  )

  pub set_steady : (ctx routes : List ℕ) → EndSteady ctx (set_course a ctx routes)
  unfolding Steady set_course
  set_steady ctx routes =
      steady_then context_in ctx (stop_endpoints ctx (queue_dcis a.old)) _ (stop_over ctx (queue_dcis a.old))
      (λ r. each_outcome (EndSteady ctx) _ _ _ (set_configure_steady ctx routes) (λ code. refl) refl r.sent)

-- Unplugging.
pub disconnect_steady : (slot : ℕ) (dcis ctx routes : List ℕ) → EndSteady ctx (disconnect_course slot dcis ctx routes)
unfolding Steady disconnect_course disable
disconnect_steady slot dcis ctx routes = steady_then context_in ctx (stop_each ctx (1 ∷ dcis)) _ (stop_each_over ctx (1 ∷ dcis)) go
  where
    go : (cut : Bool) → EndSteady ctx (cond cut (ends (settings_kept answer.Cut 0 ctx routes)) (disable slot ctx routes))
    go true = refl
    go false = (λ e. refl, λ s. each_outcome (λ (x : End). x.ctx ≡ ctx) _ _ _ refl (λ code. refl) refl s)

-- Hub update.
pub hub_steady : (at ctx : List ℕ) → Steady (λ (a : Answer). ctx) at (hub_course ctx)
unfolding Steady hub_course
hub_steady at ctx = (λ e. evaluate_reads e, λ s. refl)

-- Bring-up.
abbrev pub brought_context : Brought → List ℕ
brought_context b = b.ctx

abbrev BroughtSteady : List ℕ → Course Brought → Type 0
BroughtSteady = Steady brought_context

step_steady : (at : List ℕ) (c : Command) (read : Reading) (ctx routes : List ℕ) (next : Course Brought) →
    (reads_context (command_word c) ≡ false → ctx ≡ at) → BroughtSteady ctx next → BroughtSteady at (step c read ctx routes next)
unfolding Steady step
step_steady at c read ctx routes next h t = (h, each_outcome (BroughtSteady ctx) _ _ _ t (λ code. refl) refl)

module _ (a : BringUp) (spacing : ℕ) (routes : List ℕ) where
  bring_set_steady : (ctx : List ℕ) → BroughtSteady ctx (bring_up_set a spacing ctx routes)
  unfolding bring_up_set
  bring_set_steady ctx =
      steady_end context_in brought_context ctx (set_course (bring_up_settings a spacing) ctx routes) _
      (set_steady (bring_up_settings a spacing) ctx routes) (λ e. refl)

  configs_steady : (k i : ℕ) (ctx : List ℕ) → BroughtSteady ctx (bring_up_configs a spacing k i ctx routes)
  unfolding bring_up_configs
  configs_steady zero i ctx = bring_set_steady ctx
  configs_steady (suc k) i ctx = step_steady ctx _ _ ctx routes _ (λ e. refl) (configs_steady k (i + 1) ctx)

  either_steady : (at : List ℕ) (b : Bool) (x y : Course Brought) → BroughtSteady at x → BroughtSteady at y → BroughtSteady at (cond b x y)
  either_steady at true x y t u = t
  either_steady at false x y t u = u

  packet_steady : (ctx : List ℕ) → BroughtSteady ctx (bring_up_packet a spacing ctx routes)
  unfolding Steady bring_up_packet bring_up_configuration bring_up_device
  packet_steady ctx =
      step_steady ctx _ _ _ routes _ (λ e. evaluate_reads e)
      (step_steady _ _ _ _ routes _ (λ e. refl)
      (step_steady _ _ _ _ routes _ (λ e. refl) (either_steady _ (eqb (length a.list) 0) _ _ refl (configs_steady (configurations a.list) 0 _))))

  pub bring_up_steady : (ctx : List ℕ) → BroughtSteady ctx (bring_up_address a spacing ctx routes)
  unfolding Steady bring_up_address bring_up_header
  bring_up_steady ctx =
      step_steady ctx _ _ _ routes _ (λ e. address_reads e)
      (step_steady _ _ _ _ routes _ (λ e. refl)
      (either_steady _ (eqb a.header 8) _ _ (either_steady _ (exponent_ok a.speed a.packet) _ _ (packet_steady _) refl) refl))
