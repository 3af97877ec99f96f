-- The courses of the calls: refused where a command is not done, and their contexts.
use Rattle.std.proofs.Common.{Result, Ok, Err, is_some}
use Prim.Native.Nat.{ℕ, zero, suc, ◌+◌}
use mathlib.Core.Path.{◌≡◌, refl}
use mathlib.Core.Bool.{Bool, true, false, cond}
use mathlib.Core.List.{List}
use lib.Dec.{eqb}
use lib.ListN.{length}
use Rattle.def.specs.Speed.{exponent_ok}
use Rattle.descriptor_list.specs.Valid.{configurations}
use Rattle.answer.specs.declared.Answer.{Answer}
use Rattle.answer.specs.declared.Answer.TheVariants as answer
use Rattle.answer.specs.Answer.{number, is_accepted}
use Rattle.command.specs.declared.Command.{Command}
use Rattle.command.specs.declared.Sent.{Sent}
use Rattle.command.specs.declared.Sent.TheVariants.{Done, Failed, Cut}
use Rattle.command.specs.Course.{Course, ends}
use Rattle.command.specs.Sweep.{stop_endpoints, resume_stopped_endpoints, or_code}
use Rattle.command.proofs.Cuts.{each_outcome}
use Rattle.command.proofs.EachEnd.{EachEnd, end_then}
use Rattle.record_endpoint.specs.EndpointMap.{queue_dcis}
use Rattle.transfer.specs.declared.RouteError.{RouteError}
use Rattle.course_steps.specs.End.{End, settings_kept, answer_of, configure_failed}
use Rattle.course_claim.specs.Claim.{Claim, claim_publish, claim_switch_back, claim_undone, claim_undo, claim_switch, claim_resume, claim_configure, claim_course}
use Rattle.course_release.specs.Release.{Release, release_publish, release_resume, release_configure, release_course}
use Rattle.course_set_configuration.specs.SetConfiguration.{Settings, set_evaluate, set_published, set_publish, set_restored, set_restore, set_switch, set_resume, set_configure, set_course}
use Rattle.course_init.specs.Reading.{BringUp, Reading, Brought}
use Rattle.course_init.specs.Init.{step, bring_up_settings, bring_up_set, bring_up_configs, bring_up_device, bring_up_configuration, bring_up_packet, bring_up_header, bring_up_address}
use Rattle.device.specs.Calls.{hub_course}
use Rattle.theorem_calls.proofs.Courses.{Strict, strict_ends, strict_then, strict_sends, not_done, Undone, stop_strict}

abbrev pub RefusedEnd : End → Type 0
RefusedEnd e = is_accepted e.answer ≡ false

failed_refused : (code : ℕ) (s : Sent) → is_accepted (configure_failed code s) ≡ false
unfolding configure_failed number
failed_refused code Done = refl
failed_refused code (Failed later) = refl
failed_refused code Cut = refl

-- Claim.
module _ (a : Claim) (routes : List ℕ) where
  back_refused : (code : ℕ) (ctx : List ℕ) → EachEnd RefusedEnd (claim_switch_back a code ctx routes)
  unfolding EachEnd claim_switch_back number
  back_refused code ctx = each_outcome (EachEnd RefusedEnd) _ _ _ refl (λ later. refl) refl

  undone_refused : (code : ℕ) (ctx : List ℕ) → EachEnd RefusedEnd (claim_undone a code ctx routes)
  unfolding EachEnd claim_undone number
  undone_refused code ctx = go (is_some a.args.held_alternate)
    where
      go : (b : Bool) → EachEnd RefusedEnd (cond b (claim_switch_back a code ctx routes) (ends (settings_kept (answer.Failed code) (length a.old) ctx routes)))
      go true = back_refused code ctx
      go false = refl

  undo_refused : (code : ℕ) (ctx : List ℕ) → EachEnd RefusedEnd (claim_undo a code ctx routes)
  unfolding EachEnd claim_undo number
  undo_refused code ctx = each_outcome (EachEnd RefusedEnd) _ _ _ (undone_refused code _) (λ later. refl) refl

  later_refused : (code : ℕ) (s : Sent) → is_accepted (answer_of (or_code code s)) ≡ false
  unfolding answer_of or_code number
  later_refused code Done = refl
  later_refused code (Failed later) = refl
  later_refused code Cut = refl

  resume_refused : (code : ℕ) (ctx : List ℕ) → EachEnd RefusedEnd (claim_resume a code ctx routes)
  unfolding EachEnd claim_resume
  resume_refused code ctx = end_then RefusedEnd (resume_stopped_endpoints ctx (queue_dcis a.old)) _ (λ r. later_refused code r.sent)

  switch_strict : (ctx : List ℕ) → Strict RefusedEnd (claim_switch a ctx routes)
  unfolding EachEnd claim_switch claim_publish number
  switch_strict ctx = strict_sends RefusedEnd _ ctx _ _ _ (strict_ends _ _) (λ code. undo_refused code ctx) refl

  configure_strict : (ctx : List ℕ) → Strict RefusedEnd (claim_configure a ctx routes)
  unfolding EachEnd claim_configure number
  configure_strict ctx = strict_sends RefusedEnd _ _ _ _ _ (switch_strict _) (λ code. resume_refused code _) refl

  pub claim_strict : (ctx : List ℕ) → Strict RefusedEnd (claim_course a ctx routes)
  unfolding EachEnd claim_course number
  claim_strict ctx =
      strict_then (Undone ctx) RefusedEnd (stop_endpoints ctx (queue_dcis a.old)) _ (stop_strict ctx (queue_dcis a.old))
      (λ r n. not_done (EachEnd RefusedEnd) _ _ _ (λ code. refl) refl r.sent n)
      (λ r. each_outcome (Strict RefusedEnd) _ _ _ (configure_strict ctx) (λ code. strict_ends _ _) (strict_ends _ _) r.sent)

-- Release.
module _ (a : Release) (routes : List ℕ) where
  release_resume_refused : (code : ℕ) (ctx : List ℕ) → EachEnd RefusedEnd (release_resume a code ctx routes)
  unfolding EachEnd release_resume
  release_resume_refused code ctx =
      end_then RefusedEnd (resume_stopped_endpoints ctx (queue_dcis a.old)) _ (λ r. failed_refused code r.sent)

  release_configure_strict : (ctx : List ℕ) → Strict RefusedEnd (release_configure a ctx routes)
  unfolding EachEnd release_configure release_publish number
  release_configure_strict ctx = strict_sends RefusedEnd _ _ _ _ _ (strict_ends _ _) (λ code. release_resume_refused code _) refl

  pub release_strict : (ctx : List ℕ) → Strict RefusedEnd (release_course a ctx routes)
  unfolding EachEnd release_course number
  release_strict ctx =
      strict_then (Undone ctx) RefusedEnd (stop_endpoints ctx (queue_dcis a.old)) _ (stop_strict ctx (queue_dcis a.old))
      (λ r n. not_done (EachEnd RefusedEnd) _ _ _ (λ code. refl) refl r.sent n)
      (λ r. each_outcome (Strict RefusedEnd) _ _ _ (release_configure_strict ctx) (λ code. strict_ends _ _) (strict_ends _ _) r.sent)

-- Set configuration.
module _ (a : Settings) where
  set_resume_refused : (code : ℕ) (ctx routes : List ℕ) → EachEnd RefusedEnd (set_resume a code ctx routes)
  unfolding EachEnd set_resume
  set_resume_refused code ctx routes =
      end_then RefusedEnd (resume_stopped_endpoints ctx (queue_dcis a.old)) _ (λ r. failed_refused code r.sent)

  set_restored_refused : (code : ℕ) (ctx routes : List ℕ) → EachEnd RefusedEnd (set_restored a code ctx routes)
  unfolding EachEnd set_restored number
  set_restored_refused code ctx routes =
      end_then RefusedEnd (resume_stopped_endpoints ctx (queue_dcis a.old)) _
      (λ r. each_outcome (EachEnd RefusedEnd) _ _ _ refl (λ later. refl) refl r.sent)

  set_restore_refused : (code : ℕ) (ctx routes : List ℕ) → EachEnd RefusedEnd (set_restore a code ctx routes)
  unfolding EachEnd set_restore number
  set_restore_refused code ctx routes = each_outcome (EachEnd RefusedEnd) _ _ _ (set_restored_refused code _ routes) (λ later. refl) refl

  set_evaluate_strict : (ctx routes : List ℕ) → Strict RefusedEnd (set_evaluate a ctx routes)
  unfolding EachEnd set_evaluate number
  set_evaluate_strict ctx routes = strict_sends RefusedEnd _ _ _ _ _ (strict_ends _ _) (λ code. refl) refl

  set_published_strict : (r : Result Unit RouteError) (ctx routes : List ℕ) → Strict RefusedEnd (set_published r a ctx routes)
  unfolding set_published
  set_published_strict (Ok _) ctx routes = set_evaluate_strict ctx _
  set_published_strict (Err _) ctx routes = strict_ends _ _

  set_switch_strict : (ctx routes : List ℕ) → Strict RefusedEnd (set_switch a ctx routes)
  unfolding EachEnd set_switch set_publish number
  set_switch_strict ctx routes =
      strict_sends RefusedEnd _ _ _ _ _ (set_published_strict _ ctx routes) (λ code. set_restore_refused code ctx routes) refl

  set_configure_strict : (ctx routes : List ℕ) → Strict RefusedEnd (set_configure a ctx routes)
  unfolding EachEnd set_configure number
  set_configure_strict ctx routes =
      strict_sends RefusedEnd _ _ _ _ _ (set_switch_strict _ routes) (λ code. set_resume_refused code _ routes) refl

  pub set_strict : (ctx routes : List ℕ) → Strict RefusedEnd (set_course a ctx routes)
  unfolding EachEnd set_course number
  set_strict ctx routes =
      strict_then (Undone ctx) RefusedEnd (stop_endpoints ctx (queue_dcis a.old)) _ (stop_strict ctx (queue_dcis a.old))
      (λ r n. not_done (EachEnd RefusedEnd) _ _ _ (λ code. refl) refl r.sent n)
      (λ r. each_outcome (Strict RefusedEnd) _ _ _ (set_configure_strict ctx routes) (λ code. strict_ends _ _) (strict_ends _ _) r.sent)

-- Hub update.
pub hub_strict : (ctx : List ℕ) → Strict (λ (a : Answer). is_accepted a ≡ false) (hub_course ctx)
unfolding Strict EachEnd hub_course answer_of number
hub_strict ctx = (tt, go)
  where
    go : (s : Sent) → (s ≡ Done → ⊥) → is_accepted (answer_of s) ≡ false
    go Done n = absurd (n refl)
    go (Failed code) n = refl
    go Cut n = refl

-- Bring-up.
abbrev RefusedBrought : Brought → Type 0
RefusedBrought b = is_accepted b.answer ≡ false

step_strict : (c : Command) (read : Reading) (ctx routes : List ℕ) (next : Course Brought) → Strict RefusedBrought next →
    Strict RefusedBrought (step c read ctx routes next)
unfolding EachEnd step number
step_strict c read ctx routes next t = strict_sends RefusedBrought _ _ _ _ _ t (λ code. refl) refl

module _ (a : BringUp) (spacing : ℕ) (routes : List ℕ) where
  bring_set_strict : (ctx : List ℕ) → Strict RefusedBrought (bring_up_set a spacing ctx routes)
  unfolding EachEnd bring_up_set
  bring_set_strict ctx =
      strict_then RefusedEnd RefusedBrought (set_course (bring_up_settings a spacing) ctx routes) _
      (set_strict (bring_up_settings a spacing) ctx routes) (λ e n. n) (λ e. strict_ends _ _)

  configs_strict : (k i : ℕ) (ctx : List ℕ) → Strict RefusedBrought (bring_up_configs a spacing k i ctx routes)
  unfolding bring_up_configs
  configs_strict zero i ctx = bring_set_strict ctx
  configs_strict (suc k) i ctx = step_strict _ _ ctx routes _ (configs_strict k (i + 1) ctx)

  either_strict : (b : Bool) (x y : Course Brought) → Strict RefusedBrought x → Strict RefusedBrought y → Strict RefusedBrought (cond b x y)
  either_strict true x y t u = t
  either_strict false x y t u = u

  packet_strict : (ctx : List ℕ) → Strict RefusedBrought (bring_up_packet a spacing ctx routes)
  unfolding bring_up_packet bring_up_configuration bring_up_device
  packet_strict ctx =
      step_strict _ _ _ routes _
      (step_strict _ _ _ routes _
      (step_strict _ _ _ routes _ (either_strict (eqb (length a.list) 0) _ _ (strict_ends _ _) (configs_strict (configurations a.list) 0 _))))

  pub bring_up_strict : (ctx : List ℕ) → Strict RefusedBrought (bring_up_address a spacing ctx routes)
  unfolding bring_up_address bring_up_header
  bring_up_strict ctx =
      step_strict _ _ _ routes _
      (step_strict _ _ _ routes _
      (either_strict (eqb a.header 8) _ _ (either_strict (exponent_ok a.speed a.packet) _ _ (packet_strict _) (strict_ends _ _)) (strict_ends _ _)))
