-- How the course of each call ends: by a cut where a command is cut, and else by an answer whose code was read.
use Rattle.std.proofs.Common.{Result, Ok, Err, is_some}
use Prim.Native.Nat.{ℕ, zero, suc, ◌+◌, ◌≤◌}
use mathlib.Core.Path.{◌≡◌, refl, ap}
use mathlib.Core.Bool.{Bool, true, false, cond}
use mathlib.Core.List.{List, ◌∷◌}
use mathlib.Core.Logic.{◌⊎◌, inl, inr}
use native.Mathlib.Omega.{arith}
use lib.Dec.{eqb}
use lib.ListN.{length}
use Rattle.def.specs.Speed.{exponent_ok}
use Rattle.laws.proofs.Tests.{not_both}
use Rattle.descriptor_list.specs.Valid.{configurations}
use Rattle.answer.specs.declared.Answer.{Answer}
use Rattle.answer.specs.declared.Answer.TheVariants as answer
use Rattle.answer.specs.Answer.{number, code_of, is_cut, is_lost}
use Rattle.command.specs.declared.Command.{Command}
use Rattle.command.specs.declared.Sent.{Sent}
use Rattle.command.specs.declared.Sent.TheVariants.{Done, Failed, Cut}
use Rattle.command.specs.Course.{Course, ends, on_sent, then, words, EndsWith}
use Rattle.command.specs.Sweep.{stop_endpoints, resume_stopped_endpoints, stop_each, or_code}
use Rattle.record_endpoint.specs.EndpointMap.{queue_dcis}
use Rattle.transfer.specs.declared.RouteError.{RouteError}
use Rattle.transfer.specs.Routes.{Queue, replaced}
use Rattle.course_steps.specs.End.{End, settings_kept, published, move_routes, answer_of, configure_failed}
use Rattle.course_claim.specs.Claim.{Claim, claim_publish, claim_switch_back, claim_undone, claim_undo, claim_switch, claim_resume, claim_configure, claim_course}
use Rattle.course_release.specs.Release.{Release, release_publish, release_resume, release_configure, release_course}
use Rattle.course_set_configuration.specs.SetConfiguration.{Settings, set_evaluate, set_published, set_publish, set_restored, set_restore, set_switch, set_resume, set_configure, set_course}
use Rattle.course_disconnect.specs.Disconnect.{disable, disconnect_course}
use Rattle.course_init.specs.Reading.{BringUp, Reading, Brought}
use Rattle.course_init.specs.Init.{step, bring_up_settings, bring_up_set, bring_up_configs, bring_up_device, bring_up_configuration, bring_up_packet, bring_up_header, bring_up_address}
use Rattle.device.specs.Calls.{hub_course}
use Rattle.theorem_slot.specs.Answers.{is_refused}
use Rattle.command.proofs.Told.{Read, Told, on_read, told_then, ReadSweep, CutSweep, resume_told, stop_told, stop_each_told, sends_after_stop}

-- An unplugging that is broken or cut has moved nothing.
pub record Stayed (routes : List ℕ) (e : End) : Type 0 where
  pub kept : e.moved ≡ false
  pub lost : is_lost e.answer ≡ true
  pub left : e.routes ≡ routes

pub unplugging_stayed :
    (ctx routes : List ℕ) (e : End) →
    (e ≡ settings_kept answer.InterfaceBroken 0 ctx routes) ⊎ (e ≡ settings_kept answer.Cut 0 ctx routes) → Stayed routes e
unfolding number
unplugging_stayed ctx routes e (inl v) =
    record { kept = ap (λ (x : End). x.moved) v; lost = ap (λ (x : End). is_lost x.answer) v; left = ap (λ (x : End). x.routes) v }
unplugging_stayed ctx routes e (inr v) =
    record { kept = ap (λ (x : End). x.moved) v; lost = ap (λ (x : End). is_lost x.answer) v; left = ap (λ (x : End). x.routes) v }

-- An answer after a command that is no cut: no refusal either, and where it has a code, one of these.
pub record Fair (K : ℕ → Type 0) (a : Answer) : Type 0 where
  pub uncut : is_cut a ≡ false
  pub late : is_refused a ≡ false
  pub code : (code : ℕ) → a ≡ answer.Failed code → K code

module _ (K : ℕ → Type 0) where
  -- an answer without a code
  fair_plain : (a : Answer) → is_cut a ≡ false → is_refused a ≡ false → eqb (number a) 13 ≡ false → Fair K a
  unfolding number
  fair_plain a c r n =
      record { uncut = c; late = r; code = λ code e. not_both (eqb (number a) 13) (ap (λ x. eqb (number x) 13) e) n }

  fair_accepted : Fair K answer.Accepted
  unfolding number is_refused
  fair_accepted = fair_plain answer.Accepted refl refl refl

  fair_broken : Fair K answer.InterfaceBroken
  unfolding number is_refused
  fair_broken = fair_plain answer.InterfaceBroken refl refl refl

  fair_endpoint : Fair K answer.InvalidEndpoint
  unfolding number is_refused
  fair_endpoint = fair_plain answer.InvalidEndpoint refl refl refl

  fair_header : Fair K answer.ShortHeader
  unfolding number is_refused
  fair_header = fair_plain answer.ShortHeader refl refl refl

  fair_exponent : Fair K answer.PacketExponent
  unfolding number is_refused
  fair_exponent = fair_plain answer.PacketExponent refl refl refl

  fair_failed : (code : ℕ) → K code → Fair K (answer.Failed code)
  unfolding number is_refused code_of
  fair_failed code k =
      record { uncut = refl; late = refl; code = λ later e. let same : code ≡ later = ap code_of e in rw (← same) k }

  fair_answer : (s : Sent) → Read K s → Fair K (answer_of s)
  unfolding Read answer_of
  fair_answer Done r = fair_accepted
  fair_answer (Failed code) r = fair_failed code r
  fair_answer Cut r = absurd r

  fair_later : (code : ℕ) → K code → (s : Sent) → Read K s → Fair K (answer_of (or_code code s))
  unfolding Read answer_of or_code
  fair_later code k Done r = fair_failed code k
  fair_later code k (Failed later) r = fair_failed later r
  fair_later code k Cut r = absurd r

  fair_configure : (code : ℕ) → K code → (s : Sent) → Read K s → Fair K (configure_failed code s)
  unfolding Read configure_failed
  fair_configure code k Done r = fair_failed code k
  fair_configure code k (Failed later) r = fair_failed code k
  fair_configure code k Cut r = absurd r

  abbrev FairEnd : End → Type 0
  FairEnd e = Fair K e.answer

  abbrev CutEnd : End → Type 0
  CutEnd e = e.answer ≡ answer.Cut

  abbrev pub TellsEnd : Course End → Type 0
  TellsEnd = Told FairEnd CutEnd K

  -- routes moved as a last step
  published_tells : {refused : Answer} → Fair K refused → (doubted : Bool) (slot : ℕ) (old new : List Queue) (ctx routes : List ℕ) →
      TellsEnd (ends (move_routes refused doubted slot old new ctx routes))
  unfolding Told published
  published_tells {refused} f doubted slot old new ctx routes = go (replaced routes slot old new)
    where
      go : (r : Result Unit RouteError) → Fair K (published r refused doubted slot old new ctx routes).answer
      go (Ok _) = fair_accepted
      go (Err _) = f

  -- Claim.
  module _ (a : Claim) where
    claim_publish_lem : (ctx routes : List ℕ) → TellsEnd (claim_publish a ctx routes)
    unfolding Told claim_publish
    claim_publish_lem ctx routes = published_tells fair_broken true _ _ _ ctx routes

    module _ (code : ℕ) (k : K code) where
      claim_back : (ctx routes : List ℕ) → TellsEnd (claim_switch_back a code ctx routes)
      unfolding Told EndsWith claim_switch_back on_sent
      claim_back ctx routes = (refl, λ s r. on_read TellsEnd K s _ _ _ r (fair_failed code k) (λ later l. fair_broken))

      claim_undone_lem :
          (b : Bool) (ctx routes : List ℕ) →
          TellsEnd (cond b (claim_switch_back a code ctx routes) (ends (settings_kept (answer.Failed code) (length a.old) ctx routes)))
      unfolding Told
      claim_undone_lem true ctx routes = claim_back ctx routes
      claim_undone_lem false ctx routes = fair_failed code k

      claim_undo_lem : (ctx routes : List ℕ) → TellsEnd (claim_undo a code ctx routes)
      unfolding Told EndsWith claim_undo claim_undone on_sent
      claim_undo_lem ctx routes =
          (refl, λ s r. on_read TellsEnd K s _ _ _ r (claim_undone_lem (is_some a.args.held_alternate) _ routes) (λ later l. fair_broken))

      claim_resume_lem : (ctx routes : List ℕ) → TellsEnd (claim_resume a code ctx routes)
      unfolding Told EndsWith claim_resume answer_of or_code
      claim_resume_lem ctx routes =
          told_then (ReadSweep K) CutSweep FairEnd CutEnd K (resume_stopped_endpoints ctx (queue_dcis a.old)) _
          (resume_told K ctx (queue_dcis a.old)) (λ r p. rw p refl) (λ r p. fair_later code k r.sent p)

    claim_switch_lem : (ctx routes : List ℕ) → TellsEnd (claim_switch a ctx routes)
    unfolding Told EndsWith claim_switch on_sent
    claim_switch_lem ctx routes =
        (refl, λ s r. on_read TellsEnd K s _ _ _ r (claim_publish_lem ctx routes) (λ code k. claim_undo_lem code k ctx routes))

    claim_configure_lem : (ctx routes : List ℕ) → TellsEnd (claim_configure a ctx routes)
    unfolding Told EndsWith claim_configure on_sent
    claim_configure_lem ctx routes =
        (refl, λ s r. on_read TellsEnd K s _ _ _ r (claim_switch_lem _ routes) (λ code k. claim_resume_lem code k _ routes))

    pub claim_tells : (ctx routes : List ℕ) → TellsEnd (claim_course a ctx routes)
    unfolding Told EndsWith claim_course on_sent
    claim_tells ctx routes =
        told_then (ReadSweep K) CutSweep FairEnd CutEnd K (stop_endpoints ctx (queue_dcis a.old)) _
        (stop_told K ctx (queue_dcis a.old)) (λ r p. rw p refl)
        (λ r p. on_read TellsEnd K r.sent _ _ _ p (claim_configure_lem ctx routes) (λ code k. fair_failed code k))

  -- Release.
  module _ (a : Release) where
    release_publish_lem : (ctx routes : List ℕ) → TellsEnd (release_publish a ctx routes)
    unfolding Told release_publish
    release_publish_lem ctx routes = published_tells fair_endpoint false _ _ _ ctx routes

    release_resume_lem : (code : ℕ) → K code → (ctx routes : List ℕ) → TellsEnd (release_resume a code ctx routes)
    unfolding Told EndsWith release_resume configure_failed
    release_resume_lem code k ctx routes =
        told_then (ReadSweep K) CutSweep FairEnd CutEnd K (resume_stopped_endpoints ctx (queue_dcis a.old)) _
        (resume_told K ctx (queue_dcis a.old)) (λ r p. rw p refl) (λ r p. fair_configure code k r.sent p)

    release_configure_lem : (ctx routes : List ℕ) → TellsEnd (release_configure a ctx routes)
    unfolding Told EndsWith release_configure on_sent
    release_configure_lem ctx routes =
        (refl, λ s r. on_read TellsEnd K s _ _ _ r (release_publish_lem _ routes) (λ code k. release_resume_lem code k _ routes))

    pub release_tells : (ctx routes : List ℕ) → TellsEnd (release_course a ctx routes)
    unfolding Told EndsWith release_course on_sent
    release_tells ctx routes =
        told_then (ReadSweep K) CutSweep FairEnd CutEnd K (stop_endpoints ctx (queue_dcis a.old)) _
        (stop_told K ctx (queue_dcis a.old)) (λ r p. rw p refl)
        (λ r p. on_read TellsEnd K r.sent _ _ _ p (release_configure_lem ctx routes) (λ code k. fair_failed code k))

  -- Set configuration.
  module _ (a : Settings) where
    set_evaluate_lem : (ctx routes : List ℕ) → TellsEnd (set_evaluate a ctx routes)
    unfolding Told EndsWith set_evaluate on_sent
    set_evaluate_lem ctx routes = (refl, λ s r. on_read TellsEnd K s _ _ _ r fair_accepted (λ code k. fair_broken))

    set_published_lem : (r : Result Unit RouteError) (ctx routes : List ℕ) → TellsEnd (set_published r a ctx routes)
    unfolding Told set_published
    set_published_lem (Ok _) ctx routes = set_evaluate_lem ctx _
    set_published_lem (Err _) ctx routes = fair_endpoint

    module _ (code : ℕ) (k : K code) where
      set_restored_lem : (ctx routes : List ℕ) → TellsEnd (set_restored a code ctx routes)
      unfolding Told EndsWith set_restored on_sent
      set_restored_lem ctx routes =
          told_then (ReadSweep K) CutSweep FairEnd CutEnd K (resume_stopped_endpoints ctx (queue_dcis a.old)) _
          (resume_told K ctx (queue_dcis a.old)) (λ r p. rw p refl)
          (λ r p. on_read TellsEnd K r.sent _ _ _ p (fair_failed code k) (λ later l. fair_broken))

      set_restore_lem : (ctx routes : List ℕ) → TellsEnd (set_restore a code ctx routes)
      unfolding Told EndsWith set_restore on_sent
      set_restore_lem ctx routes = (refl, λ s r. on_read TellsEnd K s _ _ _ r (set_restored_lem _ routes) (λ later l. fair_broken))

      set_resume_lem : (ctx routes : List ℕ) → TellsEnd (set_resume a code ctx routes)
      unfolding Told EndsWith set_resume configure_failed
      set_resume_lem ctx routes =
          told_then (ReadSweep K) CutSweep FairEnd CutEnd K (resume_stopped_endpoints ctx (queue_dcis a.old)) _
          (resume_told K ctx (queue_dcis a.old)) (λ r p. rw p refl) (λ r p. fair_configure code k r.sent p)

    set_switch_lem : (ctx routes : List ℕ) → TellsEnd (set_switch a ctx routes)
    unfolding Told EndsWith set_switch set_publish on_sent
    set_switch_lem ctx routes =
        (refl, λ s r. on_read TellsEnd K s _ _ _ r (set_published_lem _ ctx routes) (λ code k. set_restore_lem code k ctx routes))

    set_configure_lem : (ctx routes : List ℕ) → TellsEnd (set_configure a ctx routes)
    unfolding Told EndsWith set_configure on_sent
    set_configure_lem ctx routes =
        (refl, λ s r. on_read TellsEnd K s _ _ _ r (set_switch_lem _ routes) (λ code k. set_resume_lem code k _ routes))

    pub set_tells : (ctx routes : List ℕ) → TellsEnd (set_course a ctx routes)
    unfolding Told EndsWith set_course on_sent
    set_tells ctx routes =
        told_then (ReadSweep K) CutSweep FairEnd CutEnd K (stop_endpoints ctx (queue_dcis a.old)) _
        (stop_told K ctx (queue_dcis a.old)) (λ r p. rw p refl)
        (λ r p. on_read TellsEnd K r.sent _ _ _ p (set_configure_lem ctx routes) (λ code k. fair_broken))

  -- Unplugging.
  pub disconnect_tells : (slot : ℕ) (dcis ctx routes : List ℕ) → TellsEnd (disconnect_course slot dcis ctx routes)
  unfolding Told EndsWith disconnect_course disable on_sent
  disconnect_tells slot dcis ctx routes =
      told_then (λ cut. cut ≡ false) (λ cut. cut ≡ true) FairEnd CutEnd K (stop_each ctx (1 ∷ dcis)) _ (stop_each_told K ctx (1 ∷ dcis))
      (λ cut p. rw p refl)
      (λ cut p. rw p (refl, λ s r. on_read (λ (e : End). Fair K e.answer) K s _ _ _ r fair_accepted (λ code k. fair_broken)))

  -- Hub update.
  pub hub_tells : (ctx : List ℕ) → Told (Fair K) (λ a. a ≡ answer.Cut) K (hub_course ctx)
  unfolding Told EndsWith hub_course answer_of
  hub_tells ctx = (refl, λ s r. fair_answer s r)

  -- Bring-up.
  abbrev FairBrought : Brought → Type 0
  FairBrought b = Fair K b.answer

  abbrev CutBrought : Brought → Type 0
  CutBrought b = b.answer ≡ answer.Cut

  abbrev pub TellsBrought : Course Brought → Type 0
  TellsBrought = Told FairBrought CutBrought K

  step_tells : (c : Command) (read : Reading) (ctx routes : List ℕ) (next : Course Brought) → TellsBrought next →
      TellsBrought (step c read ctx routes next)
  unfolding Told EndsWith step on_sent
  step_tells c read ctx routes next t = (refl, λ s r. on_read TellsBrought K s _ _ _ r t (λ code k. fair_failed code k))

  module _ (a : BringUp) (spacing : ℕ) (routes : List ℕ) where
    set_brought : (ctx : List ℕ) → TellsBrought (bring_up_set a spacing ctx routes)
    unfolding Told EndsWith bring_up_set
    set_brought ctx =
        told_then FairEnd CutEnd FairBrought CutBrought K (set_course (bring_up_settings a spacing) ctx routes) _
        (set_tells (bring_up_settings a spacing) ctx routes) (λ e p. p) (λ e p. p)

    configs_tell : (k i : ℕ) (ctx : List ℕ) → TellsBrought (bring_up_configs a spacing k i ctx routes)
    unfolding bring_up_configs
    configs_tell zero i ctx = set_brought ctx
    configs_tell (suc k) i ctx = step_tells _ _ ctx routes _ (configs_tell k (i + 1) ctx)

    either : (b : Bool) (x y : Course Brought) → TellsBrought x → TellsBrought y → TellsBrought (cond b x y)
    either true x y t u = t
    either false x y t u = u

    device_tells : (ctx : List ℕ) → TellsBrought (bring_up_device a spacing ctx routes)
    unfolding Told bring_up_device
    device_tells ctx =
        step_tells _ _ ctx routes _
        (either (eqb (length a.list) 0) _ _ fair_accepted (configs_tell (configurations a.list) 0 ctx))

    packet_tells : (ctx : List ℕ) → TellsBrought (bring_up_packet a spacing ctx routes)
    unfolding bring_up_packet bring_up_configuration
    packet_tells ctx = step_tells _ _ _ routes _ (step_tells _ _ _ routes _ (device_tells _))

    pub bring_up_tells : (ctx : List ℕ) → TellsBrought (bring_up_address a spacing ctx routes)
    unfolding Told bring_up_address bring_up_header
    bring_up_tells ctx =
        step_tells _ _ _ routes _ (step_tells _ _ _ routes _ (either (eqb a.header 8) _ _ (either (exponent_ok a.speed a.packet) _ _ (packet_tells _) fair_exponent) fair_header))

-- Each sends a command.
module _ (o ctx routes : List ℕ) where
  pub claim_sends : (a : Claim) → 1 ≤ length (words o 0 (claim_course a ctx routes))
  unfolding words claim_course claim_configure on_sent
  claim_sends a = sends_after_stop o ctx (queue_dcis a.old) _ (omega arith)

  pub release_sends : (a : Release) → 1 ≤ length (words o 0 (release_course a ctx routes))
  unfolding words release_course release_configure on_sent
  release_sends a = sends_after_stop o ctx (queue_dcis a.old) _ (omega arith)

  pub set_sends : (a : Settings) → 1 ≤ length (words o 0 (set_course a ctx routes))
  unfolding words set_course set_configure on_sent
  set_sends a = sends_after_stop o ctx (queue_dcis a.old) _ (omega arith)

  pub disconnect_sends : (slot : ℕ) (dcis : List ℕ) → 1 ≤ length (words o 0 (disconnect_course slot dcis ctx routes))
  unfolding words disconnect_course stop_each then
  disconnect_sends slot dcis = omega arith

  pub bring_up_sends : (a : BringUp) (spacing : ℕ) → 1 ≤ length (words o 0 (bring_up_address a spacing ctx routes))
  unfolding words bring_up_address step
  bring_up_sends a spacing = omega arith

pub hub_sends : (o ctx : List ℕ) → 1 ≤ length (words o 0 (hub_course ctx))
unfolding words hub_course
hub_sends o ctx = omega arith
