-- How many endpoints the courses of the calls make active, by their logs.
use Rattle.std.proofs.Common.{Result, Ok, Err, is_some}
use Prim.Native.Nat.{ℕ, ◌+◌}
use mathlib.Core.Path.{◌≡◌, refl}
use mathlib.Core.Bool.{Bool, true, false, not, cond, ◌&&◌, ◌||◌}
use mathlib.Core.List.{List, [], ◌∷◌, ◌++◌}
use lib.Dec.{eqb}
use lib.ListN.{length, take}
use Rattle.laws.proofs.Tests.{not_both}
use Rattle.answer.specs.declared.Answer.{Answer}
use Rattle.answer.specs.declared.Answer.TheVariants as answer
use Rattle.answer.specs.Answer.{number}
use Rattle.command.specs.declared.Command.TheVariants as command
use Rattle.command.specs.declared.Sent.{Sent}
use Rattle.command.specs.declared.Sent.TheVariants.{Done, Failed, Cut}
use Rattle.command.specs.Command.{operation_of, outcome_at, stop_command, resume_command}
use Rattle.command.specs.Course.{Course, ends, sends, on_sent, then, words, result, CutEnds}
use Rattle.command.specs.Sweep.{Sweep, swept, resume_from, resume_stopped_endpoints, or_code, undo_stops, stop_from, stop_endpoints}
use Rattle.command.proofs.Cuts.{on_sent_lem}
use Rattle.command.proofs.Operations.{ByteOperands, operation, EachCommand}
use Rattle.record_endpoint.specs.EndpointMap.{queue_dcis}
use Rattle.theorem_controller.specs.Controller.{controlled, is_done}
use Rattle.theorem_controller.proofs.Followed.{controlled_course, Follows, follows_result, follows_sends}
use Rattle.transfer.specs.declared.RouteError.{RouteError}
use Rattle.transfer.specs.Routes.{replaced}
use Rattle.course_steps.specs.End.{End, settings_kept, published, answer_of, configure_failed}
use Rattle.course_claim.specs.Claim.{Claim, claim_context, undo_context, undo_alternate, claim_publish, claim_switch_back, claim_undone, claim_undo, claim_switch, claim_resume, claim_configure, claim_course}
use Rattle.course_release.specs.Release.{Release, release_context, release_publish, release_resume, release_configure, release_course}
use Rattle.course_set_configuration.specs.SetConfiguration.{Settings, drop_context, restore_context, value_context, set_evaluate, set_published, set_publish, set_restored, set_restore, set_switch, set_resume, set_configure, set_course}
use Rattle.theorem_calls.specs.Handles.{Tally, tally}

abbrev pub counted : ℕ → Bool → Bool → Tally
counted n configures switches = record { resumes = n; configures = configures; switches = switches }

-- One course after the other.
follows_bind : {A B : Type 0} (P : A → Tally → Type 0) (Q : B → Tally → Type 0) (t : Tally) (c : Course A) (f : A → Course B) →
    Follows tally P t c → ((a : A) (u : Tally) → P a u → Follows tally Q u (f a)) → Follows tally Q t (then c f)
unfolding Follows then
follows_bind P Q t (ends a) f p g = g a t p
follows_bind P Q t (sends c ctx k) f p g = λ s. follows_bind P Q (tally (operation c) s ctx t) (k s) f (p s) g

-- A sweep: it says how many Resumes are done, none where it ends done.
abbrev pub Swept : Bool → Sweep → Tally → Type 0
Swept configures r t = t ≡ counted r.active configures false

module _ (ctx : List ℕ) (configures : Bool) where
  resume_counted_from : (ds : List ℕ) (n : ℕ) → Follows tally (Swept configures) (counted n configures false) (resume_from ctx n ds)
  unfolding Follows resume_from tally operation is_done
  resume_counted_from [] n = refl
  resume_counted_from (d ∷ ds) n =
      follows_sends tally (Swept configures) (counted n configures false) (resume_command d) ctx (resume_from ctx (n + 1) ds)
      (λ code. ends (swept (Failed code) n)) (ends (swept Cut n)) (resume_counted_from ds (n + 1)) (λ code. refl) refl

  resume_counted : (ds : List ℕ) → Follows tally (Swept configures) (counted 0 configures false) (resume_stopped_endpoints ctx ds)
  unfolding resume_stopped_endpoints
  resume_counted ds = resume_counted_from ds 0

-- Stops.
abbrev Stopped : Sweep → Tally → Type 0
Stopped r t = Swept false r t × (r.sent ≡ Done → r.active ≡ 0)

never : {P : Type 0} (code : ℕ) (s : Sent) → or_code code s ≡ Done → P
unfolding or_code
never code Done e = absurd cc
never code (Failed later) e = absurd cc
never code Cut e = absurd cc

module _ (ctx : List ℕ) where
  stop_counted_from : (stopped ds : List ℕ) → Follows tally Stopped (counted 0 false false) (stop_from ctx stopped ds)
  unfolding Follows stop_from undo_stops tally operation is_done
  stop_counted_from stopped [] = (refl, λ e. refl)
  stop_counted_from stopped (d ∷ ds) =
      follows_sends tally Stopped (counted 0 false false) (stop_command d) ctx (stop_from ctx (stopped ++ (d ∷ [])) ds)
      (undo_stops ctx stopped) (ends (swept Cut 0)) (stop_counted_from (stopped ++ (d ∷ [])) ds)
      (λ code.
      follows_bind (Swept false) Stopped (counted 0 false false) (resume_stopped_endpoints ctx stopped) _ (resume_counted ctx false stopped)
      (λ r u p. (p, never code r.sent)))
      (refl, λ e. refl)

  stop_counted : (ds : List ℕ) → Follows tally Stopped (counted 0 false false) (stop_endpoints ctx ds)
  unfolding stop_endpoints
  stop_counted ds = stop_counted_from [] ds

-- After stopping.
after_stops : (ctx ds : List ℕ) (Q : End → Tally → Type 0) (done : Course End) (failed : Sweep → ℕ → Course End) (cut : Sweep → Course End) →
    Follows tally Q (counted 0 false false) done →
    ((r : Sweep) (code : ℕ) → Follows tally Q (counted r.active false false) (failed r code)) →
    ((r : Sweep) → Follows tally Q (counted r.active false false) (cut r)) →
    Follows tally Q (counted 0 false false) (then (stop_endpoints ctx ds) (λ r. on_sent r.sent done (failed r) (cut r)))
after_stops ctx ds Q done failed cut f g h =
    follows_bind Stopped Q (counted 0 false false) (stop_endpoints ctx ds) _ (stop_counted ctx ds)
    (λ r u p.
    on_sent_lem (Follows tally Q u) r.sent done (failed r) (cut r)
    (λ e. rw (p.0, p.1 e) f) (λ code e. rw p.0 (g r code)) (λ e. rw p.0 (h r)))

-- Whether all are back.
unfoldable pub back : Answer → Tally → Bool
back x t = eqb (number x) 13 && (not t.configures || t.switches)

-- What an end that moved nothing says of the old endpoints, `all` of them.
abbrev pub Back : ℕ → End → Tally → Type 0
Back all e t = e.moved ≡ false → e.active ≡ cond (back e.answer t) all t.resumes

module _ (a : Claim) (routes : List ℕ) where
  abbrev Q : End → Tally → Type 0
  Q = Back (length a.old)

  published_back : (ctx : List ℕ) → Follows tally Q (counted 0 true true) (claim_publish a ctx routes)
  unfolding Follows claim_publish published back number
  published_back ctx = go (replaced routes a.args.slot.0 a.old a.pending)
    where
      go : (r : Result Unit RouteError) → Q (published r answer.InterfaceBroken true a.args.slot.0 a.old a.pending ctx routes) (counted 0 true true)
      go (Ok _) m = not_both true refl m
      go (Err _) m = refl

  switch_back_back : (code : ℕ) (ctx : List ℕ) → Follows tally Q (counted 0 true true) (claim_switch_back a code ctx routes)
  unfolding Follows claim_switch_back tally operation is_done back number
  switch_back_back code ctx =
      follows_sends tally Q (counted 0 true true) (command.SetInterface a.args.interface (undo_alternate a)) ctx _ _ _
      (λ m. refl) (λ later m. refl) (λ m. refl)

  undone_back : (code : ℕ) (ctx : List ℕ) → Follows tally Q (counted 0 true true) (claim_undone a code ctx routes)
  unfolding Follows claim_undone back number
  undone_back code ctx = go (is_some a.args.held_alternate)
    where
      go :
          (b : Bool) →
          Follows tally Q (counted 0 true true)
          (cond b (claim_switch_back a code ctx routes) (ends (settings_kept (answer.Failed code) (length a.old) ctx routes)))
      go true = switch_back_back code ctx
      go false = λ m. refl

  undo_back : (code : ℕ) (ctx : List ℕ) → Follows tally Q (counted 0 true true) (claim_undo a code ctx routes)
  unfolding Follows claim_undo tally operation is_done back number
  undo_back code ctx =
      follows_sends tally Q (counted 0 true true) command.Configure (undo_context a ctx) _ _ _ (undone_back code (undo_context a ctx))
      (λ later m. refl) (λ m. refl)

  switch_back : (ctx : List ℕ) → Follows tally Q (counted 0 true false) (claim_switch a ctx routes)
  unfolding Follows claim_switch tally operation is_done back number
  switch_back ctx =
      follows_sends tally Q (counted 0 true false) (command.SetInterface a.args.interface a.args.alternate) ctx _ _ _ (published_back ctx)
      (λ code. undo_back code ctx) (λ m. refl)

  code_back : (code : ℕ) (s : Sent) (n : ℕ) → n ≡ cond (back (answer_of (or_code code s)) (counted n true false)) (length a.old) n
  unfolding answer_of or_code back number
  code_back code Done n = refl
  code_back code (Failed later) n = refl
  code_back code Cut n = refl

  resume_back : (code : ℕ) (ctx : List ℕ) → Follows tally Q (counted 0 true false) (claim_resume a code ctx routes)
  unfolding Follows claim_resume
  resume_back code ctx =
      follows_bind (Swept true) Q (counted 0 true false) (resume_stopped_endpoints ctx (queue_dcis a.old)) _
      (resume_counted ctx true (queue_dcis a.old)) (λ r u p m. rw p (code_back code r.sent r.active))

  configure_back : (ctx : List ℕ) → Follows tally Q (counted 0 false false) (claim_configure a ctx routes)
  unfolding Follows claim_configure tally operation is_done back number
  configure_back ctx =
      let next = claim_context a ctx in
      follows_sends tally Q (counted 0 false false) command.Configure next _ _ _ (switch_back next) (λ code. resume_back code next) (λ m. refl)

  pub claim_back : (ctx : List ℕ) → Follows tally Q (counted 0 false false) (claim_course a ctx routes)
  unfolding Follows claim_course back number
  claim_back ctx =
      after_stops ctx (queue_dcis a.old) Q _ _ _ (configure_back ctx) (λ r code m. refl) (λ r m. refl)

module _ (a : Release) (routes : List ℕ) where
  abbrev R : End → Tally → Type 0
  R = Back (length a.old)

  released_back : (ctx : List ℕ) → Follows tally R (counted 0 true false) (release_publish a ctx routes)
  unfolding Follows release_publish published back number
  released_back ctx = go (replaced routes a.slot a.old [])
    where
      go : (r : Result Unit RouteError) → R (published r answer.InvalidEndpoint false a.slot a.old [] ctx routes) (counted 0 true false)
      go (Ok _) m = not_both true refl m
      go (Err _) m = refl

  failed_back : (code : ℕ) (s : Sent) (n : ℕ) → n ≡ cond (back (configure_failed code s) (counted n true false)) (length a.old) n
  unfolding configure_failed back number
  failed_back code Done n = refl
  failed_back code (Failed later) n = refl
  failed_back code Cut n = refl

  release_resume_back : (code : ℕ) (ctx : List ℕ) → Follows tally R (counted 0 true false) (release_resume a code ctx routes)
  unfolding Follows release_resume
  release_resume_back code ctx =
      follows_bind (Swept true) R (counted 0 true false) (resume_stopped_endpoints ctx (queue_dcis a.old)) _
      (resume_counted ctx true (queue_dcis a.old)) (λ r u p m. rw p (failed_back code r.sent r.active))

  release_configure_back : (ctx : List ℕ) → Follows tally R (counted 0 false false) (release_configure a ctx routes)
  unfolding Follows release_configure tally operation is_done back number
  release_configure_back ctx =
      let next = release_context a ctx in
      follows_sends tally R (counted 0 false false) command.Configure next _ _ _ (released_back next) (λ code. release_resume_back code next)
      (λ m. refl)

  pub release_back : (ctx : List ℕ) → Follows tally R (counted 0 false false) (release_course a ctx routes)
  unfolding Follows release_course back number
  release_back ctx =
      after_stops ctx (queue_dcis a.old) R _ _ _ (release_configure_back ctx) (λ r code m. refl) (λ r m. refl)

-- A set configuration leaves those active whose Resume is done.
abbrev pub Resumes : End → Tally → Type 0
Resumes e t = e.moved ≡ false → e.active ≡ t.resumes

module _ (a : Settings) where
  set_resume_counts : (code : ℕ) (ctx routes : List ℕ) → Follows tally Resumes (counted 0 true false) (set_resume a code ctx routes)
  unfolding Follows set_resume
  set_resume_counts code ctx routes =
      follows_bind (Swept true) Resumes (counted 0 true false) (resume_stopped_endpoints ctx (queue_dcis a.old)) _
      (resume_counted ctx true (queue_dcis a.old)) (λ r u p m. rw p refl)

  set_restored_counts : (code : ℕ) (ctx routes : List ℕ) → Follows tally Resumes (counted 0 true false) (set_restored a code ctx routes)
  unfolding Follows set_restored
  set_restored_counts code ctx routes =
      follows_bind (Swept true) Resumes (counted 0 true false) (resume_stopped_endpoints ctx (queue_dcis a.old)) _
      (resume_counted ctx true (queue_dcis a.old))
      (λ r u p.
      on_sent_lem (Follows tally Resumes u) r.sent _ _ _ (λ e m. rw p refl) (λ later e m. rw p refl) (λ e m. rw p refl))

  set_restore_counts : (code : ℕ) (ctx routes : List ℕ) → Follows tally Resumes (counted 0 true false) (set_restore a code ctx routes)
  unfolding Follows set_restore tally operation is_done
  set_restore_counts code ctx routes =
      let next = restore_context a ctx in
      follows_sends tally Resumes (counted 0 true false) command.Configure next _ _ _ (set_restored_counts code next routes) (λ later m. refl)
      (λ m. refl)

  set_published_counts : (r : Result Unit RouteError) (ctx routes : List ℕ) → Follows tally Resumes (counted 0 true false) (set_published r a ctx routes)
  unfolding Follows set_published set_evaluate tally operation is_done
  set_published_counts (Ok _) ctx routes =
      follows_sends tally Resumes (counted 0 true false) command.Evaluate (value_context a ctx) _ _ _ (λ m. not_both true refl m)
      (λ code m. not_both true refl m) (λ m. not_both true refl m)
  set_published_counts (Err _) ctx routes = λ m. refl

  set_switch_counts : (ctx routes : List ℕ) → Follows tally Resumes (counted 0 true false) (set_switch a ctx routes)
  unfolding Follows set_switch set_publish tally operation is_done
  set_switch_counts ctx routes =
      follows_sends tally Resumes (counted 0 true false) (command.SetConfiguration a.value) ctx _ _ _
      (set_published_counts (replaced routes a.slot a.old []) ctx routes) (λ code. set_restore_counts code ctx routes) (λ m. refl)

  set_configure_counts : (ctx routes : List ℕ) → Follows tally Resumes (counted 0 false false) (set_configure a ctx routes)
  unfolding Follows set_configure tally operation is_done
  set_configure_counts ctx routes =
      let next = drop_context a ctx in
      follows_sends tally Resumes (counted 0 false false) command.Configure next _ _ _ (set_switch_counts next routes)
      (λ code. set_resume_counts code next routes) (λ m. refl)

  pub set_counts : (ctx routes : List ℕ) → Follows tally Resumes (counted 0 false false) (set_course a ctx routes)
  unfolding Follows set_course
  set_counts ctx routes =
      after_stops ctx (queue_dcis a.old) Resumes _ _ _ (set_configure_counts ctx routes) (λ r code m. refl) (λ r m. refl)

-- The log tells the tally.
any_contexts : (x y : ℕ → List ℕ) (o : List ℕ) (n : ℕ) (ws : List ℕ) (t : Tally) → controlled tally x o n ws t ≡ controlled tally y o n ws t
unfolding controlled tally
any_contexts x y o n [] t = refl
any_contexts x y o n (w ∷ ws) t = any_contexts x y o (n + 1) ws (tally (operation_of w) (outcome_at o n) (y n) t)

pub tally_told : (Q : End → Tally → Type 0) (o : List ℕ) (c : Course End) → Follows tally Q (counted 0 false false) c →
    CutEnds (λ (e : End). e.ctx) c → EachCommand ByteOperands c →
    Q (result o 0 c) (controlled tally (λ i. []) o 0 (words o 0 c) (counted 0 false false))
tally_told Q o c f cuts bytes =
    let same = any_contexts (λ i. []) (λ i. (result (take i o) 0 c).ctx) o 0 (words o 0 c) (counted 0 false false) in
    rw (same, controlled_course tally (λ (e : End). e.ctx) o 0 c (counted 0 false false) cuts bytes)
    (follows_result tally Q o 0 c (counted 0 false false) f)
