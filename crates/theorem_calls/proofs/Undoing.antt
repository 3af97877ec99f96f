-- What the courses log after a failed command.
use Rattle.std.proofs.Common.{Result, Ok, Err, is_some}
use Prim.Native.Nat.{ℕ, zero, suc, ◌+◌, ◌-◌, ◌<◌}
use mathlib.Core.Path.{◌≡◌, refl, sym, ◌∙◌, ap}
use mathlib.Core.Bool.{Bool, true, false, cond, ◌&&◌}
use mathlib.Core.List.{List, [], ◌∷◌, ◌++◌, append-nil, append_assoc}
use native.Mathlib.Omega.{arith}
use mathlib.Core.Logic.{inl, inr}
use native.Mathlib.Decide.{dec_lt}
use borrow.Author.Tests.{lt-ltb, le-ltb, eq-eqb, eqb-true, eqb-false, ne_eqb}
use lib.Dec.{eqb, ltb}
use Rattle.laws.proofs.Cases.{Decided, decided}
use lib.ListN.{length, take, drop}
use Rattle.def.specs.Speed.{exponent_ok}
use Rattle.descriptor_list.specs.Valid.{configurations}
use Rattle.command.specs.declared.Command.{Command}
use Rattle.command.specs.declared.Sent.{Sent}
use Rattle.command.specs.declared.Sent.TheVariants.{Done, Failed, Cut}
use Rattle.command.specs.Command.{log_word, command_word, outcome_at, stop_command}
use Rattle.command.specs.Course.{Course, ends, sends, on_sent, then, words, result}
use Rattle.command.specs.Sweep.{Sweep, swept, resume_from, resume_stopped_endpoints, or_code, undo_stops, stop_from, stop_endpoints, stop_each}
use Rattle.command.proofs.Laws.{words_then}
use Rattle.command.proofs.Sweeps.{undo_words, undo_result, stop_words, stop_each_words}
use Rattle.answer.specs.declared.Answer.TheVariants as answer
use Rattle.command.proofs.Cuts.{each_outcome}
use Rattle.record_endpoint.specs.EndpointMap.{queue_dcis}
use Rattle.course_steps.specs.End.{End, settings_kept, settings_doubted}
use Rattle.course_claim.specs.Claim.{Claim, claim_context, undo_context, undo_alternate, claim_publish, claim_switch_back, claim_undone, claim_undo, claim_switch, claim_resume, claim_configure, claim_course}
use Rattle.transfer.specs.declared.RouteError.{RouteError}
use Rattle.transfer.specs.Routes.{replaced}
use Rattle.course_release.specs.Release.{Release, release_context, release_publish, release_resume, release_configure, release_course}
use Rattle.course_set_configuration.specs.SetConfiguration.{Settings, drop_context, restore_context, set_evaluate, set_published, set_publish, set_restored, set_restore, set_switch, set_resume, set_configure, set_course}
use Rattle.course_init.specs.Reading.{BringUp, Reading, Brought}
use Rattle.course_init.specs.Init.{step, bring_up_settings, bring_up_set, bring_up_configs, bring_up_device, bring_up_configuration, bring_up_packet, bring_up_header, bring_up_address}
use Rattle.course_disconnect.specs.Disconnect.{disable, disconnect_course}
use Rattle.theorem_calls.proofs.Courses.{not_done}
use Rattle.theorem_calls.proofs.Walked.{Front, front_all}
use Rattle.theorem_controller.specs.Controller.{is_done}
use Rattle.theorem_calls.specs.Undone.{resumes, after_stop, after_configure}

never : {P : Type 0} (code : ℕ) (s : Sent) → or_code code s ≡ Done → P
unfolding or_code
never code Done e = absurd cc
never code (Failed later) e = absurd cc
never code Cut e = absurd cc

module _ (o : List ℕ) where
  -- After a failed command m, all before it being done, a course logs these words.
  abbrev pub After : {A : Type 0} → ℕ → Course A → ℕ → List ℕ → Type 0
  After n c m ws =
      m < length (words o n c) → ((k : ℕ) → k < m → outcome_at o (n + k) ≡ Done) → (code : ℕ) → outcome_at o (n + m) ≡ Failed code →
      drop (m + 1) (words o n c) ≡ ws

  pub after_same : {A : Type 0} (n m : ℕ) (c : Course A) (ws vs : List ℕ) → ws ≡ vs → After n c m ws → After n c m vs
  after_same n m c ws vs p g h f code e = g h f code e ∙ p

  -- an end
  pub after_ends : {A : Type 0} (n m : ℕ) (a : A) (ws : List ℕ) → After n (ends a) m ws
  unfolding words
  after_ends n m a ws h f code e = absurd (omega arith)

  pub ended_words : {A : Type 0} (n : ℕ) (a : A) → words o n (ends a) ≡ []
  unfolding words
  ended_words n a = refl

  -- the first command
  pub after_first : {A : Type 0} (n : ℕ) (c : Command) (ctx : List ℕ) (k : Sent → Course A) (ws : List ℕ) →
      ((code : ℕ) → words o (n + 1) (k (Failed code)) ≡ ws) → After n (sends c ctx k) 0 ws
  unfolding words
  after_first n c ctx k ws g h f code e =
      let z : n + 0 ≡ n = omega arith in
      let d : outcome_at o n ≡ Failed code = rw z at e in
      rw d (g code)

  -- a later one
  pub after_later : {A : Type 0} (n : ℕ) (c : Command) (ctx : List ℕ) (k : Sent → Course A) (m : ℕ) (ws : List ℕ) →
      After (n + 1) (k Done) m ws → After n (sends c ctx k) (suc m) ws
  unfolding words
  after_later n c ctx k m ws g h f code e =
      let z : n + 0 ≡ n = omega arith in
      let d : outcome_at o n ≡ Done = rw z at (f zero (omega arith)) in
      let l : suc m < suc (length (words o (n + 1) (k Done))) = rw d at h in
      let y : n + suc m ≡ n + 1 + m = omega arith in
      let t : suc m + 1 ≡ suc (m + 1) = omega arith in
      rw (t, d)
      (g (omega arith) (λ j i. let x : n + 1 + j ≡ n + suc j = omega arith in rw x (f (suc j) (omega arith))) code (rw y at e))

  -- Resumes, and then an end.
  abbrev pub Silent : {A B : Type 0} → (A → Course B) → Type 0
  Silent {A} {B} f = (a : A) (n : ℕ) → words o n (f a) ≡ []

  resume_words_from : (ctx ds : List ℕ) (n active : ℕ) → words o n (resume_from ctx active ds) ≡ resumes o n ds
  unfolding words resume_from resumes command_word is_done on_sent
  resume_words_from ctx [] n active = refl
  resume_words_from ctx (d ∷ ds) n active = ap (λ ws. log_word 5 d 0 ∷ ws) (go (outcome_at o n) (resume_words_from ctx ds (n + 1) (active + 1)))
    where
      go :
          (s : Sent) → words o (n + 1) (resume_from ctx (active + 1) ds) ≡ resumes o (n + 1) ds →
          words o (n + 1)
          (on_sent s (resume_from ctx (active + 1) ds) (λ code. ends (swept (Failed code) active)) (ends (swept Cut active)))
          ≡ cond (is_done s) (resumes o (n + 1) ds) []
      go Done e = e
      go (Failed code) e = refl
      go Cut e = refl

  pub resume_words : {A : Type 0} (ctx ds : List ℕ) (n : ℕ) (f : Sweep → Course A) → Silent f →
      words o n (then (resume_stopped_endpoints ctx ds) f) ≡ resumes o n ds
  unfolding resume_stopped_endpoints
  resume_words ctx ds n f s =
      words_then o n (resume_from ctx 0 ds) f
      ∙ ap (λ ws. words o n (resume_from ctx 0 ds) ++ ws) (s (result o n (resume_from ctx 0 ds)) (n + length (words o n (resume_from ctx 0 ds))))
      ∙ append-nil _ ∙ resume_words_from ctx ds n 0

  module _ {A : Type 0} (ctx : List ℕ) (f : Sweep → Course A) (silent : (r : Sweep) (n : ℕ) → (r.sent ≡ Done → ⊥) → words o n (f r) ≡ []) where
    -- A failed Stop: those stopped before it are resumed.
    undo_logs : (stopped : List ℕ) (n code : ℕ) → words o n (then (undo_stops ctx stopped code) f) ≡ resumes o n stopped
    unfolding resume_stopped_endpoints
    undo_logs stopped n code =
        words_then o n (undo_stops ctx stopped code) f
        ∙ ap (λ ws. words o n (undo_stops ctx stopped code) ++ ws)
        (silent (result o n (undo_stops ctx stopped code)) _
        (λ e. never code (result o n (resume_stopped_endpoints ctx stopped)).sent (ap (λ (r : Sweep). r.sent) (sym (undo_result o ctx stopped n code)) ∙ e)))
        ∙ append-nil _ ∙ undo_words o ctx stopped n code ∙ resume_words_from ctx stopped n 0

    stop_failed_from : (stopped ds : List ℕ) (n m : ℕ) → m < length ds →
        After n (then (stop_from ctx stopped ds) f) m (resumes o (n + m + 1) (stopped ++ take m ds))
    unfolding stop_from then on_sent
    stop_failed_from stopped [] n m h = absurd (omega arith)
    stop_failed_from stopped (d ∷ ds) n zero h =
        let z : n + zero + 1 ≡ n + 1 = omega arith in
        after_first n _ ctx _ _ (λ code. undo_logs stopped (n + 1) code ∙ rw (z, append-nil) refl)
    stop_failed_from stopped (d ∷ ds) n (suc m) h =
        let z : n + 1 + m + 1 ≡ n + suc m + 1 = omega arith in
        after_later n _ ctx _ m _
        (rw (z, append_assoc) at (stop_failed_from (stopped ++ (d ∷ [])) ds (n + 1) m (omega arith)))

    -- A later command.
    stop_passed_from : (stopped ds : List ℕ) (n m i : ℕ) (ws : List ℕ) → i ≡ length ds + m → After (n + length ds) (f (swept Done 0)) m ws →
        After n (then (stop_from ctx stopped ds) f) i ws
    unfolding stop_from then on_sent
    stop_passed_from stopped [] n m i ws p g = let z : n + 0 ≡ n = omega arith in let y : i ≡ m = omega (arith, p) in rw y (rw z at g)
    stop_passed_from stopped (d ∷ ds) n m zero ws p g = absurd (omega (arith, p))
    stop_passed_from stopped (d ∷ ds) n m (suc i) ws p g =
        let z : n + suc (length ds) ≡ n + 1 + length ds = omega arith in
        let q : i ≡ length ds + m = omega (arith, p) in
        after_later n _ ctx _ i ws (stop_passed_from (stopped ++ (d ∷ [])) ds (n + 1) m i ws q (rw z at g))

  -- After the Stops of some endpoints: what follows their Stops, and what comes later.
  module _ {A : Type 0} (ctx ds : List ℕ) (f : Sweep → Course A) (silent : (r : Sweep) (n : ℕ) → (r.sent ≡ Done → ⊥) → words o n (f r) ≡ []) where
    pub stop_failed : (m : ℕ) → m < length ds → After 0 (then (stop_endpoints ctx ds) f) m (resumes o (m + 1) (take m ds))
    unfolding stop_endpoints
    stop_failed m h = let z : 0 + m + 1 ≡ m + 1 = omega arith in rw z at (stop_failed_from ctx f silent [] ds 0 m h)

    pub stop_passed : (m i : ℕ) (ws : List ℕ) → i ≡ length ds + m → After (length ds) (f (swept Done 0)) m ws →
        After 0 (then (stop_endpoints ctx ds) f) i ws
    unfolding stop_endpoints
    stop_passed m i ws p g = let z : 0 + length ds ≡ length ds = omega arith in stop_passed_from ctx f silent [] ds 0 m i ws p (rw (← z) at g)

  -- Claim.
  module _ (a : Claim) (routes : List ℕ) where
    abbrev dcis : List ℕ
    dcis = queue_dcis a.old

    -- The device back at its held alternate.
    abbrev back_words : Sent → List ℕ
    back_words s = cond (is_done s && is_some a.args.held_alternate) (log_word 6 a.args.interface (undo_alternate a) ∷ []) []

    undone_words : (code n : ℕ) (ctx : List ℕ) →
        words o n (claim_undone a code ctx routes) ≡ cond (is_some a.args.held_alternate) (log_word 6 a.args.interface (undo_alternate a) ∷ []) []
    unfolding words claim_undone claim_switch_back command_word
    undone_words code n ctx = go (is_some a.args.held_alternate)
      where
        rest : Sent → Course End
        rest s =
            on_sent s (ends (settings_kept (answer.Failed code) (length a.old) ctx routes))
            (λ later. ends (settings_doubted answer.InterfaceBroken ctx routes)) (ends (settings_doubted answer.Cut ctx routes))

        none : (s : Sent) → words o (n + 1) (rest s) ≡ []
        none s = each_outcome (λ (c : Course End). words o (n + 1) c ≡ []) _ _ _ refl (λ later. refl) refl s

        go :
            (b : Bool) →
            words o n (cond b (claim_switch_back a code ctx routes) (ends (settings_kept (answer.Failed code) (length a.old) ctx routes)))
            ≡ cond b (log_word 6 a.args.interface (undo_alternate a) ∷ []) []
        go true = ap (λ ws. log_word 6 a.args.interface (undo_alternate a) ∷ ws) (none (outcome_at o n))
        go false = refl

    undo_claim_words : (code n : ℕ) (ctx : List ℕ) → words o n (claim_undo a code ctx routes) ≡ 0x30000000 ∷ back_words (outcome_at o n)
    unfolding words claim_undo command_word is_done on_sent
    undo_claim_words code n ctx = ap (λ ws. 0x30000000 ∷ ws) (go (outcome_at o n) (undone_words code (n + 1) (undo_context a ctx)))
      where
        next : List ℕ
        next = undo_context a ctx

        go :
            (s : Sent) →
            words o (n + 1) (claim_undone a code next routes) ≡ cond (is_some a.args.held_alternate) (log_word 6 a.args.interface (undo_alternate a) ∷ []) [] →
            words o (n + 1)
            (on_sent s (claim_undone a code next routes) (λ later. ends (settings_doubted answer.InterfaceBroken next routes))
            (ends (settings_doubted answer.Cut next routes)))
            ≡ back_words s
        go Done e = e
        go (Failed later) e = refl
        go Cut e = refl

    claim_resume_words : (code n : ℕ) (ctx : List ℕ) → words o n (claim_resume a code ctx routes) ≡ resumes o n dcis
    unfolding words claim_resume
    claim_resume_words code n ctx = resume_words ctx dcis n _ (λ r j. refl)

    -- After its Configure and after its SetInterface.
    pub claim_configure_failed : (n : ℕ) (ctx : List ℕ) → After n (claim_configure a ctx routes) 0 (resumes o (n + 1) dcis)
    unfolding claim_configure on_sent
    claim_configure_failed n ctx = after_first n _ _ _ _ (λ code. claim_resume_words code (n + 1) (claim_context a ctx))

    pub claim_switch_failed : (n : ℕ) (ctx : List ℕ) →
        After n (claim_configure a ctx routes) 1 (0x30000000 ∷ back_words (outcome_at o (n + 2)))
    unfolding claim_configure claim_switch on_sent
    claim_switch_failed n ctx =
        let z : n + 1 + 1 ≡ n + 2 = omega arith in
        after_later n _ _ _ 0 _ (after_first (n + 1) _ _ _ _ (λ code. undo_claim_words code (n + 1 + 1) (claim_context a ctx) ∙ rw z refl))

    pub claim_no_more : (n m : ℕ) (ctx ws : List ℕ) → After n (claim_configure a ctx routes) (suc (suc m)) ws
    unfolding claim_configure claim_switch claim_publish on_sent
    claim_no_more n m ctx ws = after_later n _ _ _ (suc m) ws (after_later (n + 1) _ _ _ m ws (after_ends (n + 1 + 1) m _ ws))

    pub claim_silent : (ctx : List ℕ) (r : Sweep) (n : ℕ) → (r.sent ≡ Done → ⊥) →
        words o n
        (on_sent r.sent (claim_configure a ctx routes) (λ code. ends (settings_kept (answer.Failed code) (length a.old) ctx routes))
        (ends (settings_kept answer.Cut r.active ctx routes)))
        ≡ []
    unfolding words
    claim_silent ctx r n h = not_done (λ (c : Course End). words o n c ≡ []) _ _ _ (λ code. refl) refl r.sent h

  -- Release.
  module _ (a : Release) (routes : List ℕ) where
    release_resume_words : (code n : ℕ) (ctx : List ℕ) → words o n (release_resume a code ctx routes) ≡ resumes o n (queue_dcis a.old)
    unfolding words release_resume
    release_resume_words code n ctx = resume_words ctx (queue_dcis a.old) n _ (λ r j. refl)

    pub release_configure_failed : (n : ℕ) (ctx : List ℕ) → After n (release_configure a ctx routes) 0 (resumes o (n + 1) (queue_dcis a.old))
    unfolding release_configure on_sent
    release_configure_failed n ctx = after_first n _ _ _ _ (λ code. release_resume_words code (n + 1) (release_context a ctx))

    pub release_no_more : (n m : ℕ) (ctx ws : List ℕ) → After n (release_configure a ctx routes) (suc m) ws
    unfolding release_configure release_publish on_sent
    release_no_more n m ctx ws = after_later n _ _ _ m ws (after_ends (n + 1) m _ ws)

    pub release_silent : (ctx : List ℕ) (r : Sweep) (n : ℕ) → (r.sent ≡ Done → ⊥) →
        words o n
        (on_sent r.sent (release_configure a ctx routes) (λ code. ends (settings_kept (answer.Failed code) (length a.old) ctx routes))
        (ends (settings_kept answer.Cut r.active ctx routes)))
        ≡ []
    unfolding words
    release_silent ctx r n h = not_done (λ (c : Course End). words o n c ≡ []) _ _ _ (λ code. refl) refl r.sent h

  -- Set configuration.
  module _ (a : Settings) where
    set_resume_words : (code n : ℕ) (ctx routes : List ℕ) → words o n (set_resume a code ctx routes) ≡ resumes o n (queue_dcis a.old)
    unfolding words set_resume
    set_resume_words code n ctx routes = resume_words ctx (queue_dcis a.old) n _ (λ r j. refl)

    set_restored_words : (code n : ℕ) (ctx routes : List ℕ) → words o n (set_restored a code ctx routes) ≡ resumes o n (queue_dcis a.old)
    unfolding words set_restored
    set_restored_words code n ctx routes =
        resume_words ctx (queue_dcis a.old) n _
        (λ r j. each_outcome (λ (c : Course End). words o j c ≡ []) _ _ _ refl (λ later. refl) refl r.sent)

    set_restore_words : (code n : ℕ) (ctx routes : List ℕ) →
        words o n (set_restore a code ctx routes) ≡ 0x30000000 ∷ cond (is_done (outcome_at o n)) (resumes o (n + 1) (queue_dcis a.old)) []
    unfolding words set_restore command_word is_done on_sent
    set_restore_words code n ctx routes =
        ap (λ ws. 0x30000000 ∷ ws) (go (outcome_at o n) (set_restored_words code (n + 1) (restore_context a ctx) routes))
      where
        next : List ℕ
        next = restore_context a ctx

        go :
            (s : Sent) → words o (n + 1) (set_restored a code next routes) ≡ resumes o (n + 1) (queue_dcis a.old) →
            words o (n + 1)
            (on_sent s (set_restored a code next routes) (λ later. ends (settings_kept answer.InterfaceBroken 0 next routes))
            (ends (settings_kept answer.Cut 0 next routes)))
            ≡ cond (is_done s) (resumes o (n + 1) (queue_dcis a.old)) []
        go Done e = e
        go (Failed later) e = refl
        go Cut e = refl

    pub set_configure_failed : (n : ℕ) (ctx routes : List ℕ) → After n (set_configure a ctx routes) 0 (resumes o (n + 1) (queue_dcis a.old))
    unfolding set_configure on_sent
    set_configure_failed n ctx routes = after_first n _ _ _ _ (λ code. set_resume_words code (n + 1) (drop_context a ctx) routes)

    pub set_switch_failed : (n : ℕ) (ctx routes : List ℕ) →
        After n (set_configure a ctx routes) 1
        (0x30000000 ∷ cond (is_done (outcome_at o (n + 2))) (resumes o (n + 3) (queue_dcis a.old)) [])
    unfolding set_configure set_switch on_sent
    set_switch_failed n ctx routes =
        let z : n + 1 + 1 ≡ n + 2 = omega arith in
        let y : n + 2 + 1 ≡ n + 3 = omega arith in
        after_later n _ _ _ 0 _
        (after_first (n + 1) _ _ _ _ (λ code. set_restore_words code (n + 1 + 1) (drop_context a ctx) routes ∙ rw (z, y) refl))

    set_published_after : (r : Result Unit RouteError) (n m : ℕ) (ctx routes : List ℕ) → After n (set_published r a ctx routes) m []
    unfolding set_published set_evaluate on_sent
    set_published_after (Ok _) n zero ctx routes = after_first n _ _ _ _ (λ code. ended_words (n + 1) _)
    set_published_after (Ok _) n (suc m) ctx routes = after_later n _ _ _ m _ (after_ends (n + 1) m _ _)
    set_published_after (Err _) n m ctx routes = after_ends n m _ _

    pub set_no_more : (n m : ℕ) (ctx routes : List ℕ) → After n (set_configure a ctx routes) (suc (suc m)) []
    unfolding set_configure set_switch set_publish on_sent
    set_no_more n m ctx routes =
        after_later n _ _ _ (suc m) _
        (after_later (n + 1) _ _ _ m _ (set_published_after (replaced routes a.slot a.old []) (n + 1 + 1) m (drop_context a ctx) routes))

    pub set_silent : (ctx routes : List ℕ) (r : Sweep) (n : ℕ) → (r.sent ≡ Done → ⊥) →
        words o n
        (on_sent r.sent (set_configure a ctx routes) (λ code. ends (settings_kept answer.InterfaceBroken r.active ctx routes))
        (ends (settings_kept answer.Cut r.active ctx routes)))
        ≡ []
    unfolding words
    set_silent ctx routes r n h = not_done (λ (c : Course End). words o n c ≡ []) _ _ _ (λ code. refl) refl r.sent h

  -- Bring-up: only after its SetConfiguration, command i of what is left, comes a Configure.
  abbrev pub restored_at : ℕ → ℕ → List ℕ
  restored_at i m = cond (eqb m i) (0x30000000 ∷ []) []

  restored_later : (i m : ℕ) → restored_at i m ≡ restored_at (suc i) (suc m)
  restored_later i m = go (decided (eqb m i))
    where
      go : Decided (eqb m i) → restored_at i m ≡ restored_at (suc i) (suc m)
      go (inl e) = let z : m ≡ i = eqb-true m i e in rw (e, eq-eqb (suc m) (suc i) (omega (arith, z))) refl
      go (inr e) = rw (e, ne_eqb (suc m) (suc i) (λ z. eqb-false m i e (omega (arith, z)))) refl

  none_first : (i : ℕ) → [] ≡ restored_at (suc i) 0
  none_first i = rw (ne_eqb 0 (suc i) (λ z. absurd (omega (arith, z)))) refl

  step_after : (n i : ℕ) (c : Command) (read : Reading) (ctx routes : List ℕ) (next : Course Brought) →
      ((m : ℕ) → After (n + 1) next m (restored_at i m)) → (m : ℕ) → After n (step c read ctx routes next) m (restored_at (suc i) m)
  unfolding step on_sent
  step_after n i c read ctx routes next f zero = after_first n _ _ _ _ (λ code. ended_words (n + 1) _ ∙ none_first i)
  step_after n i c read ctx routes next f (suc m) = after_later n _ _ _ m _ (rw (restored_later i m) at (f m))

  either_after : (n i : ℕ) (b : Bool) (x y : Course Brought) → ((m : ℕ) → After n x m (restored_at i m)) → ((m : ℕ) → After n y m (restored_at i m)) →
      (m : ℕ) → After n (cond b x y) m (restored_at i m)
  either_after n i true x y f g m = f m
  either_after n i false x y f g m = g m

  ended_after : (n i : ℕ) (x : Brought) (m : ℕ) → After n (ends x) m (restored_at i m)
  ended_after n i x m = after_ends n m x _

  silent_then : {A B : Type 0} (n m : ℕ) (c : Course A) (f : A → B) (ws : List ℕ) → After n c m ws → After n (then c (λ a. ends (f a))) m ws
  unfolding words
  silent_then n m c f ws g = rw words_then (rw append-nil g)

  module _ (a : BringUp) (spacing : ℕ) (routes : List ℕ) where
    none_resumed : (b : Bool) (n : ℕ) → cond b (resumes o n []) [] ≡ []
    unfolding resumes
    none_resumed true n = refl
    none_resumed false n = refl

    set_first_after : (n m : ℕ) (ctx : List ℕ) → After n (set_configure (bring_up_settings a spacing) ctx routes) m (restored_at 1 m)
    unfolding bring_up_settings queue_dcis resumes
    set_first_after n zero ctx = set_configure_failed (bring_up_settings a spacing) n ctx routes
    set_first_after n (suc zero) ctx = rw (none_resumed _ _) at (set_switch_failed (bring_up_settings a spacing) n ctx routes)
    set_first_after n (suc (suc m)) ctx =
        let e : [] ≡ restored_at 1 (suc (suc m)) = rw (ne_eqb (suc (suc m)) 1 (λ z. absurd (omega (arith, z)))) refl in
        after_same n (suc (suc m)) (set_configure (bring_up_settings a spacing) ctx routes) _ _ e
        (set_no_more (bring_up_settings a spacing) n m ctx routes)

    set_brought_after : (n : ℕ) (ctx : List ℕ) (m : ℕ) → After n (bring_up_set a spacing ctx routes) m (restored_at 1 m)
    unfolding bring_up_set bring_up_settings set_course queue_dcis stop_endpoints stop_from then on_sent
    set_brought_after n ctx m = silent_then n m (set_course (bring_up_settings a spacing) ctx routes) _ _ (set_first_after n m ctx)

    configs_after : (k i n : ℕ) (ctx : List ℕ) (m : ℕ) → After n (bring_up_configs a spacing k i ctx routes) m (restored_at (suc k) m)
    unfolding bring_up_configs
    configs_after zero i n ctx m = set_brought_after n ctx m
    configs_after (suc k) i n ctx m = step_after n (suc k) _ _ ctx routes _ (λ j. configs_after k (i + 1) (n + 1) ctx j) m

    packet_after : (n : ℕ) (ctx : List ℕ) (m : ℕ) →
        After n (bring_up_packet a spacing ctx routes) m (restored_at (suc (suc (suc (suc (configurations a.list))))) m)
    unfolding bring_up_packet bring_up_configuration bring_up_device
    packet_after n ctx =
        let k = configurations a.list in
        step_after n (suc (suc (suc k))) _ _ _ routes _
        (step_after (n + 1) (suc (suc k)) _ _ _ routes _
        (step_after (n + 1 + 1) (suc k) _ _ _ routes _
        (either_after (n + 1 + 1 + 1) (suc k) (eqb (length a.list) 0) _ _ (ended_after _ (suc k) _) (configs_after k 0 (n + 1 + 1 + 1) _))))

    address_after : (ctx : List ℕ) (m : ℕ) →
        After 0 (bring_up_address a spacing ctx routes) m (restored_at (suc (suc (suc (suc (suc (suc (configurations a.list))))))) m)
    unfolding bring_up_address bring_up_header
    address_after ctx =
        let k = configurations a.list in
        step_after 0 (suc (suc (suc (suc (suc k))))) _ _ _ routes _
        (step_after (0 + 1) (suc (suc (suc (suc k)))) _ _ _ routes _
        (either_after (0 + 1 + 1) (suc (suc (suc (suc k)))) (eqb a.header 8) _ _
        (either_after (0 + 1 + 1) (suc (suc (suc (suc k)))) (exponent_ok a.speed a.packet) _ _ (packet_after (0 + 1 + 1) _) (ended_after _ _ _))
        (ended_after _ _ _)))

    pub bring_up_after : (ctx : List ℕ) (m : ℕ) → After 0 (bring_up_address a spacing ctx routes) m (restored_at (configurations a.list + 6) m)
    bring_up_after ctx m =
        let z : suc (suc (suc (suc (suc (suc (configurations a.list)))))) ≡ configurations a.list + 6 = omega arith in
        after_same 0 m (bring_up_address a spacing ctx routes) _ _ (ap (λ i. restored_at i m) z) (address_after ctx m)

  -- A call that stops some endpoints first.
  module _ (ctx ds : List ℕ) (f : Sweep → Course End) (silent : (r : Sweep) (n : ℕ) → (r.sent ≡ Done → ⊥) → words o n (f r) ≡ []) where
    pub stopping_after : (m : ℕ) (next : List ℕ) → After (length ds) (f (swept Done 0)) 0 (resumes o (length ds + 1) ds) →
        ((j : ℕ) → m ≡ length ds + suc j → After (length ds) (f (swept Done 0)) (suc j) next) →
        After 0 (then (stop_endpoints ctx ds) f) m (after_stop o m ds (after_configure o m ds next))
    unfolding after_stop after_configure
    stopping_after m next first later = go (dec_lt m (length ds))
      where
        c : Course End
        c = then (stop_endpoints ctx ds) f

        past : (j : ℕ) → m ≡ length ds + j → After 0 c m (cond (eqb m (length ds)) (resumes o (m + 1) ds) next)
        past zero p =
            let z : m ≡ length ds = omega (arith, p) in
            after_same 0 m c (resumes o (length ds + 1) ds) _
            (rw (eq-eqb m (length ds) z, z) refl)
            (stop_passed ctx ds f silent 0 m _ p first)
        past (suc j) p =
            after_same 0 m c next _ (rw (ne_eqb m (length ds) (λ z. absurd (omega (arith, p, z)))) refl) (stop_passed ctx ds f silent (suc j) m _ p (later j p))

        go : Dec (m < length ds) → After 0 c m (cond (ltb m (length ds)) (resumes o (m + 1) (take m ds)) (cond (eqb m (length ds)) (resumes o (m + 1) ds) next))
        go (yes h) = after_same 0 m c (resumes o (m + 1) (take m ds)) _ (rw (lt-ltb m (length ds) h) refl) (stop_failed ctx ds f silent m h)
        go (no h) =
            after_same 0 m c (cond (eqb m (length ds)) (resumes o (m + 1) ds) next) _ (rw (le-ltb m (length ds) (omega arith)) refl)
            (past (m - length ds) (omega arith))

  pub claim_undoes : (a : Claim) (ctx routes : List ℕ) (m : ℕ) →
      let ds = queue_dcis a.old in
      After 0 (claim_course a ctx routes) m
      (after_stop o m ds (after_configure o m ds (0x30000000 ∷ back_words a routes (outcome_at o (m + 1)))))
  unfolding claim_course on_sent
  claim_undoes a ctx routes m =
      let ds = queue_dcis a.old in
      stopping_after ctx ds _ (claim_silent a routes ctx) m (0x30000000 ∷ back_words a routes (outcome_at o (m + 1)))
      (claim_configure_failed a routes (length ds) ctx) later
    where
      later : (j : ℕ) → m ≡ length (queue_dcis a.old) + suc j →
          After (length (queue_dcis a.old)) (claim_configure a ctx routes) (suc j) (0x30000000 ∷ back_words a routes (outcome_at o (m + 1)))
      later zero p =
          let z : length (queue_dcis a.old) + 2 ≡ m + 1 = omega (arith, p) in
          after_same (length (queue_dcis a.old)) 1 (claim_configure a ctx routes) _ _
          (ap (λ n. 0x30000000 ∷ back_words a routes (outcome_at o n)) z) (claim_switch_failed a routes (length (queue_dcis a.old)) ctx)
      later (suc j) p = claim_no_more a routes (length (queue_dcis a.old)) j ctx _

  pub release_undoes : (a : Release) (ctx routes : List ℕ) (m : ℕ) →
      let ds = queue_dcis a.old in After 0 (release_course a ctx routes) m (after_stop o m ds (after_configure o m ds []))
  unfolding release_course on_sent
  release_undoes a ctx routes m =
      let ds = queue_dcis a.old in
      stopping_after ctx ds _ (release_silent a routes ctx) m [] (release_configure_failed a routes (length ds) ctx)
      (λ j p. release_no_more a routes (length ds) j ctx [])

  abbrev pub restore_words : ℕ → List ℕ → List ℕ
  restore_words m ds =
      cond (eqb m (length ds + 1)) (0x30000000 ∷ cond (is_done (outcome_at o (m + 1))) (resumes o (m + 2) ds) []) []

  pub set_undoes : (a : Settings) (ctx routes : List ℕ) (m : ℕ) →
      let ds = queue_dcis a.old in After 0 (set_course a ctx routes) m (after_stop o m ds (after_configure o m ds (restore_words m ds)))
  unfolding set_course on_sent
  set_undoes a ctx routes m =
      let ds = queue_dcis a.old in
      stopping_after ctx ds _ (set_silent a ctx routes) m (restore_words m ds) (set_configure_failed a (length ds) ctx routes) later
    where
      later : (j : ℕ) → m ≡ length (queue_dcis a.old) + suc j →
          After (length (queue_dcis a.old)) (set_configure a ctx routes) (suc j) (restore_words m (queue_dcis a.old))
      later zero p =
          let n = length (queue_dcis a.old) in
          let x : m ≡ n + 1 = omega (arith, p) in
          let y : n + 2 ≡ m + 1 = omega (arith, p) in
          let z : n + 3 ≡ m + 2 = omega (arith, p) in
          after_same n 1 (set_configure a ctx routes) _ _
          (ap (λ i. 0x30000000 ∷ cond (is_done (outcome_at o i)) (resumes o (n + 3) (queue_dcis a.old)) []) y
          ∙ ap (λ i. 0x30000000 ∷ cond (is_done (outcome_at o (m + 1))) (resumes o i (queue_dcis a.old)) []) z
          ∙ rw (eq-eqb m (n + 1) x) refl)
          (set_switch_failed a n ctx routes)
      later (suc j) p =
          let n = length (queue_dcis a.old) in
          after_same n (suc (suc j)) (set_configure a ctx routes) [] _ (rw (ne_eqb m (n + 1) (λ z. absurd (omega (arith, p, z)))) refl)
          (set_no_more a n j ctx routes)

  -- Stops past failures: the words of an uncut one, or fewer.
  each_front : (ctx ds : List ℕ) (n : ℕ) → Front (words o n (stop_each ctx ds)) (stop_words ds)
  unfolding words stop_each stop_words on_sent
  each_front ctx [] n = front_all [] [] refl
  each_front ctx (d ∷ ds) n = go (outcome_at o n) (each_front ctx ds (n + 1))
    where
      w : ℕ
      w = command_word (stop_command d)

      more : (ws : List ℕ) → Front ws (stop_words ds) → Front (w ∷ ws) (w ∷ stop_words ds)
      more ws f = record { rest = f.rest; whole = ap (λ x. w ∷ x) f.whole }

      go :
          (s : Sent) → Front (words o (n + 1) (stop_each ctx ds)) (stop_words ds) →
          Front (w ∷ words o (n + 1) (on_sent s (stop_each ctx ds) (λ code. stop_each ctx ds) (ends true))) (w ∷ stop_words ds)
      go Done f = more _ f
      go (Failed code) f = more _ f
      go Cut f = record { rest = stop_words ds; whole = refl }

  pub unplugging_front : (slot : ℕ) (dcis ctx routes : List ℕ) →
      Front (words o 0 (disconnect_course slot dcis ctx routes)) (stop_words (1 ∷ dcis) ++ (0xC0000000 ∷ []))
  unfolding disconnect_course disable words command_word
  unplugging_front slot dcis ctx routes =
      rw (words_then o 0 (stop_each ctx (1 ∷ dcis)) decides) (go (decided (result o 0 (stop_each ctx (1 ∷ dcis)))))
    where
      stops : Course Bool
      stops = stop_each ctx (1 ∷ dcis)

      decides : Bool → Course End
      decides cut = cond cut (ends (settings_kept answer.Cut 0 ctx routes)) (disable slot ctx routes)

      all : List ℕ
      all = stop_words (1 ∷ dcis) ++ (0xC0000000 ∷ [])

      go : Decided (result o 0 stops) → Front (words o 0 stops ++ words o (0 + length (words o 0 stops)) (decides (result o 0 stops))) all
      go (inl t) =
          let f = each_front ctx (1 ∷ dcis) 0 in
          rw t
          (record {
            rest = f.rest ++ (0xC0000000 ∷ []);
            whole = ap (λ x. x ++ (f.rest ++ (0xC0000000 ∷ []))) (append-nil (words o 0 stops)) ∙ sym (append_assoc (words o 0 stops) f.rest _) ∙ ap (λ x. x ++ (0xC0000000 ∷ [])) f.whole;
          })
      go (inr t) = rw t (front_all _ _ (ap (λ x. x ++ (0xC0000000 ∷ [])) (stop_each_words o ctx (1 ∷ dcis) 0 t)))
