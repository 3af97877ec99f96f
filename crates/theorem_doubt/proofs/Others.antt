-- The rings that the commands of a release, a set configuration and an unplugging may leave in the controller.
use Prim.Native.Nat.{ℕ, ◌%◌, ◌^◌, ◌<◌, ◌≤◌}
use mathlib.Core.Path.{◌≡◌, refl, ap, ◌∙◌}
use mathlib.Core.Logic.{◌⊎◌, inl, inr, ⊎_elim}
use mathlib.Core.Bool.{Bool, true, false, cond}
use mathlib.Core.List.{List, [], ◌∷◌}
use lib.Dec.{lit<}
use lib.ListN.{length}
use Rattle.std.specs.Prelude.{Result, Ok, Err}
use Rattle.laws.proofs.Tests.{not_both}
use Rattle.answer.specs.declared.Answer.{Answer}
use Rattle.answer.specs.declared.Answer.TheVariants as answer
use Rattle.answer.specs.Answer.{number, is_lost}
use Rattle.command.specs.declared.Command.TheVariants as command
use Rattle.command.specs.declared.Sent.{Sent}
use Rattle.command.specs.declared.Sent.TheVariants as sent
use Rattle.command.specs.Course.{ends, on_sent}
use Rattle.command.specs.Sweep.{stop_each}
use Rattle.command.proofs.Cuts.{on_sent_lem}
use Rattle.command.proofs.Operations.{operation}
use Rattle.command.proofs.Sweeps.{stop_each_each}
use Rattle.context_block.specs.Blocks.{some_dci}
use Rattle.context.specs.Place.{Spaced, spacing_of}
use Rattle.context.specs.Promises.{Endpoints, EndpointDcis}
use Rattle.context.proofs.Laws.{written_length}
use Rattle.record_endpoint.specs.EndpointMap.{queue_dcis}
use Rattle.transfer.specs.declared.RouteError.{RouteError}
use Rattle.transfer.specs.Routes.{replaced, ring_for, without_slot}
use Rattle.course_steps.specs.End.{End, settings_kept, settings_moved, published}
use Rattle.theorem_controller.proofs.Followed.{Follows, follows_then}
use Rattle.course_release.specs.Release.{Release, release_context, release_publish, release_resume, release_configure, release_course}
use Rattle.course_release.proofs.Contexts.{release_configure_reads}
use Rattle.course_set_configuration.specs.SetConfiguration.{Settings, drop_context, restore_context, set_evaluate, set_published, set_publish, set_restored, set_restore, set_switch, set_resume, set_configure, set_course}
use Rattle.course_set_configuration.proofs.Contexts.{set_configure_reads, set_restore_reads, drop_context_length}
use Rattle.course_disconnect.specs.Disconnect.{disable, disconnect_course}
use Rattle.theorem_doubt.specs.Doubt.{configured_rings, rings_after, acts}
use Rattle.theorem_doubt.proofs.Configured.{rings_configured}
use Rattle.theorem_doubt.proofs.Watch.{idle_other, sees_stop, sees_resume, sees_other, sees_configure}

-- Where the settings moved the endpoint is out. Otherwise it has one of three rings, and after any answer but 14, 15 and 18 one of two.
pub record Says (was out back : ℕ) (x : Answer) (moved : Bool) (now : ℕ) : Type 0 where
  pub gone : moved ≡ true → now ≡ out
  pub kept : moved ≡ false → is_lost x ≡ false → (x ≡ answer.InvalidEndpoint → ⊥) → (now ≡ was) ⊎ (now ≡ back)
  pub any : (now ≡ was) ⊎ ((now ≡ out) ⊎ (now ≡ back))

module _ {was out back now : ℕ} where
  says_moved : {x : Answer} → now ≡ out → Says was out back x true now
  says_moved e = record { gone = λ t. e; kept = λ m. not_both true refl m; any = inr (inl e) }

  says_kept : {x : Answer} → (now ≡ was) ⊎ (now ≡ back) → Says was out back x false now
  says_kept e = record { gone = λ t. not_both false t refl; kept = λ m l n. e; any = ⊎_elim (λ z. inl z) (λ z. inr (inr z)) e }

  says_lost : {x : Answer} → is_lost x ≡ true → (now ≡ was) ⊎ ((now ≡ out) ⊎ (now ≡ back)) → Says was out back x false now
  says_lost {x} t e = record { gone = λ t. not_both false t refl; kept = λ m l. not_both (is_lost x) t l; any = e }

  says_invalid : now ≡ out → Says was out back answer.InvalidEndpoint false now
  says_invalid e = record { gone = λ t. not_both false t refl; kept = λ m l n. absurd (n refl); any = inr (inl e) }

none_even : (d : ℕ) → ring_for d [] 0 % 16 ≡ 0
unfolding ring_for
none_even d = refl

none_low : (d : ℕ) → ring_for d [] 0 < 2 ^ 64
unfolding ring_for
none_low d = lit< tt

-- A release.
module _ (a : Release) (routes : List ℕ) (d : ℕ) (two : 2 ≤ d) (h : d < 32) (rings : ℕ → ℕ) (took : Bool)
    (i : a.interface < 2 ^ 8) (n : a.alternate < 2 ^ 8) (w : Endpoints a.words) (ds : EndpointDcis a.dcis) where
  abbrev out : ℕ
  out = cond (some_dci d a.words) 0 (rings d)

  unfoldable pub ReleaseTold : End → (ℕ → ℕ) → Type 0
  ReleaseTold e now = Says (rings d) out (rings d) e.answer e.moved (now d)

  module _ (ctx : List ℕ) (sp : Spaced a.spacing (length ctx)) (own : spacing_of (length ctx) ≡ a.spacing) where
    abbrev next : List ℕ
    next = release_context a ctx

    abbrev after : ℕ → ℕ
    after = configured_rings next rings

    release_length : length next ≡ length ctx
    unfolding release_context
    release_length = written_length _ _ ctx

    release_out : after d ≡ out
    unfolding some_dci
    release_out =
        rings_configured a.spacing _ _ _ _ _ _ _ ctx next (release_configure_reads a ctx sp i n w ds)
        (ap spacing_of release_length ∙ own) d two h (none_even d) (none_low d) rings

    pub release_sees : Follows (rings_after took) ReleaseTold rings (release_course a ctx routes)
    unfolding release_course release_configure release_publish published release_resume Follows ReleaseTold number
    release_sees =
        sees_stop took ReleaseTold rings ctx (queue_dcis a.old) _
        (λ r.
        on_sent_lem (Follows (rings_after took) ReleaseTold rings) r.sent _ _ _
        (λ e.
        sees_configure took ReleaseTold rings next _ _ _ (moved (replaced routes a.slot a.old []))
        (λ code. sees_resume took ReleaseTold rings next (queue_dcis a.old) _ (λ r. says_kept (inl refl)))
        (λ x. says_lost refl (either x)))
        (λ code e. says_kept (inl refl))
        (λ e. says_kept (inl refl)))
      where
        moved :
            (r : Result Unit RouteError) →
            let e = published r answer.InvalidEndpoint false a.slot a.old [] next routes in Says (rings d) out (rings d) e.answer e.moved (after d)
        moved (Ok _) = says_moved release_out
        moved (Err _) = says_invalid release_out

        either :
            (x : Bool) → (cond x after rings d ≡ rings d) ⊎ ((cond x after rings d ≡ out) ⊎ (cond x after rings d ≡ rings d))
        either true = inr (inl release_out)
        either false = inl refl

-- A set configuration.
module _ (a : Settings) (routes : List ℕ) (d : ℕ) (two : 2 ≤ d) (h : d < 32) (rings : ℕ → ℕ) (took : Bool)
    (w : Endpoints a.words) (r : (d : ℕ) → ring_for d a.old 0 < 2 ^ 64) (ds : EndpointDcis (queue_dcis a.old))
    (even : ring_for d a.old 0 % 16 ≡ 0) where
  abbrev dropped : ℕ
  dropped = cond (some_dci d a.words) 0 (rings d)

  abbrev back : ℕ
  back = cond (some_dci d a.words) (ring_for d a.old 0) (rings d)

  unfoldable pub SetTold : End → (ℕ → ℕ) → Type 0
  SetTold e now = Says (rings d) dropped back e.answer e.moved (now d)

  module _ (ctx : List ℕ) (sp : Spaced a.spacing (length ctx)) (own : spacing_of (length ctx) ≡ a.spacing) where
    abbrev drop : List ℕ
    drop = drop_context a ctx

    abbrev restore : List ℕ
    restore = restore_context a (drop_context a ctx)

    abbrev now : ℕ → ℕ
    now = configured_rings drop rings

    set_out : now d ≡ dropped
    unfolding some_dci
    set_out =
        rings_configured a.spacing _ _ _ _ _ _ _ ctx drop (set_configure_reads a ctx sp w ds)
        (ap spacing_of (drop_context_length a ctx) ∙ own) d two h (none_even d) (none_low d) rings

    restore_length : length restore ≡ length ctx
    unfolding restore_context
    restore_length = written_length _ _ drop ∙ drop_context_length a ctx

    set_back : configured_rings restore now d ≡ back
    unfolding some_dci
    set_back =
        let still : Spaced a.spacing (length drop) = rw (drop_context_length a ctx) sp in
        rings_configured a.spacing _ _ _ _ _ _ _ drop restore (set_restore_reads a drop still w r ds)
        (ap spacing_of restore_length ∙ own) d two h even (r d) now
        ∙ rw set_out (again (some_dci d a.words) _ (rings d))
      where
        again : (b : Bool) (x y : ℕ) → cond b x (cond b 0 y) ≡ cond b x y
        again true x y = refl
        again false x y = refl

    switched : (x : Result Unit RouteError) → Follows (rings_after took) SetTold now (set_published x a drop routes)
    unfolding set_published set_evaluate Follows SetTold operation number
    switched (Ok _) =
        sees_other took SetTold now command.Evaluate refl _ _ _ _ (says_moved set_out) (λ code. says_moved set_out) (says_moved set_out)
    switched (Err _) = says_invalid set_out

    resumed : (code : ℕ) → Follows (rings_after took) SetTold now (set_restore a code drop routes)
    unfolding set_restore set_restored Follows SetTold number
    resumed code =
        sees_configure took SetTold now restore _ _ _
        (sees_resume took SetTold (configured_rings restore now) restore (queue_dcis a.old) _
        (λ r.
        on_sent_lem (Follows (rings_after took) SetTold (configured_rings restore now)) r.sent _ _ _
        (λ e. says_kept (inr set_back))
        (λ later e. says_kept (inr set_back))
        (λ e. says_kept (inr set_back))))
        (λ later. says_lost refl (inr (inl set_out)))
        (λ x. says_lost refl (either x))
      where
        either :
            (x : Bool) →
            (cond x (configured_rings restore now) now d ≡ rings d)
            ⊎ ((cond x (configured_rings restore now) now d ≡ dropped) ⊎ (cond x (configured_rings restore now) now d ≡ back))
        either true = inr (inr set_back)
        either false = inr (inl set_out)

    pub set_sees : Follows (rings_after took) SetTold rings (set_course a ctx routes)
    unfolding set_course set_configure set_switch set_publish set_resume Follows SetTold operation number
    set_sees =
        sees_stop took SetTold rings ctx (queue_dcis a.old) _
        (λ r.
        on_sent_lem (Follows (rings_after took) SetTold rings) r.sent _ _ _
        (λ e.
        sees_configure took SetTold rings drop _ _ _
        (sees_other took SetTold now (command.SetConfiguration a.value) refl drop _ _ _ (switched (replaced routes a.slot a.old []))
        resumed
        (says_lost refl (inr (inl set_out))))
        (λ code. sees_resume took SetTold rings drop (queue_dcis a.old) _ (λ r. says_kept (inl refl)))
        (λ x. says_lost refl (either x)))
        (λ code e. says_kept (inl refl))
        (λ e. says_kept (inl refl)))
      where
        either :
            (x : Bool) → (cond x now rings d ≡ rings d) ⊎ ((cond x now rings d ≡ dropped) ⊎ (cond x now rings d ≡ back))
        either true = inr (inl set_out)
        either false = inl refl

-- An unplugging.
module _ (slot : ℕ) (routes : List ℕ) (d : ℕ) (rings : ℕ → ℕ) (took : Bool) where
  unfoldable pub DisconnectTold : End → (ℕ → ℕ) → Type 0
  DisconnectTold e now = Says (rings d) 0 (rings d) e.answer e.moved (now d)

  disable_sees :
      (ctx : List ℕ) (cut : Bool) →
      Follows (rings_after took) DisconnectTold rings (cond cut (ends (settings_kept answer.Cut 0 ctx routes)) (disable slot ctx routes))
  unfolding disable Follows DisconnectTold on_sent rings_after acts operation number
  disable_sees ctx true = says_kept (inl refl)
  disable_sees ctx false = go
    where
      either :
          (x : Bool) →
          (cond x (λ (k : ℕ). 0) rings d ≡ rings d) ⊎ ((cond x (λ (k : ℕ). 0) rings d ≡ 0) ⊎ (cond x (λ (k : ℕ). 0) rings d ≡ rings d))
      either true = inr (inl refl)
      either false = inl refl

      go :
          (s : Sent) →
          Follows (rings_after took) DisconnectTold (rings_after took (operation command.Disable) s ctx rings)
          (ends
          (on_sent s (settings_moved answer.Accepted ctx (without_slot routes slot))
          (λ code. settings_kept answer.InterfaceBroken 0 ctx routes)
          (settings_kept answer.Cut 0 ctx routes)))
      go sent.Done = says_moved refl
      go (sent.Failed code) = says_kept (inl refl)
      go sent.Cut = says_lost refl (either took)

  pub disconnect_sees : (dcis ctx : List ℕ) → Follows (rings_after took) DisconnectTold rings (disconnect_course slot dcis ctx routes)
  unfolding disconnect_course operation
  disconnect_sees dcis ctx =
      follows_then (rings_after took) DisconnectTold rings (stop_each ctx (1 ∷ dcis)) _
      (stop_each_each _ ctx (1 ∷ dcis) (λ k h. idle_other took 4 refl)) (disable_sees ctx)
