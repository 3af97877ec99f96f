-- The context that the controller reads along a release.
use Prim.Native.Nat.{ℕ, ◌+◌, ◌^◌, ◌<◌}
use mathlib.Core.Path.{◌≡◌, refl}
use mathlib.Core.List.{List, []}
use native.Mathlib.Omega.{arith}
use lib.ListN.{length}
use Rattle.answer.specs.declared.Answer.TheVariants as answer
use Rattle.command.specs.declared.Command.TheVariants as command
use Rattle.command.specs.declared.Sent.TheVariants as sent
use Rattle.command.specs.Command.{outcome_at}
use Rattle.command.specs.Course.{ends, on_sent}
use Rattle.command.proofs.Done.{AllDone}
use Rattle.command.proofs.Reached.{Comes, comes_stopped, CutHere, cut_here}
use Rattle.context.specs.Place.{Spaced}
use Rattle.context.specs.Promises.{Endpoints, EndpointDcis, ConfigureReads}
use Rattle.context.proofs.Promises.{configure_promise}
use Rattle.record_endpoint.specs.EndpointMap.{queue_dcis}
use Rattle.course_steps.specs.End.{settings_kept}
use Rattle.course_steps.proofs.Empty.{no_endpoints_lem, no_ring}
use Rattle.course_steps.proofs.Laws.{length_dcis}
use Rattle.course_release.specs.Release.{Release, release_context, release_configure, release_course}

-- Its Configure drops words and adds none.
pub release_configure_reads :
    (a : Release) (ctx : List ℕ) → Spaced a.spacing (length ctx) → a.interface < 2 ^ 8 → a.alternate < 2 ^ 8 → Endpoints a.words →
    EndpointDcis a.dcis →
    ConfigureReads a.spacing a.speed a.interface a.alternate a.words [] [] a.dcis ctx (release_context a ctx)
unfolding release_context
release_configure_reads a ctx sp i n w e =
    configure_promise a.spacing a.speed a.interface a.alternate a.words [] [] a.dcis ctx sp i n w no_endpoints_lem no_ring e

-- Where it is cut there.
module _ (a : Release) (ctx routes o : List ℕ) where
  release_stopped : AllDone o 0 (length a.old) →
      Comes o 0 (release_course a ctx routes) (length a.old) (release_configure a ctx routes)
  unfolding release_course
  release_stopped h =
      let l : 0 + length (queue_dcis a.old) ≡ length a.old = omega (arith, length_dcis a.old) in
      rw l at
      (comes_stopped o 0 ctx (queue_dcis a.old) (release_configure a ctx routes)
      (λ r code. ends (settings_kept (answer.Failed code) (length a.old) ctx routes))
      (λ r. ends (settings_kept answer.Cut r.active ctx routes))
      (λ i m k. h i m (omega (arith, length_dcis a.old))))

  pub release_at_configure : AllDone o 0 (length a.old) → outcome_at o (length a.old) ≡ sent.Cut →
      CutHere o (release_course a ctx routes) (length a.old) command.Configure (settings_kept answer.Cut 0 (release_context a ctx) routes)
  unfolding release_configure on_sent
  release_at_configure h e = cut_here o _ (length a.old) _ _ _ _ (release_stopped h) e refl
