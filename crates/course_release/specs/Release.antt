-- The course of a release after its checks: `_release_interface` of the original.
use Rattle.std.specs.Prelude.{ℕ, false, List, [], length}
use Rattle.answer.specs.declared.Answer.TheVariants as answer
use Rattle.command.specs.declared.Command.TheVariants as command
use Rattle.command.specs.Course.{Course, ends, sends, on_sent, then}
use Rattle.command.specs.Sweep.{stop_endpoints, resume_stopped_endpoints}
use Rattle.context.specs.Place.{written}
use Rattle.context.specs.Steps.{configure_writes}
use Rattle.record_endpoint.specs.EndpointMap.{queue_dcis}
use Rattle.transfer.specs.Routes.{Queue}
use Rattle.course_steps.specs.End.{End, settings_kept, move_routes, configure_failed}
use Rattle.course_steps.specs.Arrays.{dcis_in, queues_in}
use Rattle.course_release.specs.declared.ReleaseArgs.{ReleaseArgs}

-- What a release works on: the interface's setting.
pub record Release : Type 0 where
  pub slot : ℕ
  pub spacing : ℕ
  pub speed : ℕ
  pub interface : ℕ
  pub alternate : ℕ
  pub words : List ℕ
  pub old : List Queue
  -- every endpoint of the record
  pub dcis : List ℕ

unfoldable pub release_context : Release → List ℕ → List ℕ
release_context a ctx =
    written a.spacing (configure_writes a.speed a.interface a.alternate a.words [] [] a.dcis) ctx

-- Old routes out; routes that do not allow it stay.
unfoldable pub release_publish : Release → List ℕ → List ℕ → Course End
release_publish a ctx routes = ends (move_routes answer.InvalidEndpoint false a.slot a.old [] ctx routes)

unfoldable pub release_resume : Release → ℕ → List ℕ → List ℕ → Course End
release_resume a code ctx routes =
    then (resume_stopped_endpoints ctx (queue_dcis a.old)) (λ r. ends (settings_kept (configure_failed code r.sent) r.active ctx routes))

unfoldable pub release_configure : Release → List ℕ → List ℕ → Course End
release_configure a ctx routes =
    let next = release_context a ctx in
    sends command.Configure next
    (λ s.
    on_sent s
    (release_publish a next routes)
    (λ code. release_resume a code next routes)
    (ends (settings_kept answer.Cut 0 next routes)))

unfoldable pub release_course : Release → List ℕ → List ℕ → Course End
release_course a ctx routes =
    then (stop_endpoints ctx (queue_dcis a.old))
    (λ r.
    on_sent r.sent
    (release_configure a ctx routes)
    (λ code. ends (settings_kept (answer.Failed code) (length a.old) ctx routes))
    (ends (settings_kept answer.Cut r.active ctx routes)))

-- The same from the code's arrays.
abbrev pub release_of : ReleaseArgs → List ℕ → Release
release_of a words =
    record {
      slot = a.slot.0;
      spacing = a.spacing;
      speed = a.speed;
      interface = a.interface;
      alternate = a.alternate;
      words = words;
      old = queues_in a.old;
      dcis = dcis_in a.all;
    }
