-- The course of a set configuration after its checks: `_set_configuration` of the original.
use Rattle.std.specs.Prelude.{ℕ, List, [], Result, Ok, Err}
use Rattle.answer.specs.declared.Answer.TheVariants as answer
use Rattle.command.specs.declared.Command.TheVariants as command
use Rattle.command.specs.Course.{Course, ends, sends, on_sent, then}
use Rattle.command.specs.Sweep.{stop_endpoints, resume_stopped_endpoints}
use Rattle.context.specs.Place.{written}
use Rattle.context.specs.Steps.{configure_writes, configuration_writes}
use Rattle.record_endpoint.specs.EndpointMap.{queue_dcis}
use Rattle.transfer.specs.declared.RouteError.{RouteError}
use Rattle.transfer.specs.Routes.{Queue, replaced, with_replaced}
use Rattle.course_steps.specs.End.{End, settings_kept, settings_moved, configure_failed}
use Rattle.course_steps.specs.Arrays.{queues_in}
use Rattle.record_settings.specs.Held.{held_by, held_words}
use Rattle.course_set_configuration.specs.declared.run.SettingsArgs.{SettingsArgs}

-- What a set configuration works on: the settings of all interfaces that hold one.
pub record Settings : Type 0 where
  pub slot : ℕ
  pub spacing : ℕ
  pub speed : ℕ
  pub value : ℕ
  pub words : List ℕ
  pub old : List Queue

unfoldable pub drop_context : Settings → List ℕ → List ℕ
drop_context a ctx =
    written a.spacing (configure_writes a.speed 0 0 a.words [] [] (queue_dcis a.old)) ctx

unfoldable pub restore_context : Settings → List ℕ → List ℕ
restore_context a ctx =
    written a.spacing (configure_writes a.speed 0 0 [] a.words a.old (queue_dcis a.old)) ctx

unfoldable pub value_context : Settings → List ℕ → List ℕ
value_context a ctx = written a.spacing (configuration_writes a.value) ctx

-- The held settings are ended; what is left is to tell the controller the value.
unfoldable pub set_evaluate : Settings → List ℕ → List ℕ → Course End
set_evaluate a ctx routes =
    let next = value_context a ctx in
    sends command.Evaluate next
    (λ s.
    on_sent s
    (ends (settings_moved answer.Accepted next routes))
    (λ code. ends (settings_moved answer.InterfaceBroken next routes))
    (ends (settings_moved answer.Cut next routes)))

unfoldable pub set_published : Result Unit RouteError → Settings → List ℕ → List ℕ → Course End
set_published (Ok _) a ctx routes = set_evaluate a ctx (with_replaced routes a.slot a.old [])
set_published (Err _) a ctx routes = ends (settings_kept answer.InvalidEndpoint 0 ctx routes)

unfoldable pub set_publish : Settings → List ℕ → List ℕ → Course End
set_publish a ctx routes = set_published (replaced routes a.slot a.old []) a ctx routes

-- After a failed SetConfiguration the endpoints are added again and resumed; if that fails too, the interfaces are broken.
unfoldable pub set_restored : Settings → ℕ → List ℕ → List ℕ → Course End
set_restored a code ctx routes =
    then (resume_stopped_endpoints ctx (queue_dcis a.old))
    (λ r.
    on_sent r.sent
    (ends (settings_kept (answer.Failed code) r.active ctx routes))
    (λ later. ends (settings_kept answer.InterfaceBroken r.active ctx routes))
    (ends (settings_kept answer.Cut r.active ctx routes)))

unfoldable pub set_restore : Settings → ℕ → List ℕ → List ℕ → Course End
set_restore a code ctx routes =
    let next = restore_context a ctx in
    sends command.Configure next
    (λ s.
    on_sent s
    (set_restored a code next routes)
    (λ later. ends (settings_kept answer.InterfaceBroken 0 next routes))
    (ends (settings_kept answer.Cut 0 next routes)))

unfoldable pub set_switch : Settings → List ℕ → List ℕ → Course End
set_switch a ctx routes =
    sends (command.SetConfiguration a.value) ctx
    (λ s.
    on_sent s
    (set_publish a ctx routes)
    (λ code. set_restore a code ctx routes)
    (ends (settings_kept answer.Cut 0 ctx routes)))

unfoldable pub set_resume : Settings → ℕ → List ℕ → List ℕ → Course End
set_resume a code ctx routes =
    then (resume_stopped_endpoints ctx (queue_dcis a.old)) (λ r. ends (settings_kept (configure_failed code r.sent) r.active ctx routes))

unfoldable pub set_configure : Settings → List ℕ → List ℕ → Course End
set_configure a ctx routes =
    let next = drop_context a ctx in
    sends command.Configure next
    (λ s.
    on_sent s
    (set_switch a next routes)
    (λ code. set_resume a code next routes)
    (ends (settings_kept answer.Cut 0 next routes)))

-- Every failed stop breaks the interfaces.
unfoldable pub set_course : Settings → List ℕ → List ℕ → Course End
set_course a ctx routes =
    then (stop_endpoints ctx (queue_dcis a.old))
    (λ r.
    on_sent r.sent
    (set_configure a ctx routes)
    (λ code. ends (settings_kept answer.InterfaceBroken r.active ctx routes))
    (ends (settings_kept answer.Cut r.active ctx routes)))

-- The same from the code's arrays, where the settings are those of a list.
abbrev pub settings_of : SettingsArgs → List ℕ → Settings
settings_of a list =
    record {
      slot = a.slot.0;
      spacing = a.spacing;
      speed = a.speed;
      value = a.value;
      words = held_words list (held_by a.held);
      old = queues_in a.old;
    }
