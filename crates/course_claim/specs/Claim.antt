-- The course of a claim after its checks: `_claim_interface` of the original.
use Rattle.std.specs.Prelude.{ℕ, true, cond, List, length, is_some}
use Rattle.std.specs.Option.{unwrap_or}
use Rattle.answer.specs.declared.Answer.TheVariants as answer
use Rattle.command.specs.declared.Command.TheVariants as command
use Rattle.command.specs.Course.{Course, ends, sends, on_sent, then}
use Rattle.command.specs.Sweep.{stop_endpoints, resume_stopped_endpoints, or_code}
use Rattle.context.specs.Place.{written}
use Rattle.context.specs.Steps.{configure_writes}
use Rattle.record_endpoint.specs.EndpointMap.{queue_dcis}
use Rattle.transfer.specs.Routes.{Queue}
use Rattle.course_steps.specs.End.{End, settings_kept, settings_marked, settings_doubted, is_unanswered, move_routes, answer_of}
use Rattle.course_steps.specs.Arrays.{dcis_in, queues_in}
use Rattle.course_claim.specs.declared.ClaimArgs.{ClaimArgs}
use Rattle.course_claim.specs.declared.ClaimPlan.{ClaimPlan}

-- What a claim works on: the endpoint words and the queues of the interface's old setting, none where it holds none, and of the one
-- that it is to hold.
pub record Claim : Type 0 where
  pub args : ClaimArgs
  pub old_words : List ℕ
  pub new_words : List ℕ
  pub old : List Queue
  pub pending : List Queue
  -- every endpoint of the record
  pub dcis : List ℕ

-- The alternate setting to which a claim is undone, 0 where the interface holds none.
abbrev pub undo_alternate : Claim → ℕ
undo_alternate a = unwrap_or a.args.held_alternate 0

-- The context of the Configure that drops the old endpoints and adds the new ones, and of the one that undoes it.
unfoldable pub claim_context : Claim → List ℕ → List ℕ
claim_context a ctx =
    written a.args.spacing
    (configure_writes a.args.speed a.args.interface a.args.alternate a.old_words a.new_words a.pending a.dcis)
    ctx

unfoldable pub undo_context : Claim → List ℕ → List ℕ
undo_context a ctx =
    written a.args.spacing
    (configure_writes a.args.speed a.args.interface (undo_alternate a) a.new_words a.old_words a.old a.dcis)
    ctx

-- Old routes out, new routes in; routes that do not allow it break the interface. From the Configure on, an end that is lost has the mark.
unfoldable pub claim_publish : Claim → List ℕ → List ℕ → Course End
claim_publish a ctx routes = ends (move_routes answer.InterfaceBroken true a.args.slot.0 a.old a.pending ctx routes)

-- The device back at its old setting, after the controller is.
unfoldable pub claim_switch_back : Claim → ℕ → List ℕ → List ℕ → Course End
claim_switch_back a code ctx routes =
    sends (command.SetInterface a.args.interface (undo_alternate a)) ctx
    (λ s.
    on_sent s
    (ends (settings_kept (answer.Failed code) (length a.old) ctx routes))
    (λ later. ends (settings_doubted answer.InterfaceBroken ctx routes))
    (ends (settings_doubted answer.Cut ctx routes)))

unfoldable pub claim_undone : Claim → ℕ → List ℕ → List ℕ → Course End
claim_undone a code ctx routes =
    cond (is_some a.args.held_alternate) (claim_switch_back a code ctx routes) (ends (settings_kept (answer.Failed code) (length a.old) ctx routes))

-- After a failed SetInterface: new endpoints dropped, old ones added again.
unfoldable pub claim_undo : Claim → ℕ → List ℕ → List ℕ → Course End
claim_undo a code ctx routes =
    let next = undo_context a ctx in
    sends command.Configure next
    (λ s.
    on_sent s
    (claim_undone a code next routes)
    (λ later. ends (settings_doubted answer.InterfaceBroken next routes))
    (ends (settings_doubted answer.Cut next routes)))

unfoldable pub claim_switch : Claim → List ℕ → List ℕ → Course End
claim_switch a ctx routes =
    sends (command.SetInterface a.args.interface a.args.alternate) ctx
    (λ s.
    on_sent s
    (claim_publish a ctx routes)
    (λ code. claim_undo a code ctx routes)
    (ends (settings_doubted answer.Cut ctx routes)))

-- After a failed Configure the old endpoints are resumed; a failed resume's code is the answer.
unfoldable pub claim_resume : Claim → ℕ → List ℕ → List ℕ → Course End
claim_resume a code ctx routes =
    then (resume_stopped_endpoints ctx (queue_dcis a.old))
    (λ r. ends (settings_marked (answer_of (or_code code r.sent)) r.active (is_unanswered r.sent) ctx routes))

unfoldable pub claim_configure : Claim → List ℕ → List ℕ → Course End
claim_configure a ctx routes =
    let next = claim_context a ctx in
    sends command.Configure next
    (λ s.
    on_sent s
    (claim_switch a next routes)
    (λ code. claim_resume a code next routes)
    (ends (settings_doubted answer.Cut next routes)))

-- The old endpoints are stopped first; after a failed stop all of them are active again.
unfoldable pub claim_course : Claim → List ℕ → List ℕ → Course End
claim_course a ctx routes =
    then (stop_endpoints ctx (queue_dcis a.old))
    (λ r.
    on_sent r.sent
    (claim_configure a ctx routes)
    (λ code. ends (settings_kept (answer.Failed code) (length a.old) ctx routes))
    (ends (settings_kept answer.Cut r.active ctx routes)))

-- The same from the code's arrays.
abbrev pub claim_of : ClaimPlan → List ℕ → List ℕ → Claim
claim_of a old_words new_words =
    record {
      args = a.args;
      old_words = old_words;
      new_words = new_words;
      old = queues_in a.old;
      pending = queues_in a.pending;
      dcis = dcis_in a.all;
    }
