-- The contexts of a set configuration.
use Prim.Native.Nat.{ℕ, ◌+◌, ◌<◌}
use mathlib.Core.Path.{◌≡◌}
use mathlib.Core.List.{List, []}
use native.Mathlib.Omega.{arith}
use lib.ListN.{length}
use Rattle.answer.specs.declared.Answer.TheVariants as answer
use Rattle.answer.specs.Check.{Pass}
use Rattle.command.specs.declared.Command.TheVariants as command
use Rattle.command.proofs.Reached.{CutHere, dones_before, dones_past, fails_before, fails_there, fails_past}
use Rattle.context.specs.Place.{Spaced}
use Rattle.std.proofs.Common.{Ok}
use Rattle.transfer.specs.Routes.{replaced, with_replaced}
use Rattle.record_endpoint.proofs.Laws.{queues_fit}
use Rattle.course_steps.specs.End.{settings_kept, settings_moved}
use Rattle.course_set_configuration.specs.SetConfiguration.{Settings, drop_context, restore_context, value_context, set_course}
use Rattle.course_set_configuration.proofs.Contexts.{set_at_configure, set_at_restore, set_at_evaluate, drop_context_length}
use Rattle.device.specs.declared.record.Device.{Device}
use Rattle.device.specs.Device.{endpoint_map_in}
use Rattle.device.specs.Check.{record_check}
use Rattle.device.specs.SetConfiguration.{settings_in, set_record, set_configuration}
use Rattle.device.proofs.Contexts as context
use Rattle.device.proofs.Laws.{Passed, passed}
use Rattle.theorem_contexts.specs.Contexts.{Byte, BusAddresses, done_times, failed_after, record_endpoints, SetReads, SetContexts}
use Rattle.theorem_contexts.proofs.Ended.{ended_context, ended_at}

module _ (d : Device) (ctx routes log : List ℕ) (value : ℕ)
    (pass : record_check d (length ctx) (length routes) (length log) Pass ≡ Pass) (byte : Byte value)
    (own : BusAddresses (endpoint_map_in d).rings) where
  facts : Passed d (length ctx) (length routes) (length log)
  facts = (passed d (length ctx) (length routes) (length log) Pass pass).0

  n : ℕ
  n = length (record_endpoints d)

  few : n + 2 < length log
  unfolding n
  few = omega (arith, facts.room, queues_fit (endpoint_map_in d).rings)

  s : Settings
  s = settings_in d value

  next_spaced : Spaced d.spacing (length (drop_context s ctx))
  next_spaced = rw (drop_context_length s ctx) facts.spaced

  first_cut : CutHere (done_times n) (set_course s ctx routes) n command.Configure (settings_kept answer.Cut 0 (drop_context s ctx) routes)
  unfolding n s settings_in
  first_cut = set_at_configure s ctx routes (done_times n) (λ k l m. dones_before n k (omega arith)) (dones_past n)

  first_context : (set_configuration d ctx routes log (done_times n) value).ctx ≡ drop_context s ctx
  unfolding set_configuration s
  first_context = ended_context (set_record d value) (done_times n) log _ _ _ pass n _ _ first_cut

  restore_cut : (code : ℕ) → (code ≡ 0 → ⊥) →
      CutHere (failed_after (n + 1) code) (set_course s ctx routes) (n + 2) command.Configure
      (settings_kept answer.Cut 0 (restore_context s (drop_context s ctx)) routes)
  unfolding n s settings_in
  restore_cut code z =
      set_at_restore s ctx routes (failed_after (n + 1) code) code (λ k l m. fails_before (n + 1) code k (omega arith))
      (fails_there (n + 1) code z)
      (let two : n + 1 + 1 ≡ n + 2 = omega arith in rw two at (fails_past (n + 1) code))

  evaluate_cut : replaced routes d.slot.0 (record_endpoints d) [] ≡ Ok (tt {0}) →
      CutHere (done_times (n + 2)) (set_course s ctx routes) (n + 2) command.Evaluate
      (settings_moved answer.Cut (value_context s (drop_context s ctx)) (with_replaced routes d.slot.0 (record_endpoints d) []))
  unfolding n s settings_in
  evaluate_cut r = set_at_evaluate s ctx routes (done_times (n + 2)) (λ k l m. dones_before (n + 2) k (omega arith)) r (dones_past (n + 2))

  set_reads : SetReads d value ctx routes (λ outcomes. set_configuration d ctx routes log outcomes value)
  unfolding n set_configuration s
  set_reads =
      record {
        configure = ended_at (set_record d value) (done_times n) log _ _ _ pass n command.Configure _ first_cut _ (omega (arith, few))
            (context.drop_reads d facts.facts ctx facts.spaced value);
        restore = λ code z.
            ended_at (set_record d value) (failed_after (n + 1) code) log _ _ _ pass (n + 2) command.Configure _ (restore_cut code z) _ few
            (rw first_context (context.restore_reads d facts.facts (drop_context s ctx) next_spaced value own));
        evaluate = λ r.
            ended_at (set_record d value) (done_times (n + 2)) log _ _ _ pass (n + 2) command.Evaluate _ (evaluate_cut r) _ few
            (rw first_context (context.value_reads d facts.facts (drop_context s ctx) next_spaced value byte));
      }

pub set_contexts : SetContexts
set_contexts = set_reads
