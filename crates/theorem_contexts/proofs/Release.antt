-- The context of a release.
use Prim.Native.Nat.{ℕ, ◌<◌}
use mathlib.Core.Path.{◌≡◌}
use mathlib.Core.List.{List}
use native.Mathlib.Omega.{arith}
use lib.ListN.{length}
use Rattle.answer.specs.declared.Answer.TheVariants as answer
use Rattle.answer.specs.Check.{Pass}
use Rattle.command.specs.declared.Command.TheVariants as command
use Rattle.command.proofs.Reached.{CutHere, dones_before, dones_past}
use Rattle.record_endpoint.specs.declared.endpoint_map.Owner.TheVariants.{Interface}
use Rattle.record_endpoint.specs.EndpointMap.{owned_rings}
use Rattle.record_endpoint.proofs.Laws.{queues_fit}
use Rattle.course_steps.specs.End.{settings_kept}
use Rattle.course_release.specs.Release.{release_context, release_course}
use Rattle.course_release.proofs.Contexts.{release_at_configure}
use Rattle.device.specs.declared.record.Device.{Device}
use Rattle.device.specs.Device.{endpoint_map_in}
use Rattle.device.specs.Check.{record_check}
use Rattle.device.specs.Release.{release_check, release_in, release_record, release}
use Rattle.device.proofs.Contexts as context
use Rattle.device.proofs.Laws.{Passed, passed}
use Rattle.theorem_contexts.specs.Contexts.{Byte, done_times, interface_endpoints, ReleaseReads, ReleaseContexts}
use Rattle.theorem_contexts.proofs.Ended.{ended_at}

module _ (d : Device) (ctx routes log : List ℕ) (i : ℕ)
    (pass : record_check d (length ctx) (length routes) (length log) (release_check d i) ≡ Pass) (byte-i : Byte i) where
  facts : Passed d (length ctx) (length routes) (length log)
  facts = (passed d (length ctx) (length routes) (length log) (release_check d i) pass).0

  n : ℕ
  n = length (interface_endpoints d i)

  few : n < length log
  unfolding n
  few = omega (arith, facts.room, queues_fit (owned_rings (Interface i) (endpoint_map_in d)))

  cut : CutHere (done_times n) (release_course (release_in d i) ctx routes) n command.Configure
      (settings_kept answer.Cut 0 (release_context (release_in d i) ctx) routes)
  unfolding n release_in
  cut = release_at_configure (release_in d i) ctx routes (done_times n) (λ k l m. dones_before n k (omega arith)) (dones_past n)

  release_reads : ReleaseReads d i ctx (λ outcomes. release d ctx routes log outcomes i)
  unfolding n release
  release_reads =
      record {
        configure =
            ended_at (release_record d i) (done_times n) log _ _ _ pass n command.Configure _ cut _ few
            (context.release_reads d facts.facts ctx facts.spaced i byte-i);
      }

pub release_contexts : ReleaseContexts
release_contexts = release_reads
