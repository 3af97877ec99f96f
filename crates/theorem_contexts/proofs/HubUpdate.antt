-- The context of a hub update.
use Prim.Native.Nat.{ℕ}
use mathlib.Core.Path.{◌≡◌, refl}
use mathlib.Core.Bool.{Bool}
use mathlib.Core.List.{List, []}
use native.Mathlib.Omega.{arith}
use lib.ListN.{length}
use Rattle.answer.specs.declared.Answer.TheVariants as answer
use Rattle.answer.specs.Check.{Pass}
use Rattle.command.specs.declared.Command.TheVariants as command
use Rattle.command.proofs.Cuts.{outcome_none}
use Rattle.command.proofs.Reached.{comes_self, CutHere, cut_here}
use Rattle.course_steps.specs.End.{answer_of}
use Rattle.device.specs.declared.record.Device.{Device}
use Rattle.device.specs.Check.{record_check, hub_check}
use Rattle.device.specs.Calls.{on_check, hub_context, hub_course, hub_left, hub_update}
use Rattle.device.proofs.Contexts as context
use Rattle.device.proofs.Laws.{Passed, passed}
use Rattle.theorem_contexts.specs.Contexts.{Byte, HubUpdateReads, HubUpdateContexts}
use Rattle.theorem_contexts.proofs.Ended.{cut_count, cut_word}

module _ (d : Device) (ctx routes log : List ℕ) (ports : ℕ) (multi : Bool) (ns : ℕ)
    (pass : record_check d (length ctx) (length routes) (length log) (hub_check d ns) ≡ Pass) (byte : Byte ports) where
  facts : Passed d (length ctx) (length routes) (length log)
  facts = (passed d (length ctx) (length routes) (length log) (hub_check d ns) pass).0

  cut : (next : List ℕ) → CutHere [] (hub_course next) 0 command.Evaluate answer.Cut
  unfolding hub_course answer_of
  cut next = cut_here [] _ 0 _ _ _ _ (comes_self [] 0 (hub_course next)) (outcome_none [] 0 (omega arith)) refl

  hub_reads : HubUpdateReads d ports multi ns ctx (λ outcomes. hub_update d ctx routes log outcomes ports multi ns)
  unfolding hub_update on_check hub_left
  hub_reads =
      let next = hub_context d ports multi ns ctx in
      record {
        evaluate =
            rw pass
            (record {
              count = cut_count [] log (hub_course next) 0 _ _ (cut next);
              word = cut_word [] log (hub_course next) 0 _ _ (cut next) (omega (arith, facts.room));
              reads = context.hub_reads d facts.facts ctx facts.spaced ports multi ns byte;
            });
      }

pub hub_update_contexts : HubUpdateContexts
hub_update_contexts = hub_reads
