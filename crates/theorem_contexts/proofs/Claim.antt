-- The contexts of a claim.
use Prim.Native.Nat.{ℕ, zero, suc, ◌+◌, ◌^◌, ◌<◌}
use mathlib.Core.Path.{◌≡◌}
use mathlib.Core.Bool.{true}
use mathlib.Core.List.{List, [], ◌∷◌}
use native.Mathlib.Omega.{arith}
use lib.ListN.{length}
use Rattle.laws.specs.Distinct.{elem}
use Rattle.laws.proofs.Distinct.{elem_here, elem_there, elem_place}
use Rattle.answer.specs.declared.Answer.TheVariants as answer
use Rattle.answer.specs.Check.{Pass}
use Rattle.command.specs.declared.Command.TheVariants as command
use Rattle.command.proofs.Reached.{CutHere, dones_before, dones_past, fails_before, fails_there, fails_past}
use Rattle.context.specs.Place.{Spaced}
use Rattle.record_endpoint.specs.declared.endpoint_map.Owner.TheVariants.{Interface}
use Rattle.record_endpoint.specs.EndpointMap.{owned_rings}
use Rattle.record_endpoint.proofs.Laws.{queues_fit}
use Rattle.course_steps.specs.End.{settings_doubted}
use Rattle.course_claim.specs.Claim.{Claim, claim_context, undo_context, claim_course}
use Rattle.course_claim.proofs.Contexts.{claim_at_configure, claim_at_undo, claim_context_length}
use Rattle.device.specs.declared.record.Device.{Device}
use Rattle.device.specs.Device.{endpoint_map_in, given_of}
use Rattle.device.specs.Check.{record_check}
use Rattle.device.specs.Claim.{claim_check, drawn, claim_in, claim_record, claim}
use Rattle.device.proofs.Contexts as context
use Rattle.device.proofs.Laws.{Passed, passed}
use Rattle.device.proofs.Kept.{claim_passed}
use Rattle.theorem_contexts.specs.Contexts.{Byte, BusAddresses, done_times, failed_after, interface_endpoints, ClaimReads, ClaimContexts}
use Rattle.theorem_contexts.proofs.Ended.{ended_context, ended_at}

-- Where each ring is a bus address, what stands at any place is one.
bounded : (rings : List ℕ) → ((x : ℕ) → elem x rings ≡ true → x < 2 ^ 64) → BusAddresses rings
bounded [] h k = omega arith
bounded (r ∷ rings) h zero = h r (elem_here r rings)
bounded (r ∷ rings) h (suc k) = bounded rings (λ x e. h x (elem_there x r rings e)) k

module _ (d : Device) (ctx routes log : List ℕ) (i a : ℕ)
    (pass : record_check d (length ctx) (length routes) (length log) (claim_check d i a Pass) ≡ Pass)
    (byte-i : Byte i) (byte-a : Byte a) (from : BusAddresses (given_of d)) (own : BusAddresses (endpoint_map_in d).rings) where
  facts : Passed d (length ctx) (length routes) (length log)
  facts = (passed d (length ctx) (length routes) (length log) (claim_check d i a Pass) pass).0

  abbrev rings : List ℕ
  rings = drawn d i a

  offered : BusAddresses rings
  offered =
      let p = claim_passed d i a facts.is_sound (passed d (length ctx) (length routes) (length log) (claim_check d i a Pass) pass).1 in
      bounded rings (λ x e. let t = elem_place x (given_of d) (p.from_given x e) in rw (← t.2) (from t.0))

  given : Claim
  given = claim_in d i a rings

  n : ℕ
  n = length (interface_endpoints d i)

  few : n + 2 < length log
  unfolding n
  few = omega (arith, facts.room, queues_fit (owned_rings (Interface i) (endpoint_map_in d)))

  first_cut : CutHere (done_times n) (claim_course given ctx routes) n command.Configure (settings_doubted answer.Cut (claim_context given ctx) routes)
  unfolding n given claim_in
  first_cut = claim_at_configure given ctx routes (done_times n) (λ k l m. dones_before n k (omega arith)) (dones_past n)

  first_context : (claim d ctx routes log (done_times n) i a).ctx ≡ claim_context given ctx
  unfolding claim given
  first_context = ended_context (claim_record d i a rings) (done_times n) log _ _ _ pass n _ _ first_cut

  undo_cut : (code : ℕ) → (code ≡ 0 → ⊥) →
      CutHere (failed_after (n + 1) code) (claim_course given ctx routes) (n + 2) command.Configure
      (settings_doubted answer.Cut (undo_context given (claim_context given ctx)) routes)
  unfolding n given claim_in
  undo_cut code z =
      let two : n + 1 + 1 ≡ n + 2 = omega arith in
      claim_at_undo given ctx routes (failed_after (n + 1) code) code (λ k l m. fails_before (n + 1) code k (omega arith))
      (fails_there (n + 1) code z) (rw two at (fails_past (n + 1) code))

  next_spaced : Spaced d.spacing (length (claim_context given ctx))
  next_spaced = rw (claim_context_length given ctx) facts.spaced

  claim_reads : ClaimReads d i a ctx (λ outcomes. claim d ctx routes log outcomes i a)
  unfolding n claim given
  claim_reads =
      record {
        configure =
            ended_at (claim_record d i a rings) (done_times n) log _ _ _ pass n command.Configure _ first_cut _ (omega (arith, few))
            (context.claim_reads d facts.facts ctx facts.spaced i a rings byte-i byte-a offered own);
        undo = λ code z.
            ended_at (claim_record d i a rings) (failed_after (n + 1) code) log _ _ _ pass (n + 2) command.Configure _ (undo_cut code z) _ few
            (rw first_context
            (context.undo_reads d facts.facts (claim_context given ctx) next_spaced i a rings byte-i byte-a offered own));
      }

pub claim_contexts : ClaimContexts
claim_contexts = claim_reads
