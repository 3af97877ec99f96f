-- What the calls leave where their checks pass and every outcome is done.
use Rattle.std.proofs.Common.{Ok}
use Prim.Native.Nat.{ℕ, ◌+◌, ◌<◌}
use mathlib.Core.Path.{◌≡◌, refl, sym, ◌∙◌}
use mathlib.Core.Bool.{false, not}
use mathlib.Core.List.{List, []}
use native.Mathlib.Nat.{zero-add}
use native.Mathlib.Omega.{arith}
use borrow.Author.Tests.{ne_eqb, not-false}
use lib.Dec.{eqb}
use lib.ListN.{length, get_or, replicate}
use Rattle.answer.specs.declared.Answer.{Answer}
use Rattle.answer.specs.declared.Answer.TheVariants as answer
use Rattle.answer.specs.Check.{Check, Pass}
use Rattle.answer.specs.Answer.{number, is_lost}
use Rattle.command.specs.declared.Sent.TheVariants as sent
use Rattle.command.specs.Command.{outcome_at}
use Rattle.command.specs.Course.{Course, on_sent, words, result, played}
use Rattle.command.specs.Sweep.{stop_endpoints}
use Rattle.command.proofs.Done.{outcome_done, result_sends, stop_all_done}
use Rattle.command.proofs.Laws.{result_then}
use Rattle.command.proofs.Sweeps.{stop_done}
use Rattle.transfer.specs.Routes.{replaced, with_replaced}
use Rattle.record_ring.proofs.Laws.{ring_at, ring_nonzero}
use Rattle.record_endpoint.specs.declared.endpoint_map.EndpointMap.{EndpointMap}
use Rattle.record_endpoint.specs.declared.endpoint_map.Owner.TheVariants.{Interface}
use Rattle.record_endpoint.specs.EndpointMap.{no_endpoints, owned_rings, queues_of, queue_dcis, pending_rings, claimed_endpoints}
use Rattle.record_endpoint.proofs.Laws.{queues_fit}
use Rattle.record_settings.specs.Held.{Held, setting_words, with_setting, without_setting}
use Rattle.record_settings.specs.Match.{has_place}
use Rattle.record_settings.proofs.Laws.{pending_place}
use Rattle.theorem_routing.specs.Routing.{InTable, RoutedBy, Rerouted}
use Rattle.theorem_routing.proofs.Laws.{claim_routed, release_routed, bare_routed, no_queues}
use Rattle.course_steps.specs.End.{End, settings_moved, published}
use Rattle.course_steps.proofs.Laws.{length_dcis}
use Rattle.course_claim.specs.Claim.{claim_course, claim_context}
use Rattle.course_claim.proofs.Laws.{claim_accepted}
use Rattle.course_release.specs.Release.{Release, release_course, release_context, release_configure, release_publish}
use Rattle.course_set_configuration.specs.SetConfiguration.{set_course, value_context, drop_context}
use Rattle.course_set_configuration.proofs.Laws.{set_accepted}
use Rattle.device.specs.declared.record.Device.{Device}
use Rattle.device.specs.Device.{list_of, endpoint_map_in, held_of}
use Rattle.device.specs.Left.{Left, ended}
use Rattle.device.specs.Calls.{on_check}
use Rattle.device.specs.Claim.{claim_check, drawn, pending_of, claim_in, claim_record, claim}
use Rattle.device.specs.Release.{release_check, release_in, release_record, release}
use Rattle.device.specs.SetConfiguration.{settings_in, set_record, set_configuration}
use Rattle.device.proofs.Laws.{Passed, passed}
use Rattle.device.proofs.Made.{Made}
use Rattle.device.proofs.Kept.{ClaimPassed, claim_passed, claim_moves, release_moves, set_moves}
use Rattle.theorem_accepting.specs.Accepting.{AllDone}
use Rattle.theorem_accepting.proofs.Checked.{Checked}

-- A call that moved its settings: the record made of d, and the table with the queues of x replaced by those of y.
pub record Ran (d : Device) (routes : List ℕ) (hs : List Held) (c : EndpointMap) (x y : List ℕ) (l : Left) : Type 0 where
  pub answer : l.answer ≡ answer.Accepted
  pub made : Made d l.device hs c false
  pub left : l.routes ≡ with_replaced routes d.slot.0 (queues_of x) (queues_of y)
  pub routed : RoutedBy l.routes d.slot.0 c

ran :
    (d : Device) (routes : List ℕ) (hs : List Held) (c : EndpointMap) (x y : List ℕ) (made : End → Device) (k : Check)
    (o log at : List ℕ) (course : Course End) (refuse : Answer → Left) →
    k ≡ Pass →
    result o 0 course ≡ settings_moved answer.Accepted at (with_replaced routes d.slot.0 (queues_of x) (queues_of y)) →
    Made d (made (settings_moved answer.Accepted at (with_replaced routes d.slot.0 (queues_of x) (queues_of y)))) hs c (is_lost answer.Accepted) →
    RoutedBy (with_replaced routes d.slot.0 (queues_of x) (queues_of y)) d.slot.0 c →
    Ran d routes hs c x y (on_check k (ended made (played o 0 course log)) refuse)
unfolding on_check ended played number
ran d routes hs c x y made k o log at course refuse p r m q =
    rw (p, r) (record { answer = refl; made = m; left = refl; routed = q })

-- Each of the first outcomes is done.
pub done_at : (o : List ℕ) (n k : ℕ) → AllDone o n → k < n → outcome_at o k ≡ sent.Done
done_at o n k h l = let t = h k l in outcome_done o k t.0 t.1

-- The slot's words lie in the table.
in_table : (d : Device) (ctx routes log : ℕ) (l : List ℕ) → Passed d ctx routes log → length l ≡ routes → InTable l d.slot.0
in_table d ctx routes log l p e = omega (arith, p.facts.place.slot_high, p.table)

module _ (d : Device) (ctx routes log o : List ℕ) (i a : ℕ)
    (g : Checked d ctx routes log o (claim_check d i a Pass)) where
  abbrev rings : List ℕ
  rings = drawn d i a

  claim_check_lem : Passed d (length ctx) (length routes) (length log) × (claim_check d i a Pass ≡ Pass)
  claim_check_lem = passed d (length ctx) (length routes) (length log) (claim_check d i a Pass) g.passes

  claim_facts : ClaimPassed d i a
  claim_facts = claim_passed d i a claim_check_lem.0.is_sound claim_check_lem.1

  -- No ring that is offered for a word is 0.
  pub offer_nonzero : (k : ℕ) → k < length (setting_words (list_of d) i a) → get_or rings k 0 ≡ 0 → ⊥
  offer_nonzero k h =
      let f = claim_facts.offer in
      ring_nonzero (get_or rings k 0) (ring_at rings f.ok k (omega (arith, f.counted)))

  -- The rings offered are at the places of the words.
  pub offer_places :
      (p : ℕ) → p < 30 →
      eqb (get_or (pending_rings (setting_words (list_of d) i a) rings) p 0) 0 ≡ not (has_place p (setting_words (list_of d) i a))
  offer_places p h = pending_place (setting_words (list_of d) i a) rings p h offer_nonzero

  claim_rerouted :
      let pending = pending_rings (setting_words (list_of d) i a) rings in
      Rerouted routes d.slot.0 (queues_of (owned_rings (Interface i) (endpoint_map_in d))) (queues_of pending) (claimed_endpoints i pending (endpoint_map_in d))
  claim_rerouted =
      let words = setting_words (list_of d) i a in
      let pending = pending_rings words rings in
      claim_routed routes d.slot.0 i pending (endpoint_map_in d) words g.routed
      (in_table d _ _ _ routes claim_check_lem.0 refl) claim_facts.free
      (λ p h z. not-false (has_place p words) (sym (offer_places p h) ∙ ne_eqb (get_or pending p 0) 0 z))

  pub claim_ran :
      let pending = pending_rings (setting_words (list_of d) i a) rings in
      Ran d routes (with_setting i a (held_of d)) (claimed_endpoints i pending (endpoint_map_in d)) (owned_rings (Interface i) (endpoint_map_in d)) pending
      (claim d ctx routes log o i a)
  unfolding claim claim_in pending_of
  claim_ran =
      let pending = pending_rings (setting_words (list_of d) i a) rings in
      let old = owned_rings (Interface i) (endpoint_map_in d) in
      let t = claim_rerouted in
      ran d routes (with_setting i a (held_of d)) (claimed_endpoints i pending (endpoint_map_in d)) old pending (claim_record d i a rings) _ o log
      (claim_context (claim_in d i a rings) ctx) (claim_course (claim_in d i a rings) ctx routes) _ g.passes
      (claim_accepted (claim_in d i a rings) ctx routes o 0
      (λ k l m. done_at o 64 k g.done (omega (arith, queues_fit old))) t.done)
      (claim_moves d _ _ _ i a g.passes _ refl)
      t.routed

-- With every outcome done and the old routes there, a release is accepted and they are out.
module _ (a : Release) (routes o : List ℕ) where
  publish_done :
      (ctx : List ℕ) (n : ℕ) → replaced routes a.slot a.old [] ≡ Ok (tt {0}) →
      result o n (release_publish a ctx routes) ≡ settings_moved answer.Accepted ctx (with_replaced routes a.slot a.old [])
  unfolding release_publish published result
  publish_done ctx n r = rw r

  configure_done :
      (ctx : List ℕ) (n : ℕ) → outcome_at o n ≡ sent.Done → replaced routes a.slot a.old [] ≡ Ok (tt {0}) →
      result o n (release_configure a ctx routes)
      ≡ settings_moved answer.Accepted (release_context a ctx) (with_replaced routes a.slot a.old [])
  unfolding release_configure on_sent
  configure_done ctx n e r = result_sends o n _ _ _ sent.Done e ∙ publish_done (release_context a ctx) (n + 1) r

  pub release_accepted :
      (ctx : List ℕ) → AllDone o (length a.old + 1) → replaced routes a.slot a.old [] ≡ Ok (tt {0}) →
      result o 0 (release_course a ctx routes)
      ≡ settings_moved answer.Accepted (release_context a ctx) (with_replaced routes a.slot a.old [])
  unfolding release_course on_sent
  release_accepted ctx h r =
      let dcis = queue_dcis a.old in
      let m : length dcis ≡ length a.old = length_dcis a.old in
      let e = stop_all_done o ctx dcis 0 (λ k l g. done_at o _ k h (omega arith)) in
      let n : length (words o 0 (stop_endpoints ctx dcis)) ≡ length a.old = stop_done o ctx dcis 0 e ∙ m in
      rw (result_then, e, n, zero-add) (configure_done ctx (length a.old) (done_at o _ _ h (omega arith)) r)

module _ (d : Device) (ctx routes log o : List ℕ) (i : ℕ) (g : Checked d ctx routes log o (release_check d i)) where
  pub release_ran :
      Ran d routes (without_setting i (held_of d)) (claimed_endpoints i (replicate 30 0) (endpoint_map_in d)) (owned_rings (Interface i) (endpoint_map_in d)) (replicate 30 0)
      (release d ctx routes log o i)
  unfolding release release_in
  release_ran =
      let old = owned_rings (Interface i) (endpoint_map_in d) in
      let p = (passed d (length ctx) (length routes) (length log) (release_check d i) g.passes).0 in
      let t = release_routed routes d.slot.0 (endpoint_map_in d) g.routed (in_table d _ _ _ routes p refl) i in
      ran d routes (without_setting i (held_of d)) (claimed_endpoints i (replicate 30 0) (endpoint_map_in d)) old (replicate 30 0) (release_record d i) _ o log
      (release_context (release_in d i) ctx) (release_course (release_in d i) ctx routes) _ g.passes
      (rw no_queues
      (release_accepted (release_in d i) routes o ctx (λ k l. g.done k (omega (arith, queues_fit old))) t.done))
      (release_moves d _ _ _ i g.passes _ refl)
      (rw no_queues t.routed)

module _ (d : Device) (ctx routes log o : List ℕ) (value : ℕ) (g : Checked d ctx routes log o Pass) where
  -- What the course of a set configuration ends with.
  unfoldable pub set_end : End
  set_end =
      let a = settings_in d value in
      settings_moved answer.Accepted (value_context a (drop_context a ctx)) (with_replaced routes d.slot.0 (queues_of (endpoint_map_in d).rings) [])

  pub set_ends : result o 0 (set_course (settings_in d value) ctx routes) ≡ set_end
  unfolding settings_in set_end
  set_ends =
      let p = (passed d (length ctx) (length routes) (length log) Pass g.passes).0 in
      let t = bare_routed routes d.slot.0 (endpoint_map_in d) g.routed (in_table d _ _ _ routes p refl) in
      set_accepted (settings_in d value) routes o ctx 0
      (λ k l m. done_at o 64 k g.done (omega (arith, queues_fit (endpoint_map_in d).rings))) t.done

  pub set_ran :
      Ran d routes [] no_endpoints (endpoint_map_in d).rings (replicate 30 0) (set_configuration d ctx routes log o value)
  unfolding set_configuration set_end
  set_ran =
      let p = (passed d (length ctx) (length routes) (length log) Pass g.passes).0 in
      let t = bare_routed routes d.slot.0 (endpoint_map_in d) g.routed (in_table d _ _ _ routes p refl) in
      let a = settings_in d value in
      ran d routes [] no_endpoints (endpoint_map_in d).rings (replicate 30 0) (set_record d value) _ o log
      (value_context a (drop_context a ctx)) (set_course a ctx routes) _ g.passes
      (rw no_queues set_ends)
      (set_moves d _ _ _ value g.passes _ refl)
      (rw no_queues t.routed)
