-- What each call on a record that is up makes of it and of the controller.
use Rattle.std.proofs.Common.{Ok, Err}
use Prim.Native.Nat.{ℕ, ◌<◌, ◌≤◌}
use mathlib.Core.Path.{◌≡◌, refl, ◌∙◌}
use mathlib.Core.Logic.{inl, inr}
use mathlib.Core.Bool.{Bool, true, false}
use mathlib.Core.List.{List}
use native.Mathlib.Omega.{arith}
use lib.ListN.{length, take}
use Rattle.laws.proofs.Tests.{not_both}
use Rattle.answer.specs.declared.Answer.{Answer}
use Rattle.answer.specs.Check.{Check, Pass}
use Rattle.command.specs.Command.{outcome_at}
use Rattle.command.specs.Course.{Course, words, result, played, CutsTo, CutEnds, EndsWith}
use Rattle.command.proofs.Operations.{ByteOperands, operation, EachCommand}
use Rattle.record_endpoint.specs.EndpointMap.{owned_rings, queues_of, queue_dcis}
use Rattle.record_endpoint.specs.declared.endpoint_map.Owner.TheVariants.{Interface}
use Rattle.record_endpoint.proofs.Laws.{queues_fit}
use Rattle.course_steps.specs.End.{End}
use Rattle.course_steps.proofs.Laws.{length_dcis}
use Rattle.theorem_controller.specs.Controller.{controlled}
use Rattle.theorem_controller.proofs.Followed.{followed, controlled_course}
use Rattle.course_claim.specs.Claim.{claim_course}
use Rattle.course_claim.proofs.Laws.{claim_cuts, claim_words}
use Rattle.course_claim.proofs.Controlled.{claim_operands}
use Rattle.course_release.specs.Release.{release_course}
use Rattle.course_release.proofs.Laws.{release_cuts, release_words}
use Rattle.course_release.proofs.Controlled.{release_operands}
use Rattle.course_set_configuration.specs.SetConfiguration.{set_course}
use Rattle.course_set_configuration.proofs.Laws.{set_cuts, set_words, set_operands}
use Rattle.course_disconnect.specs.Disconnect.{disconnect_course}
use Rattle.course_disconnect.proofs.Ends.{disconnect_cuts, disconnect_words, disconnect_operands}
use Rattle.device.specs.declared.record.Device.{Device}
use Rattle.device.specs.Device.{list_of, endpoint_map_in, held_of}
use Rattle.device.specs.Left.{Left, refused, ended}
use Rattle.device.specs.Check.{record_check, hub_check}
use Rattle.device.specs.Calls.{on_check, hub_context, hub_course, hub_left, hub_update}
use Rattle.device.specs.Ask.{Ask, commit}
use Rattle.device.specs.Claim.{claim_check, drawn, claim_in, claim_record, claim_run, claim}
use Rattle.device.specs.Release.{release_in, release_record, release_run, release}
use Rattle.device.specs.SetConfiguration.{settings_in, set_record, set_run, set_configuration}
use Rattle.device.specs.Disconnect.{disconnect_record, disconnect_run, disconnect}
use Rattle.device.proofs.ClaimLaws.{undone_to}
use Rattle.device.proofs.Disconnected.{up_passed}
use Rattle.device.proofs.Fit.{alternate_byte}
use Rattle.device.proofs.Laws.{passed}
use Rattle.device.proofs.Made.{marked_made}
use Rattle.theorem_slot.specs.Call.{Buffers, Asked, brings_up, claims, commits, releases, configures, updates_hub, disconnects, left, cut_at, context_cut, OfSlot}
use Rattle.theorem_slot.specs.Answers.{is_bring_up}
use Rattle.theorem_slot.proofs.Made.{byte_dcis}
use Rattle.theorem_slot.proofs.Matched.{Other}
use Rattle.theorem_slot.proofs.Moved.{marked_quarantined}
use Rattle.theorem_slot.proofs.Step.{commit_passed}
use Rattle.theorem_slot.proofs.Words.{taken_words}
use Rattle.theorem_doubt.specs.Doubt.{rings_after}
use Rattle.theorem_doubt.proofs.Held.{Ringed, Leaves, made_ringed}
use Rattle.theorem_doubt.proofs.Watch.{idle_other}
use Rattle.theorem_doubt.proofs.ClaimStep.{claim_ringed}
use Rattle.theorem_doubt.proofs.Release.{release_ringed}
use Rattle.theorem_doubt.proofs.SetConfiguration.{set_ringed}
use Rattle.theorem_doubt.proofs.Disconnect.{unplug_ringed}

-- The rings after what a call logged, from what it leaves with any outcomes.
unfoldable pub rings_of : Bool → List ℕ → (ℕ → ℕ) → (List ℕ → Left) → ℕ → ℕ
rings_of took o rings run =
    controlled (rings_after took) (λ i. (run (take i o)).ctx) o 0 (take (run o).count (run o).log) rings

unfoldable pub rings_left : Bool → Device → List ℕ → Buffers → (ℕ → ℕ) → Asked → ℕ → ℕ
rings_left took d table b rings asked =
    let l = left asked b d table in
    controlled (rings_after took) (context_cut (record { asked = asked; buffers = b }) d table) b.outcomes 0 (take l.count l.log) rings

-- They are what its course leaves.
pub course_rings :
    {A : Type 0} (took : Bool) (o log : List ℕ) (rings : ℕ → ℕ) (context_of : A → List ℕ) (c : Course A) → length (words o 0 c) ≤ length log →
    CutEnds context_of c → EachCommand ByteOperands c →
    controlled (rings_after took) (λ i. context_of (result (take i o) 0 c)) o 0 (take (played o 0 c log).count (played o 0 c log).log) rings
    ≡ followed (rings_after took) o 0 c rings
course_rings took o log rings context_of c room cuts bytes =
    rw (taken_words o c log room) (controlled_course (rings_after took) context_of o 0 c rings cuts bytes)

module _ (d : Device) (table : List ℕ) (b : Buffers) (took : Bool) (rings : ℕ → ℕ) (up : d.up ≡ true) (ringed : Ringed d rings) where
  abbrev o : List ℕ
  o = b.outcomes

  abbrev Goal : Asked → Type 0
  Goal asked = Other (left asked b d table).answer → Leaves (left asked b d table).device (rings_left took d table b rings asked)

  -- A refusal changes nothing.
  checked :
      (k : Check) (run : List ℕ → Left) → (k ≡ Pass → Other (run o).answer → Leaves (run o).device (rings_of took o rings run)) →
      let all : List ℕ → Left = λ x. on_check k (run x) (λ a. refused d a b.ctx table b.log) in
      Other (all o).answer → Leaves (all o).device (rings_of took o rings all)
  unfolding on_check refused rings_of controlled
  checked (Ok _) run h n = h refl n
  checked (Err a) run h n = inl (up, ringed)

  -- A course that has ended.
  module _ (made : End → Device) (c : Course End) (room : length (words o 0 c) ≤ length b.log) (cuts : CutEnds (λ (e : End). e.ctx) c)
      (bytes : EachCommand ByteOperands c) where
    ran :
        Leaves (made (result o 0 c)) (followed (rings_after took) o 0 c rings) →
        Leaves (ended made (played o 0 c b.log)).device (rings_of took o rings (λ x. ended made (played x 0 c b.log)))
    unfolding ended played rings_of
    ran h = rw (course_rings took o b.log rings (λ (e : End). e.ctx) c room cuts bytes) h

  module _ (i a : ℕ) (byte-i : i < 256) (byte-a : a < 256) where
    claim_runs :
        record_check d (length b.ctx) (length table) (length b.log) (claim_check d i a Pass) ≡ Pass →
        let run : List ℕ → Left = λ x. claim_run d b.ctx table b.log x i a (drawn d i a) in Leaves (run o).device (rings_of took o rings run)
    unfolding claim_in
    claim_runs k =
        let p = (passed d _ _ _ _ k).0 in
        let c = claim_in d i a (drawn d i a) in
        let mine = owned_rings (Interface i) (endpoint_map_in d) in
        ran (claim_record d i a (drawn d i a)) (claim_course c b.ctx table)
        (omega (arith, claim_words c b.ctx table o 0 (queues_fit mine), p.room))
        (claim_cuts c b.ctx table)
        (claim_operands c b.ctx table byte-i byte-a (rw (undone_to i (held_of d)) (alternate_byte (list_of d) (held_of d) p.facts.settings i))
        (byte_dcis mine))
        (inl (claim_ringed d i a byte-i byte-a b.ctx table _ _ k up rings ringed took o))

    claim_leaves : Goal (claims i a)
    unfolding rings_of rings_left left context_cut cut_at claim
    claim_leaves = checked _ (λ x. claim_run d b.ctx table b.log x i a (drawn d i a)) (λ k n. claim_runs k)

  commit_leaves : (p : Ask) → p.interface < 256 → p.alternate < 256 → Goal (commits p)
  unfolding rings_of rings_left left context_cut cut_at commit
  commit_leaves p byte-i byte-a =
      checked _ (λ x. claim_run d b.ctx table b.log x p.interface p.alternate (drawn d p.interface p.alternate))
      (λ e n. claim_runs p.interface p.alternate byte-i byte-a (commit_passed d _ _ _ p e))

  release_leaves : (i : ℕ) → i < 256 → Goal (releases i)
  unfolding rings_of rings_left left context_cut cut_at release release_in ended played
  release_leaves i byte =
      checked _ (λ x. release_run d b.ctx table b.log x i)
      (λ k n.
      let c = release_in d i in
      let mine = owned_rings (Interface i) (endpoint_map_in d) in
      ran (release_record d i) (release_course c b.ctx table)
      (omega (arith, release_words c table o b.ctx 0 (queues_fit mine), (passed d _ _ _ _ k).0.room))
      (release_cuts c b.ctx table) (release_operands c b.ctx table (byte_dcis mine))
      (inl (release_ringed d i byte b.ctx table _ _ k up rings ringed took o n)))

  set_leaves : (value : ℕ) → value < 256 → Goal (configures value)
  unfolding rings_of rings_left left context_cut cut_at set_configuration settings_in ended played
  set_leaves value byte =
      checked _ (λ x. set_run d b.ctx table b.log x value)
      (λ k n.
      let c = settings_in d value in
      let all = (endpoint_map_in d).rings in
      ran (set_record d value) (set_course c b.ctx table)
      (omega (arith, set_words c table o b.ctx 0, queues_fit all, (passed d _ _ _ _ k).0.room))
      (set_cuts c b.ctx table) (set_operands c b.ctx table byte (byte_dcis all))
      (inl (set_ringed d value b.ctx table _ _ k up rings ringed took o n)))

  unplug_leaves : Goal disconnects
  unfolding rings_of rings_left left context_cut cut_at disconnect
  unplug_leaves =
      checked _ (λ x. disconnect_run d b.ctx table b.log x)
      (λ k n.
      let all = (endpoint_map_in d).rings in
      let dcis = queue_dcis (queues_of all) in
      ran (disconnect_record d) (disconnect_course d.slot.0 dcis b.ctx table)
      (omega (arith, disconnect_words d.slot.0 dcis b.ctx table o 0, length_dcis (queues_of all), queues_fit all, (up_passed d _ _ _ k).room))
      (disconnect_cuts d.slot.0 dcis b.ctx table) (disconnect_operands d.slot.0 dcis b.ctx table (byte_dcis all))
      (unplug_ringed d b.ctx table _ _ k rings ringed took o))

  -- A hub update sends an Evaluate alone.
  module _ (ctx : List ℕ) where
    hub_cuts : CutEnds (λ (a : Answer). ctx) (hub_course ctx)
    unfolding CutsTo EndsWith hub_course
    hub_cuts = (refl, λ s. tt)

    hub_bytes : EachCommand ByteOperands (hub_course ctx)
    unfolding EachCommand ByteOperands hub_course
    hub_bytes = (tt, λ s. tt)

    hub_same : followed (rings_after took) o 0 (hub_course ctx) rings ≡ rings
    unfolding followed hub_course operation
    hub_same = idle_other took 2 refl (outcome_at o 0) ctx rings

    one_word : length (words o 0 (hub_course ctx)) ≡ 1
    unfolding words hub_course
    one_word = refl

    hub_runs :
        (ns : ℕ) → record_check d (length b.ctx) (length table) (length b.log) (hub_check d ns) ≡ Pass →
        let run : List ℕ → Left = λ x. hub_left d ctx table (played x 0 (hub_course ctx) b.log) in Leaves (run o).device (rings_of took o rings run)
    unfolding hub_left played rings_of
    hub_runs ns k =
        let p = (passed d _ _ _ _ k).0 in
        let a = result o 0 (hub_course ctx) in
        let m = marked_made d p.usable p.is_sound a in
        rw (course_rings took o b.log rings (λ (x : Answer). ctx) (hub_course ctx) (omega (arith, one_word, p.room)) hub_cuts hub_bytes ∙ hub_same)
        (inl
        (made_ringed m up ringed (λ l. rw m.endpoints (ringed.own p.usable)) (λ l. ringed.first p.usable) (rw (m.endpoints, marked_quarantined a d) ringed.safe) (λ x h. inr refl)))

  hub_leaves : (ports : ℕ) (multi : Bool) (ns : ℕ) → Goal (updates_hub ports multi ns)
  unfolding rings_of rings_left left context_cut cut_at hub_update
  hub_leaves ports multi ns =
      let ctx = hub_context d ports multi ns b.ctx in
      checked _ (λ x. hub_left d ctx table (played x 0 (hub_course ctx) b.log)) (λ k n. hub_runs ctx ns k)

  pub each_leaves : (slot : ℕ) (asked : Asked) → OfSlot slot asked → is_bring_up asked ≡ false → Goal asked
  unfolding OfSlot is_bring_up
  each_leaves slot (brings_up a) h n = not_both true refl n
  each_leaves slot (claims i a) h n = claim_leaves i a h.0 h.1
  each_leaves slot (commits p) h n = commit_leaves p h.0 h.1
  each_leaves slot (releases i) h n = release_leaves i h
  each_leaves slot (configures value) h n = set_leaves value h
  each_leaves slot (updates_hub ports multi ns) h n = hub_leaves ports multi ns
  each_leaves slot disconnects h n = unplug_leaves
