-- The same call, given only the outcomes before one of its commands.
use Rattle.std.proofs.Common.{Ok, Err}
use Prim.Native.Nat.{ℕ, ◌+◌, ◌<◌, ◌≤◌}
use mathlib.Core.Path.{◌≡◌, refl, sym, ◌∙◌, ap}
use mathlib.Core.List.{List}
use native.Mathlib.Omega.{arith}
use lib.ListN.{length, take, length-take}
use lib.Seq.{sets}
use Rattle.answer.specs.declared.Answer.{Answer}
use Rattle.answer.specs.declared.Answer.TheVariants as answer
use Rattle.answer.specs.Check.{Check, Pass}
use Rattle.command.specs.Course.{Course, Played, words, played, CutsTo}
use Rattle.command.proofs.Cuts.{cut_short}
use Rattle.transfer.specs.Routes.{with_route}
use Rattle.course_steps.specs.End.{End}
use Rattle.course_claim.specs.Claim.{claim_course}
use Rattle.course_release.specs.Release.{release_course}
use Rattle.record_endpoint.specs.EndpointMap.{queues_of, queue_dcis}
use Rattle.course_disconnect.specs.Disconnect.{disconnect_course}
use Rattle.course_set_configuration.specs.SetConfiguration.{set_course}
use Rattle.course_init.specs.Reading.{control_ring, Brought}
use Rattle.device.specs.declared.record.Device.{Device}
use Rattle.device.specs.Left.{Left, refused, ended}
use Rattle.device.specs.Calls.{on_check, hub_context, hub_course, hub_left, hub_update}
use Rattle.device.specs.Check.{record_check, disconnect_check, hub_check}
use Rattle.device.specs.Ask.{ask_check, current_check, commit}
use Rattle.device.specs.Claim.{claim_check, drawn, claim_in, claim_record, claim}
use Rattle.device.specs.Disconnect.{disconnect_record, disconnect}
use Rattle.device.specs.Release.{release_check, release_in, release_record, release}
use Rattle.device.specs.SetConfiguration.{settings_in, set_record, set_configuration}
use Rattle.device.proofs.Laws.{passed}
use Rattle.device.proofs.Disconnected.{up_passed}
use Rattle.device.specs.Device.{endpoint_map_in, no_device}
use Rattle.context.specs.Place.{spacing_of}
use Rattle.device_bring_up.specs.BringUp.{queue_check, bring_up_check, bring_up_course, brought_left, bring_up}
use Rattle.device_bring_up.proofs.Checks as brought-checks
use Rattle.theorem_slot.specs.Call.{Buffers, Asked, brings_up, claims, commits, releases, configures, updates_hub, disconnects, Call, left, cut_at}
use Rattle.theorem_slot.specs.Answers.{CutThere, CutsAgree}
use Rattle.theorem_slot.proofs.Step.{commit_passed}
use Rattle.theorem_slot.proofs.Words.{stored_first, stored}
use Rattle.command.proofs.Told.{told_cuts}
use Rattle.theorem_slot.proofs.Ends.{claim_tells, release_tells, set_tells, disconnect_tells, hub_tells, bring_up_tells}
use Rattle.theorem_slot.proofs.Few.{few_words}

-- The first words of a course, where it is cut.
first_words : (i : ℕ) (ws short log : List ℕ) → short ≡ take (i + 1) ws → i < length ws → length ws ≤ length log →
    (0 + length short ≡ i + 1) × (take (i + 1) (sets log 0 short) ≡ take (i + 1) (sets log 0 ws))
first_words i ws short log e h room =
    let n : length short ≡ i + 1 = ap length e ∙ length-take (i + 1) ws ∙ omega arith in
    let m : i + 1 ≤ length ws = omega arith in
    (omega arith, ((rw n at (stored short log (omega arith))) ∙ e) ∙ sym (stored_first (i + 1) ws log m room))

module _ {A : Type 0} (answer_in : A → Answer) (leaves : Played A → Left) (c : Course A) (log o : List ℕ)
    (answers : (p : Played A) → (leaves p).answer ≡ answer_in p.end) (counts : (p : Played A) → (leaves p).count ≡ p.count)
    (logs : (p : Played A) → (leaves p).log ≡ p.log) (cuts : CutsTo (λ ctx a. answer_in a ≡ answer.Cut) c) where
  cut_there : (i : ℕ) → length (words o 0 c) ≤ length log → i < length (words o 0 c) →
      CutThere i (leaves (played o 0 c log)) (leaves (played (take i o) 0 c log))
  unfolding played
  cut_there i room h =
      let z : 0 + i ≡ i = omega arith in
      let s = rw z at (cut_short (λ ctx a. answer_in a ≡ answer.Cut) o 0 i c cuts h) in
      let f = first_words i (words o 0 c) (words (take i o) 0 c) log s.1 h room in
      record {
        answer = answers (played (take i o) 0 c log) ∙ s.0;
        count = counts (played (take i o) 0 c log) ∙ f.0;
        words = ap (take (i + 1)) (logs (played (take i o) 0 c log)) ∙ f.1 ∙ sym (ap (take (i + 1)) (logs (played o 0 c log)));
      }

  -- after a check
  pub cut_checked :
      (k : Check) (refuse : Answer → Left) (i : ℕ) → (k ≡ Pass → 64 ≤ length log) → ((a : Answer) → (refuse a).count ≡ 0) →
      (on_check k (leaves (played o 0 c log)) refuse).count ≤ 63 → i < (on_check k (leaves (played o 0 c log)) refuse).count →
      CutThere i (on_check k (leaves (played o 0 c log)) refuse) (on_check k (leaves (played (take i o) 0 c log)) refuse)
  unfolding on_check played
  cut_checked (Ok _) refuse i room none few h =
      let n = counts (played o 0 c log) in
      let r = room refl in
      cut_there i (omega (arith, n, few, r)) (omega (arith, n, h))
  cut_checked (Err a) refuse i room none few h = absurd (omega (arith, none a, h))

module _ (b : Buffers) (d : Device) (routes : List ℕ) (i : ℕ) where
  call : Asked → Call
  call a = record { asked = a; buffers = b }

  each : (a : Asked) → i < (left a b d routes).count → CutThere i (left a b d routes) (left a (cut_at i b) d routes)
  unfolding call left cut_at claim commit release set_configuration hub_update disconnect bring_up ended hub_left brought_left bring_up_course bring_up_check refused
  each (brings_up a) h =
      cut_checked (λ (x : Brought). x.answer) (brought_left a (spacing_of (length b.ctx))) (bring_up_course a (spacing_of (length b.ctx)) b.ctx routes)
      b.log b.outcomes (λ p. refl) (λ p. refl) (λ p. refl)
      (told_cuts _ _ _ (bring_up_tells (λ code. Unit {0}) a (spacing_of (length b.ctx)) (with_route routes a.slot 1 (control_ring a)) b.ctx))
      (bring_up_check a (length b.ctx) routes (length b.log)) (λ x. refused no_device x b.ctx routes b.log) i
      (λ e. (brought-checks.passed a (length b.ctx) (length routes) (length b.log) (queue_check a routes) e).0.room) (λ x. refl)
      (few_words (call (brings_up a)) d routes) h
  each (claims j a) h =
      cut_checked (λ (x : End). x.answer) (ended (claim_record d j a (drawn d j a))) (claim_course (claim_in d j a (drawn d j a)) b.ctx routes) b.log
      b.outcomes (λ p. refl) (λ p. refl) (λ p. refl)
      (told_cuts _ _ _ (claim_tells (λ code. Unit {0}) (claim_in d j a (drawn d j a)) b.ctx routes))
      (record_check d (length b.ctx) (length routes) (length b.log) (claim_check d j a Pass))
      (λ x. refused d x b.ctx routes b.log) i
      (λ e. (passed d _ _ _ _ e).0.room) (λ x. refl) (few_words (call (claims j a)) d routes) h
  each (commits p) h =
      cut_checked (λ (x : End). x.answer) (ended (claim_record d p.interface p.alternate (drawn d p.interface p.alternate))) (claim_course (claim_in d p.interface p.alternate (drawn d p.interface p.alternate)) b.ctx routes) b.log
      b.outcomes (λ x. refl) (λ x. refl) (λ x. refl)
      (told_cuts _ _ _ (claim_tells (λ code. Unit {0}) (claim_in d p.interface p.alternate (drawn d p.interface p.alternate)) b.ctx routes))
      (ask_check d (length b.ctx) (length routes) (length b.log) p.interface p.alternate (current_check d p))
      (λ x. refused d x b.ctx routes b.log) i
      (λ e. (passed d _ _ _ _ (commit_passed d _ _ _ p e)).0.room) (λ x. refl) (few_words (call (commits p)) d routes) h
  each (releases j) h =
      cut_checked (λ (x : End). x.answer) (ended (release_record d j)) (release_course (release_in d j) b.ctx routes) b.log
      b.outcomes (λ p. refl) (λ p. refl) (λ p. refl)
      (told_cuts _ _ _ (release_tells (λ code. Unit {0}) (release_in d j) b.ctx routes))
      (record_check d (length b.ctx) (length routes) (length b.log) (release_check d j))
      (λ x. refused d x b.ctx routes b.log) i
      (λ e. (passed d _ _ _ _ e).0.room) (λ x. refl) (few_words (call (releases j)) d routes) h
  each (configures value) h =
      cut_checked (λ (x : End). x.answer) (ended (set_record d value)) (set_course (settings_in d value) b.ctx routes) b.log
      b.outcomes (λ p. refl) (λ p. refl) (λ p. refl)
      (told_cuts _ _ _ (set_tells (λ code. Unit {0}) (settings_in d value) b.ctx routes))
      (record_check d (length b.ctx) (length routes) (length b.log) Pass)
      (λ x. refused d x b.ctx routes b.log) i
      (λ e. (passed d _ _ _ _ e).0.room) (λ x. refl) (few_words (call (configures value)) d routes) h
  each (updates_hub ports multi ns) h =
      let ctx = hub_context d ports multi ns b.ctx in
      cut_checked (λ (x : Answer). x) (hub_left d ctx routes) (hub_course ctx) b.log
      b.outcomes (λ p. refl) (λ p. refl) (λ p. refl)
      (told_cuts _ _ _ (hub_tells (λ code. Unit {0}) ctx))
      (record_check d (length b.ctx) (length routes) (length b.log) (hub_check d ns))
      (λ x. refused d x b.ctx routes b.log) i
      (λ e. (passed d _ _ _ _ e).0.room) (λ x. refl) (few_words (call (updates_hub ports multi ns)) d routes) h
  each disconnects h =
      let dcis = queue_dcis (queues_of (endpoint_map_in d).rings) in
      cut_checked (λ (x : End). x.answer) (ended (disconnect_record d)) (disconnect_course d.slot.0 dcis b.ctx routes) b.log
      b.outcomes (λ p. refl) (λ p. refl) (λ p. refl)
      (told_cuts _ _ _ (disconnect_tells (λ code. Unit {0}) d.slot.0 dcis b.ctx routes))
      (disconnect_check d (length b.ctx) (length routes) (length b.log))
      (λ x. refused d x b.ctx routes b.log) i
      (λ e. (up_passed d _ _ _ e).room) (λ x. refl) (few_words (call disconnects) d routes) h

pub cuts_agree : CutsAgree
cuts_agree c d routes i h = each c.buffers d routes i c.asked h
