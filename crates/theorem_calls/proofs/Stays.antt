-- Routes, held settings and endpoints after a call that changes none.
use Prim.Native.Nat.{ℕ, zero, suc, ◌<◌}
use mathlib.Core.Path.{◌≡◌, refl, sym, ◌∙◌, ap}
use mathlib.Core.Bool.{Bool, true, false, not, ◌&&◌}
use mathlib.Core.List.{List, [], ◌∷◌}
use mathlib.Core.Logic.{inl, inr}
use native.Mathlib.Omega.{arith}
use lib.Dec.{eqb}
use lib.ListN.{length, take, get_or}
use Rattle.laws.proofs.Cases.{Decided, decided}
use Rattle.laws.proofs.Tests.{not_both}
use Rattle.answer.specs.declared.Answer.{Answer}
use Rattle.answer.specs.declared.Answer.TheVariants as answer
use Rattle.answer.specs.Answer.{number, is_accepted}
use Rattle.answer.specs.Check.{Pass}
use Rattle.command.specs.Course.{played}
use Rattle.record_endpoint.specs.declared.endpoint_map.EndpointMap.{EndpointMap}
use Rattle.record_endpoint.specs.declared.endpoint_map.Owner.{Owner}
use Rattle.record_endpoint.specs.EndpointMap.{with_active, queues_of, queue_dcis}
use Rattle.record_endpoint.proofs.Laws.{queues_fit, queues_small}
use Rattle.transfer.specs.Routes.{Queue, Small}
use Rattle.theorem_controller.proofs.Done.{done_in}
use Rattle.theorem_controller.specs.Controller.{SET-CONFIGURATION, done_word}
use Rattle.course_steps.specs.End.{End}
use Rattle.course_claim.proofs.Laws.{Moved, claim_moved}
use Rattle.course_release.proofs.Laws.{Says, release_says}
use Rattle.course_set_configuration.specs.SetConfiguration.{set_course}
use Rattle.course_set_configuration.proofs.Laws.{Routed, set_words, OneAnswer, Answered, set_answers, set_moved, set_switched}
use Rattle.course_disconnect.proofs.Ends.{Ended, disconnect_ends}
use Rattle.device.specs.declared.record.Device.{Device}
use Rattle.device.specs.Device.{endpoint_map_in, held_of}
use Rattle.device.specs.Left.{Left, refused, ended}
use Rattle.device.specs.Calls.{hub_left, hub_update}
use Rattle.device.specs.Check.{record_check, disconnect_check}
use Rattle.device.specs.Claim.{claim_check, drawn, claim_in, claim_record, claim_run, claim}
use Rattle.device.specs.Ask.{ask_check, current_check, commit}
use Rattle.device.specs.Release.{release_check, release_in, release_record, release_run, release}
use Rattle.device.specs.SetConfiguration.{settings_in, set_record, set_run, set_configuration}
use Rattle.device.specs.Disconnect.{disconnect_record, disconnect_run, disconnect}
use Rattle.device.proofs.Laws.{passed}
use Rattle.device.proofs.Made.{Made, marked_made}
use Rattle.device.proofs.Kept.{claim_stays, release_stays, set_stays}
use Rattle.device.proofs.Disconnected.{disconnect_stays}
use Rattle.theorem_slot.specs.Call.{Buffers, Asked, brings_up, claims, commits, releases, configures, updates_hub, disconnects, left, OfSlot}
use Rattle.theorem_slot.specs.Answers.{is_refused, is_bring_up}
use Rattle.theorem_slot.proofs.Ends.{unplugging_stayed}
use Rattle.theorem_slot.proofs.Step.{on_mild, mild_claim, mild_commit, commit_passed, mild_release, mild_set, mild_hub, mild_disconnect}
use Rattle.theorem_slot.proofs.Words.{taken_words}
use Rattle.theorem_calls.specs.Changes.{Stood, changes, Unmoved}

-- With some handles changed, and the mark.
made_stood :
    {d e : Device} {lost : Bool} {before now : List ℕ} (who : Owner) (n : ℕ) →
    Made d e (held_of d) (with_active who n (endpoint_map_in d)) lost → now ≡ before → Stood d e before now
unfolding with_active
made_stood who n m t =
    record {
      table = t;
      held = m.held;
      rings = ap (λ (c : EndpointMap). c.rings) m.endpoints;
      owners = ap (λ (c : EndpointMap). c.owners) m.endpoints;
    }

pub accepted_number : (x : Answer) → x ≡ answer.Accepted → is_accepted x ≡ true
unfolding number
accepted_number x e = rw e refl

module _ (b : Buffers) (d : Device) (routes : List ℕ) where
  abbrev o : List ℕ
  o = b.outcomes

  StoodBy : Asked → Left → Type 0
  StoodBy asked l = changes asked b.outcomes l ≡ false → Stood d l.device routes l.routes

  refuses : (asked : Asked) (a : Answer) → is_refused a ≡ true → StoodBy asked (refused d a b.ctx routes b.log)
  unfolding StoodBy refused
  refuses asked a r n = record { table = refl; held = refl; rings = refl; owners = refl }

  -- A claim, at its end.
  claim_stands :
      (i a : ℕ) → record_check d (length b.ctx) (length routes) (length b.log) (claim_check d i a Pass) ≡ Pass → (e : End) →
      Moved (claim_in d i a (drawn d i a)) routes e → is_accepted e.answer ≡ false →
      Stood d (claim_record d i a (drawn d i a) e) routes e.routes
  claim_stands i a k e m n = go (decided e.moved)
    where
      go : Decided e.moved → Stood d (claim_record d i a (drawn d i a) e) routes e.routes
      go (inl t) = not_both (is_accepted e.answer) (accepted_number e.answer (m.by_answer.0 t)) n
      go (inr f) = made_stood _ _ (claim_stays d _ _ _ i a k e f) (m.kept f)

  release_stands :
      (i : ℕ) → record_check d (length b.ctx) (length routes) (length b.log) (release_check d i) ≡ Pass → (e : End) →
      Says (release_in d i) routes e → is_accepted e.answer ≡ false → Stood d (release_record d i e) routes e.routes
  release_stands i k e (inl g) n = not_both (is_accepted e.answer) (accepted_number e.answer g.accepted) n
  release_stands i k e (inr s) n = made_stood _ _ (release_stays d _ _ _ i k e s.kept) s.left

  set_stands :
      (value : ℕ) → record_check d (length b.ctx) (length routes) (length b.log) Pass ≡ Pass → (switched : Bool) (e : End) →
      Routed (settings_in d value) routes switched e → Answered (settings_in d value) routes e →
      (switched && not (eqb (number e.answer) 18)) ≡ false → Stood d (set_record d value e) routes e.routes
  unfolding number
  set_stands value k switched e r w n = go (decided e.moved)
    where
      by_answer : OneAnswer e.answer → e.moved ≡ true → eqb (number e.answer) 18 ≡ false
      by_answer (inl q) t = rw q refl
      by_answer (inr (inl (code, q))) t = rw q refl
      by_answer (inr (inr (inl q))) t = rw q refl
      by_answer (inr (inr (inr (inl q)))) t = rw q refl
      by_answer (inr (inr (inr (inr q)))) t = not_both e.moved t (w.invalid q).0

      go : Decided e.moved → Stood d (set_record d value e) routes e.routes
      go (inl t) = let s = (r.gone t).0 in not_both true refl (rw (s, by_answer w.only t) at n)
      go (inr f) = made_stood _ _ (set_stays d _ _ _ value k e f) (r.kept f)

  disconnect_stands :
      disconnect_check d (length b.ctx) (length routes) (length b.log) ≡ Pass → (e : End) → Ended d.slot.0 b.ctx routes e →
      is_accepted e.answer ≡ false → Stood d (disconnect_record d e) routes e.routes
  unfolding number
  disconnect_stands k e (inl v) n = not_both (is_accepted answer.Accepted) refl (sym (ap (λ (x : End). is_accepted x.answer) v) ∙ n)
  disconnect_stands k e (inr v) n =
      let s = unplugging_stayed b.ctx routes e v in made_stood _ _ (disconnect_stays d _ _ _ k e s.kept s.lost) s.left

-- The Dcis of the queues of rings by place are bytes.
pub small_dcis : (qs : List Queue) (k : ℕ) → Small qs → get_or (queue_dcis qs) k 0 < 256
unfolding Small queue_dcis
small_dcis [] k f = omega arith
small_dcis (q ∷ qs) zero f = omega (arith, f.0)
small_dcis (q ∷ qs) (suc k) f = small_dcis qs k f.1

module _ (b : Buffers) (d : Device) (routes : List ℕ) where
  -- The log says whether its SetConfiguration is done.
  set_logged :
      (value : ℕ) → value < 256 → record_check d (length b.ctx) (length routes) (length b.log) Pass ≡ Pass →
      let course = set_course (settings_in d value) b.ctx routes in
      done_word SET-CONFIGURATION b.outcomes 0 (take (played b.outcomes 0 course b.log).count (played b.outcomes 0 course b.log).log)
      ≡ done_in SET-CONFIGURATION b.outcomes 0 course
  unfolding settings_in
  set_logged value h k =
      let a = settings_in d value in
      let rings = (endpoint_map_in d).rings in
      let room = (passed d _ _ _ _ k).0.room in
      ap (done_word SET-CONFIGURATION b.outcomes 0)
      (taken_words b.outcomes (set_course a b.ctx routes) b.log (omega (arith, set_words a routes b.outcomes b.ctx 0, queues_fit rings, room)))
      ∙ set_switched a routes b.outcomes b.ctx 0 h (λ j. small_dcis (queues_of rings) j (queues_small rings))

  each : (a : Asked) → is_bring_up a ≡ false → OfSlot d.slot.0 a → StoodBy b d routes a (left a b d routes)
  unfolding StoodBy changes is_bring_up OfSlot left claim commit release set_configuration hub_update disconnect ended hub_left played
  each (brings_up a) n s = not_both true refl n
  each (claims i a) n s =
      on_mild (StoodBy b d routes (claims i a)) (record_check d (length b.ctx) (length routes) (length b.log) (claim_check d i a Pass))
      (claim_run d b.ctx routes b.log b.outcomes i a (drawn d i a)) (λ x. refused d x b.ctx routes b.log) (mild_claim d _ _ _ i a)
      (λ k. claim_stands b d routes i a k _ (claim_moved (claim_in d i a (drawn d i a)) b.ctx routes b.outcomes 0)) (refuses b d routes (claims i a))
  each (commits p) n s =
      let i = p.interface in
      let a = p.alternate in
      on_mild (StoodBy b d routes (commits p)) (ask_check d (length b.ctx) (length routes) (length b.log) i a (current_check d p))
      (claim_run d b.ctx routes b.log b.outcomes i a (drawn d i a)) (λ x. refused d x b.ctx routes b.log) (mild_commit d _ _ _ p)
      (λ k.
      claim_stands b d routes i a (commit_passed d _ _ _ p k) _ (claim_moved (claim_in d i a (drawn d i a)) b.ctx routes b.outcomes 0))
      (refuses b d routes (commits p))
  each (releases i) n s =
      on_mild (StoodBy b d routes (releases i)) (record_check d (length b.ctx) (length routes) (length b.log) (release_check d i))
      (release_run d b.ctx routes b.log b.outcomes i) (λ x. refused d x b.ctx routes b.log) (mild_release d _ _ _ i)
      (λ k. release_stands b d routes i k _ (release_says (release_in d i) routes b.outcomes b.ctx 0)) (refuses b d routes (releases i))
  each (configures value) n s =
      on_mild (StoodBy b d routes (configures value)) (record_check d (length b.ctx) (length routes) (length b.log) Pass)
      (set_run d b.ctx routes b.log b.outcomes value) (λ x. refused d x b.ctx routes b.log) (mild_set d _ _ _)
      (λ k m.
      set_stands b d routes value k _ _ (set_moved (settings_in d value) routes b.outcomes b.ctx 0)
      (set_answers (settings_in d value) routes b.outcomes b.ctx 0) (rw (set_logged value s k) at m))
      (refuses b d routes (configures value))
  each (updates_hub ports multi ns) n s =
      on_mild (StoodBy b d routes (updates_hub ports multi ns)) _ _ _ (mild_hub d _ _ _ ns)
      (λ k m.
      let p = (passed d _ _ _ _ k).0 in
      let t = marked_made d p.usable p.is_sound _ in
      record { table = refl; held = t.held; rings = ap (λ (c : EndpointMap). c.rings) t.endpoints; owners = ap (λ (c : EndpointMap). c.owners) t.endpoints })
      (refuses b d routes (updates_hub ports multi ns))
  each disconnects n s =
      let dcis = queue_dcis (queues_of (endpoint_map_in d).rings) in
      on_mild (StoodBy b d routes disconnects) (disconnect_check d (length b.ctx) (length routes) (length b.log))
      (disconnect_run d b.ctx routes b.log b.outcomes) (λ x. refused d x b.ctx routes b.log) (mild_disconnect d _ _ _)
      (λ k. disconnect_stands b d routes k _ (disconnect_ends d.slot.0 dcis b.ctx routes b.outcomes 0)) (refuses b d routes disconnects)

pub unmoved : Unmoved
unfolding StoodBy
unmoved c d routes n s m = each c.buffers d routes c.asked n s m
