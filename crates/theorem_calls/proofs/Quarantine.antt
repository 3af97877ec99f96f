-- What a call puts in quarantine.
use Prim.Native.Nat.{ℕ, zero, suc, ◌+◌, ◌<◌, ◌≤◌}
use mathlib.Core.Path.{◌≡◌, refl, sym, ◌∙◌, ap}
use mathlib.Core.Bool.{Bool, true, false, not, ◌&&◌}
use mathlib.Core.List.{List, [], ◌∷◌}
use mathlib.Core.Logic.{◌⊎◌, inl, inr}
use native.Mathlib.Omega.{arith}
use borrow.Author.Tests.{eq-eqb, eqb-true, not-true}
use lib.Dec.{eqb}
use lib.ListN.{length, get_or, take, drop}
use Rattle.std.proofs.lemmas.Grind.{get_or_after_one}
use Rattle.laws.specs.Distinct.{elem}
use Rattle.laws.proofs.Tests.{and-true, and_left, and_right, not_both}
use Rattle.laws.proofs.Cases.{false_if, or_left, or_right, or_cases}
use Rattle.answer.specs.declared.Answer.{Answer}
use Rattle.answer.specs.declared.Answer.TheVariants as answer
use Rattle.answer.specs.Answer.{number, is_lost}
use Rattle.answer.specs.Check.{Pass}
use Rattle.command.specs.declared.Sent.{Sent}
use Rattle.command.specs.declared.Sent.TheVariants.{Done, Failed, Cut}
use Rattle.command.specs.Command.{operation_of, outcome_at}
use Rattle.command.specs.Course.{Course, words, result, played}
use Rattle.command.proofs.Operations.{ByteOperands, EachCommand}
use Rattle.context_block.specs.Blocks.{word_dci}
use Rattle.context.specs.Steps.{word_dcis}
use Rattle.transfer.specs.Routes.{queues, names}
use Rattle.record_ring.proofs.Laws.{ring_nonzero, ring_at}
use Rattle.record_endpoint.specs.Endpoint.{rings_of}
use Rattle.record_endpoint.specs.EndpointMap.{owned_rings, queues_of, queue_rings, pending_rings}
use Rattle.record_endpoint.specs.declared.endpoint_map.Owner.TheVariants.{Interface}
use Rattle.record_endpoint.proofs.Laws.{pending_length, queues_fit, queues_small}
use Rattle.record_settings.specs.Held.{setting_words}
use Rattle.record_settings.proofs.Laws.{pending_place}
use Rattle.theorem_controller.specs.Controller.{CONFIGURE, SET-CONFIGURATION, is_done, done_word, sent_word}
use Rattle.theorem_controller.proofs.Done.{done_in}
use Rattle.course_steps.specs.End.{End}
use Rattle.course_claim.specs.Claim.{claim_course}
use Rattle.course_claim.proofs.Laws.{Moved, claim_moved, claim_words}
use Rattle.course_claim.proofs.Controlled.{claim_operands}
use Rattle.course_claim.proofs.Doubted.{claim_doubted}
use Rattle.course_set_configuration.specs.SetConfiguration.{Settings, set_course}
use Rattle.course_set_configuration.proofs.Laws.{set_words, SetEnd, failed, broken, cut, invalid, accepted, broken_late, cut_late, set_ends, set_moved, set_switched}
use Rattle.device.specs.declared.record.Device.{Device}
use Rattle.device.specs.Device.{list_of, endpoint_map_in, held_of, quarantined_of}
use Rattle.device.specs.Left.{Left, refused, ended}
use Rattle.device.specs.Calls.{hub_left, hub_update}
use Rattle.device.specs.Check.{record_check}
use Rattle.device.specs.Claim.{claim_check, drawn, pending_of, claim_in, claim_record, claim_run, claim}
use Rattle.device.specs.Ask.{ask_check, current_check, commit}
use Rattle.device.specs.Release.{release_check, release_run, release}
use Rattle.device.specs.SetConfiguration.{settings_in, set_record, set_run, set_configuration}
use Rattle.device.proofs.ClaimLaws.{undone_to}
use Rattle.device.proofs.Fit.{alternate_byte}
use Rattle.device.proofs.Laws.{Passed, passed}
use Rattle.device.proofs.Made.{sound_clean}
use Rattle.device.proofs.Kept.{ClaimPassed, claim_passed, claim_quarantined, set_quarantined}
use Rattle.theorem_slot.specs.Call.{Buffers, Asked, brings_up, claims, commits, releases, configures, updates_hub, disconnects, left, OfSlot}
use Rattle.theorem_slot.specs.Answers.{is_refused, is_bring_up}
use Rattle.theorem_slot.specs.Groups.{keeps}
use Rattle.theorem_slot.proofs.Disconnect.{lost_refused}
use Rattle.theorem_slot.proofs.Kept.{queue_has, kept_has}
use Rattle.theorem_slot.proofs.Moved.{marked_quarantined, claim_keeps, release_keeps, set_keeps}
use Rattle.theorem_slot.proofs.Owned.{pending_by_place}
use Rattle.theorem_slot.proofs.Record.{has_live}
use Rattle.theorem_slot.proofs.Step.{on_mild, refused_mild, mild_claim, mild_commit, commit_passed, mild_release, mild_set, mild_hub}
use Rattle.theorem_slot.proofs.Words.{taken_words}
use Rattle.theorem_calls.specs.Commands.{is_unplugging}
use Rattle.theorem_calls.specs.Quarantine.{SentOf, DoneOf, KeptRing, Doubting, InDoubt, Quarantined, DoubtQuarantined, NoneElseQuarantined}
use Rattle.theorem_calls.proofs.Stays.{small_dcis}

-- A command among logged words, by place and by the test.
sent_there : (op : ℕ) (ws : List ℕ) (k : ℕ) → k < length ws → operation_of (get_or ws k 0) ≡ op → sent_word op ws ≡ true
unfolding sent_word
sent_there op [] k h e = absurd (omega arith)
sent_there op (w ∷ ws) zero h e = or_left _ _ (eq-eqb (operation_of w) op e)
sent_there op (w ∷ ws) (suc k) h e = or_right _ _ (sent_there op ws k (omega arith) e)

sent_place : (op : ℕ) (ws : List ℕ) → sent_word op ws ≡ true → SentOf op ws
unfolding sent_word
sent_place op [] e = not_both false e refl
sent_place op (w ∷ ws) e = go (or_cases _ _ e) (sent_place op ws)
  where
    go : (eqb (operation_of w) op ≡ true) ⊎ (sent_word op ws ≡ true) → (sent_word op ws ≡ true → SentOf op ws) → SentOf op (w ∷ ws)
    go (inl t) r = record { place = 0; inside = omega arith; word = eqb-true (operation_of w) op t }
    go (inr t) r = let s = r t in record { place = suc s.place; inside = omega (arith, s.inside); word = s.word }

-- A done one.
is_done_lem : (s : Sent) → is_done s ≡ true → s ≡ Done
unfolding is_done
is_done_lem Done e = refl
is_done_lem (Failed code) e = not_both false e refl
is_done_lem Cut e = not_both false e refl

done_there : (op : ℕ) (o ws : List ℕ) (i k : ℕ) → k < length ws → operation_of (get_or ws k 0) ≡ op → outcome_at o (i + k) ≡ Done →
    done_word op o i ws ≡ true
unfolding done_word is_done
done_there op o [] i k h e d = absurd (omega arith)
done_there op o (w ∷ ws) i zero h e d =
    let z : i + 0 ≡ i = omega arith in
    or_left _ _ (and-true _ _ (eq-eqb (operation_of w) op e) (rw (rw z at d) refl))
done_there op o (w ∷ ws) i (suc k) h e d =
    let z : i + suc k ≡ i + 1 + k = omega arith in
    or_right _ _ (done_there op o ws (i + 1) k (omega arith) e (rw z at d))

record DonePlace (op : ℕ) (o : List ℕ) (i : ℕ) (ws : List ℕ) : Type 0 where
  sent : SentOf op ws
  done : outcome_at o (i + sent.place) ≡ Done

done_place : (op : ℕ) (o : List ℕ) (i : ℕ) (ws : List ℕ) → done_word op o i ws ≡ true → DonePlace op o i ws
unfolding done_word
done_place op o i [] e = not_both false e refl
done_place op o i (w ∷ ws) e = go (or_cases _ _ e) (done_place op o (i + 1) ws)
  where
    go :
        ((eqb (operation_of w) op && is_done (outcome_at o i)) ≡ true) ⊎ (done_word op o (i + 1) ws ≡ true) →
        (done_word op o (i + 1) ws ≡ true → DonePlace op o (i + 1) ws) → DonePlace op o i (w ∷ ws)
    go (inl t) r =
        let z : i + 0 ≡ i = omega arith in
        record {
          sent = record { place = 0; inside = omega arith; word = eqb-true (operation_of w) op (and_left _ _ t) };
          done = rw z (is_done_lem (outcome_at o i) (and_right _ _ t));
        }
    go (inr t) r =
        let s = r t in
        let z : i + suc s.sent.place ≡ i + 1 + s.sent.place = omega arith in
        record {
          sent = record { place = suc s.sent.place; inside = omega (arith, s.sent.inside); word = s.sent.word };
          done = rw z s.done;
        }

done_of : (op : ℕ) (o ws : List ℕ) → done_word op o 0 ws ≡ true → DoneOf op o ws
done_of op o ws e =
    let s = done_place op o 0 ws e in
    let z : 0 + s.sent.place ≡ s.sent.place = omega arith in
    record { sent = s.sent; done = rw z at s.done }

of_done : (op : ℕ) (o ws : List ℕ) → DoneOf op o ws → done_word op o 0 ws ≡ true
of_done op o ws s =
    let z : 0 + s.sent.place ≡ s.sent.place = omega arith in
    done_there op o ws 0 s.sent.place s.sent.inside s.sent.word (rw z s.done)

-- The queues of some words name an endpoint.
named_there : (d : ℕ) (ws rs : List ℕ) (k : ℕ) → k < length ws → word_dci (get_or ws k 0) ≡ d → names d (queues (word_dcis ws) rs) ≡ true
unfolding names queues word_dcis
named_there d [] rs k h e = absurd (omega arith)
named_there d (w ∷ ws) rs zero h e = or_left _ _ (eq-eqb (word_dci w) d e)
named_there d (w ∷ ws) rs (suc k) h e = or_right _ _ (named_there d ws (drop 1 rs) k (omega arith) e)

record NamedPlace (d : ℕ) (ws : List ℕ) : Type 0 where
  place : ℕ
  inside : place < length ws
  same : word_dci (get_or ws place 0) ≡ d

named_place : (d : ℕ) (ws rs : List ℕ) → names d (queues (word_dcis ws) rs) ≡ true → NamedPlace d ws
unfolding names queues word_dcis
named_place d [] rs e = not_both false e refl
named_place d (w ∷ ws) rs e = go (or_cases _ _ e) (named_place d ws (drop 1 rs))
  where
    go :
        (eqb (word_dci w) d ≡ true) ⊎ (names d (queues (word_dcis ws) (drop 1 rs)) ≡ true) →
        (names d (queues (word_dcis ws) (drop 1 rs)) ≡ true → NamedPlace d ws) → NamedPlace d (w ∷ ws)
    go (inl t) r = record { place = 0; inside = omega arith; same = eqb-true (word_dci w) d t }
    go (inr t) r = let s = r t in record { place = suc s.place; inside = omega (arith, s.inside); same = s.same }

next_ring : (rs : List ℕ) (k : ℕ) → get_or (drop 1 rs) k 0 ≡ get_or rs (suc k) 0
next_ring rs k = let z : 1 + k ≡ suc k = omega arith in get_or_after_one rs k 0 ∙ ap (λ n. get_or rs n 0) z

-- Rings that are kept.
kept_from : (x : ℕ) (ws rs : List ℕ) (k : ℕ) → k < length ws → get_or rs k 0 ≡ x →
    ((j : ℕ) → k < j → j < length ws → word_dci (get_or ws j 0) ≡ word_dci (get_or ws k 0) → ⊥) →
    keeps x (queues (word_dcis ws) rs) ≡ true
unfolding keeps queues word_dcis
kept_from x [] rs k h e last = absurd (omega arith)
kept_from x (w ∷ ws) rs zero h e last =
    or_left _ _
    (and-true _ _ (eq-eqb x (get_or rs 0 0) (sym e))
    (ap not
    (false_if (names (word_dci w) (queues (word_dcis ws) (drop 1 rs)))
    (λ t. let p = named_place (word_dci w) ws (drop 1 rs) t in absurd (last (suc p.place) (omega arith) (omega (arith, p.inside)) p.same)))))
kept_from x (w ∷ ws) rs (suc k) h e last =
    or_right _ _
    (kept_from x ws (drop 1 rs) k (omega arith) (next_ring rs k ∙ e) (λ j l m q. last (suc j) (omega arith) (omega arith) q))

kept_to : (x : ℕ) (ws rs : List ℕ) → keeps x (queues (word_dcis ws) rs) ≡ true → KeptRing ws rs x
unfolding keeps queues word_dcis
kept_to x [] rs e = not_both false e refl
kept_to x (w ∷ ws) rs e = go (or_cases _ _ e) (kept_to x ws (drop 1 rs))
  where
    first_last : names (word_dci w) (queues (word_dcis ws) (drop 1 rs)) ≡ false → (j : ℕ) → 0 < j → j < length (w ∷ ws) → word_dci (get_or (w ∷ ws) j 0) ≡ word_dci w → ⊥
    first_last n zero l h q = absurd (omega arith)
    first_last n (suc j) l h q = not_both (names (word_dci w) (queues (word_dcis ws) (drop 1 rs))) (named_there (word_dci w) ws (drop 1 rs) j (omega arith) q) n

    later_last : (r : KeptRing ws (drop 1 rs) x) (j : ℕ) → suc r.place < j → j < length (w ∷ ws) →
        word_dci (get_or (w ∷ ws) j 0) ≡ word_dci (get_or (w ∷ ws) (suc r.place) 0) → ⊥
    later_last r zero l h q = absurd (omega arith)
    later_last r (suc j) l h q = r.last j (omega arith) (omega arith) q

    go :
        ((eqb x (get_or rs 0 0) && not (names (word_dci w) (queues (word_dcis ws) (drop 1 rs)))) ≡ true) ⊎ (keeps x (queues (word_dcis ws) (drop 1 rs)) ≡ true) →
        (keeps x (queues (word_dcis ws) (drop 1 rs)) ≡ true → KeptRing ws (drop 1 rs) x) → KeptRing (w ∷ ws) rs x
    go (inl t) r =
        record {
          place = 0;
          inside = omega arith;
          drawn = sym (eqb-true x (get_or rs 0 0) (and_left _ _ t));
          last = first_last (not-true (names (word_dci w) (queues (word_dcis ws) (drop 1 rs))) (and_right _ _ t));
        }
    go (inr t) r =
        let s = r t in
        record { place = suc s.place; inside = omega (arith, s.inside); drawn = sym (next_ring rs s.place) ∙ s.drawn; last = later_last s }

module _ (b : Buffers) (d : Device) (routes : List ℕ) where
  -- What the statements say of what a call leaves.
  record Tells (asked : Asked) (l : Left) : Type 0 where
    all : is_lost l.answer ≡ true → Doubting asked b.outcomes (take l.count l.log) → Quarantined l.device (InDoubt asked d)
    none : (is_lost l.answer ≡ true → Doubting asked b.outcomes (take l.count l.log) → ⊥) → quarantined_of l.device ≡ quarantined_of d

  refuses : (asked : Asked) (a : Answer) → is_refused a ≡ true → Tells asked (refused d a b.ctx routes b.log)
  unfolding refused
  refuses asked a r = record { all = λ t s. not_both (is_lost a) t (refused_mild a r).1; none = λ n. refl }

  -- A claim whose checks have passed.
  module _ (i a : ℕ) (f : i < 256) (g : a < 256)
      (k : record_check d (length b.ctx) (length routes) (length b.log) (claim_check d i a Pass) ≡ Pass) where
    abbrev rings : List ℕ
    rings = drawn d i a

    abbrev ws : List ℕ
    ws = setting_words (list_of d) i a

    pass : Passed d (length b.ctx) (length routes) (length b.log)
    pass = (passed d _ _ _ _ k).0

    tests : ClaimPassed d i a
    tests = claim_passed d i a pass.is_sound (passed d _ _ _ _ k).1

    course : Course End
    course = claim_course (claim_in d i a (drawn d i a)) b.ctx routes

    end : End
    end = result b.outcomes 0 course

    bytes : EachCommand ByteOperands course
    unfolding course claim_in
    bytes =
        let own = owned_rings (Interface i) (endpoint_map_in d) in
        claim_operands (claim_in d i a (drawn d i a)) b.ctx routes f g
        (rw (undone_to i (held_of d)) (alternate_byte (list_of d) (held_of d) pass.facts.settings i))
        (λ j. small_dcis (queues_of own) j (queues_small own))

    marked : end.doubted ≡ (is_lost end.answer && sent_word CONFIGURE (words b.outcomes 0 course))
    unfolding end course
    marked = claim_doubted (claim_in d i a (drawn d i a)) routes b.outcomes b.ctx 0 bytes

    unmoved_lost : is_lost end.answer ≡ true → end.moved ≡ false
    unfolding end course number
    unmoved_lost t =
        false_if end.moved
        (λ m.
        let e = (claim_moved (claim_in d i a (drawn d i a)) b.ctx routes b.outcomes 0).by_answer.0 m in
        not_both (is_lost end.answer) t (rw e refl))

    few : length (words b.outcomes 0 course) ≤ length b.log
    unfolding course claim_in
    few =
        omega (arith, claim_words (claim_in d i a (drawn d i a)) b.ctx routes b.outcomes 0 (queues_fit (owned_rings (Interface i) (endpoint_map_in d))), pass.room)

    kept_rings : (x : ℕ) → elem x (queue_rings (queues_of (pending_of d i a (drawn d i a)))) ≡ keeps x (queues (word_dcis ws) (drawn d i a))
    unfolding pending_of
    kept_rings x =
        let o = tests.offer in
        queue_has (pending_rings ws (drawn d i a)) x (pending_length ws (drawn d i a))
        ∙ sym
        (kept_has (queues (word_dcis ws) (drawn d i a)) (pending_rings ws (drawn d i a))
        (pending_by_place (list_of d) pass.facts.list i a (drawn d i a)
        (λ p h. pending_place ws (drawn d i a) p h (λ q l. ring_nonzero (get_or (drawn d i a) q 0) (ring_at (drawn d i a) o.ok q (rw o.counted l))))) x)

    doubted : is_lost end.answer ≡ true → SentOf CONFIGURE (words b.outcomes 0 course) →
        Quarantined (claim_record d i a (drawn d i a) end) (KeptRing ws (drawn d i a))
    doubted t s =
        let sent = sent_there CONFIGURE (words b.outcomes 0 course) s.place s.inside s.word in
        let q = claim_quarantined d _ _ _ i a k end (unmoved_lost t) (rw (marked, t, sent) refl) in
        record {
          all = λ x r. rw q (kept_rings x ∙ kept_from x ws (drawn d i a) r.place r.inside r.drawn r.last);
          only = λ x e. kept_to x ws (drawn d i a) (sym (kept_rings x) ∙ (rw q at e));
        }

    undoubted : (is_lost end.answer ≡ true → SentOf CONFIGURE (words b.outcomes 0 course) → ⊥) →
        quarantined_of (claim_record d i a (drawn d i a) end) ≡ quarantined_of d
    undoubted n =
        claim_keeps d i a (drawn d i a) end
        (λ m.
        false_if (end.doubted && is_lost end.answer)
        (λ t.
        let lost = and_right end.doubted (is_lost end.answer) t in
        let sent = and_right (is_lost end.answer) (sent_word CONFIGURE (words b.outcomes 0 course)) (sym marked ∙ and_left end.doubted (is_lost end.answer) t) in
        absurd (n lost (sent_place CONFIGURE (words b.outcomes 0 course) sent))))

  claim_tells :
      (i a : ℕ) → i < 256 → a < 256 → record_check d (length b.ctx) (length routes) (length b.log) (claim_check d i a Pass) ≡ Pass →
      let run = claim_run d b.ctx routes b.log b.outcomes i a (drawn d i a) in
      (is_lost run.answer ≡ true → SentOf CONFIGURE (take run.count run.log) → Quarantined run.device (KeptRing (setting_words (list_of d) i a) (drawn d i a)))
      × ((is_lost run.answer ≡ true → SentOf CONFIGURE (take run.count run.log) → ⊥) → quarantined_of run.device ≡ quarantined_of d)
  unfolding ended played course end
  claim_tells i a f g k =
      rw (taken_words b.outcomes (claim_course (claim_in d i a (drawn d i a)) b.ctx routes) b.log (few i a f g k))
      (doubted i a f g k, undoubted i a f g k)

  -- A set configuration whose checks have passed.
  module _ (value : ℕ) (f : value < 256) (k : record_check d (length b.ctx) (length routes) (length b.log) Pass ≡ Pass) where
    set_pass : Passed d (length b.ctx) (length routes) (length b.log)
    set_pass = (passed d _ _ _ _ k).0

    abbrev work : Settings
    work = settings_in d value

    set_run_course : Course End
    set_run_course = set_course (settings_in d value) b.ctx routes

    set_end : End
    set_end = result b.outcomes 0 set_run_course

    by_place : List ℕ
    by_place = (endpoint_map_in d).rings

    switched : done_word SET-CONFIGURATION b.outcomes 0 (words b.outcomes 0 set_run_course) ≡ done_in SET-CONFIGURATION b.outcomes 0 set_run_course
    unfolding set_run_course settings_in
    switched =
        set_switched (settings_in d value) routes b.outcomes b.ctx 0 f
        (λ j. small_dcis (queues_of (endpoint_map_in d).rings) j (queues_small (endpoint_map_in d).rings))

    lost_moved : (s : Bool) (e : End) → SetEnd (settings_in d value) routes s e → s ≡ true → is_lost e.answer ≡ true → e.moved ≡ true
    unfolding number
    lost_moved false _ (failed code active ctx) s t = not_both false s refl
    lost_moved false _ (broken active ctx) s t = not_both false s refl
    lost_moved false _ (cut active ctx) s t = not_both false s refl
    lost_moved true _ (invalid ctx n) s t = not_both false t refl
    lost_moved true _ (accepted ctx p) s t = refl
    lost_moved true _ (broken_late ctx p) s t = refl
    lost_moved true _ (cut_late ctx p) s t = refl

    set_few : length (words b.outcomes 0 set_run_course) ≤ length b.log
    unfolding set_run_course settings_in
    set_few = omega (arith, set_words (settings_in d value) routes b.outcomes b.ctx 0, queues_fit (endpoint_map_in d).rings, set_pass.room)

    set_doubted : is_lost set_end.answer ≡ true → DoneOf SET-CONFIGURATION b.outcomes (words b.outcomes 0 set_run_course) →
        Quarantined (set_record d value set_end) (λ x. elem x (rings_of (take d.ep_count d.eps)) ≡ true)
    unfolding set_end set_run_course
    set_doubted t s =
        let moved = lost_moved _ _ (set_ends (settings_in d value) routes b.outcomes b.ctx 0)
        (sym switched ∙ of_done SET-CONFIGURATION b.outcomes (words b.outcomes 0 set_run_course) s) t in
        let q = set_quarantined d _ _ _ value k set_end moved (lost_refused set_end.answer t) t in
        let same : (x : ℕ) → elem x (queue_rings (queues_of (endpoint_map_in d).rings)) ≡ elem x (rings_of (take d.ep_count d.eps)) =
        λ x. queue_has (endpoint_map_in d).rings x (sound_clean d set_pass.is_sound).whole.rings ∙ has_live d set_pass.is_sound x in
        record { all = λ x r. rw q (same x ∙ r); only = λ x e. sym (same x) ∙ (rw q at e) }

    set_undoubted : (is_lost set_end.answer ≡ true → DoneOf SET-CONFIGURATION b.outcomes (words b.outcomes 0 set_run_course) → ⊥) →
        quarantined_of (set_record d value set_end) ≡ quarantined_of d
    unfolding set_end set_run_course
    set_undoubted n =
        set_keeps d value set_end
        (λ m.
        false_if (is_lost set_end.answer)
        (λ t.
        absurd
        (n t
        (done_of SET-CONFIGURATION b.outcomes (words b.outcomes 0 set_run_course)
        (switched ∙ ((set_moved (settings_in d value) routes b.outcomes b.ctx 0).gone m).0)))))

  set_tells :
      (value : ℕ) → value < 256 → record_check d (length b.ctx) (length routes) (length b.log) Pass ≡ Pass →
      let run = set_run d b.ctx routes b.log b.outcomes value in
      (is_lost run.answer ≡ true → DoneOf SET-CONFIGURATION b.outcomes (take run.count run.log) →
      Quarantined run.device (λ x. elem x (rings_of (take d.ep_count d.eps)) ≡ true))
      × ((is_lost run.answer ≡ true → DoneOf SET-CONFIGURATION b.outcomes (take run.count run.log) → ⊥) →
      quarantined_of run.device ≡ quarantined_of d)
  unfolding ended played set_end set_run_course
  set_tells value f k =
      rw (taken_words b.outcomes (set_course (settings_in d value) b.ctx routes) b.log (set_few value f k))
      (set_doubted value f k, set_undoubted value f k)

  each : (a : Asked) → is_bring_up a ≡ false → is_unplugging a ≡ false → OfSlot d.slot.0 a → Tells a (left a b d routes)
  unfolding Doubting InDoubt is_bring_up is_unplugging OfSlot left claim commit release set_configuration hub_update ended hub_left
  each (brings_up a) n m s = not_both true refl n
  each (claims i a) n m s =
      on_mild (Tells (claims i a)) (record_check d (length b.ctx) (length routes) (length b.log) (claim_check d i a Pass))
      (claim_run d b.ctx routes b.log b.outcomes i a (drawn d i a)) (λ x. refused d x b.ctx routes b.log) (mild_claim d _ _ _ i a)
      (λ k. let t = claim_tells i a s.0 s.1 k in record { all = t.0; none = t.1 }) (refuses (claims i a))
  each (commits p) n m s =
      let i = p.interface in
      let a = p.alternate in
      on_mild (Tells (commits p)) (ask_check d (length b.ctx) (length routes) (length b.log) i a (current_check d p))
      (claim_run d b.ctx routes b.log b.outcomes i a (drawn d i a)) (λ x. refused d x b.ctx routes b.log) (mild_commit d _ _ _ p)
      (λ k. let t = claim_tells i a s.0 s.1 (commit_passed d _ _ _ p k) in record { all = t.0; none = t.1 }) (refuses (commits p))
  each (releases i) n m s =
      on_mild (Tells (releases i)) (record_check d (length b.ctx) (length routes) (length b.log) (release_check d i))
      (release_run d b.ctx routes b.log b.outcomes i) (λ x. refused d x b.ctx routes b.log) (mild_release d _ _ _ i)
      (λ k. record { all = λ t q. absurd q; none = λ q. release_keeps d i _ }) (refuses (releases i))
  each (configures value) n m s =
      on_mild (Tells (configures value)) (record_check d (length b.ctx) (length routes) (length b.log) Pass)
      (set_run d b.ctx routes b.log b.outcomes value) (λ x. refused d x b.ctx routes b.log) (mild_set d _ _ _)
      (λ k. let t = set_tells value s k in record { all = t.0; none = t.1 }) (refuses (configures value))
  each (updates_hub ports multi ns) n m s =
      on_mild (Tells (updates_hub ports multi ns)) _ _ _ (mild_hub d _ _ _ ns)
      (λ k. record { all = λ t q. absurd q; none = λ q. marked_quarantined _ d }) (refuses (updates_hub ports multi ns))
  each disconnects n m s = not_both true refl m

-- No unplugging is such a call.
not_unplugging : (a : Asked) (o ws : List ℕ) → Doubting a o ws → is_unplugging a ≡ false
unfolding Doubting is_unplugging
not_unplugging (brings_up a) o ws q = refl
not_unplugging (claims i a) o ws q = refl
not_unplugging (commits p) o ws q = refl
not_unplugging (releases i) o ws q = refl
not_unplugging (configures value) o ws q = refl
not_unplugging (updates_hub ports multi ns) o ws q = refl
not_unplugging disconnects o ws q = absurd q

pub doubt_quarantined : DoubtQuarantined
doubt_quarantined c d routes n s t q = (each c.buffers d routes c.asked n (not_unplugging c.asked _ _ q) s).all t q

pub none_else_quarantined : NoneElseQuarantined
none_else_quarantined c d routes n m s = (each c.buffers d routes c.asked n m s).none
