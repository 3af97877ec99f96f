-- Which endpoints of the returned record are active.
use Prim.Native.Nat.{ℕ, zero, suc, ◌+◌, ◌<◌, ◌≤◌}
use mathlib.Core.Path.{◌≡◌, refl, sym, ◌∙◌, ap}
use mathlib.Core.Bool.{Bool, true, false, not, cond, ◌&&◌, ◌||◌}
use mathlib.Core.List.{List, []}
use mathlib.Core.Logic.{◌⊎◌, inl, inr}
use native.Mathlib.Omega.{arith}
use borrow.Author.Tests.{eq-eqb, ne_eqb}
use lib.Dec.{eqb, ltb}
use lib.ListN.{length, take, get_or, replicate, get_or-replicate}
use Rattle.laws.proofs.Cases.{Decided, decided}
use Rattle.laws.proofs.Tests.{not_both}
use Rattle.answer.specs.declared.Answer.{Answer}
use Rattle.answer.specs.declared.Answer.TheVariants as answer
use Rattle.answer.specs.Answer.{number, is_accepted}
use Rattle.answer.specs.Check.{Pass}
use Rattle.command.specs.Course.{Course, words, result, played}
use Rattle.command.proofs.Operations.{ByteOperands, EachCommand}
use Rattle.record_endpoint.specs.declared.endpoint_map.EndpointMap.{EndpointMap}
use Rattle.record_endpoint.specs.declared.endpoint_map.Owner.{Owner}
use Rattle.record_endpoint.specs.declared.endpoint_map.Owner.TheVariants.{Any, Interface}
use Rattle.record_endpoint.specs.Order.{PLACES}
use Rattle.record_endpoint.specs.EndpointMap.{endpoint_map_from, endpoint_map_of, no_endpoints, owns, is_owned, owned_rings, queues_of, queue_dcis, claimed_or, claimed_ring, claimed_owner, claimed_active, claimed_endpoints, with_active}
use Rattle.record_endpoint.proofs.Laws as endpoint-laws
use Rattle.record_endpoint.proofs.Laws.{count_owned, queues_fit, queues_small}
use Rattle.theorem_controller.specs.Controller.{controlled}
use Rattle.course_steps.specs.End.{End}
use Rattle.course_claim.specs.Claim.{claim_course}
use Rattle.course_claim.proofs.Laws.{Refused, claim_answers, Moved, claim_moved, claim_words, claim_cuts}
use Rattle.course_claim.proofs.Controlled.{claim_operands}
use Rattle.course_release.specs.Release.{release_course}
use Rattle.course_release.proofs.Laws.{Says, release_says, release_words, release_cuts}
use Rattle.course_release.proofs.Controlled.{release_operands}
use Rattle.course_set_configuration.specs.SetConfiguration.{set_course}
use Rattle.course_set_configuration.proofs.Laws.{set_words, set_cuts, set_operands}
use Rattle.course_disconnect.proofs.Ends.{Ended, disconnect_ends}
use Rattle.device.specs.declared.record.Device.{Device}
use Rattle.device.specs.Device.{endpoint_map_in, list_of, held_of, no_device}
use Rattle.device.specs.Left.{Left, refused, ended}
use Rattle.device.specs.Calls.{hub_left, hub_update}
use Rattle.device.specs.Check.{record_check, disconnect_check}
use Rattle.device.specs.Claim.{claim_check, drawn, claim_in, claim_record, claim_run, claim}
use Rattle.device.specs.Ask.{ask_check, current_check, commit}
use Rattle.device.specs.Release.{release_check, release_in, release_record, release_run, release}
use Rattle.device.specs.SetConfiguration.{settings_in, set_record, set_run, set_configuration}
use Rattle.device.specs.Disconnect.{disconnect_record, disconnect_run, disconnect}
use Rattle.device.proofs.ClaimLaws.{undone_to}
use Rattle.device.proofs.Fit.{alternate_byte}
use Rattle.device.proofs.Laws.{passed}
use Rattle.device.proofs.Made.{marked_made}
use Rattle.device.proofs.Kept.{claim_moves, claim_stays, release_moves, release_stays, set_moves, set_stays}
use Rattle.device.proofs.Disconnected.{disconnect_moves, disconnect_stays}
use Rattle.context.specs.Place.{spacing_of}
use Rattle.device_bring_up.specs.BringUp.{bring_up_check, bring_up_course, brought_record, brought_left, bring_up}
use Rattle.theorem_slot.specs.Call.{Buffers, Asked, brings_up, claims, commits, releases, configures, updates_hub, disconnects, left, OfSlot}
use Rattle.theorem_slot.specs.Answers.{is_refused}
use Rattle.theorem_slot.proofs.Ends.{unplugging_stayed}
use Rattle.theorem_slot.proofs.Step.{on_mild, mild_claim, mild_commit, commit_passed, mild_release, mild_set, mild_hub, mild_disconnect, mild_bring_up}
use Rattle.theorem_slot.proofs.Words.{taken_words}
use Rattle.theorem_calls.specs.Handles.{Tally, tally, tallied, owned_among, Handled, all_active, HandlesOf, HandlesLeft}
use Rattle.theorem_calls.proofs.Stays.{small_dcis, accepted_number}
use Rattle.theorem_calls.proofs.Tallied.{counted, back, Back, claim_back, release_back, Resumes, set_counts, tally_told}

-- Handles do not change which endpoints are whose.
among_active : (who : Owner) (c : EndpointMap) (n k a : ℕ) → owned_among who (with_active who n c) k a ≡ count_owned who c k a
unfolding owned_among count_owned with_active is_owned
among_active who c n zero a = refl
among_active who c n (suc k) a = rw (among_active who c n k (a + 1))

module _ (who : Owner) (all : Bool) (m n : ℕ) (d e : Device) (same : endpoint_map_in e ≡ with_active who m (endpoint_map_in d))
    (many : all ≡ true → length (queues_of (owned_rings who (endpoint_map_in d))) ≤ m) (some : all ≡ false → m ≡ n) where
  abbrev c : EndpointMap
  c = endpoint_map_in d

  owned_same : (p : ℕ) (w : Owner) (b : Bool) → is_owned w (endpoint_map_in e) p ≡ b → is_owned w c p ≡ b
  unfolding with_active is_owned
  owned_same p w b o = rw same at o

  own_active : (p : ℕ) → p < PLACES → is_owned who c p ≡ true → get_or (with_active who m c).active p false ≡ (all || ltb (count_owned who c p 0) n)
  own_active p h o = go all refl
    where
      go : (b : Bool) → all ≡ b → get_or (with_active who m c).active p false ≡ (b || ltb (count_owned who c p 0) n)
      go true t = endpoint-laws.active_all who c p h m (many t) o
      go false t = endpoint-laws.active_at who c p h m ∙ rw (o, some t) refl

  pub handled_active : Handled who all n d e
  handled_active =
      record {
        own = λ p h o.
            rw same (own_active p h (owned_same p who true o) ∙ ap (λ x. all || ltb x n) (sym (among_active who c m p 0)));
        other = λ p h a o. rw same (endpoint-laws.active_other who c p h m (owned_same p who false o));
      }

-- After a claim, and with nothing pending after a release, the interface's endpoints are the new ones.
new_active :
    (x r w i : ℕ) (b was : Bool) → (not (eqb r 0) && eqb w i) ≡ b →
    (not (eqb (claimed_or x b x 0 r) 0) && eqb (claimed_or x b i 0 w) i) ≡ true → claimed_or x b true false was ≡ true
new_active x r w i b was e o = go (decided (eqb x 0)) b e o
  where
    go :
        Decided (eqb x 0) → (b : Bool) → (not (eqb r 0) && eqb w i) ≡ b →
        (not (eqb (claimed_or x b x 0 r) 0) && eqb (claimed_or x b i 0 w) i) ≡ true → claimed_or x b true false was ≡ true
    go (inl z) true e o = not_both false (rw z at o) refl
    go (inl z) false e o = not_both (not (eqb r 0) && eqb w i) (rw z at o) e
    go (inr z) b e o = rw z refl

old_active :
    (x r w i : ℕ) (b was : Bool) → (not (eqb r 0) && eqb w i) ≡ b → (not (eqb (claimed_or x b x 0 r) 0) && true) ≡ true →
    (not (eqb (claimed_or x b x 0 r) 0) && eqb (claimed_or x b i 0 w) i) ≡ false → claimed_or x b true false was ≡ was
old_active x r w i b was e a o = go (decided (eqb x 0)) b a o
  where
    go :
        Decided (eqb x 0) → (b : Bool) → (not (eqb (claimed_or x b x 0 r) 0) && true) ≡ true →
        (not (eqb (claimed_or x b x 0 r) 0) && eqb (claimed_or x b i 0 w) i) ≡ false → claimed_or x b true false was ≡ was
    go (inl z) true a o = not_both false (rw z at a) refl
    go (inl z) false a o = rw z refl
    go (inr z) b a o = not_both true refl (rw (z, z, eq-eqb i i refl) at o)

module _ (i : ℕ) (pending : List ℕ) (n : ℕ) (d e : Device) (same : endpoint_map_in e ≡ claimed_endpoints i pending (endpoint_map_in d)) where
  abbrev m : EndpointMap
  m = endpoint_map_in d

  module _ (p : ℕ) (h : p < PLACES) where
    abbrev x : ℕ
    x = get_or pending p 0

    abbrev was : Bool
    was = is_owned (Interface i) m p

    owned_now : (w : Owner) (b : Bool) → is_owned w (endpoint_map_in e) p ≡ b →
        (not (eqb (claimed_ring i pending m p) 0) && owns w (claimed_owner i pending m p)) ≡ b
    unfolding is_owned
    owned_now w b o = rw (same, endpoint-laws.claimed_ring_lem i pending m p h, endpoint-laws.claimed_owner_lem i pending m p h) at o

    active_now : get_or (endpoint_map_in e).active p false ≡ claimed_active i pending m p
    active_now = rw same (endpoint-laws.claimed_active_lem i pending m p h)

    own_new : is_owned (Interface i) (endpoint_map_in e) p ≡ true → get_or (endpoint_map_in e).active p false ≡ true
    unfolding claimed_active claimed_ring claimed_owner is_owned owns
    own_new o =
        active_now
        ∙ new_active x (get_or m.rings p 0) (get_or m.owners p 0) i was (get_or m.active p false) refl (owned_now (Interface i) true o)

    other_was : is_owned Any (endpoint_map_in e) p ≡ true → is_owned (Interface i) (endpoint_map_in e) p ≡ false →
        get_or (endpoint_map_in e).active p false ≡ get_or m.active p false
    unfolding claimed_active claimed_ring claimed_owner is_owned owns
    other_was a o =
        active_now
        ∙ old_active x (get_or m.rings p 0) (get_or m.owners p 0) i was (get_or m.active p false) refl (owned_now Any true a)
        (owned_now (Interface i) false o)

  pub handled_claimed : Handled (Interface i) true n d e
  handled_claimed = record { own = λ p h o. own_new p h o; other = λ p h a o. other_was p h a o }

-- Where there is no endpoint, nothing is to be said.
handled_none : (n : ℕ) (d e : Device) → endpoint_map_in e ≡ no_endpoints → Handled Any false n d e
unfolding is_owned no_endpoints owns
handled_none n d e same =
    record { own = λ p h o. none p h (rw same at o); other = λ p h a o. none p h (rw same at a) }
  where
    none : {P : Type 0} (p : ℕ) → p < PLACES → (not (eqb (get_or (replicate PLACES 0) p 0) 0) && true) ≡ true → P
    none p h o = let z : ◌≡◌ {A = ℕ} (get_or (replicate PLACES 0) p 0) 0 = get_or-replicate 30 p 0 0 h in not_both false (rw z at o) refl

-- An answer that is not accepted.
all_back : (x : Answer) (t : Tally) → is_accepted x ≡ false → all_active x t ≡ back x t
unfolding all_active back
all_back x t n = rw n refl

refused_number : (x : Answer) → Refused x → is_accepted x ≡ false
unfolding number
refused_number x (inl (code, q)) = rw q refl
refused_number x (inr (inl q)) = rw q refl
refused_number x (inr (inr q)) = rw q refl

late_number : (x : Answer) → 13 ≤ number x → is_accepted x ≡ false
late_number x h = ne_eqb (number x) 0 (λ z. omega (arith, z, h))

module _ (b : Buffers) (d : Device) (routes : List ℕ) where
  abbrev o : List ℕ
  o = b.outcomes

  abbrev logged : Course End → Tally
  logged course = controlled tally (λ i. []) o 0 (words o 0 course) (counted 0 false false)

  -- Old endpoints of an interface, all or those resumed.
  module _ (i : ℕ) (e : End) (t : Tally) (r : Device) where
    abbrev old : ℕ
    old = length (queues_of (owned_rings (Interface i) (endpoint_map_in d)))

    handled_old :
        is_accepted e.answer ≡ false → e.active ≡ cond (back e.answer t) old t.resumes →
        endpoint_map_in r ≡ with_active (Interface i) e.active (endpoint_map_in d) →
        Handled (Interface i) (all_active e.answer t) t.resumes d r
    handled_old n q same =
        let a : all_active e.answer t ≡ back e.answer t = all_back e.answer t n in
        handled_active (Interface i) (all_active e.answer t) e.active t.resumes d r same
        (λ y. let z : e.active ≡ old = q ∙ ap (λ x. cond x old t.resumes) (sym a ∙ y) in omega (arith, z))
        (λ y. q ∙ ap (λ x. cond x old t.resumes) (sym a ∙ y))

    handled_new :
        is_accepted e.answer ≡ true → (pending : List ℕ) → endpoint_map_in r ≡ claimed_endpoints i pending (endpoint_map_in d) →
        Handled (Interface i) (all_active e.answer t) t.resumes d r
    unfolding all_active
    handled_new y pending same = rw y (handled_claimed i pending t.resumes d r same)

  claim_handles :
      (i a : ℕ) → record_check d (length b.ctx) (length routes) (length b.log) (claim_check d i a Pass) ≡ Pass → (e : End) (t : Tally) →
      (e.answer ≡ answer.Accepted) ⊎ Refused e.answer → Moved (claim_in d i a (drawn d i a)) routes e →
      Back (length (claim_in d i a (drawn d i a)).old) e t →
      Handled (Interface i) (all_active e.answer t) t.resumes d (claim_record d i a (drawn d i a) e)
  unfolding claim_in
  claim_handles i a k e t x m q = go (decided e.moved)
    where
      refused_end : (e.answer ≡ answer.Accepted) ⊎ Refused e.answer → e.moved ≡ false → is_accepted e.answer ≡ false
      refused_end (inl y) f = not_both e.moved (m.by_answer.1 y) f
      refused_end (inr y) f = refused_number e.answer y

      go : Decided e.moved → Handled (Interface i) (all_active e.answer t) t.resumes d (claim_record d i a (drawn d i a) e)
      go (inl y) =
          handled_new i e t _ (accepted_number e.answer (m.by_answer.0 y)) _ (claim_moves d _ _ _ i a k e y).endpoints
      go (inr f) = handled_old i e t _ (refused_end x f) (q f) (claim_stays d _ _ _ i a k e f).endpoints

  release_handles :
      (i : ℕ) → record_check d (length b.ctx) (length routes) (length b.log) (release_check d i) ≡ Pass → (e : End) (t : Tally) →
      Says (release_in d i) routes e → Back (length (release_in d i).old) e t →
      Handled (Interface i) (all_active e.answer t) t.resumes d (release_record d i e)
  unfolding release_in
  release_handles i k e t (inl g) q =
      handled_new i e t _ (accepted_number e.answer g.accepted) _ (release_moves d _ _ _ i k e g.moved).endpoints
  release_handles i k e t (inr s) q =
      handled_old i e t _ (late_number e.answer s.refused) (q s.kept) (release_stays d _ _ _ i k e s.kept).endpoints

  set_handles :
      (value : ℕ) → record_check d (length b.ctx) (length routes) (length b.log) Pass ≡ Pass → (e : End) (t : Tally) → Resumes e t →
      Handled Any false t.resumes d (set_record d value e)
  set_handles value k e t q = go (decided e.moved)
    where
      go : Decided e.moved → Handled Any false t.resumes d (set_record d value e)
      go (inl y) = handled_none t.resumes d _ (set_moves d _ _ _ value k e y).endpoints
      go (inr f) =
          handled_active Any false e.active t.resumes d _ (set_stays d _ _ _ value k e f).endpoints (λ y. not_both false y refl) (λ y. q f)

  disconnect_handles :
      disconnect_check d (length b.ctx) (length routes) (length b.log) ≡ Pass → (e : End) → Ended d.slot.0 b.ctx routes e →
      Handled Any false 0 d (disconnect_record d e)
  disconnect_handles k e (inl v) = handled_none 0 d _ (disconnect_moves d _ _ _ k e (ap (λ (x : End). x.moved) v)).endpoints
  disconnect_handles k e (inr v) =
      let s = unplugging_stayed b.ctx routes e v in
      handled_active Any false 0 0 d _ (disconnect_stays d _ _ _ k e s.kept s.lost).endpoints (λ y. not_both false y refl) (λ y. refl)

module _ (b : Buffers) (d : Device) (routes : List ℕ) where
  HandledBy : Asked → Left → Type 0
  HandledBy asked l = is_refused l.answer ≡ false → HandlesOf asked (tallied b.outcomes l) d l

  refuses : (asked : Asked) (e : Device) (a : Answer) → is_refused a ≡ true → HandledBy asked (refused e a b.ctx routes b.log)
  unfolding HandledBy refused
  refuses asked e a r n = not_both (is_refused a) r n

  -- The tally of the log is that of the course's words.
  log_tally : (course : Course End) → length (words b.outcomes 0 course) ≤ length b.log →
      controlled tally (λ i. []) b.outcomes 0 (take (played b.outcomes 0 course b.log).count (played b.outcomes 0 course b.log).log) (counted 0 false false)
      ≡ logged b d routes course
  log_tally course h = ap (λ ws. controlled tally (λ i. []) b.outcomes 0 ws (counted 0 false false)) (taken_words b.outcomes course b.log h)

  claim_bytes :
      (i a : ℕ) → i < 256 → a < 256 → record_check d (length b.ctx) (length routes) (length b.log) (claim_check d i a Pass) ≡ Pass →
      EachCommand ByteOperands (claim_course (claim_in d i a (drawn d i a)) b.ctx routes)
  unfolding claim_in
  claim_bytes i a f g k =
      let rings = owned_rings (Interface i) (endpoint_map_in d) in
      let p = (passed d _ _ _ _ k).0 in
      claim_operands (claim_in d i a (drawn d i a)) b.ctx routes f g
      (rw (undone_to i (held_of d)) (alternate_byte (list_of d) (held_of d) p.facts.settings i))
      (λ j. small_dcis (queues_of rings) j (queues_small rings))

  claim_tally :
      (i a : ℕ) → i < 256 → a < 256 → record_check d (length b.ctx) (length routes) (length b.log) (claim_check d i a Pass) ≡ Pass →
      let run = claim_run d b.ctx routes b.log b.outcomes i a (drawn d i a) in
      Handled (Interface i) (all_active run.answer (tallied b.outcomes run)) (tallied b.outcomes run).resumes d run.device
  unfolding ended tallied claim_in played
  claim_tally i a f g k =
      let z = claim_in d i a (drawn d i a) in
      let rings = owned_rings (Interface i) (endpoint_map_in d) in
      let room = (passed d _ _ _ _ k).0.room in
      let course = claim_course z b.ctx routes in
      rw (log_tally course (omega (arith, claim_words z b.ctx routes b.outcomes 0 (queues_fit rings), room)))
      (claim_handles b d routes i a k (result b.outcomes 0 course) _ (claim_answers z b.ctx routes b.outcomes 0)
      (claim_moved z b.ctx routes b.outcomes 0)
      (tally_told (Back (length z.old)) b.outcomes course (claim_back z routes b.ctx) (claim_cuts z b.ctx routes) (claim_bytes i a f g k)))

  release_tally :
      (i : ℕ) → record_check d (length b.ctx) (length routes) (length b.log) (release_check d i) ≡ Pass →
      let run = release_run d b.ctx routes b.log b.outcomes i in
      Handled (Interface i) (all_active run.answer (tallied b.outcomes run)) (tallied b.outcomes run).resumes d run.device
  unfolding ended tallied release_in played
  release_tally i k =
      let z = release_in d i in
      let rings = owned_rings (Interface i) (endpoint_map_in d) in
      let room = (passed d _ _ _ _ k).0.room in
      let course = release_course z b.ctx routes in
      rw (log_tally course (omega (arith, release_words z routes b.outcomes b.ctx 0 (queues_fit rings), room)))
      (release_handles b d routes i k (result b.outcomes 0 course) _ (release_says z routes b.outcomes b.ctx 0)
      (tally_told (Back (length z.old)) b.outcomes course (release_back z routes b.ctx) (release_cuts z b.ctx routes)
      (release_operands z b.ctx routes (λ j. small_dcis (queues_of rings) j (queues_small rings)))))

  set_tally :
      (value : ℕ) → value < 256 → record_check d (length b.ctx) (length routes) (length b.log) Pass ≡ Pass →
      let run = set_run d b.ctx routes b.log b.outcomes value in Handled Any false (tallied b.outcomes run).resumes d run.device
  unfolding ended tallied settings_in played
  set_tally value h k =
      let z = settings_in d value in
      let rings = (endpoint_map_in d).rings in
      let room = (passed d _ _ _ _ k).0.room in
      let course = set_course z b.ctx routes in
      rw (log_tally course (omega (arith, set_words z routes b.outcomes b.ctx 0, queues_fit rings, room)))
      (set_handles b d routes value k (result b.outcomes 0 course) (logged b d routes course)
      (tally_told Resumes b.outcomes course (set_counts z b.ctx routes) (set_cuts z b.ctx routes)
      (set_operands z b.ctx routes h (λ j. small_dcis (queues_of rings) j (queues_small rings)))))

  each : (a : Asked) → OfSlot d.slot.0 a → HandledBy a (left a b d routes)
  unfolding HandledBy HandlesOf OfSlot left claim commit release set_configuration hub_update disconnect ended hub_left played bring_up brought_left brought_record no_device endpoint_map_in endpoint_map_of endpoint_map_from
  each (brings_up a) s =
      on_mild (HandledBy (brings_up a)) (bring_up_check a (length b.ctx) routes (length b.log))
      (brought_left a (spacing_of (length b.ctx)) (played b.outcomes 0 (bring_up_course a (spacing_of (length b.ctx)) b.ctx routes) b.log))
      (λ x. refused no_device x b.ctx routes b.log) (mild_bring_up a (length b.ctx) routes (length b.log)) (λ k n. refl) (refuses (brings_up a) no_device)
  each (claims i a) s =
      on_mild (HandledBy (claims i a)) (record_check d (length b.ctx) (length routes) (length b.log) (claim_check d i a Pass))
      (claim_run d b.ctx routes b.log b.outcomes i a (drawn d i a)) (λ x. refused d x b.ctx routes b.log) (mild_claim d _ _ _ i a)
      (λ k n. claim_tally i a s.0 s.1 k) (refuses (claims i a) d)
  each (commits p) s =
      let i = p.interface in
      let a = p.alternate in
      on_mild (HandledBy (commits p)) (ask_check d (length b.ctx) (length routes) (length b.log) i a (current_check d p))
      (claim_run d b.ctx routes b.log b.outcomes i a (drawn d i a)) (λ x. refused d x b.ctx routes b.log) (mild_commit d _ _ _ p)
      (λ k n. claim_tally i a s.0 s.1 (commit_passed d _ _ _ p k)) (refuses (commits p) d)
  each (releases i) s =
      on_mild (HandledBy (releases i)) (record_check d (length b.ctx) (length routes) (length b.log) (release_check d i))
      (release_run d b.ctx routes b.log b.outcomes i) (λ x. refused d x b.ctx routes b.log) (mild_release d _ _ _ i)
      (λ k n. release_tally i k) (refuses (releases i) d)
  each (configures value) s =
      on_mild (HandledBy (configures value)) (record_check d (length b.ctx) (length routes) (length b.log) Pass)
      (set_run d b.ctx routes b.log b.outcomes value) (λ x. refused d x b.ctx routes b.log) (mild_set d _ _ _)
      (λ k n. set_tally value s k) (refuses (configures value) d)
  each (updates_hub ports multi ns) s =
      on_mild (HandledBy (updates_hub ports multi ns)) _ _ _ (mild_hub d _ _ _ ns)
      (λ k n. let p = (passed d _ _ _ _ k).0 in (marked_made d p.usable p.is_sound _).endpoints) (refuses (updates_hub ports multi ns) d)
  each disconnects s =
      let dcis = queue_dcis (queues_of (endpoint_map_in d).rings) in
      on_mild (HandledBy disconnects) (disconnect_check d (length b.ctx) (length routes) (length b.log))
      (disconnect_run d b.ctx routes b.log b.outcomes) (λ x. refused d x b.ctx routes b.log) (mild_disconnect d _ _ _)
      (λ k n. disconnect_handles b d routes k _ (disconnect_ends d.slot.0 dcis b.ctx routes b.outcomes 0)) (refuses disconnects d)

pub handles_left : HandlesLeft
unfolding HandledBy
handles_left c d routes s n = each c.buffers d routes c.asked s n
