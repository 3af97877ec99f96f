-- What a call's answer says of its count, its outcomes and all that it leaves.
use Prim.Native.Nat.{ℕ, ◌+◌, ◌≤◌, ◌<◌}
use mathlib.Core.Path.{◌≡◌, refl, sym, ◌∙◌, ap}
use mathlib.Core.Bool.{Bool, true, false, not, cond, ◌&&◌}
use mathlib.Core.List.{List}
use mathlib.Core.Logic.{◌⊎◌, inl, inr, ⊎_elim}
use native.Mathlib.Omega.{arith}
use native.Mathlib.Decide.{dec_lt}
use borrow.Author.Tests.{eqb-false, ltb-true}
use lib.Dec.{eqb, ltb}
use lib.ListN.{length, get_or}
use Rattle.laws.proofs.Tests.{not_both}
use Rattle.answer.specs.declared.Answer.{Answer}
use Rattle.answer.specs.declared.Answer.TheVariants as answer
use Rattle.answer.specs.Answer.{number, is_accepted, is_lost, is_cut}
use Rattle.command.specs.declared.Sent.TheVariants.{Done, Failed, Cut}
use Rattle.command.specs.Command.{outcome_at}
use Rattle.command.specs.Course.{Course, words, result, played}
use Rattle.command.proofs.Cuts.{failed_cut, failed_done}
use Rattle.device.specs.declared.record.Device.{Device}
use Rattle.device.specs.Left.{Left, refused, ended}
use Rattle.device.specs.Sound.{sound}
use Rattle.device.specs.Calls.{on_check, hub_context, hub_course, hub_left, hub_update}
use Rattle.device.specs.Ask.{commit}
use Rattle.device.specs.Claim.{drawn, claim_in, claim}
use Rattle.device.specs.Device.{endpoint_map_in}
use Rattle.device.specs.Check.{disconnect_check}
use Rattle.device.specs.Disconnect.{disconnect_record, disconnect}
use Rattle.device.specs.Release.{release_in, release}
use Rattle.device.specs.SetConfiguration.{settings_in, set_configuration}
use Rattle.device.proofs.Laws.{passed}
use Rattle.device.proofs.Disconnected.{up_passed, disconnect_moves, disconnect_stays}
use Rattle.device.proofs.Made.{Made, marked_made}
use Rattle.device.proofs.Kept.{claim_moves, claim_stays, release_moves, release_stays, set_moves, set_stays}
use Rattle.record_settings.specs.Held.{Held}
use Rattle.record_endpoint.specs.declared.endpoint_map.EndpointMap.{EndpointMap}
use Rattle.laws.proofs.Cases.{Decided, decided}
use Rattle.device.proofs.Facts as facts
use Rattle.course_steps.specs.End.{End}
use Rattle.course_claim.specs.Claim.{claim_course}
use Rattle.record_endpoint.specs.EndpointMap.{queues_of, queue_dcis}
use Rattle.course_disconnect.specs.Disconnect.{disconnect_course}
use Rattle.course_disconnect.proofs.Ends.{Ended, disconnect_ends}
use Rattle.course_release.specs.Release.{release_course}
use Rattle.course_set_configuration.specs.SetConfiguration.{set_course}
use Rattle.course_init.specs.Reading.{BringUp, control_ring, Brought}
use Rattle.device_bring_up.proofs.Laws.{bring_up_sound}
use Rattle.answer.specs.Check.{Check, Pass}
use Rattle.transfer.specs.Routes.{with_route}
use Rattle.context.specs.Place.{spacing_of}
use Rattle.device_bring_up.specs.BringUp.{bring_up_course, brought_record, brought_left, bring_up}
use Rattle.theorem_slot.specs.Call.{Buffers, Asked, brings_up, claims, commits, releases, configures, updates_hub, disconnects, Call, left}
use Rattle.theorem_slot.specs.Answers.{is_refused, refused_record, CodeOfOutcome, Accounted, AnswersTell, GivenBack, SoundReturned, SoundStays, usable_after, up_after, is_bring_up}
use Rattle.theorem_slot.specs.Theorem.{NoneQuarantined}
use Rattle.command.proofs.Told.{Told, told_whole, told_cut}
use Rattle.theorem_slot.proofs.Ends.{unplugging_stayed, Fair, hub_sends, claim_tells, release_tells, set_tells, disconnect_tells, hub_tells, bring_up_tells, claim_sends, release_sends, set_sends, disconnect_sends, bring_up_sends}
use Rattle.theorem_slot.proofs.Step.{MildCheck, on_mild, mild_claim, mild_commit, commit_passed, mild_release, mild_set, mild_hub, mild_disconnect, mild_bring_up}

-- A failed outcome is there, and not 0.
failed_byte :
    (o : List ℕ) (k code : ℕ) (there zero : Bool) → ltb k (length o) ≡ there → eqb (get_or o k 0) 0 ≡ zero →
    cond there (cond zero Done (Failed (get_or o k 0))) Cut ≡ Failed code →
    (k < length o) × ((get_or o k 0 ≡ code) × (get_or o k 0 ≡ 0 → ⊥))
failed_byte o k code false zero t z e = failed_cut (sym e)
failed_byte o k code true true t z e = failed_done (sym e)
failed_byte o k code true false t z e = (ltb-true k (length o) t, (cc, eqb-false (get_or o k 0) 0 z))

code_there : (o : List ℕ) (count k code : ℕ) → k < count → outcome_at o k ≡ Failed code → CodeOfOutcome o count code
unfolding outcome_at
code_there o count k code h e =
    let f = failed_byte o k code (ltb k (length o)) (eqb (get_or o k 0) 0) refl refl e in
    record { place = k; logged = h; there = f.0; same = f.1.0; failure = λ z. f.1.1 (f.1.0 ∙ z) }

-- What holds of a call that ran a course.
pub record Ran (o : List ℕ) (l : Left) : Type 0 where
  pub answered : Accounted o l
  pub late : is_refused l.answer ≡ false

cut_late : (a : Answer) → a ≡ answer.Cut → is_refused a ≡ false
unfolding is_refused number
cut_late a e = rw e refl

cut_code : {P : Type 0} (a : Answer) (code : ℕ) → a ≡ answer.Cut → a ≡ answer.Failed code → P
unfolding number
cut_code a code c f = let z : ◌≡◌ {A = ℕ} 15 13 = sym (ap number c) ∙ ap number f in absurd (omega arith)

not_cut : (a : Answer) → is_cut a ≡ false → a ≡ answer.Cut → ⊥
unfolding number
not_cut a n c = not_both (is_cut a) (rw c refl) n

module _ {A : Type 0} (answer_in : A → Answer) (o : List ℕ) (c : Course A) (log : List ℕ)
    (told : (K : ℕ → Type 0) → Told (λ a. Fair K (answer_in a)) (λ a. answer_in a ≡ answer.Cut) K c)
    (some : 1 ≤ length (words o 0 c)) (l : Left) where
  count : ℕ
  count = 0 + length (words o 0 c)

  abbrev Codes : ℕ → Type 0
  Codes = CodeOfOutcome o count

  read : (k : ℕ) → k < 0 + length (words o 0 c) → (code : ℕ) → outcome_at o k ≡ Failed code → Codes code
  unfolding count
  read k h code e = code_there o count k code h e

  ran_by : l.answer ≡ answer_in (result o 0 c) → l.count ≡ count → Dec (length o < count) → Ran o l
  unfolding count
  ran_by a n (yes h) =
      let t = told_cut _ _ Codes o 0 c (told Codes) read (omega arith) h in
      let cut : l.answer ≡ answer.Cut = a ∙ t.0 in
      record {
        answered =
            record {
              cut = λ e. n ∙ t.1;
              whole = λ e. absurd (e cut);
              failed = λ code e. cut_code l.answer code cut e;
              sent = λ e. omega arith;
            };
        late = cut_late l.answer cut;
      }
  ran_by a n (no h) =
      let t : Fair Codes (answer_in (result o 0 c)) = told_whole _ _ Codes o 0 c (told Codes) read (omega arith) in
      let f : Fair Codes l.answer = rw a t in
      record {
        answered =
            record {
              cut = λ e. absurd (not_cut l.answer f.uncut e);
              whole = λ e. omega arith;
              failed = λ code e. rw n (f.code code e);
              sent = λ e. omega arith;
            };
        late = f.late;
      }

  pub ran_course : l.answer ≡ answer_in (played o 0 c log).end → l.count ≡ (played o 0 c log).count → Ran o l
  unfolding played count
  ran_course a n = ran_by a n (dec_lt (length o) count)

-- A refused call.
refused_answered :
    (o : List ℕ) (d : Device) (a : Answer) (ctx routes log : List ℕ) → is_refused a ≡ true → Accounted o (refused d a ctx routes log)
unfolding refused is_refused number
refused_answered o d a ctx routes log r =
    record {
      cut = λ e. not_both (is_refused a) r (cut_late a e);
      whole = λ e. omega arith;
      failed = λ code e. not_both (is_refused a) r (failed_late code a e);
      sent = λ e. not_both (is_refused a) r e;
    }
  where
    failed_late : (code : ℕ) (x : Answer) → x ≡ answer.Failed code → is_refused x ≡ false
    failed_late code x e = rw e refl

-- A refused call on a record returns it.
refused_record_lem : (asked : Asked) (d : Device) → is_bring_up asked ≡ false → refused_record asked d ≡ d
unfolding refused_record is_bring_up
refused_record_lem (brings_up a) d e = not_both true refl e
refused_record_lem (claims i a) d e = refl
refused_record_lem (commits p) d e = refl
refused_record_lem (releases i) d e = refl
refused_record_lem (configures value) d e = refl
refused_record_lem (updates_hub ports multi ns) d e = refl
refused_record_lem disconnects d e = refl

-- What every call leaves.
record Tells (c : Call) (d : Device) (routes : List ℕ) (l : Left) : Type 0 where
  pub answered : Accounted c.buffers.outcomes l
  pub returned : GivenBack c d routes l

-- The record that a call which ran has made.
record Fit (asked : Asked) (d : Device) (a : Answer) (e : Device) : Type 0 where
  pub usable : e.usable ≡ usable_after asked a
  pub up : e.up ≡ up_after asked a d.up
  pub is_sound : (is_bring_up asked && not e.usable) ≡ false → sound e ≡ true

-- By what its check answers.
checked_tells :
    (c : Call) (d : Device) (routes : List ℕ) (k : Check) (run : Left) → MildCheck k →
    (k ≡ Pass → Ran c.buffers.outcomes run × Fit c.asked d run.answer run.device) →
    Tells c d routes (on_check k run (λ a. refused (refused_record c.asked d) a c.buffers.ctx routes c.buffers.log))
unfolding refused
checked_tells c d routes k run m h =
    on_mild (Tells c d routes) k run (λ a. refused (refused_record c.asked d) a c.buffers.ctx routes c.buffers.log) m
    (λ e.
    record {
      answered = (h e).0.answered;
      returned =
          record {
            refusal = λ r. not_both (is_refused run.answer) r (h e).0.late;
            usable = λ r. (h e).1.usable;
            up = λ r. (h e).1.up;
            is_sound = λ r. (h e).1.is_sound;
          };
    })
    (λ a r.
    record {
      answered = refused_answered c.buffers.outcomes _ a c.buffers.ctx routes c.buffers.log r;
      returned =
          record {
            refusal = λ t. refl;
            usable = λ f. not_both (is_refused a) r f;
            up = λ f. not_both (is_refused a) r f;
            is_sound = λ f. not_both (is_refused a) r f;
          };
    })

-- Of a call that leaves whether it is up, and is usable unless it is lost.
fit :
    {asked : Asked} {d e : Device} {hs : List Held} {c : EndpointMap} {x : Answer} → usable_after asked x ≡ not (is_lost x) →
    up_after asked x d.up ≡ d.up → Made d e hs c (is_lost x) → Fit asked d x e
fit u v m = record { usable = m.usable ∙ sym u; up = m.up ∙ sym v; is_sound = λ n. m.is_sound }

-- A bring-up's: sound where it is usable.
brought_fit :
    (a : BringUp) (d e : Device) (x : Answer) → e.usable ≡ is_accepted x → e.up ≡ is_accepted x →
    (e.usable ≡ false) ⊎ (sound e ≡ true) → Fit (brings_up a) d x e
unfolding usable_after up_after is_bring_up
brought_fit a d e x u v s = record { usable = u; up = v; is_sound = λ n. ⊎_elim (λ z. not_both (not e.usable) (ap not z) n) (λ z. z) s }

-- An unplugging's.
unplugged_fit :
    (d : Device) (ctx table log : ℕ) → disconnect_check d ctx table log ≡ Pass → (buffer routes : List ℕ) (e : End) →
    Ended d.slot.0 buffer routes e → Fit disconnects d e.answer (disconnect_record d e)
unfolding usable_after up_after is_bring_up number
unplugged_fit d ctx table log k buffer routes e (inl v) =
    let m = disconnect_moves d ctx table log k e (ap (λ (x : End). x.moved) v) in
    record {
      usable = m.usable;
      up = m.up ∙ sym (ap (λ (x : End). is_lost x.answer) v);
      is_sound = λ n. m.is_sound;
    }
unplugged_fit d ctx table log k buffer routes e (inr v) =
    let w = unplugging_stayed buffer routes e v in
    let m = disconnect_stays d ctx table log k e w.kept w.lost in
    record { usable = m.usable; up = m.up ∙ (up_passed d ctx table log k).up ∙ sym w.lost; is_sound = λ n. m.is_sound }

module _ (b : Buffers) (d : Device) (routes : List ℕ) where
  o : List ℕ
  o = b.outcomes

  call : Asked → Call
  call a = record { asked = a; buffers = b }

  each : (a : Asked) → Tells (call a) d routes (left a b d routes)
  unfolding call o left refused_record usable_after up_after is_bring_up claim commit release set_configuration hub_update disconnect bring_up ended hub_left brought_left bring_up_course brought_record played on_check
  each (brings_up a) =
      let next = with_route routes a.slot 1 (control_ring a) in
      let course = bring_up_course a (spacing_of (length b.ctx)) b.ctx routes in
      checked_tells (call (brings_up a)) d routes _ _ (mild_bring_up a (length b.ctx) routes (length b.log))
      (λ e. (
        ran_course (λ (x : Brought). x.answer) o course b.log
            (λ K. bring_up_tells K a (spacing_of (length b.ctx)) next b.ctx)
            (bring_up_sends o b.ctx next a (spacing_of (length b.ctx))) _ refl refl,
        brought_fit a d _ _ refl refl (rw e at (bring_up_sound a b.ctx routes b.log b.outcomes)),
      ))
  each (claims i a) =
      checked_tells (call (claims i a)) d routes _ _ (mild_claim d _ _ _ i a)
      (λ e. (
        ran_course (λ (x : End). x.answer) o (claim_course (claim_in d i a (drawn d i a)) b.ctx routes) b.log
            (λ K. claim_tells K (claim_in d i a (drawn d i a)) b.ctx routes)
            (claim_sends o b.ctx routes (claim_in d i a (drawn d i a))) _ refl refl,
        ⊎_elim (λ m. fit refl refl (claim_moves d _ _ _ i a e _ m)) (λ m. fit refl refl (claim_stays d _ _ _ i a e _ m)) (decided _),
      ))
  each (commits p) =
      checked_tells (call (commits p)) d routes _ _ (mild_commit d _ _ _ p)
      (λ e.
      let i = p.interface in
      let a = p.alternate in
      let k = commit_passed d _ _ _ p e in (
        ran_course (λ (x : End). x.answer) o (claim_course (claim_in d i a (drawn d i a)) b.ctx routes) b.log
            (λ K. claim_tells K (claim_in d i a (drawn d i a)) b.ctx routes)
            (claim_sends o b.ctx routes (claim_in d i a (drawn d i a))) _ refl refl,
        ⊎_elim (λ m. fit refl refl (claim_moves d _ _ _ i a k _ m)) (λ m. fit refl refl (claim_stays d _ _ _ i a k _ m)) (decided _),
      ))
  each (releases i) =
      checked_tells (call (releases i)) d routes _ _ (mild_release d _ _ _ i)
      (λ e. (
        ran_course (λ (x : End). x.answer) o (release_course (release_in d i) b.ctx routes) b.log
            (λ K. release_tells K (release_in d i) b.ctx routes)
            (release_sends o b.ctx routes (release_in d i)) _ refl refl,
        ⊎_elim (λ m. fit refl refl (release_moves d _ _ _ i e _ m)) (λ m. fit refl refl (release_stays d _ _ _ i e _ m)) (decided _),
      ))
  each (configures value) =
      checked_tells (call (configures value)) d routes _ _ (mild_set d _ _ _)
      (λ e. (
        ran_course (λ (x : End). x.answer) o (set_course (settings_in d value) b.ctx routes) b.log
            (λ K. set_tells K (settings_in d value) b.ctx routes)
            (set_sends o b.ctx routes (settings_in d value)) _ refl refl,
        ⊎_elim (λ m. fit refl refl (set_moves d _ _ _ value e _ m)) (λ m. fit refl refl (set_stays d _ _ _ value e _ m)) (decided _),
      ))
  each (updates_hub ports multi ns) =
      let ctx = hub_context d ports multi ns b.ctx in
      checked_tells (call (updates_hub ports multi ns)) d routes _ _ (mild_hub d _ _ _ ns)
      (λ e. (
        ran_course (λ (x : Answer). x) o (hub_course ctx) b.log (λ K. hub_tells K ctx) (hub_sends o ctx) _ refl refl,
        let p = (passed d _ _ _ _ e).0 in fit refl refl (marked_made d p.usable p.is_sound _),
      ))
  each disconnects =
      let dcis = queue_dcis (queues_of (endpoint_map_in d).rings) in
      let course = disconnect_course d.slot.0 dcis b.ctx routes in
      checked_tells (call disconnects) d routes _ _ (mild_disconnect d _ _ _)
      (λ e. (
        ran_course (λ (x : End). x.answer) o course b.log (λ K. disconnect_tells K d.slot.0 dcis b.ctx routes)
            (disconnect_sends o b.ctx routes d.slot.0 dcis) _ refl refl,
        unplugged_fit d _ _ _ e b.ctx routes (result o 0 course) (disconnect_ends d.slot.0 dcis b.ctx routes o 0),
      ))

pub answers_tell : AnswersTell
unfolding call
answers_tell c d routes = (each c.buffers d routes c.asked).answered

pub sound_returned : SoundReturned
unfolding call
sound_returned c d routes = (each c.buffers d routes c.asked).returned

pub sound_stays : SoundStays
unfolding refused
sound_stays c d routes n s = go (decided (is_refused (left c.asked c.buffers d routes).answer))
  where
    r : GivenBack c d routes (left c.asked c.buffers d routes)
    r = sound_returned c d routes

    go : Decided (is_refused (left c.asked c.buffers d routes).answer) → sound (left c.asked c.buffers d routes).device ≡ true
    go (inl t) = ap (λ (l : Left). sound l.device) (r.refusal t) ∙ ap sound (refused_record_lem c.asked d n) ∙ s
    go (inr f) = r.is_sound f (rw n refl)

pub none_quarantined : NoneQuarantined
none_quarantined = facts.none_quarantined
