-- What a call logs after its first command that fails: of every call.
use Rattle.std.proofs.Common.{Ok, Err, Some, None, is_some}
use Prim.Native.Nat.{ℕ, zero, suc, ◌+◌, ◌≤◌, ◌<◌}
use mathlib.Core.Path.{◌≡◌, refl, sym, ◌∙◌, ap}
use mathlib.Core.Bool.{Bool, true, false, cond}
use mathlib.Core.List.{List, [], ◌∷◌, ◌++◌}
use native.Mathlib.Omega.{arith}
use borrow.Author.Tests.{lt-ltb, ne_eqb}
use lib.ListN.{length, take, drop, get_or}
use lib.Seq.{take-append_seam}
use Rattle.laws.proofs.Tests.{not_both}
use Rattle.answer.specs.Check.{Check, Pass}
use Rattle.command.specs.declared.Sent.TheVariants.{Failed}
use Rattle.command.specs.Command.{command_word, outcome_at}
use Rattle.command.specs.Course.{Course, words, played}
use Rattle.command.proofs.Done.{outcome_done}
use Rattle.record_endpoint.specs.declared.endpoint_map.Owner.TheVariants.{Any, Interface}
use Rattle.record_endpoint.specs.EndpointMap.{queues_of, queue_dcis}
use Rattle.record_settings.specs.Held.{Held, is_held, alternate_of, held_alternate}
use Rattle.record_settings.proofs.Laws.{held_alternate_is}
use Rattle.transfer.specs.Routes.{with_route}
use Rattle.context.specs.Place.{spacing_of}
use Rattle.course_claim.specs.Claim.{claim_course}
use Rattle.course_release.specs.Release.{release_course}
use Rattle.course_set_configuration.specs.SetConfiguration.{set_course}
use Rattle.course_init.specs.Reading.{control_ring}
use Rattle.device.specs.declared.record.Device.{Device}
use Rattle.device.specs.Device.{endpoint_map_in, held_of, no_device}
use Rattle.device.specs.Left.{Left, refused, ended}
use Rattle.device.specs.Calls.{on_check, hub_context, hub_course, hub_left, hub_update}
use Rattle.device.specs.Check.{record_check, disconnect_check, hub_check}
use Rattle.device.specs.Disconnect.{disconnect}
use Rattle.device.proofs.Disconnected.{up_passed}
use Rattle.course_disconnect.specs.Disconnect.{disconnect_course}
use Rattle.command.proofs.Sweeps.{stop_words}
use Rattle.device.specs.Ask.{ask_check, current_check, commit}
use Rattle.device.specs.Claim.{claim_check, drawn, claim_in, claim}
use Rattle.device.specs.Release.{release_check, release_in, release}
use Rattle.device.specs.SetConfiguration.{settings_in, set_configuration}
use Rattle.device.proofs.ClaimLaws.{undone_to}
use Rattle.device.proofs.Laws.{passed}
use Rattle.device_bring_up.specs.BringUp.{queue_check, bring_up_check, bring_up_course, brought_left, bring_up}
use Rattle.device_bring_up.proofs.Checks as brought-checks
use Rattle.theorem_slot.specs.Call.{Buffers, Asked, brings_up, claims, commits, releases, configures, updates_hub, disconnects, Call, left}
use Rattle.theorem_slot.specs.Answers.{is_refused}
use Rattle.theorem_slot.proofs.Few.{few_words}
use Rattle.theorem_slot.proofs.Step.{MildCheck, commit_passed, mild_disconnect}
use Rattle.theorem_slot.proofs.Words.{taken_words}
use Rattle.theorem_calls.specs.Accepted.{dcis_of, stops, accepted_words}
use Rattle.theorem_calls.specs.Commands.{is_unplugging, AllDone}
use Rattle.theorem_calls.specs.Undone.{after_stop, after_configure, claim_undone, undo_words, LogUndoes, GoesOn, UnpluggingGoesOn}
use Rattle.theorem_calls.proofs.Spelled.{all_dcis, own_dcis, unplugging_words}
use Rattle.theorem_calls.proofs.Undoing.{After, claim_undoes, release_undoes, restore_words, set_undoes, bring_up_after, unplugging_front}
use Rattle.theorem_calls.proofs.Walked.{Front, stops_spelled}

-- An outcome that is there and not 0 is a failure.
failed_byte : (o : List ℕ) (m : ℕ) → m < length o → (get_or o m 0 ≡ 0 → ⊥) → outcome_at o m ≡ Failed (get_or o m 0)
unfolding outcome_at
failed_byte o m h n = rw (lt-ltb m (length o) h, ne_eqb (get_or o m 0) 0 n) refl

-- What a call logs then.
abbrev Undoes : List ℕ → ℕ → List ℕ → ℕ → List ℕ → Type 0
Undoes o m ws count left =
    m < count → AllDone o m → m < length o → (get_or o m 0 ≡ 0 → ⊥) → drop (m + 1) (take count left) ≡ ws

undoes_course :
    {A : Type 0} (c : Course A) (o log ws : List ℕ) (m : ℕ) → (played o 0 c log).count ≤ length log → After o 0 c m ws →
    Undoes o m ws (played o 0 c log).count (played o 0 c log).log
unfolding played
undoes_course c o log ws m few g h done there bad =
    let z : 0 + m ≡ m = omega arith in
    ap (drop (m + 1)) (taken_words o c log (omega arith))
    ∙ g (omega arith) (λ k l. let y : 0 + k ≡ k = omega arith in let t = done k l in rw y (outcome_done o k t.0 t.1)) (get_or o m 0)
    (rw z (failed_byte o m there bad))

UndoesBy : Asked → Buffers → Device → ℕ → Left → Type 0
UndoesBy asked b d m l = Undoes b.outcomes m (undo_words asked d b.outcomes m) l.count l.log

checked_undoes :
    (asked : Asked) (b : Buffers) (d e : Device) (routes : List ℕ) (m : ℕ) (k : Check) (run : Left) →
    (on_check k run (λ a. refused e a b.ctx routes b.log)).count ≤ 63 → (k ≡ Pass → 64 ≤ length b.log) →
    (run.count ≤ length b.log → UndoesBy asked b d m run) → UndoesBy asked b d m (on_check k run (λ a. refused e a b.ctx routes b.log))
unfolding UndoesBy on_check refused
checked_undoes asked b d e routes m (Ok _) run few room h = let r = room refl in h (omega (arith, few, r))
checked_undoes asked b d e routes m (Err a) run few room h = λ l f g n. absurd (omega arith)

-- The alternate to which a claim is undone.
held_some : (i : ℕ) (hs : List Held) → is_some (held_alternate i hs) ≡ is_held i hs
held_some i hs = rw (held_alternate_is i hs) (go (is_held i hs))
  where
    go : (b : Bool) → is_some (cond b (Some (alternate_of i hs)) None) ≡ b
    go true = refl
    go false = refl

none : (k : ℕ) → drop {A = ℕ} k [] ≡ []
none zero = refl
none (suc k) = refl

hub_undoes : (o ctx : List ℕ) (m : ℕ) → After o 0 (hub_course ctx) m []
unfolding hub_course words command_word
hub_undoes o ctx m h f code e = go m
  where
    go : (k : ℕ) → drop {A = ℕ} (k + 1) (0x20000000 ∷ []) ≡ []
    go k = let z : k + 1 ≡ suc k = omega arith in rw z (none k)

module _ (b : Buffers) (d : Device) (routes : List ℕ) (m : ℕ) where
  abbrev o : List ℕ
  o = b.outcomes

  call : Asked → Call
  call a = record { asked = a; buffers = b }

  -- The words of a claim, told by the record.
  claim_told :
      (i a : ℕ) →
      After o 0 (claim_course (claim_in d i a (drawn d i a)) b.ctx routes) m
      (after_stop o m (dcis_of (Interface i) d) (after_configure o m (dcis_of (Interface i) d) (claim_undone o m i d)))
  unfolding claim_in claim_undone
  claim_told i a =
      let s = outcome_at o (m + 1) in
      rw (own_dcis (endpoint_map_in d) i, held_some i (held_of d), undone_to i (held_of d)) at
      (claim_undoes o (claim_in d i a (drawn d i a)) b.ctx routes m)

  release_told :
      (i : ℕ) →
      After o 0 (release_course (release_in d i) b.ctx routes) m
      (after_stop o m (dcis_of (Interface i) d) (after_configure o m (dcis_of (Interface i) d) []))
  unfolding release_in
  release_told i = rw (own_dcis (endpoint_map_in d) i) at (release_undoes o (release_in d i) b.ctx routes m)

  set_told :
      (value : ℕ) →
      let ds = dcis_of Any d in
      After o 0 (set_course (settings_in d value) b.ctx routes) m (after_stop o m ds (after_configure o m ds (restore_words o m ds)))
  unfolding settings_in
  set_told value = rw (all_dcis (endpoint_map_in d)) at (set_undoes o (settings_in d value) b.ctx routes m)

  each : (a : Asked) → is_unplugging a ≡ false → UndoesBy a b d m (left a b d routes)
  unfolding UndoesBy undo_words call is_unplugging left claim commit release set_configuration hub_update bring_up ended hub_left brought_left bring_up_course bring_up_check played
  each (brings_up a) n =
      let spacing = spacing_of (length b.ctx) in
      let next = with_route routes a.slot 1 (control_ring a) in
      checked_undoes (brings_up a) b d no_device routes m (bring_up_check a (length b.ctx) routes (length b.log)) _
      (few_words (call (brings_up a)) d routes)
      (λ e. (brought-checks.passed a (length b.ctx) (length routes) (length b.log) (queue_check a routes) e).0.room)
      (λ f. undoes_course (bring_up_course a spacing b.ctx routes) o b.log _ m f (bring_up_after o a spacing next b.ctx m))
  each (claims i a) n =
      checked_undoes (claims i a) b d d routes m (record_check d (length b.ctx) (length routes) (length b.log) (claim_check d i a Pass)) _
      (few_words (call (claims i a)) d routes) (λ e. (passed d _ _ _ _ e).0.room)
      (λ f. undoes_course (claim_course (claim_in d i a (drawn d i a)) b.ctx routes) o b.log _ m f (claim_told i a))
  each (commits p) n =
      let i = p.interface in
      let a = p.alternate in
      checked_undoes (commits p) b d d routes m (ask_check d (length b.ctx) (length routes) (length b.log) i a (current_check d p)) _
      (few_words (call (commits p)) d routes) (λ e. (passed d _ _ _ _ (commit_passed d _ _ _ p e)).0.room)
      (λ f. undoes_course (claim_course (claim_in d i a (drawn d i a)) b.ctx routes) o b.log _ m f (claim_told i a))
  each (releases i) n =
      checked_undoes (releases i) b d d routes m (record_check d (length b.ctx) (length routes) (length b.log) (release_check d i)) _
      (few_words (call (releases i)) d routes) (λ e. (passed d _ _ _ _ e).0.room)
      (λ f. undoes_course (release_course (release_in d i) b.ctx routes) o b.log _ m f (release_told i))
  each (configures value) n =
      checked_undoes (configures value) b d d routes m (record_check d (length b.ctx) (length routes) (length b.log) Pass) _
      (few_words (call (configures value)) d routes) (λ e. (passed d _ _ _ _ e).0.room)
      (λ f. undoes_course (set_course (settings_in d value) b.ctx routes) o b.log _ m f (set_told value))
  each (updates_hub ports multi ns) n =
      let ctx = hub_context d ports multi ns b.ctx in
      checked_undoes (updates_hub ports multi ns) b d d routes m (record_check d (length b.ctx) (length routes) (length b.log) (hub_check d ns)) _
      (few_words (call (updates_hub ports multi ns)) d routes) (λ e. (passed d _ _ _ _ e).0.room)
      (λ f. undoes_course (hub_course ctx) o b.log _ m f (hub_undoes o ctx m))
  each disconnects n = not_both true refl n

pub log_undoes : LogUndoes
unfolding UndoesBy
log_undoes c d routes m n = each c.buffers d routes m c.asked n

-- An unplugging.
front_taken : (ws all : List ℕ) → Front ws all → take (length ws) all ≡ ws
front_taken ws all f = rw (← f.whole) (take-append_seam ws f.rest)

checked_on :
    (asked : Asked) (b : Buffers) (d : Device) (routes : List ℕ) (k : Check) (run : Left) → MildCheck k →
    (on_check k run (λ a. refused d a b.ctx routes b.log)).count ≤ 63 → (k ≡ Pass → 64 ≤ length b.log) →
    (run.count ≤ length b.log → GoesOn asked d run) → GoesOn asked d (on_check k run (λ a. refused d a b.ctx routes b.log))
unfolding MildCheck on_check refused
checked_on asked b d routes (Ok _) run m few room h = let r = room refl in h (omega (arith, few, r))
checked_on asked b d routes (Err a) run m few room h = record { begun = refl; whole = λ r c. not_both (is_refused a) m r }

course_on :
    {A : Type 0} (c : Course A) (o log all : List ℕ) → (played o 0 c log).count ≤ length log → Front (words o 0 c) all →
    take (played o 0 c log).count (played o 0 c log).log ≡ take (played o 0 c log).count all
unfolding played
course_on c o log all few f =
    let z : 0 + length (words o 0 c) ≡ length (words o 0 c) = omega arith in
    taken_words o c log (omega arith) ∙ sym (front_taken (words o 0 c) all f) ∙ ap (λ n. take n all) (sym z)

course_whole :
    {A : Type 0} (c : Course A) (o log all : List ℕ) → (played o 0 c log).count ≤ length log → words o 0 c ≡ all →
    take (played o 0 c log).count (played o 0 c log).log ≡ all
unfolding played
course_whole c o log all few e = taken_words o c log (omega arith) ∙ e

module _ (b : Buffers) (d : Device) (routes : List ℕ) where
  goes_on : GoesOn disconnects d (left disconnects b d routes)
  unfolding left disconnect ended accepted_words stop_words command_word played
  goes_on =
      let dcis = queue_dcis (queues_of (endpoint_map_in d).rings) in
      let course = disconnect_course d.slot.0 dcis b.ctx routes in
      let told = ap (λ ws. 0x40100000 ∷ ws ++ (0xC0000000 ∷ [])) (stops_spelled dcis ∙ ap stops (all_dcis (endpoint_map_in d))) in
      let front = unplugging_front b.outcomes d.slot.0 dcis b.ctx routes in
      checked_on disconnects b d routes (disconnect_check d (length b.ctx) (length routes) (length b.log)) _ (mild_disconnect d _ _ _)
      (few_words (record { asked = disconnects; buffers = b }) d routes) (λ e. (up_passed d _ _ _ e).room)
      (λ f.
      record {
        begun = course_on course b.outcomes b.log _ f (record { rest = front.rest; whole = front.whole ∙ told });
        whole = λ r c. course_whole course b.outcomes b.log _ f (unplugging_words d.slot.0 dcis b.ctx routes b.outcomes c ∙ told);
      })

  each_unplugging : (a : Asked) → is_unplugging a ≡ true → GoesOn a d (left a b d routes)
  unfolding is_unplugging
  each_unplugging (brings_up a) n = not_both false n refl
  each_unplugging (claims i a) n = not_both false n refl
  each_unplugging (commits p) n = not_both false n refl
  each_unplugging (releases i) n = not_both false n refl
  each_unplugging (configures value) n = not_both false n refl
  each_unplugging (updates_hub ports multi ns) n = not_both false n refl
  each_unplugging disconnects n = goes_on

pub unplugging_goes_on : UnpluggingGoesOn
unplugging_goes_on c d routes n = each_unplugging c.buffers d routes c.asked n
