-- What ask, commit and claim are to each other.
use Rattle.std.proofs.Common.{Ok, Err}
use Prim.Native.Nat.{ℕ, zero, suc, ◌+◌, ◌/◌, ◌%◌, ◌^◌, ◌<◌, ◌≤◌}
use mathlib.Core.Path.{◌≡◌, refl, sym, ap, ◌∙◌}
use mathlib.Core.Logic.{inl, inr}
use mathlib.Core.Bool.{true, false, ◌&&◌}
use mathlib.Core.List.{List, [], ◌∷◌}
use native.Mathlib.Omega.{arith}
use borrow.Author.Tests.{eqb-true, eq-eqb}
use lib.Dec.{eqb}
use lib.ListN.{length, get_or, replicate}
use Rattle.laws.proofs.Bits.{same_bits}
use Rattle.laws.proofs.Cases.{Decided, decided, false_if}
use Rattle.laws.proofs.Tests.{and_left, and_right, not_both}
use Rattle.answer.specs.declared.Answer.{Answer}
use Rattle.answer.specs.declared.Answer.TheVariants as answer
use Rattle.answer.specs.Check.{Check, Pass, Refuse}
use Rattle.answer.specs.Answer.{number, is_accepted}
use Rattle.command.specs.declared.Command.TheVariants as command
use Rattle.command.specs.Command.{command_word}
use Rattle.command.specs.Course.{played}
use Rattle.command.proofs.Laws.{log_word}
use Rattle.command.proofs.Reached.{CutHere, dones_before, dones_past}
use Rattle.context_block.specs.Fields.{DROP-FLAG, ADD-FLAG}
use Rattle.context_block.specs.Flags.{flags_of}
use Rattle.context_block.specs.Blocks.{some_dci}
use Rattle.context_block.proofs.Flags.{flags_promise, flags_small}
use Rattle.context.specs.Place.{CONTROL, read_at}
use Rattle.context.specs.Promises.{Endpoints}
use Rattle.context.proofs.Added.{drop_flag_reads, add_flag_reads}
use Rattle.record_endpoint.specs.declared.endpoint_map.Owner.TheVariants.{Interface}
use Rattle.record_endpoint.specs.EndpointMap.{owned_rings, queues_of}
use Rattle.record_endpoint.proofs.Laws.{queues_fit}
use Rattle.record_settings.specs.Held.{is_held, alternate_of}
use Rattle.record_checks.specs.Draw.{same_rings}
use Rattle.course_steps.specs.End.{settings_doubted}
use Rattle.course_claim.specs.Claim.{Claim, claim_context, claim_course}
use Rattle.course_claim.proofs.Contexts.{claim_at_configure}
use Rattle.device.specs.declared.record.Device.{Device}
use Rattle.device.specs.Device.{list_of, endpoint_map_in, held_of}
use Rattle.device.specs.Left.{Left, refused, ended}
use Rattle.device.specs.Calls.{on_check}
use Rattle.device.specs.Claim.{claim_check, drawn, claim_in, claim_run, claim}
use Rattle.device.specs.Ask.{Ask, no_ask, ask_of, ask_check, returned, ask, same_ask, current_check, commit}
use Rattle.theorem_ask.specs.Promises.{asked_now, AskTells, OutdatedTells, AskPromise, ClaimPromise, OutdatedPromise, FlagsShown, AskFlagsPromise}
use Rattle.theorem_ask.proofs.Answers.{not_accepted, not_outdated, claim_current}
use Rattle.device.proofs.AskLaws.{ask_refused, ask_passed, drawn_many, words_few}
use Rattle.device.proofs.Fit.{placed_setting, placed_if, placed_endpoints}
use Rattle.device.proofs.Laws.{Passed, passed}

-- What the comparison of rings says.
same_told : (rs ss : List ℕ) → same_rings rs ss ≡ true → rs ≡ ss
unfolding same_rings
same_told [] [] e = refl
same_told [] (s ∷ ss) e = not_both false e refl
same_told (r ∷ rs) [] e = not_both false e refl
same_told (r ∷ rs) (s ∷ ss) e =
    let a : r ≡ s = eqb-true r s (and_left (eqb r s) (same_rings rs ss) e) in
    rw (a, same_told rs ss (and_right (eqb r s) (same_rings rs ss) e))

same_self : (rs : List ℕ) → same_rings rs rs ≡ true
unfolding same_rings
same_self [] = refl
same_self (r ∷ rs) = rw (eq-eqb r r refl) (same_self rs)

-- The comparison of asks.
pub same_ask_self : (p : Ask) → same_ask p p ≡ true
unfolding same_ask
same_ask_self p = rw (eq-eqb p.drops p.drops refl, eq-eqb p.adds p.adds refl) (same_self p.rings)

pub same_ask_told : (p q : Ask) → p.interface ≡ q.interface → p.alternate ≡ q.alternate → same_ask p q ≡ true → q ≡ p
unfolding same_ask
same_ask_told p q i a e =
    let rest = and_right (eqb p.drops q.drops) (eqb p.adds q.adds && same_rings p.rings q.rings) e in
    let d : p.drops ≡ q.drops = eqb-true p.drops q.drops (and_left (eqb p.drops q.drops) (eqb p.adds q.adds && same_rings p.rings q.rings) e) in
    let f : p.adds ≡ q.adds = eqb-true p.adds q.adds (and_left (eqb p.adds q.adds) (same_rings p.rings q.rings) rest) in
    let r : p.rings ≡ q.rings = same_told p.rings q.rings (and_right (eqb p.adds q.adds) (same_rings p.rings q.rings) rest) in
    sym (rw (← i, ← a, ← d, ← f, ← r) refl)

pub claim_promise : ClaimPromise
unfolding claim commit ask_check ask_of current_check
claim_promise d ctx routes log o i a = sym (rw (same_ask_self (ask_of d i a)) refl)

module _ (d : Device) (ctx routes log o : List ℕ) where
  abbrev checked : ℕ → ℕ → Check → Check
  checked i a next = ask_check d (length ctx) (length routes) (length log) i a next

  -- What each call is where the checks of a claim pass, and where they refuse.
  module _ (i a : ℕ) where
    asked_pass : checked i a Pass ≡ Pass → asked_now d ctx routes log o i a ≡ (answer.Accepted, ask_of d i a)
    unfolding ask returned
    asked_pass e = rw e

    asked_refused : (z : Answer) → checked i a Pass ≡ Refuse z → asked_now d ctx routes log o i a ≡ (z, no_ask)
    unfolding ask returned
    asked_refused z e = rw e

    claim_refused : (z : Answer) → checked i a Pass ≡ Refuse z → claim d ctx routes log o i a ≡ refused d z ctx routes log
    unfolding claim ask_check on_check
    claim_refused z e = rw e

  module _ (p : Ask) where
    abbrev last : Check
    last = checked p.interface p.alternate (current_check d p)

    commit_as : (x : Check) → x ≡ last → commit d ctx routes log o p
        ≡ on_check x (claim_run d ctx routes log o p.interface p.alternate (drawn d p.interface p.alternate)) (λ z. refused d z ctx routes log)
    unfolding commit
    commit_as x e = rw e refl

    commit_refused : (z : Answer) → checked p.interface p.alternate Pass ≡ Refuse z → commit d ctx routes log o p ≡ refused d z ctx routes log
    unfolding on_check
    commit_refused z e =
        commit_as (Refuse z) (sym e ∙ ask_refused d _ _ _ p.interface p.alternate (checked p.interface p.alternate Pass) (current_check d p) refl z e)

    module _ (e : checked p.interface p.alternate Pass ≡ Pass) where
      commit_last : current_check d p ≡ last
      commit_last = ask_passed d _ _ _ p.interface p.alternate (checked p.interface p.alternate Pass) (current_check d p) refl e

      commit_outdated : same_ask p (ask_of d p.interface p.alternate) ≡ false → commit d ctx routes log o p ≡ refused d answer.OutdatedAsk ctx routes log
      unfolding on_check current_check
      commit_outdated f = commit_as (Refuse answer.OutdatedAsk) (sym (rw f refl) ∙ commit_last)

      commit_current : same_ask p (ask_of d p.interface p.alternate) ≡ true → commit d ctx routes log o p
          ≡ claim_run d ctx routes log o p.interface p.alternate (drawn d p.interface p.alternate)
      unfolding on_check current_check
      commit_current f = commit_as Pass (sym (rw f refl) ∙ commit_last)

accepted_not : {P : Type 0} → is_accepted answer.Accepted ≡ false → P
unfolding number
accepted_not h = not_both true refl h

pub ask_promise : AskPromise
ask_promise d ctx routes log o i a = go (ask_check d (length ctx) (length routes) (length log) i a Pass) refl
  where
    go : (x : Check) → ask_check d (length ctx) (length routes) (length log) i a Pass ≡ x →
        AskTells d ctx routes log o i a (asked_now d ctx routes log o i a)
    go (Ok _) e =
        rw (asked_pass d ctx routes log o i a e)
        (record {
          accepted = λ h. sym (claim_promise d ctx routes log o i a);
          nothing = λ h. accepted_not h;
          claims = λ h. accepted_not h;
          commits = λ h. accepted_not h;
        })
    go (Err z) e =
        rw (asked_refused d ctx routes log o i a z e)
        (record {
          accepted = λ h. absurd (not_accepted d _ _ _ i a z e h);
          nothing = λ h. refl;
          claims = λ h. claim_refused d ctx routes log o i a z e;
          commits = λ h p q r. commit_refused d ctx routes log o p z (rw (q, r) e);
        })

-- The outdated ask.
module _ (d : Device) (ctx routes log o : List ℕ) (p : Ask) where
  abbrev now : Ask
  now = ask_of d p.interface p.alternate

  abbrev k : Check
  k = ask_check d (length ctx) (length routes) (length log) p.interface p.alternate Pass

  told : same_ask p now ≡ true → now ≡ p
  unfolding ask_of
  told e = same_ask_told p now refl refl e

  checks : k ≡ Pass → Passed d (length ctx) (length routes) (length log) × (claim_check d p.interface p.alternate Pass ≡ Pass)
  unfolding ask_check
  checks e = passed d (length ctx) (length routes) (length log) (claim_check d p.interface p.alternate Pass) e

  few : k ≡ Pass → same_ask p now ≡ true → length p.rings ≤ 30
  unfolding ask_of
  few e s =
      let c = checks e in
      let n : length (drawn d p.interface p.alternate) ≡ length p.rings = ap (λ (q : Ask). length q.rings) (told s) in
      omega (arith, n, drawn_many d p.interface p.alternate c.0.is_sound c.1, words_few d p.interface p.alternate c.0.is_sound c.1)

  run_answer : k ≡ Pass → same_ask p now ≡ true → (commit d ctx routes log o p).answer ≡ answer.OutdatedAsk → ⊥
  unfolding ended played
  run_answer e s h =
      claim_current (claim_in d p.interface p.alternate (drawn d p.interface p.alternate)) o ctx routes
      (sym (ap (λ (l : Left). l.answer) (commit_current d ctx routes log o p e s)) ∙ h)

  outdated_tells : (x : Check) → k ≡ x →
      OutdatedTells d ctx routes log o p (asked_now d ctx routes log o p.interface p.alternate) (commit d ctx routes log o p)
  unfolding refused
  outdated_tells (Ok _) e = rw (asked_pass d ctx routes log o p.interface p.alternate e) (go (decided (same_ask p now)))
    where
      go : Decided (same_ask p now) → OutdatedTells d ctx routes log o p (answer.Accepted, now) (commit d ctx routes log o p)
      go (inl s) =
          record {
            other = λ h n. absurd (n (told s));
            many = λ h n. absurd (omega (arith, n, few e s));
            only = λ h. absurd (run_answer e s h);
            left = λ h. absurd (run_answer e s h);
          }
      go (inr s) =
          let l = commit_outdated d ctx routes log o p e s in
          record {
            other = λ h n. ap (λ (y : Left). y.answer) l;
            many = λ h n. ap (λ (y : Left). y.answer) l;
            only = λ h. (refl, λ q. not_both (same_ask p now) (ap (same_ask p) q ∙ same_ask_self p) s);
            left = λ h. (l, (checks e).0.usable);
          }
  outdated_tells (Err z) e =
      let l = commit_refused d ctx routes log o p z e in
      let is : (commit d ctx routes log o p).answer ≡ z = ap (λ (y : Left). y.answer) l in
      rw (asked_refused d ctx routes log o p.interface p.alternate z e)
      (record {
        other = λ h n. absurd (not_accepted d _ _ _ p.interface p.alternate z e h);
        many = λ h n. absurd (not_accepted d _ _ _ p.interface p.alternate z e h);
        only = λ h. absurd (not_outdated d _ _ _ p.interface p.alternate z e (sym is ∙ h));
        left = λ h. absurd (not_outdated d _ _ _ p.interface p.alternate z e (sym is ∙ h));
      })

pub outdated_promise : OutdatedPromise
outdated_promise d ctx routes log o p = outdated_tells d ctx routes log o p _ refl

-- Flags of words whose Dcis are 2 or more.
low_bit : (words : List ℕ) → Endpoints words → (k : ℕ) → k < 2 → flags_of words / 2 ^ k % 2 ≡ 0 / 2 ^ k % 2
low_bit words e k h =
    let none : some_dci k words ≡ false = false_if (some_dci k words) (λ s. omega (arith, h, e k s)) in
    flags_promise words k (omega arith) ∙ rw none (zero_bit k h)
  where
    zero_bit : (j : ℕ) → j < 2 → 0 ≡ 0 / 2 ^ j % 2
    zero_bit zero l = refl
    zero_bit (suc zero) l = refl
    zero_bit (suc (suc j)) l = absurd (omega (arith, l))

flags_low : (words : List ℕ) → Endpoints words → flags_of words % 4 ≡ 0
flags_low words e = same_bits (flags_of words) 0 2 (low_bit words e)

flags_below_lem : (words : List ℕ) → flags_of words < 2 ^ 32
unfolding flags_of
flags_below_lem words = flags_small 32 words

-- The first Configure of a claim whose checks have passed, all Stops done.
module _ (d : Device) (ctx routes log : List ℕ) (i a : ℕ) (e : ask_check d (length ctx) (length routes) (length log) i a Pass ≡ Pass) where
  abbrev stops : ℕ
  stops = length (queues_of (owned_rings (Interface i) (endpoint_map_in d)))

  abbrev o : List ℕ
  o = replicate stops 0

  works : Claim
  works = claim_in d i a (drawn d i a)

  ready : Passed d (length ctx) (length routes) (length log)
  unfolding ask_check
  ready = (passed d (length ctx) (length routes) (length log) (claim_check d i a Pass) e).0

  cut : CutHere o (claim_course works ctx routes) stops command.Configure (settings_doubted answer.Cut (claim_context works ctx) routes)
  unfolding works claim_in
  cut = claim_at_configure works ctx routes o (λ k l m. dones_before stops k (omega arith)) (dones_past stops)

  run : claim d ctx routes log o i a ≡ claim_run d ctx routes log o i a (drawn d i a)
  unfolding claim ask_check on_check
  run = rw e refl

  context : (claim d ctx routes log o i a).ctx ≡ claim_context works ctx
  unfolding works ended played
  context = ap (λ (l : Left). l.ctx) run ∙ ap (λ x. x.ctx) cut.result_is

  counted : (claim d ctx routes log o i a).count ≡ stops + 1
  unfolding works ended played
  counted = ap (λ (l : Left). l.count) run ∙ omega (arith, cut.count)

  logged : get_or (claim d ctx routes log o i a).log stops 0 ≡ command_word command.Configure
  unfolding works ended
  logged =
      let z : 0 + stops ≡ stops = omega arith in
      ap (λ (l : Left). get_or l.log stops 0) run
      ∙ (rw z at (log_word o 0 (claim_course works ctx routes) log stops (omega (arith, cut.count))
      (omega (arith, cut.count, ready.room, queues_fit (owned_rings (Interface i) (endpoint_map_in d))))))
      ∙ cut.word

  flags_shown : FlagsShown d (length (queues_of (owned_rings (Interface i) (endpoint_map_in d)))) (ask_of d i a) (claim d ctx routes log o i a)
  unfolding ask_of claim_in works claim_context
  flags_shown =
      let old = placed_if (list_of d) ready.facts.list (is_held i (held_of d)) i (alternate_of i (held_of d)) in
      let new = placed_setting (list_of d) ready.facts.list i a in
      let s = d.spacing in
      record {
        count = counted;
        word = logged;
        drops = λ k two h. ap (λ c. read_at s c CONTROL (DROP-FLAG k)) context
            ∙ drop_flag_reads _ _ _ _ _ _ _ s ctx ready.spaced k two h ∙ sym (flags_promise _ k h);
        adds = λ k two h. ap (λ c. read_at s c CONTROL (ADD-FLAG k)) context
            ∙ add_flag_reads _ _ _ _ _ _ _ s ctx ready.spaced k two h ∙ sym (flags_promise _ k h);
        low = (flags_low _ (placed_endpoints _ old), flags_low _ (placed_endpoints _ new));
        high = (flags_below_lem _, flags_below_lem _);
      }

pub shown_promise : AskFlagsPromise
shown_promise d ctx routes log i a = go (ask_check d (length ctx) (length routes) (length log) i a Pass) refl
  where
    go : (x : Check) → ask_check d (length ctx) (length routes) (length log) i a Pass ≡ x →
        let n = length (queues_of (owned_rings (Interface i) (endpoint_map_in d))) in
        let r = asked_now d ctx routes log (replicate n 0) i a in
        r.0 ≡ answer.Accepted → FlagsShown d n r.1 (claim d ctx routes log (replicate n 0) i a)
    go (Ok _) e = rw (asked_pass d ctx routes log [] i a e) (λ h. flags_shown d ctx routes log i a e)
    go (Err z) e = rw (asked_refused d ctx routes log [] i a z e) (λ h. absurd (not_accepted d _ _ _ i a z e h))
