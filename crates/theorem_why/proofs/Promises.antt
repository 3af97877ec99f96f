-- The checks are the conditions, and the code's reason is the first unmet condition's, or that of the course.
use Prim.Native.Nat.{ℕ, ◌+◌, ◌*◌, ◌≤◌, ◌<◌}
use mathlib.Core.Path.{◌≡◌, refl, sym, ap, ◌∙◌}
use mathlib.Core.Logic.{◌⊎◌, inl, inr}
use mathlib.Core.Bool.{Bool, true, false, cond, ◌&&◌}
use mathlib.Core.List.{List, [], ◌∷◌}
use Rattle.std.proofs.Common.{Option, Some, None}
use native.Mathlib.Nat.{zero-add}
use native.Mathlib.Omega.{arith}
use borrow.Author.Tests.{lt-ltb}
use lib.Dec.{eqb, leb}
use lib.ListN.{length, get_or}
use Rattle.laws.proofs.Tests.{and_left, and_right, not_both}
use Rattle.laws.proofs.Cases.{Decided, decided}
use Rattle.answer.specs.declared.Answer.{Answer}
use Rattle.answer.specs.declared.Answer.TheVariants as answer
use Rattle.answer.specs.Answer.{number}
use Rattle.answer.specs.Check.{Check, Pass, Refuse, unless}
use Rattle.command.specs.Command.{LOG-ROOM, command_word, outcome_at}
use Rattle.command.specs.Course.{Course, ends, sends, words, result, played}
use Rattle.descriptor_list.specs.Lookup.{find_endpoints}
use Rattle.record_endpoint.specs.declared.endpoint_map.EndpointMap.{EndpointMap}
use Rattle.record_settings.specs.Held.{is_found, setting_words}
use Rattle.record_settings.specs.Match.{address_free, addresses_free}
use Rattle.course_steps.specs.End.{End}
use Rattle.course_claim.specs.Claim.{claim_course}
use Rattle.course_claim.proofs.Laws.{Refused, claim_answers}
use Rattle.device.specs.declared.record.Device.{Device}
use Rattle.device.specs.Device.{list_of, endpoint_map_in, free_of}
use Rattle.device.specs.Sound.{sound}
use Rattle.device.specs.Check.{check_marked, record_check}
use Rattle.device.specs.Left.{Left, refused, ended}
use Rattle.device.specs.Calls.{on_check}
use Rattle.device.specs.Claim.{claim_check, drawn, claim_in, claim_run, claim}
use Rattle.device.specs.Ask.{Ask, ask_check, current_check, commit}
use Rattle.device.proofs.Laws.{passed}
use Rattle.theorem_slot.specs.Answers.{Accounted}
use Rattle.theorem_slot.specs.Call.{Asked, claims, commits, Call, left}
use Rattle.theorem_slot.proofs.Few.{few_words}
use Rattle.theorem_slot.proofs.Returned.{answers_tell}
use Rattle.theorem_slot.proofs.Words.{taken_words}
use Rattle.reason.specs.declared.Reason.{Reason}
use Rattle.reason.specs.declared.Reason.TheVariants as reason
use Rattle.reason.specs.Reason.{first_owned, owned_reason, first_failed, claim_reason}
use Rattle.theorem_why.specs.Why.{Condition, asks, owners_asked, conditions, current_asked, first_unmet, check_of, on_outcome, failed_along, end_reason, unmet_reason, why_with}
use Rattle.theorem_why.specs.Promises.{ConditionsPromise, ReasonPromise, told_of}

-- One condition.
one : (b : Bool) (x : Answer) (r : Reason) (cs : List Condition) →
    check_of (first_unmet (asks b x r ∷ cs)) ≡ unless b x (check_of (first_unmet cs))
unfolding check_of first_unmet
one true x r cs = refl
one false x r cs = refl

then_one : (b : Bool) (x : Answer) (r : Reason) (cs : List Condition) {next : Check} → check_of (first_unmet cs) ≡ next →
    check_of (first_unmet (asks b x r ∷ cs)) ≡ unless b x next
then_one b x r cs e = one b x r cs ∙ ap (λ (k : Check). unless b x k) e

-- The owners of all words.
owners : (ws : List ℕ) (i : ℕ) (c : EndpointMap) (cs : List Condition) →
    check_of (first_unmet (owners_asked ws i c cs)) ≡ unless (addresses_free ws i c) answer.InvalidParameter (check_of (first_unmet cs))
unfolding owners_asked addresses_free
owners [] i c cs = refl
owners (w ∷ ws) i c cs = one (address_free w i c) answer.InvalidParameter _ _ ∙ go (address_free w i c) (owners ws i c cs)
  where
    go : (b : Bool) → check_of (first_unmet (owners_asked ws i c cs)) ≡ unless (addresses_free ws i c) answer.InvalidParameter (check_of (first_unmet cs)) →
        unless b answer.InvalidParameter (check_of (first_unmet (owners_asked ws i c cs)))
        ≡ unless (b && addresses_free ws i c) answer.InvalidParameter (check_of (first_unmet cs))
    go true e = e
    go false e = refl

module _ (d : Device) (ctx routes log i a : ℕ) (next : List Condition) where
  abbrev ws : List ℕ
  ws = setting_words (list_of d) i a

  abbrev c7 : List Condition
  c7 = asks (leb (length ws) (length (free_of d))) answer.TooFewRings reason.Rings ∷ next

  abbrev c6 : List Condition
  c6 = owners_asked ws i (endpoint_map_in d) c7

  abbrev c5 : List Condition
  c5 = asks (is_found (find_endpoints (list_of d) i a)) answer.NotFound (reason.Alternate i a) ∷ c6

  abbrev c4 : List Condition
  c4 = asks (leb LOG-ROOM log) answer.LogTooShort (reason.Number 3) ∷ c5

  abbrev c3 : List Condition
  c3 = asks (eqb routes (32 * (d.max_slots + 1))) answer.RoutesLength (reason.Number 2) ∷ c4

  abbrev c2 : List Condition
  c2 = asks (eqb ctx (33 * d.spacing)) answer.ContextLength (reason.Number 1) ∷ c3

  asks_met : ask_check d ctx routes log i a (check_of (first_unmet next)) ≡ check_of (first_unmet (conditions d ctx routes log i a next))
  unfolding ask_check record_check check_marked claim_check conditions
  asks_met =
      sym
      (then_one (d.usable && sound d) answer.Unusable (reason.Number 12) c2
      (then_one (eqb ctx (33 * d.spacing)) answer.ContextLength (reason.Number 1) c3
      (then_one (eqb routes (32 * (d.max_slots + 1))) answer.RoutesLength (reason.Number 2) c4
      (then_one (leb LOG-ROOM log) answer.LogTooShort (reason.Number 3) c5
      (then_one (is_found (find_endpoints (list_of d) i a)) answer.NotFound (reason.Alternate i a) c6
      (owners ws i (endpoint_map_in d) c7
      ∙ ap (λ (k : Check). unless (addresses_free ws i (endpoint_map_in d)) answer.InvalidParameter k)
      (one (leb (length ws) (length (free_of d))) answer.TooFewRings reason.Rings next)))))))

none_left : check_of (first_unmet []) ≡ Pass
unfolding check_of first_unmet
none_left = refl

current_left : (d : Device) (p : Ask) → check_of (first_unmet (current_asked d p)) ≡ current_check d p
unfolding current_asked current_check
current_left d p = then_one _ answer.OutdatedAsk (reason.Number 22) [] none_left

pub conditions_met : ConditionsPromise
unfolding ask_check
conditions_met d ctx routes log =
    record {
      claim = λ i a. ap (ask_check d ctx routes log i a) (sym none_left) ∙ asks_met d ctx routes log i a [];
      commit = λ p.
          ap (ask_check d ctx routes log p.interface p.alternate) (sym (current_left d p))
          ∙ asks_met d ctx routes log p.interface p.alternate (current_asked d p);
    }

-- Along the outcomes the first failed command is the first logged word with an outcome that is not 0, unless the course was cut.
one_outcome : (o : List ℕ) (n : ℕ) (failed x y : Reason) → n < length o → x ≡ y →
    on_outcome (outcome_at o n) failed x ≡ cond (eqb (get_or o n 0) 0) y failed
unfolding outcome_at on_outcome
one_outcome o n failed x y h e = go (decided (eqb (get_or o n 0) 0))
  where
    go : Decided (eqb (get_or o n 0) 0) → on_outcome (outcome_at o n) failed x ≡ cond (eqb (get_or o n 0) 0) y failed
    go (inl z) = rw (lt-ltb n (length o) h, z) e
    go (inr z) = rw (lt-ltb n (length o) h, z)

along_logged : {A : Type 0} (o : List ℕ) (n : ℕ) (c : Course A) (k : ℕ) → n + length (words o n c) ≤ length o →
    failed_along o n c (reason.Number k) ≡ first_failed o n (words o n c) k
unfolding failed_along first_failed words
along_logged o n (ends x) k h = refl
along_logged o n (sends c ctx then) k h =
    one_outcome o n (reason.Command n (command_word c)) _ _ (omega arith) (along_logged o (n + 1) (then (outcome_at o n)) k (omega arith))

-- The first word whose owner is another interface is the first unmet condition of them.
owned_unmet : (ws : List ℕ) (i : ℕ) (c : EndpointMap) (cs : List Condition) (next : Reason) → addresses_free ws i c ≡ false →
    unmet_reason (first_unmet (owners_asked ws i c cs)) next ≡ first_owned ws i c
unfolding unmet_reason first_unmet owners_asked first_owned addresses_free
owned_unmet [] i c cs next e = not_both true refl e
owned_unmet (w ∷ ws) i c cs next e = go (decided (address_free w i c)) (λ h. owned_unmet ws i c cs next h)
  where
    go : Decided (address_free w i c) →
        (addresses_free ws i c ≡ false → unmet_reason (first_unmet (owners_asked ws i c cs)) next ≡ first_owned ws i c) →
        unmet_reason (first_unmet (owners_asked (w ∷ ws) i c cs)) next ≡ first_owned (w ∷ ws) i c
    go (inl z) f = rw z (f (rw z at e))
    go (inr z) f = rw z

-- What the code says of a refusal, from its answer, is the condition's reason.
unfoldable told : Device → ℕ → ℕ → List ℕ → Option Condition → Reason → Reason
told d i a o None next = next
told d i a o (Some c) next = claim_reason d i a (number c.answer) [] o

module _ (d : Device) (i a : ℕ) (o : List ℕ) (next : Reason) where
  abbrev Same : List Condition → Type 0
  Same cs = told d i a o (first_unmet cs) next ≡ unmet_reason (first_unmet cs) next

  same_one : (b : Bool) (x : Answer) (r : Reason) (cs : List Condition) → claim_reason d i a (number x) [] o ≡ r → (b ≡ true → Same cs) → Same (asks b x r ∷ cs)
  unfolding told unmet_reason first_unmet
  same_one true x r cs p e = e refl
  same_one false x r cs p e = p

  owners_free : (ws : List ℕ) (c : EndpointMap) (cs : List Condition) → addresses_free ws i c ≡ true → first_unmet (owners_asked ws i c cs) ≡ first_unmet cs
  unfolding first_unmet owners_asked addresses_free
  owners_free [] c cs e = refl
  owners_free (w ∷ ws) c cs e =
      rw (and_left (address_free w i c) _ e) (owners_free ws c cs (and_right (address_free w i c) _ e))

  owners_refused : (ws : List ℕ) (c : EndpointMap) (cs : List Condition) → addresses_free ws i c ≡ false →
      told d i a o (first_unmet (owners_asked ws i c cs)) next ≡ claim_reason d i a (number answer.InvalidParameter) [] o
  unfolding told first_unmet owners_asked addresses_free
  owners_refused [] c cs e = not_both true refl e
  owners_refused (w ∷ ws) c cs e = go (decided (address_free w i c)) (λ h. owners_refused ws c cs h)
    where
      go : Decided (address_free w i c) →
          (addresses_free ws i c ≡ false → told d i a o (first_unmet (owners_asked ws i c cs)) next ≡ claim_reason d i a (number answer.InvalidParameter) [] o) →
          told d i a o (first_unmet (owners_asked (w ∷ ws) i c cs)) next ≡ claim_reason d i a (number answer.InvalidParameter) [] o
      go (inl z) f = rw z (f (rw z at e))
      go (inr z) f = rw z

  pub nine : sound d ≡ true → (ws : List ℕ) → claim_reason d i a (number answer.InvalidParameter) ws o ≡ first_owned (setting_words (list_of d) i a) i (endpoint_map_in d)
  unfolding claim_reason number owned_reason
  nine s ws = rw s

  same_owners : sound d ≡ true → (cs : List Condition) → Same cs → Same (owners_asked (setting_words (list_of d) i a) i (endpoint_map_in d) cs)
  same_owners s cs e = go (decided (addresses_free (setting_words (list_of d) i a) i (endpoint_map_in d)))
    where
      go : Decided (addresses_free (setting_words (list_of d) i a) i (endpoint_map_in d)) → Same (owners_asked (setting_words (list_of d) i a) i (endpoint_map_in d) cs)
      go (inl z) = rw (owners_free (setting_words (list_of d) i a) (endpoint_map_in d) cs z) e
      go (inr z) =
          owners_refused (setting_words (list_of d) i a) (endpoint_map_in d) cs z
          ∙ nine s []
          ∙ sym (owned_unmet (setting_words (list_of d) i a) i (endpoint_map_in d) cs next z)

  numbers : (claim_reason d i a (number answer.Unusable) [] o ≡ reason.Number 12) × (claim_reason d i a (number answer.ContextLength) [] o ≡ reason.Number 1)
      × (claim_reason d i a (number answer.RoutesLength) [] o ≡ reason.Number 2) × (claim_reason d i a (number answer.LogTooShort) [] o ≡ reason.Number 3)
      × (claim_reason d i a (number answer.NotFound) [] o ≡ reason.Alternate i a) × (claim_reason d i a (number answer.TooFewRings) [] o ≡ reason.Rings)
      × (claim_reason d i a (number answer.OutdatedAsk) [] o ≡ reason.Number 22)
  unfolding claim_reason number
  numbers = (refl, refl, refl, refl, refl, refl, refl)

  same_none : Same []
  unfolding told unmet_reason first_unmet
  same_none = refl

  same_current : (p : Ask) → Same (current_asked d p)
  unfolding current_asked
  same_current p = same_one _ answer.OutdatedAsk (reason.Number 22) [] numbers.6 (λ h. same_none)

  same_all : (ctx routes log : ℕ) (own : List Condition) → Same own → Same (conditions d ctx routes log i a own)
  unfolding conditions
  same_all ctx routes log own e =
      same_one (d.usable && sound d) answer.Unusable (reason.Number 12) (c2 d ctx routes log i a own) numbers.0
      (λ s.
      same_one (eqb ctx (33 * d.spacing)) answer.ContextLength (reason.Number 1) (c3 d ctx routes log i a own) numbers.1
      (λ h1.
      same_one (eqb routes (32 * (d.max_slots + 1))) answer.RoutesLength (reason.Number 2) (c4 d ctx routes log i a own) numbers.2
      (λ h2.
      same_one (leb LOG-ROOM log) answer.LogTooShort (reason.Number 3) (c5 d ctx routes log i a own) numbers.3
      (λ h3.
      same_one (is_found (find_endpoints (list_of d) i a)) answer.NotFound (reason.Alternate i a) (c6 d ctx routes log i a own) numbers.4
      (λ h4.
      same_owners (and_right d.usable (sound d) s) (c7 d ctx routes log i a own)
      (same_one (leb (length (setting_words (list_of d) i a)) (length (free_of d))) answer.TooFewRings reason.Rings own numbers.5 (λ h5. e)))))))

failed_cut : {P : Type 0} (code : ℕ) → answer.Failed code ≡ answer.Cut → P
failed_cut code z = absurd (cc)

broken_cut : {P : Type 0} → answer.InterfaceBroken ≡ answer.Cut → P
broken_cut z = absurd (cc)

-- What a course came to.
ran_reason : (e : Device) (i a : ℕ) (o : List ℕ) (course : Course End) (x : Answer) → (x ≡ answer.Accepted) ⊎ Refused x →
    ((x ≡ answer.Cut → ⊥) → length (words o 0 course) ≤ length o) →
    claim_reason e i a (number x) (words o 0 course) o ≡ end_reason o x course
unfolding claim_reason end_reason number
ran_reason e i a o course x (inl p) w = rw p refl
ran_reason e i a o course x (inr (inl (code, p))) w =
    let h : length (words o 0 course) ≤ length o = w (λ z. failed_cut code (sym p ∙ z)) in
    let k : 0 + length (words o 0 course) ≤ length o = omega arith in
    rw p (sym (along_logged o 0 course 13 k))
ran_reason e i a o course x (inr (inr (inl p))) w =
    let h : length (words o 0 course) ≤ length o = w (λ z. broken_cut (sym p ∙ z)) in
    let k : 0 + length (words o 0 course) ≤ length o = omega arith in
    rw p (sym (along_logged o 0 course 14 k))
ran_reason e i a o course x (inr (inr (inr p))) w = rw p refl

-- A claim with some conditions more: a claim has none, a commit one.
module _ (d : Device) (ctx routes log o : List ℕ) (i a : ℕ) (next : List Condition) where
  abbrev pub checked : Check
  checked = ask_check d (length ctx) (length routes) (length log) i a (check_of (first_unmet next))

  abbrev pub course : Course End
  course = claim_course (claim_in d i a (drawn d i a)) ctx routes

  abbrev pub run : Left
  run = claim_run d ctx routes log o i a (drawn d i a)

  abbrev came : Reason
  came = end_reason o (result o 0 course).answer course

  -- What it leaves, with what every call's answer says of its count.
  pub record Judged (l : Left) : Type 0 where
    pub is : l ≡ on_check checked run (λ x. refused d x ctx routes log)
    pub accounted : Accounted o l
    pub few : l.count ≤ 63

  module _ (l : Left) (j : Judged l) where
    pub refused_here : (x : Answer) → checked ≡ Refuse x → l ≡ refused d x ctx routes log
    unfolding on_check
    refused_here x e = j.is ∙ rw e

    pub passed_here : checked ≡ Pass → l ≡ run
    unfolding on_check
    passed_here e = j.is ∙ rw e

    pub counted : checked ≡ Pass → l.count ≡ length (words o 0 course)
    unfolding ended played
    counted e = rw (passed_here e) (zero-add (length (words o 0 course)))

    pub few_logged : checked ≡ Pass → length (words o 0 course) ≤ length log
    unfolding ask_check
    few_logged e = omega (arith, counted e, j.few, (passed d (length ctx) (length routes) (length log) _ e).0.room)

    whole : checked ≡ Pass → ((result o 0 course).answer ≡ answer.Cut → ⊥) → length (words o 0 course) ≤ length o
    unfolding ended played
    whole e n = rw (counted e) at (j.accounted.whole (λ z. n (rw (passed_here e) at z)))

    by_case : (u : Option Condition) → checked ≡ check_of u → told d i a o u came ≡ unmet_reason u came → told_of l o i a ≡ unmet_reason u came
    unfolding check_of told unmet_reason refused ended played
    by_case (Some c) e t = rw (refused_here c.answer e) t
    by_case None e t =
        rw (passed_here e)
        (ap (λ (ws : List ℕ). claim_reason run.device i a (number (result o 0 course).answer) ws o) (taken_words o course log (few_logged e))
        ∙ ran_reason run.device i a o course (result o 0 course).answer (claim_answers (claim_in d i a (drawn d i a)) ctx routes o 0) (whole e))

    told_is : ((r : Reason) → told d i a o (first_unmet next) r ≡ unmet_reason (first_unmet next) r) → told_of l o i a ≡ why_with next d ctx routes log o i a
    unfolding why_with
    told_is same =
        by_case (first_unmet (conditions d (length ctx) (length routes) (length log) i a next))
        (asks_met d (length ctx) (length routes) (length log) i a next)
        (same_all d i a o came (length ctx) (length routes) (length log) next (same came))

module _ (d : Device) (ctx routes log o : List ℕ) where
  abbrev call : Asked → Call
  call asked = record { asked = asked; buffers = record { ctx = ctx; log = log; outcomes = o } }

  pub claim_is : (i a : ℕ) → Judged d ctx routes log o i a [] (claim d ctx routes log o i a)
  unfolding left claim ask_check check_of first_unmet
  claim_is i a =
      record {
        is = refl;
        accounted = answers_tell (call (claims i a)) d routes;
        few = few_words (call (claims i a)) d routes;
      }

  pub commit_is : (p : Ask) → Judged d ctx routes log o p.interface p.alternate (current_asked d p) (commit d ctx routes log o p)
  unfolding left commit
  commit_is p =
      record {
        is = rw (current_left d p);
        accounted = answers_tell (call (commits p)) d routes;
        few = few_words (call (commits p)) d routes;
      }

pub reason_is : ReasonPromise
reason_is d ctx routes log o =
    record {
      claim = λ i a. told_is d ctx routes log o i a [] _ (claim_is d ctx routes log o i a) (same_none d i a o);
      commit = λ p.
          told_is d ctx routes log o p.interface p.alternate (current_asked d p) _ (commit_is d ctx routes log o p)
          (λ r. same_current d p.interface p.alternate o r p);
    }
