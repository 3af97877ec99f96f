-- What a claim whose checks have passed may rely on, and what it leaves.
use lib.Dec.{eqb}
use Rattle.std.proofs.Common.{Some, None, Result, Err}
use Rattle.std.specs.Option.{option_map_or, unwrap_or}
use Prim.Native.Nat.{ℕ, ◌+◌, ◌≤◌}
use mathlib.Core.Path.{◌≡◌, refl, sym, ap, ◌∙◌}
use mathlib.Core.Bool.{true, cond, Bool, false, ◌&&◌, true≢false}
use mathlib.Core.List.{List, [], ◌∷◌, ◌++◌}
use native.Mathlib.Omega.{arith}
use lib.ListN.{length, take, drop}
use lib.Seq.{length-take-le}
use Rattle.answer.specs.declared.Answer.{Answer}
use Rattle.answer.specs.Answer.{number, is_lost}
use Rattle.answer.specs.Check.{Check, Pass, Refuse, check_of, CheckedAs}
use Rattle.descriptor_list.specs.declared.EndpointWords.{EndpointWords}
use Rattle.descriptor_list.specs.Lookup.{find_endpoints}
use Rattle.descriptor_list.proofs.Companions.{joined_few}
use Rattle.descriptor_list.proofs.Laws.{found_inside}
use Rattle.command.specs.Course.{result, played}
use Rattle.record_ring.specs.Rings.{entered}
use Rattle.record_ring.specs.Store.{lowest, free_rings}
use Rattle.record_endpoint.specs.Endpoint.{rings_of}
use Rattle.record_ring.proofs.Promises.{given_fits}
use Rattle.laws.proofs.Tests.{and_left}
use Rattle.record_checks.proofs.Laws.{free_placed}
use Rattle.record_checks.proofs.Stored.{SoundStore, free_count, live_count}
use Rattle.record_endpoint.specs.declared.endpoint_map.EndpointMap.{EndpointMap}
use Rattle.record_endpoint.specs.declared.endpoint_map.Owner.TheVariants.{Interface}
use Rattle.record_endpoint.specs.declared.queues.Queues.{Queues}
use Rattle.record_endpoint.specs.EndpointMap.{owned_rings, pending_rings, claimed_endpoints, with_active, QueuesAs}
use Rattle.record_settings.specs.Held.{Held, is_held, alternate_of, held_alternate, found_words, setting_words, with_setting}
use Rattle.record_settings.proofs.Laws.{held_alternate_is}
use Rattle.record_checks.specs.Draw.{draw_check}
use Rattle.course_steps.specs.declared.CourseEnd.{CourseEnd}
use Rattle.course_steps.specs.End.{End}
use Rattle.course_steps.specs.Arrays as arrays
use Rattle.course_steps.proofs.Laws.{queues_as}
use Rattle.course_claim.specs.declared.ClaimArgs.{ClaimArgs}
use Rattle.course_claim.specs.declared.ClaimPlan.{ClaimPlan}
use Rattle.course_claim.specs.Claim.{Claim, claim_of, claim_course}
use Rattle.course_claim.proofs.Laws.{ClaimEnd, claim_ends, accepted, stop_failed, configure_failed, undone, broken, unrouted, cut}
use Rattle.device.specs.declared.record.Device.{Device}
use Rattle.device.specs.declared.record.Called.{Called}
use Rattle.device.specs.Device.{words_of, list_of, endpoint_map_in, held_of, quarantined_of, given_of, free_of, with_endpoints, with_held, quarantines}
use Rattle.device.specs.Sound.{live_rings, sound}
use Rattle.device.specs.Left.{leaves, ended}
use Rattle.device.specs.Check.{record_check}
use Rattle.device.specs.Claim.{claim_check, drawn, pending_of, args_in, claim_in, claim_record, claim_run}
use Rattle.device.proofs.Ends.{handed, else_quarantined}
use Rattle.device.proofs.Facts.{SoundFacts, sound_facts, none_quarantined}
use Rattle.device.proofs.Kept.{claim_entered}
use Rattle.device.proofs.Laws.{refused_first, own_check}

-- Where its rings are in doubt, a claim's settings have not moved and it is lost.
doubted_lost : (a : Claim) (ctx routes : List ℕ) (e : End) → ClaimEnd a ctx routes e → e.doubted ≡ true → (e.moved ≡ false) × (is_lost e.answer ≡ true)
unfolding number
doubted_lost a ctx routes _ (accepted d) t = absurd (true≢false (sym t))
doubted_lost a ctx routes _ stop_failed t = absurd (true≢false (sym t))
doubted_lost a ctx routes _ (configure_failed h) t = absurd (true≢false (sym t))
doubted_lost a ctx routes _ undone t = absurd (true≢false (sym t))
doubted_lost a ctx routes _ broken t = (refl, refl)
doubted_lost a ctx routes _ (unrouted n) t = (refl, refl)
doubted_lost a ctx routes _ (cut h) t = (refl, refl)

pub course_doubted : (a : Claim) (o ctx routes log ctx' routes' log' : List ℕ) (e : CourseEnd) →
    arrays.course_leaves e ctx' routes' log' ≡ played o 0 (claim_course a ctx routes) log →
    e.doubted ≡ true → (e.moved ≡ false) × (is_lost e.answer ≡ true)
unfolding played
course_doubted a o ctx routes log ctx' routes' log' e run t =
    let f = doubted_lost a ctx routes (result o 0 (claim_course a ctx routes)) (claim_ends a ctx routes o 0) (sym (ap (λ p. p.end.doubted) run) ∙ t) in
    (ap (λ p. p.end.moved) run ∙ f.0, ap (λ p. is_lost p.end.answer) run ∙ f.1)

-- The record of a claim whose rings are not in doubt, before its end is taken in.
pub not_doubted : (moved doubted lost : Bool) (rings : List ℕ) (d : Device) → doubted ≡ false → d ≡ cond moved d (quarantines (doubted && lost) rings d)
unfolding quarantines
not_doubted true doubted lost rings d e = refl
not_doubted false doubted lost rings d e = rw e

-- The alternate setting to which a claim is undone is the held one.
pub undone_to : (i : ℕ) (hs : List Held) → unwrap_or (held_alternate i hs) 0 ≡ alternate_of i hs
unfolding held_alternate alternate_of
undone_to i [] = refl
undone_to i (h ∷ hs) = go (eqb h.interface i) (undone_to i hs)
  where
    go : (b : Bool) → unwrap_or (held_alternate i hs) 0 ≡ alternate_of i hs →
        unwrap_or (cond b (Some h.alternate) (held_alternate i hs)) 0 ≡ cond b h.alternate (alternate_of i hs)
    go true e = refl
    go false e = e

if_held : (f : ℕ → List ℕ) (b : Bool) (a : ℕ) → option_map_or f (cond b (Some a) None) [] ≡ cond b (f a) []
if_held f true a = refl
if_held f false a = refl

module _ (d : Device) (i alt : ℕ) where
  -- the words of the old setting, as the code takes them
  pub old_words : (a : ClaimArgs) → a ≡ args_in d i alt → (words : List ℕ) →
      words ≡ option_map_or (setting_words (list_of d) a.interface) a.held_alternate [] →
      words ≡ cond (is_held i (held_of d)) (setting_words (list_of d) i (alternate_of i (held_of d))) []
  old_words a e words w = w ∙ rw (e, held_alternate_is i (held_of d)) (if_held (setting_words (list_of d) i) (is_held i (held_of d)) (alternate_of i (held_of d)))

  -- and of the new one
  pub new_words : (f : EndpointWords) → find_endpoints (list_of d) i alt ≡ Some f → (words : List ℕ) →
      words ≡ take f.count (drop f.start (list_of d)) → words ≡ setting_words (list_of d) i alt
  unfolding setting_words found_words
  new_words f e words w = w ∙ rw e

module _ (d : Device) (i alt : ℕ) where
  -- the code's pending rings enter quarantine as they are
  pub queues_entered :
      (ctx routes log : ℕ) {q : Queues} {by : List ℕ} → record_check d ctx routes log (claim_check d i alt Pass) ≡ Pass →
      by ≡ pending_of d i alt (drawn d i alt) → QueuesAs q by → entered (quarantined_of d) (take q.count q.rings) ≡ take q.count q.rings
  queues_entered ctx routes log k h s = rw (s.rings, h) (claim_entered d ctx routes log i alt k)

  module _ (ctx routes log : ℕ) (x : Check) (k : x ≡ record_check d ctx routes log Pass) where
    -- refused by the record's checks
    pub claim_refused : (a : Answer) → x ≡ Refuse a →
        CheckedAs (Err a) (record_check d ctx routes log (claim_check d i alt Pass)) (find_endpoints (list_of d) i alt)
    unfolding check_of
    claim_refused a p =
        record {
          check = sym p ∙ refused_first d ctx routes log x (claim_check d i alt Pass) k a p;
          value = λ found q. let z : ◌≡◌ {A = ℕ} 0 1 = cc in absurd (omega arith);
        }

    -- the call's own, after them
    pub claim_checked :
        (c : EndpointMap) (free : ℕ) (r : Result EndpointWords Answer) → x ≡ Pass → c ≡ endpoint_map_in d → free ≡ length (free_of d) →
        CheckedAs r (draw_check (list_of d) i alt c free Pass) (find_endpoints (list_of d) i alt) →
        CheckedAs r (record_check d ctx routes log (claim_check d i alt Pass)) (find_endpoints (list_of d) i alt)
    unfolding claim_check
    claim_checked c free r p h f e =
        record {
          check = own_check d ctx routes log x (claim_check d i alt Pass) k p (check_of r) (e.check ∙ rw (h, f));
          value = e.value;
        }

-- the free rings of a record without quarantined ones
pub free_none : (d : Device) → quarantined_of d ≡ [] → free_of d ≡ free_rings (given_of d) (rings_of (take d.ep_count d.eps)) d.control []
unfolding free_of
free_none d e = rw e

-- and by place
pub free_placed_in :
    (d : Device) (c : EndpointMap) → d.usable ≡ true → sound d ≡ true → c ≡ endpoint_map_in d →
    free_of d ≡ free_rings (given_of d) c.rings d.control []
unfolding endpoint_map_in live_rings
free_placed_in d c u s e =
    let f = sound_facts d s in
    rw e
    (free_none d (none_quarantined d u s)
    ∙ sym (free_placed d.ep_count d.eps d.ep_interfaces d.control f.rings.live_ok f.addresses_fit_lem (given_of d) (and_left _ _ (given_fits (given_of d) f.store.fit))))

-- the rings that the code draws for the setting's words
pub drawn_enough :
    (d : Device) (i alt : ℕ) (words live : List ℕ) → free_of d ≡ free_rings (given_of d) live d.control [] → words ≡ setting_words (list_of d) i alt →
    length (setting_words (list_of d) i alt) ≤ length (free_of d) → length words ≤ length (free_rings (given_of d) live d.control [])
drawn_enough d i alt words live n e h = rw (e, ← n) h

pub pending_drawn :
    (d : Device) (i alt : ℕ) (words live by : List ℕ) → free_of d ≡ free_rings (given_of d) live d.control [] → words ≡ setting_words (list_of d) i alt →
    by ≡ pending_rings words (lowest (length words) (free_rings (given_of d) live d.control [])) → by ≡ pending_of d i alt (drawn d i alt)
unfolding pending_of drawn
pending_drawn d i alt words live by n e p = p ∙ rw (e, ← n)

-- as many words as the record counts, and a setting found among them
pub list_length : (d : Device) → SoundFacts d → length d.list ≡ 256 → length (words_of d) ≡ d.list_len
unfolding words_of
list_length d f room = length-take-le d.list_len d.list (omega (arith, room, f.counts.list))

pub setting_inside : (d : Device) → SoundFacts d → length d.list ≡ 256 → (i alt : ℕ) (f : EndpointWords) →
    find_endpoints (list_of d) i alt ≡ Some f → f.start + f.count ≤ d.list_len
unfolding list_of
setting_inside d g room i alt f e = omega (arith, found_inside _ _ _ _ e, joined_few (words_of d), list_length d g room)

-- The free rings of a usable record are as many as were given less its endpoints' and control's.
pub free_many :
    (d : Device) → d.usable ≡ true → sound d ≡ true → length d.eps ≡ 30 → length d.given ≡ 64 →
    length (free_of d) + (d.ep_count + 1) ≡ d.given_count
unfolding live_rings given_of
free_many d u s e g =
    let f = sound_facts d s in
    let none : quarantined_of d ≡ [] = none_quarantined d u s in
    let live = rings_of (take d.ep_count d.eps) in
    let store : SoundStore (given_of d) (live ++ (d.control ∷ [])) [] = rw none at f.store in
    let sum : length (free_rings (given_of d) live d.control []) + (length live + 1) ≡ length (given_of d) =
    free_count (given_of d) live d.control store f.rings.live_distinct in
    let n : length live ≡ d.ep_count = live_count d.ep_count d.eps (omega (arith, e, f.counts.endpoints)) in
    let m : length (given_of d) ≡ d.given_count = length-take-le d.given_count d.given (omega (arith, g, f.counts.given)) in
    rw (free_none d none) (omega (arith, sum, n, m))

module _ (d : Device) (i alt : ℕ) (rings : List ℕ) where
  -- what the course of a claim works on, in the code's arrays
  claim_made_in :
      (a : ClaimPlan) (c : EndpointMap) (by old new : List ℕ) → c ≡ endpoint_map_in d → by ≡ pending_of d i alt rings →
      old ≡ cond (is_held i (held_of d)) (setting_words (list_of d) i (alternate_of i (held_of d))) [] →
      new ≡ setting_words (list_of d) i alt →
      a.args ≡ args_in d i alt → QueuesAs a.old (owned_rings (Interface i) c) → QueuesAs a.pending by →
      QueuesAs a.all c.rings → claim_of a old new ≡ claim_in d i alt rings
  unfolding claim_in arrays.dcis_in
  claim_made_in a c by old new e p eo en g o n m =
      let q = queues_as a.old _ o in
      let pending = queues_as a.pending by n in
      rw (g, eo, en, q, pending, m.dcis, e, p)

  -- what a claim leaves is what the end of its course makes
  pub claim_left :
      (a : ClaimPlan) (c : EndpointMap) (by old new o ctx routes log ctx' routes' log' : List ℕ) (e : CourseEnd) (r : Called) → c ≡ endpoint_map_in d →
      by ≡ pending_of d i alt rings →
      old ≡ cond (is_held i (held_of d)) (setting_words (list_of d) i (alternate_of i (held_of d))) [] →
      new ≡ setting_words (list_of d) i alt →
      a.args ≡ args_in d i alt → QueuesAs a.old (owned_rings (Interface i) c) → QueuesAs a.pending by →
      QueuesAs a.all c.rings →
      arrays.course_leaves e ctx' routes' log' ≡ played o 0 (claim_course (claim_of a old new) ctx routes) log →
      leaves r ctx' routes' log' ≡ ended (claim_record d i alt rings) (arrays.course_leaves e ctx' routes' log') →
      leaves r ctx' routes' log' ≡ claim_run d ctx routes log o i alt rings
  claim_left a c by old new o ctx routes log ctx' routes' log' e r h q eo en g x y z run m =
      m ∙ sym (rw (← claim_made_in a c by old new h q eo en g x y z, ← run))

  -- the record that the end of the course makes
  pub claim_made :
      (y : Device) (c m : EndpointMap) (q : Queues) (e : CourseEnd) (by : List ℕ) (r : Called) → m ≡ claimed_endpoints i by c →
      y ≡ cond e.moved d (quarantines (e.doubted && is_lost e.answer) (take q.count q.rings) d) →
      r ≡ handed e
      (cond e.moved (with_held (with_setting i alt (held_of d)) (with_endpoints m y)) (with_endpoints (with_active (Interface i) e.active c) y)) →
      c ≡ endpoint_map_in d → QueuesAs q by → by ≡ pending_of d i alt rings → (ctx routes log : List ℕ) →
      leaves r ctx routes log ≡ ended (claim_record d i alt rings) (arrays.course_leaves e ctx routes log)
  unfolding claim_record ended
  claim_made y c m q e by r p ey er k s h ctx routes log =
      let z = else_quarantined e.moved (e.doubted && is_lost e.answer) d y (with_setting i alt (held_of d)) m (with_active (Interface i) e.active c) _ ey in
      rw (er, z, s.rings, p, k, h)
