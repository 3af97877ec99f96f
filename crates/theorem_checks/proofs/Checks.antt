-- The calls check what specs/Checks.antt says.
use Rattle.std.proofs.Common.{Some, None, Ok, Err}
use Prim.Native.Nat.{ℕ, zero, suc, ◌+◌, ◌-◌, ◌*◌, ◌/◌, ◌≤◌, ◌<◌}
use mathlib.Core.Path.{◌≡◌, refl, sym, ap, ◌∙◌}
use mathlib.Core.Logic.{◌⊎◌, inl, inr, ⊎_elim}
use mathlib.Core.Bool.{Bool, true, false, cond, ◌&&◌, ◌||◌}
use mathlib.Core.List.{List, [], ◌∷◌}
use native.Mathlib.Omega.{arith}
use borrow.Author.Tests.{eqb-true, eqb-false, eq-eqb, le-leb, leb-true}
use lib.Dec.{eqb, leb}
use lib.ListN.{length, get_or, take}
use lib.Seq.{length-take-le}
use Rattle.laws.specs.Distinct.{elem, distinct}
use Rattle.laws.proofs.Tests.{and_left, and_right, and-true, not_both}
use Rattle.laws.proofs.Cases.{Decided, decided, or_cases, or_left, or_right, false_if}
use Rattle.laws.proofs.Distinct.{distinct_first, distinct_rest, distinct_cons, distinct_fits}
use Rattle.def.specs.Speed.{speed_known}
use Rattle.answer.specs.declared.Answer.{Answer}
use Rattle.answer.specs.declared.Answer.TheVariants as answer
use Rattle.answer.specs.Answer.{number}
use Rattle.answer.specs.Check.{Check, Pass, Refuse, unless}
use Rattle.command.specs.Course.{words as course_words, played}
use Rattle.course_claim.specs.Claim.{claim_course}
use Rattle.course_release.specs.Release.{release_course}
use Rattle.course_set_configuration.specs.SetConfiguration.{set_course}
use Rattle.course_disconnect.specs.Disconnect.{disconnect_course}
use Rattle.descriptor.specs.Word.{endpoint_descriptor}
use Rattle.descriptor_list.specs.Lookup.{find_endpoints}
use Rattle.hub.specs.ThinkTime.{think_time}
use Rattle.transfer.specs.Routes.{route_index, route_of, with_route}
use Rattle.context.specs.Place.{spacing_of}
use Rattle.record_ring.specs.Store.{free_rings}
use Rattle.record_ring.proofs.Promises.{free_promise}
use Rattle.record_ring.proofs.Sorted.{elem_take, distinct_not_among}
use Rattle.record_endpoint.specs.Order.{place_of}
use Rattle.record_endpoint.specs.Endpoint.{blank, rings_of}
use Rattle.record_endpoint.specs.EndpointMap.{queues_of, queue_dcis}
use Rattle.record_endpoint.proofs.Laws.{place_same}
use Rattle.record_settings.specs.Held.{is_held, is_found, setting_words}
use Rattle.record_settings.specs.Match.{address_free, addresses_free}
use Rattle.record_settings.proofs.Laws.{has_place_lem, setting_place, free_at}
use Rattle.record_checks.specs.Think.{is_thought, think_check}
use Rattle.course_init.specs.Reading.{BringUp, control_ring}
use Rattle.device.specs.declared.record.Device.{Device}
use Rattle.device.specs.Device.{words_of, list_of, endpoint_map_in, held_of, quarantined_of, given_of, free_of}
use Rattle.device.specs.Sound.{live_rings, sound}
use Rattle.device.specs.Left.{Left, refused, ended}
use Rattle.device.specs.Check.{record_check, disconnect_check, hub_check}
use Rattle.device.specs.Calls.{on_check, hub_context, hub_course, hub_left, hub_update}
use Rattle.device.specs.Claim.{claim_check, drawn, claim_in, claim_run, claim}
use Rattle.device.specs.SetConfiguration.{settings_in, set_run, set_configuration}
use Rattle.device.specs.Disconnect.{disconnect_run, disconnect}
use Rattle.device.specs.Release.{release_check, release_in, release_run, release}
use Rattle.device.specs.Ask.{Ask, ask_of, ask_check, returned, ask, same_ask, current_check, commit}
use Rattle.device.proofs.Facts.{sound_facts}
use Rattle.device_bring_up.specs.BringUp.{slot_check, device_check, queue_check, bring_up_check, bring_up_course, brought_left, bring_up}
use Rattle.theorem_slot.specs.Call.{Buffers, Asked, brings_up, claims, commits, releases, configures, updates_hub, disconnects, Call, left}
use Rattle.theorem_slot.specs.Answers.{is_refused, refused_record}
use Rattle.theorem_slot.proofs.Ends.{bring_up_sends, claim_sends, release_sends, set_sends, hub_sends, disconnect_sends}
use Rattle.theorem_slot.proofs.Returned.{sound_returned}
use Rattle.theorem_ask.proofs.Promises.{same_ask_self, same_ask_told}
use Rattle.theorem_checks.specs.Descriptors.{address_of, IsSuper, ListFits, CompanionsFit, Listed}
use Rattle.theorem_checks.specs.Hubs.{ChainFits}
use Rattle.theorem_checks.specs.Record.{list_in, EndpointAt, EndpointRing, IsFree, RingsFit, FreeRings}
use Rattle.theorem_checks.specs.Checks.{Condition, asked, AllHold, FirstFails, Gives, Fit, ContextFits, RoutesFit, fit_conditions, IsListed, NoneOwned, EnoughFree, claim_conditions, WouldReturn, HoldsSome, release_conditions, ThinkFits, hub_conditions, SlotFits, bring_up_conditions, conditions, Judged, PassExactly, AskJudged, AskPasses}
use Rattle.theorem_checks.proofs.Descriptors.{lookup_tells}
use Rattle.theorem_checks.proofs.Companions.{list_tells, companions_tell}
use Rattle.theorem_checks.proofs.Endpoints.{ring_elem, elem_ring}
use Rattle.theorem_checks.proofs.Hubs.{chain_tells}
use Rattle.theorem_checks.proofs.Numbers.{differ_distinct, distinct_differ, each_elem, elem_each}
use Rattle.theorem_checks.proofs.Record.{rings_fit_read, rings_fit_made, word_address, At, at_or_none, entry, given_elem, elem_given, quarantined_elem, elem_quarantined, endpoint_ring, holds_held, held_holds, sound_tells}

-- A check decides some conditions: it passes exactly if all hold, and refuses with what the first that does not has.
pub record Decides (k : Check) (cs : List Condition) : Type 0 where
  pub pass : k ≡ Pass → AllHold cs
  pub passed : AllHold cs → k ≡ Pass
  pub refuses : (a : Answer) → FirstFails cs a → k ≡ Refuse a
  pub first : (a : Answer) → k ≡ Refuse a → FirstFails cs a

pass_refuse : {P : Type 0} (a : Answer) → Pass ≡ Refuse a → P
pass_refuse a e = absurd (cc)

refuse_pass : {P : Type 0} (a : Answer) → Refuse a ≡ Pass → P
refuse_pass a e = absurd (cc)

same_refusal : (a b : Answer) → Refuse a ≡ Refuse b → a ≡ b
same_refusal a b e = cc

none : Decides Pass []
unfolding AllHold FirstFails
none =
    record {
      pass = λ e. tt;
      passed = λ t. refl;
      refuses = λ a f. absurd f;
      first = λ a e. pass_refuse a e;
    }

-- One condition, and those that follow where it holds.
next : (b : Bool) (asks : Type 0) (a : Answer) (k : Check) (cs : List Condition) → (b ≡ true → asks) → (asks → b ≡ true) →
    (asks → Decides k cs) → Decides (unless b a k) (asked asks a ∷ cs)
unfolding AllHold FirstFails
next true asks a k cs r m d =
    let h = r refl in
    let t = d h in
    record {
      pass = λ e. (h, t.pass e);
      passed = λ g. t.passed g.1;
      refuses = λ z f. ⊎_elim (λ n. absurd (n.0 h)) (λ g. t.refuses z g.1) f;
      first = λ z e. inr (h, t.first z e);
    }
next false asks a k cs r m d =
    record {
      pass = λ e. refuse_pass a e;
      passed = λ g. not_both false (m g.0) refl;
      refuses = λ z f. ⊎_elim (λ n. ap Refuse n.1) (λ g. not_both false (m g.0) refl) f;
      first = λ z e. inl (λ h. not_both false (m h) refl, same_refusal a z e);
    }

instead : (j k : Check) (cs : List Condition) → j ≡ k → Decides k cs → Decides j cs
instead j k cs e d = rw e d

-- The marks and the lengths.
mark_read : (mark : Bool) (d : Device) → (mark && sound d) ≡ true → Fit mark d
mark_read mark d e = record { marked = and_left mark (sound d) e; is_sound = (sound_tells d).0 (and_right mark (sound d) e) }

mark_made : (mark : Bool) (d : Device) → Fit mark d → (mark && sound d) ≡ true
mark_made mark d f = and-true mark (sound d) f.marked ((sound_tells d).1 f.is_sound)

context_read : (spacing n : ℕ) → (spacing ≡ 32) ⊎ (spacing ≡ 64) → eqb n (33 * spacing) ≡ true → ContextFits spacing n
context_read spacing n (inl s) e = inl (s, omega (arith, s, eqb-true n (33 * spacing) e))
context_read spacing n (inr s) e = inr (s, omega (arith, s, eqb-true n (33 * spacing) e))

context_made : (spacing n : ℕ) → ContextFits spacing n → eqb n (33 * spacing) ≡ true
context_made spacing n (inl t) = eq-eqb n (33 * spacing) (omega (arith, t.0, t.1))
context_made spacing n (inr t) = eq-eqb n (33 * spacing) (omega (arith, t.0, t.1))

fit_decides : (mark : Bool) (d : Device) (ctx routes log : ℕ) (own : Check) (cs : List Condition) →
    (Fit mark d → ContextFits d.spacing ctx → RoutesFit d.max_slots routes → 64 ≤ log → Decides own cs) →
    Decides (unless (mark && sound d) answer.Unusable
    (unless (eqb ctx (33 * d.spacing)) answer.ContextLength
    (unless (eqb routes (32 * (d.max_slots + 1))) answer.RoutesLength
    (unless (leb 64 log) answer.LogTooShort own)))) (fit_conditions mark d ctx routes log cs)
fit_decides mark d ctx routes log own cs own_decides =
    next (mark && sound d) (Fit mark d) answer.Unusable _ _ (mark_read mark d) (mark_made mark d)
    (λ f.
    next (eqb ctx (33 * d.spacing)) (ContextFits d.spacing ctx) answer.ContextLength _ _
    (context_read d.spacing ctx f.is_sound.spacing) (context_made d.spacing ctx)
    (λ c.
    next (eqb routes (32 * (d.max_slots + 1))) (RoutesFit d.max_slots routes) answer.RoutesLength _ _
    (eqb-true routes (32 * (d.max_slots + 1))) (eq-eqb routes (32 * (d.max_slots + 1)))
    (λ r. next (leb 64 log) (64 ≤ log) answer.LogTooShort own cs (leb-true 64 log) (le-leb 64 log) (λ l. own_decides f c r l))))

-- The alternate, its addresses and the free rings.
module _ (d : Device) (i a : ℕ) where
  abbrev words : List ℕ
  words = setting_words (list_of d) i a

  found_read : is_found (find_endpoints (list_of d) i a) ≡ true → IsListed d i a
  unfolding list_of words_of
  found_read e = record { words = words; listed = (lookup_tells (list_of d) i a).found e }

  pub listed_is : (ws : List ℕ) → Listed (list_in d) i a ws → (is_found (find_endpoints (list_of d) i a) ≡ true) × (words ≡ ws)
  unfolding list_of words_of
  listed_is ws l = (lookup_tells (list_of d) i a).listed ws l

  pub listed_words : IsListed d i a → Listed (list_in d) i a words
  listed_words l = rw (listed_is l.words l.listed).1 l.listed

  module _ (is_sound : sound d ≡ true) where
    pub word_place : (k : ℕ) → k < length words → place_of (endpoint_descriptor (get_or words k 0)).address < 30
    word_place k h = setting_place (list_of d) (sound_facts d is_sound).list i a k h

    -- What it says of an endpoint word that no other interface owns its address, and that one does.
    pub word_free : (w j owner ring : ℕ) → address_free w i (endpoint_map_in d) ≡ true → EndpointAt d j (address_of w) owner ring → owner ≡ i
    unfolding address_free
    word_free w j owner ring free t =
        let p = place_of (endpoint_descriptor w).address in
        let en = entry d (sound_facts d is_sound).addresses_fit_lem j t.counted t.inside in
        let at : place_of (get_or d.eps j blank).address ≡ p = ap place_of (t.address_is ∙ sym (word_address w)) in
        let some : get_or (endpoint_map_in d).rings p 0 ≡ 0 → ⊥ =
        λ z. (((sound_tells d).0 is_sound).rings _ (inl (inl (record { at = j; address = _; owner = _; there = t })))).nonzero (sym t.ring_is ∙ sym (rw at at en.rings) ∙ z) in
        sym ((rw at at en.owners) ∙ t.owner_is)
        ∙ ⊎_elim (λ z. absurd (some (eqb-true (get_or (endpoint_map_in d).rings p 0) 0 z))) (λ z. eqb-true (get_or (endpoint_map_in d).owners p 0) i z)
        (or_cases (eqb (get_or (endpoint_map_in d).rings p 0) 0) (eqb (get_or (endpoint_map_in d).owners p 0) i) free)

    -- the endpoint that another interface has at the word's address
    pub record OwnedByOther (w : ℕ) : Type 0 where
      pub at : ℕ
      pub ring : ℕ
      pub there : EndpointAt d at (address_of w) (get_or (endpoint_map_in d).owners (place_of (endpoint_descriptor w).address) 0) ring
      pub other : get_or (endpoint_map_in d).owners (place_of (endpoint_descriptor w).address) 0 ≡ i → ⊥

    pub word_owned : (w : ℕ) → place_of (endpoint_descriptor w).address < 30 → address_free w i (endpoint_map_in d) ≡ false → OwnedByOther w
    unfolding address_free
    word_owned w low e = go (at_or_none d (place_of (endpoint_descriptor w).address) low)
      where
        ring : ℕ
        ring = get_or (endpoint_map_in d).rings (place_of (endpoint_descriptor w).address) 0

        owner : ℕ
        owner = get_or (endpoint_map_in d).owners (place_of (endpoint_descriptor w).address) 0

        go : At d (place_of (endpoint_descriptor w).address) ⊎ (get_or (endpoint_map_in d).rings (place_of (endpoint_descriptor w).address) 0 ≡ 0) → OwnedByOther w
        go (inr z) = not_both (eqb ring 0 || eqb owner i) (or_left (eqb ring 0) (eqb owner i) (eq-eqb ring 0 z)) e
        go (inl t) =
            let en = entry d (sound_facts d is_sound).addresses_fit_lem t.at t.counted t.inside in
            record {
              at = t.at;
              ring = (get_or d.eps t.at blank).ring;
              there =
                  record {
                    counted = t.counted;
                    inside = t.inside;
                    address_is = place_same (get_or d.eps t.at blank).address (endpoint_descriptor w).address (rw t.placed low) t.placed ∙ word_address w;
                    owner_is = sym (rw t.placed at en.owners);
                    ring_is = refl;
                  };
              other = λ o. not_both (eqb ring 0 || eqb owner i) (or_right (eqb ring 0) (eqb owner i) (eq-eqb owner i o)) e;
            }

    free_read : addresses_free words i (endpoint_map_in d) ≡ true → NoneOwned d i a
    unfolding address_free
    free_read e ws l k h j owner ring t =
        let same : words ≡ ws = (listed_is ws l).1 in
        let w = get_or words k 0 in
        let p = place_of (endpoint_descriptor w).address in
        word_free w j owner ring (free_at words i (endpoint_map_in d) p e (has_place_lem words k (rw same h))) (rw (← same) at t)

    free_each : (ws : List ℕ) → ((k : ℕ) → k < length ws → address_free (get_or ws k 0) i (endpoint_map_in d) ≡ true) →
        addresses_free ws i (endpoint_map_in d) ≡ true
    unfolding addresses_free
    free_each [] f = refl
    free_each (w ∷ ws) f =
        and-true (address_free w i (endpoint_map_in d)) (addresses_free ws i (endpoint_map_in d)) (f 0 (omega arith))
        (free_each ws (λ k h. f (suc k) (omega arith)))

    free_made : IsListed d i a → NoneOwned d i a → addresses_free words i (endpoint_map_in d) ≡ true
    free_made l f = free_each words (λ k h. go k h (decided (address_free (get_or words k 0) i (endpoint_map_in d))))
      where
        go : (k : ℕ) → k < length words → Decided (address_free (get_or words k 0) i (endpoint_map_in d)) →
            address_free (get_or words k 0) i (endpoint_map_in d) ≡ true
        go k h (inl e) = e
        go k h (inr e) =
            let t = word_owned (get_or words k 0) (word_place k h) e in
            absurd (t.other (f words (listed_words l) k h t.at _ t.ring t.there))

-- Free rings.
module _ (d : Device) where
  pub free_is : (x : ℕ) → elem x (free_of d) ≡ true → IsFree d x
  unfolding free_of live_rings
  free_is x e =
      let r = (free_promise (given_of d) (rings_of (take d.ep_count d.eps)) d.control (quarantined_of d) x).0 e in
      record {
        given = elem_given d x r.is_given;
        not_live = λ l. ⊎_elim (λ m. not_both (elem x (rings_of (take d.ep_count d.eps))) (ring_in x m) r.not_live) (λ s. r.not_control (sym s)) l;
        not_quarantined = λ q. not_both (elem x (quarantined_of d)) (quarantined_elem d x q) r.not_quarantined;
      }
    where
      ring_in : (y : ℕ) → EndpointRing d y → elem y (rings_of (take d.ep_count d.eps)) ≡ true
      ring_in y m = let t = m.there in rw t.ring_is at (ring_elem d.ep_count d.eps m.at t.counted t.inside)

  pub is_free : (x : ℕ) → IsFree d x → elem x (free_of d) ≡ true
  unfolding free_of
  is_free x f =
      (free_promise (given_of d) (rings_of (take d.ep_count d.eps)) d.control (quarantined_of d) x).1
      (record {
        is_given = given_elem d x f.given;
        not_live = false_if (elem x (rings_of (take d.ep_count d.eps)))
            (λ e. let t = elem_ring d.ep_count d.eps x e in f.not_live (inl (rw t.3 at (endpoint_ring d t.0 t.1 t.2))));
        not_control = λ e. f.not_live (inr (sym e));
        not_quarantined = false_if (elem x (quarantined_of d)) (λ e. f.not_quarantined (elem_quarantined d x e));
      })

  pub free_distinct : sound d ≡ true → distinct (free_of d) ≡ true
  unfolding free_of free_rings
  free_distinct s = distinct_not_among _ (given_of d) (differ_distinct (given_of d) (rings_fit_read (given_of d) (sound_facts d s).store.fit).differ)

  take_distinct : (n : ℕ) (l : List ℕ) → distinct l ≡ true → distinct (take n l) ≡ true
  unfolding distinct
  take_distinct zero l e = refl
  take_distinct (suc n) [] e = refl
  take_distinct (suc n) (x ∷ l) e =
      distinct_cons x (take n l)
      (false_if (elem x (take n l)) (λ h. not_both (elem x l) (elem_take n x l h) (distinct_first x l e)))
      (take_distinct n l (distinct_rest x l e))

  rings_free : sound d ≡ true → (n : ℕ) → leb n (length (free_of d)) ≡ true → FreeRings d n
  rings_free s n e =
      record {
        rings = take n (free_of d);
        counted = length-take-le n (free_of d) (leb-true n (length (free_of d)) e);
        differ = distinct_differ (take n (free_of d)) (take_distinct n (free_of d) (free_distinct s));
        free = elem_each (IsFree d) (take n (free_of d)) (λ x h. free_is x (elem_take n x (free_of d) h));
      }

  free_rings_many : (n : ℕ) → FreeRings d n → leb n (length (free_of d)) ≡ true
  free_rings_many n f =
      le-leb n (length (free_of d))
      (omega (arith, f.counted, distinct_fits f.rings (free_of d) (differ_distinct f.rings f.differ) (λ x h. is_free x (each_elem (IsFree d) f.rings f.free x h))))

-- The claim's own checks.
claim_decides : (d : Device) (i a : ℕ) (k : Check) (cs : List Condition) → sound d ≡ true →
    (IsListed d i a → NoneOwned d i a → EnoughFree d i a → Decides k cs) →
    Decides (claim_check d i a k) (claim_conditions d i a cs)
unfolding claim_check
claim_decides d i a k cs s more =
    next (is_found (find_endpoints (list_of d) i a)) (IsListed d i a) answer.NotFound _ _ (found_read d i a) (λ l. (listed_is d i a l.words l.listed).0)
    (λ l.
    next (addresses_free (setting_words (list_of d) i a) i (endpoint_map_in d)) (NoneOwned d i a) answer.InvalidParameter _ _ (free_read d i a s) (free_made d i a s l)
    (λ o.
    next (leb (length (setting_words (list_of d) i a)) (length (free_of d))) (EnoughFree d i a) answer.TooFewRings k cs
    (λ e ws m. let same = (listed_is d i a ws m).1 in rw same at (rings_free d s (length (setting_words (list_of d) i a)) e))
    (λ f. free_rings_many d (length (setting_words (list_of d) i a)) (f (setting_words (list_of d) i a) (listed_words d i a l)))
    (λ f. more l o f)))

-- The calls' checks.
module _ (d : Device) (ctx routes log : ℕ) where
  is_sound : Fit d.usable d → sound d ≡ true
  is_sound f = (sound_tells d).1 f.is_sound

  pub claim_judged : (i a : ℕ) → Decides (record_check d ctx routes log (claim_check d i a Pass)) (fit_conditions d.usable d ctx routes log (claim_conditions d i a []))
  unfolding record_check
  claim_judged i a = fit_decides d.usable d ctx routes log _ _ (λ f c r l. claim_decides d i a Pass [] (is_sound f) (λ t o e. none))

  pub release_judged : (i : ℕ) → Decides (record_check d ctx routes log (release_check d i)) (fit_conditions d.usable d ctx routes log (release_conditions d i))
  unfolding record_check release_check
  release_judged i =
      fit_decides d.usable d ctx routes log _ _
      (λ f c r l. next (is_held i (held_of d)) (HoldsSome d i) answer.NotClaimed Pass [] read made (λ r. none))
    where
      read : is_held i (held_of d) ≡ true → HoldsSome d i
      read e = record { alternate = _; held = held_holds d i e }

      made : HoldsSome d i → is_held i (held_of d) ≡ true
      made h = holds_held d i h.alternate h.held

  pub set_judged : Decides (record_check d ctx routes log Pass) (fit_conditions d.usable d ctx routes log [])
  unfolding record_check
  set_judged = fit_decides d.usable d ctx routes log Pass [] (λ f c r l. none)

  disconnect_judged : Decides (disconnect_check d ctx routes log) (fit_conditions d.up d ctx routes log [])
  unfolding disconnect_check
  disconnect_judged = fit_decides d.up d ctx routes log Pass [] (λ f c r l. none)

-- Think times.
abbrev in_range : ℕ → Bool
in_range ns = eqb ns 0 || (leb 1 (ns / 666) && leb (ns / 666) 4)

thought : (ns : ℕ) → is_thought (think_time ns) ≡ unless (in_range ns) answer.ThinkTime Pass
unfolding think_time is_thought
thought ns = go (eqb ns 0) (leb 1 (ns / 666) && leb (ns / 666) 4)
  where
    go : (x y : Bool) → is_thought (cond x (Some 0) (cond y (Some (ns / 666 - 1)) None)) ≡ unless (x || y) answer.ThinkTime Pass
    go true y = refl
    go false true = refl
    go false false = refl

range_read : (ns : ℕ) → in_range ns ≡ true → (ns ≡ 0) ⊎ ((666 ≤ ns) × (ns ≤ 3329))
range_read ns e = go (or_cases (eqb ns 0) (leb 1 (ns / 666) && leb (ns / 666) 4) e)
  where
    go : (eqb ns 0 ≡ true) ⊎ ((leb 1 (ns / 666) && leb (ns / 666) 4) ≡ true) → (ns ≡ 0) ⊎ ((666 ≤ ns) × (ns ≤ 3329))
    go (inl z) = inl (eqb-true ns 0 z)
    go (inr r) =
        let low : 1 ≤ ns / 666 = leb-true 1 (ns / 666) (and_left (leb 1 (ns / 666)) _ r) in
        let high : ns / 666 ≤ 4 = leb-true (ns / 666) 4 (and_right (leb 1 (ns / 666)) _ r) in
        inr (omega arith, omega arith)

range_made : (ns : ℕ) → (ns ≡ 0) ⊎ ((666 ≤ ns) × (ns ≤ 3329)) → in_range ns ≡ true
range_made ns (inl z) = or_left (eqb ns 0) _ (eq-eqb ns 0 z)
range_made ns (inr r) =
    let low = r.0 in
    let high = r.1 in
    or_right (eqb ns 0) (leb 1 (ns / 666) && leb (ns / 666) 4)
    (and-true (leb 1 (ns / 666)) (leb (ns / 666) 4) (le-leb 1 (ns / 666) (omega arith)) (le-leb (ns / 666) 4 (omega arith)))

think_decides : (speed ns : ℕ) → Decides (think_check speed ns) (asked (ThinkFits speed ns) answer.ThinkTime ∷ [])
think_decides speed ns = go (decided (eqb speed 3))
  where
    go : Decided (eqb speed 3) → Decides (cond (eqb speed 3) (is_thought (think_time ns)) Pass) (asked (ThinkFits speed ns) answer.ThinkTime ∷ [])
    go (inl p) =
        rw (p, thought ns)
        (next (in_range ns) (ThinkFits speed ns) answer.ThinkTime Pass [] (λ e s. range_read ns e) (λ f. range_made ns (f (eqb-true speed 3 p))) (λ f. none))
    go (inr p) =
        rw p
        (next true (ThinkFits speed ns) answer.ThinkTime Pass [] (λ e s. absurd (eqb-false speed 3 p s)) (λ f. refl) (λ f. none))

pub hub_judged : (d : Device) (ctx routes log ns : ℕ) →
    Decides (record_check d ctx routes log (hub_check d ns)) (fit_conditions d.usable d ctx routes log (hub_conditions d ns))
unfolding record_check hub_check
hub_judged d ctx routes log ns = fit_decides d.usable d ctx routes log _ _ (λ f c r l. think_decides d.port_speed ns)

-- Commits.
abbrev gone_well : Device → ℕ → ℕ → ℕ → ℕ → ℕ → List Condition
gone_well d ctx routes log i a = fit_conditions d.usable d ctx routes log (claim_conditions d i a [])

pub ask_pass : (d : Device) (ctx routes log i a : ℕ) → ask_check d ctx routes log i a Pass ≡ Pass → ask d ctx routes log i a ≡ (answer.Accepted, ask_of d i a)
unfolding ask returned
ask_pass d ctx routes log i a e = rw e

current_read : (d : Device) (ctx routes log : ℕ) (p : Ask) → ask_check d ctx routes log p.interface p.alternate Pass ≡ Pass →
    same_ask p (ask_of d p.interface p.alternate) ≡ true → WouldReturn d ctx routes log p
unfolding ask_of
current_read d ctx routes log p e s =
    ask_pass d ctx routes log p.interface p.alternate e ∙ ap (λ q. (answer.Accepted, q)) (same_ask_told p (ask_of d p.interface p.alternate) refl refl s)

current_made : (d : Device) (ctx routes log : ℕ) (p : Ask) → ask_check d ctx routes log p.interface p.alternate Pass ≡ Pass →
    WouldReturn d ctx routes log p → same_ask p (ask_of d p.interface p.alternate) ≡ true
current_made d ctx routes log p e w =
    let q : ask_of d p.interface p.alternate ≡ p = ap (λ (r : Answer × Ask). r.1) (sym (ask_pass d ctx routes log p.interface p.alternate e) ∙ w) in
    rw q (same_ask_self p)

commit_judged : (d : Device) (ctx routes log : ℕ) (p : Ask) → Decides (ask_check d ctx routes log p.interface p.alternate (current_check d p))
    (fit_conditions d.usable d ctx routes log
    (claim_conditions d p.interface p.alternate (asked (WouldReturn d ctx routes log p) answer.OutdatedAsk ∷ [])))
unfolding ask_check current_check record_check AllHold
commit_judged d ctx routes log p =
    let i = p.interface in
    let a = p.alternate in
    fit_decides d.usable d ctx routes log _ _
    (λ f c r l.
    claim_decides d i a _ _ (is_sound d ctx routes log f)
    (λ t o m.
    let e : ask_check d ctx routes log i a Pass ≡ Pass = (claim_judged d ctx routes log i a).passed (f, (c, (r, (l, (t, (o, (m, tt))))))) in
    next (same_ask p (ask_of d i a)) (WouldReturn d ctx routes log p) answer.OutdatedAsk Pass []
    (current_read d ctx routes log p e) (current_made d ctx routes log p e) (λ w. none)))

-- Bring-up.
slot_read : (slot slots : ℕ) → (leb 1 slot && (leb slot slots && leb slots 255)) ≡ true → SlotFits slot slots
slot_read slot slots e =
    let t = and_right (leb 1 slot) (leb slot slots && leb slots 255) e in
    record {
      low = leb-true 1 slot (and_left (leb 1 slot) _ e);
      high = leb-true slot slots (and_left (leb slot slots) _ t);
      bound = leb-true slots 255 (and_right (leb slot slots) _ t);
    }

slot_made : (slot slots : ℕ) → SlotFits slot slots → (leb 1 slot && (leb slot slots && leb slots 255)) ≡ true
slot_made slot slots f = rw (le-leb 1 slot f.low, le-leb slot slots f.high, le-leb slots 255 f.bound)

one_read : (m a b : ℕ) → (eqb m a || eqb m b) ≡ true → (m ≡ a) ⊎ (m ≡ b)
one_read m a b e = ⊎_elim (λ p. inl (eqb-true m a p)) (λ p. inr (eqb-true m b p)) (or_cases (eqb m a) (eqb m b) e)

one_made : (m a b : ℕ) → (m ≡ a) ⊎ (m ≡ b) → (eqb m a || eqb m b) ≡ true
one_made m a b (inl e) = or_left (eqb m a) (eqb m b) (eq-eqb m a e)
one_made m a b (inr e) = or_right (eqb m a) (eqb m b) (eq-eqb m b e)

speed_read : (s : ℕ) → speed_known s ≡ true → (1 ≤ s) × (s ≤ 5)
unfolding speed_known
speed_read s e = (leb-true 1 s (and_left (leb 1 s) (leb s 5) e), leb-true s 5 (and_right (leb 1 s) (leb s 5) e))

speed_made : (s : ℕ) → (1 ≤ s) × (s ≤ 5) → speed_known s ≡ true
unfolding speed_known
speed_made s h = and-true (leb 1 s) (leb s 5) (le-leb 1 s h.0) (le-leb s 5 h.1)

pub bring_up_judged : (a : BringUp) (ctx : ℕ) (routes : List ℕ) (log : ℕ) → Decides (bring_up_check a ctx routes log) (bring_up_conditions a ctx routes log)
unfolding bring_up_check slot_check device_check queue_check route_of route_index
bring_up_judged a ctx routes log =
    next _ (SlotFits a.slot a.max_slots) answer.SlotLimitReached _ _ (slot_read a.slot a.max_slots) (slot_made a.slot a.max_slots)
    (λ h1.
    next _ ((ctx ≡ 1056) ⊎ (ctx ≡ 2112)) answer.ContextLength _ _ (one_read ctx 1056 2112) (one_made ctx 1056 2112)
    (λ h2.
    next _ (RoutesFit a.max_slots (length routes)) answer.RoutesLength _ _ (eqb-true (length routes) (32 * (a.max_slots + 1)))
    (eq-eqb (length routes) (32 * (a.max_slots + 1)))
    (λ h3.
    next _ (64 ≤ log) answer.LogTooShort _ _ (leb-true 64 log) (le-leb 64 log)
    (λ h4.
    next _ ((1 ≤ a.speed) × (a.speed ≤ 5)) answer.Speed _ _ (speed_read a.speed) (speed_made a.speed)
    (λ h5.
    next _ (ListFits a.speed a.list) answer.DescriptorList _ _ (list_tells a.speed a.list).0 (list_tells a.speed a.list).1
    (λ h6.
    next _ (IsSuper a.speed → CompanionsFit a.list) answer.Companion _ _ (companions_tell a.speed a.list).0 (companions_tell a.speed a.list).1
    (λ h26.
    next _ (ChainFits a.hubs a.parent) answer.HubChain _ _ (chain_tells a.hubs a.parent).0 (chain_tells a.hubs a.parent).1
    (λ h7.
    next _ (RingsFit a.rings) answer.Rings _ _ (rings_fit_read a.rings) (rings_fit_made a.rings)
    (λ h8.
    next _ (get_or routes (32 * a.slot + 1) 0 ≡ 0) answer.QueueFull _ _ (eqb-true (get_or routes (32 * a.slot + 1) 0) 0)
    (eq-eqb (get_or routes (32 * a.slot + 1) 0) 0) (λ h9. none))))))))))

-- The calls.
unfoldable all_refuse : List Condition → Bool
all_refuse [] = true
all_refuse (c ∷ cs) = is_refused c.answer && all_refuse cs

gives_refusal : (cs : List Condition) → all_refuse cs ≡ true → (a : Answer) → Gives cs a → is_refused a ≡ true
unfolding all_refuse Gives
gives_refusal [] e a g = absurd g
gives_refusal (c ∷ cs) e a (inl s) = rw (← s) (and_left (is_refused c.answer) (all_refuse cs) e)
gives_refusal (c ∷ cs) e a (inr g) = gives_refusal cs (and_right (is_refused c.answer) (all_refuse cs) e) a g

fails_gives : (cs : List Condition) (a : Answer) → FirstFails cs a → Gives cs a
unfolding FirstFails Gives
fails_gives [] a f = absurd f
fails_gives (c ∷ cs) a (inl n) = inl n.1
fails_gives (c ∷ cs) a (inr g) = inr (fails_gives cs a g.1)

module _ (c : Call) (d : Device) (routes : List ℕ) (cs : List Condition) (run : Left) (sends : 1 ≤ run.count) (fair : all_refuse cs ≡ true) where
  abbrev l : Left
  l = left c.asked c.buffers d routes

  abbrev refusal : Answer → Left
  refusal a = refused (refused_record c.asked d) a c.buffers.ctx routes c.buffers.log

  judged : (k : Check) → l ≡ on_check k run refusal → Decides k cs → Judged cs refusal l
  unfolding on_check refused
  judged (Ok x) e t =
      record {
        either = inl (t.pass refl);
        passes = λ h. rw e sends;
        passed = λ h. t.pass refl;
        refuses = λ a f. pass_refuse a (t.refuses a f);
        refused_by = λ a g s.
            let r : is_refused l.answer ≡ true = rw s (gives_refusal cs fair a g) in
            let z : l.count ≡ 0 = ap (λ (m : Left). m.count) ((sound_returned c d routes).refusal r) in
            let n : 1 ≤ l.count = rw e sends in
            absurd (omega arith);
      }
  judged (Err z) e t =
      record {
        either = inr (z, t.first z refl);
        passes = λ h. refuse_pass z (t.passed h);
        passed = λ h. let n : l.count ≡ 0 = ap (λ (m : Left). m.count) e in absurd (omega arith);
        refuses = λ a f. rw (← same_refusal z a (t.refuses a f)) e;
        refused_by = λ a g s. t.first a (ap Refuse (sym (ap (λ (m : Left). m.answer) e) ∙ s));
      }

module _ (b : Buffers) (d : Device) (routes : List ℕ) where
  abbrev call : Asked → Call
  call a = record { asked = a; buffers = b }

  one_or_more : (ws : List ℕ) → 1 ≤ length ws → 1 ≤ 0 + length ws
  one_or_more ws h = omega (arith, h)

  each : (a : Asked) → Judged (conditions a b d routes) (λ x. refused (refused_record a d) x b.ctx routes b.log) (left a b d routes)
  unfolding conditions left refused_record all_refuse is_refused number claim commit release set_configuration hub_update disconnect bring_up ended hub_left brought_left bring_up_course played
  each (brings_up a) =
      let next = with_route routes a.slot 1 (control_ring a) in
      let spacing = spacing_of (length b.ctx) in
      judged (call (brings_up a)) d routes (conditions (brings_up a) b d routes)
      (brought_left a spacing (played b.outcomes 0 (bring_up_course a spacing b.ctx routes) b.log))
      (one_or_more (course_words b.outcomes 0 (bring_up_course a spacing b.ctx routes)) (bring_up_sends b.outcomes b.ctx next a spacing)) refl
      (bring_up_check a (length b.ctx) routes (length b.log)) refl (bring_up_judged a (length b.ctx) routes (length b.log))
  each (claims i a) =
      judged (call (claims i a)) d routes (conditions (claims i a) b d routes)
      (claim_run d b.ctx routes b.log b.outcomes i a (drawn d i a))
      (one_or_more (course_words b.outcomes 0 (claim_course (claim_in d i a (drawn d i a)) b.ctx routes)) (claim_sends b.outcomes b.ctx routes (claim_in d i a (drawn d i a)))) refl
      (record_check d (length b.ctx) (length routes) (length b.log) (claim_check d i a Pass)) refl (claim_judged d (length b.ctx) (length routes) (length b.log) i a)
  each (commits p) =
      let i = p.interface in
      let a = p.alternate in
      judged (call (commits p)) d routes (conditions (commits p) b d routes)
      (claim_run d b.ctx routes b.log b.outcomes i a (drawn d i a))
      (one_or_more (course_words b.outcomes 0 (claim_course (claim_in d i a (drawn d i a)) b.ctx routes)) (claim_sends b.outcomes b.ctx routes (claim_in d i a (drawn d i a)))) refl
      (ask_check d (length b.ctx) (length routes) (length b.log) i a (current_check d p)) refl (commit_judged d (length b.ctx) (length routes) (length b.log) p)
  each (releases i) =
      judged (call (releases i)) d routes (conditions (releases i) b d routes)
      (release_run d b.ctx routes b.log b.outcomes i)
      (one_or_more (course_words b.outcomes 0 (release_course (release_in d i) b.ctx routes)) (release_sends b.outcomes b.ctx routes (release_in d i))) refl
      (record_check d (length b.ctx) (length routes) (length b.log) (release_check d i)) refl (release_judged d (length b.ctx) (length routes) (length b.log) i)
  each (configures value) =
      judged (call (configures value)) d routes (conditions (configures value) b d routes)
      (set_run d b.ctx routes b.log b.outcomes value)
      (one_or_more (course_words b.outcomes 0 (set_course (settings_in d value) b.ctx routes)) (set_sends b.outcomes b.ctx routes (settings_in d value))) refl
      (record_check d (length b.ctx) (length routes) (length b.log) Pass) refl (set_judged d (length b.ctx) (length routes) (length b.log))
  each (updates_hub ports multi ns) =
      let ctx = hub_context d ports multi ns b.ctx in
      judged (call (updates_hub ports multi ns)) d routes (conditions (updates_hub ports multi ns) b d routes)
      (hub_left d ctx routes (played b.outcomes 0 (hub_course ctx) b.log))
      (one_or_more (course_words b.outcomes 0 (hub_course ctx)) (hub_sends b.outcomes ctx)) refl
      (record_check d (length b.ctx) (length routes) (length b.log) (hub_check d ns)) refl (hub_judged d (length b.ctx) (length routes) (length b.log) ns)
  each disconnects =
      let dcis = queue_dcis (queues_of (endpoint_map_in d).rings) in
      judged (call disconnects) d routes (conditions disconnects b d routes)
      (disconnect_run d b.ctx routes b.log b.outcomes)
      (one_or_more (course_words b.outcomes 0 (disconnect_course d.slot.0 dcis b.ctx routes)) (disconnect_sends b.outcomes b.ctx routes d.slot.0 dcis)) refl
      (disconnect_check d (length b.ctx) (length routes) (length b.log)) refl (disconnect_judged d (length b.ctx) (length routes) (length b.log))

pub pass_exactly : PassExactly
pass_exactly c d routes = each c.buffers d routes c.asked

pub ask_passes : AskPasses
unfolding ask ask_check returned all_refuse is_refused number
ask_passes d ctx routes log i a = go (record_check d ctx routes log (claim_check d i a Pass)) (claim_judged d ctx routes log i a)
  where
    fair : (x : Answer) → Gives (gone_well d ctx routes log i a) x → answer.Accepted ≡ x → ⊥
    fair x g e = not_both (is_refused x) (gives_refusal (gone_well d ctx routes log i a) refl x g) (ap is_refused (sym e))

    go : (k : Check) → Decides k (gone_well d ctx routes log i a) → AskJudged (gone_well d ctx routes log i a) (returned k (ask_of d i a))
    go (Ok x) t =
        record {
          either = inl (t.pass refl);
          passes = λ h. refl;
          passed = λ e. t.pass refl;
          refuses = λ z f. pass_refuse z (t.refuses z f);
          refused_by = λ z g e. absurd (fair z g e);
        }
    go (Err z) t =
        record {
          either = inr (z, t.first z refl);
          passes = λ h. refuse_pass z (t.passed h);
          passed = λ e. accepted z (t.first z refl) e;
          refuses = λ y f. rw (same_refusal z y (t.refuses y f));
          refused_by = λ y g e. t.first y (ap Refuse e);
        }
      where
        accepted : (y : Answer) → FirstFails (gone_well d ctx routes log i a) y → y ≡ answer.Accepted → AllHold (gone_well d ctx routes log i a)
        accepted y f e = absurd (fair y (fails_gives (gone_well d ctx routes log i a) y f) (sym e))

-- An ask whose answer is 0 is accepted.
pub ask_zero : (d : Device) (ctx routes log i a : ℕ) → number (ask d ctx routes log i a).0 ≡ 0 → (ask d ctx routes log i a).0 ≡ answer.Accepted
unfolding ask ask_check returned all_refuse is_refused number
ask_zero d ctx routes log i a = go (record_check d ctx routes log (claim_check d i a Pass)) (claim_judged d ctx routes log i a)
  where
    go : (k : Check) → Decides k (gone_well d ctx routes log i a) → number (returned k (ask_of d i a)).0 ≡ 0 → (returned k (ask_of d i a)).0 ≡ answer.Accepted
    go (Ok x) t e = refl
    go (Err z) t e =
        let r = gives_refusal (gone_well d ctx routes log i a) refl z (fails_gives (gone_well d ctx routes log i a) z (t.first z refl)) in
        not_both false (rw e at r) refl
