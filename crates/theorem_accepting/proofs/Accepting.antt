-- The statements of specs/Accepting.antt.
use Prim.Native.Nat.{ℕ, ◌+◌, ◌*◌, ◌<◌}
use mathlib.Core.Path.{◌≡◌, refl, sym, ap, ◌∙◌}
use mathlib.Core.Bool.{true, false, cond}
use mathlib.Core.List.{List, [], ◌∷◌, ◌++◌}
use native.Mathlib.Decide.{dec_lt}
use native.Mathlib.Omega.{arith}
use borrow.Author.Tests.{eq-eqb, le-leb, not-false}
use lib.Dec.{eqb}
use lib.ListN.{length, get_or, drop, replicate, length-append, get_or-replicate}
use lib.Seq.{ext_get_or, get_or-append_seam}
use Rattle.answer.specs.Check.{Check, Pass}
use Rattle.answer.specs.Answer.{number}
use Rattle.command.specs.Course.{words, result, played}
use Rattle.descriptor.specs.Word.{endpoint_descriptor}
use Rattle.context_block.specs.Blocks.{word_dci, some_dci}
use Rattle.context.specs.Steps.{word_dcis}
use Rattle.transfer.specs.Routes.{route_of, queues, ring_for, OutsideSlot}
use Rattle.transfer.proofs.Laws.{ring_for_none}
use Rattle.laws.proofs.Stores.{get_d_second}
use Rattle.record_endpoint.specs.Order.{dci_at, place_of}
use Rattle.record_endpoint.specs.declared.endpoint_map.EndpointMap.{EndpointMap}
use Rattle.record_endpoint.specs.declared.endpoint_map.Owner.TheVariants.{Interface}
use Rattle.record_endpoint.specs.EndpointMap.{no_endpoints, is_owned, pending_rings, claimed_ring, claimed_endpoints}
use Rattle.record_endpoint.proofs.Laws.{place_dci, claimed_ring_lem}
use Rattle.record_settings.specs.Held.{Held, is_held, setting_words, without_setting}
use Rattle.record_settings.specs.Match.{has_place}
use Rattle.record_settings.proofs.Laws.{held_with, alternate_with, has_place_lem, setting_place, match_facts, match_unheld}
use Rattle.theorem_routing.proofs.Laws.{free_ring, each_dci, words_dci, words_ring, low_kept, outside_kept, length_kept}
use Rattle.course_steps.specs.End.{answer_of}
use Rattle.device.specs.declared.record.Device.{Device}
use Rattle.device.specs.Device.{list_of, endpoint_map_in, held_of}
use Rattle.device.specs.Left.{Left, ended, marked}
use Rattle.device.specs.Check.{record_check}
use Rattle.device.specs.Calls.{on_check, hub_course, hub_left, hub_update}
use Rattle.device.specs.Claim.{claim_check, drawn, claim}
use Rattle.device.specs.Release.{release_check, release}
use Rattle.device.specs.SetConfiguration.{set_record, set_configuration}
use Rattle.device.proofs.Updates.{same_then}
use Rattle.device.proofs.Made.{made_usable, sound_clean}
use Rattle.device.proofs.Kept.{claim_passed, set_value}
use Rattle.device.proofs.Laws.{passed}
use Rattle.theorem_accepting.specs.Accepting.{Claimed, Released, Configured, Enough, Accepted, ClaimAccepted, ReleaseAccepted, ReleaseBack, SetAccepted, SetAgain, HubAccepted}
use Rattle.theorem_accepting.proofs.Checked.{Checked, claim_checked, release_checked, set_checked, hub_passes}
use Rattle.theorem_accepting.proofs.Back.{same_words_lem, setting_back, map_back}
use Rattle.theorem_accepting.proofs.Runs.{Ran, done_at, offer_nonzero, offer_places, claim_ran, release_ran, set_end, set_ends, set_ran}

-- What a call that ran gives.
accepted :
    (d : Device) (routes : List ℕ) (hs : List Held) (c : EndpointMap) (x y : List ℕ) (l : Left) →
    Ran d routes hs c x y l → length routes ≡ 32 * (d.max_slots + 1) → Accepted d l
accepted d routes hs c x y l r t =
    record {
      answer = r.answer;
      same = r.made.same;
      usable = made_usable r.made refl;
      is_sound = r.made.is_sound;
      table = rw (r.left, r.made.same.max_slots) (length_kept routes d.slot.0 x y ∙ t);
      routed = λ p h. rw (r.made.endpoints, r.made.same.slot) (r.routed p h);
    }

table_length :
    (d : Device) (ctx routes log o : List ℕ) (check : Check) → Checked d ctx routes log o check → length routes ≡ 32 * (d.max_slots + 1)
table_length d ctx routes log o check g = (passed d (length ctx) (length routes) (length log) check g.passes).0.table

-- Two accepted calls, one after the other.
accepted_then : (d : Device) (l m : Left) → Accepted d l → Accepted l.device m → Accepted d m
accepted_then d l m a b =
    record {
      answer = b.answer;
      same = same_then d l.device m.device a.same b.same;
      usable = b.usable;
      is_sound = b.is_sound;
      table = b.table;
      routed = b.routed;
    }

-- The slot of the record that comes back.
slot_route :
    (d e : Device) (routes : List ℕ) → e.slot ≡ d.slot → (k : ℕ) → route_of routes d.slot.0 k ≡ route_of routes e.slot.0 k
slot_route d e routes s k = rw s

-- The next call may run.
pub ready_next :
    (d : Device) (l : Left) (ctx log o : List ℕ) (check : Check) → Accepted d l → Enough d ctx log o → check ≡ Pass →
    Checked l.device ctx l.routes log o check
unfolding record_check
ready_next d l ctx log o check a b e =
    let s : length ctx ≡ 33 * l.device.spacing = rw a.same.spacing b.context in
    record {
      passes = rw (
        a.is_sound,
        a.usable,
        eq-eqb (length ctx) (33 * l.device.spacing) s,
        eq-eqb (length l.routes) (32 * (l.device.max_slots + 1)) a.table,
        le-leb 64 (length log) b.room,
        e,
      );
      routed = a.routed;
      done = b.done;
    }

-- The last word of a Dci gives it its ring.
last_ring :
    (xs ys : List ℕ) (w : ℕ) (rings : List ℕ) (v : ℕ) → some_dci (word_dci w) ys ≡ false →
    ring_for (word_dci w) (queues (word_dcis (xs ++ (w ∷ ys))) rings) v ≡ get_or rings (length xs) 0
unfolding ring_for queues word_dcis
last_ring [] ys w rings v e =
    let rest = queues (word_dcis ys) (drop 1 rings) in
    ap (λ t. ring_for (word_dci w) rest (cond t (get_or rings 0 0) v)) (eq-eqb (word_dci w) (word_dci w) refl)
    ∙ ring_for_none (word_dci w) rest (get_or rings 0 0) (words_dci (word_dci w) ys (drop 1 rings) ∙ e)
last_ring (x ∷ xs) ys w rings v e = last_ring xs ys w (drop 1 rings) _ e ∙ sym (get_d_second rings (length xs))

-- An endpoint word's address has a place, and its Dci is that place's.
word_dci_lem : (w : ℕ) → place_of (endpoint_descriptor w).address < 30 → dci_at (place_of (endpoint_descriptor w).address) ≡ word_dci w
unfolding word_dci
word_dci_lem w h = place_dci (endpoint_descriptor w).address h

module _ (d : Device) (ctx routes log o : List ℕ) (i a : ℕ)
    (g : Checked d ctx routes log o (claim_check d i a Pass)) where
  abbrev rings : List ℕ
  rings = drawn d i a

  abbrev claimed_words : List ℕ
  claimed_words = setting_words (list_of d) i a

  -- The ring offered for a place is its route.
  pub place_route :
      (p : ℕ) → p < 30 → has_place p claimed_words ≡ true →
      route_of (claim d ctx routes log o i a).routes d.slot.0 (dci_at p) ≡ get_or (pending_rings claimed_words rings) p 0
  unfolding claimed_ring
  place_route p h e =
      (claim_ran d ctx routes log o i a g).routed p h
      ∙ claimed_ring_lem i (pending_rings claimed_words rings) (endpoint_map_in d) p h
      ∙ rw (offer_places d ctx routes log o i a g p h, e)

  word_route :
      (xs ys : List ℕ) (w : ℕ) → claimed_words ≡ xs ++ (w ∷ ys) → some_dci (word_dci w) ys ≡ false →
      (route_of (claim d ctx routes log o i a).routes d.slot.0 (word_dci w) ≡ get_or rings (length xs) 0)
      × (get_or rings (length xs) 0 ≡ 0 → ⊥)
  word_route xs ys w e s =
      let v = (passed d (length ctx) (length routes) (length log) (claim_check d i a Pass) g.passes).0.facts.list in
      let p = place_of (endpoint_descriptor w).address in
      let k : length xs < length claimed_words = rw (e, length-append xs (w ∷ ys)) (omega arith) in
      let at : get_or claimed_words (length xs) 0 ≡ w = rw e (get_or-append_seam xs w ys 0) in
      let h : p < 30 = rw at at (setting_place (list_of d) v i a (length xs) k) in
      let has : has_place p claimed_words ≡ true = rw at at (has_place_lem claimed_words (length xs) k) in
      let ring : get_or (pending_rings claimed_words rings) p 0 ≡ get_or rings (length xs) 0 =
      sym (words_ring claimed_words rings p h) ∙ rw (word_dci_lem w h, e) (last_ring xs ys w rings 0 s) in
      (rw (← word_dci_lem w h) (place_route p h has ∙ ring), offer_nonzero d ctx routes log o i a g (length xs) k)

claim_checked_accepts : (d : Device) (ctx routes log o : List ℕ) (i a : ℕ) → Checked d ctx routes log o (claim_check d i a Pass) → Claimed d i a (claim d ctx routes log o i a)
claim_checked_accepts d ctx routes log o i a g =
    let r = claim_ran d ctx routes log o i a g in
    record {
      accepted = accepted d routes _ _ _ _ _ r (table_length d ctx routes log o _ g);
      held = rw r.made.held (held_with i a (held_of d));
      alternate_held = rw r.made.held (alternate_with i a (held_of d));
      routes = word_route d ctx routes log o i a g;
    }

release_checked_accepts : (d : Device) (ctx routes log o : List ℕ) (i : ℕ) → Checked d ctx routes log o (release_check d i) → Released d i (release d ctx routes log o i)
unfolding claimed_ring
release_checked_accepts d ctx routes log o i g =
    let r = release_ran d ctx routes log o i g in
    record {
      accepted = accepted d routes _ _ _ _ _ r (table_length d ctx routes log o _ g);
      held = r.made.held;
      routes = λ p h e.
          let none : get_or {A = ℕ} (replicate 30 0) p 0 ≡ 0 = get_or-replicate 30 p 0 0 h in
          r.routed p h ∙ claimed_ring_lem i (replicate 30 0) (endpoint_map_in d) p h ∙ rw (none, e);
    }

-- What the set configuration returns.
set_device :
    (d : Device) (ctx routes log o : List ℕ) (value : ℕ) (g : Checked d ctx routes log o Pass) →
    (set_configuration d ctx routes log o value).device ≡ set_record d value (set_end d ctx routes log o value g)
unfolding set_configuration on_check ended played
set_device d ctx routes log o value g = rw (g.passes, set_ends d ctx routes log o value g)

set_checked_accepts : (d : Device) (ctx routes log o : List ℕ) (value : ℕ) → Checked d ctx routes log o Pass → Configured d value (set_configuration d ctx routes log o value)
unfolding no_endpoints set_end
set_checked_accepts d ctx routes log o value g =
    let r = set_ran d ctx routes log o value g in
    let v = set_value d value (set_end d ctx routes log o value g) refl refl in
    record {
      accepted = accepted d routes _ _ _ _ _ r (table_length d ctx routes log o _ g);
      configured = rw (set_device d ctx routes log o value g) v.0;
      value_set = rw (set_device d ctx routes log o value g) v.1;
      held = r.made.held;
      routes = each_dci (λ e. route_of (set_configuration d ctx routes log o value).routes d.slot.0 e ≡ 0)
          (λ p h. r.routed p h ∙ get_or-replicate 30 p 0 0 h);
    }

pub set_again : SetAgain
set_again d l a ctx log o value b =
    let c = set_checked_accepts l.device ctx l.routes log o value (ready_next d l ctx log o Pass a b refl) in
    record {
      accepted = accepted_then d l _ a c.accepted;
      configured = c.configured;
      value_set = c.value_set;
      held = c.held;
      routes = λ e h k. slot_route d l.device _ a.same.slot e ∙ c.routes e h k;
    }

pub hub_accepts : HubAccepted
unfolding hub_update on_check hub_left hub_course answer_of marked number played result words
hub_accepts d ctx routes log o ports multi ns p h =
    let e = done_at o 1 0 h (omega arith) in
    rw (hub_passes d (length ctx) (length routes) (length log) ns p, e) (refl, refl, refl, refl)

-- What a call that ran keeps of the table.
module _ (d : Device) (routes : List ℕ) (hs : List Held) (c : EndpointMap) (x y : List ℕ) (l : Left) (r : Ran d routes hs c x y l) where
  ran_outside : (k : ℕ) → OutsideSlot d.slot.0 k → get_or l.routes k 0 ≡ get_or routes k 0
  ran_outside k o = rw r.left (outside_kept routes d.slot.0 x y k o)

  ran_low : (e : ℕ) → e < 2 → route_of l.routes d.slot.0 e ≡ route_of routes d.slot.0 e
  ran_low e h = rw r.left (low_kept routes d.slot.0 x y e h)

-- A claim of an interface that holds nothing, and then its release.
module _ (d : Device) (ctx routes log o : List ℕ) (i a : ℕ)
    (g : Checked d ctx routes log o (claim_check d i a Pass))
    (unheld : is_held i (held_of d) ≡ false)
    (ctx₂ log₂ o₂ : List ℕ) (enough : Enough d ctx₂ log₂ o₂) where
  abbrev pending : List ℕ
  pending = pending_rings (setting_words (list_of d) i a) (drawn d i a)

  abbrev first : Left
  first = claim d ctx routes log o i a

  abbrev last : Left
  last = release first.device ctx₂ first.routes log₂ o₂ i

  first_accepted : Accepted d first
  first_accepted = (claim_checked_accepts d ctx routes log o i a g).accepted

  last_check : release_check first.device i ≡ Pass
  unfolding release_check
  last_check = rw (claim_checked_accepts d ctx routes log o i a g).held

  last_ready : Checked first.device ctx₂ first.routes log₂ o₂ (release_check first.device i)
  last_ready = ready_next d first ctx₂ log₂ o₂ (release_check first.device i) first_accepted enough last_check

  last_accepted : Accepted d last
  last_accepted =
      accepted_then d first last first_accepted
      (release_checked_accepts first.device ctx₂ first.routes log₂ o₂ i last_ready).accepted

  last_held : held_of last.device ≡ held_of d
  last_held =
      (release_ran first.device ctx₂ first.routes log₂ o₂ i last_ready).made.held
      ∙ ap (without_setting i) (claim_ran d ctx routes log o i a g).made.held
      ∙ setting_back i a (held_of d) unheld

  unowned : (p : ℕ) → p < 30 → is_owned (Interface i) (endpoint_map_in d) p ≡ false
  unowned p h =
      let f = (passed d (length ctx) (length routes) (length log) (claim_check d i a Pass) g.passes).0.facts in
      match_unheld (list_of d) (held_of d) (endpoint_map_in d) (match_facts (list_of d) (held_of d) (endpoint_map_in d) f.endpoints) i p unheld h

  unringed : (p : ℕ) → p < 30 → eqb (get_or pending p 0) 0 ≡ false → get_or (endpoint_map_in d).rings p 0 ≡ 0
  unringed p h e =
      let words = setting_words (list_of d) i a in
      let t = passed d (length ctx) (length routes) (length log) (claim_check d i a Pass) g.passes in
      free_ring words i (endpoint_map_in d) p (claim_passed d i a t.0.is_sound t.1).free h
      (not-false (has_place p words) (sym (offer_places d ctx routes log o i a g p h) ∙ e)) (unowned p h)

  last_map : endpoint_map_in last.device ≡ endpoint_map_in d
  last_map =
      let s = (passed d (length ctx) (length routes) (length log) (claim_check d i a Pass) g.passes).0.is_sound in
      (release_ran first.device ctx₂ first.routes log₂ o₂ i last_ready).made.endpoints
      ∙ ap (claimed_endpoints i (replicate 30 0)) (claim_ran d ctx routes log o i a g).made.endpoints
      ∙ map_back i pending (endpoint_map_in d) (sound_clean d s) unowned unringed

  outside_back : (k : ℕ) → OutsideSlot d.slot.0 k → get_or last.routes k 0 ≡ get_or routes k 0
  outside_back k out =
      ran_outside first.device first.routes _ _ _ _ last (release_ran first.device ctx₂ first.routes log₂ o₂ i last_ready) k
      (rw first_accepted.same.slot out)
      ∙ ran_outside d routes _ _ _ _ first (claim_ran d ctx routes log o i a g) k out

  own_back : (e : ℕ) → e < 32 → route_of last.routes d.slot.0 e ≡ route_of routes d.slot.0 e
  own_back e h = go (dec_lt e 2)
    where
      go : Dec (e < 2) → route_of last.routes d.slot.0 e ≡ route_of routes d.slot.0 e
      go (yes l) =
          slot_route d first.device last.routes first_accepted.same.slot e
          ∙ ran_low first.device first.routes _ _ _ _ last (release_ran first.device ctx₂ first.routes log₂ o₂ i last_ready) e l
          ∙ sym (slot_route d first.device first.routes first_accepted.same.slot e)
          ∙ ran_low d routes _ _ _ _ first (claim_ran d ctx routes log o i a g) e l
      go (no l) =
          each_dci (λ k. route_of last.routes d.slot.0 k ≡ route_of routes d.slot.0 k)
          (λ p q.
          slot_route d last.device last.routes last_accepted.same.slot (dci_at p)
          ∙ last_accepted.routed p q
          ∙ ap (λ (c : EndpointMap). get_or c.rings p 0) last_map
          ∙ sym (g.routed p q))
          e (omega arith) h

  last_table : last.routes ≡ routes
  last_table =
      ext_get_or 0 last.routes routes
      (last_accepted.table ∙ ap (λ n. 32 * (n + 1)) last_accepted.same.max_slots ∙ sym (table_length d ctx routes log o _ g))
      (λ k h. same_words_lem d.slot.0 last.routes routes outside_back own_back k)

pub release_back : ReleaseBack
release_back d ctx routes log o i a r unheld ctx₂ log₂ o₂ enough =
    let g = claim_checked d ctx routes log o i a r in
    record {
      accepted = last_accepted d ctx routes log o i a g unheld ctx₂ log₂ o₂ enough;
      table = last_table d ctx routes log o i a g unheld ctx₂ log₂ o₂ enough;
      held = last_held d ctx routes log o i a g unheld ctx₂ log₂ o₂ enough;
      endpoints = last_map d ctx routes log o i a g unheld ctx₂ log₂ o₂ enough;
    }

pub claim_accepts : ClaimAccepted
claim_accepts d ctx routes log o i a r = claim_checked_accepts d ctx routes log o i a (claim_checked d ctx routes log o i a r)

pub release_accepts : ReleaseAccepted
release_accepts d ctx routes log o i r = release_checked_accepts d ctx routes log o i (release_checked d ctx routes log o i r)

pub set_accepts : SetAccepted
set_accepts d ctx routes log o value r = set_checked_accepts d ctx routes log o value (set_checked d ctx routes log o r)
