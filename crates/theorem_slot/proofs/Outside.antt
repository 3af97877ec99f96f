-- Every call leaves every word outside its slot as it was.
use Prim.Native.Nat.{ℕ, ◌+◌, ◌*◌, ◌<◌, ◌≤◌}
use mathlib.Core.Path.{◌≡◌, refl, ap, ◌∙◌}
use mathlib.Core.Bool.{true, false}
use mathlib.Core.List.{List, []}
use mathlib.Core.Logic.{◌⊎◌, inl, inr}
use native.Mathlib.Omega.{arith}
use native.Mathlib.Decide.{dec_lt}
use borrow.Author.Tests.{ltb-true, leb-true}
use lib.Dec.{ltb, leb}
use lib.ListN.{length, get_or}
use Rattle.laws.proofs.Cases.{Decided, decided, or_cases}
use Rattle.command.specs.Course.{result, played}
use Rattle.transfer.specs.Routes.{Queue, with_replaced, Small, OutsideSlot, route_index, route_of}
use Rattle.transfer.proofs.Laws.{replaced_length, replaced_outside, without_length, without_others}
use Rattle.record_endpoint.proofs.Laws.{queues_small}
use Rattle.course_steps.specs.End.{End}
use Rattle.course_claim.specs.Claim.{claim_course}
use Rattle.course_claim.proofs.Laws.{claim_moved}
use Rattle.course_release.specs.Release.{release_course}
use Rattle.course_release.proofs.Laws.{Says, release_says}
use Rattle.course_disconnect.specs.Disconnect.{disconnect_course}
use Rattle.course_disconnect.proofs.Ends.{Ended, disconnect_ends}
use Rattle.course_set_configuration.specs.SetConfiguration.{set_course}
use Rattle.course_set_configuration.proofs.Laws.{set_moved}
use Rattle.device.specs.declared.record.Device.{Device}
use Rattle.device.specs.Left.{Left, refused, ended}
use Rattle.device.specs.Calls.{hub_left, hub_update}
use Rattle.device.specs.Ask.{commit}
use Rattle.device.specs.Claim.{drawn, claim_in, claim}
use Rattle.device.specs.Disconnect.{disconnect}
use Rattle.device.specs.Release.{release_in, release}
use Rattle.device.specs.SetConfiguration.{settings_in, set_configuration}
use Rattle.device.proofs.Marks.{on_check_lem}
use Rattle.device_bring_up.proofs.Laws.{bring_up_length, bring_up_outside}
use Rattle.theorem_slot.specs.Call.{Buffers, Asked, brings_up, claims, commits, releases, configures, updates_hub, disconnects, left}
use Rattle.theorem_slot.proofs.Ends.{unplugging_stayed}
use Rattle.theorem_slot.specs.Theorem.{slot_of, Untouched, OutsideUntouched, is_outside, OthersBetween}

-- The table itself.
untouched_same : (slot : ℕ) (routes : List ℕ) → Untouched slot routes routes
untouched_same slot routes = record { long = refl; words = λ k o. refl }

-- Queues of the slot replaced.
untouched_replaced :
    (slot : ℕ) (routes now : List ℕ) (old new : List Queue) → Small old → Small new → now ≡ with_replaced routes slot old new →
    Untouched slot routes now
untouched_replaced slot routes now old new a b e =
    record {
      long = rw e (replaced_length routes slot old new);
      words = λ k o. rw e (replaced_outside routes slot old new k a b o);
    }

none_small : Small []
unfolding Small
none_small = tt

untouched_equal : (slot : ℕ) (routes now : List ℕ) → now ≡ routes → Untouched slot routes now
untouched_equal slot routes now e = rw e (untouched_same slot routes)

untouched_end :
    (slot : ℕ) (routes : List ℕ) (e : End) (old new : List Queue) → Small old → Small new →
    (e.moved ≡ true → e.routes ≡ with_replaced routes slot old new) → (e.moved ≡ false → e.routes ≡ routes) →
    Untouched slot routes e.routes
untouched_end slot routes e old new a b f g = go (decided e.moved)
  where
    go : Decided e.moved → Untouched slot routes e.routes
    go (inl t) = untouched_replaced slot routes e.routes old new a b (f t)
    go (inr t) = untouched_equal slot routes e.routes (g t)

module _ (d : Device) (routes o ctx : List ℕ) where
  claimed :
      (i a : ℕ) →
      Untouched d.slot.0 routes (result o 0 (claim_course (claim_in d i a (drawn d i a)) ctx routes)).routes
  unfolding claim_in
  claimed i a =
      let v = claim_moved (claim_in d i a (drawn d i a)) ctx routes o 0 in
      untouched_end d.slot.0 routes (result o 0 (claim_course (claim_in d i a (drawn d i a)) ctx routes)) _ _ (queues_small _) (queues_small _) v.routed v.kept

  released : (i : ℕ) → Untouched d.slot.0 routes (result o 0 (release_course (release_in d i) ctx routes)).routes
  unfolding release_in
  released i = go (result o 0 (release_course (release_in d i) ctx routes)) (release_says (release_in d i) routes o ctx 0)
    where
      go : (e : End) → Says (release_in d i) routes e → Untouched d.slot.0 routes e.routes
      go e (inl v) = untouched_replaced d.slot.0 routes e.routes _ [] (queues_small _) none_small v.left
      go e (inr v) = untouched_equal d.slot.0 routes e.routes v.left

  configured : (value : ℕ) → Untouched d.slot.0 routes (result o 0 (set_course (settings_in d value) ctx routes)).routes
  unfolding settings_in
  configured value =
      let v = set_moved (settings_in d value) routes o ctx 0 in
      untouched_end d.slot.0 routes (result o 0 (set_course (settings_in d value) ctx routes)) _ [] (queues_small _) none_small (λ t. (v.gone t).2) v.kept

  unplugged : (dcis : List ℕ) → Untouched d.slot.0 routes (result o 0 (disconnect_course d.slot.0 dcis ctx routes)).routes
  unplugged dcis = go (disconnect_ends d.slot.0 dcis ctx routes o 0)
    where
      go : {e : End} → Ended d.slot.0 ctx routes e → Untouched d.slot.0 routes e.routes
      go (inl v) =
          record {
            long = ap (λ (e : End). length e.routes) v ∙ without_length routes d.slot.0;
            words = λ k o. ap (λ (e : End). get_or e.routes k 0) v ∙ without_others routes d.slot.0 k o;
          }
      go (inr v) = untouched_equal d.slot.0 routes _ (unplugging_stayed ctx routes _ v).left

each : (asked : Asked) (buffers : Buffers) (d : Device) (routes : List ℕ) → Untouched (slot_of asked d) routes (left asked buffers d routes).routes
unfolding slot_of left hub_update hub_left claim commit release set_configuration disconnect ended refused played
each (brings_up a) buffers d routes =
    record {
      long = bring_up_length a buffers.ctx routes buffers.log buffers.outcomes;
      words = bring_up_outside a buffers.ctx routes buffers.log buffers.outcomes;
    }
each (claims i a) buffers d routes =
    on_check_lem (λ (l : Left). Untouched d.slot.0 routes l.routes) _ _ _ (claimed d routes buffers.outcomes buffers.ctx i a)
    (λ x. untouched_same d.slot.0 routes)
each (commits p) buffers d routes =
    on_check_lem (λ (l : Left). Untouched d.slot.0 routes l.routes) _ _ _ (claimed d routes buffers.outcomes buffers.ctx p.interface p.alternate)
    (λ x. untouched_same d.slot.0 routes)
each (releases i) buffers d routes =
    on_check_lem (λ (l : Left). Untouched d.slot.0 routes l.routes) _ _ _ (released d routes buffers.outcomes buffers.ctx i)
    (λ x. untouched_same d.slot.0 routes)
each (configures value) buffers d routes =
    on_check_lem (λ (l : Left). Untouched d.slot.0 routes l.routes) _ _ _ (configured d routes buffers.outcomes buffers.ctx value)
    (λ x. untouched_same d.slot.0 routes)
each (updates_hub ports multi ns) buffers d routes =
    on_check_lem (λ (l : Left). Untouched d.slot.0 routes l.routes) _ _ _ (untouched_same d.slot.0 routes)
    (λ x. untouched_same d.slot.0 routes)
each disconnects buffers d routes =
    on_check_lem (λ (l : Left). Untouched d.slot.0 routes l.routes) _ _ _ (unplugged d routes buffers.outcomes buffers.ctx _)
    (λ x. untouched_same d.slot.0 routes)

-- Whatever the record and the table.
pub outside_untouched : OutsideUntouched
outside_untouched c d routes = each c.asked c.buffers d routes

-- A word of one slot is outside of another.
apart : (slot other d : ℕ) → (other ≡ slot → ⊥) → d < 32 → OutsideSlot other (32 * slot + d)
apart slot other d n h = go (dec_lt slot other)
  where
    higher : (slot < other → ⊥) → Dec (other < slot) → 32 * other + 32 ≤ 32 * slot + d
    higher l (yes m) = omega arith
    higher l (no m) = absurd (n (omega arith))

    go : Dec (slot < other) → OutsideSlot other (32 * slot + d)
    go (yes l) = inl (omega arith)
    go (no l) = inr (higher l (dec_lt other slot))

outside_is : (slot k : ℕ) → is_outside slot k ≡ true → OutsideSlot slot k
unfolding is_outside
outside_is slot k e = go (or_cases (ltb k (32 * slot)) (leb (32 * slot + 32) k) e)
  where
    go : (ltb k (32 * slot) ≡ true) ⊎ (leb (32 * slot + 32) k ≡ true) → OutsideSlot slot k
    go (inl l) = inl (ltb-true k (32 * slot) l)
    go (inr l) = inr (leb-true (32 * slot + 32) k l)

pub others_between : OthersBetween
unfolding route_of route_index
others_between c d routes slot n =
    let u = outside_untouched c d routes in
    record {
      long = u.long;
      own = λ e h. u.words (32 * slot + e) (apart slot (slot_of c.asked d) e n h);
      others = λ k e. u.words k (outside_is (slot_of c.asked d) k e);
    }
