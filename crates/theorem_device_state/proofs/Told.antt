-- What every list of calls tells the device.
use Prim.Native.Nat.{ℕ, ◌<◌}
use mathlib.Core.Path.{◌≡◌, refl, sym, ◌∙◌, ap}
use mathlib.Core.Bool.{Bool, true, false, not, and-false}
use mathlib.Core.List.{List, [], ◌∷◌}
use borrow.Author.Tests.{eq-eqb, eqb-true, not-true}
use lib.Dec.{eqb}
use lib.ListN.{get_or}
use Rattle.laws.specs.Distinct.{elem, distinct}
use Rattle.laws.proofs.Tests.{and_left, and_right, not_both}
use Rattle.answer.specs.Answer.{number}
use Rattle.transfer.specs.Routes.{names}
use Rattle.record_endpoint.specs.Order.{dci_at}
use Rattle.record_endpoint.specs.EndpointMap.{is_owned, owns}
use Rattle.record_endpoint.specs.declared.endpoint_map.EndpointMap.{EndpointMap}
use Rattle.record_endpoint.specs.declared.endpoint_map.Owner.TheVariants.{Interface}
use Rattle.record_settings.specs.Held.{interfaces_of, settings_sound}
use Rattle.record_settings.proofs.Laws.{eqb_turned}
use Rattle.theorem_routing.proofs.Laws.{each_dci}
use Rattle.course_init.specs.Reading.{BringUp}
use Rattle.device_bring_up.specs.BringUp.{bring_up}
use Rattle.device.specs.Device.{held_of, endpoint_map_in}
use Rattle.device.proofs.Facts.{sound_facts}
use Rattle.theorem_slot.specs.Call.{Buffers, Asked, brings_up, claims, commits, releases, configures, updates_hub, disconnects, OfSlot}
use Rattle.theorem_slot.specs.Plain.{HeldSetting, held_queues}
use Rattle.theorem_slot.specs.Theorem.{State, Turn, called, after, Turns, start}
use Rattle.theorem_slot.proofs.Settings.{AllFit, held_names, pairs, has_setting}
use Rattle.theorem_slot.proofs.Good.{Live, Stands, Unrouted, not_down, up_live}
use Rattle.theorem_slot.proofs.Demand3.{Sofar, at_table, so_far_between, after_so_far, all_so_far}
use Rattle.theorem_device_state.specs.DeviceState.{DeviceState, nothing_known}
use Rattle.theorem_device_state.specs.Theorem.{device_heard, device_called, device_through, Apart, held_pairs, DeviceKept, DeviceTold}
use Rattle.theorem_device_state.proofs.Kept.{Agrees}
use Rattle.theorem_device_state.proofs.Calls.{AgreesCalled}
use Rattle.theorem_device_state.proofs.Claim.{claim_agrees, commit_agrees}
use Rattle.theorem_device_state.proofs.SetConfiguration.{set_agrees}
use Rattle.theorem_device_state.proofs.Quiet.{release_agrees, hub_agrees, unplugging_agrees}
use Rattle.theorem_device_state.proofs.BringUp.{start_agrees, bring_up_agrees}

-- One call, with the table that it gets.
one_agrees :
    (slot : ℕ) (before : List ℕ) (s : State) → Stands slot before s → (asked : Asked) (buffers : Buffers) (keeps : Bool) → OfSlot slot asked →
    (u : DeviceState) → Agrees s.plain s.device u → AgreesCalled s asked buffers keeps u
unfolding OfSlot
one_agrees slot before s f (brings_up a) buffers keeps o u g = bring_up_agrees s a buffers keeps u g
one_agrees slot before s f (claims i a) buffers keeps o u g = claim_agrees slot before s f buffers keeps i a o.0 o.1 u g
one_agrees slot before s f (commits p) buffers keeps o u g =
    commit_agrees slot before s f buffers keeps p.interface p.alternate o.0 o.1 u g p.drops p.adds p.rings
one_agrees slot before s f (releases i) buffers keeps o u g = release_agrees s buffers keeps u g i
one_agrees slot before s f (configures value) buffers keeps o u g = set_agrees slot before s f buffers keeps value o u g
one_agrees slot before s f (updates_hub ports multi ns) buffers keeps o u g = hub_agrees s buffers keeps u g ports multi ns
one_agrees slot before s f disconnects buffers keeps o u g = unplugging_agrees s buffers keeps u g

-- Any list of calls.
all_agrees :
    (slot : ℕ) (still : ℕ → Bool) (before : List ℕ) (s : State) (turns : List Turn) → Turns slot still s turns →
    Sofar slot still before s → (u : DeviceState) → Agrees s.plain s.device u →
    Agrees (after s turns).plain (after s turns).device (device_through s turns u)
unfolding Turns called device_called after device_through
all_agrees slot still before s [] o f u g = g
all_agrees slot still before s (t ∷ ts) o f u g =
    let here = so_far_between slot still before s t.table o.1.0 f in
    all_agrees slot still before (called s t) ts o.1.1 (after_so_far slot still before s (t ∷ []) (o.0, (o.1.0, tt)) f) (device_called s t u)
    (one_agrees slot here.base (at_table s t.table) here.stands t.call.asked t.call.buffers t.keeps o.0 u g)

-- No Dci is in two settings that fit some endpoints, where their interfaces are distinct.
has_elem : (i : ℕ) (hs : List HeldSetting) → has_setting i hs ≡ elem i (interfaces_of (pairs hs))
unfolding has_setting elem interfaces_of pairs
has_elem i [] = refl
has_elem i (h ∷ hs) = rw (has_elem i hs, eqb_turned h.interface i) refl

fit_apart : (c : EndpointMap) (hs : List HeldSetting) → AllFit c hs → distinct (interfaces_of (pairs hs)) ≡ true → Apart hs
unfolding AllFit Apart distinct interfaces_of pairs is_owned owns
fit_apart c [] f e = tt
fit_apart c (h ∷ hs) f e = (
  λ d n. let w = f.0.inside d n in each_dci (λ x. names x h.queues ≡ true → names x (held_queues hs) ≡ false) one d w.0 w.1 n,
  fit_apart c hs f.1 (and_right (not (elem h.interface (interfaces_of (pairs hs)))) _ e),
)
  where
    none : has_setting h.interface hs ≡ false
    none =
        let other = elem h.interface (interfaces_of (pairs hs)) in has_elem h.interface hs ∙ not-true other (and_left (not other) _ e)

    one : (q : ℕ) → q < 30 → names (dci_at q) h.queues ≡ true → names (dci_at q) (held_queues hs) ≡ false
    one q l n =
        let o : is_owned (Interface h.interface) c q ≡ true = sym (f.0.named q l) ∙ n in
        let w : get_or c.owners q 0 ≡ h.interface = eqb-true (get_or c.owners q 0) h.interface (and_right (not (eqb (get_or c.rings q 0) 0)) _ o) in
        held_names c hs q f.1 l ∙ rw (w, none) (and-false (not (eqb (get_or c.rings q 0) 0)))

same_pairs : (hs : List HeldSetting) → pairs hs ≡ held_pairs hs
unfolding pairs held_pairs
same_pairs [] = refl
same_pairs (h ∷ hs) = rw (same_pairs hs) refl

live_apart : (slot : ℕ) (s : State) → Live slot s.device s.plain → Apart s.plain.held
unfolding settings_sound
live_apart slot s l =
    fit_apart (endpoint_map_in s.device) s.plain.held l.fits
    (rw l.held (and_left (distinct (interfaces_of (held_of s.device))) _ (sound_facts s.device l.is_sound).settings))

-- The theorem, where it is known by its number that the bring-up was accepted.
told_by_number :
    (b : BringUp) (l : Buffers) (routes : List ℕ) (still : ℕ → Bool) (turns : List Turn) → Unrouted routes b.slot →
    let brought = bring_up b l.ctx routes l.log l.outcomes in
    number brought.answer ≡ 0 →
    Turns b.slot still (start b brought) turns →
    DeviceKept (after (start b brought) turns)
    (device_through (start b brought) turns (device_heard (brings_up b) l brought nothing_known))
unfolding start Turns after
told_by_number b l routes still turns empty accepted all =
    let brought = bring_up b l.ctx routes l.log l.outcomes in
    let s = after (start b brought) turns in
    let f = all_so_far b l routes still turns empty accepted all in
    let g =
    all_agrees b.slot still routes (start b brought) turns all (all_so_far b l routes still [] empty accepted tt)
    (device_heard (brings_up b) l brought nothing_known)
    (start_agrees b l routes (eq-eqb (number brought.answer) 0 accepted) nothing_known) in
    let up = λ (u : s.device.usable ≡ true). (not_down b.slot f.base s (λ n. not_both s.device.usable u n.0) f.stands).phase in
    record {
      alternates = g.alternates;
      unbroken = λ u. ((g.configuration (up u) u).up, (up u, g.unbroken (up u) u));
      configured = λ u. (g.configuration (up u) u).configured;
      configuration = λ u. (g.configuration (up u) u).value;
      held = λ u. sym (up_live b.slot f.base s f.stands u).held ∙ same_pairs s.plain.held;
      list = λ u. (up_live b.slot f.base s f.stands u).list;
      apart = λ u. live_apart b.slot s (up_live b.slot f.base s f.stands u);
    }

pub device_told_lem : DeviceTold
unfolding number
device_told_lem b l routes still turns empty accepted all = told_by_number b l routes still turns empty (ap number accepted) all
