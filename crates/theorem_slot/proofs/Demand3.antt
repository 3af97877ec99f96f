-- Demand 3.
use Prim.Native.Nat.{ℕ, ◌+◌, ◌*◌, ◌<◌, ◌≤◌}
use mathlib.Core.Path.{◌≡◌, refl, sym, ◌∙◌, ap}
use mathlib.Core.Bool.{Bool, true, false, ◌||◌}
use mathlib.Core.List.{List, [], ◌∷◌}
use mathlib.Core.Logic.{inl, inr}
use native.Mathlib.Omega.{arith}
use lib.ListN.{length, get_or, take, drop, length-drop}
use lib.Seq.{sets, length-sets, length-take-le, get_or-take, get_or-drop}
use Rattle.laws.proofs.Tests.{not_both}
use Rattle.laws.proofs.Stores.{sets_before, sets_past, sets_there}
use Rattle.laws.proofs.Cases.{or_right}
use Rattle.def.specs.Speed.{exponent_ok}
use Rattle.answer.specs.declared.Answer.TheVariants as answer
use Rattle.answer.specs.Answer.{number}
use Rattle.answer.specs.Check.{Pass}
use Rattle.command.specs.declared.Sent.TheVariants.{Done}
use Rattle.command.specs.Command.{outcome_at}
use Rattle.record_endpoint.specs.Order.{dci_at}
use Rattle.record_endpoint.proofs.Laws.{dci_high}
use Rattle.descriptor_list.specs.Valid.{valid_list}
use Rattle.descriptor_list.proofs.Companions.{listed}
use Rattle.context_block.specs.Blocks.{some_dci}
use Rattle.record_settings.specs.Held.{setting_words}
use Rattle.record_settings.proofs.Laws.{setting_word}
use Rattle.theorem_routing.proofs.Laws.{words_dci, words_low_name}
use Rattle.transfer.specs.Routes.{route_index, route_of, OutsideSlot}
use Rattle.device.specs.Check.{record_check}
use Rattle.device.specs.Claim.{claim_check}
use Rattle.device.proofs.Laws.{passed}
use Rattle.course_init.specs.Reading.{BringUp}
use Rattle.device_bring_up.specs.BringUp.{slot_check, device_check, queue_check, bring_up_check, bring_up}
use Rattle.device_bring_up.proofs.Laws.{accepted_by_number, bring_up_full, bring_up_done}
use Rattle.device_bring_up.proofs.Checks as brought-checks
use Rattle.theorem_slot.specs.Call.{Buffers, Asked, brings_up, claims, commits, releases, configures, updates_hub, disconnects, Call, OfSlot}
use Rattle.theorem_slot.specs.Answers.{is_bring_up}
use Rattle.theorem_slot.specs.Call as call
use Rattle.theorem_slot.specs.Groups.{drawn_from}
use Rattle.theorem_slot.specs.Plain.{Phase, up, unplugged, not_up, is_up, is_unplugged, is_not_up, plain_route, effect_of, anew, observed}
use Rattle.theorem_slot.specs.Theorem.{State, Turn, called, after, Between, Turns, start, NoOtherBringUp, Kept, Demand3, SoundWhileUsable, ClaimRouted, ClaimsAccepted, BroughtUpAgain, BegunAnew, Untouched}
use Rattle.theorem_slot.proofs.Good.{Down, Unrouted, Good, Empty, Stands, stands_table, stands_room, live_here, not_down, usable_live}
use Rattle.theorem_slot.proofs.Step.{called_here}
use Rattle.theorem_slot.proofs.Refusing.{called_here_lem, down_same}
use Rattle.theorem_slot.proofs.BringUp.{start_good, bring_up_stands}
use Rattle.theorem_slot.proofs.Disconnect.{disconnect_stands}
use Rattle.theorem_slot.proofs.Claim.{commit_good, claim_good, claim_done, claim_routes}
use Rattle.theorem_slot.proofs.Release.{release_good}
use Rattle.theorem_slot.proofs.SetConfiguration.{set_good}
use Rattle.theorem_slot.proofs.Hub.{hub_good}

-- One call, with the table that the last one left.
abbrev pub turn : State → Call → Bool → Turn
turn s c keeps = record { call = c; table = s.routes; keeps = keeps }

-- A call on the record: while the slot is not up it is refused and changes nothing.
on_record :
    (slot : ℕ) (before : List ℕ) (s : State) (asked : Asked) (buffers : Buffers) (keeps : Bool) → is_bring_up asked ≡ false →
    Stands slot before s → (Good slot before s → Stands slot before (called_here s (record { asked = asked; buffers = buffers }))) →
    Stands slot before (called s (turn s (record { asked = asked; buffers = buffers }) keeps))
on_record slot before s asked buffers keeps e g next = rw (called_here_lem s asked buffers keeps e) (go g)
  where
    stays : Down s.device → Stands slot before (called_here s (record { asked = asked; buffers = buffers }))
    stays n = rw (down_same s asked buffers n e) g

    go : Stands slot before s → Stands slot before (called_here s (record { asked = asked; buffers = buffers }))
    go (inl x) = next x
    go (inr (inl x)) = stays x.down
    go (inr (inr x)) = stays x.down

called_stands :
    (slot : ℕ) (before : List ℕ) (s : State) (asked : Asked) (buffers : Buffers) (keeps : Bool) → OfSlot slot asked → Stands slot before s →
    Stands slot before (called s (turn s (record { asked = asked; buffers = buffers }) keeps))
unfolding OfSlot is_bring_up
called_stands slot before s (brings_up a) buffers keeps o g = bring_up_stands slot before s buffers a o keeps g
called_stands slot before s (claims i a) buffers keeps o g =
    on_record slot before s (claims i a) buffers keeps refl g (λ x. inl (claim_good slot before s buffers i a o.0 o.1 x))
called_stands slot before s (commits p) buffers keeps o g =
    on_record slot before s (commits p) buffers keeps refl g
    (λ x. inl (commit_good slot before s buffers p.interface p.alternate o.0 o.1 x p.drops p.adds p.rings))
called_stands slot before s (releases i) buffers keeps o g =
    on_record slot before s (releases i) buffers keeps refl g (λ x. inl (release_good slot before s buffers i o x))
called_stands slot before s (configures value) buffers keeps o g =
    on_record slot before s (configures value) buffers keeps refl g (λ x. inl (set_good slot before s buffers value o x))
called_stands slot before s (updates_hub ports multi ns) buffers keeps o g =
    on_record slot before s (updates_hub ports multi ns) buffers keeps refl g (λ x. inl (hub_good slot before s buffers ports multi ns x))
called_stands slot before s disconnects buffers keeps o g =
    on_record slot before s disconnects buffers keeps refl g (λ x. disconnect_stands slot before s buffers x)

-- A table with the words that a slot has in another.
pub with_own : List ℕ → ℕ → List ℕ → List ℕ
with_own table slot base = sets table (32 * slot) (take 32 (drop (32 * slot) base))

module _ (table : List ℕ) (slot : ℕ) (base : List ℕ) (room : 32 * slot + 32 ≤ length table) (same : length base ≡ length table) where
  abbrev own : List ℕ
  own = take 32 (drop (32 * slot) base)

  own_length : length own ≡ 32
  own_length = length-take-le 32 (drop (32 * slot) base) (omega (arith, length-drop (32 * slot) base, room, same))

  own_others : (k : ℕ) → OutsideSlot slot k → get_or (with_own table slot base) k 0 ≡ get_or table k 0
  unfolding with_own
  own_others k (inl h) = sets_before own table (32 * slot) k h
  own_others k (inr h) = sets_past own table (32 * slot) k (omega (arith, h, own_length))

  own_there : (d : ℕ) → d < 32 → route_of (with_own table slot base) slot d ≡ route_of base slot d
  unfolding with_own route_of route_index
  own_there d h =
      sets_there own table (32 * slot) d (omega (arith, h, own_length)) (omega (arith, room, own_length))
      ∙ get_or-take 32 (drop (32 * slot) base) d 0 h
      ∙ get_or-drop (32 * slot) base d 0

-- The slot, from a table that has its words, and every other word of `before` that nobody else wrote.
pub record Sofar (slot : ℕ) (still : ℕ → Bool) (before : List ℕ) (s : State) : Type 0 where
  pub base : List ℕ
  pub stands : Stands slot base s
  pub empty : Unrouted before slot → Unrouted base slot
  pub long : length base ≡ length before
  pub others : (k : ℕ) → OutsideSlot slot k → still k ≡ true → get_or base k 0 ≡ get_or before k 0

-- The state whose next call gets this table.
abbrev pub at_table : State → List ℕ → State
at_table s table = record { device = s.device; routes = table; plain = s.plain }

-- Whatever else was written in the table, the slot stands, from one that has its words.
module _ (slot : ℕ) (still : ℕ → Bool) (base : List ℕ) (s : State) (table : List ℕ) (w : Between slot still s.routes table) (g : Stands slot base s) where
  was : Untouched slot base s.routes
  was = stands_table slot base s g

  same_long : length base ≡ length table
  same_long = sym (w.long ∙ was.long)

  long_enough : 32 * slot + 32 ≤ length table
  long_enough = omega (arith, stands_room slot base s g, same_long)

  own_long : length (with_own table slot base) ≡ length table
  unfolding with_own
  own_long = length-sets table (32 * slot) (take 32 (drop (32 * slot) base))

  base_others : (k : ℕ) → OutsideSlot slot k → get_or (with_own table slot base) k 0 ≡ get_or table k 0
  base_others = own_others table slot base long_enough same_long

  base_own : (d : ℕ) → d < 32 → route_of (with_own table slot base) slot d ≡ route_of base slot d
  base_own = own_there table slot base long_enough same_long

  base_table : Untouched slot (with_own table slot base) table
  base_table = record { long = sym own_long; words = λ k x. sym (base_others k x) }

  base_room : 32 * slot + 32 ≤ length (with_own table slot base)
  base_room = rw own_long long_enough

  stands_there : Stands slot base s → Stands slot (with_own table slot base) (at_table s table)
  stands_there (inl g) =
      inl
      (record {
        phase = g.phase;
        long = base_table.long;
        room = base_room;
        others = base_table.words;
        live = g.live;
        parted = g.parted;
        on = g.on;
        enabled = g.enabled;
        control = g.control;
        first = w.own 1 (omega arith) ∙ g.first;
        named = λ q h e. w.own (dci_at q) (dci_high q h) ∙ g.named q h e;
        own = λ u d h. w.own d h ∙ g.own (λ x y. sym (base_own x y) ∙ u x y) d h;
      })
  stands_there (inr (inl g)) =
      inr
      (inl
      (record {
        phase = g.phase;
        table = base_table;
        room = base_room;
        down = g.down;
        none = λ d h. w.own d h ∙ g.none d h;
        plain = g.plain;
        parted = g.parted;
        off = g.off;
      }))
  stands_there (inr (inr g)) =
      inr
      (inr
      (record {
        phase = g.phase;
        table = base_table;
        room = base_room;
        down = g.down;
        first = λ z. g.first (sym (w.own 1 (omega arith)) ∙ z);
        parted = g.parted;
      }))

  pub stands_between : Stands slot (with_own table slot base) (at_table s table)
  stands_between = stands_there g

module _ (slot : ℕ) (still : ℕ → Bool) (before : List ℕ) (s : State) where
  pub so_far_between : (table : List ℕ) → Between slot still s.routes table → Sofar slot still before s → Sofar slot still before (at_table s table)
  so_far_between table w f =
      let t = was slot still f.base s table w f.stands in
      record {
        base = with_own table slot f.base;
        stands = stands_between slot still f.base s table w f.stands;
        empty = λ u x y. base_own slot still f.base s table w f.stands x y ∙ f.empty u x y;
        long = own_long slot still f.base s table w f.stands ∙ w.long ∙ t.long ∙ f.long;
        others = λ k x y. base_others slot still f.base s table w f.stands k x ∙ w.others k y ∙ t.words k x ∙ f.others k x y;
      }

  -- One call.
  called_so_far : (t : Turn) → OfSlot slot t.call.asked → Between slot still s.routes t.table → Sofar slot still before s → Sofar slot still before (called s t)
  unfolding called
  called_so_far t o w f =
      let g = so_far_between t.table w f in
      record {
        base = g.base;
        stands = called_stands slot g.base (at_table s t.table) t.call.asked t.call.buffers t.keeps o g.stands;
        empty = g.empty;
        long = g.long;
        others = g.others;
      }

-- Any list of calls.
pub after_so_far :
    (slot : ℕ) (still : ℕ → Bool) (before : List ℕ) (s : State) (turns : List Turn) → Turns slot still s turns →
    Sofar slot still before s → Sofar slot still before (after s turns)
unfolding Turns after
after_so_far slot still before s [] o f = f
after_so_far slot still before s (t ∷ ts) o f =
    after_so_far slot still before (called s t) ts o.1.1 (called_so_far slot still before s t o.0 o.1.0 f)

pub all_so_far :
    (b : BringUp) (l : Buffers) (routes : List ℕ) (still : ℕ → Bool) (turns : List Turn) → Unrouted routes b.slot →
    number (bring_up b l.ctx routes l.log l.outcomes).answer ≡ 0 →
    Turns b.slot still (start b (bring_up b l.ctx routes l.log l.outcomes)) turns →
    Sofar b.slot still routes (after (start b (bring_up b l.ctx routes l.log l.outcomes)) turns)
all_so_far b l routes still turns empty accepted all =
    after_so_far b.slot still routes _ turns all
    (record {
      base = routes;
      stands = inl (start_good b l routes (accepted_by_number b l.ctx routes l.log l.outcomes accepted));
      empty = λ u. u;
      long = refl;
      others = λ k x y. refl;
    })

-- A phase is one of the three.
up_only : {P : Type 0} (x : Phase) → is_up x ≡ true → (is_unplugged x || is_not_up x) ≡ true → P
unfolding is_up is_unplugged is_not_up
up_only up a b = not_both false b refl
up_only unplugged a b = not_both false a refl
up_only not_up a b = not_both false a refl

unplugged_only : {P : Type 0} (x : Phase) → is_unplugged x ≡ true → is_not_up x ≡ true → P
unfolding is_unplugged is_not_up
unplugged_only up a b = not_both false a refl
unplugged_only unplugged a b = not_both false b refl
unplugged_only not_up a b = not_both false a refl

-- While the slot is not unplugged control's word is set, so that every other bring-up is refused.
pub stands_alone : (slot : ℕ) (before : List ℕ) (s : State) → Stands slot before s → NoOtherBringUp slot s
stands_alone slot before s g n b l table e r =
    let refused = bring_up_full b l.ctx table l.log l.outcomes (λ z. full g (sym r ∙ (rw e at z))) in (refused.count, refused.table)
  where
    full : Stands slot before s → route_of s.routes slot 1 ≡ 0 → ⊥
    full (inl g) z = g.control (sym g.first ∙ z)
    full (inr (inl g)) z = not_both (is_unplugged s.plain.phase) g.phase n
    full (inr (inr g)) z = g.first z

-- The theorem, where it is known by its number that the bring-up was accepted.
module _ (slot : ℕ) (still : ℕ → Bool) (before : List ℕ) (s : State) (clear : Unrouted before slot) (f : Sofar slot still before s) where
  abbrev x : Phase
  x = s.plain.phase

  own_kept : Stands slot f.base s → is_not_up x ≡ false → (d : ℕ) → d < 32 → route_of s.routes slot d ≡ plain_route s.plain d
  own_kept (inl g) n = g.own (f.empty clear)
  own_kept (inr (inl g)) n = λ d h. g.none d h ∙ sym (g.plain d)
  own_kept (inr (inr g)) n = not_both (is_not_up x) g.phase n

  good_up : Stands slot f.base s → is_up x ≡ true → Good slot f.base s
  good_up (inl g) u = g
  good_up (inr (inl g)) u = up_only x u (rw g.phase refl)
  good_up (inr (inr g)) u = up_only x u (rw g.phase (or_right (is_unplugged x) true refl))

  empty_unplugged : Stands slot f.base s → is_unplugged x ≡ true → Empty slot f.base s
  empty_unplugged (inl g) u = up_only x g.phase (rw u refl)
  empty_unplugged (inr (inl g)) u = g
  empty_unplugged (inr (inr g)) u = unplugged_only x u g.phase

  kept : Kept slot still before s
  kept =
      record {
        long = (stands_table slot f.base s f.stands).long ∙ f.long;
        own = own_kept f.stands;
        others = λ k o y. (stands_table slot f.base s f.stands).words k o ∙ f.others k o y;
        control = λ u. (good_up f.stands u).on;
        enabled = λ u. (good_up f.stands u).enabled;
        empty = λ u d h. let g = empty_unplugged f.stands u in (g.none d h, g.off d);
        no_other = stands_alone slot f.base s f.stands;
      }

pub kept_by_number :
    (b : BringUp) (l : Buffers) (routes : List ℕ) (still : ℕ → Bool) (turns : List Turn) → Unrouted routes b.slot →
    number (bring_up b l.ctx routes l.log l.outcomes).answer ≡ 0 →
    Turns b.slot still (start b (bring_up b l.ctx routes l.log l.outcomes)) turns →
    Kept b.slot still routes (after (start b (bring_up b l.ctx routes l.log l.outcomes)) turns)
kept_by_number b l routes still turns empty accepted all =
    kept b.slot still routes _ empty (all_so_far b l routes still turns empty accepted all)

pub demand_three : Demand3
unfolding number
demand_three b l routes still turns empty accepted all = kept_by_number b l routes still turns empty (ap number accepted) all

pub sound_while_usable : SoundWhileUsable
unfolding number
sound_while_usable b l routes still turns empty accepted all u =
    let f = all_so_far b l routes still turns empty (ap number accepted) all in (usable_live b.slot f.base _ f.stands u).is_sound

-- A claim of a usable record.
claimed_good :
    (slot : ℕ) (before : List ℕ) (s : State) → Unrouted before slot → Good slot before s → (i a : ℕ) (l : Buffers) →
    i < 256 → a < 256 →
    record_check s.device (length l.ctx) (length s.routes) (length l.log) (claim_check s.device i a Pass) ≡ Pass →
    ((k : ℕ) → k < 32 → outcome_at l.outcomes k ≡ Done) →
    let words = setting_words s.plain.list i a in
    ClaimRouted slot words (drawn_from s.plain.groups (length words)) (call.left (claims i a) l s.device s.routes)
claimed_good slot before s u g i a l x y k done =
    let e = claim_done slot before s l i a x y g k done u in
    let p = (passed s.device _ _ _ _ k).0 in
    let v = live_here slot before s g p.usable in
    let valid : valid_list s.plain.list ≡ true = rw (← v.list) p.facts.list in
    let ws = setting_words s.plain.list i a in
    let low : some_dci 1 ws ≡ false = sym (words_dci 1 ws []) ∙ words_low_name ws [] (setting_word s.plain.list valid i a) 1 (omega arith) in
    record { accepted = e; routed = λ d h w. claim_routes slot before s l i a x y g u e d h w low }

pub claims_accepted : ClaimsAccepted
unfolding number
claims_accepted b l routes still turns empty accepted all i a m table x y w k done =
    let f = so_far_between b.slot still routes _ table w (all_so_far b l routes still turns empty (ap number accepted) all) in
    let u = (passed _ _ _ _ _ k).0.usable in
    claimed_good b.slot f.base _ (f.empty empty) (not_down b.slot f.base _ (λ d. not_both _ u d.0) f.stands) i a m x y k done

-- A bring-up of a slot without routes, whose other checks pass.
free_accepted :
    (b : BringUp) (l : Buffers) (routes : List ℕ) → route_of routes b.slot 1 ≡ 0 →
    slot_check b (length l.ctx) (length routes) (length l.log) (device_check b Pass) ≡ Pass → b.header ≡ 8 →
    exponent_ok b.speed b.packet ≡ true → ((k : ℕ) → k < 64 → outcome_at l.outcomes k ≡ Done) →
    (bring_up b l.ctx routes l.log l.outcomes).answer ≡ answer.Accepted
unfolding queue_check bring_up_check
free_accepted b l routes free k h e done =
    let p = (brought-checks.passed b (length l.ctx) (length routes) (length l.log) Pass k).0 in
    bring_up_done b l.ctx routes l.log l.outcomes (whole k) h e
    (λ n low high. done n (omega (arith, high, (listed b.speed b.list p.list).few)))
  where
    queue : queue_check b routes ≡ Pass
    queue = rw free

    whole :
        slot_check b (length l.ctx) (length routes) (length l.log) (device_check b Pass) ≡ Pass →
        bring_up_check b (length l.ctx) routes (length l.log) ≡ Pass
    whole k = rw queue k

pub brought_up_again : BroughtUpAgain
unfolding number call.left
brought_up_again b l routes still turns empty accepted all u next m table same w k h e done =
    let f = so_far_between b.slot still routes _ table w (all_so_far b l routes still turns empty (ap number accepted) all) in
    let g = empty_unplugged b.slot still routes _ empty f f.stands u in
    free_accepted next m _ (rw same (g.none 1 (omega arith))) k h e done

pub begun_anew : BegunAnew
unfolding called effect_of observed anew number
begun_anew s t b same accepted = rw (same, accepted) refl
