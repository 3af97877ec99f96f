-- The given rings over lists of calls.
use Prim.Native.Nat.{ℕ}
use mathlib.Core.Path.{◌≡◌, refl, sym, ◌∙◌, ap}
use mathlib.Core.Bool.{Bool, true, false, cond, ◌||◌}
use mathlib.Core.List.{List}
use mathlib.Core.Logic.{inl, inr}
use borrow.Author.Tests.{eq-eqb, eqb-true}
use lib.ListN.{length}
use Rattle.laws.specs.Distinct.{elem}
use Rattle.laws.proofs.Cases.{or_right}
use Rattle.answer.specs.declared.Answer.{Answer}
use Rattle.answer.specs.Answer.{number, is_accepted}
use Rattle.record_ring.specs.Store.{given_ok, least}
use Rattle.record_ring.proofs.Promises.{least_promise}
use Rattle.record_settings.specs.Held.{setting_words}
use Rattle.theorem_controller.specs.Controller.{DISABLE, controlled, enabled_after, done_word}
use Rattle.course_init.specs.Reading.{BringUp, control_ring}
use Rattle.device.specs.declared.record.Device.{Device}
use Rattle.device.specs.Device.{list_of}
use Rattle.device.specs.Claim.{drawn}
use Rattle.device.proofs.Laws.{passed}
use Rattle.theorem_slot.specs.Call.{Buffers, Asked, left}
use Rattle.theorem_slot.specs.Answers.{is_bring_up}
use Rattle.theorem_slot.specs.Groups.{Groups, given_groups, freed_groups, only_one, Parted}
use Rattle.theorem_slot.specs.Plain.{Plain, unplugs, effect_of, groups_after, emptied, anew, observed, seen}
use Rattle.theorem_slot.specs.Theorem.{State, called, after, Between, NoOtherBringUp}
use Rattle.theorem_slot.specs.Rings.{first, AfterAddress, GivenParted, OfRecord, RecordsGroups, FreeDrawn, NoOtherGiven, NoneMismatched, BegunBy, BegunGroups, FreedFrom, FreedByUnplugging}
use Rattle.theorem_slot.proofs.Bools.{law}
use Rattle.theorem_slot.proofs.Parted.{given_least, drawn_free}
use Rattle.theorem_slot.proofs.Record.{draws_same, of_record}
use Rattle.theorem_slot.proofs.Good.{Live, Stands, usable_live, up_live}
use Rattle.theorem_slot.proofs.BringUp.{first_stands, first_groups, first_agrees}
use Rattle.theorem_slot.proofs.Matched.{Other, stands_other}
use Rattle.theorem_slot.proofs.Demand3.{at_table, Sofar, stands_between, after_so_far, stands_alone}

-- Of any such list the invariant holds.
pub so_far :
    (P : ℕ → State → Type 0) → ((slot : ℕ) (before : List ℕ) (s : State) → Stands slot before s → P slot s) → AfterAddress P
so_far P h s b l routes still turns sent all =
    let f : Sofar b.slot still routes (after (called s (first b l routes)) turns) =
    after_so_far b.slot still routes _ turns all
    (record { base = routes; stands = first_stands s l b routes sent; empty = λ u. u; long = refl; others = λ k x y. refl }) in
    h b.slot f.base _ f.stands

parted : (slot : ℕ) (before : List ℕ) (s : State) → Stands slot before s → Parted s.plain.groups
parted slot before s (inl g) = g.parted
parted slot before s (inr (inl g)) = g.parted
parted slot before s (inr (inr g)) = g.parted

pub given_parted : GivenParted
given_parted = so_far (λ slot s. Parted s.plain.groups) parted

pub records_groups : RecordsGroups
records_groups = so_far (λ slot s. s.device.up ≡ true → OfRecord s.device s.plain.groups) go
  where
    go : (slot : ℕ) (before : List ℕ) (s : State) → Stands slot before s → s.device.up ≡ true → OfRecord s.device s.plain.groups
    go slot before s g u = let l = up_live slot before s g u in of_record s.device l.is_sound s.plain.groups l.groups

-- What a claim of the record draws is free.
live_drawn :
    (slot : ℕ) (s : State) → Live slot s.device s.plain → Parted s.plain.groups → (i a x : ℕ) →
    elem x (drawn s.device i a) ≡ true → (s.plain.groups.live x || s.plain.groups.quarantined x) ≡ false
unfolding only_one
live_drawn slot s l p i a x e =
    let g = s.plain.groups in
    let n = length (setting_words (list_of s.device) i a) in
    let t = drawn_free g n x (ap (elem x) (draws_same s.device l.is_sound g l.groups i a) ∙ e) in
    law (λ b c d e f. only_one true b c) (λ b c d e f. b || c) (λ b c d e f. false) refl (g.live x) (g.quarantined x) false false false
    (ap (λ b. only_one b (g.live x) (g.quarantined x)) (sym t.0) ∙ p.one x t.1)

pub free_drawn : FreeDrawn
free_drawn s b l routes still turns sent all i a m x others table w k e =
    so_far
    (λ slot s. s.device.usable ≡ true → elem x (drawn s.device i a) ≡ true → (s.plain.groups.live x || s.plain.groups.quarantined x) ≡ false)
    (go i a x) s b l routes still turns sent all (passed _ _ _ _ _ k).0.usable e
  where
    go :
        (i a x slot : ℕ) (before : List ℕ) (s : State) → Stands slot before s → s.device.usable ≡ true →
        elem x (drawn s.device i a) ≡ true → (s.plain.groups.live x || s.plain.groups.quarantined x) ≡ false
    go i a x slot before s g u d = live_drawn slot s (usable_live slot before s g u) (parted slot before s g) i a x d

pub no_other_given : NoOtherGiven
no_other_given = so_far NoOtherBringUp stands_alone

pub none_mismatched : NoneMismatched
none_mismatched =
    so_far
    (λ slot s.
    (asked : Asked) (l : Buffers) (still : ℕ → Bool) (table : List ℕ) → is_bring_up asked ≡ false → Between slot still s.routes table →
    Other (left asked l s.device table).answer)
    (λ slot before s g asked l still table e w. stands_other slot _ (at_table s table) (stands_between slot still before s table w g) asked l e)

-- Of one call.
given_begun :
    (b : BringUp) (d : Device) → given_ok b.rings ≡ true → OfRecord d (given_groups b.rings) → BegunBy b d (given_groups b.rings)
unfolding given_groups control_ring
given_begun b d ok agrees =
    record {
      given = refl;
      live = λ x e. rw (eqb-true x (least b.rings) e) (given_least b.rings ok);
      lowest = λ x y e h. rw (eqb-true x (least b.rings) e) ((least_promise b.rings).none_lower y h);
      control = eq-eqb (least b.rings) (least b.rings) refl;
      agrees = agrees;
      quarantined = λ x. refl;
    }

pub begun_groups : BegunGroups
begun_groups s b l routes sent = let t = first_groups s l b routes sent in rw t.0 (given_begun b _ t.1 (first_agrees s l b routes sent))

freed : (g : Groups) → FreedFrom g (freed_groups g)
unfolding freed_groups
freed g =
    record { given = refl; live = λ x. refl; free = λ x e. or_right (g.free x) (g.live x) e; quarantined = λ x. refl }

either : (b : Bool) (p : Plain) → (cond b (emptied p) p).groups ≡ p.groups
unfolding emptied
either true p = refl
either false p = refl

seen_freed :
    (buffers : Buffers) (a : Answer) (words : List ℕ) (contexts : ℕ → List ℕ) (p : Plain) → is_accepted a ≡ true →
    (observed unplugs buffers a words contexts p).groups ≡ freed_groups p.groups
unfolding observed anew seen groups_after
seen_freed buffers a words contexts p e =
    either (done_word DISABLE buffers.outcomes 0 words)
    (seen unplugs buffers a words (controlled enabled_after contexts buffers.outcomes 0 words p.enabled) p)
    ∙ rw e refl

pub freed_by_unplugging : FreedByUnplugging
unfolding called effect_of number
freed_by_unplugging s t same accepted =
    let e : (called s t).plain.groups ≡ freed_groups s.plain.groups =
    rw same (seen_freed t.call.buffers _ _ _ s.plain (rw accepted refl)) in
    rw e (freed s.plain.groups)
