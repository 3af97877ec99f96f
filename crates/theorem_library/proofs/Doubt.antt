-- The rings that a slot's controller may hold, over lists of calls of the exported functions.
use Prim.Native.Nat.{ℕ}
use mathlib.Core.Path.{◌≡◌, refl, sym, ap, ◌∙◌}
use mathlib.Core.Bool.{Bool, true, false}
use mathlib.Core.List.{List, ◌∷◌}
use borrow.Author.Tests.{eq-eqb}
use lib.ListN.{length}
use Rattle.device.specs.declared.record.Device.{Device}
use Rattle.device_bring_up.specs.BringUp.{bring_up}
use Rattle.device_image.specs.Image.{decode}
use Rattle.device_image.specs.Layout.{WORDS}
use Rattle.theorem_slot.specs.Call.{OfSlot, left}
use Rattle.theorem_slot.specs.Rings.{first}
use Rattle.theorem_slot.specs.Theorem.{State, Turn, record_after, called, after, Between, Turns}
use Rattle.theorem_doubt.specs.Doubt.{Watched, watched_after, unborn}
use Rattle.theorem_doubt.proofs.Never.{watched_state, never_free, never_drawn, held_routed, never_mismatched}
use Rattle.theorem_library.specs.Library.{reads, image_end, table_end, turns_of}
use Rattle.theorem_library.specs.Doubt.{LibraryDoubt}
use Rattle.theorem_library.proofs.Library.{Leaves, leaves, went}

pub library_doubt : LibraryDoubt
unfolding reads left called record_after Turns OfSlot after unborn
library_doubt b l image routes x still took es wide size meets o =
    let none : Watched = unborn routes in
    let turns : List Turn = first b l routes ∷ turns_of es in
    let v : Leaves x (bring_up b l.ctx routes l.log l.outcomes) = leaves x _ _ image l.ctx routes l.log (eq-eqb (length image) WORDS size) meets in
    let begins : State = called none.state (first b l routes) in
    let w = went b.slot still x.image x.routes begins es (record { there = v.image; device = v.device; table = v.routes }) o in
    let same : Between b.slot still none.state.routes routes = record { long = refl; own = λ d h. refl; others = λ k e. refl } in
    let all : Turns b.slot still none.state turns = (refl, (same, w.turns)) in
    let state : (watched_after took none turns).state ≡ after begins (turns_of es) = watched_state took turns none in
    let device : decode (image_end x.image es) ≡ (watched_after took none turns).state.device =
    w.has.device ∙ sym (ap (λ (s : State). s.device) state) in
    let table : table_end x.routes es ≡ (watched_after took none turns).state.routes =
    w.has.table ∙ sym (ap (λ (s : State). s.routes) state) in
    record {
      free = never_free b.slot routes still took turns wide all;
      drawn =
          λ u. rw device (never_drawn b.slot routes still took turns wide all (sym (ap (λ (d : Device). d.up) device) ∙ u));
      held = λ u. held_routed b.slot routes still took turns wide all (sym (ap (λ (d : Device). d.usable) device) ∙ u);
      matched = λ asked c others t e i. rw device (never_mismatched b.slot routes still took turns wide all asked c others t e (rw (← table) i));
    }
