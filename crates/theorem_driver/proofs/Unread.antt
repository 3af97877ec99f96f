-- What a bring-up leaves does not depend on guesses that are not read.
use Prim.Native.Nat.{ℕ}
use mathlib.Core.Path.{◌≡◌}
use mathlib.Core.Bool.{true}
use mathlib.Core.List.{List}
use lib.ListN.{length}
use Rattle.laws.proofs.Tests.{and_left, and_right}
use Rattle.descriptor_list.specs.Companions.{list_ok, companions_fit, valid_at}
use Rattle.descriptor_list.proofs.Companions.{listed}
use Rattle.transfer.specs.Routes.{with_route}
use Rattle.command.specs.Course.{Course, played}
use Rattle.context.specs.Place.{spacing_of}
use Rattle.course_init.specs.Reading.{BringUp, control_ring, Brought}
use Rattle.device_bring_up.specs.BringUp.{slot_check, device_check, queue_check, bring_up_check, bring_up_course, brought_record, brought_left, bring_up}
use Rattle.theorem_slot.specs.Call.{left}
use Rattle.theorem_driver.specs.Driven.{Guess, guessing, GuessesUnread}
use Rattle.theorem_driver.proofs.Phases.{Alike, address_alike}

played_alike : (o : List ℕ) (c d : Course Brought) (log : List ℕ) → Alike o 0 c d → played o 0 c log ≡ played o 0 d log
unfolding played
played_alike o c d log x = rw (x.logged, x.ended)

-- checks look at the list only for whether it is valid at the speed
check_alike : (a : BringUp) (g : Guess) (ctx : ℕ) (routes : List ℕ) (log : ℕ) → valid_at a.speed a.list ≡ true → valid_at a.speed g.list ≡ true →
    bring_up_check (guessing a g) ctx routes log ≡ bring_up_check a ctx routes log
unfolding guessing bring_up_check slot_check device_check queue_check valid_at
check_alike a g ctx routes log v w =
    rw (and_left (list_ok a.speed a.list) _ v, and_right (list_ok a.speed a.list) _ v, and_left (list_ok a.speed g.list) _ w, and_right (list_ok a.speed g.list) _ w)

pub guesses_unread : GuessesUnread
unfolding left guessing bring_up bring_up_course brought_left brought_record control_ring
guesses_unread a g b d routes v w right =
    rw (
      check_alike a g (length b.ctx) routes (length b.log) v w,
      played_alike b.outcomes _ _ b.log
          (address_alike a g b.outcomes (spacing_of (length b.ctx)) (with_route routes a.slot 1 (control_ring a)) right (listed a.speed a.list v).begins (listed a.speed g.list w).begins b.ctx),
    )
