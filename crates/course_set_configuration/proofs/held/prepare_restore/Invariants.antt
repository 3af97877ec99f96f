use mathlib.Core.Path.{◌≡◌}
use Prim.Native.Nat.{◌≤◌, max}
use lib.ListN.{length}
use Rattle.transfer.specs.Routes.{queues}
use Rattle.context.specs.Place.{written}
use Rattle.context.specs.Steps.{add_all, highest_dci, word_dcis}
use Rattle.descriptor_list.specs.Companions.{joined}
use Rattle.record_settings.specs.Held.{held_by, held_words}
use Rattle.course_set_configuration.proofs.Steps.{words_from}
use Rattle.course_set_configuration.proofs.held.prepare_restore.Given as goal

abbrev pub invariant-loop-i : goal.invariant-loop-i
invariant-loop-i l =
    (length l.ctx ≡ length l.initial.ctx) × (1 ≤ l.entries) × (max l.initial.entries (highest_dci (word_dcis (held_words (joined l.list) (held_by l.fn.a.held)))) ≡ max l.entries (highest_dci (word_dcis (words_from (joined l.list) l.fn.a.held.interfaces l.fn.a.held.alternates l.fn.a.held.count l.i)))) × (written l.fn.a.spacing (add_all l.fn.a.speed (queues l.dcis l.rings) (held_words (joined l.list) (held_by l.fn.a.held))) l.initial.ctx ≡ written l.fn.a.spacing (add_all l.fn.a.speed (queues l.dcis l.rings) (words_from (joined l.list) l.fn.a.held.interfaces l.fn.a.held.alternates l.fn.a.held.count l.i)) l.ctx)
