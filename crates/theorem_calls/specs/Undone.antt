-- What a call logs after its first command that fails, whatever record and table it gets.
use Rattle.std.specs.Prelude.{ℕ, ◌+◌, ◌<◌, ◌≡◌, true, false, cond, ◌&&◌, List, [], ◌∷◌, eqb, ltb, length, get_or, take, drop}
use Rattle.descriptor_list.specs.Valid.{configurations}
use Rattle.command.specs.Command.{outcome_at}
use Rattle.record_endpoint.specs.declared.endpoint_map.Owner.TheVariants.{Any, Interface}
use Rattle.record_settings.specs.Held.{is_held, alternate_of}
use Rattle.theorem_controller.specs.Controller.{is_done}
use Rattle.device.specs.declared.record.Device.{Device}
use Rattle.device.specs.Device.{held_of}
use Rattle.answer.specs.Answer.{is_cut}
use Rattle.device.specs.Left.{Left}
use Rattle.theorem_slot.specs.Answers.{is_refused}
use Rattle.theorem_slot.specs.Call.{Asked, brings_up, claims, commits, releases, configures, updates_hub, disconnects, Call, left}
use Rattle.theorem_calls.specs.Commands.{is_unplugging, AllDone}
use Rattle.theorem_calls.specs.Accepted.{dcis_of, accepted_words}
use Rattle.theorem_calls.specs.Words.{configure, resume, set_interface}

-- Resumes of some endpoints, until one is not done; the first is command number n of its call.
unfoldable pub resumes : List ℕ → ℕ → List ℕ → List ℕ
resumes outcomes n [] = []
resumes outcomes n (dci ∷ dcis) = resume dci ∷ cond (is_done (outcome_at outcomes n)) (resumes outcomes (n + 1) dcis) []

-- After command m, one of the Stops of some endpoints, those stopped before it are resumed; after a later one what `next` says.
unfoldable pub after_stop : List ℕ → ℕ → List ℕ → List ℕ → List ℕ
after_stop outcomes m dcis next = cond (ltb m (length dcis)) (resumes outcomes (m + 1) (take m dcis)) next

-- A failed Configure: all are resumed.
unfoldable pub after_configure : List ℕ → ℕ → List ℕ → List ℕ → List ℕ
after_configure outcomes m dcis next = cond (eqb m (length dcis)) (resumes outcomes (m + 1) dcis) next

-- A claim's failed SetInterface: a Configure, and if that is done, the interface's held alternate is set again, if it held one.
unfoldable pub claim_undone : List ℕ → ℕ → ℕ → Device → List ℕ
claim_undone outcomes m interface d =
    configure
    ∷ cond (is_done (outcome_at outcomes (m + 1)) && is_held interface (held_of d))
    (set_interface interface (alternate_of interface (held_of d)) ∷ []) []

-- What follows the failed command m, all before it being done.
unfoldable pub undo_words : Asked → Device → List ℕ → ℕ → List ℕ
-- a failed SetConfiguration: a Configure
undo_words (brings_up a) d outcomes m = cond (eqb m (configurations a.list + 6)) (configure ∷ []) []
undo_words (claims interface alternate) d outcomes m =
    let dcis = dcis_of (Interface interface) d in
    after_stop outcomes m dcis (after_configure outcomes m dcis (claim_undone outcomes m interface d))
undo_words (commits p) d outcomes m =
    let dcis = dcis_of (Interface p.interface) d in
    after_stop outcomes m dcis (after_configure outcomes m dcis (claim_undone outcomes m p.interface d))
undo_words (releases interface) d outcomes m =
    let dcis = dcis_of (Interface interface) d in after_stop outcomes m dcis (after_configure outcomes m dcis [])
-- a failed SetConfiguration: a Configure, and if that is done, all are resumed; a failed Evaluate: nothing
undo_words (configures value) d outcomes m =
    let dcis = dcis_of Any d in
    after_stop outcomes m dcis
    (after_configure outcomes m dcis
    (cond (eqb m (length dcis + 1)) (configure ∷ cond (is_done (outcome_at outcomes (m + 1))) (resumes outcomes (m + 2) dcis) []) []))
undo_words (updates_hub ports multi ns) d outcomes m = []
-- an unplugging goes on
undo_words disconnects d outcomes m = []

-- A failure is an outcome that is there, and not 0.
abbrev pub LogUndoes : Type 0
LogUndoes =
    (c : Call) (d : Device) (routes : List ℕ) (m : ℕ) →
    is_unplugging c.asked ≡ false →
    let l = left c.asked c.buffers d routes in
    m < l.count → AllDone c.buffers.outcomes m → m < length c.buffers.outcomes → (get_or c.buffers.outcomes m 0 ≡ 0 → ⊥) →
    drop (m + 1) (take l.count l.log) ≡ undo_words c.asked d c.buffers.outcomes m

-- An unplugging goes on past failed Stops: its log is an accepted one's, or where it is cut, what such a one begins with.
pub record GoesOn (asked : Asked) (d : Device) (l : Left) : Type 0 where
  pub begun : take l.count l.log ≡ take l.count (accepted_words asked d)
  pub whole : is_refused l.answer ≡ false → is_cut l.answer ≡ false → take l.count l.log ≡ accepted_words asked d

abbrev pub UnpluggingGoesOn : Type 0
UnpluggingGoesOn =
    (c : Call) (d : Device) (routes : List ℕ) →
    is_unplugging c.asked ≡ true → GoesOn c.asked d (left c.asked c.buffers d routes)
