-- Stopping and resuming some endpoints, one after the other: `stop_endpoints` and `resume_stopped_endpoints` of the original.
use Rattle.std.specs.Prelude.{ℕ, ◌+◌, ◌≡◌, Bool, true, false, List, [], ◌∷◌, ◌++◌}
use Rattle.command.specs.declared.Sent.{Sent}
use Rattle.command.specs.declared.Sent.TheVariants.{Done, Failed, Cut}
use Rattle.command.specs.declared.Swept.{Swept}
use Rattle.command.specs.Command.{stop_command, resume_command}
use Rattle.command.specs.Course.{Course, ends, sends, on_sent, then, Played}

-- How a sweep over endpoints ended, and how many of them, from the first on, it made active again.
pub record Sweep : Type 0 where
  pub sent : Sent
  pub active : ℕ

abbrev pub swept : Sent → ℕ → Sweep
swept s n = record { sent = s; active = n }

-- Endpoints are resumed in order, until one fails; each is active then. `active` were resumed before.
unfoldable pub resume_from : List ℕ → ℕ → List ℕ → Course Sweep
resume_from ctx active [] = ends (swept Done active)
resume_from ctx active (d ∷ ds) =
    sends (resume_command d) ctx
    (λ s. on_sent s (resume_from ctx (active + 1) ds) (λ code. ends (swept (Failed code) active)) (ends (swept Cut active)))

unfoldable pub resume_stopped_endpoints : List ℕ → List ℕ → Course Sweep
resume_stopped_endpoints ctx dcis = resume_from ctx 0 dcis

-- The code of a failed resume counts before the one that was to be answered.
unfoldable pub or_code : ℕ → Sent → Sent
or_code code Done = Failed code
or_code code (Failed later) = Failed later
or_code code Cut = Cut

-- Those already stopped are resumed after a stop failed with this code.
unfoldable pub undo_stops : List ℕ → List ℕ → ℕ → Course Sweep
undo_stops ctx stopped code =
    then (resume_stopped_endpoints ctx stopped) (λ r. ends (swept (or_code code r.sent) r.active))

-- Endpoints are stopped in order, until one fails: then those already stopped are resumed. `stopped` were stopped before.
unfoldable pub stop_from : List ℕ → List ℕ → List ℕ → Course Sweep
stop_from ctx stopped [] = ends (swept Done 0)
stop_from ctx stopped (d ∷ ds) =
    sends (stop_command d) ctx
    (λ s. on_sent s (stop_from ctx (stopped ++ (d ∷ [])) ds) (undo_stops ctx stopped) (ends (swept Cut 0)))

unfoldable pub stop_endpoints : List ℕ → List ℕ → Course Sweep
stop_endpoints ctx dcis = stop_from ctx [] dcis

-- Endpoints are stopped one after the other, past a failed Stop; whether it was cut.
unfoldable pub stop_each : List ℕ → List ℕ → Course Bool
stop_each ctx [] = ends false
stop_each ctx (d ∷ ds) =
    sends (stop_command d) ctx (λ s. on_sent s (stop_each ctx ds) (λ code. stop_each ctx ds) (ends true))

-- What a sweep's code leaves: its result, and the log.
pub record SweptAs (r : Swept) (left : List ℕ) (p : Played Sweep) : Type 0 where
  pub sent : r.sent ≡ p.end.sent
  pub active : r.active ≡ p.end.active
  pub count : r.count ≡ p.count
  pub log : left ≡ p.log
