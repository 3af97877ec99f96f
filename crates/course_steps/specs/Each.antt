-- A command for each of some endpoints: what stopping and resuming them share.
use Rattle.std.specs.Prelude.{ℕ, ◌+◌, ◌<◌, ◌≡◌, List, [], ◌∷◌}
use Rattle.command.specs.declared.Command.{Command}
use Rattle.command.specs.declared.Sent.TheVariants.{Done, Failed, Cut}
use Rattle.command.specs.Course.{Course, ends, sends, on_sent}
use Rattle.command.specs.Sweep.{Sweep, swept}
use Rattle.def.specs.declared.Dci.{Dci}

-- Calls that give the command of each endpoint.
abbrev pub Gives : (Dci → Command → Type 0) → (ℕ → Command) → Type 0
Gives post of = (d : ℕ) (c : Command) → d < 256 → post (record { 0 = d }) c → c ≡ of d

-- A command is sent for each endpoint in order, until one is not done; `done` were done before.
unfoldable pub send_from : (ℕ → Command) → List ℕ → ℕ → List ℕ → Course Sweep
send_from of ctx done [] = ends (swept Done done)
send_from of ctx done (d ∷ ds) =
    sends (of d) ctx
    (λ s. on_sent s (send_from of ctx (done + 1) ds) (λ code. ends (swept (Failed code) done)) (ends (swept Cut done)))
