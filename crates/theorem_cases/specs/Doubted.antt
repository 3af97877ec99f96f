-- The rings that the slot's controller holds after lists of calls, where each unanswered command acted and where none did.
use Rattle.std.specs.Prelude.{ℕ, zero, suc, ◌+◌, Bool, true, false, ◌&&◌, List, [], ◌∷◌, eqb}
use Rattle.answer.specs.declared.Answer.TheVariants as answer
use Rattle.transfer.specs.Routes.{Queue}
use Rattle.theorem_slot.specs.Call.{claims, releases, configures, disconnects}
use Rattle.theorem_doubt.specs.Doubt.{Watched, watched, unborn}
use Rattle.theorem_cases.specs.Example.{done}
use Rattle.theorem_cases.specs.Lists.{table, Heard, hears, first_claim, first_call, route, ring_in}

-- Calls after the bring-up, and the rings that the controller then holds, by Dci: where each unanswered command acted, where none did.
pub record RingsHeld : Type 0 where
  pub calls : List Heard
  pub acted : List Queue
  pub idle : List Queue

-- The same where every command was answered.
abbrev pub held_either : List Heard → List Queue → RingsHeld
held_either calls rings = record { calls = calls; acted = rings; idle = rings }

abbrev pub held_as : List Heard → List Queue → List Queue → RingsHeld
held_as calls acted idle = record { calls = calls; acted = acted; idle = idle }

abbrev pub control : List Queue → List Queue
control rings = route 1 16 ∷ rings

abbrev pub rings_held : List RingsHeld
rings_held =
    -- the bring-up alone: control's
    held_either [] (control [])
    -- a claim, one of the other alternate in its place, its release, an unplugging
    ∷ held_either (first_claim ∷ []) (control (route 3 32 ∷ []))
    ∷ held_either (first_claim ∷ hears (claims 0 1) done answer.Accepted ∷ []) (control (route 3 48 ∷ route 4 64 ∷ []))
    ∷ held_either (first_claim ∷ hears (releases 0) done answer.Accepted ∷ []) (control [])
    ∷ held_either (first_claim ∷ hears disconnects done answer.Accepted ∷ []) []
    -- of a repeated address the last word's ring
    ∷ held_either (hears (claims 2 0) done answer.Accepted ∷ []) (control (route 7 48 ∷ []))
    -- a claim undone: its SetInterface fails; and one whose Configure fails, so that it did not act
    ∷ held_either (first_claim ∷ hears (claims 0 1) (0 ∷ 0 ∷ 7 ∷ 0 ∷ 0 ∷ []) (answer.Failed 7) ∷ []) (control (route 3 32 ∷ []))
    ∷ held_either (first_claim ∷ hears (claims 0 1) (0 ∷ 7 ∷ 0 ∷ []) (answer.Failed 7) ∷ []) (control (route 3 32 ∷ []))
    -- a claim that breaks: the new rings are there
    ∷ held_either (first_claim ∷ hears (claims 0 1) (0 ∷ 0 ∷ 7 ∷ 5 ∷ []) answer.InterfaceBroken ∷ []) (control (route 3 48 ∷ route 4 64 ∷ []))
    -- one that is cut at its Configure: they may be
    ∷ held_as (first_claim ∷ hears (claims 0 1) (0 ∷ []) answer.Cut ∷ []) (control (route 3 48 ∷ route 4 64 ∷ [])) (control (route 3 32 ∷ []))
    -- cut at its SetInterface: they are; at the Configure that undoes it: they, or the old one
    ∷ held_either (first_claim ∷ hears (claims 0 1) (0 ∷ 0 ∷ []) answer.Cut ∷ []) (control (route 3 48 ∷ route 4 64 ∷ []))
    ∷ held_as (first_claim ∷ hears (claims 0 1) (0 ∷ 0 ∷ 7 ∷ []) answer.Cut ∷ []) (control (route 3 32 ∷ []))
    (control (route 3 48 ∷ route 4 64 ∷ []))
    -- cut in the Resume after its Configure failed: the old one
    ∷ held_either (first_claim ∷ hears (claims 0 1) (0 ∷ 7 ∷ []) answer.Cut ∷ []) (control (route 3 32 ∷ []))
    -- a set configuration cut at its Configure, and one that breaks at its Evaluate
    ∷ held_as (first_claim ∷ hears (configures 1) (0 ∷ []) answer.Cut ∷ []) (control []) (control (route 3 32 ∷ []))
    ∷ held_either (first_claim ∷ hears (configures 1) (0 ∷ 0 ∷ 0 ∷ 7 ∷ []) answer.InterfaceBroken ∷ []) (control [])
    -- an unplugging cut at its Disable
    ∷ held_as (first_claim ∷ hears disconnects (0 ∷ 0 ∷ []) answer.Cut ∷ []) [] (control (route 3 32 ∷ []))
    ∷ []

-- Of k Dcis from d on, each has its ring.
abbrev pub same_rings : ℕ → ℕ → (ℕ → ℕ) → List Queue → Bool
same_rings zero d rings expected = true
same_rings (suc k) d rings expected = eqb (rings d) (ring_in d expected) && same_rings k (d + 1) rings expected

abbrev pub heard_rings : Bool → Watched → List Heard → List Queue → Bool
heard_rings took w [] expected = same_rings 32 0 w.rings expected
heard_rings took w (h ∷ hs) expected =
    heard_rings took (watched took w (record { call = h.call; table = w.state.routes; keeps = h.keeps })) hs expected

abbrev pub brought : Bool → Watched
brought took = watched took (unborn table) (record { call = first_call; table = table; keeps = false })

abbrev pub rings_hold : RingsHeld → Bool
rings_hold r = heard_rings true (brought true) r.calls r.acted && heard_rings false (brought false) r.calls r.idle

abbrev pub all_rings : List RingsHeld → Bool
all_rings [] = true
all_rings (r ∷ rs) = rings_hold r && all_rings rs
