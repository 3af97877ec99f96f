-- A call that logs no word leaves the record as it came: each that is not refused begins with a command.
use Rattle.std.specs.Prelude.{ℕ, ◌≡◌, Bool, true, false, List, [], ◌∷◌, Ok, Err}
use mathlib.Core.Path.{refl}
use native.Mathlib.Omega.{arith}
use Rattle.laws.proofs.Tests.{not_both}
use Rattle.answer.specs.Check.{Check}
use Rattle.command.specs.declared.Sent.TheVariants.{Done}
use Rattle.command.specs.Course.{Course, ends, sends, on_sent, then, words, played}
use Rattle.command.specs.Sweep.{Sweep, swept, stop_from, stop_endpoints, stop_each}
use Rattle.record_endpoint.specs.EndpointMap.{queue_dcis}
use Rattle.course_steps.specs.End.{End}
use Rattle.course_claim.specs.Claim.{Claim, claim_configure, claim_course}
use Rattle.course_release.specs.Release.{Release, release_configure, release_course}
use Rattle.course_set_configuration.specs.SetConfiguration.{Settings, set_configure, set_course}
use Rattle.course_disconnect.specs.Disconnect.{disconnect_course}
use Rattle.device.specs.declared.record.Device.{Device}
use Rattle.device.specs.Left.{Left, refused, ended}
use Rattle.device.specs.Calls.{on_check, hub_course, hub_left, hub_update}
use Rattle.device.specs.Claim.{claim}
use Rattle.device.specs.Ask.{Ask, commit}
use Rattle.device.specs.Release.{release}
use Rattle.device.specs.SetConfiguration.{set_configuration}
use Rattle.device.specs.Disconnect.{disconnect}

unfoldable begins : {A : Type 0} → Course A → Bool
begins (ends a) = false
begins (sends c ctx k) = true

counted : {A : Type 0} (o log : List ℕ) (c : Course A) → begins c ≡ true → (played o 0 c log).count ≡ 0 → ⊥
unfolding begins played words
counted o log (ends a) e z = not_both false e refl
counted o log (sends c ctx k) e z = omega (arith, z)

after_stops : (ctx : List ℕ) (next : Sweep → Course End) (dcis : List ℕ) → begins (next (swept Done 0)) ≡ true →
    begins (then (stop_endpoints ctx dcis) next) ≡ true
unfolding begins stop_endpoints stop_from then
after_stops ctx next [] e = e
after_stops ctx next (d ∷ ds) e = refl

claim_begins : (a : Claim) (ctx routes : List ℕ) → begins (claim_course a ctx routes) ≡ true
unfolding begins claim_course claim_configure on_sent
claim_begins a ctx routes = after_stops ctx _ (queue_dcis a.old) refl

release_begins : (a : Release) (ctx routes : List ℕ) → begins (release_course a ctx routes) ≡ true
unfolding begins release_course release_configure on_sent
release_begins a ctx routes = after_stops ctx _ (queue_dcis a.old) refl

set_begins : (a : Settings) (ctx routes : List ℕ) → begins (set_course a ctx routes) ≡ true
unfolding begins set_course set_configure on_sent
set_begins a ctx routes = after_stops ctx _ (queue_dcis a.old) refl

disconnect_begins : (slot : ℕ) (dcis ctx routes : List ℕ) → begins (disconnect_course slot dcis ctx routes) ≡ true
unfolding begins disconnect_course stop_each then
disconnect_begins slot dcis ctx routes = refl

module _ (d : Device) (ctx routes log : List ℕ) where
  same : (c : Check) (left : Left) → (left.count ≡ 0 → ⊥) → (on_check c left (λ a. refused d a ctx routes log)).count ≡ 0 →
      (on_check c left (λ a. refused d a ctx routes log)).device ≡ d
  unfolding on_check refused
  same (Ok u) left f z = absurd (f z)
  same (Err a) left f z = refl

  module _ (o : List ℕ) where
    pub claim_unsent : (i a : ℕ) → (claim d ctx routes log o i a).count ≡ 0 → (claim d ctx routes log o i a).device ≡ d
    unfolding claim ended
    claim_unsent i a = same _ _ (counted o log _ (claim_begins _ ctx routes))

    pub commit_unsent : (p : Ask) → (commit d ctx routes log o p).count ≡ 0 → (commit d ctx routes log o p).device ≡ d
    unfolding commit ended
    commit_unsent p = same _ _ (counted o log _ (claim_begins _ ctx routes))

    pub release_unsent : (i : ℕ) → (release d ctx routes log o i).count ≡ 0 → (release d ctx routes log o i).device ≡ d
    unfolding release ended
    release_unsent i = same _ _ (counted o log _ (release_begins _ ctx routes))

    pub set_unsent : (value : ℕ) → (set_configuration d ctx routes log o value).count ≡ 0 → (set_configuration d ctx routes log o value).device ≡ d
    unfolding set_configuration ended
    set_unsent value = same _ _ (counted o log _ (set_begins _ ctx routes))

    pub hub_unsent : (ports : ℕ) (multi : Bool) (ns : ℕ) → (hub_update d ctx routes log o ports multi ns).count ≡ 0 →
        (hub_update d ctx routes log o ports multi ns).device ≡ d
    unfolding hub_update hub_left hub_course begins
    hub_unsent ports multi ns = same _ _ (counted o log _ refl)

    pub disconnect_unsent : (disconnect d ctx routes log o).count ≡ 0 → (disconnect d ctx routes log o).device ≡ d
    unfolding disconnect ended
    disconnect_unsent = same _ _ (counted o log _ (disconnect_begins _ _ ctx routes))
