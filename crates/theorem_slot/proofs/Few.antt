-- Every call logs at most 63 words.
use Prim.Native.Nat.{ℕ, ◌≤◌}
use mathlib.Core.List.{List}
use mathlib.Core.Logic.{◌⊎◌, inl, inr}
use native.Mathlib.Omega.{arith}
use lib.ListN.{length}
use Rattle.command.specs.Course.{words, played}
use Rattle.context.specs.Place.{spacing_of}
use Rattle.descriptor_list.proofs.Companions.{listed}
use Rattle.record_endpoint.specs.declared.endpoint_map.Owner.TheVariants.{Interface}
use Rattle.record_endpoint.specs.EndpointMap.{owned_rings, queues_of, queue_dcis}
use Rattle.record_endpoint.proofs.Laws.{queues_fit}
use Rattle.course_claim.proofs.Laws.{claim_words}
use Rattle.course_release.proofs.Laws.{release_words}
use Rattle.course_set_configuration.proofs.Laws.{set_words}
use Rattle.course_steps.proofs.Laws.{length_dcis}
use Rattle.course_disconnect.proofs.Ends.{disconnect_words}
use Rattle.device.specs.declared.record.Device.{Device}
use Rattle.device.specs.Device.{endpoint_map_in}
use Rattle.device.specs.Left.{Left, refused, ended}
use Rattle.device.specs.Calls.{hub_course, hub_left, hub_update}
use Rattle.device.specs.Ask.{commit}
use Rattle.device.specs.Claim.{drawn, claim_in, claim}
use Rattle.device.specs.Disconnect.{disconnect}
use Rattle.device.specs.Release.{release_in, release}
use Rattle.device.specs.SetConfiguration.{settings_in, set_configuration}
use Rattle.device.proofs.Marks.{on_check_lem}
use Rattle.course_init.specs.Reading.{BringUp}
use Rattle.device_bring_up.specs.BringUp.{brought_left}
use Rattle.device_bring_up.proofs.Laws.{Refused, Ran, bring_up_cases, bring_up_words}
use Rattle.theorem_slot.specs.Call.{Buffers, Asked, brings_up, claims, commits, releases, configures, updates_hub, disconnects, left}
use Rattle.theorem_slot.specs.Theorem.{FewWords}

brought :
    (a : BringUp) (ctx routes log outcomes : List ℕ) (l : Left) →
    Refused ctx routes log l ⊎ Ran a ctx routes log outcomes l → l.count ≤ 63
unfolding brought_left played
brought a ctx routes log outcomes l (inl r) = rw r.count (omega arith)
brought a ctx routes log outcomes l (inr r) =
    rw r.left
    (omega (
      arith,
      bring_up_words a (spacing_of (length ctx)) ctx routes outcomes,
      (listed a.speed a.list r.pass.list).few,
    ))

each : (asked : Asked) (b : Buffers) (d : Device) (routes : List ℕ) → (left asked b d routes).count ≤ 63
unfolding left hub_update hub_left hub_course claim commit release set_configuration disconnect ended refused played words claim_in release_in settings_in
each (brings_up a) b d routes =
    brought a b.ctx routes b.log b.outcomes _ (bring_up_cases a b.ctx routes b.log b.outcomes)
each (claims i a) b d routes =
    on_check_lem (λ (l : Left). l.count ≤ 63) _ _ _
    (omega (arith, claim_words (claim_in d i a (drawn d i a)) b.ctx routes b.outcomes 0 (queues_fit (owned_rings (Interface i) (endpoint_map_in d)))))
    (λ x. omega arith)
each (commits p) b d routes =
    on_check_lem (λ (l : Left). l.count ≤ 63) _ _ _
    (omega (arith, claim_words (claim_in d p.interface p.alternate (drawn d p.interface p.alternate)) b.ctx routes b.outcomes 0 (queues_fit (owned_rings (Interface p.interface) (endpoint_map_in d)))))
    (λ x. omega arith)
each (releases i) b d routes =
    on_check_lem (λ (l : Left). l.count ≤ 63) _ _ _
    (omega (arith, release_words (release_in d i) routes b.outcomes b.ctx 0 (queues_fit (owned_rings (Interface i) (endpoint_map_in d)))))
    (λ x. omega arith)
each (configures value) b d routes =
    on_check_lem (λ (l : Left). l.count ≤ 63) _ _ _
    (omega (arith, set_words (settings_in d value) routes b.outcomes b.ctx 0, queues_fit (endpoint_map_in d).rings))
    (λ x. omega arith)
each (updates_hub ports multi ns) b d routes =
    on_check_lem (λ (l : Left). l.count ≤ 63) _ _ _ (omega arith) (λ x. omega arith)
each disconnects b d routes =
    on_check_lem (λ (l : Left). l.count ≤ 63) _ _ _
    (omega (
      arith,
      disconnect_words d.slot.0 (queue_dcis (queues_of (endpoint_map_in d).rings)) b.ctx routes b.outcomes 0,
      length_dcis (queues_of (endpoint_map_in d).rings),
      queues_fit (endpoint_map_in d).rings,
    ))
    (λ x. omega arith)

pub few_words : FewWords
few_words c d routes = each c.asked c.buffers d routes
