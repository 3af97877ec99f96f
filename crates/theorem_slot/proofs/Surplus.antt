-- Surplus outcomes are not read.
use Rattle.std.proofs.Common.{Ok, Err}
use Prim.Native.Nat.{ℕ}
use mathlib.Core.Path.{◌≡◌, refl, ◌∙◌, ap}
use mathlib.Core.List.{List}
use lib.ListN.{take}
use Rattle.answer.specs.declared.Answer.{Answer}
use Rattle.answer.specs.Check.{Check}
use Rattle.command.specs.Course.{Course, Played, played}
use Rattle.course_claim.specs.Claim.{claim_course}
use Rattle.course_release.specs.Release.{release_course}
use Rattle.record_endpoint.specs.EndpointMap.{queues_of, queue_dcis}
use Rattle.course_disconnect.specs.Disconnect.{disconnect_course}
use Rattle.course_set_configuration.specs.SetConfiguration.{set_course}
use Rattle.device.specs.declared.record.Device.{Device}
use Rattle.device.specs.Left.{Left, refused, ended}
use Rattle.device.specs.Calls.{on_check, hub_left, hub_update}
use Rattle.device.specs.Ask.{commit}
use Rattle.device.specs.Claim.{drawn, claim_in, claim_record, claim}
use Rattle.device.specs.Device.{endpoint_map_in}
use Rattle.device.specs.Disconnect.{disconnect_record, disconnect}
use Rattle.device.specs.Release.{release_in, release_record, release}
use Rattle.device.specs.SetConfiguration.{settings_in, set_record, set_configuration}
use Rattle.device_bring_up.specs.BringUp.{brought_left, bring_up}
use Rattle.theorem_slot.specs.Call.{Buffers, Asked, brings_up, claims, commits, releases, configures, updates_hub, disconnects, left, cut_at}
use Rattle.theorem_slot.specs.Answers.{SurplusUnread}
use Rattle.command.proofs.Told.{played_surplus}

-- A call that checks, and then leaves what a course leaves.
unread :
    {A : Type 0} (leaves : Played A → Left) (c : Course A) (log o : List ℕ) (k : Check) (refuse : Answer → Left) →
    ((p : Played A) → (leaves p).count ≡ p.count) →
    on_check k (leaves (played (take (on_check k (leaves (played o 0 c log)) refuse).count o) 0 c log)) refuse
    ≡ on_check k (leaves (played o 0 c log)) refuse
unfolding on_check
unread leaves c log o (Ok _) refuse same =
    ap (λ m. leaves (played (take m o) 0 c log)) (same (played o 0 c log)) ∙ ap leaves (played_surplus o c log)
unread leaves c log o (Err a) refuse same = refl

each :
    (a : Asked) (b : Buffers) (d : Device) (routes : List ℕ) →
    left a (cut_at (left a b d routes).count b) d routes ≡ left a b d routes
unfolding left cut_at bring_up claim commit release set_configuration hub_update disconnect brought_left ended hub_left
each (brings_up a) b d routes = unread (brought_left a _) _ b.log b.outcomes _ _ (λ p. refl)
each (claims i a) b d routes =
    unread (ended (claim_record d i a (drawn d i a))) (claim_course (claim_in d i a (drawn d i a)) b.ctx routes) b.log b.outcomes _
    (λ x. refused d x b.ctx routes b.log) (λ p. refl)
each (commits p) b d routes =
    unread (ended (claim_record d p.interface p.alternate (drawn d p.interface p.alternate))) (claim_course (claim_in d p.interface p.alternate (drawn d p.interface p.alternate)) b.ctx routes) b.log b.outcomes _
    (λ x. refused d x b.ctx routes b.log) (λ x. refl)
each (releases i) b d routes =
    unread (ended (release_record d i)) (release_course (release_in d i) b.ctx routes) b.log b.outcomes _
    (λ x. refused d x b.ctx routes b.log) (λ p. refl)
each (configures value) b d routes =
    unread (ended (set_record d value)) (set_course (settings_in d value) b.ctx routes) b.log b.outcomes _
    (λ x. refused d x b.ctx routes b.log) (λ p. refl)
each (updates_hub ports multi ns) b d routes = unread (hub_left d _ routes) _ b.log b.outcomes _ _ (λ p. refl)
each disconnects b d routes =
    unread (ended (disconnect_record d)) (disconnect_course d.slot.0 (queue_dcis (queues_of (endpoint_map_in d).rings)) b.ctx routes)
    b.log b.outcomes _ (λ x. refused d x b.ctx routes b.log) (λ p. refl)

pub surplus_unread : SurplusUnread
surplus_unread c d routes = each c.asked c.buffers d routes
