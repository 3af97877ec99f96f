-- The statement of specs/Accepting.antt for a bring-up.
use Prim.Native.Nat.{ℕ, ◌<◌, ◌≤◌}
use mathlib.Core.Path.{◌≡◌, sym, ◌∙◌}
use mathlib.Core.List.{List}
use native.Mathlib.Omega.{arith}
use lib.ListN.{length, length-set, get_or-replicate}
use Rattle.def.proofs.Laws.{exponent_fits}
use Rattle.answer.specs.declared.Answer.TheVariants as answer
use Rattle.transfer.specs.Routes.{route_of, route_index, with_route}
use Rattle.descriptor_list.proofs.Companions.{listed}
use Rattle.record_endpoint.specs.EndpointMap.{no_endpoints}
use Rattle.record_endpoint.proofs.Laws.{dci_low, dci_high}
use Rattle.device.specs.Left.{Left}
use Rattle.device.proofs.Updates.{same_self}
use Rattle.course_init.specs.Reading.{BringUp, control_ring}
use Rattle.device_bring_up.specs.BringUp.{queue_check, bring_up_check}
use Rattle.device_bring_up.proofs.Checks.{passed}
use Rattle.device_bring_up.proofs.Laws.{BroughtUp as Brought, bring_up_done, bring_up_accepted, brought_control, brought_others}
use Rattle.theorem_checks.proofs.Checks.{bring_up_judged}
use Rattle.theorem_accepting.specs.Accepting.{Accepted, BroughtUp, BringUpAccepted}
use Rattle.theorem_accepting.proofs.Runs.{done_at}
use Rattle.theorem_accepting.proofs.Value.{Values, bring_up_values}

-- What an accepted bring-up gives, where the slot had no routes.
module _ (a : BringUp) (ctx routes log : List ℕ) (l : Left) (b : Brought a ctx routes log l) (e : l.answer ≡ answer.Accepted)
    (none : (d : ℕ) → 2 ≤ d → d < 32 → route_of routes a.slot d ≡ 0) (v : Values a l) where
  accepted : Accepted l.device l
  unfolding with_route no_endpoints
  accepted =
      record {
        answer = e;
        same = same_self l.device;
        usable = b.usable;
        is_sound = b.is_sound;
        table = rw (b.table, b.max_slots) (length-set routes (route_index a.slot 1) (control_ring a) ∙ b.pass.table);
        routed =
            λ p h.
            let low = dci_low p h in
            rw (b.endpoints, b.slot)
            (brought_others a ctx routes log l b _ (λ x. omega arith) ∙ none _ low (dci_high p h) ∙ sym (get_or-replicate 30 p 0 0 h));
      }

  brought_up : BroughtUp a ctx l
  brought_up =
      record {
        accepted = accepted;
        slot = b.slot;
        max_slots = b.max_slots;
        spacing = rw b.spacing b.pass.context;
        speed = b.speed;
        configured = v.configured;
        value = v.value;
        list = b.list;
        control = b.control;
        held = b.held;
        endpoints = b.endpoints;
        quarantined = b.quarantined;
        given = b.given;
        route = brought_control a ctx routes log l b;
      }

pub bring_up_accepts : BringUpAccepted
unfolding bring_up_check
bring_up_accepts a ctx routes log outcomes h header nine none done =
    let p = (bring_up_judged a (length ctx) routes (length log)).passed h in
    let valid = (passed a (length ctx) (length routes) (length log) (queue_check a routes) p).0.list in
    let e =
    bring_up_done a ctx routes log outcomes p header (exponent_fits a.speed a.packet nine)
    (λ i low high. done_at outcomes _ i done (omega (arith, (listed a.speed a.list valid).few))) in
    brought_up a ctx routes log _ (bring_up_accepted a ctx routes log outcomes e) e none (bring_up_values a ctx routes log outcomes e)
