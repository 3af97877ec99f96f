-- Which endpoints are active in the record that a call returns, whatever record and table it gets.
use Rattle.std.specs.Prelude.{ℕ, zero, suc, ◌+◌, ◌<◌, ◌≡◌, Bool, true, false, not, cond, ◌&&◌, ◌||◌, List, [], eqb, ltb, get_or, take}
use Rattle.answer.specs.declared.Answer.{Answer}
use Rattle.answer.specs.Answer.{number, is_accepted}
use Rattle.record_endpoint.specs.declared.endpoint_map.EndpointMap.{EndpointMap}
use Rattle.record_endpoint.specs.declared.endpoint_map.Owner.{Owner}
use Rattle.record_endpoint.specs.declared.endpoint_map.Owner.TheVariants.{Any, Interface}
use Rattle.record_endpoint.specs.declared.entry.Handle.{Handle}
use Rattle.record_endpoint.specs.declared.entry.Handle.TheVariants.{Active, Revoked}
use Rattle.record_endpoint.specs.Order.{PLACES}
use Rattle.record_endpoint.specs.EndpointMap.{no_endpoints, is_owned}
use Rattle.theorem_controller.specs.Controller.{Step, controlled, CONFIGURE, is_done}
use Rattle.device.specs.declared.record.Device.{Device}
use Rattle.device.specs.Device.{endpoint_map_in}
use Rattle.device.specs.Left.{Left}
use Rattle.theorem_slot.specs.Call.{Asked, brings_up, claims, commits, releases, configures, updates_hub, disconnects, Call, left, OfSlot}
use Rattle.theorem_slot.specs.Answers.{is_refused}
use Rattle.theorem_device_state.specs.DeviceState.{SET-INTERFACE}

-- Resume of the log words.
abbrev pub RESUME : ℕ
RESUME = 5

-- What of a call's log the handles depend on: how many Resumes are done, whether it has a Configure, and a SetInterface.
pub record Tally : Type 0 where
  pub resumes : ℕ
  pub configures : Bool
  pub switches : Bool

unfoldable pub tally : Step Tally
tally operation sent ctx t =
    record {
      resumes = cond (eqb operation RESUME && is_done sent) (t.resumes + 1) t.resumes;
      configures = eqb operation CONFIGURE || t.configures;
      switches = eqb operation SET-INTERFACE || t.switches;
    }

unfoldable pub tallied : List ℕ → Left → Tally
tallied outcomes l =
    controlled tally (λ i. []) outcomes 0 (take l.count l.log) (record { resumes = 0; configures = false; switches = false })

-- How many endpoints of an owner stand in k places, by rising address, from `place` on.
unfoldable pub owned_among : Owner → EndpointMap → ℕ → ℕ → ℕ
owned_among who c zero place = 0
owned_among who c (suc k) place =
    cond (is_owned who c place) (suc (owned_among who c k (place + 1))) (owned_among who c k (place + 1))

abbrev pub active_at : Device → ℕ → Bool
active_at d p = get_or (endpoint_map_in d).active p false

-- Of the returned record's endpoints those of an owner are active, all of them or the first n by rising address; any other is as it was.
pub record Handled (who : Owner) (all : Bool) (n : ℕ) (d e : Device) : Type 0 where
  pub own :
      (p : ℕ) → p < PLACES → is_owned who (endpoint_map_in e) p ≡ true →
      active_at e p ≡ (all || ltb (owned_among who (endpoint_map_in e) p 0) n)
  pub other :
      (p : ℕ) → p < PLACES → is_owned Any (endpoint_map_in e) p ≡ true → is_owned who (endpoint_map_in e) p ≡ false →
      active_at e p ≡ active_at d p

-- Whether a claim or a release leaves all of its interface's endpoints active: accepted, a claim its new ones; failed with a code, the old
-- ones, after a failed Stop and after a SetInterface that was undone, but not after a failed Configure.
unfoldable pub all_active : Answer → Tally → Bool
all_active x t = is_accepted x || (eqb (number x) 13 && (not t.configures || t.switches))

-- Where not all are, those whose Resume is done are: the first, for they are resumed by rising address. A set configuration is about the
-- endpoints of every interface, a hub update about none; an unplugging leaves none active, and the record of a bring-up has none.
unfoldable pub HandlesOf : Asked → Tally → Device → Left → Type 0
HandlesOf (brings_up a) t d l = endpoint_map_in l.device ≡ no_endpoints
HandlesOf (claims interface alternate) t d l = Handled (Interface interface) (all_active l.answer t) t.resumes d l.device
HandlesOf (commits p) t d l = Handled (Interface p.interface) (all_active l.answer t) t.resumes d l.device
HandlesOf (releases interface) t d l = Handled (Interface interface) (all_active l.answer t) t.resumes d l.device
HandlesOf (configures value) t d l = Handled Any false t.resumes d l.device
HandlesOf (updates_hub ports multi ns) t d l = endpoint_map_in l.device ≡ endpoint_map_in d
HandlesOf disconnects t d l = Handled Any false 0 d l.device

abbrev pub HandlesLeft : Type 0
HandlesLeft =
    (c : Call) (d : Device) (routes : List ℕ) →
    OfSlot d.slot.0 c.asked →
    let l = left c.asked c.buffers d routes in
    is_refused l.answer ≡ false → HandlesOf c.asked (tallied c.buffers.outcomes l) d l

-- Control's: active after a bring-up, revoked after an unplugging; no other call changes it.
unfoldable pub control_after : Asked → Handle → Handle
control_after (brings_up a) was = Active
control_after (claims interface alternate) was = was
control_after (commits p) was = was
control_after (releases interface) was = was
control_after (configures value) was = was
control_after (updates_hub ports multi ns) was = was
control_after disconnects was = Revoked

abbrev pub ControlLeft : Type 0
ControlLeft =
    (c : Call) (d : Device) (routes : List ℕ) →
    let l = left c.asked c.buffers d routes in
    is_refused l.answer ≡ false → l.device.control_handle ≡ control_after c.asked d.control_handle
