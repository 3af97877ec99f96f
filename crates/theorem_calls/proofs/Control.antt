-- Control's handle after a call.
use Prim.Native.Nat.{ℕ}
use mathlib.Core.Path.{◌≡◌, refl}
use mathlib.Core.Bool.{Bool, true, false, cond}
use mathlib.Core.List.{List}
use lib.ListN.{length}
use Rattle.laws.proofs.Tests.{not_both}
use Rattle.answer.specs.declared.Answer.{Answer}
use Rattle.answer.specs.Answer.{is_accepted, is_lost}
use Rattle.record_endpoint.specs.declared.entry.Handle.{Handle}
use Rattle.record_endpoint.specs.declared.entry.Handle.TheVariants.{Revoked}
use Rattle.course_steps.specs.End.{End}
use Rattle.device.specs.declared.record.Device.{Device}
use Rattle.device.specs.Device.{no_device, with_endpoints, with_held, with_configuration, with_quarantined, quarantines, unusable}
use Rattle.device.specs.Left.{Left, refused, marked, ended}
use Rattle.device.specs.Calls.{hub_left, hub_update}
use Rattle.device.specs.Claim.{claim_record, claim}
use Rattle.device.specs.Ask.{commit}
use Rattle.device.specs.Release.{release_record, release}
use Rattle.device.specs.SetConfiguration.{bare, ended_by, set_record, set_configuration}
use Rattle.device.specs.Disconnect.{all_revoked, unplugged, disconnect_record, disconnect}
use Rattle.device_bring_up.specs.BringUp.{brought_record, brought_left, bring_up}
use Rattle.theorem_slot.specs.Call.{Buffers, Asked, brings_up, claims, commits, releases, configures, updates_hub, disconnects, left}
use Rattle.theorem_slot.specs.Answers.{is_refused}
use Rattle.theorem_slot.proofs.Step.{on_mild, mild_claim, mild_commit, mild_release, mild_set, mild_hub, mild_disconnect, mild_bring_up}
use Rattle.theorem_calls.specs.Handles.{control_after, ControlLeft}

-- A record with this handle.
abbrev Control : Handle → Device → Type 0
Control h d = d.control_handle ≡ h

either : {h : Handle} (b : Bool) (x y : Device) → Control h x → Control h y → Control h (cond b x y)
either true x y e f = e
either false x y e f = f

mark : {h : Handle} (a : Answer) (d : Device) → Control h d → Control h (marked a d)
unfolding marked unusable
mark a d e = either (is_lost a) _ _ e e

in_quarantine : {h : Handle} (b : Bool) (rings : List ℕ) (d : Device) → Control h d → Control h (quarantines b rings d)
unfolding quarantines with_quarantined
in_quarantine b rings d e = either b _ _ e e

module _ (d : Device) where
  claim_control : (i a : ℕ) (rings : List ℕ) (e : End) → Control d.control_handle (claim_record d i a rings e)
  unfolding claim_record with_held with_endpoints
  claim_control i a rings e = mark e.answer _ (either e.moved _ _ refl (in_quarantine _ _ _ refl))

  release_control : (i : ℕ) (e : End) → Control d.control_handle (release_record d i e)
  unfolding release_record with_held with_endpoints
  release_control i e = mark e.answer _ (either e.moved _ _ refl refl)

  set_control : (value : ℕ) (e : End) → Control d.control_handle (set_record d value e)
  unfolding set_record bare ended_by with_held with_endpoints with_configuration
  set_control value e = mark e.answer _ (either e.moved _ _ (either (is_accepted e.answer) _ _ refl (in_quarantine _ _ _ refl)) refl)

  disconnect_control : (e : End) → Control Revoked (disconnect_record d e)
  unfolding disconnect_record unplugged all_revoked
  disconnect_control e = either e.moved _ _ refl (mark e.answer _ (in_quarantine _ _ _ refl))

module _ (b : Buffers) (d : Device) (routes : List ℕ) where
  Says : Asked → Left → Type 0
  Says asked l = is_refused l.answer ≡ false → Control (control_after asked d.control_handle) l.device

  refuses : (asked : Asked) (e : Device) (a : Answer) → is_refused a ≡ true → Says asked (refused e a b.ctx routes b.log)
  unfolding Says refused
  refuses asked e a r n = not_both (is_refused a) r n

  each : (a : Asked) → Says a (left a b d routes)
  unfolding Says control_after left claim commit release set_configuration hub_update disconnect bring_up ended hub_left brought_left brought_record
  each (brings_up a) =
      on_mild (Says (brings_up a)) _ _ _ (mild_bring_up a (length b.ctx) routes (length b.log)) (λ k n. refl) (refuses (brings_up a) no_device)
  each (claims i a) =
      on_mild (Says (claims i a)) _ _ _ (mild_claim d _ _ _ i a) (λ k n. claim_control d i a _ _) (refuses (claims i a) d)
  each (commits p) =
      on_mild (Says (commits p)) _ _ _ (mild_commit d _ _ _ p) (λ k n. claim_control d p.interface p.alternate _ _) (refuses (commits p) d)
  each (releases i) =
      on_mild (Says (releases i)) _ _ _ (mild_release d _ _ _ i) (λ k n. release_control d i _) (refuses (releases i) d)
  each (configures value) =
      on_mild (Says (configures value)) _ _ _ (mild_set d _ _ _) (λ k n. set_control d value _) (refuses (configures value) d)
  each (updates_hub ports multi ns) =
      on_mild (Says (updates_hub ports multi ns)) _ _ _ (mild_hub d _ _ _ ns) (λ k n. mark _ d refl) (refuses (updates_hub ports multi ns) d)
  each disconnects =
      on_mild (Says disconnects) _ _ _ (mild_disconnect d _ _ _) (λ k n. disconnect_control d _) (refuses disconnects d)

pub control_left : ControlLeft
unfolding Says
control_left c d routes n = each c.buffers d routes c.asked n
