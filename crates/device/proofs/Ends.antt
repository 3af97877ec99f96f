-- The record changed before the end of its course is taken in, where the settings moved or where they did not.
use mathlib.Core.Path.{◌≡◌, refl}
use mathlib.Core.Bool.{Bool, true, false, cond}
use mathlib.Core.Logic.{◌⊎◌, inl, inr}
use mathlib.Core.List.{List}
use Prim.Native.Nat.{ℕ}
use Rattle.answer.specs.Answer.{is_accepted, is_lost}
use Rattle.answer.specs.declared.Answer.{Answer}
use Rattle.record_endpoint.specs.declared.endpoint_map.EndpointMap.{EndpointMap}
use Rattle.record_settings.specs.declared.held.Settings.{Settings}
use Rattle.record_settings.specs.Held.{Held, SettingsAs}
use Rattle.course_steps.specs.declared.CourseEnd.{CourseEnd}
use Rattle.device.specs.declared.record.Device.{Device}
use Rattle.device.specs.declared.record.Called.{Called}
use Rattle.device.specs.Device.{quarantined_of, keep, put, rebuilt, with_endpoints, with_held, with_configuration, with_quarantined, quarantines}
use Rattle.device.specs.Left.{marked}
use Rattle.device.specs.SetConfiguration.{ended_by}

-- what a call hands back at the end of its course
abbrev pub handed : CourseEnd → Device → Called
handed e d = record { device = marked e.answer d; answer = e.answer; count = e.count }

-- rings put in quarantine before the endpoints are written
pub quarantine_first : (b : Bool) (l : EndpointMap) (rings : List ℕ) (d : Device) →
    with_endpoints l (quarantines b rings d) ≡ quarantines b rings (with_endpoints l d)
unfolding quarantines with_endpoints with_quarantined quarantined_of
quarantine_first true l rings d = refl
quarantine_first false l rings d = refl

pub else_quarantined :
    (b t : Bool) (d x : Device) (hs : List Held) (m l : EndpointMap) (rings : List ℕ) → x ≡ cond b d (quarantines t rings d) →
    cond b (with_held hs (with_endpoints m x)) (with_endpoints l x) ≡ cond b (with_held hs (with_endpoints m d)) (quarantines t rings (with_endpoints l d))
else_quarantined true t d x hs m l rings p = rw p
else_quarantined false t d x hs m l rings p = rw p (quarantine_first t l rings d)

-- a value set, or rings put in quarantine, before the endpoints and the settings are written
ended_first : (b k : Bool) (hs : List Held) (m : EndpointMap) (value : ℕ) (rings : List ℕ) (d : Device) →
    with_held hs (with_endpoints m (cond b (with_configuration value d) (quarantines k rings d)))
    ≡ cond b (with_configuration value (with_held hs (with_endpoints m d))) (quarantines k rings (with_held hs (with_endpoints m d)))
unfolding quarantines with_held with_endpoints with_configuration with_quarantined quarantined_of
ended_first true k hs m value rings d = refl
ended_first false true hs m value rings d = refl
ended_first false false hs m value rings d = refl

pub then_ended :
    (b : Bool) (a : Answer) (d x : Device) (hs : List Held) (m l : EndpointMap) (value : ℕ) (rings : List ℕ) →
    x ≡ cond b (ended_by a value rings d) d →
    cond b (with_held hs (with_endpoints m x)) (with_endpoints l x)
    ≡ cond b (ended_by a value rings (with_held hs (with_endpoints m d))) (with_endpoints l d)
unfolding ended_by
then_ended true a d x hs m l value rings p = rw p (ended_first (is_accepted a) (is_lost a) hs m value rings d)
then_ended false a d x hs m l value rings p = rw p

-- the record with the arrays of other settings
abbrev pub holding : Settings → Device → Device
holding held d = rebuilt keep keep keep (put (record { interfaces = held.interfaces; alternates = held.alternates; count = held.count })) keep d

-- the record that an end leaves, by whether the settings moved
pub settled :
    (b : Bool) (d x : Device) (m l left : EndpointMap) (held : Settings) (hs : List Held) → SettingsAs held hs →
    ((b ≡ true) × (x ≡ holding held d) × (left ≡ m)) ⊎ ((b ≡ false) × (x ≡ d) × (left ≡ l)) →
    with_endpoints left x ≡ cond b (with_held hs (with_endpoints m d)) (with_endpoints l d)
unfolding with_held with_endpoints
settled b d x m l left held hs s (inl w) = rw (w.0, w.1, w.2, s.interfaces, s.alternates, s.count)
settled b d x m l left held hs s (inr w) = rw (w.0, w.1, w.2)
