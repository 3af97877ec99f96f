-- What holds of plain slot, record and device before and after each call, and of the parts of each.
use Prim.Native.Nat.{ℕ}
use mathlib.Core.Path.{◌≡◌, refl, sym, ◌∙◌, ap}
use mathlib.Core.Bool.{Bool, true, false, cond}
use mathlib.Core.List.{List, [], ◌∷◌, ◌++◌}
use mathlib.Core.Logic.{inl, inr}
use borrow.Author.Tests.{eq-eqb, eqb-true}
use lib.Dec.{eqb}
use Rattle.laws.proofs.Tests.{not_both}
use Rattle.laws.proofs.Cases.{Decided, decided, or_left, or_right}
use Rattle.answer.specs.declared.Answer.{Answer}
use Rattle.answer.specs.Answer.{is_lost}
use Rattle.record_settings.specs.Held.{is_held, alternate_of}
use Rattle.device.specs.declared.record.Device.{Device}
use Rattle.device.specs.Device.{unusable, with_quarantined, quarantines}
use Rattle.device.specs.Left.{marked}
use Rattle.theorem_slot.specs.Plain.{HeldSetting, Plain, is_up, without}
use Rattle.theorem_slot.proofs.Settings.{pairs, has_setting}
use Rattle.theorem_device_state.specs.DeviceState.{known, DeviceState}
use Rattle.theorem_device_state.specs.Theorem.{EachSet}

-- Whether a record is up and what it says of the configuration; that it is up, and that the device has the value.
abbrev pub status : Device → Bool × (Bool × ℕ)
status d = (d.up, (d.configured, d.current_config_value))

pub record Configured (d : Device) (u : DeviceState) : Type 0 where
  pub up : d.up ≡ true
  pub configured : d.configured ≡ true
  pub value : u.configuration ≡ known d.current_config_value

pub configured_same : (d e : Device) (u w : DeviceState) → status e ≡ status d → w.configuration ≡ u.configuration → Configured d u →
    Configured e w
configured_same d e u w s c g =
    record {
      up = ap (λ (x : Bool × (Bool × ℕ)). x.0) s ∙ g.up;
      configured = ap (λ (x : Bool × (Bool × ℕ)). x.1.0) s ∙ g.configured;
      value = c ∙ g.value ∙ ap known (sym (ap (λ (x : Bool × (Bool × ℕ)). x.1.1) s));
    }

pub record Agrees (p : Plain) (d : Device) (u : DeviceState) : Type 0 where
  pub alternates : is_up p.phase ≡ true → p.broken ≡ false → EachSet u p.held
  pub unbroken : is_up p.phase ≡ true → d.usable ≡ true → p.broken ≡ false
  pub configuration : is_up p.phase ≡ true → d.usable ≡ true → Configured d u

-- A slot that is not up has nothing to agree with.
pub down_agrees : (p : Plain) (d : Device) (u : DeviceState) → is_up p.phase ≡ false → Agrees p d u
down_agrees p d u n =
    record {
      alternates = λ up. not_both (is_up p.phase) up n;
      unbroken = λ up. not_both (is_up p.phase) up n;
      configuration = λ up. not_both (is_up p.phase) up n;
    }

-- Settings whose interfaces have the alternates that they had.
pub each_same : (u w : DeviceState) (hs : List HeldSetting) → ((j : ℕ) → has_setting j hs ≡ true → w.alternates j ≡ u.alternates j) →
    EachSet u hs → EachSet w hs
unfolding EachSet has_setting
each_same u w [] f e = tt
each_same u w (h ∷ hs) f e = (
  f h.interface (or_left (eqb h.interface h.interface) _ (eq-eqb h.interface h.interface refl)) ∙ e.0,
  each_same u w hs (λ j s. f j (or_right (eqb h.interface j) _ s)) e.1,
)

-- And those of the other interfaces.
pub each_without : (i : ℕ) (u w : DeviceState) (hs : List HeldSetting) → ((j : ℕ) → eqb j i ≡ false → w.alternates j ≡ u.alternates j) →
    EachSet u hs → EachSet w (without i hs)
unfolding EachSet without
each_without i u w [] f e = tt
each_without i u w (h ∷ hs) f e = go (decided (eqb h.interface i)) (each_without i u w hs f e.1)
  where
    go : Decided (eqb h.interface i) → EachSet w (without i hs) → EachSet w (cond (eqb h.interface i) (without i hs) (h ∷ without i hs))
    go (inl t) r = rw t r
    go (inr t) r = rw t (f h.interface t ∙ e.0, r)

pub each_append : (u : DeviceState) (x y : List HeldSetting) → EachSet u x → EachSet u y → EachSet u (x ++ y)
unfolding EachSet
each_append u [] y e f = f
each_append u (h ∷ x) y e f = (e.0, each_append u x y e.1 f)

-- The alternate that an interface holds.
pub each_alternate : (u : DeviceState) (i : ℕ) (hs : List HeldSetting) → EachSet u hs → is_held i (pairs hs) ≡ true →
    u.alternates i ≡ known (alternate_of i (pairs hs))
unfolding EachSet pairs is_held alternate_of
each_alternate u i [] e t = not_both false t refl
each_alternate u i (h ∷ hs) e t = go (decided (eqb h.interface i)) (each_alternate u i hs e.1)
  where
    go :
        Decided (eqb h.interface i) → (is_held i (pairs hs) ≡ true → u.alternates i ≡ known (alternate_of i (pairs hs))) →
        u.alternates i ≡ known (cond (eqb h.interface i) h.alternate (alternate_of i (pairs hs)))
    go (inl s) r = rw s (ap u.alternates (sym (eqb-true h.interface i s)) ∙ e.0)
    go (inr s) r = rw s (r (rw s at t))

-- Marks and quarantine leave the status, and a record marked unusable is.
pub marked_status : (x : Answer) (d : Device) → status (marked x d) ≡ status d
unfolding marked unusable
marked_status x d = go (is_lost x)
  where
    go : (b : Bool) → status (cond b (unusable d) d) ≡ status d
    go true = refl
    go false = refl

pub marked_usable : (x : Answer) (d : Device) → (marked x d).usable ≡ true → (is_lost x ≡ false) × (d.usable ≡ true)
unfolding marked unusable
marked_usable x d = go (is_lost x)
  where
    go : (b : Bool) → (cond b (unusable d) d).usable ≡ true → (b ≡ false) × (d.usable ≡ true)
    go true e = not_both false e refl
    go false e = (refl, e)

pub quarantines_status : (b : Bool) (rings : List ℕ) (d : Device) →
    (status (quarantines b rings d) ≡ status d) × ((quarantines b rings d).usable ≡ d.usable)
unfolding quarantines with_quarantined
quarantines_status true rings d = (refl, refl)
quarantines_status false rings d = (refl, refl)

-- What two records say, either says.
pub status_either : (b : Bool) (x y : Device) (v : Bool × (Bool × ℕ)) → status x ≡ v → status y ≡ v → status (cond b x y) ≡ v
status_either true x y v e f = e
status_either false x y v e f = f
