-- What a release leaves whose checks have passed.
use Rattle.std.proofs.Common.{Option, Some, None, Result, Ok, Err, ok_or}
use Rattle.std.specs.Prelude.{unwrap_or}
use Prim.Native.Nat.{ℕ}
use mathlib.Core.Path.{◌≡◌, refl, sym, ◌∙◌, ap}
use mathlib.Core.Bool.{Bool, true, false, cond}
use mathlib.Core.List.{List}
use native.Mathlib.Omega.{arith}
use lib.ListN.{length, replicate}
use Rattle.answer.specs.declared.Answer.{Answer}
use Rattle.answer.specs.declared.Answer.TheVariants as answer
use Rattle.answer.specs.Check.{Check, Pass, Refuse, unless, check_of, CheckedAs}
use Rattle.command.specs.Course.{played}
use Rattle.record_endpoint.specs.declared.endpoint_map.Owner.TheVariants.{Interface}
use Rattle.record_endpoint.specs.Order.{PLACES}
use Rattle.record_endpoint.specs.declared.endpoint_map.EndpointMap.{EndpointMap}
use Rattle.record_endpoint.specs.declared.queues.Queues.{Queues}
use Rattle.record_endpoint.specs.EndpointMap.{owned_rings, claimed_endpoints, with_active, QueuesAs}
use Rattle.record_settings.specs.Held.{is_held, alternate_of, held_alternate, setting_words, without_setting}
use Rattle.record_settings.proofs.Laws.{held_alternate_is}
use Rattle.course_steps.specs.declared.CourseEnd.{CourseEnd}
use Rattle.course_steps.specs.Arrays as arrays
use Rattle.course_steps.proofs.Laws.{queues_as}
use Rattle.course_release.specs.declared.ReleaseArgs.{ReleaseArgs}
use Rattle.course_release.specs.Release.{release_of, release_course}
use Rattle.device.specs.declared.record.Device.{Device}
use Rattle.device.specs.declared.record.Called.{Called}
use Rattle.device.specs.Device.{list_of, endpoint_map_in, held_of, with_endpoints, with_held}
use Rattle.device.specs.Left.{leaves, ended}
use Rattle.device.specs.Check.{record_check}
use Rattle.device.specs.Calls.{on_check}
use Rattle.device.specs.Release.{release_check, release_in, release_record, release}
use Rattle.device.proofs.Laws.{Passed, passed, refused_first, own_check}
use Rattle.device.proofs.ClaimLaws.{undone_to}
use Rattle.device.proofs.Ends.{handed}

claimed : (b : Bool) (a : ℕ) → check_of (ok_or (cond b (Some a) None) answer.NotClaimed) ≡ unless b answer.NotClaimed Pass
unfolding check_of
claimed true a = refl
claimed false a = refl

-- The code's check of a release, which hands on the alternate that the interface holds.
module _ (d : Device) (ctx routes log i : ℕ) where
  abbrev Checks : Result ℕ Answer → Type 0
  Checks r = CheckedAs r (record_check d ctx routes log (release_check d i)) (held_alternate i (held_of d))

  held_or_not : check_of (ok_or (held_alternate i (held_of d)) answer.NotClaimed) ≡ release_check d i
  unfolding release_check
  held_or_not = rw (held_alternate_is i (held_of d)) (claimed (is_held i (held_of d)) (alternate_of i (held_of d)))

  module _ (x : Check) (k : x ≡ record_check d ctx routes log Pass) where
    -- refused by the record's checks
    pub release_refused : (a : Answer) → x ≡ Refuse a → Checks (Err a)
    unfolding check_of
    release_refused a p =
        record {
          check = sym p ∙ refused_first d ctx routes log x (release_check d i) k a p;
          value = λ v q. let z : ◌≡◌ {A = ℕ} 0 1 = cc in absurd (omega arith);
        }

    -- the call's own, after them
    pub release_checked : (r : Result ℕ Answer) → x ≡ Pass → r ≡ ok_or (held_alternate i (held_of d)) answer.NotClaimed → Checks r
    release_checked r p e =
        record {
          check = own_check d ctx routes log x (release_check d i) k p (check_of r) (rw e held_or_not);
          value = λ v h. found (held_alternate i (held_of d)) v (sym e ∙ h);
        }
      where
        found : (m : Option ℕ) (v : ℕ) → ok_or m answer.NotClaimed ≡ Ok v → m ≡ Some v
        found (Some w) v h = cc
        found None v h = let z : ◌≡◌ {A = ℕ} 0 1 = cc in absurd (omega arith)

  -- what a release goes on from
  module _ (r : Result ℕ Answer) (e : Checks r) (alt : ℕ) (h : r ≡ Ok alt) where
    pub release_passes : record_check d ctx routes log (release_check d i) ≡ Pass
    unfolding check_of
    release_passes = sym e.check ∙ rw h refl

    pub release_passed : Passed d ctx routes log
    release_passed = (passed d ctx routes log (release_check d i) release_passes).0

    pub release_from : alt ≡ alternate_of i (held_of d)
    release_from = sym (ap (λ m. unwrap_or m 0) (e.value alt h)) ∙ undone_to i (held_of d)

-- what the code hands to the course
abbrev pub args_of : Device → ℕ → ℕ → Queues → Queues → ReleaseArgs
args_of d i alt old all =
    record {
      slot = d.slot;
      spacing = d.spacing;
      speed = d.port_speed;
      interface = i;
      alternate = alt;
      old = old;
      all = all;
    }

-- the release that the code's arguments stand for
release_of_lem :
    (d : Device) (i alt : ℕ) (c : EndpointMap) (own : List ℕ) (old all : Queues) → c ≡ endpoint_map_in d → alt ≡ alternate_of i (held_of d) →
    own ≡ owned_rings (Interface i) c → QueuesAs old own → QueuesAs all c.rings →
    release_of (args_of d i alt old all) (setting_words (list_of d) i alt) ≡ release_in d i
unfolding release_in arrays.dcis_in
release_of_lem d i alt c own old all h p w s t = rw (queues_as old own s, t.dcis, w, h, p)

-- what a release leaves is what the end of its course makes of the record
pub release_left :
    (d : Device) (i alt : ℕ) (c m : EndpointMap) (own words : List ℕ) (old all : Queues) (o ctx routes log ctx' routes' log' : List ℕ)
    (e : CourseEnd) (r : Called) →
    record_check d (length ctx) (length routes) (length log) (release_check d i) ≡ Pass → c ≡ endpoint_map_in d →
    alt ≡ alternate_of i (held_of d) → own ≡ owned_rings (Interface i) c → QueuesAs old own → QueuesAs all c.rings →
    words ≡ setting_words (list_of d) i alt →
    arrays.course_leaves e ctx' routes' log'
    ≡ played o 0 (release_course (release_of (args_of d i alt old all) words) ctx routes) log →
    m ≡ claimed_endpoints i (replicate PLACES 0) c →
    r ≡ handed e
    (cond e.moved (with_held (without_setting i (held_of d)) (with_endpoints m d)) (with_endpoints (with_active (Interface i) e.active c) d)) →
    leaves r ctx' routes' log' ≡ release d ctx routes log o i
unfolding release on_check release_record ended
release_left d i alt c m own words old all o ctx routes log ctx' routes' log' e r p h al w s t f run em er =
    rw (er, em, h) (sym (rw (p, ← release_of_lem d i alt c own old all h al w s t, ← f, ← run)))
