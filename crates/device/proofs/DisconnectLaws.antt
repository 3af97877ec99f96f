-- What an unplugging leaves whose checks have passed.
use Prim.Native.Nat.{ℕ, ◌≤◌}
use mathlib.Core.Path.{◌≡◌, refl, sym, ap, ◌∙◌}
use mathlib.Core.Logic.{⊎_elim}
use mathlib.Core.Bool.{Bool, true, false, cond}
use mathlib.Core.List.{List, [], ◌∷◌, ◌++◌}
use lib.ListN.{length, take}
use Rattle.answer.specs.declared.Answer.{Answer}
use Rattle.answer.specs.declared.Answer.TheVariants as answer
use Rattle.answer.specs.contracts.AnswerPartialEq.TheImpl as answers
use Rattle.answer.specs.Check.{Check, Pass}
use Rattle.answer.specs.Answer.{is_broken, is_lost}
use Rattle.command.specs.Course.{played, result}
use Rattle.record_ring.specs.Rings.{RING-ROOM, entered}
use Rattle.record_ring.proofs.Entered.{entered_append, entered_none}
use Rattle.record_endpoint.specs.declared.endpoint_map.EndpointMap.{EndpointMap}
use Rattle.record_endpoint.specs.declared.endpoint_map.Owner.TheVariants.{Any}
use Rattle.record_endpoint.specs.declared.queues.Queues.{Queues}
use Rattle.record_endpoint.specs.EndpointMap.{no_endpoints, with_active, QueuesAs}
use Rattle.record_checks.specs.declared.quarantine.Quarantine.{Quarantine}
use Rattle.record_checks.specs.Rings.{QuarantinedAs}
use Rattle.course_steps.specs.declared.CourseEnd.{CourseEnd}
use Rattle.course_steps.specs.End.{End}
use Rattle.course_steps.specs.Arrays as arrays
use Rattle.course_disconnect.specs.Disconnect.{disconnect_course}
use Rattle.course_disconnect.proofs.Ends.{Ended, disconnect_ends}
use Rattle.device.specs.declared.record.Device.{Device}
use Rattle.device.specs.declared.record.Called.{Called}
use Rattle.device.specs.Device.{endpoint_map_in, quarantined_of, keep, put, rebuilt, control_revoked, gone, with_endpoints, with_held, with_quarantined, quarantines, unusable}
use Rattle.device.specs.Sound.{sound}
use Rattle.device.specs.Left.{leaves, marked, ended}
use Rattle.device.specs.Check.{disconnect_check}
use Rattle.device.specs.Calls.{on_check}
use Rattle.device.specs.Disconnect.{all_revoked, unplugged, rings_in_doubt, disconnect_record, disconnect}
use Rattle.device.proofs.Compared.{broken_test}
use Rattle.device.proofs.Ends.{handed, quarantine_first}
use Rattle.device.proofs.Facts.{sound_facts}
use Rattle.device.proofs.Disconnected.{UpPassed, up_passed, more_few}

-- what it says that its checks passed
pub disconnect_passed : (d : Device) (ctx routes log : ℕ) (x : Check) → x ≡ disconnect_check d ctx routes log → x ≡ Pass →
    UpPassed d ctx routes log
disconnect_passed d ctx routes log x k p = up_passed d ctx routes log (sym k ∙ p)

-- Rings go in quarantine after 14, and after no other answer.
module _ (a : Answer) (rings : List ℕ) (d : Device) (b : Bool) (e : b ≡ answers.eq-value.it a answer.InterfaceBroken) where
  tested : b ≡ is_broken a
  tested = e ∙ broken_test a

  pub is_quarantined : b ≡ true → quarantines (is_broken a) rings d ≡ with_quarantined rings d
  unfolding quarantines
  is_quarantined t = rw (← tested, t)

  pub not_quarantined : b ≡ false → d ≡ quarantines (is_broken a) rings d
  unfolding quarantines
  not_quarantined f = sym (rw (← tested, f))

module _ (d : Device) where
  -- the record with its device gone, before and after control is revoked, and with control revoked alone
  abbrev pub gone_only : Device
  gone_only = rebuilt keep gone keep keep keep d

  abbrev pub down_only : Device
  down_only =
      rebuilt keep (λ t. record { usable = false; up = false; configured = t.configured; value = t.value; handle = t.handle }) keep keep keep d

  abbrev pub revoked_only : Device
  revoked_only = rebuilt keep control_revoked keep keep keep d

  module _ (s : sound d ≡ true) (q : Queues) (c : EndpointMap) (h : c ≡ endpoint_map_in d) (qs : QueuesAs q c.rings) where
    -- the rings as the code enters them, those in quarantine first
    abbrev pub in_order : List ℕ
    in_order = entered [] (take d.quarantined_count d.quarantined ++ (d.control ∷ take q.count q.rings))

    in_order_lem : in_order ≡ entered (quarantined_of d) (rings_in_doubt d)
    unfolding quarantined_of rings_in_doubt
    in_order_lem =
        let k = quarantined_of d in
        rw (qs.rings, h)
        (entered_append [] k (rings_in_doubt d)
        ∙ ap (λ (l : List ℕ). entered l (rings_in_doubt d)) (entered_none k (sound_facts d s).rings.apart))

    -- there is room for them
    pub rings_room : length in_order ≤ RING-ROOM
    rings_room = rw in_order_lem (more_few d s)

    -- they are in quarantine then
    pub rings_entered : (all : Quarantine) → QuarantinedAs all in_order →
        rebuilt keep keep keep keep (put (all.rings, all.count)) d ≡ with_quarantined (rings_in_doubt d) d
    unfolding with_quarantined quarantined_of
    rings_entered all a = rw (a.rings_are, a.counted, in_order_lem)

revoked_quarantined : (rings : List ℕ) (d : Device) → revoked_only (with_quarantined rings d) ≡ with_quarantined rings (revoked_only d)
unfolding with_quarantined quarantined_of
revoked_quarantined rings d = refl

-- Control is revoked after the rings have entered quarantine.
revoked_after : (b : Bool) (a : Answer) (d : Device) →
    revoked_only (cond b (down_only d) (quarantines (is_broken a) (rings_in_doubt d) d))
    ≡ cond b (gone_only d) (quarantines (is_broken a) (rings_in_doubt d) (revoked_only d))
unfolding quarantines rebuilt
revoked_after true a d = refl
revoked_after false a d = go (is_broken a)
  where
    go : (k : Bool) → revoked_only (cond k (with_quarantined (rings_in_doubt d) d) d) ≡ cond k (with_quarantined (rings_in_doubt d) (revoked_only d)) (revoked_only d)
    go true = revoked_quarantined (rings_in_doubt d) d
    go false = refl

-- Where the device is gone nothing else is marked.
gone_marked : (b : Bool) (d : Device) → cond b (unusable (with_held [] (with_endpoints no_endpoints (gone_only d)))) (with_held [] (with_endpoints no_endpoints (gone_only d))) ≡ unplugged d
unfolding unusable with_held with_endpoints unplugged
gone_marked true d = refl
gone_marked false d = refl

revoked_all : (d : Device) → with_endpoints (with_active Any 0 (endpoint_map_in d)) (revoked_only d) ≡ all_revoked d
unfolding with_endpoints all_revoked
revoked_all d = refl

record_made : (b : Bool) (a : Answer) (d x : Device) →
    x ≡ cond b (gone_only d) (quarantines (is_broken a) (rings_in_doubt d) (revoked_only d)) →
    marked a (cond b (with_held [] (with_endpoints no_endpoints x)) (with_endpoints (with_active Any 0 (endpoint_map_in d)) x))
    ≡ cond b (unplugged d) (marked a (quarantines (is_broken a) (rings_in_doubt d) (all_revoked d)))
unfolding marked
record_made true a d x p = rw p (gone_marked (is_lost a) d)
record_made false a d x p =
    rw p (ap (marked a) (quarantine_first (is_broken a) (with_active Any 0 (endpoint_map_in d)) (rings_in_doubt d) (revoked_only d) ∙ rw (revoked_all d)))

-- what the end of the course makes of the record
pub disconnect_made : (d y x : Device) (c n : EndpointMap) (e : CourseEnd) (r : Called) → c ≡ endpoint_map_in d → n ≡ no_endpoints → e.active ≡ 0 →
    y ≡ cond e.moved (down_only d) (quarantines (is_broken e.answer) (rings_in_doubt d) d) → x ≡ revoked_only y →
    r ≡ handed e (cond e.moved (with_held [] (with_endpoints n x)) (with_endpoints (with_active Any e.active c) x)) →
    (ctx routes log : List ℕ) → leaves r ctx routes log ≡ ended (disconnect_record d) (arrays.course_leaves e ctx routes log)
unfolding ended disconnect_record
disconnect_made d y x c n e r h en z ey ex er ctx routes log =
    rw (er, en, z, h, record_made e.moved e.answer d x (ex ∙ ap revoked_only ey ∙ revoked_after e.moved e.answer d))

-- no endpoint is active at the end of the course
none_active : (slot : ℕ) (ctx routes : List ℕ) (e : End) → Ended slot ctx routes e → e.active ≡ 0
none_active slot ctx routes e w =
    ⊎_elim (λ p. ap (λ (x : End). x.active) p) (⊎_elim (λ p. ap (λ (x : End). x.active) p) (λ p. ap (λ (x : End). x.active) p)) w

module _ (d : Device) (c : EndpointMap) (q : Queues) (e : CourseEnd) (o ctx routes log routes' log' : List ℕ)
    (h : c ≡ endpoint_map_in d) (qs : QueuesAs q c.rings)
    (run : arrays.course_leaves e ctx routes' log' ≡ played o 0 (disconnect_course d.slot.0 (arrays.dcis_in q) ctx routes) log) where
  pub course_active : e.active ≡ 0
  unfolding played
  course_active =
      ap (λ p. p.end.active) run
      ∙ none_active d.slot.0 ctx routes (result o 0 (disconnect_course d.slot.0 (arrays.dcis_in q) ctx routes))
      (disconnect_ends d.slot.0 (arrays.dcis_in q) ctx routes o 0)

  -- what it leaves
  pub disconnect_left : (x : Check) (r : Called) → x ≡ disconnect_check d (length ctx) (length routes) (length log) → x ≡ Pass →
      leaves r ctx routes' log' ≡ ended (disconnect_record d) (arrays.course_leaves e ctx routes' log') →
      leaves r ctx routes' log' ≡ disconnect d ctx routes log o
  unfolding disconnect on_check arrays.dcis_in
  disconnect_left x r k p m =
      m ∙ rw run (sym (rw (← k, p, ← h, ← qs.dcis)))
