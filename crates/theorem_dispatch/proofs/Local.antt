-- Of the table a call reads its length and its slot's words only.
use Prim.Native.Nat.{ℕ}
use mathlib.Core.Path.{◌≡◌, refl, ◌∙◌, ap}
use Rattle.std.proofs.Common.{Ok, Err}
use mathlib.Core.Bool.{Bool}
use mathlib.Core.List.{List}
use native.Mathlib.Omega.{arith}
use lib.ListN.{length}
use Rattle.answer.specs.declared.Answer.{Answer}
use Rattle.answer.specs.Check.{Check}
use Rattle.command.specs.Course.{Course, result, played}
use Rattle.record_endpoint.proofs.Laws.{queues_small}
use Rattle.context.specs.Place.{spacing_of}
use Rattle.course_steps.specs.End.{End}
use Rattle.course_claim.specs.Claim.{claim_course}
use Rattle.course_release.specs.Release.{release_course}
use Rattle.course_set_configuration.specs.SetConfiguration.{set_course}
use Rattle.course_init.specs.Reading.{BringUp, control_ring, Brought}
use Rattle.device.specs.declared.record.Device.{Device}
use Rattle.device.specs.Device.{no_device}
use Rattle.device.specs.Left.{Left, refused, ended}
use Rattle.device.specs.Calls.{on_check, hub_left, hub_update}
use Rattle.device.specs.Ask.{Ask, commit}
use Rattle.device.specs.Claim.{drawn, claim_in, claim_record, claim_run, claim}
use Rattle.device.specs.Disconnect.{disconnect, disconnect_record}
use Rattle.device.specs.Release.{release_in, release_record, release}
use Rattle.device.specs.SetConfiguration.{settings_in, set_record, set_configuration}
use Rattle.device_bring_up.specs.BringUp.{bring_up, bring_up_check, queue_check, bring_up_course, brought_record, brought_left}
use Rattle.theorem_slot.specs.Call.{Buffers, Asked, brings_up, claims, commits, releases, configures, updates_hub, disconnects, left}
use Rattle.theorem_slot.specs.Theorem.{slot_of}
use Rattle.theorem_dispatch.specs.Isolation.{SameWords, SameLeft, Local}
use Rattle.theorem_dispatch.proofs.Alike.{Alike, alike_words, alike_result}
use Rattle.theorem_dispatch.proofs.Tables.{same_set}
use Rattle.theorem_dispatch.proofs.Courses.{SameEnd, claim_alike, release_alike, set_alike, disconnect_alike, SameBrought, bring_up_alike}

-- A record that is made of an end, its table apart.
abbrev Tableless : (End → Device) → Type 0
Tableless made = (e : End) (routes : List ℕ) → made (record e { routes = routes }) ≡ made e

same_ended : (slot : ℕ) (made : End → Device) (o log : List ℕ) (p q : Course End) → Tableless made → Alike (SameEnd slot) p q →
    SameLeft slot (ended made (played o 0 p log)) (ended made (played o 0 q log))
unfolding ended played
same_ended slot made o log p q w a =
    let r = alike_result (SameEnd slot) p q a o 0 in
    let e = alike_words (SameEnd slot) p q a o 0 in
    record {
      device = ap made r.others ∙ w (result o 0 p) (result o 0 q).routes;
      answer = ap (λ (x : End). x.answer) r.others;
      count = rw e refl;
      ctx = ap (λ (x : End). x.ctx) r.others;
      log = rw e refl;
      routes = r.routes;
    }

-- Where both are refused, or both run.
same_checked : (slot : ℕ) (k : Check) (l m : Left) (f g : Answer → Left) → SameLeft slot l m → ((x : Answer) → SameLeft slot (f x) (g x)) →
    SameLeft slot (on_check k l f) (on_check k m g)
unfolding on_check
same_checked slot (Ok _) l m f g h n = h
same_checked slot (Err x) l m f g h n = n x

same_refused : (slot : ℕ) (d : Device) (ctx t u log : List ℕ) → SameWords slot t u → (x : Answer) →
    SameLeft slot (refused d x ctx t log) (refused d x ctx u log)
unfolding refused
same_refused slot d ctx t u log s x = record { device = refl; answer = refl; count = refl; ctx = refl; log = refl; routes = s }

claim_tableless : (d : Device) (i a : ℕ) (rings : List ℕ) → Tableless (claim_record d i a rings)
unfolding claim_record
claim_tableless d i a rings e routes = refl

release_tableless : (d : Device) (i : ℕ) → Tableless (release_record d i)
unfolding release_record
release_tableless d i e routes = refl

set_tableless : (d : Device) (value : ℕ) → Tableless (set_record d value)
unfolding set_record
set_tableless d value e routes = refl

disconnect_tableless : (d : Device) → Tableless (disconnect_record d)
unfolding disconnect_record
disconnect_tableless d e routes = refl

module _ (d : Device) (t u : List ℕ) (s : SameWords d.slot.0 t u) (b : Buffers) where
  abbrev slot : ℕ
  slot = d.slot.0

  refuses : (x : Answer) → SameLeft slot (refused d x b.ctx t b.log) (refused d x b.ctx u b.log)
  refuses = same_refused slot d b.ctx t u b.log s

  claim_courses : (i a : ℕ) →
      Alike (SameEnd slot) (claim_course (claim_in d i a (drawn d i a)) b.ctx t) (claim_course (claim_in d i a (drawn d i a)) b.ctx u)
  unfolding claim_in
  claim_courses i a = claim_alike (claim_in d i a (drawn d i a)) t u (queues_small _) (queues_small _) s b.ctx

  same_claim_run : (i a : ℕ) → SameLeft slot (claim_run d b.ctx t b.log b.outcomes i a (drawn d i a)) (claim_run d b.ctx u b.log b.outcomes i a (drawn d i a))
  same_claim_run i a = same_ended slot (claim_record d i a (drawn d i a)) b.outcomes b.log _ _ (claim_tableless d i a (drawn d i a)) (claim_courses i a)

  release_courses : (i : ℕ) → Alike (SameEnd slot) (release_course (release_in d i) b.ctx t) (release_course (release_in d i) b.ctx u)
  unfolding release_in
  release_courses i = release_alike (release_in d i) t u (queues_small _) s b.ctx

  set_courses : (value : ℕ) → Alike (SameEnd slot) (set_course (settings_in d value) b.ctx t) (set_course (settings_in d value) b.ctx u)
  unfolding settings_in
  set_courses value = set_alike (settings_in d value) t u (queues_small _) s b.ctx

  same_claim : (i a : ℕ) → SameLeft slot (claim d b.ctx t b.log b.outcomes i a) (claim d b.ctx u b.log b.outcomes i a)
  unfolding claim
  same_claim i a = rw s.long (same_checked slot _ _ _ _ _ (same_claim_run i a) refuses)

  same_commit : (p : Ask) → SameLeft slot (commit d b.ctx t b.log b.outcomes p) (commit d b.ctx u b.log b.outcomes p)
  unfolding commit
  same_commit p = rw s.long (same_checked slot _ _ _ _ _ (same_claim_run p.interface p.alternate) refuses)

  same_release : (i : ℕ) → SameLeft slot (release d b.ctx t b.log b.outcomes i) (release d b.ctx u b.log b.outcomes i)
  unfolding release
  same_release i =
      rw s.long
      (same_checked slot _ _ _ _ _ (same_ended slot (release_record d i) b.outcomes b.log _ _ (release_tableless d i) (release_courses i)) refuses)

  same_configuration : (value : ℕ) →
      SameLeft slot (set_configuration d b.ctx t b.log b.outcomes value) (set_configuration d b.ctx u b.log b.outcomes value)
  unfolding set_configuration
  same_configuration value =
      rw s.long
      (same_checked slot _ _ _ _ _ (same_ended slot (set_record d value) b.outcomes b.log _ _ (set_tableless d value) (set_courses value)) refuses)

  same_disconnect : SameLeft slot (disconnect d b.ctx t b.log b.outcomes) (disconnect d b.ctx u b.log b.outcomes)
  unfolding disconnect
  same_disconnect =
      rw s.long
      (same_checked slot _ _ _ _ _
      (same_ended slot (disconnect_record d) b.outcomes b.log _ _ (disconnect_tableless d) (disconnect_alike slot t u s _ b.ctx)) refuses)

  same_hub : (ports : ℕ) (multi : Bool) (ns : ℕ) →
      SameLeft slot (hub_update d b.ctx t b.log b.outcomes ports multi ns) (hub_update d b.ctx u b.log b.outcomes ports multi ns)
  unfolding hub_update hub_left
  same_hub ports multi ns =
      rw s.long
      (same_checked slot _ _ _ _ _ (record { device = refl; answer = refl; count = refl; ctx = refl; log = refl; routes = s }) refuses)

-- A bring-up.
module _ (a : BringUp) (t u : List ℕ) (s : SameWords a.slot t u) (b : Buffers) where
  same_check : bring_up_check a (length b.ctx) u (length b.log) ≡ bring_up_check a (length b.ctx) t (length b.log)
  unfolding bring_up_check queue_check
  same_check = rw (s.long, s.own 1 (omega arith)) refl

  brought_courses :
      Alike (SameBrought a.slot) (bring_up_course a (spacing_of (length b.ctx)) b.ctx t) (bring_up_course a (spacing_of (length b.ctx)) b.ctx u)
  unfolding bring_up_course
  brought_courses = bring_up_alike a (spacing_of (length b.ctx)) _ _ (same_set a.slot t u 1 (control_ring a) (omega arith) s) b.ctx

  brought_tableless : (spacing : ℕ) (e : Brought) (routes : List ℕ) → brought_record a spacing (record e { routes = routes }) ≡ brought_record a spacing e
  unfolding brought_record
  brought_tableless spacing e routes = refl

  same_bring_up : SameLeft a.slot (bring_up a b.ctx t b.log b.outcomes) (bring_up a b.ctx u b.log b.outcomes)
  unfolding bring_up brought_left played
  same_bring_up =
      let spacing = spacing_of (length b.ctx) in
      let p = bring_up_course a spacing b.ctx t in
      let q = bring_up_course a spacing b.ctx u in
      let r = alike_result (SameBrought a.slot) p q brought_courses b.outcomes 0 in
      let e = alike_words (SameBrought a.slot) p q brought_courses b.outcomes 0 in
      rw same_check
      (same_checked a.slot _ _ _ _ _
      (record {
        device = ap (brought_record a spacing) r.others ∙ brought_tableless spacing (result b.outcomes 0 p) (result b.outcomes 0 q).routes;
        answer = ap (λ (x : Brought). x.answer) r.others;
        count = rw e refl;
        ctx = ap (λ (x : Brought). x.ctx) r.others;
        log = rw e refl;
        routes = r.routes;
      })
      (same_refused a.slot no_device b.ctx t u b.log s))

each : (asked : Asked) (b : Buffers) (d : Device) (t u : List ℕ) → SameWords (slot_of asked d) t u →
    SameLeft (slot_of asked d) (left asked b d t) (left asked b d u)
unfolding slot_of left
each (brings_up a) b d t u s = same_bring_up a t u s b
each (claims i a) b d t u s = same_claim d t u s b i a
each (commits p) b d t u s = same_commit d t u s b p
each (releases i) b d t u s = same_release d t u s b i
each (configures value) b d t u s = same_configuration d t u s b value
each (updates_hub ports multi ns) b d t u s = same_hub d t u s b ports multi ns
each disconnects b d t u s = same_disconnect d t u s b

pub is_local : Local
is_local c d t u s = each c.asked c.buffers d t u s
