-- What each exit of the code comes to.
use Prim.Native.Nat.{ℕ, ◌≤◌}
use mathlib.Core.Path.{◌≡◌, refl, sym, ap, ◌∙◌}
use mathlib.Core.Bool.{Bool, true, false, cond}
use mathlib.Core.List.{List}
use native.Mathlib.Omega.{arith}
use lib.Dec.{eqb}
use lib.ListN.{length}
use Rattle.def.specs.Speed.{speed_known}
use Rattle.hub.specs.Chain.{chain_ok}
use Rattle.record_ring.specs.Store.{given_ok}
use Rattle.record_ring.proofs.Promises.{given_promise}
use Rattle.descriptor_list.specs.Companions.{list_ok, companions_fit, valid_at}
use Rattle.descriptor_list.proofs.Companions.{listed}
use Rattle.std.specs.Prelude.{Result, Ok, Err, IsErrAnd, MatchResult}
use Rattle.transfer.specs.declared.RouteError.{RouteError}
use Rattle.transfer.specs.declared.RouteError.TheVariants.{QueueFull}
use Rattle.transfer.specs.Routes.{route_of, with_route, registered, with_registered}
use Rattle.answer.specs.declared.Answer.{Answer}
use Rattle.answer.specs.declared.Answer.TheVariants as answer
use Rattle.answer.specs.Check.{Check, Pass, Refuse}
use Rattle.command.specs.Course.{Played, played}
use Rattle.context.specs.Place.{Spaced, spacing_of}
use Rattle.course_init.specs.Reading.{BringUp, control_ring, Brought}
use Rattle.course_init.specs.Init.{bring_up_address}
use Rattle.device.specs.declared.record.Device.{Device}
use Rattle.device.specs.Device.{no_device}
use Rattle.device.specs.Left.{Left, leaves, refused}
use Rattle.device.specs.Calls.{on_check}
use Rattle.device_bring_up.specs.BringUp.{device_check, queue_check, bring_up_check, bring_up_course, brought_left, bring_up}
use Rattle.device_bring_up.proofs.Checks.{Passed, passed}

-- one test decides what is answered, what 17 says, and what is left of the table
error_test :
    (b : Bool) (m : Check) (given : RouteError → Answer → Type 0) → ((e : RouteError) (x : Answer) → given e x → x ≡ answer.QueueFull) →
    MatchResult {T = Unit {0}} {E = RouteError} (cond b (Ok (tt {0})) (Err QueueFull)) (λ u. m ≡ Ok u) (λ e. IsErrAnd m (given e)) →
    m ≡ cond b Pass (Refuse answer.QueueFull)
error_test true m given says h = h
error_test false (Ok u) given says h = absurd h
error_test false (Err x) given says h = ap Refuse (says QueueFull x h)

pass_test : (b : Bool) (x y : List ℕ) → cond b Pass (Refuse answer.QueueFull) ≡ Pass → cond b x y ≡ x
pass_test true x y e = refl
pass_test false x y e = let z : ◌≡◌ {A = ℕ} 0 1 = cc in absurd (omega arith)

refuse_test : (b : Bool) (x y : List ℕ) (z : Answer) → cond b Pass (Refuse answer.QueueFull) ≡ Refuse z → cond b x y ≡ y
refuse_test true x y z e = let z : ◌≡◌ {A = ℕ} 0 1 = cc in absurd (omega arith)
refuse_test false x y z e = refl

module _ (a : BringUp) (routes : List ℕ) where
  -- what registering control's route answers, with its error as 17
  pub queue_answered :
      {r : Result (Unit {0}) RouteError} (m : Check) (given : RouteError → Answer → Type 0) → ((e : RouteError) (x : Answer) → given e x → x ≡ answer.QueueFull) →
      r ≡ registered routes a.slot 1 → MatchResult r (λ u. m ≡ Ok u) (λ e. IsErrAnd m (given e)) → m ≡ queue_check a routes
  unfolding registered queue_check
  queue_answered m given says e h = error_test (eqb (route_of routes a.slot 1) 0) m given says (rw e at h)

  queue_pass : queue_check a routes ≡ Pass → with_registered routes a.slot 1 (control_ring a) ≡ with_route routes a.slot 1 (control_ring a)
  unfolding with_registered queue_check
  queue_pass e = pass_test (eqb (route_of routes a.slot 1) 0) (with_route routes a.slot 1 (control_ring a)) routes e

  queue_refuse : (x : Answer) → queue_check a routes ≡ Refuse x → with_registered routes a.slot 1 (control_ring a) ≡ routes
  unfolding with_registered queue_check
  queue_refuse x e = refuse_test (eqb (route_of routes a.slot 1) 0) (with_route routes a.slot 1 (control_ring a)) routes x e

-- What the checks answer, and the table that they leave.
abbrev pub Entered : BringUp → ℕ → List ℕ → ℕ → Check → List ℕ → Type 0
Entered a ctx routes log r left =
    (r ≡ bring_up_check a ctx routes log)
    × (r ≡ Pass → left ≡ with_route routes a.slot 1 (control_ring a))
    × ((x : Answer) → r ≡ Refuse x → left ≡ routes)

module _ (a : BringUp) (ctx : ℕ) (routes : List ℕ) (log : ℕ) where
  -- one before 17 refuses
  pub not_entered : (x : Answer) → Refuse x ≡ bring_up_check a ctx routes log → Entered a ctx routes log (Refuse x) routes
  not_entered x e = (e, λ p. let z : ◌≡◌ {A = ℕ} 0 1 = cc in absurd (omega arith), λ y p. refl)

  -- 6, 4, 26, 5, 10
  module _ (base : bring_up_check a ctx routes log ≡ device_check a (queue_check a routes)) where
    pub speed_refused : speed_known a.speed ≡ false → Entered a ctx routes log (Refuse answer.Speed) routes
    unfolding device_check
    speed_refused e = not_entered answer.Speed (sym (base ∙ rw e))

    pub list_refused : speed_known a.speed ≡ true → list_ok a.speed a.list ≡ false → Entered a ctx routes log (Refuse answer.DescriptorList) routes
    unfolding device_check
    list_refused e f = not_entered answer.DescriptorList (sym (base ∙ rw (e, f)))

    pub companion_refused : speed_known a.speed ≡ true → list_ok a.speed a.list ≡ true → companions_fit a.speed a.list ≡ false →
        Entered a ctx routes log (Refuse answer.Companion) routes
    unfolding device_check
    companion_refused e f f2 = not_entered answer.Companion (sym (base ∙ rw (e, f, f2)))

    pub chain_refused : speed_known a.speed ≡ true → list_ok a.speed a.list ≡ true → companions_fit a.speed a.list ≡ true →
        chain_ok a.hubs a.parent ≡ false → Entered a ctx routes log (Refuse answer.HubChain) routes
    unfolding device_check
    chain_refused e f f2 g = not_entered answer.HubChain (sym (base ∙ rw (e, f, f2, g)))

    pub ring_refused : speed_known a.speed ≡ true → list_ok a.speed a.list ≡ true → companions_fit a.speed a.list ≡ true →
        chain_ok a.hubs a.parent ≡ true → given_ok a.rings ≡ false → Entered a ctx routes log (Refuse answer.Rings) routes
    unfolding device_check
    ring_refused e f f2 g h = not_entered answer.Rings (sym (base ∙ rw (e, f, f2, g, h)))

    -- they pass, and 17 decides
    pub entered :
        speed_known a.speed ≡ true → list_ok a.speed a.list ≡ true → companions_fit a.speed a.list ≡ true →
        chain_ok a.hubs a.parent ≡ true → given_ok a.rings ≡ true → (r : Check) (left : List ℕ) → r ≡ queue_check a routes →
        left ≡ with_registered routes a.slot 1 (control_ring a) → Entered a ctx routes log r left
    unfolding device_check
    entered e f f2 g h r left q l = (
      q ∙ sym (base ∙ rw (e, f, f2, g, h)),
      λ p. l ∙ queue_pass a routes (sym q ∙ p),
      λ x p. l ∙ queue_refuse a routes x (sym q ∙ p),
    )

module _ (a : BringUp) (ctx routes log : List ℕ) {check : Check} {left : List ℕ} (entry : Entered a (length ctx) routes (length log) check left) where
  -- a check refuses
  pub refused_left : (o : List ℕ) (d : Device) (x : Answer) → check ≡ Refuse x → d ≡ no_device →
      leaves (record { device = d; answer = x; count = 0 }) ctx left log ≡ bring_up a ctx routes log o
  unfolding bring_up on_check refused
  refused_left o d x e c = rw (← entry.0, e, entry.2 x e, c)

  -- all pass, and the course follows
  pub passed_left : (o : List ℕ) {spacing : ℕ} {p : Played Brought} {l : Left} → check ≡ Pass → spacing ≡ spacing_of (length ctx) →
      p ≡ played o 0 (bring_up_address a spacing ctx left) log → l ≡ brought_left a spacing p → l ≡ bring_up a ctx routes log o
  unfolding bring_up on_check bring_up_course
  passed_left o e s q h = rw (← entry.0, e, ← s, ← entry.1 e, ← q) h

module _
    (a : BringUp) (ctx : ℕ) (routes : List ℕ) (log : ℕ) {check : Check} (checked : check ≡ bring_up_check a ctx routes log)
    (pass : check ≡ Pass) where
  facts : Passed a ctx (length routes) log
  unfolding bring_up_check
  facts = (passed a ctx (length routes) log (queue_check a routes) (sym checked ∙ pass)).0

  -- what the course needs
  pub course_room : {spacing : ℕ} → spacing ≡ cond (eqb ctx 1056) 32 64 →
      Spaced spacing ctx × ((64 ≤ log) × (valid_at a.speed a.list ≡ true))
  course_room s = (rw (s ∙ facts.taken) facts.spaced, (facts.room, facts.list))

  -- the spacing that the code takes is the context's
  pub spacing_taken : (spacing : ℕ) → spacing ≡ cond (eqb ctx 1056) 32 64 → spacing ≡ spacing_of ctx
  spacing_taken spacing s = s ∙ facts.taken

  -- and the record
  pub record_room : (a.max_slots ≤ 255) × ((length a.list ≤ 256) × (length a.rings ≤ 64))
  record_room = (facts.n_high, ((listed a.speed a.list facts.list).short, ((given_promise a.rings).0 facts.rings).room))
