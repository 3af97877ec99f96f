-- The device along a course.
use Prim.Native.Nat.{ℕ, ◌+◌, ◌<◌}
use mathlib.Core.Path.{◌≡◌, refl, ap, ◌∙◌}
use mathlib.Core.List.{List}
use native.Mathlib.Omega.{arith}
use Rattle.command.specs.declared.Command.{Command}
use Rattle.command.specs.declared.Command.TheVariants as command
use Rattle.command.specs.declared.Sent.{Sent}
use Rattle.command.specs.declared.Sent.TheVariants.{Done, Failed, Cut}
use Rattle.command.specs.Command.{log_word, command_word, outcome_at}
use Rattle.command.specs.Course.{Course, ends, sends, on_sent, then, words, result}
use Rattle.command.specs.Sweep.{Sweep, stop_endpoints, resume_stopped_endpoints}
use Rattle.command.proofs.Operations.{operation_word, ByteOperands, EachCommand}
use Rattle.command.proofs.Sweeps.{stop_each_lem, resume_each}
use Rattle.theorem_device_state.specs.DeviceState.{Known, DeviceState, nothing_known, first_of, second_of, interface_set, configuration_set, configuration_read, device_after, device_told}

-- What a command makes of it.
unfoldable pub device_step : Known → Command → Sent → DeviceState → DeviceState
device_step v command.Address sent u = nothing_known
device_step v command.Evaluate sent u = u
device_step v command.Configure sent u = u
device_step v (command.Stop dci) sent u = u
device_step v (command.Resume dci) sent u = u
device_step v (command.SetInterface interface alternate) sent u = interface_set interface alternate sent u
device_step v (command.SetConfiguration value) sent u = configuration_set value sent u
device_step v command.ReadHeader sent u = u
device_step v command.ReadConfiguration sent u = configuration_read v sent u
device_step v command.ReadDevice sent u = u
device_step v (command.ReadConfig index) sent u = u
device_step v command.Disable sent u = u

-- A word tells its operands.
module _ (operation first second : ℕ) (f : first < 256) (s : second < 256) where
  first_word : first_of (log_word operation first second) ≡ first
  first_word = omega arith

  second_word : second_of (log_word operation first second) ≡ second
  second_word = omega arith

-- A command's word tells the command.
word_step : (v : Known) (c : Command) → ByteOperands c → (sent : Sent) (u : DeviceState) →
    device_after v (command_word c) sent u ≡ device_step v c sent u
unfolding device_after device_step command_word ByteOperands
word_step v command.Address b sent u = refl
word_step v command.Evaluate b sent u = refl
word_step v command.Configure b sent u = refl
word_step v (command.Stop dci) b sent u = rw (operation_word 4 dci.0 0 b (omega arith)) refl
word_step v (command.Resume dci) b sent u = rw (operation_word 5 dci.0 0 b (omega arith)) refl
word_step v (command.SetInterface interface alternate) b sent u =
    rw (operation_word 6 interface alternate b.0 b.1, first_word 6 interface alternate b.0 b.1, second_word 6 interface alternate b.0 b.1)
    refl
word_step v (command.SetConfiguration value) b sent u =
    rw (operation_word 7 value 0 b (omega arith), first_word 7 value 0 b (omega arith)) refl
word_step v command.ReadHeader b sent u = refl
word_step v command.ReadConfiguration b sent u = refl
word_step v command.ReadDevice b sent u = refl
word_step v (command.ReadConfig index) b sent u = rw (operation_word 11 index 0 b (omega arith)) refl
word_step v command.Disable b sent u = refl

module _ (v : Known) where
  -- The state that a course leaves along some outcomes.
  unfoldable pub heard : {A : Type 0} → List ℕ → ℕ → Course A → DeviceState → DeviceState
  heard o n (ends a) u = u
  heard o n (sends c ctx k) u = heard o (n + 1) (k (outcome_at o n)) (device_step v c (outcome_at o n) u)

  -- Its log tells it.
  pub told_course : {A : Type 0} (o : List ℕ) (n : ℕ) (c : Course A) (u : DeviceState) → EachCommand ByteOperands c →
      device_told v o n (words o n c) u ≡ heard o n c u
  unfolding device_told heard words EachCommand
  told_course o n (ends a) u b = refl
  told_course o n (sends c ctx k) u b =
      ap (device_told v o (n + 1) (words o (n + 1) (k (outcome_at o n)))) (word_step v c b.0 (outcome_at o n) u)
      ∙ told_course o (n + 1) (k (outcome_at o n)) (device_step v c (outcome_at o n) u) (b.1 (outcome_at o n))

  -- However its commands go, a course ends with a value and in a state of which Q holds.
  unfoldable pub Hears : {A : Type 0} → (A → DeviceState → Type 0) → DeviceState → Course A → Type 0
  Hears Q u (ends a) = Q a u
  Hears Q u (sends c ctx k) = (s : Sent) → Hears Q (device_step v c s u) (k s)

  pub hears_result : {A : Type 0} (Q : A → DeviceState → Type 0) (o : List ℕ) (n : ℕ) (c : Course A) (u : DeviceState) →
      Hears Q u c → Q (result o n c) (heard o n c u)
  unfolding Hears heard result
  hears_result Q o n (ends a) u h = h
  hears_result Q o n (sends c ctx k) u h =
      hears_result Q o (n + 1) (k (outcome_at o n)) (device_step v c (outcome_at o n) u) (h (outcome_at o n))

  -- A command that tells the device nothing.
  abbrev pub Quiet : Command → Type 0
  Quiet c = (s : Sent) (u : DeviceState) → device_step v c s u ≡ u

  pub quiet_heard : {A : Type 0} (o : List ℕ) (n : ℕ) (c : Course A) (u : DeviceState) → EachCommand Quiet c → heard o n c u ≡ u
  unfolding heard EachCommand
  quiet_heard o n (ends a) u e = refl
  quiet_heard o n (sends c ctx k) u e =
      rw (e.0 (outcome_at o n) u) (quiet_heard o (n + 1) (k (outcome_at o n)) u (e.1 (outcome_at o n)))

  module _ {A : Type 0} (Q : A → DeviceState → Type 0) (u : DeviceState) where
    -- a command, by its outcomes
    pub hears_sends : (c : Command) (ctx : List ℕ) (done : Course A) (failed : ℕ → Course A) (cut : Course A) →
        Hears Q (device_step v c Done u) done → ((code : ℕ) → Hears Q (device_step v c (Failed code) u) (failed code)) →
        Hears Q (device_step v c Cut u) cut → Hears Q u (sends c ctx (λ s. on_sent s done failed cut))
    unfolding Hears on_sent
    hears_sends c ctx done failed cut d f x Done = d
    hears_sends c ctx done failed cut d f x (Failed code) = f code
    hears_sends c ctx done failed cut d f x Cut = x

    -- a quiet one
    pub hears_quiet : (c : Command) → Quiet c → (ctx : List ℕ) (done : Course A) (failed : ℕ → Course A) (cut : Course A) →
        Hears Q u done → ((code : ℕ) → Hears Q u (failed code)) → Hears Q u cut →
        Hears Q u (sends c ctx (λ s. on_sent s done failed cut))
    hears_quiet c q ctx done failed cut d f x =
        hears_sends c ctx done failed cut (rw (q Done u) d) (λ code. rw (q (Failed code) u) (f code)) (rw (q Cut u) x)

    -- one course after the other
    pub hears_then : {B : Type 0} (R : B → DeviceState → Type 0) (w : DeviceState) (c : Course B) (f : B → Course A) → Hears R w c →
        ((b : B) (x : DeviceState) → R b x → Hears Q x (f b)) → Hears Q w (then c f)
    unfolding Hears then
    hears_then R w (ends b) f h g = g b w h
    hears_then R w (sends c ctx k) f h g = λ s. hears_then R (device_step v c s w) (k s) f (h s) g

    -- what comes after quiet commands decides
    pub quiet_then : {B : Type 0} (c : Course B) (f : B → Course A) → EachCommand Quiet c → ((b : B) → Hears Q u (f b)) → Hears Q u (then c f)
    unfolding Hears then EachCommand
    quiet_then (ends b) f e g = g b
    quiet_then (sends c ctx k) f e g = λ s. rw (e.0 s u) (quiet_then (k s) f (e.1 s) g)

    -- as after a sweep
    pub stop_then : (ctx ds : List ℕ) (f : Sweep → Course A) → ((r : Sweep) → Hears Q u (f r)) → Hears Q u (then (stop_endpoints ctx ds) f)
    unfolding device_step
    stop_then ctx ds f next = quiet_then (stop_endpoints ctx ds) f (stop_each_lem Quiet ctx ds (λ k. (λ s w. refl, λ s w. refl))) next

    pub resume_then : (ctx ds : List ℕ) (f : Sweep → Course A) → ((r : Sweep) → Hears Q u (f r)) →
        Hears Q u (then (resume_stopped_endpoints ctx ds) f)
    unfolding device_step
    resume_then ctx ds f next = quiet_then (resume_stopped_endpoints ctx ds) f (resume_each Quiet ctx ds (λ k s w. refl)) next
