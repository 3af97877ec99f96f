-- The courses of two bring-ups, phase by phase: what they read differs only where it is not read yet.
use Prim.Native.Nat.{ℕ, zero, suc, ◌+◌, ◌<◌}
use mathlib.Core.Path.{◌≡◌, refl, sym, ap, ◌∙◌}
use mathlib.Core.Bool.{Bool, true, false, cond}
use mathlib.Core.List.{List, [], ◌∷◌}
use native.Mathlib.Omega.{arith}
use native.Mathlib.Decide.{dec_lt}
use lib.Dec.{eqb}
use lib.ListN.{length}
use Rattle.def.specs.Speed.{exponent_ok}
use Rattle.answer.specs.declared.Answer.TheVariants as answer
use Rattle.descriptor_list.specs.Valid.{begins_with_configuration, configurations}
use Rattle.command.specs.declared.Command.{Command}
use Rattle.command.specs.declared.Command.TheVariants as command
use Rattle.command.specs.declared.Sent.{Sent}
use Rattle.command.specs.declared.Sent.TheVariants.{Done, Failed, Cut}
use Rattle.command.specs.Command.{command_word, outcome_at}
use Rattle.command.specs.Course.{Course, ends, on_sent, words, result}
use Rattle.command.proofs.Cuts.{done_cut, outcome_none}
use Rattle.context.specs.Place.{written}
use Rattle.context.specs.Steps.{max_packet_writes}
use Rattle.course_init.specs.Reading.{BringUp, control_ring, Reading, first_configurations, nothing_read, read_up_to, Brought, brought}
use Rattle.course_init.specs.Init.{step, bring_up_settings, bring_up_set, bring_up_configs, bring_up_device, bring_up_configuration, bring_up_packet, bring_up_header, bring_up_address}
use Rattle.course_init.proofs.Lists.{first_all, begun_none, none_of}
use Rattle.theorem_driver.specs.Driven.{Guess, guessing, Right}

-- Two courses log the same words and end alike.
pub record Alike (o : List ℕ) (n : ℕ) (c d : Course Brought) : Type 0 where
  pub logged : words o n c ≡ words o n d
  pub ended : result o n c ≡ result o n d

pub alike_same : (o : List ℕ) (n : ℕ) (c d : Course Brought) → c ≡ d → Alike o n c d
alike_same o n c d e = record { logged = ap (words o n) e; ended = ap (result o n) e }

-- what is done is among the outcomes
done_there : (o : List ℕ) (n : ℕ) → outcome_at o n ≡ Done → n < length o
done_there o n e = go (dec_lt n (length o))
  where
    go : Dec (n < length o) → n < length o
    go (yes h) = h
    go (no h) = done_cut (sym e ∙ outcome_none o n (omega arith))

-- after a command that both send, which matters only where it is done
alike_step : (o : List ℕ) (n : ℕ) (c : Command) (read same : Reading) (ctx routes : List ℕ) (x y : Course Brought) → read ≡ same →
    (n < length o → Alike o (n + 1) x y) → Alike o n (step c read ctx routes x) (step c same ctx routes y)
unfolding step words result on_sent
alike_step o n c read same ctx routes x y r h = rw r (go (outcome_at o n) refl)
  where
    go : (s : Sent) → outcome_at o n ≡ s → Alike o n (step c same ctx routes x) (step c same ctx routes y)
    go Done e =
        let t = h (done_there o n e) in
        record { logged = rw e (ap (λ ws. command_word c ∷ ws) t.logged); ended = rw (e, result) t.ended }
    go (Failed code) e = record { logged = rw e; ended = rw (e, result) }
    go Cut e = record { logged = rw e; ended = rw (e, result) }

-- a list with as many configurations as another has words where that one has
words_alike : (l m : List ℕ) → begins_with_configuration l ≡ true → begins_with_configuration m ≡ true → configurations l ≡ configurations m →
    eqb (length l) 0 ≡ eqb (length m) 0
words_alike l m v w e = go (eqb (length l) 0) (eqb (length m) 0) refl refl
  where
    -- a list without configurations is the words before the first one
    empty : (k : List ℕ) → begins_with_configuration k ≡ true → configurations k ≡ 0 → eqb (length k) 0 ≡ true
    empty k u z = let n : k ≡ [] = sym (first_all k) ∙ rw z (begun_none k u) in rw n

    go : (b c : Bool) → eqb (length l) 0 ≡ b → eqb (length m) 0 ≡ c → b ≡ c
    go true true p q = refl
    go false false p q = refl
    go true false p q = sym (empty m w (sym e ∙ none_of l p)) ∙ q
    go false true p q = sym p ∙ empty l v (e ∙ none_of m q)

module _ (a : BringUp) (g : Guess) (o : List ℕ) (spacing : ℕ) (routes : List ℕ) (right : Right a g (length o)) where
  -- all is read
  set_alike : (n : ℕ) (ctx : List ℕ) → g.value ≡ a.value → g.list ≡ a.list →
      Alike o n (bring_up_set (guessing a g) spacing ctx routes) (bring_up_set a spacing ctx routes)
  unfolding guessing bring_up_set bring_up_settings
  set_alike n ctx v l = alike_same o n _ _ (rw (v, l))

  read_up_to_lem : (i : ℕ) → g.value ≡ a.value → first_configurations i g.list ≡ first_configurations i a.list →
      read_up_to (guessing a g) i ≡ read_up_to a i
  unfolding read_up_to guessing
  read_up_to_lem i v f = rw (v, f)

  configs_alike : (k i : ℕ) (ctx : List ℕ) → i + k ≡ configurations a.list → configurations g.list ≡ configurations a.list →
      g.value ≡ a.value → first_configurations i g.list ≡ first_configurations i a.list →
      Alike o (5 + i) (bring_up_configs (guessing a g) spacing k i ctx routes) (bring_up_configs a spacing k i ctx routes)
  unfolding bring_up_configs
  configs_alike zero i ctx e c v f =
      let z : i ≡ configurations a.list = omega (arith, e) in
      let m : first_configurations (configurations g.list) g.list ≡ first_configurations (configurations a.list) a.list =
      rw (c, ← z) f in
      set_alike (5 + i) ctx v (sym (first_all g.list) ∙ m ∙ first_all a.list)
  configs_alike (suc k) i ctx e c v f =
      let n : 5 + i + 1 ≡ 5 + (i + 1) = omega arith in
      alike_step o (5 + i) (command.ReadConfig i) _ _ ctx routes _ _ (read_up_to_lem i v f)
      (λ h. rw n (configs_alike k (i + 1) ctx (omega (arith, e)) c v (right.config i h)))

  module _ (valid : begins_with_configuration a.list ≡ true) (guessed : begins_with_configuration g.list ≡ true) where
    -- of the list nothing yet
    read_none : first_configurations 0 g.list ≡ first_configurations 0 a.list
    read_none = begun_none g.list guessed ∙ sym (begun_none a.list valid)

    -- the device descriptor is read
    rest_alike : (ctx : List ℕ) (t : Bool) → g.value ≡ a.value → configurations g.list ≡ configurations a.list →
        Alike o 5
        (cond t (ends (brought answer.Accepted (read_up_to (guessing a g) 0) ctx routes))
        (bring_up_configs (guessing a g) spacing (configurations g.list) 0 ctx routes))
        (cond t (ends (brought answer.Accepted (read_up_to a 0) ctx routes))
        (bring_up_configs a spacing (configurations a.list) 0 ctx routes))
    rest_alike ctx true v c =
        alike_same o 5 _ _ (ap (λ r. ends (brought answer.Accepted r ctx routes)) (read_up_to_lem 0 v read_none))
    rest_alike ctx false v c = rw c (configs_alike (configurations a.list) 0 ctx (omega arith) c v read_none)

    device_alike : (ctx : List ℕ) → g.value ≡ a.value →
        Alike o 4 (bring_up_device (guessing a g) spacing ctx routes) (bring_up_device a spacing ctx routes)
    unfolding bring_up_device guessing
    device_alike ctx v =
        alike_step o 4 command.ReadDevice _ _ ctx routes _ _ (read_up_to_lem 0 v read_none)
        (λ h.
        let c = right.device (omega arith) in
        rw (words_alike g.list a.list guessed valid c) (rest_alike ctx (eqb (length a.list) 0) v c))

    evaluated : (next : List ℕ) →
        Alike o 2 (step command.Evaluate nothing_read next routes (bring_up_configuration (guessing a g) spacing next routes))
        (step command.Evaluate nothing_read next routes (bring_up_configuration a spacing next routes))
    unfolding bring_up_configuration
    evaluated next =
        alike_step o 2 command.Evaluate _ _ next routes _ _ refl
        (λ x. alike_step o 3 command.ReadConfiguration _ _ next routes _ _ refl (λ h. device_alike next (right.value (omega arith))))

    packet_alike : (ctx : List ℕ) → g.packet ≡ a.packet →
        Alike o 2 (bring_up_packet (guessing a g) spacing ctx routes) (bring_up_packet a spacing ctx routes)
    unfolding bring_up_packet guessing
    packet_alike ctx e =
        let same : written spacing (max_packet_writes a.speed g.packet) ctx ≡ written spacing (max_packet_writes a.speed a.packet) ctx =
        ap (λ p. written spacing (max_packet_writes a.speed p) ctx) e in
        rw same (evaluated (written spacing (max_packet_writes a.speed a.packet) ctx))

    -- the header is read
    header_alike : (ctx : List ℕ) (t u : Bool) → g.packet ≡ a.packet →
        Alike o 2
        (cond t (cond u (bring_up_packet (guessing a g) spacing ctx routes) (ends (brought answer.PacketExponent nothing_read ctx routes)))
        (ends (brought answer.ShortHeader nothing_read ctx routes)))
        (cond t (cond u (bring_up_packet a spacing ctx routes) (ends (brought answer.PacketExponent nothing_read ctx routes)))
        (ends (brought answer.ShortHeader nothing_read ctx routes)))
    header_alike ctx true true e = packet_alike ctx e
    header_alike ctx true false e = alike_same o 2 _ _ refl
    header_alike ctx false u e = alike_same o 2 _ _ refl

    pub address_alike : (ctx : List ℕ) → Alike o 0 (bring_up_address (guessing a g) spacing ctx routes) (bring_up_address a spacing ctx routes)
    unfolding bring_up_address bring_up_header guessing control_ring
    address_alike ctx =
        alike_step o 0 command.Address _ _ _ routes _ _ refl
        (λ x.
        alike_step o 1 command.ReadHeader _ _ _ routes _ _ refl
        (λ h.
        let r = right.header (omega arith) in
        let t : eqb g.header 8 ≡ eqb a.header 8 = ap (λ n. eqb n 8) r.0 in
        let u : exponent_ok a.speed g.packet ≡ exponent_ok a.speed a.packet = ap (exponent_ok a.speed) r.1 in
        rw (t, u) (header_alike _ (eqb a.header 8) (exponent_ok a.speed a.packet) r.1)))
