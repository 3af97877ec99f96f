-- Where a bring-up has its commands that read.
use Prim.Native.Nat.{ℕ, zero, suc, ◌+◌, ◌<◌, ◌≤◌}
use mathlib.Core.Path.{◌≡◌, refl, ◌∙◌}
use mathlib.Core.Bool.{Bool, true, false, cond}
use mathlib.Core.List.{List}
use mathlib.Core.Logic.{◌⊎◌, inl, inr}
use native.Mathlib.Nat.{add-zero}
use native.Mathlib.Omega.{arith}
use lib.Dec.{eqb}
use lib.ListN.{length, get_or}
use Rattle.def.specs.Speed.{exponent_ok}
use Rattle.descriptor_list.specs.Valid.{configurations}
use Rattle.transfer.specs.Routes.{with_route}
use Rattle.command.specs.declared.Command.{Command}
use Rattle.command.specs.declared.Command.TheVariants as command
use Rattle.command.specs.declared.Sent.{Sent}
use Rattle.command.specs.declared.Sent.TheVariants.{Done, Failed, Cut}
use Rattle.command.specs.Command.{command_word, outcome_at}
use Rattle.command.specs.Course.{Course, ends, on_sent, words, played}
use Rattle.laws.proofs.Stores.{sets_there}
use Rattle.context.specs.Place.{spacing_of, written}
use Rattle.context.specs.Steps.{address_context, max_packet_writes}
use Rattle.hub.specs.Route.{route_string}
use Rattle.hub.specs.Translator.{translator_of}
use Rattle.course_init.specs.Reading.{BringUp, control_ring, Reading, Brought}
use Rattle.course_init.specs.Init.{step, bring_up_configs, bring_up_device, bring_up_configuration, bring_up_packet, bring_up_header, bring_up_address}
use Rattle.device.specs.Left.{Left}
use Rattle.device_bring_up.specs.BringUp.{bring_up_course, brought_left}
use Rattle.device_bring_up.proofs.Laws.{Refused, Ran, bring_up_cases}
use Rattle.theorem_slot.specs.Call.{Buffers, brings_up, left}
use Rattle.theorem_slot.proofs.Few.{few_words}
use Rattle.theorem_driver.specs.Driven.{ReadsThere, ReadsPlaced}

-- Place i of a course's words, if it has so many, is place j of another's.
pub record Moves (o : List ℕ) (n i : ℕ) (c : Course Brought) (m j : ℕ) (d : Course Brought) : Type 0 where
  pub there : j < length (words o m d)
  pub same : get_or (words o n c) i 0 ≡ get_or (words o m d) j 0

abbrev To : List ℕ → ℕ → ℕ → Course Brought → ℕ → ℕ → Course Brought → Type 0
To o n i c m j d = i < length (words o n c) → Moves o n i c m j d

module _ (o : List ℕ) where
  both : (n i : ℕ) (c : Course Brought) (m j : ℕ) (d : Course Brought) (l k : ℕ) (e : Course Brought) →
      To o n i c m j d → To o m j d l k e → To o n i c l k e
  both n i c m j d l k e f g h =
      let x = f h in let y = g x.there in record { there = y.there; same = x.same ∙ y.same }

  -- after a command
  past : (n i : ℕ) (c : Command) (read : Reading) (ctx routes : List ℕ) (next : Course Brought) →
      To o n (suc i) (step c read ctx routes next) (n + 1) i next
  unfolding step words on_sent
  past n i c read ctx routes next h = go (outcome_at o n) refl
    where
      go : (s : Sent) → outcome_at o n ≡ s → Moves o n (suc i) (step c read ctx routes next) (n + 1) i next
      go Done e = let l : suc i < suc (length (words o (n + 1) next)) = rw e at h in record { there = omega arith; same = rw e }
      go (Failed code) e = let l : suc i < 1 = rw e at h in absurd (omega arith)
      go Cut e = let l : suc i < 1 = rw e at h in absurd (omega arith)

  -- past tests that it passed
  tested : (n i : ℕ) (t u : Bool) (x : Course Brought) (y z : Brought) →
      To o n i (cond t (cond u x (ends y)) (ends z)) n i x
  unfolding words
  tested n i true true x y z h = record { there = h; same = refl }
  tested n i true false x y z h = absurd (omega (arith, h))
  tested n i false u x y z h = absurd (omega (arith, h))

  some : (n i : ℕ) (t : Bool) (x : Brought) (y : Course Brought) → To o n i (cond t (ends x) y) n i y
  unfolding words
  some n i true x y h = absurd (omega (arith, h))
  some n i false x y h = record { there = h; same = refl }

  first : (n : ℕ) (c : Command) (read : Reading) (ctx routes : List ℕ) (next : Course Brought) →
      get_or (words o n (step c read ctx routes next)) 0 0 ≡ command_word c
  unfolding step words
  first n c read ctx routes next = refl

  module _ (a : BringUp) (spacing : ℕ) (routes : List ℕ) where
    configs_there : (k m i n : ℕ) (ctx : List ℕ) → k < m → k < length (words o n (bring_up_configs a spacing m i ctx routes)) →
        get_or (words o n (bring_up_configs a spacing m i ctx routes)) k 0 ≡ command_word (command.ReadConfig (i + k))
    unfolding bring_up_configs
    configs_there k zero i n ctx l h = absurd (omega arith)
    configs_there zero (suc m) i n ctx l h = rw add-zero (first n (command.ReadConfig i) _ ctx routes _)
    configs_there (suc k) (suc m) i n ctx l h =
        let x = past n k (command.ReadConfig i) _ ctx routes _ h in
        let e : i + suc k ≡ i + 1 + k = omega arith in
        rw e (x.same ∙ configs_there k m (i + 1) (n + 1) ctx (omega arith) x.there)

    module _ (ctx : List ℕ) where
      abbrev course : Course Brought
      course = bring_up_address a spacing ctx routes

      abbrev addressed : List ℕ
      addressed =
          address_context spacing a.speed (route_string a.hubs a.parent a.port)
          (translator_of a.speed a.hubs a.parent a.port) a.root_port (control_ring a) ctx

      abbrev sized : List ℕ
      sized = written spacing (max_packet_writes a.speed a.packet) addressed

      to_header : (i : ℕ) → To o 0 (suc i) course 1 i (bring_up_header a spacing addressed routes)
      unfolding bring_up_address
      to_header i = past 0 i command.Address _ addressed routes _

      to_packet : (i : ℕ) → To o 0 (suc (suc i)) course 2 i (bring_up_packet a spacing addressed routes)
      unfolding bring_up_header
      to_packet i =
          both 0 (suc (suc i)) course 1 (suc i) _ 2 i _ (to_header (suc i))
          (both 1 (suc i) _ 2 i _ 2 i _ (past 1 i command.ReadHeader _ addressed routes _)
          (tested 2 i (eqb a.header 8) (exponent_ok a.speed a.packet) _ _ _))

      to_value : (i : ℕ) → To o 0 (suc (suc (suc i))) course 3 i (bring_up_configuration a spacing sized routes)
      unfolding bring_up_packet
      to_value i =
          both 0 (suc (suc (suc i))) course 2 (suc i) _ 3 i _ (to_packet (suc i)) (past 2 i command.Evaluate _ sized routes _)

      to_device : (i : ℕ) → To o 0 (suc (suc (suc (suc i)))) course 4 i (bring_up_device a spacing sized routes)
      unfolding bring_up_configuration
      to_device i =
          both 0 (suc (suc (suc (suc i)))) course 3 (suc i) _ 4 i _ (to_value (suc i))
          (past 3 i command.ReadConfiguration _ sized routes _)

      to_configs : (i : ℕ) → To o 0 (suc (suc (suc (suc (suc i))))) course 5 i (bring_up_configs a spacing (configurations a.list) 0 sized routes)
      unfolding bring_up_device
      to_configs i =
          both 0 (suc (suc (suc (suc (suc i))))) course 4 (suc i) _ 5 i _ (to_device (suc i))
          (both 4 (suc i) _ 5 i _ 5 i _ (past 4 i command.ReadDevice _ sized routes _) (some 5 i (eqb (length a.list) 0) _ _))

      -- the words of the course at the places that read
      header_there : 1 < length (words o 0 course) → get_or (words o 0 course) 1 0 ≡ command_word command.ReadHeader
      unfolding bring_up_header
      header_there h = (to_header 0 h).same ∙ first 1 command.ReadHeader _ addressed routes _

      value_there : 3 < length (words o 0 course) → get_or (words o 0 course) 3 0 ≡ command_word command.ReadConfiguration
      unfolding bring_up_configuration
      value_there h = (to_value 0 h).same ∙ first 3 command.ReadConfiguration _ sized routes _

      device_there : 4 < length (words o 0 course) → get_or (words o 0 course) 4 0 ≡ command_word command.ReadDevice
      unfolding bring_up_device
      device_there h = (to_device 0 h).same ∙ first 4 command.ReadDevice _ sized routes _

      config_there : (k : ℕ) → k < configurations a.list → 5 + k < length (words o 0 course) →
          get_or (words o 0 course) (5 + k) 0 ≡ command_word (command.ReadConfig k)
      config_there k l h =
          let e : 5 + k ≡ suc (suc (suc (suc (suc k)))) = omega arith in
          let x = to_configs k (rw (← e) h) in
          let z : 0 + k ≡ k = omega arith in
          rw e (x.same ∙ (rw z at (configs_there k (configurations a.list) 0 5 sized l x.there)))

module _ (a : BringUp) (b : Buffers) (routes : List ℕ) where
  abbrev ran : Course Brought
  ran = bring_up_course a (spacing_of (length b.ctx)) b.ctx routes

  abbrev table : List ℕ
  table = with_route routes a.slot 1 (control_ring a)

  -- a place of the log is that of the course's words
  logged : (l : Left) → Ran a b.ctx routes b.log b.outcomes l → l.count ≤ 63 → (i w : ℕ) →
      (i < length (words b.outcomes 0 ran) → get_or (words b.outcomes 0 ran) i 0 ≡ w) → i < l.count → get_or l.log i 0 ≡ w
  unfolding brought_left played
  logged l r few i w f h =
      let ws = words b.outcomes 0 ran in
      let c : l.count ≡ 0 + length ws = rw r.left in
      let z : 0 + i ≡ i = omega arith in
      let s = rw z at (sets_there ws b.log 0 i (omega (arith, c, h)) (omega (arith, c, few, r.pass.room))) in
      rw r.left (s ∙ f (omega (arith, c, h)))

  there : (l : Left) → l.count ≤ 63 → Refused b.ctx routes b.log l ⊎ Ran a b.ctx routes b.log b.outcomes l → ReadsThere a l
  unfolding bring_up_course
  there l few (inl r) =
      let z = r.count in
      record {
        header = λ h. absurd (omega (arith, z, h));
        value = λ h. absurd (omega (arith, z, h));
        device = λ h. absurd (omega (arith, z, h));
        config = λ k m h. absurd (omega (arith, z, h));
      }
  there l few (inr r) =
      let spacing = spacing_of (length b.ctx) in
      let o = b.outcomes in
      record {
        header = logged l r few 1 _ (header_there o a spacing table b.ctx);
        value = logged l r few 3 _ (value_there o a spacing table b.ctx);
        device = logged l r few 4 _ (device_there o a spacing table b.ctx);
        config = λ k m. logged l r few (5 + k) _ (config_there o a spacing table b.ctx k m);
      }

pub reads_placed : ReadsPlaced
unfolding left
reads_placed a b d routes =
    there a b routes (left (brings_up a) b d routes) (few_words (record { asked = brings_up a; buffers = b }) d routes)
    (bring_up_cases a b.ctx routes b.log b.outcomes)
