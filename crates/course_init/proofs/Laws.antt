-- What callers use of the course: how it ends, and how many words it logs.
use Prim.Native.Nat.{ℕ, zero, suc, ◌+◌, ◌≤◌}
use mathlib.Core.Path.{◌≡◌, refl, ap, ◌∙◌}
use mathlib.Core.Bool.{Bool, true, false, cond}
use mathlib.Core.List.{List, []}
use native.Mathlib.Omega.{arith}
use borrow.Author.Tests.{eqb-true, eq-eqb}
use lib.Dec.{eqb}
use lib.ListN.{length, length-append}
use Rattle.laws.proofs.Tests.{not_both}
use Rattle.def.specs.Speed.{exponent_ok}
use Rattle.descriptor_list.specs.Valid.{configurations}
use Rattle.std.specs.Prelude.{Ok}
use Rattle.transfer.specs.Routes.{old_match, new_free, cleared, published, replaced, moved, with_replaced}
use Rattle.answer.specs.declared.Answer.TheVariants as answer
use Rattle.answer.specs.Answer.{number}
use Rattle.command.specs.declared.Command.{Command}
use Rattle.command.specs.declared.Command.TheVariants as command
use Rattle.command.specs.declared.Sent.{Sent}
use Rattle.command.specs.declared.Sent.TheVariants as sent
use Rattle.command.specs.Command.{outcome_at}
use Rattle.command.specs.Course.{Course, ends, on_sent, result, words}
use Rattle.command.proofs.Cuts.{on_sent_lem}
use Rattle.command.proofs.Laws.{result_then, words_then}
use Rattle.course_steps.specs.End.{End}
use Rattle.course_set_configuration.specs.SetConfiguration.{set_course}
use Rattle.course_set_configuration.proofs.Laws.{set_moved, set_accepted, set_words}
use Rattle.command.proofs.Done.{AllDone}
use Rattle.course_init.specs.Reading.{BringUp, Reading, nothing_read, read_up_to, Brought, brought}
use Rattle.course_init.specs.Init.{step, bring_up_settings, bring_up_set, bring_up_configs, bring_up_device, bring_up_configuration, bring_up_packet, bring_up_header, bring_up_address}
use Rattle.course_init.proofs.Lists.{first_empty}

-- what holds after a done command, a failed and a cut one, holds of a step's end
step_end : (P : Brought → Type 0) (o : List ℕ) (n : ℕ) (c : Command) (read : Reading) (ctx routes : List ℕ) (next : Course Brought) →
    P (result o (n + 1) next) → ((code : ℕ) → P (brought (answer.Failed code) read ctx routes)) →
    P (brought answer.Cut read ctx routes) → P (result o n (step c read ctx routes next))
unfolding step result
step_end P o n c read ctx routes next p f k =
    on_sent_lem (λ (x : Course Brought). P (result o (n + 1) x)) (outcome_at o n) _ _ _ (λ e. p) (λ code e. f code) (λ e. k)

-- Of an end: the table is as the course got it, and where it is accepted the whole list is read.
pub record EndFacts (a : BringUp) (routes : List ℕ) (e : Brought) : Type 0 where
  pub table : e.routes ≡ routes
  pub whole : number e.answer ≡ 0 → e.read.list ≡ a.list

module _ (a : BringUp) (routes : List ℕ) where
  failed_facts : (code : ℕ) (read : Reading) (ctx : List ℕ) → EndFacts a routes (brought (answer.Failed code) read ctx routes)
  unfolding number
  failed_facts code read ctx = record { table = refl; whole = λ e. absurd (omega (arith, e)) }

  cut_facts : (read : Reading) (ctx : List ℕ) → EndFacts a routes (brought answer.Cut read ctx routes)
  unfolding number
  cut_facts read ctx = record { table = refl; whole = λ e. absurd (omega (arith, e)) }

  short_facts : (read : Reading) (ctx : List ℕ) → EndFacts a routes (brought answer.ShortHeader read ctx routes)
  unfolding number
  short_facts read ctx = record { table = refl; whole = λ e. absurd (omega (arith, e)) }

  exponent_facts : (read : Reading) (ctx : List ℕ) → EndFacts a routes (brought answer.PacketExponent read ctx routes)
  unfolding number
  exponent_facts read ctx = record { table = refl; whole = λ e. absurd (omega (arith, e)) }

  step_facts : (o : List ℕ) (n : ℕ) (c : Command) (read : Reading) (ctx : List ℕ) (next : Course Brought) →
      EndFacts a routes (result o (n + 1) next) → EndFacts a routes (result o n (step c read ctx routes next))
  step_facts o n c read ctx next h =
      step_end (EndFacts a routes) o n c read ctx routes next h (λ code. failed_facts code read ctx) (cut_facts read ctx)

  none_replaced : (slot : ℕ) → replaced routes slot [] [] ≡ Ok (tt {0})
  unfolding replaced old_match new_free
  none_replaced slot = refl

  none_moved : (slot : ℕ) → with_replaced routes slot [] [] ≡ routes
  unfolding with_replaced moved replaced old_match new_free cleared published
  none_moved slot = refl

  -- a set configuration without held settings leaves the table
  set_table : (spacing : ℕ) (o ctx : List ℕ) (n : ℕ) →
      (result o n (set_course (bring_up_settings a spacing) ctx routes)).routes ≡ routes
  unfolding bring_up_settings
  set_table spacing o ctx n = go (result o n (set_course (bring_up_settings a spacing) ctx routes)).moved refl
    where
      go : (b : Bool) → (result o n (set_course (bring_up_settings a spacing) ctx routes)).moved ≡ b →
          (result o n (set_course (bring_up_settings a spacing) ctx routes)).routes ≡ routes
      go true e = ((set_moved (bring_up_settings a spacing) routes o ctx n).gone e).2 ∙ none_moved a.slot
      go false e = (set_moved (bring_up_settings a spacing) routes o ctx n).kept e

  module _ (spacing : ℕ) (o : List ℕ) where
    set_facts : (ctx : List ℕ) (n : ℕ) → EndFacts a routes (result o n (bring_up_set a spacing ctx routes))
    unfolding bring_up_set result
    set_facts ctx n = rw result_then (record { table = set_table spacing o ctx n; whole = λ e. refl })

    configs_facts : (k i : ℕ) (ctx : List ℕ) (n : ℕ) → EndFacts a routes (result o n (bring_up_configs a spacing k i ctx routes))
    unfolding bring_up_configs
    configs_facts zero i ctx n = set_facts ctx n
    configs_facts (suc k) i ctx n = step_facts o n _ _ ctx _ (configs_facts k (i + 1) ctx (n + 1))

    none_facts : (ctx : List ℕ) (n : ℕ) → length a.list ≡ 0 →
        EndFacts a routes (result o n (ends (brought answer.Accepted (read_up_to a 0) ctx routes)))
    unfolding result read_up_to
    none_facts ctx n e = record { table = refl; whole = λ z. first_empty 0 a.list e }

    read_facts : (ctx : List ℕ) (n : ℕ) (b : Bool) → eqb (length a.list) 0 ≡ b →
        EndFacts a routes
        (result o n
        (cond b (ends (brought answer.Accepted (read_up_to a 0) ctx routes))
        (bring_up_configs a spacing (configurations a.list) 0 ctx routes)))
    read_facts ctx n true e = none_facts ctx n (eqb-true _ _ e)
    read_facts ctx n false e = configs_facts (configurations a.list) 0 ctx n

    packet_facts : (ctx : List ℕ) (n : ℕ) → EndFacts a routes (result o n (bring_up_packet a spacing ctx routes))
    unfolding bring_up_packet bring_up_configuration bring_up_device
    packet_facts ctx n =
        step_facts o n _ _ _ _
        (step_facts o (n + 1) _ _ _ _ (step_facts o (n + 1 + 1) _ _ _ _ (read_facts _ (n + 1 + 1 + 1) _ refl)))

    header_facts : (ctx : List ℕ) (n : ℕ) (b t : Bool) →
        EndFacts a routes
        (result o n
        (cond b (cond t (bring_up_packet a spacing ctx routes) (ends (brought answer.PacketExponent nothing_read ctx routes))) (ends (brought answer.ShortHeader nothing_read ctx routes))))
    unfolding result
    header_facts ctx n true true = packet_facts ctx n
    header_facts ctx n true false = exponent_facts nothing_read ctx
    header_facts ctx n false t = short_facts nothing_read ctx

    -- of every end of the course
    pub address_facts : (ctx : List ℕ) (n : ℕ) → EndFacts a routes (result o n (bring_up_address a spacing ctx routes))
    unfolding bring_up_address bring_up_header
    address_facts ctx n = step_facts o n _ _ _ _ (step_facts o (n + 1) _ _ _ _ (header_facts _ (n + 1 + 1) (eqb a.header 8) (exponent_ok a.speed a.packet)))

-- Where every command is done.

step_done : (o : List ℕ) (n : ℕ) (c : Command) (read : Reading) (ctx routes : List ℕ) (next : Course Brought) →
    outcome_at o n ≡ sent.Done → result o n (step c read ctx routes next) ≡ result o (n + 1) next
unfolding step result on_sent
step_done o n c read ctx routes next e =
    let rest : Sent → Course Brought =
    λ s.
    on_sent s next (λ code. ends (brought (answer.Failed code) read ctx routes)) (ends (brought answer.Cut read ctx routes)) in
    ap (λ s. result o (n + 1) (rest s)) e

module _ (a : BringUp) (spacing : ℕ) (routes o : List ℕ) where
  set_done : (ctx : List ℕ) (n : ℕ) → AllDone o n 3 → (result o n (bring_up_set a spacing ctx routes)).answer ≡ answer.Accepted
  unfolding bring_up_set bring_up_settings result
  set_done ctx n h =
      rw result_then
      (ap (λ (e : End). e.answer)
      (set_accepted (bring_up_settings a spacing) routes o ctx n h (none_replaced a routes a.slot)))

  configs_done : (k i : ℕ) (ctx : List ℕ) (n : ℕ) → AllDone o n (k + 3) →
      (result o n (bring_up_configs a spacing k i ctx routes)).answer ≡ answer.Accepted
  unfolding bring_up_configs
  configs_done zero i ctx n h = set_done ctx n h
  configs_done (suc k) i ctx n h =
      ap (λ (e : Brought). e.answer) (step_done o n _ _ ctx routes _ (h n (omega arith) (omega arith)))
      ∙ configs_done k (i + 1) ctx (n + 1) (λ j l m. h j (omega arith) (omega arith))

  read_done : (ctx : List ℕ) (n : ℕ) (b : Bool) → AllDone o n (configurations a.list + 3) →
      (result o n
      (cond b (ends (brought answer.Accepted (read_up_to a 0) ctx routes))
      (bring_up_configs a spacing (configurations a.list) 0 ctx routes))).answer
      ≡ answer.Accepted
  unfolding result
  read_done ctx n true h = refl
  read_done ctx n false h = configs_done (configurations a.list) 0 ctx n h

  module _ (h : AllDone o 0 (8 + configurations a.list)) where
    packet_done : (ctx : List ℕ) → (result o 2 (bring_up_packet a spacing ctx routes)).answer ≡ answer.Accepted
    unfolding bring_up_packet bring_up_configuration bring_up_device
    packet_done ctx =
        ap (λ (e : Brought). e.answer)
        (step_done o 2 _ _ _ routes _ (h 2 (omega arith) (omega arith))
        ∙ step_done o 3 _ _ _ routes _ (h 3 (omega arith) (omega arith))
        ∙ step_done o 4 _ _ _ routes _ (h 4 (omega arith) (omega arith)))
        ∙ read_done _ 5 (eqb (length a.list) 0) (λ j l m. h j (omega arith) (omega arith))

    header_done : (ctx : List ℕ) (b t : Bool) → b ≡ true → t ≡ true →
        (result o 2 (cond b (cond t (bring_up_packet a spacing ctx routes) (ends (brought answer.PacketExponent nothing_read ctx routes))) (ends (brought answer.ShortHeader nothing_read ctx routes)))).answer
        ≡ answer.Accepted
    header_done ctx true true e f = packet_done ctx
    header_done ctx true false e f = not_both false f refl
    header_done ctx false t e f = not_both false e refl

    -- with a header of eight bytes, whose packet size is one of the speed, it is accepted
    pub address_done : (ctx : List ℕ) → a.header ≡ 8 → exponent_ok a.speed a.packet ≡ true → (result o 0 (bring_up_address a spacing ctx routes)).answer ≡ answer.Accepted
    unfolding bring_up_address bring_up_header
    address_done ctx e f =
        ap (λ (e : Brought). e.answer)
        (step_done o 0 _ _ _ routes _ (h 0 (omega arith) (omega arith))
        ∙ step_done o 1 _ _ _ routes _ (h 1 (omega arith) (omega arith)))
        ∙ header_done _ (eqb a.header 8) _ (eq-eqb a.header 8 e) f

-- How many words are logged.

-- one for a command, and those after it
step_words :
    (o : List ℕ) (n m : ℕ) (c : Command) (read : Reading) (ctx routes : List ℕ) (next : Course Brought) →
    length (words o (n + 1) next) ≤ m → length (words o n (step c read ctx routes next)) ≤ suc m
unfolding step words
step_words o n m c read ctx routes next h =
    on_sent_lem (λ (x : Course Brought). suc (length (words o (n + 1) x)) ≤ suc m) (outcome_at o n) next _ _ (λ e. omega arith)
    (λ code e. omega arith)
    (λ e. omega arith)

module _ (a : BringUp) (spacing : ℕ) (routes o : List ℕ) where
  set_few : (ctx : List ℕ) (n : ℕ) → length (words o n (bring_up_set a spacing ctx routes)) ≤ 3
  unfolding bring_up_set bring_up_settings words
  set_few ctx n = rw (words_then, length-append) (omega (arith, set_words (bring_up_settings a spacing) routes o ctx n))

  configs_few : (k i : ℕ) (ctx : List ℕ) (n : ℕ) → length (words o n (bring_up_configs a spacing k i ctx routes)) ≤ k + 3
  unfolding bring_up_configs
  configs_few zero i ctx n = set_few ctx n
  configs_few (suc k) i ctx n =
      let next : Course Brought = bring_up_configs a spacing k (i + 1) ctx routes in
      let h : length (words o n (step (command.ReadConfig i) (read_up_to a i) ctx routes next)) ≤ suc (k + 3) =
      step_words o n (k + 3) (command.ReadConfig i) (read_up_to a i) ctx routes next (configs_few k (i + 1) ctx (n + 1)) in
      omega (arith, h)

  read_few : (ctx : List ℕ) (n : ℕ) (b : Bool) →
      length
      (words o n
      (cond b (ends (brought answer.Accepted (read_up_to a 0) ctx routes))
      (bring_up_configs a spacing (configurations a.list) 0 ctx routes)))
      ≤ configurations a.list + 3
  unfolding words
  read_few ctx n true = omega arith
  read_few ctx n false = configs_few (configurations a.list) 0 ctx n

  packet_few : (ctx : List ℕ) (n : ℕ) → length (words o n (bring_up_packet a spacing ctx routes)) ≤ suc (suc (suc (configurations a.list + 3)))
  unfolding bring_up_packet bring_up_configuration bring_up_device
  packet_few ctx n =
      step_words o n _ _ _ _ routes _
      (step_words o (n + 1) _ _ _ _ routes _
      (step_words o (n + 1 + 1) _ _ _ _ routes _ (read_few _ (n + 1 + 1 + 1) (eqb (length a.list) 0))))

  header_few : (ctx : List ℕ) (n : ℕ) (b t : Bool) →
      length (words o n (cond b (cond t (bring_up_packet a spacing ctx routes) (ends (brought answer.PacketExponent nothing_read ctx routes))) (ends (brought answer.ShortHeader nothing_read ctx routes))))
      ≤ suc (suc (suc (configurations a.list + 3)))
  unfolding words
  header_few ctx n true true = packet_few ctx n
  header_few ctx n true false = omega arith
  header_few ctx n false t = omega arith

  address_few :
      (ctx : List ℕ) (n : ℕ) →
      length (words o n (bring_up_address a spacing ctx routes)) ≤ suc (suc (suc (suc (suc (configurations a.list + 3)))))
  unfolding bring_up_address bring_up_header
  address_few ctx n =
      step_words o n _ _ _ _ routes _ (step_words o (n + 1) _ _ _ _ routes _ (header_few _ (n + 1 + 1) (eqb a.header 8) (exponent_ok a.speed a.packet)))

  -- at most eight, and one for each configuration
  pub address_words : (ctx : List ℕ) → length (words o 0 (bring_up_address a spacing ctx routes)) ≤ 8 + configurations a.list
  address_words ctx = omega (arith, address_few ctx 0)
