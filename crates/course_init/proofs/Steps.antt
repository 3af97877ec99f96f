-- What the parts of the code come to.
use Prim.Native.Nat.{ℕ, suc, ◌+◌, ◌-◌, ◌<◌}
use mathlib.Core.Path.{◌≡◌, refl, sym, ap, ◌∙◌}
use mathlib.Core.Logic.{inl, inr}
use mathlib.Core.Bool.{true, false, cond}
use mathlib.Core.List.{List, [], ◌∷◌}
use native.Mathlib.Omega.{arith}
use borrow.Author.Rules.{rules}
use borrow.Author.Tests.{eq-eqb, ne_eqb}
use types.Run.{OneOf, miss}
use denote.Enum.Declared.{tag_of}
use Rattle.std.specs.Prelude.{Some, None, Result, Ok, Err}
use lib.ListN.{length, get_or, set}
use Rattle.descriptor.specs.Word.{configuration_value}
use Rattle.descriptor_list.specs.Valid.{begins_with_configuration, configurations}
use Rattle.answer.proofs.Numbers.{AnyBut, other_answer}
use Rattle.answer.specs.declared.Answer.{Answer}
use Rattle.answer.specs.declared.Answer.TheVariants as answer
use Rattle.answer.specs.Answer.{number, is_accepted}
use Rattle.command.specs.contracts.Sent as sent-type
use Rattle.command.specs.declared.Command.{Command}
use Rattle.command.specs.declared.Command.TheVariants as command
use Rattle.command.specs.declared.Sent.{Sent}
use Rattle.command.specs.declared.Sent.TheVariants as sent
use Rattle.command.specs.Command.{command_word, outcome_at}
use Rattle.command.specs.Course.{Course, ends, on_sent, Played, played}
use Rattle.command.proofs.Laws.{played_ends, played_sends, played_then}
use Rattle.command.proofs.Phases.{Begins, continued, went_on}
use Rattle.hub.specs.Route.{route_string}
use Rattle.hub.specs.Translator.{translator_of}
use Rattle.hub.specs.declared.translator.Translator.{Translator}
use Rattle.context.specs.Place.{written, Spaced}
use Rattle.context.specs.Steps.{address_context, max_packet_writes}
use Rattle.record_endpoint.specs.declared.queues.Queues.{Queues}
use Rattle.course_steps.specs.End.{End, answer_of}
use Rattle.course_steps.specs.Arrays.{dcis_in, Room}
use Rattle.course_steps.proofs.Laws.{none_counted}
use Rattle.course_set_configuration.specs.SetConfiguration.{set_course}
use Rattle.course_init.specs.Reading.{BringUp, control_ring, first_configurations, Reading, nothing_read, read_up_to, Brought, brought, leaves_read}
use Rattle.course_init.specs.Init.{step, bring_up_settings, bring_up_set, bring_up_configs, bring_up_configuration, bring_up_packet, bring_up_header, bring_up_address}
use Rattle.course_init.specs.Parts.{or_ended, bring_up_left}
use Rattle.course_init.specs.declared.run.InitEnd.{InitEnd}
use Rattle.course_init.proofs.Lists.{begun_none, first_all, first_empty, some_words}

-- room for a set configuration without endpoints
pub first_room : (s ctx : ℕ) (old : Queues) → Spaced s ctx → old.count ≡ 0 → Room s ctx old old
unfolding dcis_in
first_room s ctx old r n =
    record { spaced = r; full = ap length (none_counted old n) ∙ sym n; dcis = rw n (λ i l. absurd (omega arith)) }

-- room in a context of the same length
pub spaced_same : {s m n : ℕ} → Spaced s m → n ≡ m → Spaced s n
spaced_same r e = rw e r

-- Outcomes that are not Done, and answers that are no acceptance.
abbrev pub NotDone : Sent → Type 0
NotDone s = OneOf (1 ∷ 2 ∷ []) (tag_of sent-type.the_type s)

abbrev pub Refused : Answer → Type 0
Refused = AnyBut (0 ∷ [])

pub unless_done : (s : Sent) → (s ≡ sent.Done → ⊥) → NotDone s
unless_done sent.Done h = absurd (h refl)
unless_done (sent.Failed code) h = inl refl
unless_done sent.Cut h = inr refl

pub unless_accepted : (a : Answer) → (a ≡ answer.Accepted → ⊥) → Refused a
unless_accepted a h = search rules

refused : (a : Answer) → Refused a → is_accepted a ≡ false
refused a h = other_answer (0 ∷ []) 0 a refl h

-- The exits of a part: its command is answered and logged.
module _
    (o log : List ℕ) (n : ℕ) (c : Command) (s : Sent) (left : List ℕ)
    (sent-as : (s ≡ outcome_at o n) × (left ≡ set log n (command_word c))) where
  module _ (read : Reading) (ctx routes : List ℕ) (next : Course Brought) where
    -- it is done
    pub done : s ≡ sent.Done → played o n (step c read ctx routes next) log ≡ played o (n + 1) next left
    unfolding step on_sent Begins continued
    done d = sym (went_on o log n c (step c read ctx routes next) refl sent-as d refl)

    -- or not
    stopped : NotDone s →
        played o n (step c read ctx routes next) log
        ≡ record { end = brought (answer_of s) read ctx routes; count = n + 1; log = left }
    unfolding step on_sent answer_of
    stopped h = rw (played_sends, ← sent-as.0, ← sent-as.1) (go s h)
      where
        go : (t : Sent) → NotDone t →
            played o (n + 1)
            (on_sent t next (λ code. ends (brought (answer.Failed code) read ctx routes)) (ends (brought answer.Cut read ctx routes)))
            left
            ≡ record { end = brought (answer_of t) read ctx routes; count = n + 1; log = left }
        go sent.Done k = absurd (miss (1 ∷ 2 ∷ []) 0 tt k)
        go (sent.Failed code) k = rw (played_ends)
        go sent.Cut k = rw (played_ends)

  module _ {A : Type 0} (ctx routes : List ℕ) (next : Course Brought) (r : InitEnd) (rest : A → Played Brought) (h : NotDone s) where
    -- where nothing was read yet
    pub stopped_before : (list : List ℕ) → begins_with_configuration list ≡ true →
        r ≡ record { answer = answer_of s; count = n + 1; value = None; configurations = 0 } →
        played o n (step c nothing_read ctx routes next) log ≡ or_ended (Err r) list ctx routes left rest
    unfolding or_ended nothing_read
    stopped_before list v e = stopped nothing_read ctx routes next h ∙ rw (e, begun_none list v)

    -- where the value was read, and k configurations
    pub stopped_after : (a : BringUp) (k : ℕ) →
        r ≡ record { answer = answer_of s; count = n + 1; value = Some a.value; configurations = k } →
        played o n (step c (read_up_to a k) ctx routes next) log ≡ or_ended (Err r) a.list ctx routes left rest
    unfolding or_ended read_up_to
    stopped_after a k e = stopped (read_up_to a k) ctx routes next h ∙ rw e

-- a header that is refused
pub header_refused : {A : Type 0} (o list ctx routes log : List ℕ) (x : Answer) (r : InitEnd) (rest : A → Played Brought) (course : Course Brought) →
    begins_with_configuration list ≡ true →
    r ≡ record { answer = x; count = 2; value = None; configurations = 0 } →
    course ≡ ends (brought x nothing_read ctx routes) →
    played o 2 course log ≡ or_ended (Err r) list ctx routes log rest
unfolding or_ended nothing_read
header_refused o list ctx routes log x r rest course v e f = rw (f, e, played_ends, begun_none list v)

-- Configuration descriptors, of which i of k are read.
module _ (a : BringUp) (spacing : ℕ) (ctx routes o log : List ℕ) (k i : ℕ) (all : k ≡ configurations a.list) (h : i < k) where
  left_step :
      bring_up_left a spacing (k - i) i ctx routes
      ≡ step (command.ReadConfig i) (read_up_to a i) ctx routes (bring_up_left a spacing (k - (i + 1)) (i + 1) ctx routes)
  unfolding bring_up_left bring_up_configs
  left_step = let m : k - i ≡ suc (k - (i + 1)) = omega arith in rw (m, some_words a.list (omega arith))

  module _ (s : Sent) (left : List ℕ)
      (sent-as : (s ≡ outcome_at o (5 + i)) × (left ≡ set log (5 + i) (command_word (command.ReadConfig i)))) where
    -- one more
    pub configs_next : s ≡ sent.Done →
        played o (5 + i) (bring_up_left a spacing (k - i) i ctx routes) log
        ≡ played o (5 + (i + 1)) (bring_up_left a spacing (k - (i + 1)) (i + 1) ctx routes) left
    configs_next d =
        let n : 5 + (i + 1) ≡ 5 + i + 1 = omega arith in
        rw (left_step, n) (done o log (5 + i) (command.ReadConfig i) s left sent-as _ _ _ _ d)

    -- or no more
    pub configs_stopped : {A : Type 0} (r : InitEnd) (rest : A → Played Brought) → NotDone s →
        r ≡ record { answer = answer_of s; count = 6 + i; value = Some a.value; configurations = i } →
        played o (5 + i) (bring_up_left a spacing (k - i) i ctx routes) log ≡ or_ended (Err r) a.list ctx routes left rest
    configs_stopped r rest d e =
        let n : 6 + i ≡ 5 + i + 1 = omega arith in
        rw left_step
        (stopped_after o log (5 + i) (command.ReadConfig i) s left sent-as ctx routes _ r rest d a i
        (e ∙ ap (λ (x : ℕ). record { answer = answer_of s; count = x; value = Some a.value; configurations = i }) n))

-- What is brought up with a value and a list where the setting of the first configuration has ended.
abbrev as_set : ℕ → List ℕ → Played End → Played Brought
as_set value list p = record {
  end = brought p.end.answer (record { configured = true; value = value; list = list }) p.end.ctx p.end.routes;
  count = p.count;
  log = p.log;
}

module _ (a : BringUp) (spacing : ℕ) (ctx routes o : List ℕ) where
  -- the end of a bring-up whose first configuration is set or not
  set_end : (n : ℕ) (log : List ℕ) (p : Played End) → played o n (set_course (bring_up_settings a spacing) ctx routes) log ≡ p →
      played o n (bring_up_set a spacing ctx routes) log
      ≡ as_set (cond (is_accepted p.end.answer) (configuration_value (get_or a.list 0 0)) a.value) a.list p
  unfolding bring_up_set bring_up_settings
  set_end n log p e = rw (played_then, e, played_ends)

  module _ (n k : ℕ) (log : List ℕ) where
    -- there is no configuration
    pub none_to_set : (r : InitEnd) → length a.list ≡ 0 →
        r ≡ record { answer = answer.Accepted; count = n; value = Some a.value; configurations = k } →
        leaves_read r a.list ctx routes log ≡ played o n (bring_up_left a spacing 0 k ctx routes) log
    unfolding bring_up_left read_up_to
    none_to_set r z e = rw (e, eq-eqb (length a.list) 0 z, played_ends, first_empty k a.list z, first_empty 0 a.list z)

    module _ (p : Played End) (some : 0 < length a.list) (e : played o n (set_course (bring_up_settings a spacing) ctx routes) log ≡ p)
        (all : k ≡ configurations a.list) where
      first_end :
          played o n (bring_up_left a spacing 0 k ctx routes) log
          ≡ as_set (cond (is_accepted p.end.answer) (configuration_value (get_or a.list 0 0)) a.value) (first_configurations k a.list) p
      unfolding bring_up_left bring_up_configs
      first_end = rw (ne_eqb (length a.list) 0 (λ (z : length a.list ≡ 0). omega (arith, z)), all, first_all a.list) (set_end n log p e)

      -- it is set
      pub set_done : (value : ℕ) → p.end.answer ≡ answer.Accepted → value ≡ configuration_value (get_or a.list 0 0) →
          as_set value (first_configurations k a.list) p
          ≡ played o n (bring_up_left a spacing 0 k ctx routes) log
      unfolding number
      set_done value h v = sym (first_end ∙ rw (h, v))

      -- or not
      pub set_refused : Refused p.end.answer →
          as_set a.value (first_configurations k a.list) p
          ≡ played o n (bring_up_left a spacing 0 k ctx routes) log
      set_refused h = sym (first_end ∙ rw (refused p.end.answer h))

-- A bring-up from the parts of the code: the device addressed and its header read.
module _
    (a : BringUp) (spacing : ℕ) (o ctx routes log log₁ : List ℕ) (r : Result Unit InitEnd)
    {ctx₁ : List ℕ} {path ring : ℕ} {translator : Translator}
    (addressed : ctx₁ ≡ address_context spacing a.speed path translator a.root_port ring ctx)
    (routed : path ≡ route_string a.hubs a.parent a.port) (translated : translator ≡ translator_of a.speed a.hubs a.parent a.port)
    (low : ring ≡ control_ring a)
    (header :
    played o 0 (step command.Address nothing_read ctx₁ routes (bring_up_header a spacing ctx₁ routes)) log
    ≡ or_ended r a.list ctx₁ routes log₁ (λ u. played o 2 (bring_up_packet a spacing ctx₁ routes) log₁)) where
  begun :
      played o 0 (bring_up_address a spacing ctx routes) log
      ≡ or_ended r a.list ctx₁ routes log₁ (λ u. played o 2 (bring_up_packet a spacing ctx₁ routes) log₁)
  unfolding bring_up_address
  begun = rw (← low, ← translated, ← routed, ← addressed) header

  -- it ends there
  pub header_ended : {e : InitEnd} → r ≡ Err e →
      leaves_read e a.list ctx₁ routes log₁ ≡ played o 0 (bring_up_address a spacing ctx routes) log
  unfolding or_ended
  header_ended h = sym (begun ∙ rw h)

  -- or the packet size is told, and the descriptors are read
  module _
      (log₂ : List ℕ) (t : Result ℕ InitEnd) {ctx₂ : List ℕ} {u : Unit} (ok : r ≡ Ok u)
      (packet : ctx₂ ≡ written spacing (max_packet_writes a.speed a.packet) ctx₁)
      (read :
      played o 2 (step command.Evaluate nothing_read ctx₂ routes (bring_up_configuration a spacing ctx₂ routes)) log₁
      ≡ or_ended t a.list ctx₂ routes log₂ (λ n. played o (5 + n) (bring_up_left a spacing 0 n ctx₂ routes) log₂)) where
    went :
        played o 0 (bring_up_address a spacing ctx routes) log
        ≡ or_ended t a.list ctx₂ routes log₂ (λ n. played o (5 + n) (bring_up_left a spacing 0 n ctx₂ routes) log₂)
    unfolding bring_up_packet or_ended
    went = begun ∙ rw (ok, ← packet) read

    -- it ends with them
    pub descriptors_ended : {e : InitEnd} → t ≡ Err e →
        leaves_read e a.list ctx₂ routes log₂ ≡ played o 0 (bring_up_address a spacing ctx routes) log
    unfolding or_ended
    descriptors_ended h = sym (went ∙ rw h)

    -- or goes on
    pub descriptors_read : {p : Played Brought} {n : ℕ} → t ≡ Ok n →
        p ≡ played o (5 + n) (bring_up_left a spacing 0 n ctx₂ routes) log₂ →
        p ≡ played o 0 (bring_up_address a spacing ctx routes) log
    unfolding or_ended
    descriptors_read h e = e ∙ sym (went ∙ rw h)
