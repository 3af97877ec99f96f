-- What a bring-up leaves: refused, or with control's route registered.
use Prim.Native.Nat.{ℕ, ◌+◌, ◌*◌, ◌≤◌}
use mathlib.Core.Path.{◌≡◌, refl, sym, ap, ◌∙◌}
use mathlib.Core.Bool.{Bool, true, false, cond, ◌&&◌, ◌||◌}
use mathlib.Core.List.{List, []}
use mathlib.Core.Logic.{◌⊎◌, inl, inr}
use native.Mathlib.Omega.{arith}
use borrow.Author.Tests.{eqb-true, eq-eqb}
use lib.Dec.{eqb, leb}
use lib.ListN.{length, get_or, length-set}
use lib.Seq.{get_or-set_same, get_or-set_other}
use Rattle.laws.proofs.Tests.{not_both}
use Rattle.def.specs.Speed.{speed_known, exponent_ok}
use Rattle.descriptor_list.specs.Valid.{configurations}
use Rattle.descriptor_list.specs.Companions.{list_ok, companions_fit}
use Rattle.hub.specs.Chain.{chain_ok}
use Rattle.record_ring.specs.Store.{given_ok}
use Rattle.record_ring.proofs.Laws.{ring_nonzero}
use Rattle.transfer.specs.Routes.{route_index, route_of, with_route, OutsideSlot}
use Rattle.transfer.proofs.Laws.{index_inside}
use Rattle.answer.specs.declared.Answer.{Answer}
use Rattle.answer.specs.declared.Answer.TheVariants as answer
use Rattle.std.specs.Prelude.{Ok, Err}
use Rattle.answer.specs.Check.{Check, Pass, Refuse}
use Rattle.answer.specs.Answer.{number, is_accepted, is_broken, is_cut}
use Rattle.command.specs.Course.{played, result, words}
use Rattle.command.proofs.Done.{AllDone}
use Rattle.context.specs.Place.{spacing_of}
use Rattle.record_endpoint.specs.EndpointMap.{no_endpoints}
use Rattle.device.specs.declared.record.Device.{Device}
use Rattle.device.specs.Device.{words_of, endpoint_map_in, held_of, quarantined_of, given_of, no_device}
use Rattle.device.specs.Left.{Left, refused}
use Rattle.device.specs.Sound.{sound}
use Rattle.device.specs.Calls.{on_check}
use Rattle.course_init.specs.Reading.{BringUp, control_ring, Brought}
use Rattle.course_init.proofs.Laws.{EndFacts, address_facts, address_done, address_words}
use Rattle.device_bring_up.specs.BringUp.{slot_check, device_check, queue_check, bring_up_check, bring_up_course, brought_record, brought_left, bring_up}
use Rattle.device.proofs.Laws.{pass_if}
use Rattle.device_bring_up.proofs.Checks.{Passed, passed}
use Rattle.device_bring_up.proofs.Accepted.{control_ok, record_given, record_held, record_map, record_quarantined, record_words, record_usable, usable_accepted, record_sound}

-- An answer before any command: neither accepted nor 14 nor 15.
pub record Refusal (x : Answer) : Type 0 where
  pub accepted : is_accepted x ≡ false
  pub broken : is_broken x ≡ false
  pub cut : is_cut x ≡ false

unfoldable Refuses : Check → Type 0
Refuses (Ok _) = Unit {0}
Refuses (Err x) = Refusal x

refuses_if : (b : Bool) (x : Answer) (next : Check) → Refusal x → Refuses next → Refuses (cond b next (Refuse x))
unfolding Refuses
refuses_if true x next r h = h
refuses_if false x next r h = r

-- every refusal of a bring-up is one
check_refuses : (a : BringUp) (ctx : ℕ) (routes : List ℕ) (log : ℕ) → Refuses (bring_up_check a ctx routes log)
unfolding bring_up_check slot_check device_check queue_check Refuses number
check_refuses a ctx routes log =
    refuses_if (leb 1 a.slot && (leb a.slot a.max_slots && leb a.max_slots 255)) answer.SlotLimitReached _ (record { accepted = refl; broken = refl; cut = refl })
    (refuses_if (eqb ctx 1056 || eqb ctx 2112) answer.ContextLength _ (record { accepted = refl; broken = refl; cut = refl })
    (refuses_if (eqb (length routes) (32 * (a.max_slots + 1))) answer.RoutesLength _ (record { accepted = refl; broken = refl; cut = refl })
    (refuses_if (leb 64 log) answer.LogTooShort _ (record { accepted = refl; broken = refl; cut = refl })
    (refuses_if (speed_known a.speed) answer.Speed _ (record { accepted = refl; broken = refl; cut = refl })
    (refuses_if (list_ok a.speed a.list) answer.DescriptorList _ (record { accepted = refl; broken = refl; cut = refl })
    (refuses_if (companions_fit a.speed a.list) answer.Companion _ (record { accepted = refl; broken = refl; cut = refl })
    (refuses_if (chain_ok a.hubs a.parent) answer.HubChain _ (record { accepted = refl; broken = refl; cut = refl })
    (refuses_if (given_ok a.rings) answer.Rings _ (record { accepted = refl; broken = refl; cut = refl })
    (refuses_if (eqb (route_of routes a.slot 1) 0) answer.QueueFull Pass (record { accepted = refl; broken = refl; cut = refl }) tt)))))))))

-- A refused bring-up.
pub record Refused (ctx routes log : List ℕ) (l : Left) : Type 0 where
  pub device : l.device ≡ no_device
  pub answer : Refusal l.answer
  pub count : l.count ≡ 0
  pub context : l.ctx ≡ ctx
  pub table : l.routes ≡ routes
  pub logged : l.log ≡ log

-- One that ran: its checks have passed, and it left what its course left.
pub record Ran (a : BringUp) (ctx routes log outcomes : List ℕ) (l : Left) : Type 0 where
  pub pass : Passed a (length ctx) (length routes) (length log)
  pub free : route_of routes a.slot 1 ≡ 0
  pub left :
      l ≡ brought_left a (spacing_of (length ctx)) (played outcomes 0 (bring_up_course a (spacing_of (length ctx)) ctx routes) log)

queue_pass : (a : BringUp) (routes : List ℕ) → queue_check a routes ≡ Pass → route_of routes a.slot 1 ≡ 0
unfolding queue_check
queue_pass a routes e =
    let p : (eqb (route_of routes a.slot 1) 0 ≡ true) × _ = pass_if _ _ _ e in eqb-true _ _ p.0

module _ (a : BringUp) (ctx routes log outcomes : List ℕ) where
  run : Left
  run = brought_left a (spacing_of (length ctx)) (played outcomes 0 (bring_up_course a (spacing_of (length ctx)) ctx routes) log)

  -- every bring-up is refused or runs
  pub bring_up_cases :
      Refused ctx routes log (bring_up a ctx routes log outcomes) ⊎ Ran a ctx routes log outcomes (bring_up a ctx routes log outcomes)
  unfolding bring_up on_check refused bring_up_check Refuses run
  bring_up_cases = go (bring_up_check a (length ctx) routes (length log)) refl (check_refuses a (length ctx) routes (length log))
    where
      go : (k : Check) → bring_up_check a (length ctx) routes (length log) ≡ k → Refuses k →
          Refused ctx routes log (on_check k run (λ x. refused no_device x ctx routes log))
          ⊎ Ran a ctx routes log outcomes (on_check k run (λ x. refused no_device x ctx routes log))
      go (Ok _) e r =
          let p = passed a (length ctx) (length routes) (length log) (queue_check a routes) e in
          inr (record { pass = p.0; free = queue_pass a routes p.1; left = refl })
      go (Err x) e r =
          inl (record { device = refl; answer = r; count = refl; context = refl; table = refl; logged = refl })

-- An accepted bring-up.
pub record BroughtUp (a : BringUp) (ctx routes log : List ℕ) (l : Left) : Type 0 where
  pub pass : Passed a (length ctx) (length routes) (length log)
  pub free : route_of routes a.slot 1 ≡ 0
  pub table : l.routes ≡ with_route routes a.slot 1 (control_ring a)
  pub usable : l.device.usable ≡ true
  pub is_sound : sound l.device ≡ true
  pub slot : l.device.slot.0 ≡ a.slot
  pub max_slots : l.device.max_slots ≡ a.max_slots
  pub spacing : l.device.spacing ≡ spacing_of (length ctx)
  pub speed : l.device.port_speed ≡ a.speed
  pub list : words_of l.device ≡ a.list
  pub control : l.device.control ≡ control_ring a
  pub held : held_of l.device ≡ []
  pub endpoints : endpoint_map_in l.device ≡ no_endpoints
  pub quarantined : quarantined_of l.device ≡ []
  pub given : given_of l.device ≡ a.rings

module _ (a : BringUp) (ctx routes log outcomes : List ℕ) where
  spacing : ℕ
  spacing = spacing_of (length ctx)

  end : Brought
  end = result outcomes 0 (bring_up_course a spacing ctx routes)

  facts : EndFacts a (with_route routes a.slot 1 (control_ring a)) end
  unfolding end bring_up_course
  facts = address_facts a (with_route routes a.slot 1 (control_ring a)) spacing outcomes ctx 0

  abbrev Run : Left → Type 0
  Run = Ran a ctx routes log outcomes

  run_accepted : (p : Passed a (length ctx) (length routes) (length log)) → route_of routes a.slot 1 ≡ 0 →
      number end.answer ≡ 0 → BroughtUp a ctx routes log (run a ctx routes log outcomes)
  unfolding spacing end run brought_left brought_record played
  run_accepted p f e =
      let w : end.read.list ≡ a.list = facts.whole e in
      record {
        pass = p;
        free = f;
        table = facts.table;
        usable = record_usable a spacing end e;
        is_sound = record_sound a (length ctx) (length routes) (length log) p end w;
        slot = refl;
        max_slots = refl;
        spacing = refl;
        speed = refl;
        list = record_words a spacing end ∙ w;
        control = refl;
        held = record_held a spacing end;
        endpoints = record_map a spacing end;
        quarantined = record_quarantined a spacing end;
        given = record_given a spacing end;
      }

  run_answer : (run a ctx routes log outcomes).answer ≡ end.answer
  unfolding spacing end run brought_left played
  run_answer = refl

  run_device : (run a ctx routes log outcomes).device ≡ brought_record a (spacing_of (length ctx)) end
  unfolding spacing end run brought_left played
  run_device = refl

  run_table : (run a ctx routes log outcomes).routes ≡ with_route routes a.slot 1 (control_ring a)
  unfolding spacing end run brought_left played
  run_table = facts.table

  accepted_of : (l : Left) → Refused ctx routes log l ⊎ Run l → number l.answer ≡ 0 → BroughtUp a ctx routes log l
  unfolding run
  accepted_of l (inl r) e = not_both (is_accepted l.answer) (eq-eqb (number l.answer) 0 e) r.answer.accepted
  accepted_of l (inr r) e =
      let same : number end.answer ≡ 0 = sym (ap (λ x. number x.answer) r.left ∙ ap number run_answer) ∙ e in
      rw r.left (run_accepted r.pass r.free same)

  -- what an accepted bring-up has made, by the number of its answer
  pub accepted_by_number : number (bring_up a ctx routes log outcomes).answer ≡ 0 →
      BroughtUp a ctx routes log (bring_up a ctx routes log outcomes)
  accepted_by_number e = accepted_of (bring_up a ctx routes log outcomes) (bring_up_cases a ctx routes log outcomes) e

  -- what an accepted bring-up has made
  pub bring_up_accepted : (bring_up a ctx routes log outcomes).answer ≡ answer.Accepted →
      BroughtUp a ctx routes log (bring_up a ctx routes log outcomes)
  unfolding number
  bring_up_accepted e = accepted_by_number (ap number e)

  full_of : (l : Left) → Refused ctx routes log l ⊎ Run l → (route_of routes a.slot 1 ≡ 0 → ⊥) → Refused ctx routes log l
  full_of l (inl r) h = r
  full_of l (inr r) h = absurd (h r.free)

  -- a slot that has a control route is not brought up
  pub bring_up_full : (route_of routes a.slot 1 ≡ 0 → ⊥) → Refused ctx routes log (bring_up a ctx routes log outcomes)
  bring_up_full h = full_of (bring_up a ctx routes log outcomes) (bring_up_cases a ctx routes log outcomes) h

  -- one that ran has registered control's route
  pub ran_table : (l : Left) → Run l → l.routes ≡ with_route routes a.slot 1 (control_ring a)
  unfolding run
  ran_table l r = ap (λ x. x.routes) r.left ∙ run_table

  table_of : (l : Left) → Refused ctx routes log l ⊎ Run l →
      (l.routes ≡ routes) ⊎ (l.routes ≡ with_route routes a.slot 1 (control_ring a))
  table_of l (inl r) = inl r.table
  table_of l (inr r) = inr (ran_table l r)

  -- the table: as it was, or with control's route
  pub bring_up_table :
      ((bring_up a ctx routes log outcomes).routes ≡ routes)
      ⊎ ((bring_up a ctx routes log outcomes).routes ≡ with_route routes a.slot 1 (control_ring a))
  bring_up_table = table_of (bring_up a ctx routes log outcomes) (bring_up_cases a ctx routes log outcomes)

  -- its length
  pub bring_up_length : length (bring_up a ctx routes log outcomes).routes ≡ length routes
  unfolding with_route
  bring_up_length = go (bring_up a ctx routes log outcomes).routes bring_up_table
    where
      go : (r : List ℕ) → (r ≡ routes) ⊎ (r ≡ with_route routes a.slot 1 (control_ring a)) → length r ≡ length routes
      go r (inl e) = ap length e
      go r (inr e) = ap length e ∙ length-set routes (route_index a.slot 1) (control_ring a)

  -- and every word that is none of the slot's
  pub bring_up_outside : (k : ℕ) → OutsideSlot a.slot k →
      get_or (bring_up a ctx routes log outcomes).routes k 0 ≡ get_or routes k 0
  unfolding with_route
  bring_up_outside k h = go (bring_up a ctx routes log outcomes).routes bring_up_table
    where
      go : (r : List ℕ) → (r ≡ routes) ⊎ (r ≡ with_route routes a.slot 1 (control_ring a)) → get_or r k 0 ≡ get_or routes k 0
      go r (inl e) = ap (λ x. get_or x k 0) e
      go r (inr e) =
          ap (λ x. get_or x k 0) e
          ∙ get_or-set_other routes (route_index a.slot 1) k (control_ring a) 0 (λ p. index_inside a.slot 1 k (omega arith) h (sym p))

  sound_of : (l : Left) → Refused ctx routes log l ⊎ Run l → (l.device.usable ≡ false) ⊎ (sound l.device ≡ true)
  unfolding run brought_left no_device
  sound_of l (inl r) = inl (ap (λ (d : Device). d.usable) r.device)
  sound_of l (inr r) = go l.device.usable refl
    where
      go : (b : Bool) → l.device.usable ≡ b → (l.device.usable ≡ false) ⊎ (sound l.device ≡ true)
      go false e = inl e
      go true e =
          let same : l.device ≡ brought_record a (spacing_of (length ctx)) end = ap (λ (x : Left). x.device) r.left ∙ run_device in
          let yes : number end.answer ≡ 0 =
          usable_accepted a (spacing_of (length ctx)) end (sym (ap (λ (d : Device). d.usable) same) ∙ e) in
          inr (ap sound (ap (λ (x : Left). x.device) r.left) ∙ (run_accepted r.pass r.free yes).is_sound)

  -- the record is sound or not usable
  pub bring_up_sound :
      ((bring_up a ctx routes log outcomes).device.usable ≡ false) ⊎ (sound (bring_up a ctx routes log outcomes).device ≡ true)
  bring_up_sound = sound_of (bring_up a ctx routes log outcomes) (bring_up_cases a ctx routes log outcomes)

  -- with the checks passed, a header of eight bytes, a packet size of the speed and every outcome done it is accepted
  pub bring_up_done : bring_up_check a (length ctx) routes (length log) ≡ Pass → a.header ≡ 8 → exponent_ok a.speed a.packet ≡ true →
      AllDone outcomes 0 (8 + configurations a.list) → (bring_up a ctx routes log outcomes).answer ≡ answer.Accepted
  unfolding bring_up on_check brought_left played bring_up_course
  bring_up_done p e f h = rw p (address_done a (spacing_of (length ctx)) (with_route routes a.slot 1 (control_ring a)) outcomes h ctx e f)

-- the slot's own words after an accepted bring-up
module _ (a : BringUp) (ctx routes log : List ℕ) (l : Left) (b : BroughtUp a ctx routes log l) where
  -- control's
  pub brought_control : route_of l.routes a.slot 1 ≡ control_ring a
  unfolding route_of with_route route_index
  brought_control =
      rw b.table (get_or-set_same routes (32 * a.slot + 1) (control_ring a) 0 (omega (arith, b.pass.table, b.pass.slot_high)))

  -- and the others
  pub brought_others : (d : ℕ) → (d ≡ 1 → ⊥) → route_of l.routes a.slot d ≡ route_of routes a.slot d
  unfolding route_of with_route route_index
  brought_others d n =
      rw b.table (get_or-set_other routes (32 * a.slot + 1) (32 * a.slot + d) (control_ring a) 0 (λ p. n (omega arith)))

  -- control's ring is none that is 0
  pub brought_ring : control_ring a ≡ 0 → ⊥
  brought_ring = ring_nonzero (control_ring a) (control_ok a b.pass.rings)

-- the words that the course logs: at most eight, and one for each configuration
pub bring_up_words :
    (a : BringUp) (spacing : ℕ) (ctx routes o : List ℕ) →
    length (words o 0 (bring_up_course a spacing ctx routes)) ≤ 8 + configurations a.list
unfolding bring_up_course
bring_up_words a spacing ctx routes o = address_words a spacing (with_route routes a.slot 1 (control_ring a)) o ctx
