-- The contexts of a bring-up.
use Prim.Native.Nat.{ℕ, ◌+◌, ◌^◌, ◌<◌}
use mathlib.Core.Path.{◌≡◌, refl}
use mathlib.Core.Bool.{Bool, true, false, cond}
use mathlib.Core.List.{List, []}
use native.Mathlib.Omega.{arith}
use lib.Dec.{eqb}
use lib.ListN.{length, get_or}
use Rattle.laws.proofs.Distinct.{elem_place}
use Rattle.record_ring.specs.Store.{least}
use Rattle.record_ring.proofs.Promises.{given_promise, least_promise}
use Rattle.def.specs.Speed.{is_super, header_packet_size}
use Rattle.def.proofs.Laws.{exponent_nine}
use Rattle.descriptor.specs.Word.{configuration_value}
use Rattle.descriptor_list.specs.Valid.{configurations}
use Rattle.descriptor_list.proofs.Companions.{listed}
use Rattle.transfer.specs.Routes.{with_route}
use Rattle.answer.specs.declared.Answer.TheVariants as answer
use Rattle.answer.specs.Check.{Pass}
use Rattle.command.specs.declared.Command.{Command}
use Rattle.command.specs.declared.Command.TheVariants as command
use Rattle.command.proofs.Reached.{CutHere, dones_before, dones_past, fails_before, fails_there, fails_past}
use Rattle.context.specs.Promises.{ConfigurationReads, ConfigureReads}
use Rattle.course_set_configuration.specs.SetConfiguration.{drop_context, restore_context, value_context}
use Rattle.course_init.specs.Reading.{BringUp, control_ring, nothing_read, Brought, brought}
use Rattle.course_init.specs.Init.{HeaderRead, bring_up_address}
use Rattle.course_init.proofs.Contexts.{addressed, sized, settings, ended_here, bring_up_at_address, bring_up_at_packet, bring_up_at_configure, bring_up_at_restore, bring_up_at_evaluate, bring_up_address_reads, bring_up_packet_reads, bring_up_configure_reads, bring_up_restore_reads, bring_up_evaluate_reads}
use Rattle.device.specs.Calls.{on_check}
use Rattle.context.specs.Place.{spacing_of}
use Rattle.device_bring_up.specs.BringUp.{queue_check, bring_up_check, bring_up_course, brought_left, bring_up}
use Rattle.device_bring_up.proofs.Checks.{Passed, passed}
use Rattle.theorem_contexts.specs.Contexts.{Byte, BusAddresses, done_times, failed_after, SentAt, size_said, BringUpReads, BringUpContexts}
use Rattle.theorem_contexts.proofs.Ended.{cut_count, cut_word, cut_end}

size_said_lem : (a : BringUp) → HeaderRead a → size_said a ≡ header_packet_size a.speed a.packet
unfolding size_said header_packet_size
size_said_lem a e = go (is_super a.speed) refl
  where
    go : (t : Bool) → is_super a.speed ≡ t →
        cond t 512 (cond (eqb a.packet 0) 8 a.packet) ≡ cond t (2 ^ a.packet) (cond (eqb a.packet 0) 8 a.packet)
    go true s = rw (exponent_nine a.speed a.packet s e.1)
    go false s = refl

-- What it leaves.
module _ (a : BringUp) (ctx routes log o : List ℕ) (pass : bring_up_check a (length ctx) routes (length log) ≡ Pass) (n : ℕ) (c : Command) (e : Brought)
    (x : CutHere o (bring_up_address a (spacing_of (length ctx)) ctx (with_route routes a.slot 1 (control_ring a))) n c e) where
  left_context : (bring_up a ctx routes log o).ctx ≡ e.ctx
  unfolding bring_up bring_up_course on_check brought_left
  left_context = rw (pass, cut_end o log _ n c e x)

  left_at : (P : List ℕ → Type 0) → n < length log → P e.ctx → SentAt n c P (bring_up a ctx routes log o)
  unfolding bring_up bring_up_course on_check brought_left
  left_at P h p =
      rw pass
      (record {
        count = cut_count o log _ n c e x;
        word = cut_word o log _ n c e x h;
        reads = rw (cut_end o log _ n c e x) p;
      })

module _ (a : BringUp) (ctx routes log : List ℕ) (pass : bring_up_check a (length ctx) routes (length log) ≡ Pass)
    (byte-port : Byte a.port) (byte-root : Byte a.root_port) (byte-packet : Byte a.packet) (from : BusAddresses a.rings) where
  facts : Passed a (length ctx) (length routes) (length log)
  unfolding bring_up_check
  facts = (passed a (length ctx) (length routes) (length log) (queue_check a routes) pass).0

  -- the lowest is one of them
  ring : control_ring a < 2 ^ 64
  unfolding control_ring
  ring =
      let t = elem_place (least a.rings) a.rings ((least_promise a.rings).of_them ((given_promise a.rings).0 facts.rings).some) in
      rw (← t.2) (from t.0)

  few : 7 + configurations a.list < length log
  few = omega (arith, facts.room, (listed a.speed a.list facts.list).few)

  s : ℕ
  s = spacing_of (length ctx)

  table : List ℕ
  table = with_route routes a.slot 1 (control_ring a)

  dropped : List ℕ
  dropped = drop_context (settings a s ctx table) (sized a s ctx table)

  one_cut : CutHere [] (bring_up_address a s ctx table) 0 command.Address (brought answer.Cut nothing_read (addressed a s ctx table) table)
  one_cut = bring_up_at_address a s ctx table [] (dones_past 0)

  module _ (e : HeaderRead a) where
    two_cut : CutHere (done_times 2) (bring_up_address a s ctx table) 2 command.Evaluate (brought answer.Cut nothing_read (sized a s ctx table) table)
    two_cut = bring_up_at_packet a s ctx table (done_times 2) (λ k l m. dones_before 2 k (omega arith)) e (dones_past 2)

    module _ (some : 0 < length a.list) where
      n : ℕ
      n = configurations a.list

      three_cut : CutHere (done_times (5 + n)) (bring_up_address a s ctx table) (5 + n) command.Configure (ended_here a s ctx table dropped)
      unfolding n dropped
      three_cut = bring_up_at_configure a s ctx table (done_times (5 + n)) e some (λ k l m. dones_before (5 + n) k (omega arith)) (dones_past (5 + n))

      restore_cut : (code : ℕ) → (code ≡ 0 → ⊥) →
          CutHere (failed_after (6 + n) code) (bring_up_address a s ctx table) (7 + n) command.Configure
          (ended_here a s ctx table (restore_context (settings a s ctx table) dropped))
      unfolding n dropped
      restore_cut code z =
          bring_up_at_restore a s ctx table (failed_after (6 + n) code) e some code (λ k l m. fails_before (6 + n) code k (omega arith))
          (fails_there (6 + n) code z)
          (let m : 6 + n + 1 ≡ 7 + n = omega arith in rw m at (fails_past (6 + n) code))

      evaluate_cut : CutHere (done_times (7 + n)) (bring_up_address a s ctx table) (7 + n) command.Evaluate
          (ended_here a s ctx table (value_context (settings a s ctx table) dropped))
      unfolding n dropped
      evaluate_cut = bring_up_at_evaluate a s ctx table (done_times (7 + n)) e some (λ k l m. dones_before (7 + n) k (omega arith)) (dones_past (7 + n))

      two_context : (bring_up a ctx routes log (done_times 2)).ctx ≡ sized a s ctx table
      unfolding s table
      two_context = left_context a ctx routes log (done_times 2) pass 2 _ _ two_cut

      three_context : (bring_up a ctx routes log (done_times (5 + n))).ctx ≡ dropped
      unfolding s table ended_here
      three_context = left_context a ctx routes log (done_times (5 + n)) pass (5 + n) _ _ three_cut

      configure : SentAt (5 + n) command.Configure (ConfigureReads s a.speed 0 0 [] [] [] [] (bring_up a ctx routes log (done_times 2)).ctx)
          (bring_up a ctx routes log (done_times (5 + n)))
      unfolding s table dropped n ended_here
      configure =
          left_at a ctx routes log (done_times (5 + n)) pass (5 + n) _ _ three_cut _ (omega (arith, few))
          (rw two_context (bring_up_configure_reads a s ctx table facts.spaced))

      restore : (code : ℕ) → (code ≡ 0 → ⊥) →
          SentAt (5 + n + 2) command.Configure (ConfigureReads s a.speed 0 0 [] [] [] [] (bring_up a ctx routes log (done_times (5 + n))).ctx)
          (bring_up a ctx routes log (failed_after (5 + n + 1) code))
      unfolding s table n ended_here dropped
      restore code z =
          let one : 5 + n + 1 ≡ 6 + n = omega arith in
          let two : 5 + n + 2 ≡ 7 + n = omega arith in
          rw (one, two, three_context)
          (left_at a ctx routes log (failed_after (6 + n) code) pass (7 + n) _ _ (restore_cut code z) _ few (bring_up_restore_reads a s ctx table facts.spaced))

      evaluate : SentAt (5 + n + 2) command.Evaluate
          (ConfigurationReads s (configuration_value (get_or a.list 0 0)) (bring_up a ctx routes log (done_times (5 + n))).ctx)
          (bring_up a ctx routes log (done_times (5 + n + 2)))
      unfolding s table n ended_here dropped
      evaluate =
          let two : 5 + n + 2 ≡ 7 + n = omega arith in
          rw (two, three_context)
          (left_at a ctx routes log (done_times (7 + n)) pass (7 + n) _ _ evaluate_cut _ few (bring_up_evaluate_reads a s ctx table facts.spaced))

  one_context : (bring_up a ctx routes log []).ctx ≡ addressed a s ctx table
  unfolding s table
  one_context = left_context a ctx routes log [] pass 0 _ _ one_cut

  bring_up_reads : BringUpReads a (spacing_of (length ctx)) (λ outcomes. bring_up a ctx routes log outcomes)
  unfolding s table n
  bring_up_reads =
      record {
        address =
            left_at a ctx routes log [] pass 0 _ _ one_cut _ (omega (arith, few))
            (bring_up_address_reads a s ctx table facts.spaced facts.speed facts.chain byte-port byte-root ring);
        packet = λ e.
            left_at a ctx routes log (done_times 2) pass 2 _ _ (two_cut e) _ (omega (arith, few)) (rw (one_context, size_said_lem a e) (bring_up_packet_reads a s ctx table facts.spaced byte-packet e));
        configure = configure;
        restore = λ code z e some. restore e some code z;
        evaluate = evaluate;
      }

pub bring_up_contexts : BringUpContexts
bring_up_contexts = bring_up_reads
