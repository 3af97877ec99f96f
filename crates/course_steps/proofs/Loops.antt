-- The loop that sends a command for each of some endpoints: a turn, and how it ends; what stopping and resuming make of it.
use Prim.Native.Nat.{ℕ, ◌+◌, ◌<◌, ◌≤◌}
use mathlib.Core.Path.{◌≡◌, refl, sym, ap, ◌∙◌}
use mathlib.Core.Logic.{inl, inr}
use mathlib.Core.List.{List, [], ◌∷◌, ◌++◌}
use native.Mathlib.Numerals.{add-one}
use native.Mathlib.Omega.{arith}
use types.Run.{OneOf}
use denote.Enum.Declared.{tag_of}
use lib.ListN.{length, get_or, drop, take, set, drop_of_length-le}
use lib.Seq.{drop-cons}
use Rattle.std.proofs.Math.Seq.{take-append_seam}
use Rattle.std.proofs.lemmas.List.{length-append, append_assoc}
use Rattle.command.specs.declared.Command.{Command}
use Rattle.command.specs.contracts.Sent.{the_type}
use Rattle.command.specs.declared.Sent.{Sent}
use Rattle.command.specs.declared.Sent.TheVariants.{Done, Failed, Cut}
use Rattle.command.specs.Command.{command_word, outcome_at, stop_command, resume_command}
use Rattle.command.specs.Course.{Course, ends, sends, on_sent, then, played}
use Rattle.command.specs.declared.Swept.{Swept}
use Rattle.command.specs.Sweep.{Sweep, swept, resume_from, undo_stops, stop_from, stop_endpoints, SweptAs}
use Rattle.command.proofs.Phases.{swept_on}
use Rattle.command.proofs.Laws.{played_ends, played_sends}
use Rattle.course_steps.specs.Each.{send_from}

-- A command that is not done failed or was cut: these, by their places in the enum.
pub unless_done : (s : Sent) → (s ≡ Done → ⊥) → OneOf (1 ∷ 2 ∷ []) (tag_of the_type s)
unless_done Done h = absurd (h refl)
unless_done (Failed code) h = inl refl
unless_done Cut h = inr refl

module _ (of : ℕ → Command) (ds o log ctx : List ℕ) (n i : ℕ) where
  -- the end where all are done
  pub each_end : length ds ≤ i → i ≤ length ds → played o (n + i) (send_from of ctx i (drop i ds)) log ≡
      record { end = swept Done (length ds); count = n + length ds; log = log }
  unfolding send_from
  each_end h k = let e : i ≡ length ds = omega arith in rw (← e, drop_of_length-le ds h) (played_ends _ _ _ _)

  module _ (log' : List ℕ) (c : Command) (s : Sent) (h : i < length ds) (ec : c ≡ of (get_or ds i 0)) (es : s ≡ outcome_at o (n + i))
      (el : log' ≡ set log (n + i) (command_word c)) where
    turn : played o (n + i) (send_from of ctx i (drop i ds)) log ≡
        played o (n + i + 1)
        (on_sent s (send_from of ctx (i + 1) (drop (i + 1) ds)) (λ code. ends (swept (Failed code) i)) (ends (swept Cut i))) log'
    unfolding send_from
    turn =
        let e : drop i ds ≡ get_or ds i 0 ∷ drop (i + 1) ds = rw (add-one i) (drop-cons ds i 0 h) in
        rw (e, el, es, ec) (played_sends _ _ _ _ _ _)

    -- a turn of the loop
    pub each_next : s ≡ Done → played o (n + i) (send_from of ctx i (drop i ds)) log ≡
        played o (n + (i + 1)) (send_from of ctx (i + 1) (drop (i + 1) ds)) log'
    unfolding on_sent
    each_next e = let next : n + (i + 1) ≡ n + i + 1 = omega arith in turn ∙ rw (e, next)

    -- its end where a command is not done
    pub each_left : (s ≡ Done → ⊥) → played o (n + i) (send_from of ctx i (drop i ds)) log ≡
        record { end = swept s i; count = n + i + 1; log = log' }
    unfolding on_sent
    each_left t = turn ∙ go s t
      where
        go : (s : Sent) → (s ≡ Done → ⊥) →
            played o (n + i + 1)
            (on_sent s (send_from of ctx (i + 1) (drop (i + 1) ds)) (λ code. ends (swept (Failed code) i)) (ends (swept Cut i))) log'
            ≡ record { end = swept s i; count = n + i + 1; log = log' }
        go Done t = absurd (t refl)
        go (Failed code) t = played_ends _ _ _ _
        go Cut t = played_ends _ _ _ _

-- resuming sends a Resume for each
pub each_resumed : (ctx ds : List ℕ) (a : ℕ) → send_from resume_command ctx a ds ≡ resume_from ctx a ds
unfolding send_from resume_from
each_resumed ctx [] a = refl
each_resumed ctx (d ∷ ds) a =
    ap
    (λ (rest : Course Sweep).
    sends (resume_command d) ctx (λ s. on_sent s rest (λ code. ends (swept (Failed code) a)) (ends (swept Cut a))))
    (each_resumed ctx ds (a + 1))

-- What comes after a Stop for each of some endpoints: those stopped are resumed where one failed.
unfoldable pub after_stops : List ℕ → List ℕ → Sweep → Course Sweep
after_stops ctx ds r = on_sent r.sent (ends (swept Done 0)) (undo_stops ctx (take r.active ds)) (ends (swept Cut 0))

-- stopping sends a Stop for each, and then that
pub each_stopped : (o ctx stopped ds log : List ℕ) (n : ℕ) →
    played o n (stop_from ctx stopped ds) log
    ≡ played o n (then (send_from stop_command ctx (length stopped) ds) (after_stops ctx (stopped ++ ds))) log
unfolding send_from stop_from then after_stops on_sent
each_stopped o ctx stopped [] log n = refl
each_stopped o ctx stopped (d ∷ ds) log n =
    played_sends o n (stop_command d) ctx _ log
    ∙ go (outcome_at o n) (set log n (command_word (stop_command d)))
    (λ log. each_stopped o ctx (stopped ++ (d ∷ [])) ds log (n + 1))
    ∙ sym (played_sends o n (stop_command d) ctx _ log)
  where
    go : (s : Sent) (log : List ℕ) →
        ((log : List ℕ) →
        played o (n + 1) (stop_from ctx (stopped ++ (d ∷ [])) ds) log
        ≡ played o (n + 1)
        (then (send_from stop_command ctx (length (stopped ++ (d ∷ []))) ds) (after_stops ctx ((stopped ++ (d ∷ [])) ++ ds))) log) →
        played o (n + 1) (on_sent s (stop_from ctx (stopped ++ (d ∷ [])) ds) (undo_stops ctx stopped) (ends (swept Cut 0))) log
        ≡ played o (n + 1)
        (then
        (on_sent s (send_from stop_command ctx (length stopped + 1) ds) (λ code. ends (swept (Failed code) (length stopped)))
        (ends (swept Cut (length stopped))))
        (after_stops ctx (stopped ++ (d ∷ ds)))) log
    go Done log rest =
        let e : length (stopped ++ (d ∷ [])) ≡ length stopped + 1 = length-append stopped (d ∷ []) in
        let f : (stopped ++ (d ∷ [])) ++ ds ≡ stopped ++ (d ∷ ds) = append_assoc stopped (d ∷ []) ds in
        rw (e, f) at (rest log)
    go (Failed code) log rest = rw (take-append_seam stopped (d ∷ ds))
    go Cut log rest = refl

module _ (o ctx ds log left : List ℕ) (n : ℕ) (r : Swept) (a : SweptAs r left (played o n (send_from stop_command ctx 0 ds) log)) where
  stops_on : played o n (stop_endpoints ctx ds) log ≡ played o r.count (after_stops ctx ds (swept r.sent r.active)) left
  unfolding stop_endpoints
  stops_on = each_stopped o ctx [] ds log n ∙ sym (swept_on o log n _ (after_stops ctx ds) a refl refl)

  -- where a stop fails, those already stopped are resumed
  pub stop_failed : (code : ℕ) → r.sent ≡ Failed code →
      played o n (stop_endpoints ctx ds) log ≡ played o r.count (undo_stops ctx (take r.active ds) code) left
  unfolding after_stops on_sent
  stop_failed code e = stops_on ∙ rw e

  -- otherwise stopping has ended
  pub stop_ended : ((code : ℕ) → r.sent ≡ Failed code → ⊥) →
      played o n (stop_endpoints ctx ds) log ≡ record { end = swept r.sent 0; count = r.count; log = left }
  unfolding after_stops on_sent
  stop_ended t = stops_on ∙ go r.sent t
    where
      go : (s : Sent) → ((code : ℕ) → s ≡ Failed code → ⊥) →
          played o r.count (after_stops ctx ds (swept s r.active)) left ≡ record { end = swept s 0; count = r.count; log = left }
      go Done t = played_ends _ _ _ _
      go (Failed code) t = absurd (t code refl)
      go Cut t = played_ends _ _ _ _
