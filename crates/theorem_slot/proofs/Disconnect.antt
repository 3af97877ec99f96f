-- An unplugging keeps the invariant: where Disable is done the slot is empty, else it is as it was.
use Prim.Native.Nat.{ℕ, ◌≤◌}
use mathlib.Core.Path.{◌≡◌, refl, ◌∙◌, ap}
use mathlib.Core.Bool.{Bool, true, false, cond}
use mathlib.Core.List.{List}
use mathlib.Core.Logic.{inl, inr, ⊎_elim}
use native.Mathlib.Omega.{arith}
use borrow.Author.Tests.{ne_eqb, eqb-true}
use lib.Dec.{eqb}
use lib.ListN.{length}
use Rattle.laws.proofs.Cases.{Decided, decided, or_cases, or_right_false}
use Rattle.answer.specs.declared.Answer.{Answer}
use Rattle.answer.specs.declared.Answer.TheVariants as answer
use Rattle.answer.specs.Check.{Pass}
use Rattle.answer.specs.Answer.{number, is_accepted, is_broken, is_cut, is_lost}
use Rattle.command.specs.Course.{Course, words, result, played}
use Rattle.transfer.specs.Routes.{ring_for, without_slot}
use Rattle.transfer.proofs.Laws.{without_length, without_others, without_own}
use Rattle.record_endpoint.specs.declared.endpoint_map.Owner.TheVariants.{Any}
use Rattle.record_endpoint.specs.EndpointMap.{queues_of, queue_dcis, with_active}
use Rattle.record_endpoint.proofs.Laws.{queues_fit, active_rings}
use Rattle.course_steps.specs.End.{End, settings_moved}
use Rattle.course_steps.proofs.Laws.{length_dcis}
use Rattle.course_disconnect.specs.Disconnect.{disconnect_course}
use Rattle.course_disconnect.proofs.Ends.{Ended, disconnect_words, disconnect_ends, disconnect_cuts, disconnect_operands, disconnect_out, disconnect_enabled}
use Rattle.theorem_controller.specs.Controller.{DISABLE, enabled_after, done_word}
use Rattle.theorem_controller.proofs.Followed.{followed}
use Rattle.device.specs.declared.record.Device.{Device}
use Rattle.device.specs.Device.{endpoint_map_in, held_of}
use Rattle.device.specs.Left.{Left, refused, ended}
use Rattle.device.specs.Check.{disconnect_check}
use Rattle.device.specs.Disconnect.{unplugged, disconnect_record, disconnect}
use Rattle.device.proofs.Disconnected.{UpPassed, up_passed, disconnect_stays, disconnect_quarantined, disconnect_cut}
use Rattle.theorem_slot.specs.Call.{Buffers, disconnects, left, cut_at, context_cut}
use Rattle.theorem_slot.specs.Groups.{freed_groups, doubted_groups}
use Rattle.theorem_slot.specs.Plain.{Plain, is_unplugged, held_queues, plain_route, unplugs, effect_of, held_after, groups_after, emptied, anew, seen}
use Rattle.theorem_slot.specs.Theorem.{State}
use Rattle.theorem_slot.proofs.Good.{Down, Live, Good, Empty, Stands, Upheld, live_up}
use Rattle.theorem_slot.proofs.Step.{lost_not, checked, good_checked, mild_disconnect, ran, ran_anew, checked_anew, called_here}
use Rattle.theorem_slot.proofs.Ends.{Stayed, unplugging_stayed}
use Rattle.theorem_slot.proofs.Made.{fit_active, agree_made, made_same, byte_dcis}
use Rattle.theorem_slot.proofs.Record.{AgreeWith}
use Rattle.theorem_slot.proofs.Parted.{parted_freed}
use Rattle.theorem_slot.proofs.Moved.{agree_unplugged}

no_route : (p : Plain) (d : ℕ) → plain_route (emptied p) d ≡ 0
unfolding plain_route emptied held_queues ring_for
no_route p d = go (eqb d 1)
  where
    go : (b : Bool) → cond {A = ℕ} b 0 0 ≡ 0
    go true = refl
    go false = refl

-- 14 and 15 are no acceptance.
pub lost_refused : (a : Answer) → is_lost a ≡ true → is_accepted a ≡ false
lost_refused a e =
    ne_eqb (number a) 0
    (λ z. ⊎_elim (λ h. omega (arith, z, eqb-true (number a) 14 h)) (λ h. omega (arith, z, eqb-true (number a) 15 h)) (or_cases (is_broken a) (is_cut a) e))

module _ (slot : ℕ) (before : List ℕ) (s : State) (buffers : Buffers) (g : Good slot before s) where
  abbrev d : Device
  d = s.device

  abbrev o : List ℕ
  o = buffers.outcomes

  abbrev rings : List ℕ
  rings = (endpoint_map_in d).rings

  abbrev dcis : List ℕ
  dcis = queue_dcis (queues_of rings)

  course : Course End
  course = disconnect_course d.slot.0 dcis buffers.ctx s.routes

  end : End
  end = result o 0 course

  -- the state without, and with, what it makes of the slot as a whole
  next : State
  next = ran s unplugs buffers (disconnect_record d) course

  now : State
  now = ran_anew s unplugs buffers (disconnect_record d) course

  run : List ℕ → Left
  run outcomes = ended (disconnect_record d) (played outcomes 0 course buffers.log)

  refuse : Answer → Left
  refuse x = refused d x buffers.ctx s.routes buffers.log

  -- The log says whether Disable was done.
  log_tells : done_word DISABLE o 0 (words o 0 course) ≡ end.moved
  unfolding end course
  log_tells = disconnect_out d.slot.0 dcis buffers.ctx s.routes o 0 (byte_dcis rings)

  enabled_tells : followed enabled_after o 0 course s.plain.enabled ≡ cond end.moved (λ x. false) s.plain.enabled
  unfolding end course
  enabled_tells = disconnect_enabled d.slot.0 dcis buffers.ctx s.routes o 0 s.plain.enabled

  -- The checks passed.
  module _ (k : disconnect_check d (length buffers.ctx) (length s.routes) (length buffers.log) ≡ Pass) (l : Live slot d s.plain) where
    pass : UpPassed d (length buffers.ctx) (length s.routes) (length buffers.log)
    pass = up_passed d _ _ _ k

    module _ (t : end.moved ≡ true) (e : end ≡ settings_moved answer.Accepted buffers.ctx (without_slot s.routes d.slot.0)) where
      plain_now : now.plain ≡ emptied next.plain
      unfolding now next ran_anew anew
      plain_now = rw (log_tells, t)

      routes_now : now.routes ≡ without_slot s.routes slot
      unfolding now ran_anew ran end
      routes_now = ap (λ x. x.routes) e ∙ ap (without_slot s.routes) l.place

      down_now : Down now.device
      unfolding now ran_anew ran end disconnect_record unplugged
      down_now = rw t (refl, refl)

      off_now : (x : ℕ) → now.plain.enabled x ≡ false
      unfolding emptied next ran seen
      off_now x = ap (λ p. p.enabled x) plain_now ∙ ap (λ f. f x) enabled_tells ∙ rw t

      freed_next : (emptied next.plain).groups ≡ freed_groups s.plain.groups
      unfolding emptied next ran seen groups_after end number
      freed_next = rw (ap (λ (x : End). x.answer) e) refl

      emptied_stands : Empty slot before now
      unfolding emptied is_unplugged
      emptied_stands =
          record {
            phase = ap (λ p. is_unplugged p.phase) plain_now;
            table =
                record {
                  long = ap length routes_now ∙ without_length s.routes slot ∙ g.long;
                  words = λ i x. rw routes_now (without_others s.routes slot i x ∙ g.others i x);
                };
            room = g.room;
            down = down_now;
            none = rw routes_now (without_own s.routes slot (rw g.long g.room));
            plain = λ x. ap (λ p. plain_route p x) plain_now ∙ no_route next.plain x;
            parted = rw (ap (λ (p : Plain). p.groups) plain_now ∙ freed_next) (parted_freed s.plain.groups g.parted);
            off = off_now;
          }

    module _ (v : Stayed s.routes end) where
      now_next : now ≡ next
      unfolding now next ran_anew anew
      now_next = rw (log_tells, v.kept) refl

      upheld : Upheld s next
      unfolding next ran seen
      upheld = record { phase = refl; control = refl; on = ap (λ f. f 1) enabled_tells ∙ rw v.kept }

      next_groups : AgreeWith next.device next.plain.groups
      unfolding next ran seen groups_after end
      next_groups = go (decided (is_broken end.answer))
        where
          n : is_accepted end.answer ≡ false
          n = lost_refused end.answer v.lost

          go : Decided (is_broken end.answer) → AgreeWith next.device next.plain.groups
          go (inl b) =
              let same : next.plain.groups ≡ doubted_groups s.plain.groups = rw (n, b) refl in
              rw same
              (agree_unplugged d pass.is_sound s.plain.groups l.groups (disconnect_record d end) _ _ _ (disconnect_stays d _ _ _ k end v.kept v.lost)
              (active_rings Any (endpoint_map_in d) 0) (disconnect_quarantined d _ _ _ k end v.kept b))
          go (inr b) =
              let same : next.plain.groups ≡ s.plain.groups = rw (n, b) refl in
              rw same
              (agree_made d (disconnect_record d end) _ _ _ s.plain.groups (disconnect_stays d _ _ _ k end v.kept v.lost)
              (active_rings Any (endpoint_map_in d) 0) (disconnect_cut d _ _ _ k end v.kept b v.lost) l.groups)

      stayed_good : Good slot before next
      unfolding next ran seen held_after end
      stayed_good =
          made_same slot before s next g l (held_of d) (with_active Any 0 (endpoint_map_in d)) true
          (disconnect_stays d _ _ _ k end v.kept v.lost) upheld refl l.held
          (fit_active Any 0 (endpoint_map_in d) s.plain.held l.fits) next_groups v.left refl
          (λ b. lost_not end.answer v.lost (or_right_false s.plain.broken _ b))

    few : length (words o 0 course) ≤ length buffers.log
    unfolding course
    few =
        omega (
          arith,
          disconnect_words d.slot.0 dcis buffers.ctx s.routes o 0,
          length_dcis (queues_of rings),
          queues_fit rings,
          pass.room,
        )

    now_stands : Stands slot before now
    unfolding end course
    now_stands = go (disconnect_ends d.slot.0 dcis buffers.ctx s.routes o 0)
      where
        go : Ended d.slot.0 buffers.ctx s.routes end → Stands slot before now
        go (inl e) = inr (inl (emptied_stands (ap (λ x. x.moved) e) e))
        go (inr e) = let v = unplugging_stayed buffers.ctx s.routes end e in inl (rw (now_next v) (stayed_good v))

    run_stands : Stands slot before (checked s unplugs buffers Pass run refuse)
    unfolding run now course
    run_stands =
        rw (checked_anew s unplugs buffers (disconnect_record d) course refuse few
        (disconnect_cuts d.slot.0 dcis buffers.ctx s.routes)
        (disconnect_operands d.slot.0 dcis buffers.ctx s.routes (byte_dcis rings)))
        now_stands

  pub disconnect_stands : Stands slot before (called_here s (record { asked = disconnects; buffers = buffers }))
  unfolding called_here context_cut cut_at left effect_of disconnect checked run refuse course
  disconnect_stands =
      good_checked (Stands slot before) s unplugs buffers run buffers.ctx buffers.log _ (mild_disconnect d _ _ _) (inl g)
      (λ k. run_stands k (live_up slot before s g (up_passed d _ _ _ k).up))
