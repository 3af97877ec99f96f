-- Two bring-ups that agree on what was read before a command send the same one: by what they leave where they are cut there.
use Prim.Native.Nat.{ℕ, ◌+◌, ◌<◌, ◌≤◌}
use mathlib.Core.Path.{◌≡◌, sym, ap, ◌∙◌}
use mathlib.Core.List.{List}
use native.Mathlib.Omega.{arith}
use native.Mathlib.Decide.{dec_lt}
use lib.ListN.{length, take, length-take}
use lib.Seq.{take-take}
use Rattle.course_init.specs.Reading.{BringUp}
use Rattle.device.specs.declared.record.Device.{Device}
use Rattle.device.specs.Left.{Left}
use Rattle.theorem_slot.specs.Call.{Buffers, Asked, brings_up, Call, left, cut_at, context_cut}
use Rattle.theorem_slot.proofs.Contexts.{contexts_agree}
use Rattle.theorem_slot.proofs.CutShort.{cuts_agree}
use Rattle.theorem_slot.proofs.Surplus.{surplus_unread}
use Rattle.theorem_driver.specs.Driven.{Guess, guessing, Right, SameCommand, CommandsUnguessed}
use Rattle.theorem_driver.proofs.Unread.{guesses_unread}

-- what is right before command i is right before any command before it
right_before : (a : BringUp) (g : Guess) (i j : ℕ) → j ≤ i → Right a g i → Right a g j
right_before a g i j l r =
    record {
      header = λ h. r.header (omega arith);
      value = λ h. r.value (omega arith);
      device = λ h. r.device (omega arith);
      config = λ k h. r.config k (omega arith);
    }

module _ (x y : Asked) (b : Buffers) (d : Device) (routes : List ℕ) (i : ℕ) where
  abbrev call : Asked → Call
  call z = record { asked = z; buffers = b }

  -- a call that is cut at command i sends it where it is not cut, too
  more : (left y (cut_at i b) d routes).count ≡ i + 1 → i < (left y b d routes).count
  unfolding cut_at
  more e = go (dec_lt i (left y b d routes).count)
    where
      go : Dec (i < (left y b d routes).count) → i < (left y b d routes).count
      go (yes h) = h
      go (no h) =
          let j = (left y b d routes).count in
          let l : j ≤ i = omega arith in
          let twice : cut_at j (cut_at i b) ≡ cut_at j b =
          ap (λ o. record { ctx = b.ctx; log = b.log; outcomes = o }) (take-take j i b.outcomes l) in
          let c : (left y (cut_at j b) d routes).count ≡ j + 1 =
          rw twice at (cuts_agree (record { asked = y; buffers = cut_at i b }) d routes j (omega (arith, e))).count in
          let s : (left y (cut_at j b) d routes).count ≡ j =
          ap (λ (l : Left). l.count) (surplus_unread (record { asked = y; buffers = b }) d routes) in
          absurd (omega (arith, c, s))

  -- two that leave the same where they are cut there
  same_command : left y (cut_at i b) d routes ≡ left x (cut_at i b) d routes → i < (left x b d routes).count → SameCommand i x y b d routes
  unfolding context_cut
  same_command e h =
      let c = cuts_agree (call x) d routes i h in
      let s : i < (left y b d routes).count = more (ap (λ (l : Left). l.count) e ∙ c.count) in
      let t = cuts_agree (call y) d routes i s in
      record {
        sent = s;
        words = sym t.words ∙ ap (λ (l : Left). take (i + 1) l.log) e ∙ c.words;
        context =
            sym (contexts_agree (call y) d routes i s) ∙ ap (λ (l : Left). l.ctx) e ∙ contexts_agree (call x) d routes i h;
      }

pub commands_unguessed : CommandsUnguessed
unfolding cut_at
commands_unguessed a g b d routes i v w right h =
    same_command (brings_up a) (brings_up (guessing a g)) b d routes i
    (guesses_unread a g (cut_at i b) d routes v w
    (right_before a g i (length (take i b.outcomes)) (let l = length-take i b.outcomes in omega (arith, l)) right))
    h
