-- What a course leaves: its words, its end, its log.
use Prim.Native.Nat.{ℕ, suc, ◌+◌, ◌<◌, ◌≤◌}
use mathlib.Core.Path.{◌≡◌, ap, ◌∙◌}
use mathlib.Core.List.{List, [], ◌++◌}
use native.Mathlib.Numerals.{add-one}
use native.Mathlib.Nat.{add-zero}
use native.Mathlib.Omega.{arith}
use lib.ListN.{length, get_or, set}
use lib.Seq.{length-sets}
use Rattle.laws.proofs.Stores.{sets_past, sets_there}
use Rattle.command.specs.declared.Command.{Command}
use Rattle.command.specs.declared.Sent.{Sent}
use Rattle.command.specs.Command.{command_word, outcome_at}
use Rattle.command.specs.Course.{Course, ends, sends, then, words, result, played}

module _ {A : Type 0} (o : List ℕ) (n : ℕ) where
  -- a course that has ended leaves count and log as they are
  pub played_ends : (a : A) (log : List ℕ) → played o n (ends a) log ≡ record { end = a; count = n; log = log }
  unfolding played words result
  played_ends a log = rw add-zero

  -- a command's word is logged, and the course goes on by its outcome
  pub played_sends : (c : Command) (ctx : List ℕ) (k : Sent → Course A) (log : List ℕ) →
      played o n (sends c ctx k) log ≡ played o (n + 1) (k (outcome_at o n)) (set log n (command_word c))
  unfolding played words result
  played_sends c ctx k log =
      let ws : List ℕ = words o (n + 1) (k (outcome_at o n)) in
      let e : n + suc (length ws) ≡ n + 1 + length ws = omega arith in
      rw (e, add-one n)

-- the words of one course after the other
pub words_then : {A B : Type 0} (o : List ℕ) (n : ℕ) (c : Course A) (f : A → Course B) →
    words o n (then c f) ≡ words o n c ++ words o (n + length (words o n c)) (f (result o n c))
unfolding words result then
words_then o n (ends a) f = rw add-zero
words_then o n (sends c ctx k) f =
    let ws : List ℕ = words o (n + 1) (k (outcome_at o n)) in
    let e : n + suc (length ws) ≡ n + 1 + length ws = omega arith in
    rw (e, words_then o (n + 1) (k (outcome_at o n)) f)

-- what they leave: the second goes on from what the first left
pub played_then : {A B : Type 0} (o : List ℕ) (n : ℕ) (c : Course A) (f : A → Course B) (log : List ℕ) →
    played o n (then c f) log ≡
    played o (played o n c log).count (f (played o n c log).end) (played o n c log).log
unfolding then
played_then o n (ends a) f log = rw (played_ends o n a log)
played_then o n (sends c ctx k) f log =
    played_sends o n c ctx (λ s. then (k s) f) log ∙
    played_then o (n + 1) (k (outcome_at o n)) f (set log n (command_word c)) ∙ rw (played_sends o n c ctx k log)

-- how they end
pub result_then : {A B : Type 0} (o : List ℕ) (n : ℕ) (c : Course A) (f : A → Course B) →
    result o n (then c f) ≡ result o (n + length (words o n c)) (f (result o n c))
unfolding played
result_then o n c f = ap (λ p. p.end) (played_then o n c f [])

module _ {A : Type 0} (o : List ℕ) (n : ℕ) (c : Course A) (log : List ℕ) where
  -- a course keeps the log's length
  pub log_length : length (played o n c log).log ≡ length log
  unfolding played
  log_length = length-sets log n (words o n c)

  -- and the words past its count
  pub log_kept : (k : ℕ) → (played o n c log).count ≤ k → get_or (played o n c log).log k 0 ≡ get_or log k 0
  unfolding played
  log_kept k h = sets_past (words o n c) log n k h

  -- and logs its own before that
  pub log_word : (i : ℕ) → i < length (words o n c) → n + length (words o n c) ≤ length log →
      get_or (played o n c log).log (n + i) 0 ≡ get_or (words o n c) i 0
  unfolding played
  log_word i h l = sets_there (words o n c) log n i h l
