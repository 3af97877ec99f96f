-- The words that a call logged.
use Prim.Native.Nat.{ℕ, ◌+◌, ◌≤◌, ◌<◌}
use mathlib.Core.Path.{◌≡◌, sym, ◌∙◌}
use mathlib.Core.List.{List}
use native.Mathlib.Omega.{arith}
use lib.ListN.{length, take, length-take}
use lib.Seq.{sets, length-sets, get_or-take, ext_get_or, take-length}
use Rattle.command.specs.Course.{Course, words, played}
use Rattle.laws.proofs.Stores.{sets_there}

-- The first of some words stored from the front of a log that has room for them.
pub stored_first : (m : ℕ) (ws log : List ℕ) → m ≤ length ws → length ws ≤ length log → take m (sets log 0 ws) ≡ take m ws
stored_first m ws log g h =
    let l : length (take m (sets log 0 ws)) ≡ m = length-take m (sets log 0 ws) ∙ rw (length-sets log 0 ws) (omega arith) in
    let n : length (take m ws) ≡ m = length-take m ws ∙ omega arith in
    ext_get_or 0 (take m (sets log 0 ws)) (take m ws) (l ∙ sym n)
    (λ k x.
    let y : k < m = omega arith in
    let z : 0 + k ≡ k = omega arith in
    get_or-take m (sets log 0 ws) k 0 y ∙ (rw z at (sets_there ws log 0 k (omega arith) (omega arith))) ∙ sym (get_or-take m ws k 0 y))

-- And all of them.
pub stored : (ws log : List ℕ) → length ws ≤ length log → take (length ws) (sets log 0 ws) ≡ ws
stored ws log h = stored_first (length ws) ws log (omega arith) h ∙ take-length ws

-- The log up to its count is the words of the course.
pub taken_words :
    {A : Type 0} (o : List ℕ) (c : Course A) (log : List ℕ) → length (words o 0 c) ≤ length log →
    take (played o 0 c log).count (played o 0 c log).log ≡ words o 0 c
unfolding played
taken_words o c log h =
    let z : 0 + length (words o 0 c) ≡ length (words o 0 c) = omega arith in rw z (stored (words o 0 c) log h)
