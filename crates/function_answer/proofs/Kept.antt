-- What is lent past the output keeps its contents, check by check.
use Prim.Native.Nat.{ℕ}
use mathlib.Core.Path.{refl}
use mathlib.Core.Bool.{Bool, true, false}
use mathlib.Core.List.{List}
use Rattle.std.proofs.Common.{Result, Ok, Err}
use Rattle.std.specs.Bool.{⊤}
use native.Mathlib.Omega.{arith}
use lib.Seq.{length-sets}
use Rattle.laws.proofs.Stores.{sets_past}
use Rattle.function_answer.specs.declared.Refusal.{Refusal}
use Rattle.function_answer.specs.Answer.{Left, count_of, leaves, accepts, unless, on_check, RestKept}

pub accepted_kept : (output buffer : List ℕ) → RestKept buffer (accepts output buffer)
unfolding count_of
accepted_kept output buffer =
    record {
      long = length-sets buffer 0 output;
      past = λ k h. sets_past output buffer 0 k (omega arith);
    }

pub refused_kept : (refusal : Refusal) (buffer : List ℕ) → RestKept buffer (leaves (Err refusal) buffer)
unfolding count_of
refused_kept refusal buffer = record { long = refl; past = λ k h. refl }

pub unless_kept : (holds : Bool) (refusal : Refusal) (buffer : List ℕ) (next : Left) → RestKept buffer next → RestKept buffer (unless holds refusal buffer next)
unless_kept true refusal buffer next n = n
unless_kept false refusal buffer next n = refused_kept refusal buffer

pub checked_kept : (check : Result ⊤ Refusal) (buffer : List ℕ) (next : Left) → RestKept buffer next → RestKept buffer (on_check check buffer next)
unfolding on_check
checked_kept (Ok _) buffer next n = n
checked_kept (Err refusal) buffer next n = refused_kept refusal buffer
