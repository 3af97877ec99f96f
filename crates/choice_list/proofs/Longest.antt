-- An alternate without interrupt endpoints may be chosen whatever interval is named, or never.
use Rattle.std.specs.Prelude.{ℕ, suc, ◌≡◌, Bool, true, false, cond, List, [], ◌∷◌, eqb}
use mathlib.Core.Path.{refl}
use native.Mathlib.Omega.{arith}
use borrow.Author.Tests.{ne_eqb}
use Rattle.descriptor.specs.declared.TransferType.TheVariants.{Control, Isochronous, Bulk, Interrupt}
use Rattle.descriptor.specs.Word.{type_number, transfer_type, endpoint_descriptor}
use Rattle.choice_list.specs.Candidate.{short_as, is_short, all_short, words_at, is_candidate}
use Rattle.choice_list.specs.Promises.{NoInterrupt, LongestPromise}

short_plain : (speed longest w : ℕ) → (type_number w ≡ 3 → ⊥) → is_short speed longest w ≡ true
unfolding short_as is_short endpoint_descriptor transfer_type
short_plain speed longest w h = rw (ne_eqb (type_number w) 3 h) (go (eqb (type_number w) 1) (eqb (type_number w) 2) _)
  where
    go : (a b : Bool) (byte : ℕ) → short_as (cond a Isochronous (cond b Bulk (cond false Interrupt Control))) byte speed longest ≡ true
    go true b byte = refl
    go false true byte = refl
    go false false byte = refl

all_plain : (speed longest : ℕ) (ws : List ℕ) → NoInterrupt ws → all_short speed longest ws ≡ true
unfolding all_short NoInterrupt
all_plain speed longest [] h = refl
all_plain speed longest (w ∷ ws) h =
    rw (short_plain speed longest w (h 0 (omega arith)), all_plain speed longest ws (λ k b. h (suc k) (omega arith))) refl

longest_promise : LongestPromise
unfolding is_candidate
longest_promise list speed interface place one other h =
    rw (all_plain speed one (words_at list interface place) h, all_plain speed other (words_at list interface place) h) refl
