-- What the steps of the code come to.
use Prim.Native.Nat.{ℕ, zero, suc, ◌+◌, ◌<◌, ◌≤◌, max}
use mathlib.Core.Path.{◌≡◌, refl, ap, ◌∙◌}
use mathlib.Core.Bool.{true, false, cond}
use mathlib.Core.List.{List, [], ◌∷◌, ◌++◌}
use native.Mathlib.Omega.{arith}
use native.Mathlib.Numerals.{add-one}
use lib.Dec.{eqb}
use lib.ListN.{length, drop, get_or, drop_of_length-le}
use lib.Seq.{drop-cons}
use Rattle.context_block.specs.Fields.{INTERFACE-NUMBER, ALTERNATE-SETTING, CONTEXT-ENTRIES}
use Rattle.context_block.specs.FieldWrite.{◌:=◌}
use Rattle.context_block.specs.Blocks.{changed, drop_flags, word_dci}
use Rattle.transfer.specs.Routes.{Queue, queues, ring_for}
use Rattle.context.specs.Place.{CONTROL, SLOT, in_block, written}
use Rattle.context.specs.Steps.{add_writes, add_all, highest_dci, word_dcis, context_entries, configure_writes}
use Rattle.context.proofs.Laws.{written_append, in_block_append}
use Rattle.laws.proofs.Stores.{get_d_second}

-- One turn of each loop.

ring_suc :
    (d : ℕ) (ds rs : List ℕ) (i v : ℕ) →
    i < length ds →
    ring_for d (drop i (queues ds rs)) v
    ≡ ring_for d (drop (suc i) (queues ds rs)) (cond (eqb (get_or ds i 0) d) (get_or rs i 0) v)
unfolding queues ring_for
ring_suc d [] rs i v h = absurd (omega arith)
ring_suc d (e ∷ ds) rs zero v h = refl
ring_suc d (e ∷ ds) rs (suc i) v h = rw (get_d_second rs i) (ring_suc d ds (drop 1 rs) i v (omega arith))

length_queues : (ds rs : List ℕ) → length (queues ds rs) ≡ length ds
unfolding queues
length_queues [] rs = refl
length_queues (d ∷ ds) rs = ap suc (length_queues ds (drop 1 rs))

-- One more queue looked at, of the endpoint or not.
module _ (d : ℕ) (ds rs : List ℕ) (i v : ℕ) where
  pub ring_taken :
      i < length ds →
      eqb (get_or ds i 0) d ≡ true →
      ring_for d (drop i (queues ds rs)) v ≡ ring_for d (drop (i + 1) (queues ds rs)) (get_or rs i 0)
  ring_taken h e = ring_suc d ds rs i v h ∙ rw (e, add-one i)

  pub ring_left :
      i < length ds →
      eqb (get_or ds i 0) d ≡ false →
      ring_for d (drop i (queues ds rs)) v ≡ ring_for d (drop (i + 1) (queues ds rs)) v
  ring_left h e = ring_suc d ds rs i v h ∙ rw (e, add-one i)

  pub ring_none : length ds ≤ i → ring_for d (drop i (queues ds rs)) v ≡ v
  unfolding ring_for
  ring_none h = let l : length (queues ds rs) ≤ i = rw (length_queues ds rs) h in rw (drop_of_length-le (queues ds rs) l)

pub highest_least : (ds : List ℕ) → 1 ≤ highest_dci ds
unfolding highest_dci
highest_least [] = omega arith
highest_least (d ∷ ds) = omega (arith, highest_least ds)

-- One more Dci compared.
pub highest_next :
    (ds : List ℕ) (i h h' : ℕ) →
    i < length ds →
    h' ≡ max h (get_or ds i 0) →
    max h (highest_dci (drop i ds)) ≡ max h' (highest_dci (drop (i + 1) ds))
unfolding highest_dci
highest_next ds i h h' l e = rw (add-one i, drop-cons ds i 0) (omega arith)

-- All Dcis compared.
pub highest_done : (ds : List ℕ) (i h : ℕ) → length ds ≤ i → 1 ≤ h → max h (highest_dci (drop i ds)) ≡ h
unfolding highest_dci
highest_done ds i h l e = rw (drop_of_length-le ds l) (omega arith)

pub word_dcis_length : (ws : List ℕ) → length (word_dcis ws) ≡ length ws
unfolding word_dcis
word_dcis_length [] = refl
word_dcis_length (w ∷ ws) = ap suc (word_dcis_length ws)

pub word_dcis_at : (ws : List ℕ) (i : ℕ) → i < length ws → get_or (word_dcis ws) i 0 ≡ word_dci (get_or ws i 0)
unfolding word_dcis
word_dcis_at [] i h = absurd (omega arith)
word_dcis_at (w ∷ ws) zero h = refl
word_dcis_at (w ∷ ws) (suc i) h = word_dcis_at ws i (omega arith)

-- One more word added.
pub add_next :
    (s speed : ℕ) (qs : List Queue) (ws ctx ctx' : List ℕ) (i : ℕ) →
    i < length ws →
    ctx' ≡ written s (add_writes speed qs (get_or ws i 0)) ctx →
    written s (add_all speed qs (drop i ws)) ctx ≡ written s (add_all speed qs (drop (i + 1) ws)) ctx'
unfolding add_all
add_next s speed qs ws ctx ctx' i h e =
    rw (e, add-one i, drop-cons ws i 0)
    (written_append s (add_writes speed qs (get_or ws i 0)) (add_all speed qs (drop (suc i) ws)) ctx)

-- The steps of `prepare_configure_context`.
pub configure_steps :
    (s speed interface alternate : ℕ) (dropped added : List ℕ) (qs : List Queue) (dcis ctx : List ℕ) →
    written s (configure_writes speed interface alternate dropped added qs dcis) ctx
    ≡ written s (in_block SLOT ((CONTEXT-ENTRIES := context_entries dropped dcis added) ∷ []))
    (written s (add_all speed qs added)
    (written s (in_block CONTROL (drop_flags dropped))
    (written s (in_block CONTROL (changed ++ ((INTERFACE-NUMBER := interface) ∷ (ALTERNATE-SETTING := alternate) ∷ []))) ctx)))
unfolding configure_writes changed
configure_steps s speed interface alternate dropped added qs dcis ctx =
    let chosen = changed ++ ((INTERFACE-NUMBER := interface) ∷ (ALTERNATE-SETTING := alternate) ∷ []) in
    rw (written_append, written_append, in_block_append CONTROL chosen (drop_flags dropped), written_append)
