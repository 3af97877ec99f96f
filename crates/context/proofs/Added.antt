-- The writes of a Configure, block by block.
use Prim.Native.Nat.{ℕ, ◌+◌, ◌<◌, ◌≤◌}
use mathlib.Core.Path.{◌≡◌, refl, ap, ◌∙◌}
use mathlib.Core.Bool.{Bool, true, false, cond, ◌||◌}
use mathlib.Core.List.{List, [], ◌∷◌, ◌++◌, append_assoc, append-nil}
use native.Mathlib.Omega.{arith}
use borrow.Author.Tests.{eqb-false, eq-eqb, ne_eqb}
use lib.Dec.{eqb}
use lib.ListN.{length}
use Rattle.laws.proofs.Cases.{or_right, or_left_false, or_right_false}
use Rattle.descriptor.specs.Word.{endpoint_descriptor}
use Rattle.transfer.specs.Routes.{Queue, ring_for}
use Rattle.context_block.specs.Fields.{DROP-FLAG, ADD-FLAG, INTERFACE-NUMBER, ALTERNATE-SETTING, CONTEXT-ENTRIES, apart_from_all}
use Rattle.context_field.specs.Field.{apart}
use Rattle.context_block.specs.FieldWrite.{FieldWrite, ◌:=◌, fields_written, inside, all_inside}
use Rattle.context_block.specs.Blocks.{changed, drop_flags, endpoint_fields, word_dci, some_dci}
use Rattle.context_block.specs.Promises.{fields_of}
use Rattle.context_block.proofs.Laws.{fields_written_append}
use Rattle.context.specs.Place.{Write, CONTROL, SLOT, in_block, of_block, written, block_at, read_at, OutsideBlock, Spaced}
use Rattle.context.specs.Steps.{add_writes, add_all, context_entries, configure_writes}
use Rattle.context.proofs.Laws.{of_block_append, of_block_same, of_block_other, block_written, block_length, Untouched, untouched_append, untouched_block}
use Rattle.context.proofs.Control.{flag, flags, drop_flags_are, end_drop, end_add}

-- An added word is looked for by its Dci.

some_first : (w : ℕ) (ws : List ℕ) → some_dci (word_dci w) (w ∷ ws) ≡ true
unfolding some_dci
some_first w ws = rw (eq-eqb (word_dci w) (word_dci w) refl)

some_rest : (d w : ℕ) (ws : List ℕ) → some_dci d ws ≡ true → some_dci d (w ∷ ws) ≡ true
unfolding some_dci
some_rest d w ws e = or_right (eqb (word_dci w) d) (some_dci d ws) e

-- A word of a list.
pub some_in : (xs ys : List ℕ) (w : ℕ) → some_dci (word_dci w) (xs ++ (w ∷ ys)) ≡ true
some_in [] ys w = some_first w ys
some_in (x ∷ xs) ys w = some_rest (word_dci w) x (xs ++ (w ∷ ys)) (some_in xs ys w)

module _ (speed : ℕ) (qs : List Queue) where
  -- The settings that an added word makes in the control block, and in its own.
  flag_of : ℕ → List FieldWrite
  flag_of w = (ADD-FLAG (word_dci w) := 1) ∷ []

  unfoldable pub endpoint_of : ℕ → List FieldWrite
  endpoint_of w = endpoint_fields speed (endpoint_descriptor w) (ring_for (word_dci w) qs 0)

  add_at :
      (b w : ℕ) →
      of_block b (add_writes speed qs w) ≡ of_block b (in_block CONTROL (flag_of w)) ++ of_block b (in_block (word_dci w + 1) (endpoint_of w))
  unfolding add_writes flag_of endpoint_of
  add_at b w = of_block_append b (in_block CONTROL (flag_of w)) (in_block (word_dci w + 1) (endpoint_of w))

  add_control : (w : ℕ) → of_block CONTROL (add_writes speed qs w) ≡ flag_of w
  unfolding flag_of
  add_control w =
      let n : eqb (word_dci w + 1) CONTROL ≡ false = ne_eqb (word_dci w + 1) CONTROL (omega arith) in
      add_at CONTROL w ∙ rw (of_block_same CONTROL (flag_of w), of_block_other CONTROL (word_dci w + 1) (endpoint_of w) n)

  add_none : (d w : ℕ) → eqb (word_dci w) d ≡ false → of_block (d + 1) (add_writes speed qs w) ≡ []
  add_none d w n =
      let c : eqb CONTROL (d + 1) ≡ false = ne_eqb CONTROL (d + 1) (omega arith) in
      let e : eqb (word_dci w + 1) (d + 1) ≡ false = ne_eqb (word_dci w + 1) (d + 1) (λ e. eqb-false (word_dci w) d n (omega arith)) in
      add_at (d + 1) w ∙ rw (of_block_other (d + 1) CONTROL (flag_of w) c, of_block_other (d + 1) (word_dci w + 1) (endpoint_of w) e)

  add_own : (w : ℕ) → of_block (word_dci w + 1) (add_writes speed qs w) ≡ endpoint_of w
  add_own w =
      let b = word_dci w + 1 in
      let c : eqb CONTROL b ≡ false = ne_eqb CONTROL b (omega arith) in
      add_at b w ∙ rw (of_block_other b CONTROL (flag_of w) c, of_block_same b (endpoint_of w))

  added_control : (ws : List ℕ) → of_block CONTROL (add_all speed qs ws) ≡ flags 1 ws
  unfolding add_all of_block flags flag flag_of
  added_control [] = refl
  added_control (w ∷ ws) =
      of_block_append CONTROL (add_writes speed qs w) (add_all speed qs ws) ∙ rw (add_control w, added_control ws)

  -- The block of a Dci that no word has.
  pub added_none : (d : ℕ) (ws : List ℕ) → some_dci d ws ≡ false → of_block (d + 1) (add_all speed qs ws) ≡ []
  unfolding add_all of_block some_dci
  added_none d [] n = refl
  added_none d (w ∷ ws) n =
      let first = or_left_false (eqb (word_dci w) d) (some_dci d ws) n in
      let rest = or_right_false (eqb (word_dci w) d) (some_dci d ws) n in
      of_block_append (d + 1) (add_writes speed qs w) (add_all speed qs ws) ∙ rw (add_none d w first, added_none d ws rest)

  added_append : (xs ys : List ℕ) → add_all speed qs (xs ++ ys) ≡ add_all speed qs xs ++ add_all speed qs ys
  unfolding add_all
  added_append [] ys = refl
  added_append (w ∷ xs) ys = rw (added_append xs ys, append_assoc)

  -- The block of a word that is the last of its Dci.
  added_last :
      (xs ys : List ℕ) (w : ℕ) →
      some_dci (word_dci w) ys ≡ false →
      of_block (word_dci w + 1) (add_all speed qs (xs ++ (w ∷ ys))) ≡ of_block (word_dci w + 1) (add_all speed qs xs) ++ endpoint_of w
  unfolding add_all
  added_last xs ys w n =
      let b = word_dci w + 1 in
      ap (of_block b) (added_append xs (w ∷ ys))
      ∙ of_block_append b (add_all speed qs xs) (add_writes speed qs w ++ add_all speed qs ys)
      ∙ rw (of_block_append b (add_writes speed qs w) (add_all speed qs ys), add_own w, added_none (word_dci w) ys n, append-nil)

  added_untouched :
      (s k : ℕ) (ws : List ℕ) →
      OutsideBlock s CONTROL k →
      ((d : ℕ) → some_dci d ws ≡ true → OutsideBlock s (d + 1) k) →
      Untouched s k (add_all speed qs ws)
  unfolding add_all add_writes Untouched flag_of endpoint_of
  added_untouched s k [] c h = tt
  added_untouched s k (w ∷ ws) c h =
      let own : OutsideBlock s (word_dci w + 1) k = h (word_dci w) (some_first w ws) in
      untouched_append s k (add_writes speed qs w) (add_all speed qs ws)
      (untouched_append s k (in_block CONTROL (flag_of w)) (in_block (word_dci w + 1) (endpoint_of w))
      (untouched_block s k CONTROL (flag_of w) c) (untouched_block s k (word_dci w + 1) (endpoint_of w) own))
      (added_untouched s k ws c (λ d e. h d (some_rest d w ws e)))

module _ (speed interface alternate : ℕ) (dropped added : List ℕ) (qs : List Queue) (dcis : List ℕ) where
  abbrev writes : List Write
  writes = configure_writes speed interface alternate dropped added qs dcis

  -- The interface and its alternate setting.
  abbrev pub chosen : List FieldWrite
  chosen = (INTERFACE-NUMBER := interface) ∷ (ALTERNATE-SETTING := alternate) ∷ []

  -- Context Entries.
  abbrev pub entries : List FieldWrite
  entries = (CONTEXT-ENTRIES := context_entries dropped dcis added) ∷ []

  abbrev controls : List FieldWrite
  controls = changed ++ ((INTERFACE-NUMBER := interface) ∷ (ALTERNATE-SETTING := alternate) ∷ drop_flags dropped)

  configure_at :
      (b : ℕ) →
      of_block b writes
      ≡ of_block b (in_block CONTROL controls) ++ (of_block b (add_all speed qs added) ++ of_block b (in_block SLOT entries))
  unfolding configure_writes
  configure_at b =
      of_block_append b (in_block CONTROL controls) (add_all speed qs added ++ in_block SLOT entries)
      ∙ rw (of_block_append b (add_all speed qs added) (in_block SLOT entries))

  pub configure_slot : some_dci 0 added ≡ false → of_block SLOT writes ≡ entries
  configure_slot n =
      configure_at SLOT ∙ rw (of_block_other SLOT CONTROL controls refl, added_none speed qs 0 added n, of_block_same SLOT entries)

  pub configure_endpoint : (d : ℕ) → 1 ≤ d → of_block (d + 1) writes ≡ of_block (d + 1) (add_all speed qs added)
  configure_endpoint d h =
      let c : eqb CONTROL (d + 1) ≡ false = ne_eqb CONTROL (d + 1) (omega arith) in
      let sl : eqb SLOT (d + 1) ≡ false = ne_eqb SLOT (d + 1) (omega arith) in
      configure_at (d + 1)
      ∙ rw (of_block_other (d + 1) CONTROL controls c, of_block_other (d + 1) SLOT entries sl, append-nil)

  configure_control : of_block CONTROL writes ≡ controls ++ flags 1 added
  configure_control =
      configure_at CONTROL
      ∙ rw (of_block_same CONTROL controls, of_block_other CONTROL SLOT entries refl, append-nil, added_control speed qs added)

  module _ (s : ℕ) (ctx : List ℕ) where
    -- The control block: flags cleared, the chosen fields, the drop flags, the add flags.
    pub control_after :
        32 ≤ s →
        block_at s (written s writes ctx) CONTROL
        ≡ fields_written (flags 1 added) (fields_written (flags 0 dropped) (fields_written (changed ++ chosen) (block_at s ctx CONTROL)))
    unfolding fields_written changed
    control_after wide =
        block_written s wide writes ctx CONTROL
        ∙ rw (configure_control, fields_written_append controls (flags 1 added), drop_flags_are)

    -- The block of a word that is the last of its Dci: over what the words before it left.
    pub last_after :
        32 ≤ s →
        (xs ys : List ℕ) (w : ℕ) →
        added ≡ xs ++ (w ∷ ys) →
        some_dci (word_dci w) ys ≡ false →
        1 ≤ word_dci w →
        let b = word_dci w + 1 in
        block_at s (written s writes ctx) b ≡ fields_written (endpoint_of speed qs w) (block_at s (written s (add_all speed qs xs) ctx) b)
    last_after wide xs ys w e n one =
        let b = word_dci w + 1 in
        block_written s wide writes ctx b
        ∙ rw (
          configure_endpoint (word_dci w) one,
          e,
          added_last speed qs xs ys w n,
          fields_written_append (of_block b (add_all speed qs xs)),
          block_written s wide (add_all speed qs xs) ctx b,
        )

    pub configure_untouched :
        (k : ℕ) →
        OutsideBlock s CONTROL k →
        OutsideBlock s SLOT k →
        ((d : ℕ) → some_dci d added ≡ true → OutsideBlock s (d + 1) k) →
        Untouched s k writes
    unfolding configure_writes
    configure_untouched k c sl h =
        untouched_append s k (in_block CONTROL controls) (add_all speed qs added ++ in_block SLOT entries)
        (untouched_block s k CONTROL controls c)
        (untouched_append s k (add_all speed qs added) (in_block SLOT entries) (added_untouched speed qs s k added c h)
        (untouched_block s k SLOT entries sl))

    module _ (spaced : Spaced s (length ctx)) (d : ℕ) (two : 2 ≤ d) (h : d < 32) where
      size : length (block_at s ctx CONTROL) ≡ 32
      size = block_length s CONTROL ctx spaced (omega arith)

      -- A drop flag is set exactly if a dropped word has its Dci.
      pub drop_flag_reads : read_at s (written s writes ctx) CONTROL (DROP-FLAG d) ≡ cond (some_dci d dropped) 1 0
      unfolding read_at apart apart_from_all fields_of all_inside inside
      drop_flag_reads =
          rw (control_after spaced.wide)
          (end_drop (block_at s ctx CONTROL) size chosen refl dropped added (λ e. (refl, refl)) d two h)

      -- An add flag exactly if an added word has it.
      pub add_flag_reads : read_at s (written s writes ctx) CONTROL (ADD-FLAG d) ≡ cond (some_dci d added) 1 0
      unfolding read_at apart apart_from_all fields_of all_inside inside
      add_flag_reads =
          rw (control_after spaced.wide)
          (end_add (block_at s ctx CONTROL) size chosen refl dropped added (λ e. (refl, refl)) d h
          ∙ rw (ne_eqb d 0 (omega arith)))
