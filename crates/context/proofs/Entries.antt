-- Context Entries: what it is of, and the drop flags that tell which endpoints stay.
use Prim.Native.Nat.{ℕ, zero, suc, ◌+◌, ◌<◌, ◌≤◌, max}
use mathlib.Core.Path.{◌≡◌, refl, sym, ap, ◌∙◌}
use mathlib.Core.Bool.{Bool, true, false, cond, ◌||◌}
use mathlib.Core.Logic.{◌≢◌, ◌⊎◌, inl, inr, ⊎_elim}
use mathlib.Core.List.{List, [], ◌∷◌, ◌++◌}
use native.Mathlib.Decide.{dec_lt}
use native.Mathlib.Nat.{mul-zero}
use native.Mathlib.Omega.{arith}
use borrow.Author.Tests.{eqb-true, eq-eqb}
use lib.Dec.{eqb, lit<}
use lib.ListN.{length, get_or, take, drop, take-append-drop, drop_of_length-le}
use lib.Seq.{length-take-le, drop-cons}
use native.Mathlib.Numerals.{add-one}
use Rattle.laws.proofs.Cases.{Decided, decided, or_cases, or_left, or_right}
use Rattle.laws.proofs.Tests.{not_both}
use Rattle.context_field.specs.declared.Field.{Field}
use Rattle.context_field.specs.Field.{read_field, InBlock, apart}
use Rattle.context_field.proofs.Laws.{read_front}
use Rattle.context_block.specs.Fields.{DROP-FLAG, INTERFACE-NUMBER, ALTERNATE-SETTING, apart_from_all}
use Rattle.context_block.specs.FieldWrite.{FieldWrite, ◌:=◌, fields_written, inside, all_inside}
use Rattle.context_block.specs.Blocks.{changed, word_dci, some_dci, drop_flags}
use Rattle.context_block.specs.Promises.{fields_of}
use Rattle.context.specs.Place.{CONTROL, in_block, written, block_at, read_at, Spaced}
use Rattle.context.specs.Steps.{highest_dci, word_dcis, staying, context_entries}
use Rattle.context.specs.Promises.{EndpointDcis, Flagged, Stays, EntriesReads}
use Rattle.context.proofs.Laws.{written_length, of_block_same, block_length, block_written}
use Rattle.context.proofs.Control.{word_dci_small, flags, drop_flags_are, end_drop}
use Rattle.context.proofs.Steps.{highest_least}

-- The added words.

words_below : (d : ℕ) (ws : List ℕ) → some_dci d ws ≡ true → d ≤ highest_dci (word_dcis ws)
unfolding some_dci highest_dci word_dcis
words_below d [] e = not_both false e refl
words_below d (w ∷ ws) e =
    ⊎_elim (λ s. omega (arith, eqb-true (word_dci w) d s)) (λ s. omega (arith, words_below d ws s))
    (or_cases (eqb (word_dci w) d) (some_dci d ws) e)

words_fit_lem : (ws : List ℕ) → highest_dci (word_dcis ws) ≤ 31
unfolding highest_dci word_dcis
words_fit_lem [] = omega arith
words_fit_lem (w ∷ ws) = omega (arith, words_fit_lem ws, word_dci_small w)

words_reached : (ws : List ℕ) → (highest_dci (word_dcis ws) ≡ 1) ⊎ (some_dci (highest_dci (word_dcis ws)) ws ≡ true)
unfolding some_dci highest_dci word_dcis
words_reached [] = inl refl
words_reached (w ∷ ws) = go (dec_lt (word_dci w) (highest_dci (word_dcis ws))) (words_reached ws)
  where
    rest : ℕ
    rest = highest_dci (word_dcis ws)

    go : Dec (word_dci w < rest) → (rest ≡ 1) ⊎ (some_dci rest ws ≡ true) →
        (max (word_dci w) rest ≡ 1) ⊎ ((eqb (word_dci w) (max (word_dci w) rest) || some_dci (max (word_dci w) rest) ws) ≡ true)
    go (yes l) r =
        let m : max (word_dci w) rest ≡ rest = omega arith in
        ⊎_elim (λ e. inl (m ∙ e)) (λ e. inr (rw m (or_right (eqb (word_dci w) rest) (some_dci rest ws) e))) r
    go (no l) r =
        let m : max (word_dci w) rest ≡ word_dci w = omega arith in
        inr (rw m (or_left (eqb (word_dci w) (word_dci w)) (some_dci (word_dci w) ws) (eq-eqb (word_dci w) (word_dci w) refl)))

-- The record's endpoints that stay.
module _ (dropped : List ℕ) where
  stays_below : (ds : List ℕ) (i : ℕ) → i < length ds → some_dci (get_or ds i 0) dropped ≡ false → get_or ds i 0 ≤ highest_dci (staying dropped ds)
  unfolding staying highest_dci
  stays_below [] i l e = absurd (omega arith)
  stays_below (d ∷ ds) zero l e = rw e (omega arith)
  stays_below (d ∷ ds) (suc i) l e = go (some_dci d dropped) (stays_below ds i (omega arith) e)
    where
      go : (b : Bool) → get_or ds i 0 ≤ highest_dci (staying dropped ds) →
          get_or ds i 0 ≤ highest_dci (cond b (staying dropped ds) (d ∷ staying dropped ds))
      go true h = h
      go false h = omega (arith, h)

  stays_fit : (ds : List ℕ) → EndpointDcis ds → highest_dci (staying dropped ds) ≤ 31
  unfolding staying highest_dci
  stays_fit [] p = omega arith
  stays_fit (d ∷ ds) p = go (some_dci d dropped) (stays_fit ds (λ i l. p (suc i) (omega arith))) (p 0 (omega arith)).1
    where
      go : (b : Bool) → highest_dci (staying dropped ds) ≤ 31 → d < 32 → highest_dci (cond b (staying dropped ds) (d ∷ staying dropped ds)) ≤ 31
      go true h l = h
      go false h l = omega (arith, h)

  later : (d e : ℕ) (ds : List ℕ) → Stays dropped ds e → Stays dropped (d ∷ ds) e
  later d e ds h = (suc h.0, omega (arith, h.1), h.2, h.3)

  stays_reached : (ds : List ℕ) → (highest_dci (staying dropped ds) ≡ 1) ⊎ Stays dropped ds (highest_dci (staying dropped ds))
  unfolding staying highest_dci
  stays_reached [] = inl refl
  stays_reached (d ∷ ds) = go (decided (some_dci d dropped)) (dec_lt d rest) (stays_reached ds)
    where
      rest : ℕ
      rest = highest_dci (staying dropped ds)

      whole : ℕ
      whole = highest_dci (cond (some_dci d dropped) (staying dropped ds) (d ∷ staying dropped ds))

      behind : (rest ≡ 1) ⊎ Stays dropped ds rest → whole ≡ rest → (whole ≡ 1) ⊎ Stays dropped (d ∷ ds) whole
      behind r m = ⊎_elim (λ e. inl (m ∙ e)) (λ h. inr (rw m (later d rest ds h))) r

      go : Decided (some_dci d dropped) → Dec (d < rest) → (rest ≡ 1) ⊎ Stays dropped ds rest → (whole ≡ 1) ⊎ Stays dropped (d ∷ ds) whole
      go (inl e) l r = behind r (rw e refl)
      go (inr e) (yes l) r = behind r (rw e (omega (arith, l)))
      go (inr e) (no l) r =
          let m : whole ≡ d = rw e (omega (arith, l)) in
          inr (rw m (0, omega arith, refl, e))

pub entries_reads : (dropped dcis added : List ℕ) → EndpointDcis dcis → EntriesReads dropped dcis added (context_entries dropped dcis added)
unfolding context_entries
entries_reads dropped dcis added p =
    record {
      over_added = λ d e. omega (arith, words_below d added e);
      over_staying = λ d h. omega (arith, h.2, stays_below dropped dcis h.0 h.1 (rw h.2 h.3));
      least = omega (arith, highest_least (word_dcis added));
      reached = go (dec_lt s w);
      fits = omega (arith, words_fit_lem added, stays_fit dropped dcis p);
    }
  where
    s : ℕ
    s = highest_dci (staying dropped dcis)

    w : ℕ
    w = highest_dci (word_dcis added)

    go : Dec (s < w) → (max s w ≡ 1) ⊎ ((some_dci (max s w) added ≡ true) ⊎ Stays dropped dcis (max s w))
    go (yes l) =
        let m : max s w ≡ w = omega arith in
        ⊎_elim (λ e. inl (m ∙ e)) (λ e. inr (inl (rw m e))) (words_reached added)
    go (no l) =
        let m : max s w ≡ s = omega arith in
        ⊎_elim (λ e. inl (m ∙ e)) (λ h. inr (inr (rw m h))) (stays_reached dropped dcis)

-- The control block is the front of a context.
front_read : (s : ℕ) (ctx : List ℕ) (f : Field) → 32 ≤ length ctx → InBlock f → read_field ctx f ≡ read_at s ctx CONTROL f
unfolding read_at block_at
front_read s ctx f h i =
    let size : length (take 32 ctx) ≡ 32 = length-take-le 32 ctx h in
    rw (mul-zero s)
    (sym (ap (λ (l : List ℕ). read_field l f) (take-append-drop 32 ctx)) ∙ read_front (take 32 ctx) (drop 32 ctx) f (omega arith))

-- The flags of the words that were dropped, once the others are cleared.
pub flagged_after :
    (s interface alternate : ℕ) (dropped ctx begun done : List ℕ) → Spaced s (length ctx) →
    begun ≡ written s (in_block CONTROL (changed ++ ((INTERFACE-NUMBER := interface) ∷ (ALTERNATE-SETTING := alternate) ∷ []))) ctx →
    done ≡ written s (in_block CONTROL (drop_flags dropped)) begun →
    Flagged dropped done
unfolding apart apart_from_all fields_of all_inside inside flags fields_written read_at
flagged_after s interface alternate dropped ctx begun done spaced b e d two h =
    front_read s done (DROP-FLAG d) long (lit< tt, omega arith)
    ∙ ap (λ (l : List ℕ). read_field l (DROP-FLAG d)) block
    ∙ end_drop (block_at s ctx CONTROL) (block_length s CONTROL ctx spaced (omega arith)) chosen refl dropped [] (λ e. (refl, refl)) d two h
  where
    chosen : List FieldWrite
    chosen = (INTERFACE-NUMBER := interface) ∷ (ALTERNATE-SETTING := alternate) ∷ []

    long : 32 ≤ length done
    long = rw (e, written_length, b, written_length) (omega (arith, spaced.wide, spaced.room))

    block : block_at s done CONTROL ≡ fields_written (flags 0 dropped) (fields_written (changed ++ chosen) (block_at s ctx CONTROL))
    block =
        rw (
          e,
          block_written s spaced.wide (in_block CONTROL (drop_flags dropped)) begun CONTROL,
          of_block_same CONTROL (drop_flags dropped),
          drop_flags_are,
          b,
          block_written s spaced.wide (in_block CONTROL (changed ++ chosen)) ctx CONTROL,
          of_block_same CONTROL (changed ++ chosen),
        )

-- One more of the record's Dcis looked at.
module _ (dropped ctx ds : List ℕ) (i h flag : ℕ) (f : Flagged dropped ctx) (p : EndpointDcis ds) (l : i < length ds)
    (e : flag ≡ read_field ctx (DROP-FLAG (get_or ds i 0))) where
  abbrev from : ℕ → ℕ
  from k = highest_dci (staying dropped (drop k ds))

  next : staying dropped (drop i ds)
      ≡ cond (some_dci (get_or ds i 0) dropped) (staying dropped (drop (i + 1) ds)) (get_or ds i 0 ∷ staying dropped (drop (i + 1) ds))
  unfolding staying
  next = rw (add-one i, drop-cons ds i 0)

  told : flag ≡ cond (some_dci (get_or ds i 0) dropped) 1 0
  told = e ∙ f (get_or ds i 0) (p i l).0 (p i l).1

  -- it stays
  pub staying_next : flag ≡ 0 → max h (from i) ≡ max (max h (get_or ds i 0)) (from (i + 1))
  unfolding highest_dci
  staying_next z = go (decided (some_dci (get_or ds i 0) dropped))
    where
      go : Decided (some_dci (get_or ds i 0) dropped) → max h (from i) ≡ max (max h (get_or ds i 0)) (from (i + 1))
      go (inl t) = absurd (omega (arith, z, rw t at told))
      go (inr t) = rw (next, t) (omega arith)

  -- it is dropped
  pub dropped_next : flag ≢ 0 → max h (from i) ≡ max h (from (i + 1))
  dropped_next n = go (decided (some_dci (get_or ds i 0) dropped))
    where
      go : Decided (some_dci (get_or ds i 0) dropped) → max h (from i) ≡ max h (from (i + 1))
      go (inl t) = rw (next, t)
      go (inr t) = absurd (n (rw t at told))

pub staying_done : (dropped ds : List ℕ) (i h : ℕ) → length ds ≤ i → 1 ≤ h → max h (highest_dci (staying dropped (drop i ds))) ≡ h
unfolding staying highest_dci
staying_done dropped ds i h l e = rw (drop_of_length-le ds l) (omega (arith, e))

-- The staying and the added ones compared.
pub entries_made : (dropped dcis added : List ℕ) (highest entries : ℕ) →
    highest ≡ highest_dci (staying dropped dcis) → entries ≡ max highest (highest_dci (word_dcis added)) →
    entries ≡ context_entries dropped dcis added
unfolding context_entries
entries_made dropped dcis added highest entries h e = rw (← h) e
