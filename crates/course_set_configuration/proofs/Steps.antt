-- What the steps of the code come to: the endpoint words of one held setting after the other.
use Prim.Native.Nat.{ℕ, suc, ◌+◌, ◌-◌, ◌<◌, ◌≤◌, max}
use mathlib.Core.Path.{◌≡◌, refl, sym, ap, ◌∙◌}
use mathlib.Core.List.{List, [], ◌∷◌, ◌++◌, append_assoc}
use native.Mathlib.Omega.{arith}
use native.Mathlib.Nat.{add-zero, sub-zero}
use lib.ListN.{length, drop, get_or}
use lib.Seq.{drop-drop, get_or-drop}
use Rattle.context_block.specs.Fields.{DROP-FLAG, INTERFACE-NUMBER, ALTERNATE-SETTING, CONTEXT-ENTRIES}
use Rattle.context_block.specs.FieldWrite.{FieldWrite, ◌:=◌}
use Rattle.context_block.specs.Blocks.{changed, word_dci, drop_flags}
use Rattle.transfer.specs.Routes.{Queue, queues}
use Rattle.context.specs.Place.{CONTROL, SLOT, in_block, written, Spaced}
use Rattle.context.specs.Steps.{add_all, highest_dci, word_dcis, staying, context_entries, configure_writes}
use Rattle.context.specs.Promises.{Flagged}
use Rattle.context.proofs.Laws.{written_append, in_block_append}
use Rattle.context.proofs.Steps.{highest_least, configure_steps}
use Rattle.context.proofs.Entries.{flagged_after, entries_made}
use Rattle.course_steps.specs.Arrays.{dcis_in, rings_in, queues_in}
use Rattle.course_steps.proofs.Laws.{dcis_in_lem}
use Rattle.record_settings.specs.Held.{held_in, held_by, setting_words, held_words}
use Rattle.course_set_configuration.specs.declared.run.SettingsArgs.{SettingsArgs}
use Rattle.course_set_configuration.specs.SetConfiguration.{settings_of, drop_context, restore_context}

-- Words of which some come first.

-- their drop flags
pub drop_flags_append : (x y : List ℕ) → drop_flags (x ++ y) ≡ drop_flags x ++ drop_flags y
unfolding drop_flags
drop_flags_append [] y = refl
drop_flags_append (w ∷ x) y = ap (λ (l : List FieldWrite). (DROP-FLAG (word_dci w) := 1) ∷ l) (drop_flags_append x y)

-- what adding them writes
pub add_all_append : (speed : ℕ) (qs : List Queue) (x y : List ℕ) →
    add_all speed qs (x ++ y) ≡ add_all speed qs x ++ add_all speed qs y
unfolding add_all
add_all_append speed qs [] y = refl
add_all_append speed qs (w ∷ x) y = rw (add_all_append speed qs x y, append_assoc)

highest_append : (x y : List ℕ) → highest_dci (word_dcis (x ++ y)) ≡ max (highest_dci (word_dcis x)) (highest_dci (word_dcis y))
unfolding highest_dci word_dcis
highest_append [] y = omega (arith, highest_least (word_dcis y))
highest_append (w ∷ x) y = omega (arith, highest_append x y)

-- The words of the held settings from number i on.
abbrev pub words_from : List ℕ → List ℕ → List ℕ → ℕ → ℕ → List ℕ
words_from list interfaces alternates n i = held_words list (held_in (n - i) (drop i interfaces) (drop i alternates))

-- none added yet
pub add_start : (list interfaces alternates : List ℕ) (n s speed : ℕ) (qs : List Queue) (ctx : List ℕ) →
    written s (add_all speed qs (held_words list (held_in n interfaces alternates))) ctx
    ≡ written s (add_all speed qs (words_from list interfaces alternates n 0)) ctx
add_start list interfaces alternates n s speed qs ctx = rw sub-zero

-- none compared yet
pub compare_start : (list interfaces alternates : List ℕ) (n m : ℕ) →
    max m (highest_dci (word_dcis (held_words list (held_in n interfaces alternates))))
    ≡ max m (highest_dci (word_dcis (words_from list interfaces alternates n 0)))
compare_start list interfaces alternates n m = rw sub-zero

module _ (list interfaces alternates : List ℕ) (n i : ℕ) where
  rest : ℕ → List ℕ
  rest = words_from list interfaces alternates n

  next : List ℕ
  next = setting_words list (get_or interfaces i 0) (get_or alternates i 0)

  held_next : i < n → rest i ≡ next ++ rest (i + 1)
  unfolding rest next held_words held_in
  held_next h =
      let e : n - i ≡ suc (n - (i + 1)) = omega arith in
      rw (e, get_or-drop, get_or-drop, drop-drop, drop-drop, add-zero)

  module _ (words : List ℕ) (h : i < n) (ew : words ≡ setting_words list (get_or interfaces i 0) (get_or alternates i 0)) where
    -- one more setting's words dropped
    pub drop_next : (s : ℕ) (ctx ctx' : List ℕ) → ctx' ≡ written s (in_block CONTROL (drop_flags words)) ctx →
        written s (in_block CONTROL (drop_flags (words_from list interfaces alternates n i))) ctx
        ≡ written s (in_block CONTROL (drop_flags (words_from list interfaces alternates n (i + 1)))) ctx'
    unfolding rest next
    drop_next s ctx ctx' e = rw (held_next h, drop_flags_append, in_block_append, written_append, e, ew)

    -- added
    pub add_next : (s speed : ℕ) (qs : List Queue) (ctx ctx' : List ℕ) → ctx' ≡ written s (add_all speed qs words) ctx →
        written s (add_all speed qs (words_from list interfaces alternates n i)) ctx
        ≡ written s (add_all speed qs (words_from list interfaces alternates n (i + 1))) ctx'
    unfolding rest next
    add_next s speed qs ctx ctx' e = rw (held_next h, add_all_append, written_append, e, ew)

    -- compared
    pub compare_next : (m m' : ℕ) → m' ≡ max m (highest_dci (word_dcis words)) →
        max m (highest_dci (word_dcis (words_from list interfaces alternates n i)))
        ≡ max m' (highest_dci (word_dcis (words_from list interfaces alternates n (i + 1))))
    unfolding rest next
    compare_next m m' e = rw (held_next h, ← ew) (omega (arith, e, highest_append words (rest (i + 1))))

  module _ (h : n ≤ i) where
    held_end : rest i ≡ []
    unfolding rest held_words held_in
    held_end = let e : n - i ≡ 0 = omega arith in rw e

    -- all settings' words dropped
    drop_end : (s : ℕ) (ctx : List ℕ) →
        written s (in_block CONTROL (drop_flags (words_from list interfaces alternates n i))) ctx ≡ ctx
    unfolding rest written in_block drop_flags
    drop_end s ctx = rw held_end

    -- added
    add_end : (s speed : ℕ) (qs : List Queue) (ctx : List ℕ) →
        written s (add_all speed qs (words_from list interfaces alternates n i)) ctx ≡ ctx
    unfolding rest written add_all
    add_end s speed qs ctx = rw held_end

    -- compared
    compare_end : (m : ℕ) → 1 ≤ m → max m (highest_dci (word_dcis (words_from list interfaces alternates n i))) ≡ m
    unfolding rest highest_dci word_dcis
    compare_end m l = rw held_end (omega arith)

none_added : (s speed : ℕ) (qs : List Queue) (ctx : List ℕ) → written s (add_all speed qs []) ctx ≡ ctx
unfolding written add_all
none_added s speed qs ctx = refl

none_dropped : (s : ℕ) (ctx : List ℕ) → written s (in_block CONTROL (drop_flags [])) ctx ≡ ctx
unfolding written in_block drop_flags
none_dropped s ctx = refl

module _ (s speed : ℕ) (words dcis ctx : List ℕ) where
  -- the steps of a Configure for no interface that only drops
  drop_steps :
      written s (configure_writes speed 0 0 words [] [] dcis) ctx
      ≡ written s (in_block SLOT ((CONTEXT-ENTRIES := context_entries words dcis []) ∷ []))
      (written s (in_block CONTROL (drop_flags words))
      (written s (in_block CONTROL (changed ++ ((INTERFACE-NUMBER := 0) ∷ (ALTERNATE-SETTING := 0) ∷ []))) ctx))
  drop_steps = configure_steps s speed 0 0 words [] [] dcis ctx ∙ rw none_added

  -- and of one that only adds
  restore_steps : (qs : List Queue) →
      written s (configure_writes speed 0 0 [] words qs dcis) ctx
      ≡ written s (in_block SLOT ((CONTEXT-ENTRIES := context_entries [] dcis words) ∷ []))
      (written s (add_all speed qs words)
      (written s (in_block CONTROL (changed ++ ((INTERFACE-NUMBER := 0) ∷ (ALTERNATE-SETTING := 0) ∷ []))) ctx))
  restore_steps qs = configure_steps s speed 0 0 [] words qs dcis ctx ∙ rw none_dropped

-- The context of a Configure, where the held settings' words are dropped or added one setting after the other.
module _
    (a : SettingsArgs) (list ctx begun done left : List ℕ) (i entries : ℕ) (h : a.held.count ≤ i) (spaced : Spaced a.spacing (length ctx))
    (begins :
    begun
    ≡ written a.spacing (in_block CONTROL (changed ++ ((INTERFACE-NUMBER := 0) ∷ (ALTERNATE-SETTING := 0) ∷ []))) ctx)
    (finishes : left ≡ written a.spacing (in_block SLOT ((CONTEXT-ENTRIES := entries) ∷ [])) done) (least : 1 ≤ entries) where
  abbrev words : List ℕ
  words = held_words list (held_by a.held)

  -- all dropped
  pub dropped :
      written a.spacing (in_block CONTROL (drop_flags words)) begun
      ≡ written a.spacing (in_block CONTROL (drop_flags (words_from list a.held.interfaces a.held.alternates a.held.count i))) done →
      ((dropped : List ℕ) → Flagged dropped done → entries ≡ highest_dci (staying dropped (dcis_in a.old))) →
      left ≡ drop_context (settings_of a list) ctx
  unfolding drop_context highest_dci word_dcis
  dropped d e =
      let all = d ∙ drop_end list a.held.interfaces a.held.alternates a.held.count i h a.spacing done in
      let flags = flagged_after a.spacing 0 0 words ctx begun done spaced begins (sym all) in
      let made = entries_made words (dcis_in a.old) [] entries entries (e words flags) (omega (arith, least)) in
      rw (drop_steps, dcis_in_lem, ← begins, all, ← made) finishes

  -- all added again
  pub added : (ds rs : List ℕ) (first : ℕ) →
      written a.spacing (add_all a.speed (queues ds rs) words) begun
      ≡ written a.spacing (add_all a.speed (queues ds rs) (words_from list a.held.interfaces a.held.alternates a.held.count i)) done →
      ((dropped : List ℕ) → Flagged dropped begun → first ≡ highest_dci (staying dropped ds)) →
      max first (highest_dci (word_dcis words))
      ≡ max entries (highest_dci (word_dcis (words_from list a.held.interfaces a.held.alternates a.held.count i))) →
      ds ≡ dcis_in a.old → rs ≡ rings_in a.old → left ≡ restore_context (settings_of a list) ctx
  unfolding restore_context queues_in
  added ds rs first w e m d r =
      let all = w ∙ add_end list a.held.interfaces a.held.alternates a.held.count i h a.spacing a.speed (queues ds rs) done in
      let flags = flagged_after a.spacing 0 0 [] ctx begun begun spaced begins (sym (none_dropped a.spacing begun)) in
      let most = m ∙ compare_end list a.held.interfaces a.held.alternates a.held.count i h entries least in
      let made = entries_made [] ds words first entries (e [] flags) (sym most) in
      rw (restore_steps, dcis_in_lem, ← d, ← r, ← begins, all, ← made) finishes
