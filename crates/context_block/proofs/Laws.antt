-- Laws of settings: what callers use of a block after some of them.
use Prim.Native.Nat.{ℕ, ◌+◌, ◌<◌, ◌≤◌}
use mathlib.Core.Path.{◌≡◌, refl, sym, ap, ◌∙◌}
use mathlib.Core.Logic.{◌≢◌, ◌⊎◌, inl, inr}
use mathlib.Core.Bool.{Bool, true, false, cond, ◌&&◌, ◌||◌, not, or-true}
use mathlib.Core.List.{List, [], ◌∷◌, ◌++◌}
use native.Mathlib.Decide.{dec_lt, ℕ_discrete}
use native.Mathlib.Omega.{arith}
use borrow.Author.Tests.{ltb-true, leb-true, eq-eqb, ne_eqb, le-leb}
use lib.Dec.{eqb, leb, ltb, lit<}
use lib.ListN.{length}
use Rattle.laws.proofs.Cases.{or_cases}
use Rattle.laws.proofs.Tests.{and_left, and_right, and-true, not_both}
use Rattle.context_field.specs.declared.Field.{Field}
use Rattle.context_field.specs.Field.{read_field, write_field, InBlock, apart, within, read_after, Bytes}
use Rattle.context_field.proofs.Laws.{apart_true, within_true, bit_cases, length_write_field, bytes_write_field, read_apart, read_back, read_write}
use Rattle.context_block.specs.FieldWrite.{FieldWrite, fields_written, after_field_writes, inside, all_inside, clear_cut}
use Rattle.context_block.specs.Fields.{apart_from_all}
use Rattle.context_block.specs.Promises.{Holds, fields_of, Leaves}

-- Settings of which some come first.
pub fields_written_append : (a b : List FieldWrite) (block : List ℕ) → fields_written (a ++ b) block ≡ fields_written b (fields_written a block)
unfolding fields_written
fields_written_append [] b block = refl
fields_written_append (s ∷ a) b block = fields_written_append a b (write_field block s.field s.value)

-- The block keeps its length.
pub fields_written_length : (ss : List FieldWrite) (block : List ℕ) → length (fields_written ss block) ≡ length block
unfolding fields_written
fields_written_length [] block = refl
fields_written_length (s ∷ ss) block =
    fields_written_length ss (write_field block s.field s.value) ∙ length_write_field block s.field s.value

-- It stays one of bytes.
pub fields_written_bytes : (ss : List FieldWrite) (block : List ℕ) → Bytes block → Bytes (fields_written ss block)
unfolding fields_written
fields_written_bytes [] block h = h
fields_written_bytes (s ∷ ss) block h =
    fields_written_bytes ss (write_field block s.field s.value) (bytes_write_field block s.field s.value h)

-- What a field holds after settings of which some come first.
pub after_append :
    (a b : List FieldWrite) (g : Field) (old : ℕ) → after_field_writes (a ++ b) g old ≡ after_field_writes b g (after_field_writes a g old)
unfolding after_field_writes
after_append [] b g old = refl
after_append (s ∷ a) b g old = after_append a b g (read_after s.field s.value g old)

-- What the test of a field says.
pub inside_true : (f : Field) → inside f ≡ true → InBlock f
unfolding inside
inside_true f e = (
  ltb-true f.word 8 (and_left (ltb f.word 8) (leb (f.low + f.width) 32) e),
  leb-true (f.low + f.width) 32 (and_right (ltb f.word 8) (leb (f.low + f.width) 32) e),
)

-- A single bit is apart from each field that is set, or lies in it.
pub bit_clear : (ss : List FieldWrite) (g : Field) → g.width ≡ 1 → clear_cut ss g ≡ true
unfolding clear_cut
bit_clear [] g e = refl
bit_clear (s ∷ ss) g e = and-true (apart s.field g || within g s.field) (clear_cut ss g) (go (bit_cases s.field g e)) (bit_clear ss g e)
  where
    go : (apart s.field g ≡ true) ⊎ (within g s.field ≡ true) → (apart s.field g || within g s.field) ≡ true
    go (inl a) = rw a
    go (inr a) = rw a (or-true (apart s.field g))

module _ (g : Field) (in_g : InBlock g) where
  -- What a field reads after some settings.
  pub read_fields_written :
      (ss : List FieldWrite) (b : List ℕ) →
      length b ≡ 32 →
      all_inside ss ≡ true →
      clear_cut ss g ≡ true →
      read_field (fields_written ss b) g ≡ after_field_writes ss g (read_field b g)
  unfolding fields_written after_field_writes all_inside clear_cut
  read_fields_written [] b size i e = refl
  read_fields_written (s ∷ ss) b size i e =
      let f = s.field in
      read_fields_written ss (write_field b f s.value) (length_write_field b f s.value ∙ size) (and_right (inside f) (all_inside ss) i)
      (and_right (apart f g || within g f) (clear_cut ss g) e)
      ∙ ap (after_field_writes ss g)
      (read_write b f s.value size (inside_true f (and_left (inside f) (all_inside ss) i)) g in_g
      (or_cases (apart f g) (within g f) (and_left (apart f g || within g f) (clear_cut ss g) e)))

  -- What a single bit reads.
  pub bit_fields_written :
      (ss : List FieldWrite) (b : List ℕ) →
      length b ≡ 32 →
      all_inside ss ≡ true →
      g.width ≡ 1 →
      read_field (fields_written ss b) g ≡ after_field_writes ss g (read_field b g)
  bit_fields_written ss b size i e = read_fields_written ss b size i (bit_clear ss g e)

-- Each listed field lies in a block, and is apart from each field that is set or lies in it.
unfoldable pub clear : List FieldWrite → List FieldWrite → Bool
clear ss [] = true
clear ss (h ∷ hs) = inside h.field && (clear_cut ss h.field && clear ss hs)

-- A field lies in a listed one.
unfoldable pub lies_in : Field → List FieldWrite → Bool
lies_in f [] = false
lies_in f (h ∷ hs) = within f h.field || lies_in f hs

-- Each field that is set lies in a listed one.
unfoldable pub covered : List FieldWrite → List FieldWrite → Bool
covered [] hs = true
covered (s ∷ ss) hs = lies_in s.field hs && covered ss hs

-- Each listed value is what its field holds after the settings.
unfoldable pub Follow : List FieldWrite → List ℕ → List FieldWrite → Type 0
Follow ss block [] = Unit {0}
Follow ss block (h ∷ hs) = (after_field_writes ss h.field (read_field block h.field) ≡ h.value) × Follow ss block hs

named_follow :
    (ss : List FieldWrite) (block : List ℕ) (hs : List FieldWrite) →
    length block ≡ 32 →
    all_inside ss ≡ true →
    clear ss hs ≡ true →
    Follow ss block hs →
    Holds (fields_written ss block) hs
unfolding clear Follow Holds
named_follow ss block [] size i c f = tt
named_follow ss block (h ∷ hs) size i c f =
    let rest = and_right (inside h.field) (clear_cut ss h.field && clear ss hs) c in (
      read_fields_written h.field (inside_true h.field (and_left _ (clear_cut ss h.field && clear ss hs) c)) ss block size i
          (and_left (clear_cut ss h.field) (clear ss hs) rest)
          ∙ f.0,
      named_follow ss block hs size i (and_right (clear_cut ss h.field) (clear ss hs) rest) f.1,
    )

-- Fields that share no bit, as `apart_true` says it.
pub apart_from :
    (f g : Field) →
    (f.word ≢ g.word) ⊎ (f.low + f.width ≤ g.low) ⊎ (g.low + g.width ≤ f.low) →
    apart f g ≡ true
unfolding apart
apart_from f g (inl n) = rw (ne_eqb f.word g.word n)
apart_from f g (inr (inl n)) = rw (le-leb (f.low + f.width) g.low n) (or-true (not (eqb f.word g.word)))
apart_from f g (inr (inr n)) =
    rw (le-leb (g.low + g.width) f.low n, or-true (leb (f.low + f.width) g.low))
    (or-true (not (eqb f.word g.word)))

-- What lies in a field is apart from what that field is apart from.
pub apart_part : (f g h : Field) → apart g h ≡ true → within f h ≡ true → apart f g ≡ true
apart_part f g h a w = apart_from f g (go (apart_true g h a) (within_true h f w))
  where
    go :
        (g.word ≢ h.word) ⊎ (g.low + g.width ≤ h.low) ⊎ (h.low + h.width ≤ g.low) →
        (h.word ≡ f.word) × (h.low ≤ f.low) × (f.low + f.width ≤ h.low + h.width) →
        (f.word ≢ g.word) ⊎ (f.low + f.width ≤ g.low) ⊎ (g.low + g.width ≤ f.low)
    go (inl n) e = inl (omega arith)
    go (inr (inl n)) e = inr (inr (omega arith))
    go (inr (inr n)) e = inr (inl (omega arith))

apart_listed : (f g : Field) (hs : List FieldWrite) → apart_from_all g (fields_of hs) ≡ true → lies_in f hs ≡ true → apart f g ≡ true
unfolding apart_from_all fields_of lies_in
apart_listed f g [] a w = not_both true refl (sym w)
apart_listed f g (h ∷ hs) a w = go (or_cases (within f h.field) (lies_in f hs) w) (apart_listed f g hs)
  where
    go :
        (within f h.field ≡ true) ⊎ (lies_in f hs ≡ true) →
        (apart_from_all g (fields_of hs) ≡ true → lies_in f hs ≡ true → apart f g ≡ true) →
        apart f g ≡ true
    go (inl e) k = apart_part f g h.field (and_left (apart g h.field) (apart_from_all g (fields_of hs)) a) e
    go (inr e) k = k (and_right (apart g h.field) (apart_from_all g (fields_of hs)) a) e

module _ (g : Field) (in_g : InBlock g) (hs : List FieldWrite) (a : apart_from_all g (fields_of hs) ≡ true) where
  others_kept :
      (ss : List FieldWrite) (block : List ℕ) →
      length block ≡ 32 →
      all_inside ss ≡ true →
      covered ss hs ≡ true →
      read_field (fields_written ss block) g ≡ read_field block g
  unfolding fields_written all_inside covered
  others_kept [] block size i c = refl
  others_kept (s ∷ ss) block size i c =
      let f = s.field in
      others_kept ss (write_field block f s.value) (length_write_field block f s.value ∙ size)
      (and_right (inside f) (all_inside ss) i) (and_right (lies_in f hs) (covered ss hs) c)
      ∙ read_apart block f s.value size (inside_true f (and_left (inside f) (all_inside ss) i)) g in_g
      (apart_listed f g hs a (and_left (lies_in f hs) (covered ss hs) c))

-- What settings leave, from tests that antt computes.
pub leaves :
    (block : List ℕ) (ss hs : List FieldWrite) →
    length block ≡ 32 →
    all_inside ss ≡ true →
    clear ss hs ≡ true →
    covered ss hs ≡ true →
    Follow ss block hs →
    Leaves block ss hs
leaves block ss hs size i c v f =
    record { named = named_follow ss block hs size i c f; others = λ g in_g a. others_kept g in_g hs a ss block size i v }

-- A flag of a doubleword after one was set.
pub flag_set :
    (block : List ℕ) (word k d : ℕ) →
    length block ≡ 32 →
    word < 8 →
    k < 32 →
    d < 32 →
    let flag : ℕ → Field = λ i. record { word = word; low = i; width = 1 } in
    read_field (write_field block (flag k) 1) (flag d) ≡ cond (eqb k d) 1 (read_field block (flag d))
flag_set block word k d size w hk hd = go (ℕ_discrete k d)
  where
    flag : ℕ → Field
    flag i = record { word = word; low = i; width = 1 }

    go : Dec (k ≡ d) → read_field (write_field block (flag k) 1) (flag d) ≡ cond (eqb k d) 1 (read_field block (flag d))
    go (yes e) = rw (eq-eqb k d e, ← e) (read_back block (flag k) 1 size (w, omega arith) (lit< tt))
    go (no n) =
        rw (ne_eqb k d n)
        (read_apart block (flag k) 1 size (w, omega arith) (flag d) (w, omega arith)
        (apart_from (flag k) (flag d) (inr (either (dec_lt d k)))))
      where
        either : Dec (d < k) → (k + 1 ≤ d) ⊎ (d + 1 ≤ k)
        either (yes l) = inr (omega arith)
        either (no l) = inl (omega arith)
