-- What a Configure makes of the rings that the controller holds, and what Address does.
use Prim.Native.Nat.{ℕ, ◌+◌, ◌*◌, ◌/◌, ◌%◌, ◌^◌, ◌<◌, ◌≤◌}
use mathlib.Core.Path.{◌≡◌, refl, ◌∙◌, ap}
use mathlib.Core.Logic.{◌⊎◌, inl, inr}
use mathlib.Core.Bool.{Bool, true, false, cond, ◌||◌}
use mathlib.Core.List.{List, [], ◌∷◌, ◌++◌}
use native.Mathlib.Omega.{arith}
use native.Mathlib.Nat.{mul-zero}
use borrow.Author.Tests.{le-leb, lt-ltb, eqb-true, ne_eqb}
use lib.Dec.{eqb}
use lib.ListN.{length, take, replicate, length-replicate}
use Rattle.laws.proofs.Tests.{not_both}
use Rattle.laws.proofs.Cases.{Decided, decided, or_cases}
use Rattle.hub.specs.declared.translator.Translator.{Translator}
use Rattle.context_field.specs.declared.Field.{Field}
use Rattle.context_field.specs.Field.{read_field}
use Rattle.descriptor.specs.Word.{endpoint_descriptor}
use Rattle.transfer.specs.Routes.{Queue, ring_for}
use Rattle.context_block.specs.FieldWrite.{FieldWrite, fields_written}
use Rattle.context_block.specs.Fields.{DROP-FLAG, ADD-FLAG, TR-DEQUEUE-POINTER-LO, TR-DEQUEUE-POINTER-HI}
use Rattle.context_block.specs.Blocks.{address_slot, address_endpoint, word_dci, some_dci}
use Rattle.context_block.specs.Promises.{Holds, ring_reads, endpoint_reads}
use Rattle.context_block.proofs.Promises.{address_endpoint_promise}
use Rattle.context.specs.Place.{CONTROL, SLOT, Spaced, spacing_of, block_at, read_at}
use Rattle.context.specs.Promises.{ConfigureReads}
use Rattle.context.specs.Steps.{address_context, address_writes}
use Rattle.context.proofs.Laws.{written_length, of_block_same, of_block_skip, block_length, block_written}
use Rattle.theorem_doubt.specs.Doubt.{ring_at, configured_rings}

-- The last word of a Dci.
record LastOf (d : ℕ) (words : List ℕ) : Type 0 where
  pub before : List ℕ
  pub word : ℕ
  pub after : List ℕ
  pub is : words ≡ before ++ (word ∷ after)
  pub dci : word_dci word ≡ d
  pub none : some_dci d after ≡ false

last_of : (d : ℕ) (words : List ℕ) → some_dci d words ≡ true → LastOf d words
unfolding some_dci
last_of d [] e = not_both false e refl
last_of d (w ∷ ws) e = go (decided (some_dci d ws)) (last_of d ws)
  where
    first : (eqb (word_dci w) d ≡ true) ⊎ (some_dci d ws ≡ true) → some_dci d ws ≡ false → eqb (word_dci w) d ≡ true
    first (inl x) n = x
    first (inr x) n = not_both (some_dci d ws) x n

    go : Decided (some_dci d ws) → (some_dci d ws ≡ true → LastOf d ws) → LastOf d (w ∷ ws)
    go (inl s) f =
        let l = f s in
        record {
          before = w ∷ l.before;
          word = l.word;
          after = l.after;
          is = ap (λ (x : List ℕ). w ∷ x) l.is;
          dci = l.dci;
          none = l.none;
        }
    go (inr s) f =
        let h : eqb (word_dci w) d ≡ true = first (or_cases (eqb (word_dci w) d) (some_dci d ws) e) s in
        record { before = []; word = w; after = ws; is = refl; dci = eqb-true (word_dci w) d h; none = s }

-- A block's two fields of a ring.
record RingIn (block : List ℕ) (ring : ℕ) : Type 0 where
  pub low : read_field block TR-DEQUEUE-POINTER-LO ≡ ring / 2 ^ 4 % 2 ^ 28
  pub high : read_field block TR-DEQUEUE-POINTER-HI ≡ ring / 2 ^ 32

endpoint_ring : (block was : List ℕ) (speed w ring : ℕ) → Holds block (endpoint_reads was speed (endpoint_descriptor w) ring) → RingIn block ring
unfolding Holds endpoint_reads ring_reads
endpoint_ring block was speed w ring h = record { low = h.1.1.1.1.0; high = h.1.1.1.1.1.0 }

-- They are the ring.
whole : (ring : ℕ) → ring % 16 ≡ 0 → ring < 2 ^ 64 → ring / 2 ^ 4 % 2 ^ 28 * 2 ^ 4 + ring / 2 ^ 32 * 2 ^ 32 ≡ ring
whole ring e h = omega arith

ring_read :
    (s : ℕ) (ctx : List ℕ) (d ring : ℕ) → spacing_of (length ctx) ≡ s → ring % 16 ≡ 0 → ring < 2 ^ 64 →
    RingIn (block_at s ctx (d + 1)) ring → ring_at ctx d ≡ ring
unfolding ring_at read_at
ring_read s ctx d ring spaced even wide r = rw (spaced, r.low, r.high) (whole ring even wide)

-- The first block is the control block.
first_block : (s : ℕ) (ctx : List ℕ) (f : Field) → read_field (take 32 ctx) f ≡ read_field (block_at s ctx CONTROL) f
unfolding block_at
first_block s ctx f = rw mul-zero

flag_set : (b : Bool) → eqb (cond b 1 0) 1 ≡ b
flag_set true = refl
flag_set false = refl

module _ (s speed interface alternate : ℕ) (dropped added : List ℕ) (queues : List Queue) (dcis was ctx : List ℕ)
    (reads : ConfigureReads s speed interface alternate dropped added queues dcis was ctx) (spaced : spacing_of (length ctx) ≡ s)
    (d : ℕ) (two : 2 ≤ d) (h : d < 32) (even : ring_for d queues 0 % 16 ≡ 0) (wide : ring_for d queues 0 < 2 ^ 64) where
  ring_in : some_dci d added ≡ true → RingIn (block_at s ctx (d + 1)) (ring_for d queues 0)
  ring_in e =
      let l = last_of d added e in
      let r = reads.last l.before l.after l.word l.is (rw l.dci l.none) in
      rw l.dci at (endpoint_ring (block_at s ctx (word_dci l.word + 1)) _ speed l.word (ring_for (word_dci l.word) queues 0) r.named)

  -- An added endpoint has the queues' ring, a dropped one none.
  pub rings_configured :
      (rings : ℕ → ℕ) →
      configured_rings ctx rings d ≡ cond (some_dci d added) (ring_for d queues 0) (cond (some_dci d dropped) 0 (rings d))
  unfolding configured_rings
  rings_configured rings =
      let drops : read_field (take 32 ctx) (DROP-FLAG d) ≡ cond (some_dci d dropped) 1 0 =
      first_block s ctx (DROP-FLAG d) ∙ reads.control.drops d two h in
      let adds : read_field (take 32 ctx) (ADD-FLAG d) ≡ cond (eqb d 0 || some_dci d added) 1 0 =
      first_block s ctx (ADD-FLAG d) ∙ reads.control.adds d h in
      let low : eqb d 0 ≡ false = ne_eqb d 0 (λ z. omega arith) in
      rw (le-leb 2 d two, lt-ltb d 32 h, drops, adds, low, flag_set (some_dci d dropped), flag_set (some_dci d added))
      (go (decided (some_dci d added)))
    where
      go :
          Decided (some_dci d added) →
          cond (some_dci d added) (ring_at ctx d) (cond (some_dci d dropped) 0 (rings d))
          ≡ cond (some_dci d added) (ring_for d queues 0) (cond (some_dci d dropped) 0 (rings d))
      go (inl e) = rw e (ring_read s ctx d (ring_for d queues 0) spaced even wide (ring_in e))
      go (inr e) = rw e refl

-- Address: control's ring.
module _ (s speed route : ℕ) (translator : Translator) (root_port ring : ℕ) (ctx : List ℕ) (sp : Spaced s (length ctx))
    (own : spacing_of (length ctx) ≡ s) (even : ring % 16 ≡ 0) (wide : ring < 2 ^ 64) where
  abbrev next : List ℕ
  next = address_context s speed route translator root_port ring ctx

  abbrev endpoint : List FieldWrite
  endpoint = address_endpoint speed ring

  clean : List ℕ
  clean = replicate (length ctx) 0

  clean_length : length clean ≡ length ctx
  unfolding clean
  clean_length = length-replicate (length ctx) 0

  pub addressed_length : length next ≡ length ctx
  unfolding address_context clean
  addressed_length = written_length _ _ _ ∙ clean_length

  control_block : block_at s next 2 ≡ fields_written endpoint (block_at s clean 2)
  unfolding address_context address_writes clean
  control_block =
      block_written s sp.wide (address_writes speed route translator root_port ring) clean 2
      ∙ ap (λ x. fields_written x (block_at s clean 2))
      (of_block_skip 2 CONTROL _ _ refl ∙ of_block_skip 2 SLOT (address_slot speed route translator root_port) _ refl ∙ of_block_same 2 endpoint)

  ring_there : RingIn (block_at s next 2) ring
  unfolding Holds ring_reads
  ring_there =
      let l = address_endpoint_promise (block_at s clean 2) speed ring (block_length s 2 clean (rw clean_length sp) (omega arith)) wide in
      rw control_block (record { low = l.named.1.1.1.1.0; high = l.named.1.1.1.1.1.0 })

  pub ring_addressed : ring_at next 1 ≡ ring
  ring_addressed = ring_read s next 1 ring (ap spacing_of addressed_length ∙ own) even wide ring_there
