-- The flags of the control block.
use Prim.Native.Nat.{ℕ, ◌+◌, ◌<◌, ◌≤◌}
use mathlib.Core.Path.{◌≡◌, refl, sym, ap, ◌∙◌}
use mathlib.Core.Logic.{◌≢◌, inl}
use mathlib.Core.Bool.{Bool, true, false, cond, ◌&&◌, ◌||◌}
use mathlib.Core.List.{List, [], ◌∷◌, ◌++◌}
use native.Mathlib.Omega.{arith}
use borrow.Author.Tests.{lt-ltb, le-leb, le-ltb, eq-eqb}
use lib.Dec.{eqb, ltb, lit<}
use lib.ListN.{length}
use Rattle.laws.proofs.Tests.{and_left, and_right, and-true}
use Rattle.laws.proofs.Cases.{cond_or}
use Rattle.descriptor.specs.Word.{endpoint_descriptor}
use Rattle.descriptor.proofs.Laws.{dci_small, fields_fit}
use Rattle.context_field.specs.declared.Field.{Field}
use Rattle.context_field.specs.Field.{read_field, write_field, InBlock, apart, within}
use Rattle.context_field.proofs.Laws.{length_write_field, read_apart, within_self}
use Rattle.context_block.specs.Fields.{DROP-FLAGS, ADD-FLAGS, DROP-FLAG, ADD-FLAG, apart_from_all}
use Rattle.context_block.specs.FieldWrite.{FieldWrite, ◌:=◌, fields_written, inside, all_inside}
use Rattle.context_block.specs.Blocks.{changed, drop_flags, word_dci, some_dci}
use Rattle.context_block.specs.Promises.{Holds, fields_of}
use Rattle.context_block.proofs.Laws.{fields_written_append, fields_written_length, inside_true, apart_from, apart_part, flag_set}
use Rattle.context_block.proofs.Promises.{changed_flag_promise, control_packet_promise}
use Rattle.context.specs.Promises.{Endpoints, ControlReads}

-- A word's Dci has a flag and a block.
pub word_dci_small : (w : ℕ) → word_dci w < 32
unfolding word_dci
word_dci_small w = dci_small (endpoint_descriptor w).address (fields_fit w).address

apart_sym : (f g : Field) → apart f g ≡ true → apart g f ≡ true
apart_sym f g a = apart_part g f g a (within_self g)

-- A field that is apart from all fields set reads as before.
pub kept :
    (g : Field) →
    InBlock g →
    (ss : List FieldWrite) (b : List ℕ) →
    length b ≡ 32 →
    all_inside ss ≡ true →
    apart_from_all g (fields_of ss) ≡ true →
    read_field (fields_written ss b) g ≡ read_field b g
unfolding fields_written all_inside apart_from_all fields_of
kept g in_g [] b size i a = refl
kept g in_g (s ∷ ss) b size i a =
    let f = s.field in
    kept g in_g ss (write_field b f s.value) (length_write_field b f s.value ∙ size) (and_right (inside f) (all_inside ss) i)
    (and_right (apart g f) (apart_from_all g (fields_of ss)) a)
    ∙ read_apart b f s.value size (inside_true f (and_left (inside f) (all_inside ss) i)) g in_g
    (apart_sym g f (and_left (apart g f) (apart_from_all g (fields_of ss)) a))

-- The flags of some words in a doubleword: 0 has the drop flags, 1 the add flags.
unfoldable pub flag : ℕ → ℕ → Field
flag word d = record { word = word; low = d; width = 1 }

unfoldable pub flags : ℕ → List ℕ → List FieldWrite
flags word [] = []
flags word (w ∷ ws) = (flag word (word_dci w) := 1) ∷ flags word ws

module _ (word : ℕ) (low : word < 8) where
  flags_set :
      (ws b : List ℕ) →
      length b ≡ 32 →
      (d : ℕ) →
      d < 32 →
      read_field (fields_written (flags word ws) b) (flag word d) ≡ cond (some_dci d ws) 1 (read_field b (flag word d))
  unfolding fields_written flags flag some_dci
  flags_set [] b size d h = refl
  flags_set (w ∷ ws) b size d h =
      flags_set ws (write_field b (flag word (word_dci w)) 1) (length_write_field b (flag word (word_dci w)) 1 ∙ size) d h
      ∙ rw (flag_set b word (word_dci w) d size low (word_dci_small w) h)
      (cond_or (eqb (word_dci w) d) (some_dci d ws) 1 (read_field b (flag word d)))

  flags_inside : (ws : List ℕ) → all_inside (flags word ws) ≡ true
  unfolding flags flag all_inside inside
  flags_inside [] = refl
  flags_inside (w ∷ ws) =
      rw (lt-ltb word 8 low, le-leb (word_dci w + 1) 32 (omega (arith, word_dci_small w))) (flags_inside ws)

  flags_elsewhere : (g : Field) → word ≢ g.word → (ws : List ℕ) → apart_from_all g (fields_of (flags word ws)) ≡ true
  unfolding flags flag apart_from_all fields_of
  flags_elsewhere g n [] = refl
  flags_elsewhere g n (w ∷ ws) =
      and-true (apart g (flag word (word_dci w))) (apart_from_all g (fields_of (flags word ws)))
      (apart_from g (flag word (word_dci w)) (inl (λ e. n (sym e)))) (flags_elsewhere g n ws)

  -- Flags of Dcis 2 and up lie in a field that has all such.
  flags_within :
      (g h : Field) →
      apart g h ≡ true →
      ((d : ℕ) → 2 ≤ d → d < 32 → within (flag word d) h ≡ true) →
      (ws : List ℕ) →
      Endpoints ws →
      apart_from_all g (fields_of (flags word ws)) ≡ true
  unfolding flags apart_from_all fields_of some_dci
  flags_within g h a lies [] e = refl
  flags_within g h a lies (w ∷ ws) e =
      let two : 2 ≤ word_dci w = e (word_dci w) (rw (eq-eqb (word_dci w) (word_dci w) refl)) in
      and-true (apart g (flag word (word_dci w))) (apart_from_all g (fields_of (flags word ws)))
      (apart_sym (flag word (word_dci w)) g (apart_part (flag word (word_dci w)) g h a (lies (word_dci w) two (word_dci_small w))))
      (flags_within g h a lies ws (λ d t. e d (or_right (eqb (word_dci w) d) (some_dci d ws) t)))
    where
      or_right : (a b : Bool) → b ≡ true → (a || b) ≡ true
      or_right true b p = refl
      or_right false b p = p

pub drop_flags_are : (ws : List ℕ) → drop_flags ws ≡ flags 0 ws
unfolding flags flag drop_flags
drop_flags_are [] = refl
drop_flags_are (w ∷ ws) = ap (λ (l : List FieldWrite). (DROP-FLAG (word_dci w) := 1) ∷ l) (drop_flags_are ws)

drop_lies : (d : ℕ) → 2 ≤ d → d < 32 → within (flag 0 d) DROP-FLAGS ≡ true
unfolding flag within
drop_lies d two h = rw (le-leb 2 d two, le-leb (d + 1) 32 (omega arith))

add_lies : (d : ℕ) → 2 ≤ d → d < 32 → within (flag 1 d) ADD-FLAGS ≡ true
unfolding flag within
add_lies d two h = rw (le-leb 0 d (omega arith), le-leb (d + 1) 32 (omega arith))

-- Fields that are apart from every flag.
abbrev OffFlags : List FieldWrite → Type 0
OffFlags listed =
    (d : ℕ) → (apart_from_all (DROP-FLAG d) (fields_of listed) ≡ true) × (apart_from_all (ADD-FLAG d) (fields_of listed) ≡ true)

-- The flags cleared, and some fields set.
module _ (b : List ℕ) (size : length b ≡ 32) (listed : List FieldWrite) (in-listed : all_inside listed ≡ true) where
  abbrev start : List ℕ
  start = fields_written (changed ++ listed) b

  start_size : length start ≡ 32
  start_size = fields_written_length (changed ++ listed) b ∙ size

  start_flag :
      (g : Field) →
      InBlock g →
      apart_from_all g (fields_of listed) ≡ true →
      read_field start g ≡ read_field (fields_written changed b) g
  start_flag g in_g a =
      rw (fields_written_append changed listed b) (kept g in_g listed (fields_written changed b) (fields_written_length changed b ∙ size) in-listed a)

  start_drop :
      (d : ℕ) →
      apart_from_all (DROP-FLAG d) (fields_of listed) ≡ true →
      2 ≤ d →
      d < 32 →
      read_field start (DROP-FLAG d) ≡ 0
  start_drop d a two h =
      start_flag (DROP-FLAG d) (lit< tt, omega arith) a ∙ (changed_flag_promise b d size h).0 ∙ rw (le-ltb d 2 two)

  start_add :
      (d : ℕ) →
      apart_from_all (ADD-FLAG d) (fields_of listed) ≡ true →
      d < 32 →
      read_field start (ADD-FLAG d) ≡ cond (eqb d 0) 1 0
  start_add d a h = start_flag (ADD-FLAG d) (lit< tt, omega arith) a ∙ (changed_flag_promise b d size h).1

  start_others :
      (g : Field) →
      InBlock g →
      apart_from_all g (DROP-FLAGS ∷ ADD-FLAGS ∷ fields_of listed) ≡ true →
      read_field start g ≡ read_field b g
  unfolding changed apart_from_all fields_of all_inside inside
  start_others g in_g a = kept g in_g (changed ++ listed) b size in-listed a

  -- The listed fields being apart from the flags.
  pub cleared_reads : OffFlags listed → Holds start listed → ControlReads start b (λ d. false) (λ d. eqb d 0) listed
  cleared_reads off named =
      record {
        drops = λ d. start_drop d (off d).0;
        adds = λ d. start_add d (off d).1;
        named = named;
        others = start_others;
      }

  -- And then the flags of words.
  module _ (dropped added : List ℕ) where
    abbrev end : List ℕ
    end = fields_written (flags 1 added) (fields_written (flags 0 dropped) start)

    dropped_size : length (fields_written (flags 0 dropped) start) ≡ 32
    dropped_size = fields_written_length (flags 0 dropped) start ∙ start_size

    pub end_drop : OffFlags listed → (d : ℕ) → 2 ≤ d → d < 32 → read_field end (DROP-FLAG d) ≡ cond (some_dci d dropped) 1 0
    unfolding flag
    end_drop off d two h =
        kept (DROP-FLAG d) (lit< tt, omega arith) (flags 1 added) (fields_written (flags 0 dropped) start) dropped_size
        (flags_inside 1 (lit< tt) added) (flags_elsewhere 1 (lit< tt) (DROP-FLAG d) (omega arith) added)
        ∙ flags_set 0 (lit< tt) dropped start start_size d h
        ∙ rw (start_drop d (off d).0 two h)

    pub end_add : OffFlags listed → (d : ℕ) → d < 32 → read_field end (ADD-FLAG d) ≡ cond (eqb d 0 || some_dci d added) 1 0
    unfolding flag
    end_add off d h =
        flags_set 1 (lit< tt) added (fields_written (flags 0 dropped) start) dropped_size d h
        ∙ rw (
          kept (ADD-FLAG d) (lit< tt, omega arith) (flags 0 dropped) start start_size (flags_inside 0 (lit< tt) dropped)
              (flags_elsewhere 0 (lit< tt) (ADD-FLAG d) (omega arith) dropped),
          start_add d (off d).1 h,
        )
        (cond_or (eqb d 0) (some_dci d added) 1 0)

    -- A field of another doubleword.
    pub end_else : (g : Field) → InBlock g → 2 ≤ g.word → read_field end g ≡ read_field start g
    end_else g in_g h =
        kept g in_g (flags 1 added) (fields_written (flags 0 dropped) start) dropped_size (flags_inside 1 (lit< tt) added)
        (flags_elsewhere 1 (lit< tt) g (omega arith) added)
        ∙ kept g in_g (flags 0 dropped) start start_size (flags_inside 0 (lit< tt) dropped)
        (flags_elsewhere 0 (lit< tt) g (omega arith) dropped)

    end_others :
        Endpoints dropped →
        Endpoints added →
        (g : Field) →
        InBlock g →
        apart_from_all g (DROP-FLAGS ∷ ADD-FLAGS ∷ fields_of listed) ≡ true →
        read_field end g ≡ read_field b g
    unfolding apart_from_all
    end_others e-d e-a g in_g a =
        let rest : apart_from_all g (ADD-FLAGS ∷ fields_of listed) ≡ true = and_right (apart g DROP-FLAGS) _ a in
        kept g in_g (flags 1 added) (fields_written (flags 0 dropped) start) dropped_size (flags_inside 1 (lit< tt) added)
        (flags_within 1 (lit< tt) g ADD-FLAGS (and_left (apart g ADD-FLAGS) (apart_from_all g (fields_of listed)) rest)
        add_lies added e-a)
        ∙ kept g in_g (flags 0 dropped) start start_size (flags_inside 0 (lit< tt) dropped)
        (flags_within 0 (lit< tt) g DROP-FLAGS (and_left (apart g DROP-FLAGS) (apart_from_all g (ADD-FLAGS ∷ fields_of listed)) a)
        drop_lies dropped e-d)
        ∙ start_others g in_g a

    pub flagged_reads :
        Endpoints dropped →
        Endpoints added →
        OffFlags listed →
        Holds end listed →
        ControlReads end b (λ d. some_dci d dropped) (λ d. eqb d 0 || some_dci d added) listed
    flagged_reads e-d e-a off named =
        record { drops = end_drop off; adds = end_add off; named = named; others = end_others e-d e-a }

-- The add flag of the control endpoint.
pub packet_reads :
    (b : List ℕ) →
    length b ≡ 32 →
    ControlReads (fields_written (changed ++ ((ADD-FLAG 1 := 1) ∷ [])) b) b (λ d. false) (λ d. ltb d 2) []
unfolding Holds apart apart_from_all fields_of all_inside inside within
packet_reads b size =
    let listed = (ADD-FLAG 1 := 1) ∷ [] in
    record {
      drops = λ d. start_drop b size listed refl d refl;
      adds = λ d. control_packet_promise b d size;
      named = tt;
      others = λ g in_g a. start_others b size listed refl g in_g (flag_too g a);
    }
  where
    flag_too :
        (g : Field) →
        apart_from_all g (DROP-FLAGS ∷ ADD-FLAGS ∷ []) ≡ true →
        apart_from_all g (DROP-FLAGS ∷ ADD-FLAGS ∷ ADD-FLAG 1 ∷ []) ≡ true
    flag_too g a =
        let rest = and_right (apart g DROP-FLAGS) (apart g ADD-FLAGS && true) a in
        let add : apart g ADD-FLAGS ≡ true = and_left (apart g ADD-FLAGS) true rest in
        let one : apart g (ADD-FLAG 1) ≡ true = apart_sym (ADD-FLAG 1) g (apart_part (ADD-FLAG 1) g ADD-FLAGS add refl) in
        rw (and_left (apart g DROP-FLAGS) (apart g ADD-FLAGS && true) a, add, one)
