-- Every promise of specs/Promises.antt.
use Prim.Native.Nat.{ℕ, ◌+◌, ◌*◌, ◌^◌, ◌<◌, ◌≤◌}
use mathlib.Core.Path.{◌≡◌, refl, ◌∙◌}
use mathlib.Core.Bool.{Bool, true, false, cond}
use mathlib.Core.Logic.{◌⊎◌, inl, inr}
use mathlib.Core.List.{List, [], ◌∷◌, ◌++◌, append-nil}
use native.Mathlib.Decide.{dec_lt}
use native.Mathlib.Nat.{zero-div, zero-mod}
use native.Mathlib.Omega.{arith}
use lib.Dec.{eqb, lit<}
use lib.ListN.{length, take, drop, get_or, replicate, length-replicate, get_or-replicate, get_or-eq_default}
use lib.Seq.{get_or-take, get_or-drop}
use Rattle.def.specs.Speed.{SUPER, SUPER-PLUS, is_super, exponent_ok, header_packet_size}
use Rattle.def.proofs.Laws.{super_true, exponent_nine}
use Rattle.descriptor.specs.Word.{endpoint_descriptor}
use Rattle.transfer.specs.Routes.{ring_for}
use Rattle.context_field.specs.declared.Field.{Field}
use Rattle.context_field.specs.Field.{read_field, word_at, InBlock, apart}
use Rattle.context_block.specs.Fields.{ADD-FLAGS, ADD-FLAG, CONFIGURATION-VALUE, INTERFACE-NUMBER, ALTERNATE-SETTING, CONTEXT-ENTRIES, MAX-PACKET-SIZE, apart_from_all}
use Rattle.context_block.specs.FieldWrite.{FieldWrite, ◌:=◌, fields_written, all_inside, inside}
use Rattle.context_block.specs.Blocks.{changed, address_slot, address_endpoint, hub_fields, word_dci, endpoint_fields, some_dci}
use Rattle.context_block.specs.Promises.{Holds, fields_of, Leaves, endpoint_reads}
use Rattle.context_block.proofs.Promises as block
use Rattle.context.specs.Place.{Write, CONTROL, SLOT, in_block, of_block, written, block_at, read_at, OutsideBlock}
use Rattle.context.specs.Steps.{address_writes, address_context, max_packet_writes, add_all, context_entries, configure_writes, configuration_writes, hub_writes}
use Rattle.context.specs.Promises.{Reads, ControlReads, zero_field, AddressPromise, MaxPacketPromise, SuperPacketPromise, ConfigurationPromise, HubPromise, Endpoints, EntriesReads, ConfigurePromise}
use Rattle.context.proofs.Laws.{written_length, of_block_skip, of_block_append, of_block_same, of_block_other, block_length, block_written, other_block, Untouched, untouched_append, untouched_block, other_byte}
use Rattle.context.proofs.Added.{some_in, endpoint_of, added_none, configure_slot, configure_endpoint, control_after, last_after, configure_untouched}
use Rattle.context.proofs.Entries.{entries_reads}
use Rattle.context.proofs.Control.{word_dci_small, flags, cleared_reads, end_else, flagged_reads, packet_reads}

-- A block's promise, of a block of the context.
reads_of :
    (s : ℕ) (ctx : List ℕ) (ws : List Write) (b : ℕ) (ss listed : List FieldWrite) →
    32 ≤ s →
    of_block b ws ≡ ss →
    Leaves (block_at s ctx b) ss listed →
    Reads (block_at s (written s ws ctx) b) listed (read_at s ctx b)
unfolding read_at
reads_of s ctx ws b ss listed wide e l =
    rw (block_written s wide ws ctx b, e) (record { named = l.named; others = l.others })

-- What is set in either of two blocks, and the bytes outside both.
first_of : (b c : ℕ) (x y : List FieldWrite) → eqb c b ≡ false → of_block b (in_block b x ++ in_block c y) ≡ x
first_of b c x y n = rw (of_block_append b (in_block b x) (in_block c y), of_block_same b x, of_block_other b c y n, append-nil)

second_of : (b c : ℕ) (x y : List FieldWrite) → eqb b c ≡ false → of_block c (in_block b x ++ in_block c y) ≡ y
second_of b c x y n = of_block_skip c b x (in_block c y) n ∙ of_block_same c y

two_untouched :
    (s k b c : ℕ) (x y : List FieldWrite) → OutsideBlock s b k → OutsideBlock s c k → Untouched s k (in_block b x ++ in_block c y)
two_untouched s k b c x y p q =
    untouched_append s k (in_block b x) (in_block c y) (untouched_block s k b x p) (untouched_block s k c y q)

-- A context of zeros.
abbrev zeros : ℕ → List ℕ
zeros n = replicate n 0

zero_at : (n i : ℕ) → get_or (zeros n) i 0 ≡ 0
zero_at n i = go (dec_lt i n)
  where
    go : Dec (i < n) → get_or (zeros n) i 0 ≡ 0
    go (yes l) = get_or-replicate n i 0 0 l
    go (no l) = get_or-eq_default (zeros n) 0 (rw (length-replicate {A = ℕ} n 0) (omega arith))

zero_reads : (s n b : ℕ) (g : Field) → InBlock g → read_at s (zeros n) b g ≡ 0
unfolding read_at block_at read_field word_at
zero_reads s n b g in_g =
    rw (
      at (4 * g.word) (omega arith),
      at (4 * g.word + 1) (omega arith),
      at (4 * g.word + 2) (omega arith),
      at (4 * g.word + 3) (omega arith),
      zero-div,
      zero-mod,
    )
  where
    at : (i : ℕ) → i < 32 → get_or (take 32 (drop (s * b) (zeros n))) i 0 ≡ 0
    at i h = get_or-take 32 (drop (s * b) (zeros n)) i 0 h ∙ get_or-drop (s * b) (zeros n) i 0 ∙ zero_at n (s * b + i)

pub address_promise : AddressPromise
unfolding address_context address_writes
address_promise s speed route translator root_port ring ctx spaced h-speed h-route h-slot h-port h-root h-ring =
    record {
      control =
          made CONTROL both both (of_block_append CONTROL (in_block CONTROL both) rest_writes ∙ rw (of_block_same CONTROL both, no_control))
          (block.single_promise _ ADD-FLAGS 3 (size CONTROL (omega arith)) (lit< tt, omega arith) (lit< tt));
      slot =
          made SLOT slot _ (of_block_skip SLOT CONTROL both rest_writes refl ∙ first_of SLOT 2 slot endpoint refl)
          (block.address_slot_promise _ speed route translator root_port (size SLOT (omega arith)) h-speed h-route h-slot h-port h-root);
      endpoint =
          made 2 endpoint _ (of_block_skip 2 CONTROL both rest_writes refl ∙ second_of SLOT 2 slot endpoint refl)
          (block.address_endpoint_promise _ speed ring (size 2 (omega arith)) h-ring);
      rest =
          λ k p q r.
          other_byte s k ws clean
          (untouched_append s k (in_block CONTROL both) rest_writes (untouched_block s k CONTROL both p)
          (two_untouched s k SLOT 2 slot endpoint q r))
          ∙ zero_at (length ctx) k;
    }
  where
    both : List FieldWrite
    both = (ADD-FLAGS := 3) ∷ []

    slot : List FieldWrite
    slot = address_slot speed route translator root_port

    endpoint : List FieldWrite
    endpoint = address_endpoint speed ring

    rest_writes : List Write
    rest_writes = in_block SLOT slot ++ in_block 2 endpoint

    no_control : of_block CONTROL rest_writes ≡ []
    no_control = of_block_skip CONTROL SLOT slot (in_block 2 endpoint) refl ∙ of_block_other CONTROL 2 endpoint refl

    ws : List Write
    ws = in_block CONTROL both ++ rest_writes

    clean : List ℕ
    clean = zeros (length ctx)

    size : (b : ℕ) → b ≤ 32 → length (block_at s clean b) ≡ 32
    size b h = block_length s b clean (rw (length-replicate {A = ℕ} (length ctx) 0) spaced) h

    made :
        (b : ℕ) (ss listed : List FieldWrite) →
        of_block b ws ≡ ss →
        Leaves (block_at s clean b) ss listed →
        Reads (block_at s (written s ws clean) b) listed zero_field
    made b ss listed e l =
        let r = reads_of s clean ws b ss listed spaced.wide e l in
        record { named = r.named; others = λ g in_g a. r.others g in_g a ∙ zero_reads s (length ctx) b g in_g }

-- The control block of the other steps.
control_of :
    (s : ℕ) (ctx : List ℕ) (ws : List Write) (ss : List FieldWrite) (drop add : ℕ → Bool) (listed : List FieldWrite) →
    32 ≤ s →
    of_block CONTROL ws ≡ ss →
    ControlReads (fields_written ss (block_at s ctx CONTROL)) (block_at s ctx CONTROL) drop add listed →
    ControlReads (block_at s (written s ws ctx) CONTROL) (block_at s ctx CONTROL) drop add listed
control_of s ctx ws ss drop add listed wide e r = rw (block_written s wide ws ctx CONTROL, e) r

header_small : (speed byte : ℕ) → byte < 2 ^ 8 → exponent_ok speed byte ≡ true → header_packet_size speed byte < 2 ^ 16
unfolding header_packet_size
header_small speed byte h o = go (is_super speed) refl
  where
    plain : (t : Bool) → cond t 8 byte < 2 ^ 16
    plain true = lit< tt
    plain false = omega arith

    go : (t : Bool) → is_super speed ≡ t → cond t (2 ^ byte) (cond (eqb byte 0) 8 byte) < 2 ^ 16
    go true e = rw (exponent_nine speed byte e o) (lit< tt)
    go false e = plain (eqb byte 0)

super_nine : (speed byte : ℕ) → (speed ≡ SUPER) ⊎ (speed ≡ SUPER-PLUS) → exponent_ok speed byte ≡ true → byte ≡ 9
super_nine speed byte (inl p) o = exponent_nine speed byte (rw p (super_true 4 (omega arith) (omega arith))) o
super_nine speed byte (inr p) o = exponent_nine speed byte (rw p (super_true 5 (omega arith) (omega arith))) o

header_super : (speed byte : ℕ) → (speed ≡ SUPER) ⊎ (speed ≡ SUPER-PLUS) → exponent_ok speed byte ≡ true → header_packet_size speed byte ≡ 512
unfolding header_packet_size is_super
header_super speed byte (inl p) o = rw (super_nine speed byte (inl p) o, p)
header_super speed byte (inr p) o = rw (super_nine speed byte (inr p) o, p)

pub max_packet_promise : MaxPacketPromise
unfolding max_packet_writes
max_packet_promise s speed byte ctx spaced h o =
    record {
      control =
          control_of s ctx ws flag _ _ [] spaced.wide (first_of CONTROL 2 flag size refl)
          (packet_reads (block_at s ctx CONTROL) (long CONTROL (omega arith)));
      endpoint =
          reads_of s ctx ws 2 size size spaced.wide (second_of CONTROL 2 flag size refl)
          (block.single_promise _ MAX-PACKET-SIZE (header_packet_size speed byte) (long 2 (omega arith)) (lit< tt, omega arith)
          (header_small speed byte h o));
      rest = λ k p q. other_byte s k ws ctx (two_untouched s k CONTROL 2 flag size p q);
    }
  where
    flag : List FieldWrite
    flag = changed ++ ((ADD-FLAG 1 := 1) ∷ [])

    size : List FieldWrite
    size = (MAX-PACKET-SIZE := header_packet_size speed byte) ∷ []

    ws : List Write
    ws = in_block CONTROL flag ++ in_block 2 size

    long : (b : ℕ) → b ≤ 32 → length (block_at s ctx b) ≡ 32
    long b = block_length s b ctx spaced

pub super_packet_promise : SuperPacketPromise
super_packet_promise s speed byte ctx spaced f o =
    let small : byte < 2 ^ 8 = let e = super_nine speed byte f o in omega (arith, e) in
    rw (header_super speed byte f o) at (max_packet_promise s speed byte ctx spaced small o)

pub configuration_promise : ConfigurationPromise
unfolding configuration_writes Holds apart apart_from_all fields_of all_inside inside
configuration_promise s value ctx spaced h =
    record {
      control =
          control_of s ctx (in_block CONTROL (changed ++ listed)) (changed ++ listed) _ _ listed spaced.wide
          (of_block_same CONTROL (changed ++ listed))
          (cleared_reads (block_at s ctx CONTROL) size listed refl (λ d. (refl, refl))
          ((block.configuration_promise (block_at s ctx CONTROL) value size h).named.0, tt));
      rest = λ k p. other_byte s k (in_block CONTROL (changed ++ listed)) ctx (untouched_block s k CONTROL (changed ++ listed) p);
    }
  where
    listed : List FieldWrite
    listed = (CONFIGURATION-VALUE := value) ∷ []

    size : length (block_at s ctx CONTROL) ≡ 32
    size = block_length s CONTROL ctx spaced (omega arith)

pub hub_promise : HubPromise
unfolding hub_writes changed read_at Holds apart_from_all fields_of all_inside
hub_promise s speed ports multi think ctx spaced h-ports h-think =
    record {
      control =
          control_of s ctx ws changed _ _ [] spaced.wide (first_of CONTROL SLOT changed settings refl)
          (cleared_reads (block_at s ctx CONTROL) (long CONTROL (omega arith)) [] refl (λ d. (refl, refl)) tt);
      slot =
          reads_of s ctx ws SLOT settings _ spaced.wide (second_of CONTROL SLOT changed settings refl)
          (block.hub_promise (block_at s ctx SLOT) speed ports multi think (long SLOT (omega arith)) h-ports h-think);
      rest = λ k p q. other_byte s k ws ctx (two_untouched s k CONTROL SLOT changed settings p q);
    }
  where
    settings : List FieldWrite
    settings = hub_fields speed ports multi think

    ws : List Write
    ws = in_block CONTROL changed ++ in_block SLOT settings

    long : (b : ℕ) → b ≤ 32 → length (block_at s ctx b) ≡ 32
    long b = block_length s b ctx spaced

none_0 : (ws : List ℕ) → Endpoints ws → some_dci 0 ws ≡ false
none_0 ws e = go (some_dci 0 ws) refl
  where
    go : (t : Bool) → some_dci 0 ws ≡ t → t ≡ false
    go true p = let two : 2 ≤ 0 = e 0 p in absurd (omega arith)
    go false p = refl

-- A word's block, over what it was.
endpoint_from :
    (now was : List ℕ) (speed w ring : ℕ) →
    now ≡ fields_written (endpoint_fields speed (endpoint_descriptor w) ring) was →
    length was ≡ 32 →
    ring < 2 ^ 64 →
    Reads now (endpoint_reads was speed (endpoint_descriptor w) ring) (read_field was)
endpoint_from now was speed w ring e size h =
    let l = block.endpoint_promise was speed w ring size h in rw e (record { named = l.named; others = l.others })

pub configure_promise : ConfigurePromise
unfolding read_at Holds apart apart_from_all fields_of all_inside inside endpoint_of
configure_promise s speed interface alternate dropped added qs dcis ctx spaced h-interface h-alternate e-d e-a rings placed =
    record {
      control = rw control (flagged_reads was size listed refl dropped added e-d e-a (λ d. (refl, refl)) chosen);
      slot = slot;
      entries = rw slot.named.0 told;
      endpoint =
          λ xs ys w e n m.
          let b = word_dci w + 1 in
          let as-was = other_block s wide (add_all speed qs xs) ctx b (added_none speed qs (word_dci w) xs n) in
          endpoint_from (block_at s after b) (block_at s ctx b) speed w (ring_for (word_dci w) qs 0) (last xs ys w e m ∙ rw as-was)
          (block_length s b ctx spaced (room w)) (rings (word_dci w));
      last =
          λ xs ys w e m.
          let b = word_dci w + 1 in
          let before = written s (add_all speed qs xs) ctx in
          endpoint_from (block_at s after b) (block_at s before b) speed w (ring_for (word_dci w) qs 0) (last xs ys w e m)
          (block_length s b before (rw (written_length s (add_all speed qs xs) ctx) spaced) (room w)) (rings (word_dci w));
      idle =
          λ d one n.
          other_block s wide ws ctx (d + 1)
          (configure_endpoint speed interface alternate dropped added qs dcis d one ∙ added_none speed qs d added n);
      rest =
          λ k c sl h.
          other_byte s k ws ctx (configure_untouched speed interface alternate dropped added qs dcis s ctx k c sl h);
    }
  where
    wide : 32 ≤ s
    wide = spaced.wide

    ws : List Write
    ws = configure_writes speed interface alternate dropped added qs dcis

    after : List ℕ
    after = written s ws ctx

    listed : List FieldWrite
    listed = (INTERFACE-NUMBER := interface) ∷ (ALTERNATE-SETTING := alternate) ∷ []

    told : EntriesReads dropped dcis added (context_entries dropped dcis added)
    told = entries_reads dropped dcis added placed

    slot : Reads (block_at s after SLOT) ((CONTEXT-ENTRIES := context_entries dropped dcis added) ∷ []) (read_at s ctx SLOT)
    slot =
        reads_of s ctx ws SLOT _ _ wide (configure_slot speed interface alternate dropped added qs dcis (none_0 added e-a))
        (block.single_promise _ CONTEXT-ENTRIES (context_entries dropped dcis added) (block_length s SLOT ctx spaced (omega arith))
        (lit< tt, omega arith) (omega (arith, told.fits)))

    was : List ℕ
    was = block_at s ctx CONTROL

    size : length was ≡ 32
    size = block_length s CONTROL ctx spaced (omega arith)

    end : List ℕ
    end = fields_written (flags 1 added) (fields_written (flags 0 dropped) (fields_written (changed ++ listed) was))

    control : block_at s after CONTROL ≡ end
    control = control_after speed interface alternate dropped added qs dcis s ctx wide

    chosen : Holds end listed
    chosen =
        let base = block.interface_promise was interface alternate size h-interface h-alternate in
        let else = end_else was size listed refl dropped added in (
          else INTERFACE-NUMBER (lit< tt, omega arith) (omega arith) ∙ base.named.0,
          (else ALTERNATE-SETTING (lit< tt, omega arith) (omega arith) ∙ base.named.1.0, tt),
        )

    room : (w : ℕ) → word_dci w + 1 ≤ 32
    room w = omega (arith, word_dci_small w)

    last :
        (xs ys : List ℕ) (w : ℕ) →
        added ≡ xs ++ (w ∷ ys) →
        some_dci (word_dci w) ys ≡ false →
        let b = word_dci w + 1 in
        block_at s after b ≡ fields_written (endpoint_of speed qs w) (block_at s (written s (add_all speed qs xs) ctx) b)
    last xs ys w e m =
        let two : 2 ≤ word_dci w = e-a (word_dci w) (rw e (some_in xs ys w)) in
        last_after speed interface alternate dropped added qs dcis s ctx wide xs ys w e m (omega arith)
