-- 01's worked examples, held against the definitions that the contracts name.
use Rattle.std.specs.Prelude.{ℕ, ◌+◌, ◌*◌, ◌^◌, Bool, true, false, cond, ◌&&◌, List, [], ◌∷◌, eqb, take, replicate, Option, Some, None}
use Rattle.def.specs.Speed.{HIGH, SUPER, SUPER-PLUS}
use Rattle.descriptor.specs.Word.{with_companion}
use Rattle.hub.specs.declared.hub_word.HubInfo.{HubInfo}
use Rattle.hub.specs.Chain.{chain_ok}
use Rattle.hub.specs.Route.{route_string}
use Rattle.hub.specs.ThinkTime.{think_time}
use Rattle.context_field.specs.Field.{word_at}
use Rattle.context_block.specs.Fields.{CONTEXT-ENTRIES}
use Rattle.context.specs.Place.{SLOT, block_at, read_at}
use Rattle.answer.specs.Answer.{number, code_of}
use Rattle.record_settings.specs.Held.{is_held, alternate_of}
use Rattle.device.specs.Calls.{hub_update}
use Rattle.device.specs.Claim.{claim}
use Rattle.device.specs.Disconnect.{disconnect}
use Rattle.device.specs.Device.{held_of, no_device}
use Rattle.device.specs.Ask.{asking, commit}
use Rattle.device.specs.Left.{Left}
use Rattle.device.specs.Release.{release}
use Rattle.device.specs.SetConfiguration.{set_configuration}
use Rattle.device_bring_up.specs.BringUp.{bring_up}
use Rattle.theorem_cases.specs.Added.{word_of, interrupt81, interrupt8_f, companion, plain_companion, added_holds}
use Rattle.theorem_cases.specs.Example.{list, super_list, given, asked, usual, ctx, log, free, done, alone, brought_up, second}

-- One example: what is given, and what 01 expects.
pub data Case : Type 0 where
  route : (hubs : List ℕ) (parent : Option ℕ) (port expected : ℕ) → Case
  think : (ns expected : ℕ) → Case
  added : (spacing speed word ring first second fifth entries : ℕ) → Case
  -- what a claim of Dci 3 leaves at a spacing: doublewords 0, 1 and 4 of its block, and the entries
  claimed : (spacing : ℕ) (left : Left) (first second fifth entries : ℕ) → Case
  -- what a call leaves at a spacing: the entries
  has_entries : (spacing : ℕ) (left : Left) (entries : ℕ) → Case
  -- what a call leaves; the words that it logs, and the alternate that interface 0 holds after it
  logged : (left : Left) (words : List ℕ) (alternate : ℕ) → Case
  -- what an unplugging leaves; the words that it logs, and the number of its answer
  unplugs : (left : Left) (words : List ℕ) (expected : ℕ) → Case
  -- what a call leaves; 01's number of its answer, and the code
  answered : (left : Left) (expected code : ℕ) → Case

abbrev pub bit : Bool → ℕ
bit b = cond b 1 0

-- A hub's fields, packed most significant first.
abbrev pub hub_word : HubInfo → ℕ
hub_word h =
    bit h.present * 2 ^ 63
    + bit h.has_parent * 2 ^ 62
    + h.parent * 2 ^ 54
    + h.slot_id * 2 ^ 46
    + h.depth_plus_one * 2 ^ 43
    + h.speed * 2 ^ 40
    + h.port_id * 2 ^ 32
    + bit h.multi * 2 ^ 31
    + h.unused

-- Where each hub below stands in the list.
abbrev pub root : ℕ
root = 0

abbrev pub outer : ℕ
outer = 1

abbrev pub inner : ℕ
inner = 2

abbrev pub root_hub : HubInfo
root_hub =
    record {
      present = true;
      has_parent = false;
      parent = 0;
      slot_id = 0;
      depth_plus_one = 0;
      speed = SUPER;
      port_id = 0;
      multi = false;
      unused = 0;
    }

-- On port 3 of the root hub.
abbrev pub outer_hub : HubInfo
outer_hub =
    record {
      present = true;
      has_parent = true;
      parent = root;
      slot_id = 1;
      depth_plus_one = 1;
      speed = HIGH;
      port_id = 3;
      multi = false;
      unused = 0;
    }

-- On port 4 of the outer hub.
abbrev pub inner_hub : HubInfo
inner_hub =
    record {
      present = true;
      has_parent = true;
      parent = outer;
      slot_id = 2;
      depth_plus_one = 2;
      speed = HIGH;
      port_id = 4;
      multi = false;
      unused = 0;
    }

abbrev pub hubs : List ℕ
hubs = hub_word root_hub ∷ hub_word outer_hub ∷ hub_word inner_hub ∷ []

-- Interface 0 holds alternate 0, and alternate 1 is claimed; the SetInterface fails. (A constant would be computed whole, its context too.)
abbrev pub switched : Left → Left
switched l = claim l.device ctx l.routes log (0 ∷ 0 ∷ 7 ∷ 0 ∷ 0 ∷ []) 0 1

-- The first claim, of interrupt 0x81, after a bring-up at a spacing; its context is all zeros before.
abbrev pub first_claim_at : (spacing : ℕ) → Left
first_claim_at spacing =
    let l = bring_up usual (replicate (33 * spacing) 0) free log done in
    claim l.device (replicate (33 * spacing) 0) l.routes log done 0 0

-- The same at SuperSpeed, with its companion.
abbrev pub super_claim_at : (spacing : ℕ) → Left
super_claim_at spacing =
    let l = bring_up (record (asked 1 SUPER 8 None super_list) { packet = 9 }) (replicate (33 * spacing) 0) free log done in
    claim l.device (replicate (33 * spacing) 0) l.routes log done 0 0

-- One where the device has a ring for control and one for an endpoint: a companion takes none.
abbrev pub super_pair : Left
super_pair =
    let l = bring_up (record (given (32 ∷ 16 ∷ []) 1 SUPER 8 None super_list) { packet = 9 }) ctx free log done in
    claim l.device ctx l.routes log done 0 0

-- And released again: nothing is left.
abbrev pub released : (spacing : ℕ) → Left
released spacing = let l = first_claim_at spacing in release l.device l.ctx l.routes log done 0

-- A claim of interrupt 0x8F, whose Dci is 31.
abbrev pub last : (spacing : ℕ) → Left
last spacing =
    let l = bring_up (asked 1 HIGH 8 None (0x00400000 ∷ 0x40000000 ∷ interrupt8_f ∷ [])) (replicate (33 * spacing) 0) free log done in
    claim l.device (replicate (33 * spacing) 0) l.routes log done 0 0

-- 01's cases, after them a call for each answer from 0 to 19, 21, 22, 25 and 26, and unpluggings. The ring of the added endpoint is any.
abbrev pub cases : (ring : ℕ) → List Case
cases ring =
    route hubs (Some outer) 7 0x7
    ∷ route hubs (Some inner) 2 0x24
    ∷ route hubs (Some outer) 20 0xF
    ∷ route hubs None 7 0
    ∷ think 0 0
    ∷ think 666 0
    ∷ think 1331 0
    ∷ think 1332 1
    ∷ think 3329 3
    ∷ added 32 HIGH interrupt81 ring 0x00030000 0x0040003E 0x00400040 3
    ∷ added 64 HIGH interrupt81 ring 0x00030000 0x0040003E 0x00400040 3
    ∷ added 32 HIGH interrupt8_f ring 0x00030000 0x0040003E 0x00400040 31
    ∷ claimed 32 (first_claim_at 32) 0x00030000 0x0040003E 0x00400040 3
    ∷ claimed 64 (first_claim_at 64) 0x00030000 0x0040003E 0x00400040 3
    ∷ added 32 SUPER (with_companion (word_of 1 1 1 64 1 4) (companion 5 2 0x123)) ring 0x00030200 0x00400528 0x01230123 3
    ∷ added 64 SUPER-PLUS (with_companion (word_of 1 1 1 64 1 4) (companion 5 2 0x123)) ring 0x00030200 0x00400528 0x01230123 3
    ∷ added 32 SUPER (with_companion (word_of 1 1 2 64 1 0) plain_companion) ring 0x00000000 0x00400536 0x00000000 3
    ∷ claimed 32 (super_claim_at 32) 0x00030000 0x0040053E 0x01230123 3
    ∷ claimed 64 (super_claim_at 64) 0x00030000 0x0040053E 0x01230123 3
    ∷ has_entries 32 (released 32) 1
    ∷ has_entries 64 (released 64) 1
    ∷ has_entries 32 (last 32) 31
    ∷ has_entries 64 (last 64) 31
    ∷ has_entries 32 (switched second) 3
    ∷ logged (switched second) (0x40300000 ∷ 0x30000000 ∷ 0x60001000 ∷ 0x30000000 ∷ 0x60000000 ∷ []) 0
    ∷ answered (switched second) 13 7
    ∷ answered second 0 0
    ∷ answered (bring_up usual (replicate 1055 0) free log done) 1 0
    ∷ answered (bring_up usual ctx (replicate 63 0) log done) 2 0
    ∷ answered (bring_up usual ctx free (replicate 63 0) done) 3 0
    ∷ answered (bring_up (asked 1 HIGH 8 None (0xC0000000 ∷ [])) ctx free log done) 4 0
    ∷ answered (bring_up (asked 1 HIGH 8 None super_list) ctx free log done) 4 0
    ∷ answered (bring_up (asked 1 HIGH 8 (Some 0) list) ctx free log done) 5 0
    ∷ answered (bring_up (asked 1 6 8 None list) ctx free log done) 6 0
    ∷ answered (hub_update second.device ctx second.routes log done 4 false 1) 7 0
    ∷ answered (claim second.device ctx second.routes log done 2 0) 8 0
    ∷ answered (claim second.device ctx second.routes log done 1 0) 9 0
    ∷ answered (bring_up (given (32 ∷ 16 ∷ 32 ∷ []) 1 HIGH 8 None list) ctx free log done) 10 0
    ∷ answered (bring_up (asked 0 HIGH 8 None list) ctx free log done) 11 0
    ∷ answered (release no_device ctx free log done 0) 12 0
    ∷ answered (set_configuration second.device ctx second.routes log (0 ∷ 7 ∷ 0 ∷ []) 1) 13 7
    ∷ answered (claim second.device ctx second.routes log (0 ∷ 0 ∷ 7 ∷ 5 ∷ []) 0 1) 14 0
    ∷ answered (release second.device ctx second.routes log [] 0) 15 0
    ∷ answered (bring_up (asked 1 HIGH 4 None list) ctx free log done) 16 0
    ∷ answered (bring_up usual ctx brought_up.routes log done) 17 0
    ∷ answered (release second.device ctx free log done 0) 18 0
    ∷ answered (bring_up (asked 1 SUPER 8 None super_list) ctx free log done) 19 0
    ∷ answered super_pair 0 0
    ∷ answered (claim alone.device ctx alone.routes log done 0 0) 21 0
    ∷ answered (commit second.device ctx second.routes log done (asking 0 1 0 0 [])) 22 0
    ∷ answered (commit alone.device ctx alone.routes log done (asking 0 0 0 0 [])) 21 0
    ∷ answered (release second.device ctx second.routes log done 1) 25 0
    ∷ answered (release second.device ctx second.routes log done 9) 25 0
    ∷ answered (bring_up (asked 1 SUPER 8 None list) ctx free log done) 26 0
    ∷ answered (bring_up (asked 1 SUPER-PLUS 8 None list) ctx free log done) 26 0
    ∷ unplugs (disconnect second.device ctx second.routes log done) (0x40100000 ∷ 0x40300000 ∷ 0xC0000000 ∷ []) 0
    ∷ unplugs (disconnect second.device ctx second.routes log (0 ∷ 7 ∷ 9 ∷ [])) (0x40100000 ∷ 0x40300000 ∷ 0xC0000000 ∷ []) 14
    ∷ unplugs (disconnect second.device ctx second.routes log (5 ∷ 0 ∷ [])) (0x40100000 ∷ 0x40300000 ∷ 0xC0000000 ∷ []) 15
    ∷ unplugs (disconnect second.device ctx second.routes log []) (0x40100000 ∷ []) 15
    ∷ unplugs (disconnect no_device ctx free log done) [] 12
    ∷ []

abbrev pub is_value : ℕ → Option ℕ → Bool
is_value expected (Some v) = eqb v expected
is_value expected None = false

abbrev pub same_words : List ℕ → List ℕ → Bool
same_words [] [] = true
same_words [] (w ∷ ws) = false
same_words (v ∷ vs) [] = false
same_words (v ∷ vs) (w ∷ ws) = eqb v w && same_words vs ws

abbrev pub case_holds : Case → Bool
case_holds (route hubs parent port expected) = chain_ok hubs parent && eqb (route_string hubs parent port) expected
case_holds (think ns expected) = is_value expected (think_time ns)
case_holds (added spacing speed word ring first second fifth entries) =
    added_holds spacing speed word ring first second fifth entries
case_holds (claimed spacing left first second fifth entries) =
    let block = block_at spacing left.ctx 4 in
    eqb (word_at block 0) first
    && (eqb (word_at block 1) second
    && (eqb (word_at block 4) fifth && eqb (read_at spacing left.ctx SLOT CONTEXT-ENTRIES) entries))
case_holds (has_entries spacing left entries) = eqb (read_at spacing left.ctx SLOT CONTEXT-ENTRIES) entries
case_holds (logged left words alternate) =
    same_words (take left.count left.log) words
    && (is_held 0 (held_of left.device) && eqb (alternate_of 0 (held_of left.device)) alternate)
case_holds (unplugs left words expected) =
    same_words (take left.count left.log) words && eqb (number left.answer) expected
case_holds (answered left expected code) = eqb (number left.answer) expected && eqb (code_of left.answer) code

abbrev pub all_hold : List Case → Bool
all_hold [] = true
all_hold (c ∷ cs) = case_holds c && all_hold cs
