-- The order of checks, computed: of each two that follow each other, a call in which both faults are, answered with the first one's
-- number, and the same call with the first fault mended, answered with the second one's. 01, "Who can cause an answer".
use Rattle.std.specs.Prelude.{ℕ, ◌≡◌, Bool, true, false, ◌&&◌, List, [], ◌∷◌, ◌++◌, eqb, leb, length, take, replicate, Option, Some, None}
use Rattle.def.specs.Speed.{HIGH, SUPER, SUPER-PLUS}
use Rattle.answer.specs.Answer.{number}
use Rattle.descriptor_list.specs.Lookup.{find_endpoints}
use Rattle.record_endpoint.specs.declared.endpoint_map.EndpointMap.{EndpointMap}
use Rattle.record_settings.specs.Held.{is_found, setting_words}
use Rattle.record_settings.specs.Match.{addresses_free}
use Rattle.device.specs.Ask.{asking, ask}
use Rattle.record_endpoint.specs.declared.entry.Handle.TheVariants.{Active}
use Rattle.theorem_slot.specs.Call.{Asked, brings_up, claims, commits, releases, configures, updates_hub, disconnects, left}
use Rattle.theorem_cases.specs.Added.{interrupt81, plain_companion}
use Rattle.theorem_cases.specs.Path.{Standing, device_of, table_of}
use Rattle.theorem_cases.specs.Slot.{held, lost, gone, first_alternates}

-- A call where a slot stands, lent a context, a table and a log of some lengths.
pub record Try : Type 0 where
  pub at : Standing
  pub ctx : ℕ
  pub table : ℕ
  pub log : ℕ

abbrev pub try : Standing → (ctx table log : ℕ) → Try
try at ctx table log = record { at = at; ctx = ctx; table = table; log = log }

-- The number of its answer, and how many words it logs.
pub record Told : Type 0 where
  pub number : ℕ
  pub count : ℕ

abbrev pub told : Asked → Try → Told
told asked t =
    let l =
    left asked (record { ctx = replicate t.ctx 0; log = replicate t.log 0; outcomes = replicate 64 0 })
    (device_of t.at)
    (take t.table (table_of t.at ++ replicate 32 0)) in
    record { number = number l.answer; count = l.count }

abbrev pub told_by_ask : (interface alternate : ℕ) → Try → Told
told_by_ask interface alternate t =
    record { number = number (ask (device_of t.at) t.ctx t.table t.log interface alternate).0; count = 0 }

-- Two checks that follow each other, what a call with both faults is told, and one with the second alone.
pub record Faults : Type 0 where
  pub first : ℕ
  pub second : ℕ
  pub both : Told
  pub mended : Told

abbrev pub faults : (first second : ℕ) → (both mended : Told) → Faults
faults first second both mended = record { first = first; second = second; both = both; mended = mended }

-- 12 and 1, 1 and 2, 2 and 3, and then 3 and another: what every call on a record checks first. `bad` is a record that it refuses;
-- where the slot stands at `fit`, the call has the other fault.
abbrev pub lengths : (call : Try → Told) → (bad fit : Standing) → List Faults → List Faults
lengths call bad fit rest =
    faults 12 1 (call (try bad 1055 96 64)) (call (try fit 1055 96 64))
    ∷ faults 1 2 (call (try fit 1055 97 64)) (call (try fit 1056 97 64))
    ∷ faults 2 3 (call (try fit 1056 97 63)) (call (try fit 1056 96 63))
    ∷ rest

abbrev pub then_log : (next : ℕ) → (call : Try → Told) → Standing → List Faults
then_log next call at = faults 3 next (call (try at 1056 96 63)) (call (try at 1056 96 64)) ∷ []

-- Not usable, as after a cut.
abbrev pub unusable : Standing
unusable = lost Active Active Active

-- Unplugged.
abbrev pub empty : Standing
empty = gone first_alternates []

-- All given rings are in use: none can be drawn.
abbrev pub crowded : Standing
crowded = record held { given = 64 ∷ 48 ∷ 32 ∷ 16 ∷ [] }

-- Interface 2, alternate 0 lists 0x81, which interface 0 has. With the other fault mended it is alternate 1, which lists 0x85.
abbrev pub claim_faults : List Faults
claim_faults =
    lengths (told (claims 9 0)) unusable held (then_log 8 (told (claims 9 0)) held)
    ++ (faults 9 21 (told (claims 2 0) (try crowded 1056 96 64)) (told (claims 2 1) (try crowded 1056 96 64)) ∷ [])

abbrev pub ask_faults : List Faults
ask_faults =
    lengths (told_by_ask 9 0) unusable held (then_log 8 (told_by_ask 9 0) held)
    ++ (faults 9 21 (told_by_ask 2 0 (try crowded 1056 96 64)) (told_by_ask 2 1 (try crowded 1056 96 64)) ∷ [])

-- What no ask returned: no flag and no ring.
abbrev pub told_by_commit : (interface alternate : ℕ) → Try → Told
told_by_commit interface alternate = told (commits (asking interface alternate 0 0 []))

abbrev pub commit_faults : List Faults
commit_faults =
    lengths (told_by_commit 9 0) unusable held (then_log 8 (told_by_commit 9 0) held)
    ++ (faults 9 21 (told_by_commit 2 0 (try crowded 1056 96 64)) (told_by_commit 2 1 (try crowded 1056 96 64))
    ∷ faults 21 22 (told_by_commit 2 1 (try crowded 1056 96 64)) (told_by_commit 2 1 (try held 1056 96 64))
    ∷ [])

-- Interface 2 holds nothing, and its alternate 0 lists 0x81, which interface 0 has. With each fault before it, too.
abbrev pub release_faults : List Faults
release_faults =
    let unclaimed = told (releases 2) in
    lengths unclaimed unusable held (then_log 25 unclaimed held)
    ++ (faults 12 25 (unclaimed (try unusable 1056 96 64)) (unclaimed (try held 1056 96 64))
    ∷ faults 1 25 (unclaimed (try held 1055 96 64)) (unclaimed (try held 1056 96 64))
    ∷ faults 2 25 (unclaimed (try held 1056 97 64)) (unclaimed (try held 1056 96 64))
    ∷ [])

abbrev pub set_faults : List Faults
set_faults = lengths (told (configures 2)) unusable held []

abbrev pub hub_faults : List Faults
hub_faults = lengths (told (updates_hub 4 false 1)) unusable held (then_log 7 (told (updates_hub 4 false 1)) held)

-- An unplugging takes an unusable record that is up, and refuses one that is not.
abbrev pub unplugging_faults : List Faults
unplugging_faults = lengths (told disconnects) empty unusable []

-- A bring-up of a slot, at a speed, below a parent, with some rings and a list.
abbrev pub asked_of : (slot speed : ℕ) (parent : Option ℕ) (rings list : List ℕ) → Asked
asked_of slot speed parent rings list =
    brings_up
    (record {
      slot = slot;
      max_slots = 2;
      speed = speed;
      hubs = [];
      parent = parent;
      port = 1;
      root_port = 1;
      rings = rings;
      header = 8;
      packet = 64;
      value = 5;
      list = list;
    })

-- One in which nothing is wrong, and what is lent to it.
abbrev pub right : Asked
right = asked_of 1 HIGH None (16 ∷ []) []

abbrev pub fit : Try
fit = try empty 1056 96 64

-- The faults: slot 3 of 2, speed 6, a list that begins with an alternate or a companion, an endpoint without a companion or a companion
-- without an endpoint, a parent that is not in the list of hubs, ring 8, and a slot that has a control route.
abbrev pub without : List ℕ
without = 0 ∷ 0x40000000 ∷ interrupt81 ∷ []

abbrev pub bring_up_faults : List Faults
bring_up_faults =
    faults 11 1 (told (asked_of 3 HIGH None (16 ∷ []) []) (try empty 1055 96 64)) (told right (try empty 1055 96 64))
    ∷ faults 1 2 (told right (try empty 1055 97 64)) (told right (try empty 1056 97 64))
    ∷ faults 2 3 (told right (try empty 1056 97 63)) (told right (try empty 1056 96 63))
    ∷ faults 3 6 (told (asked_of 1 6 None (16 ∷ []) []) (try empty 1056 96 63)) (told (asked_of 1 6 None (16 ∷ []) []) fit)
    ∷ faults 6 4 (told (asked_of 1 6 None (16 ∷ []) (0x40000000 ∷ [])) fit) (told (asked_of 1 HIGH None (16 ∷ []) (0x40000000 ∷ [])) fit)
    ∷ faults 4 26 (told (asked_of 1 SUPER None (16 ∷ []) (0x40000000 ∷ interrupt81 ∷ [])) fit) (told (asked_of 1 SUPER None (16 ∷ []) without) fit)
    ∷ faults 4 26 (told (asked_of 1 SUPER-PLUS None (16 ∷ []) (plain_companion ∷ [])) fit)
    (told (asked_of 1 SUPER-PLUS None (16 ∷ []) (0 ∷ plain_companion ∷ [])) fit)
    ∷ faults 26 5 (told (asked_of 1 SUPER (Some 0) (16 ∷ []) without) fit) (told (asked_of 1 SUPER (Some 0) (16 ∷ []) []) fit)
    ∷ faults 4 5 (told (asked_of 1 HIGH (Some 0) (16 ∷ []) (0x40000000 ∷ [])) fit) (told (asked_of 1 HIGH (Some 0) (16 ∷ []) []) fit)
    ∷ faults 5 10 (told (asked_of 1 HIGH (Some 0) (8 ∷ []) []) fit) (told (asked_of 1 HIGH None (8 ∷ []) []) fit)
    ∷ faults 10 17 (told (asked_of 1 HIGH None (8 ∷ []) []) (try held 1056 96 64)) (told right (try held 1056 96 64))
    ∷ []

-- By call. 8 has no pair with 9 or 21 (NotFoundAlone).
abbrev pub fault_table : List Faults
fault_table =
    bring_up_faults ++ (claim_faults ++ (ask_faults ++ (commit_faults ++ (release_faults ++ (set_faults ++ (hub_faults ++ unplugging_faults))))))

abbrev pub faults_hold : Faults → Bool
faults_hold f =
    (eqb f.both.number f.first && eqb f.both.count 0) && (eqb f.mended.number f.second && eqb f.mended.count 0)

abbrev pub all_faults : List Faults → Bool
all_faults [] = true
all_faults (f ∷ fs) = faults_hold f && all_faults fs

-- Where an alternate is not found, no address of it is another interface's, and there are rings enough.
abbrev pub NotFoundAlone : Type 0
NotFoundAlone =
    (list : List ℕ) (interface alternate : ℕ) (c : EndpointMap) (free : ℕ) →
    is_found (find_endpoints list interface alternate) ≡ false →
    let words = setting_words list interface alternate in
    (addresses_free words interface c ≡ true) × (leb (length words) free ≡ true)
