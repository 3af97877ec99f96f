-- One turn of each loop over rings.
use Prim.Native.Nat.{ℕ, suc, ◌+◌, ◌-◌, ◌≤◌, ◌<◌}
use mathlib.Core.Path.{◌≡◌, refl, sym, ap, ◌∙◌}
use mathlib.Core.Bool.{true, false, cond}
use mathlib.Core.List.{List, [], ◌∷◌, ◌++◌}
use native.Mathlib.Numerals.{add-one}
use native.Mathlib.Omega.{arith}
use borrow.Author.Tests.{le-leb, lt-leb}
use lib.ListN.{length, get_or, set, take, drop, replicate, length-append, length-set, length-take, length-drop, drop_of_length-le}
use lib.Seq.{take-suc, take-suc-set, length-take-le, take-append_seam, take-length, get_or-append_seam, drop-cons}
use Rattle.laws.specs.Distinct.{elem}
use Rattle.answer.specs.declared.Answer.{Answer}
use Rattle.answer.specs.declared.Answer.TheVariants as answer
use Rattle.answer.specs.Check.{Check, Pass, Refuse, check_of, CheckedAs}
use Rattle.std.proofs.Common.{Option, Some, None, Result, Ok, Err}
use Rattle.descriptor_list.specs.declared.EndpointWords.{EndpointWords}
use Rattle.descriptor_list.specs.Lookup.{find_endpoints}
use Rattle.descriptor_list.proofs.Laws.{found_inside}
use Rattle.record_ring.specs.Rings.{entered}
use Rattle.record_ring.proofs.Entered.{entered_longer}
use Rattle.record_endpoint.specs.declared.entry.Endpoint.{Endpoint}
use Rattle.record_endpoint.specs.declared.endpoint_map.EndpointMap.{EndpointMap}
use Rattle.record_endpoint.specs.Endpoint.{blank, rings_of, padded}
use Rattle.record_endpoint.proofs.Laws.{padded_next}
use Rattle.record_endpoint.proofs.Clean.{padded_length}
use Rattle.record_settings.specs.Held.{found_words, setting_words}
use Rattle.record_settings.specs.Match.{addresses_free}
use Rattle.record_checks.specs.Draw.{draw_check}
use Rattle.record_checks.specs.declared.quarantine.Quarantine.{Quarantine}
use Rattle.record_checks.specs.Rings.{quarantined_by, QuarantinedAs}

pub rings_length : (es : List Endpoint) → length (rings_of es) ≡ length es
unfolding rings_of
rings_length [] = refl
rings_length (e ∷ es) = ap suc (rings_length es)

rings_append : (es fs : List Endpoint) → rings_of (es ++ fs) ≡ rings_of es ++ rings_of fs
unfolding rings_of
rings_append [] fs = refl
rings_append (e ∷ es) fs = rw (rings_append es fs)

-- the rings of n endpoints of an array
pub rings_count : (eps : List Endpoint) (n : ℕ) → n ≤ length eps → length (rings_of (take n eps)) ≡ n
rings_count eps n h = rings_length (take n eps) ∙ length-take-le n eps h

-- Control's ring and those of i endpoints at the front of an array.
pub record Gathered (eps : List Endpoint) (control : ℕ) (rings : List ℕ) (i : ℕ) : Type 0 where
  pub room : length rings ≡ 61
  pub written : take (i + 1) rings ≡ control ∷ rings_of (take i eps)

-- one more
pub gather_next : {eps : List Endpoint} {control : ℕ} {rings : List ℕ} {i : ℕ} → Gathered eps control rings i → length eps ≤ 30 → i < length eps →
    Gathered eps control (set rings (i + 1) (get_or eps i blank).ring) (i + 1)
unfolding rings_of
gather_next {eps} {control} {rings} {i} g m h =
    let r : length rings ≡ 61 = g.room in
    let x : ℕ = (get_or eps i blank).ring in
    record {
      room = length-set rings (i + 1) x ∙ r;
      written =
          rw (add-one (i + 1), take-suc-set rings (i + 1) x (omega arith), g.written, add-one i, take-suc eps i blank h, rings_append);
    }

-- all
pub gather_all : {eps : List Endpoint} {control : ℕ} {rings : List ℕ} {i : ℕ} → Gathered eps control rings i → i ≤ length eps → length eps ≤ i →
    (length rings ≡ 61) × (take (length eps + 1) rings ≡ control ∷ rings_of eps)
gather_all {eps} {control} {rings} {i} g p q =
    let e : i ≡ length eps = omega arith in
    let f : take i eps ≡ eps = rw e (take-length eps) in
    (g.room, rw (← e) (rw f at g.written))

-- one more ring after those that an array holds
padded_put : (l : List ℕ) (n r : ℕ) → length l ≡ n → n < 61 → set (padded 61 0 l) n r ≡ padded 61 0 (l ++ (r ∷ []))
padded_put l n r e h =
    let m = l ++ (r ∷ []) in
    let s : length m ≡ length l + 1 = length-append l (r ∷ []) in
    let p : set (padded 61 0 (take (length l) m)) (length l) (get_or m (length l) 0) ≡ padded 61 0 (take (length l + 1) m) =
    padded_next 61 0 m (length l) (omega arith) (omega arith) in
    rw (← e) (rw (take-append_seam l (r ∷ []), get_or-append_seam l r [] 0, ← s, take-length m) at p)

-- A quarantine, and a ring after its last.
module _ (q : Quarantine) where
  quarantine_long : length (quarantined_by q) ≡ q.count
  quarantine_long =
      let short : length (quarantined_by q) ≤ 61 = omega (arith, length-take q.count q.rings, q.fits) in
      length-take-le q.count q.rings (omega (arith, ap length q.zeros, padded_length 61 0 (quarantined_by q) short, q.fits))

  module _ (ring : ℕ) (room : q.count < 61) where
    pushed : set q.rings q.count ring ≡ padded 61 0 (quarantined_by q ++ (ring ∷ []))
    pushed = ap (λ l. set l q.count ring) q.zeros ∙ padded_put (quarantined_by q) q.count ring quarantine_long room

    pub push_list : take (q.count + 1) (set q.rings q.count ring) ≡ quarantined_by q ++ (ring ∷ [])
    unfolding padded
    push_list =
        let all = quarantined_by q ++ (ring ∷ []) in
        let n : length all ≡ q.count + 1 = omega (arith, length-append (quarantined_by q) (ring ∷ []), quarantine_long) in
        rw (pushed, ← n) (take-append_seam all (replicate (61 - length all) 0))

    pub push_zeros : set q.rings q.count ring ≡ padded 61 0 (take (q.count + 1) (set q.rings q.count ring))
    push_zeros = pushed ∙ ap (padded 61 0) (sym push_list)

-- The i-th of some rings entering it.
module _ (all : List ℕ) (i : ℕ) (q : Quarantine) (h : i < length all) where
  turn :
      entered (quarantined_by q) (drop i all)
      ≡ entered (cond (elem (get_or all i 0) (quarantined_by q)) (quarantined_by q) (quarantined_by q ++ (get_or all i 0 ∷ []))) (drop (i + 1) all)
  unfolding entered
  turn = rw (add-one i, drop-cons all i 0 h)

  -- one that is there already
  pub enter_old :
      elem (get_or all i 0) (quarantined_by q) ≡ true → entered (quarantined_by q) (drop i all) ≡ entered (quarantined_by q) (drop (i + 1) all)
  enter_old t = turn ∙ rw t

  -- one that is not
  module _ (t : elem (get_or all i 0) (quarantined_by q) ≡ false) where
    pub enter_new :
        entered (quarantined_by q) (drop i all) ≡ entered (quarantined_by q ++ (get_or all i 0 ∷ [])) (drop (i + 1) all)
    enter_new = turn ∙ rw t

    pub enter_room : length (entered (quarantined_by q) (drop i all)) ≤ 61 → q.count < 61
    enter_room room =
        let more = quarantined_by q ++ (get_or all i 0 ∷ []) in
        let l : length more ≤ length (entered (quarantined_by q) (drop i all)) = rw enter_new (entered_longer more (drop (i + 1) all)) in
        omega (arith, l, quarantine_long q, length-append (quarantined_by q) (get_or all i 0 ∷ []))

pub enter_end : (all : List ℕ) (i : ℕ) (held : List ℕ) → length all ≤ i → entered held (drop i all) ≡ held
unfolding entered
enter_end all i held h = rw (drop_of_length-le all h)

-- Some rings enter after others.
entered_append : (held rs ss : List ℕ) → entered held (rs ++ ss) ≡ entered (entered held rs) ss
unfolding entered
entered_append held [] ss = refl
entered_append held (r ∷ rs) ss = entered_append (cond (elem r held) held (held ++ (r ∷ []))) rs ss

-- The quarantined rings, control's and the live ones, one after another.
module _ (q live : List ℕ) (control : ℕ) where
  pub enter_all : entered [] (q ++ (control ∷ live)) ≡ entered (entered (entered [] q) (control ∷ [])) live
  enter_all = entered_append [] q (control ∷ live) ∙ entered_append (entered [] q) (control ∷ []) live

  module _ (room : length (entered [] (q ++ (control ∷ live))) ≤ 61) where
    pub enter_second : length (entered (entered [] q) (control ∷ [])) ≤ 61
    enter_second = omega (arith, ap length enter_all, entered_longer (entered (entered [] q) (control ∷ [])) live, room)

    pub enter_first : length (entered [] q) ≤ 61
    enter_first = omega (arith, entered_longer (entered [] q) (control ∷ []), enter_second)

pub quarantined_as : (q : Quarantine) (rings : List ℕ) → quarantined_by q ≡ rings → QuarantinedAs q rings
quarantined_as q rings e =
    record { rings_are = q.zeros ∙ ap (padded 61 0) e; counted = sym (quarantine_long q) ∙ ap length e }

-- A part of a list is as long as it is said to be.
pub part_count : (l : List ℕ) (start count : ℕ) → start + count ≤ length l → length (take count (drop start l)) ≡ count
part_count l start count h = length-take-le count (drop start l) (rw (length-drop start l) (omega arith))

-- `draw_check`
refused_as : (a : Answer) (k : Check) (f : Option EndpointWords) → Refuse a ≡ k → CheckedAs (Err a) k f
unfolding check_of
refused_as a k f e = record { check = e; value = λ words p. cc }

module _ (list : List ℕ) (i a : ℕ) (c : EndpointMap) (rings : ℕ) where
  abbrev Drawn : Result EndpointWords Answer → Type 0
  Drawn r = CheckedAs r (draw_check list i a c rings Pass) (find_endpoints list i a)

  pub not_found : find_endpoints list i a ≡ None → Drawn (Err answer.NotFound)
  not_found e = refused_as _ _ _ (sym (rw e))

  module _ (f : EndpointWords) (e : find_endpoints list i a ≡ Some f) where
    pub not_free : addresses_free (take f.count (drop f.start list)) i c ≡ false → Drawn (Err answer.InvalidParameter)
    unfolding setting_words found_words
    not_free n = refused_as _ _ _ (sym (rw (e, n)))

    module _ (free : addresses_free (take f.count (drop f.start list)) i c ≡ true) where
      counted : length (take f.count (drop f.start list)) ≡ f.count
      counted = part_count list f.start f.count (found_inside list i a f e)

      pub too_few : rings < f.count → Drawn (Err answer.TooFewRings)
      unfolding setting_words found_words
      too_few n = refused_as _ _ _ (sym (rw (e, free, counted, lt-leb f.count rings n)))

      pub passes : f.count ≤ rings → Drawn (Ok f)
      unfolding setting_words found_words check_of
      passes n = record { check = sym (rw (e, free, counted, le-leb f.count rings n)); value = λ words p. cc }
