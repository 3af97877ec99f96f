-- The promises of specs/Promises.antt.
use Prim.Native.Nat.{ℕ, zero, suc, ◌≤◌, ◌<◌}
use mathlib.Core.Path.{◌≡◌, refl}
use mathlib.Core.Bool.{Bool, true, false, not, ◌&&◌, ◌||◌, and-false}
use mathlib.Core.List.{List, [], ◌∷◌}
use Rattle.std.proofs.Common.{Result, Ok, Err}
use native.Mathlib.Omega.{arith}
use borrow.Author.Tests.{le-leb, lt-leb, leb-true}
use lib.Dec.{leb}
use lib.ListN.{length, get_or}
use Rattle.laws.proofs.Tests.{and_left, and_right, and-true}
use Rattle.def.specs.Speed.{speed_known, is_super}
use Rattle.descriptor_list.specs.Companions.{joined, companions_ok, list_ok, paired_after, paired, companions_fit, valid_at}
use Rattle.descriptor.specs.Word.{kind}
use Rattle.descriptor_list.specs.Valid.{begins_with_configuration, words_ok, runs_fit, configurations, interfaces, valid_list}
use Rattle.descriptor_list.proofs.Companions.{listed}
use Rattle.function_answer.specs.declared.Refusal.{Refusal}
use Rattle.function_answer.specs.declared.Refusal.TheVariants.{TooShort, Speed, DescriptorList, Companion, Malformed}
use Rattle.function_answer.specs.Answer.{Left, accepts, unless}
use Rattle.function_answer.proofs.Kept.{accepted_kept, unless_kept}
use Rattle.descriptor_raw.specs.Descriptor.{MAX-BURST, byte_at, is_companion}
use Rattle.descriptor_raw.specs.Read.{descriptors, all_whole, all_borne_out, well_formed, words_of, all_words, settled_after, read_words, burst_fits, bursts_fit, read_descriptors}
use Rattle.descriptor_raw.specs.Write.{packets_given, written_bytes, write_descriptors}
use Rattle.descriptor_raw.specs.Promises.{WrittenPromise, ReadPromise, BurstPromise, Other, OthersPromise, KeptPromise}
use Rattle.descriptor_raw.proofs.Valid.{valid_each}
use Rattle.descriptor_raw.proofs.Written.{Writable, written_well_formed, written_words, written_bursts, written_short}
use Rattle.descriptor_raw.proofs.Yielded.{Fine, yielded_fine}

comes_back : WrittenPromise
unfolding read_descriptors write_descriptors valid_at companions_fit
comes_back speed list buffer words known small v p room space =
    let g : Writable (is_super speed) list = record { small = small; words = valid_each speed list v; packets = p } in
    let l : list_ok speed list ≡ true = and_left (list_ok speed list) _ v in
    let q = and_right (list_ok speed list) _ v in
    record {
      written = rw (le-leb 2304 (length buffer) room, known, l, q, p);
      fits = omega (arith, written_short list, (listed speed list v).short);
      read =
          rw (
            le-leb 256 (length words) space,
            known,
            written_well_formed (is_super speed) list g,
            written_words (is_super speed) list g q,
            l,
            written_bursts (is_super speed) list,
            q,
          );
    }

-- What an accepted reading has passed.
record Passed (speed : ℕ) (bytes words : List ℕ) (count : ℕ) : Type 0 where
  pub space : 256 ≤ length words
  pub known : speed_known speed ≡ true
  pub formed : well_formed (is_super speed) (descriptors bytes) ≡ true
  pub list : list_ok speed (read_words (is_super speed) bytes) ≡ true
  bursts : bursts_fit (is_super speed) (descriptors bytes) ≡ true
  pub companions : companions_fit speed (read_words (is_super speed) bytes) ≡ true
  pub counted : count ≡ length (read_words (is_super speed) bytes)

unless_passed : (holds : Bool) (refusal : Refusal) (buffer : List ℕ) (next : Left) (count : ℕ) →
    (unless holds refusal buffer next).answer ≡ Ok count → (holds ≡ true) × (next.answer ≡ Ok count)
unless_passed true refusal buffer next count e = (refl, e)
unless_passed false refusal buffer next count e = let q : ◌≡◌ {A = Result ℕ Refusal} (Err refusal) (Ok count) = e in absurd (cc)

passed : (speed : ℕ) (bytes words : List ℕ) (count : ℕ) → (read_descriptors speed bytes words).answer ≡ Ok count → Passed speed bytes words count
unfolding read_descriptors
passed speed bytes words count e =
    let a = unless_passed (leb 256 (length words)) TooShort words _ count e in
    let b = unless_passed (speed_known speed) Speed words _ count a.1 in
    let c = unless_passed (well_formed (is_super speed) (descriptors bytes)) Malformed words _ count b.1 in
    let d = unless_passed (list_ok speed (read_words (is_super speed) bytes)) DescriptorList words _ count c.1 in
    let f = bursts_fit (is_super speed) (descriptors bytes) in
    let g = unless_passed (f && companions_fit speed (read_words (is_super speed) bytes)) Companion words _ count d.1 in
    let h : ◌≡◌ {A = Result ℕ Refusal} (Ok (length (read_words (is_super speed) bytes))) (Ok count) = g.1 in
    record {
      space = leb-true 256 _ a.0;
      known = b.0;
      formed = c.0;
      list = d.0;
      bursts = and_left f _ g.0;
      companions = and_right f _ g.0;
      counted = cc;
    }

reads : ReadPromise
unfolding read_descriptors well_formed valid_at
reads speed bytes words buffer count b e room =
    let p = passed speed bytes words count e in
    let super = is_super speed in
    let f : Fine (read_words super bytes) =
    yielded_fine super bytes b (and_right (all_whole super (descriptors bytes)) (all_borne_out (descriptors bytes)) p.formed) in
    let v : valid_at speed (read_words super bytes) ≡ true = and-true (list_ok speed (read_words super bytes)) _ p.list p.companions in
    record {
      counted = p.counted;
      left = rw (le-leb 256 (length words) p.space, p.known, p.formed, p.list, p.bursts, p.companions);
      valid = v;
      again = comes_back speed (read_words super bytes) buffer words p.known f.small v f.packets room p.space;
    }

module _ (speed : ℕ) where
  no_words : (ds : List (List ℕ)) → ((k : ℕ) → k < length ds → Other speed (get_or ds k [])) →
      (all_words (is_super speed) ds ≡ []) × (bursts_fit (is_super speed) ds ≡ true)
  unfolding all_words words_of burst_fits bursts_fit
  no_words [] o = (refl, refl)
  no_words (d ∷ ds) o =
      let n = o 0 (omega arith) in
      let x = no_mate (is_super speed) (is_companion d) n.no_companion in
      let r = no_words ds (λ k h. o (suc k) (omega arith)) in
      (rw (n.no_configuration, n.no_interface, n.no_endpoint, x) r.0, rw x r.1)
    where
      no_mate : (s c : Bool) → (s ≡ true → c ≡ false) → (s && c) ≡ false
      no_mate true c f = f refl
      no_mate false c f = refl

others : OthersPromise
unfolding read_descriptors read_words settled_after list_ok companions_fit companions_ok joined paired paired_after kind valid_list begins_with_configuration words_ok runs_fit configurations interfaces
others speed bytes words known f o room =
    let n = no_words speed (descriptors bytes) o in
    rw (le-leb 256 (length words) room, known, f, n.0, n.1) (go (is_super speed))
  where
    go : (s : Bool) →
        unless (leb 0 256 && (begins_with_configuration [] && (companions_ok s [] && valid_list (joined [])))) DescriptorList words
        (unless (not s || paired []) Companion words (accepts [] words)) ≡ accepts [] words
    go true = refl
    go false = refl

-- One burst above 15 among descriptors.
one_burst : (ds : List (List ℕ)) (k : ℕ) → k < length ds → is_companion (get_or ds k []) ≡ true → 15 < byte_at MAX-BURST (get_or ds k []) →
    bursts_fit true ds ≡ false
unfolding burst_fits bursts_fit
one_burst [] k h c b = absurd (omega arith)
one_burst (d ∷ ds) zero h c b = rw (c, lt-leb (byte_at MAX-BURST d) 15 b)
one_burst (d ∷ ds) (suc k) h c b = rw (one_burst ds k (omega arith) c b, and-false (not (is_companion d) || leb (byte_at MAX-BURST d) 15))

super_known : (speed : ℕ) → is_super speed ≡ true → speed_known speed ≡ true
unfolding is_super speed_known
super_known speed s =
    let low : 4 ≤ speed = leb-true 4 speed (and_left (leb 4 speed) _ s) in
    rw (le-leb 1 speed (omega arith)) (and_right (leb 4 speed) _ s)

bursts : BurstPromise
unfolding read_descriptors valid_at
bursts speed bytes words k s room f v h c b =
    rw (
      le-leb 256 (length words) room,
      super_known speed s,
      s,
      f,
      and_left (list_ok speed (read_words true bytes)) _ v,
      one_burst (descriptors bytes) k h c b,
    )

kept : KeptPromise
unfolding read_descriptors write_descriptors
kept speed given buffer =
    let super = is_super speed in (
      unless_kept (leb 256 (length buffer)) TooShort buffer _
          (unless_kept (speed_known speed) Speed buffer _
          (unless_kept (well_formed super (descriptors given)) Malformed buffer _
          (unless_kept (list_ok speed (read_words super given)) DescriptorList buffer _
          (unless_kept (bursts_fit super (descriptors given) && companions_fit speed (read_words super given)) Companion buffer _
          (accepted_kept (read_words super given) buffer))))),
      unless_kept (leb 2304 (length buffer)) TooShort buffer _
          (unless_kept (speed_known speed) Speed buffer _
          (unless_kept (list_ok speed given) DescriptorList buffer _
          (unless_kept (companions_fit speed given) Companion buffer _
          (unless_kept (packets_given given) Malformed buffer _
          (accepted_kept (written_bytes given) buffer))))),
    )
