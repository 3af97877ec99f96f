-- What is put for a word, and the bytes of a list.
use Prim.Native.Nat.{ℕ, suc, ◌+◌, ◌-◌, ◌*◌, ◌≤◌, ◌<◌}
use mathlib.Core.Path.{◌≡◌, refl, sym, ap, ◌∙◌}
use mathlib.Core.Logic.{◌≢◌}
use mathlib.Core.List.{List, [], ◌∷◌, ◌++◌, append_assoc, append-nil}
use native.Mathlib.Nat.{add-zero, zero-add}
use native.Mathlib.Omega.{arith}
use lib.ListN.{length, take, drop, set, length-take, drop_of_length-le, length-append, length-drop}
use borrow.Rule.Slice.PartMut.{put_mid}
use Rattle.std.proofs.lemmas.List.{take_all}
use lib.Seq.{sets, sets-eq, length-sets, drop-drop}
use Rattle.descriptor.specs.Word.{CONFIGURATION, ALTERNATE, ENDPOINT, COMPANION, kind, configuration_value, interface_number, alternate_setting, type_number, companion_burst, companion_mult, companion_bytes, endpoint_descriptor}
use Rattle.descriptor.specs.declared.EndpointDescriptor.{EndpointDescriptor}
use Rattle.descriptor.proofs.Laws.{fields_fit}
use Rattle.descriptor_raw.specs.Descriptor.{size_of}
use Rattle.descriptor_raw.specs.Claims.{endpoints_after}
use Rattle.descriptor_raw.specs.Write.{configuration_descriptor, interface_descriptor, endpoint_bytes, companion_descriptor, word_packets, descriptor_of, all_descriptors, joined, written_bytes}
use Rattle.descriptor_raw.proofs.Valid.{packets_first, packets_rest}
use Rattle.descriptor_raw.proofs.Made.{made_configuration, made_interface, made_companion, made_endpoint, made_length}
use Rattle.descriptor_writer.specs.declared.claims.Claims.{Claims}
use Rattle.descriptor_writer.specs.Written.{ClaimedAs, Listed, Room}

-- what follows a word of a list that may be written
rest_listed : (w : ℕ) (after : List ℕ) → Listed (w ∷ after) → Listed after
rest_listed w after r = record { short = omega (arith, r.short); packets = packets_rest w after r.packets }

-- Bytes of a descriptor put to the front of others.
abbrev pub Put : ℕ → List ℕ → List ℕ → List ℕ → ℕ → Type 0
Put w after bytes out n = (n ≡ length (descriptor_of w (all_descriptors after))) × (out ≡ sets bytes 0 (descriptor_of w (all_descriptors after)))

-- a front of bytes written over
front : (bytes d : List ℕ) (n : ℕ) → length d ≡ n → n ≤ length bytes → d ++ drop n bytes ≡ sets bytes 0 d
front bytes d n e h =
    let s : 0 + length d ≤ length bytes = omega arith in
    rw (sets-eq d bytes 0 s, zero-add (length d), e)

module _ (w : ℕ) (after : List ℕ) (room : ℕ) (r : Room w after room) (bytes d : List ℕ) (h : room ≡ length bytes) where
  pub put_configuration :
      kind w ≡ CONFIGURATION →
      (c : Claims) →
      ClaimedAs after c →
      (value : ℕ) →
      value ≡ configuration_value w →
      d ≡ configuration_descriptor (9 + c.bytes) c.interfaces value →
      Put w after bytes (d ++ drop 9 bytes) 9
  unfolding configuration_descriptor size_of
  put_configuration e c m value v s =
      let t : descriptor_of w (all_descriptors after) ≡ d =
      made_configuration _ _ e ∙ rw (← m.bytes, ← m.interfaces, ← v) (sym s) in
      let n : length d ≡ 9 = rw s in
      (rw (t, n), rw t (front bytes d 9 n (omega (arith, r.space))))

  pub put_interface :
      kind w ≡ ALTERNATE →
      (interface alternate endpoints : ℕ) →
      endpoints ≡ endpoints_after (all_descriptors after) →
      interface ≡ interface_number w →
      alternate ≡ alternate_setting w →
      d ≡ interface_descriptor interface alternate endpoints →
      Put w after bytes (d ++ drop 9 bytes) 9
  unfolding interface_descriptor size_of
  put_interface e interface alternate endpoints f v u s =
      let t : descriptor_of w (all_descriptors after) ≡ d = made_interface _ _ e ∙ rw (← f, ← v, ← u) (sym s) in
      let n : length d ≡ 9 = rw s in
      (rw (t, n), rw t (front bytes d 9 n (omega (arith, r.space))))

  pub put_endpoint :
      kind w ≡ ENDPOINT →
      d ≡ endpoint_bytes (endpoint_descriptor w).address (type_number w) (word_packets w) (endpoint_descriptor w).interval →
      Put w after bytes (d ++ drop 7 bytes) 7
  unfolding endpoint_bytes size_of
  put_endpoint k s =
      let c : kind w ≢ CONFIGURATION = λ x. let z : ◌≡◌ {A = ℕ} 2 0 = sym k ∙ x in omega arith in
      let a : kind w ≢ ALTERNATE = λ x. let z : ◌≡◌ {A = ℕ} 2 1 = sym k ∙ x in omega arith in
      let x : kind w ≢ COMPANION = λ x. let z : ◌≡◌ {A = ℕ} 2 3 = sym k ∙ x in omega arith in
      let t : descriptor_of w (all_descriptors after) ≡ d = made_endpoint _ _ c a x ∙ sym s in
      let n : length d ≡ 7 = rw s in
      (rw (t, n), rw t (front bytes d 7 n (omega (arith, r.space))))

  pub put_companion :
      kind w ≡ COMPANION →
      d ≡ companion_descriptor (companion_burst w) (companion_mult w) (companion_bytes w) →
      Put w after bytes (d ++ drop 6 bytes) 6
  unfolding companion_descriptor size_of
  put_companion k s =
      let t : descriptor_of w (all_descriptors after) ≡ d = made_companion _ _ k ∙ sym s in
      let n : length d ≡ 6 = rw s in
      (rw (t, n), rw t (front bytes d 6 n (omega (arith, r.space))))

-- a count of endpoints after a word of a list of 256 is a byte
pub endpoints_small : (w : ℕ) (after : List ℕ) (room n : ℕ) → Room w after room → n ≤ length after → n < 256
endpoints_small w after room n r e = omega (arith, r.listed.short)

-- and its packets are given
pub packets_some : (w : ℕ) (after : List ℕ) (room : ℕ) → Room w after room → kind w ≡ ENDPOINT → 1 ≤ (endpoint_descriptor w).packets_per_microframe
packets_some w after room r k = packets_first w after r.listed.packets k

-- stores of two lists one after the other
sets_append : (l : List ℕ) (at : ℕ) (p q : List ℕ) → sets l at (p ++ q) ≡ sets (sets l at p) (at + length p) q
sets_append l at [] q = rw (add-zero at)
sets_append l at (x ∷ p) q =
    let e : suc at + length p ≡ at + suc (length p) = omega arith in rw (← e) (sets_append (set l at x) (suc at) p q)

-- a store into the bytes from a place on
put_at : (bytes d : List ℕ) (at : ℕ) → at + length d ≤ length bytes → take at bytes ++ sets (drop at bytes) 0 d ≡ sets bytes at d
put_at bytes d at h =
    let s : 0 + length d ≤ length (drop at bytes) = omega (arith, length-drop at bytes) in
    rw (sets-eq d (drop at bytes) 0 s, sets-eq d bytes at h, zero-add (length d), drop-drop (length d) at bytes, append_assoc, append_assoc)

-- bytes whose part from a place on was written
part : (bytes out : List ℕ) (at : ℕ) → at ≤ length bytes → put_mid at (length bytes - at) bytes out ≡ take at bytes ++ out
part bytes out at h =
    let e : length (drop at bytes) ≤ length bytes - at = omega (arith, length-drop at bytes) in
    rw (drop_of_length-le (drop at bytes) e, append-nil)

no_words : (l : List ℕ) → length l ≡ 0 → l ≡ []
no_words [] e = refl
no_words (w ∷ l) e = absurd (omega arith)

-- Descriptors put so far, and those still to be put.
pub record Putting (list bytes₀ words bytes : List ℕ) (at : ℕ) : Type 0 where
  pub listed : Listed words
  pub low : at + 9 * length words ≤ 2304
  pub same : length bytes ≡ length bytes₀
  pub count : at + length (joined (all_descriptors words)) ≡ length (written_bytes list)
  pub rest : sets bytes₀ 0 (written_bytes list) ≡ sets bytes at (joined (all_descriptors words))

pub putting_start : (list bytes : List ℕ) → Listed list → Putting list bytes list bytes 0
unfolding written_bytes
putting_start list bytes p =
    record { listed = p; low = omega (arith, p.short); same = refl; count = zero-add _; rest = refl }

module _ (list bytes₀ words bytes : List ℕ) (at : ℕ) (p : Putting list bytes₀ words bytes at) where
  pub put_all_done : length words ≡ 0 → (at ≡ length (written_bytes list)) × (bytes ≡ sets bytes₀ 0 (written_bytes list))
  unfolding joined all_descriptors
  put_all_done e = let h = no_words words e in (sym (add-zero at) ∙ rw h at p.count, sym (rw h at p.rest))

  module _ (w : ℕ) (after : List ℕ) (h : words ≡ w ∷ after) (space : 2304 ≤ length bytes₀) where
    pub put_room : Room w after (length (take (length bytes - at) (drop at bytes)))
    put_room =
        record {
          listed = rw h at p.listed;
          space =
              omega (
                arith,
                p.low,
                p.same,
                ap length h,
                length-take (length bytes - at) (drop at bytes),
                length-drop at bytes,
              );
        }

    pub put_small : (n : ℕ) → n ≡ length (descriptor_of w (all_descriptors after)) → at + n ≤ 2304
    put_small n e = omega (arith, p.low, ap length h, (made_length w (all_descriptors after)).2)

    pub putting_next : (out : List ℕ) (n : ℕ) → Put w after (take (length bytes - at) (drop at bytes)) out n →
        Putting list bytes₀ after (put_mid at (length bytes - at) bytes out) (at + n)
    unfolding joined all_descriptors
    putting_next out n q =
        let d : List ℕ = descriptor_of w (all_descriptors after) in
        let m = made_length w (all_descriptors after) in
        let fits : at + length d ≤ length bytes = omega (arith, p.low, p.same, ap length h, m.2) in
        let all : take (length bytes - at) (drop at bytes) ≡ drop at bytes = take_all _ _ (omega (arith, length-drop at bytes)) in
        let put : put_mid at (length bytes - at) bytes out ≡ sets bytes at d =
        part bytes out at (omega arith) ∙ rw (q.1, all) (put_at bytes d at fits) in
        let t : at + length (d ++ joined (all_descriptors after)) ≡ length (written_bytes list) = rw h at p.count in
        rw put
        (record {
          listed = rest_listed w after (rw h at p.listed);
          low = omega (arith, p.low, ap length h, m.2, q.0);
          same = length-sets bytes at d ∙ p.same;
          count = omega (arith, t, q.0, length-append d (joined (all_descriptors after)));
          rest = p.rest ∙ rw (h, sets_append bytes at d (joined (all_descriptors after)), q.0);
        })

-- The fields of a word's packets are small.
pub packet_small : (w : ℕ) (e : EndpointDescriptor) → e ≡ endpoint_descriptor w →
    (e.max_packet_size < 2048) × (e.packets_per_microframe < 4)
packet_small w e m = rw m ((fields_fit w).size, (fields_fit w).packets)
