-- What is written is read again: the descriptors of a list are whole and borne out, and their words are the list.
use Prim.Native.Nat.{ℕ, suc, ◌+◌, ◌-◌, ◌*◌, ◌/◌, ◌%◌, ◌^◌, ◌≤◌, ◌<◌}
use mathlib.Core.Path.{◌≡◌, refl, sym, ◌∙◌}
use mathlib.Core.Logic.{◌≢◌, inl, inr}
use mathlib.Core.Bool.{Bool, true, false, not, cond, ◌&&◌, ◌||◌}
use mathlib.Core.List.{List, [], ◌∷◌, ◌++◌}
use native.Mathlib.Omega.{arith}
use borrow.Author.Tests.{eqb-true, eqb-false, eq-eqb, ne_eqb, le-leb, leb-true}
use lib.Dec.{eqb, leb}
use lib.ListN.{length, take, length-append}
use lib.Seq.{take_at}
use Rattle.laws.specs.Bounds.{Below}
use Rattle.laws.proofs.Tests.{and_left, and_right, not_both}
use Rattle.laws.proofs.Cases.{Decided, decided}
use Rattle.descriptor.specs.Word.{CONFIGURATION, ALTERNATE, ENDPOINT, COMPANION, kind, is_companion as is_companion_word, companion_burst, companion_mult, companion_bytes, companion_ok, configuration_value, interface_number, alternate_setting, type_number, endpoint_descriptor, word_ok}
use Rattle.descriptor.proofs.Laws.{fields_fit}
use Rattle.descriptor_list.specs.Companions.{mult_room, follows, paired_after, paired}
use Rattle.descriptor_raw.specs.Descriptor.{CONFIGURATION-TYPE, LENGTH, size_of, byte_at}
use Rattle.descriptor_raw.specs.Claims.{bytes_after, interfaces_after, endpoints_after}
use Rattle.descriptor_raw.specs.Read.{cut, descriptors, whole, borne_out, all_whole, all_borne_out, well_formed, words_of, all_words, is_isochronous, settled_word, settled_after, read_words, burst_fits, bursts_fit}
use Rattle.descriptor_raw.specs.Words.{placed}
use Rattle.descriptor_raw.specs.Write.{configuration_descriptor, interface_descriptor, endpoint_bytes, companion_descriptor, word_packets, descriptor_of, all_descriptors, joined, written_bytes, packets_given}
use Rattle.descriptor_raw.proofs.Valid.{stands_ok, each_ok, endpoint_kind, packets_first, packets_rest}
use Rattle.descriptor_raw.proofs.Made.{made_configuration, made_interface, made_companion, made_endpoint, made_length}
use Rattle.descriptor_raw.proofs.Companion.{companion_back}
use Rattle.descriptor_raw.proofs.Back.{packet_back, configuration_back, alternate_back, endpoint_back}

-- A descriptor is cut off by its length.
cut_over : (p r : List ℕ) → cut (length p) (p ++ r) ≡ cut 0 r
unfolding cut
cut_over [] r = refl
cut_over (b ∷ p) r = cut_over p r

cut_piece : (d r : List ℕ) → 1 ≤ length d → byte_at LENGTH d ≡ length d → cut 0 (d ++ r) ≡ d ∷ cut 0 r
unfolding cut
cut_piece [] r h e = absurd (omega arith)
cut_piece (b ∷ p) r h e =
    let t : take b (b ∷ p ++ r) ≡ b ∷ p = take_at (b ∷ p) r b (sym e) in
    let s : b - 1 ≡ length p = omega arith in
    rw (t, s, cut_over p r)

cut_joined : (l : List ℕ) → cut 0 (joined (all_descriptors l)) ≡ all_descriptors l
unfolding cut joined all_descriptors
cut_joined [] = refl
cut_joined (w ∷ l) =
    let m = made_length w (all_descriptors l) in
    cut_piece (descriptor_of w (all_descriptors l)) (joined (all_descriptors l)) (omega (arith, m.1)) m.0
    ∙ rw (cut_joined l)

-- At most 9 bytes for each word.
joined_short : (l : List ℕ) → length (joined (all_descriptors l)) ≤ 9 * length l
unfolding joined all_descriptors
joined_short [] = omega arith
joined_short (w ∷ l) =
    omega (
      arith,
      joined_short l,
      length-append (descriptor_of w (all_descriptors l)) (joined (all_descriptors l)),
      (made_length w (all_descriptors l)).2,
    )

-- The four kinds of a word that may stand in a valid list.
data Kind (super : Bool) (w : ℕ) : Type 0 where
  configuration : kind w ≡ CONFIGURATION → word_ok w ≡ true → Kind super w
  alternate : kind w ≡ ALTERNATE → word_ok w ≡ true → Kind super w
  endpoint : kind w ≡ ENDPOINT → word_ok w ≡ true → Kind super w
  companion : kind w ≡ COMPANION → super ≡ true → companion_ok w ≡ true → Kind super w

kind_of : (super : Bool) (w : ℕ) → stands_ok super w ≡ true → Kind super w
unfolding stands_ok is_companion_word
kind_of super w ok = go (decided (eqb (kind w) COMPANION)) (decided (eqb (kind w) CONFIGURATION)) (decided (eqb (kind w) ALTERNATE))
  where
    go : Decided (eqb (kind w) COMPANION) → Decided (eqb (kind w) CONFIGURATION) → Decided (eqb (kind w) ALTERNATE) → Kind super w
    go (inl x) c a =
        let o : (super && companion_ok w) ≡ true = rw x at ok in
        companion (eqb-true _ _ x) (and_left super _ o) (and_right super _ o)
    go (inr x) (inl p) a = configuration (eqb-true _ _ p) (rw x at ok)
    go (inr x) (inr c) (inl p) = alternate (eqb-true _ _ p) (rw x at ok)
    go (inr x) (inr c) (inr a) =
        let o : word_ok w ≡ true = rw x at ok in endpoint (endpoint_kind w o (eqb-false _ _ c) (eqb-false _ _ a)) o

-- an endpoint's kind is no other
no_configuration : (w : ℕ) → kind w ≡ ENDPOINT → kind w ≢ CONFIGURATION
no_configuration w e c = let z : ◌≡◌ {A = ℕ} 2 0 = sym e ∙ c in omega arith

no_alternate : (w : ℕ) → kind w ≡ ENDPOINT → kind w ≢ ALTERNATE
no_alternate w e c = let z : ◌≡◌ {A = ℕ} 2 1 = sym e ∙ c in omega arith

no_companion : (w : ℕ) → kind w ≡ ENDPOINT → kind w ≢ COMPANION
no_companion w e c = let z : ◌≡◌ {A = ℕ} 2 3 = sym e ∙ c in omega arith

burst_small : (w : ℕ) → leb (companion_burst w) 15 ≡ true
unfolding companion_burst
burst_small w = le-leb (w / 2 ^ 26 % 2 ^ 4) 15 (omega arith)

-- Two bytes of a number, put together again.
two_back : (x : ℕ) → x % 256 + 256 * (x / 256) ≡ x
two_back x = omega arith

module _ (super : Bool) (w : ℕ) (after : List (List ℕ)) where
  made_whole : whole super (descriptor_of w after) ≡ true
  unfolding whole descriptor_of configuration_descriptor interface_descriptor endpoint_bytes companion_descriptor size_of
  made_whole = go super (eqb (kind w) CONFIGURATION) (eqb (kind w) ALTERNATE) (eqb (kind w) COMPANION)
    where
      d : Bool → Bool → Bool → List ℕ
      d c a x =
          cond c
          (configuration_descriptor (size_of true CONFIGURATION-TYPE + bytes_after after) (interfaces_after after) (configuration_value w))
          (cond a
          (interface_descriptor (interface_number w) (alternate_setting w) (endpoints_after after))
          (cond x (companion_descriptor (companion_burst w) (companion_mult w) (companion_bytes w))
          (endpoint_bytes (endpoint_descriptor w).address (type_number w) (word_packets w) (endpoint_descriptor w).interval)))

      go : (s c a x : Bool) → whole s (d c a x) ≡ true
      go s true a x = refl
      go s false true x = refl
      go true false false true = refl
      go false false false true = refl
      go s false false false = refl

  module _ (k : Kind super w) (p : kind w ≡ ENDPOINT → 1 ≤ (endpoint_descriptor w).packets_per_microframe) where
    made_borne_out : borne_out (descriptor_of w after) after ≡ true
    unfolding borne_out configuration_descriptor interface_descriptor endpoint_bytes companion_descriptor size_of
    made_borne_out = go k
      where
        go : Kind super w → borne_out (descriptor_of w after) after ≡ true
        go (configuration e o) =
            rw (made_configuration w after e, two_back (9 + bytes_after after), eq-eqb (9 + bytes_after after) _ refl, eq-eqb (interfaces_after after) _ refl)
        go (alternate e o) = rw (made_interface w after e, eq-eqb (endpoints_after after) _ refl)
        go (companion e u o) = rw (made_companion w after e)
        go (endpoint e o) =
            let b = packet_back w (p e) in
            let small : word_packets w / 2048 % 4 ≢ 3 = λ q. omega (arith, b.1, (fields_fit w).packets) in
            rw (made_endpoint w after (no_configuration w e) (no_alternate w e) (no_companion w e), two_back (word_packets w), ne_eqb _ 3 small)

    -- the descriptor of a word gives the word back
    made_words : w < 2 ^ 32 → words_of super (descriptor_of w after) ≡ w ∷ []
    unfolding words_of configuration_descriptor interface_descriptor endpoint_bytes companion_descriptor size_of
    made_words h = go k
      where
        go : Kind super w → words_of super (descriptor_of w after) ≡ w ∷ []
        go (configuration e o) = rw (made_configuration w after e, configuration_back w h o e)
        go (alternate e o) = rw (made_interface w after e, alternate_back w h o e)
        go (companion e u o) = rw (u, made_companion w after e, two_back (companion_bytes w), companion_back w h e o)
        go (endpoint e o) =
            rw (made_endpoint w after (no_configuration w e) (no_alternate w e) (no_companion w e), two_back (word_packets w), endpoint_back w h o e (p e))

  -- and says a burst that a word holds
  made_burst : burst_fits super (descriptor_of w after) ≡ true
  unfolding burst_fits descriptor_of configuration_descriptor interface_descriptor endpoint_bytes companion_descriptor size_of
  made_burst = go super (eqb (kind w) CONFIGURATION) (eqb (kind w) ALTERNATE) (eqb (kind w) COMPANION)
    where
      small : leb (companion_burst w) 15 ≡ true
      small = burst_small w

      d : Bool → Bool → Bool → List ℕ
      d c a x =
          cond c
          (configuration_descriptor (size_of true CONFIGURATION-TYPE + bytes_after after) (interfaces_after after) (configuration_value w))
          (cond a
          (interface_descriptor (interface_number w) (alternate_setting w) (endpoints_after after))
          (cond x (companion_descriptor (companion_burst w) (companion_mult w) (companion_bytes w))
          (endpoint_bytes (endpoint_descriptor w).address (type_number w) (word_packets w) (endpoint_descriptor w).interval)))

      go : (s c a x : Bool) → burst_fits s (d c a x) ≡ true
      go false c a x = refl
      go true true a x = refl
      go true false true x = refl
      go true false false true = small
      go true false false false = refl

-- A list whose words are valid, of 32 bits, and give their packets.
pub record Writable (super : Bool) (l : List ℕ) : Type 0 where
  pub small : Below (2 ^ 32) l
  pub words : each_ok super l ≡ true
  pub packets : packets_given l ≡ true

module _ (super : Bool) (w : ℕ) (l : List ℕ) (g : Writable super (w ∷ l)) where
  first_small : w < 2 ^ 32
  first_small = g.small 0 (omega arith)

  first_kind : Kind super w
  unfolding each_ok
  first_kind = kind_of super w (and_left (stands_ok super w) (each_ok super l) g.words)

  first_packets : kind w ≡ ENDPOINT → 1 ≤ (endpoint_descriptor w).packets_per_microframe
  first_packets = packets_first w l g.packets

  rest_writable : Writable super l
  unfolding each_ok
  rest_writable =
      record {
        small = λ k h. g.small (suc k) (omega arith);
        words = and_right (stands_ok super w) (each_ok super l) g.words;
        packets = packets_rest w l g.packets;
      }

module _ (super : Bool) where
  all_whole_lem : (l : List ℕ) → all_whole super (all_descriptors l) ≡ true
  unfolding all_whole all_descriptors
  all_whole_lem [] = refl
  all_whole_lem (w ∷ l) = rw (made_whole super w (all_descriptors l)) (all_whole_lem l)

  all_borne_out_lem : (l : List ℕ) → Writable super l → all_borne_out (all_descriptors l) ≡ true
  unfolding all_borne_out all_descriptors
  all_borne_out_lem [] g = refl
  all_borne_out_lem (w ∷ l) g =
      rw (made_borne_out super w (all_descriptors l) (first_kind super w l g) (first_packets super w l g))
      (all_borne_out_lem l (rest_writable super w l g))

  all_words_lem : (l : List ℕ) → Writable super l → all_words super (all_descriptors l) ≡ l
  unfolding all_words all_descriptors
  all_words_lem [] g = refl
  all_words_lem (w ∷ l) g =
      rw (
        made_words super w (all_descriptors l) (first_kind super w l g) (first_packets super w l g) (first_small super w l g),
        all_words_lem l (rest_writable super w l g),
      )

  all_bursts : (l : List ℕ) → bursts_fit super (all_descriptors l) ≡ true
  unfolding bursts_fit all_descriptors
  all_bursts [] = refl
  all_bursts (w ∷ l) = rw (made_burst super w (all_descriptors l)) (all_bursts l)

  pub written_well_formed : (l : List ℕ) → Writable super l → well_formed super (descriptors (written_bytes l)) ≡ true
  unfolding descriptors written_bytes well_formed
  written_well_formed l g = rw (cut_joined l, all_whole_lem l, all_borne_out_lem l g)

  pub written_bursts : (l : List ℕ) → bursts_fit super (descriptors (written_bytes l)) ≡ true
  unfolding descriptors written_bytes
  written_bursts l = rw (cut_joined l) (all_bursts l)

-- A companion in its place has the mult that it may have.
settled_word_lem : (p w : ℕ) → follows p w ≡ true → settled_word true p w ≡ w
unfolding settled_word is_isochronous follows mult_room is_companion_word
settled_word_lem p w f = go (decided (eqb (kind w) COMPANION)) (decided (eqb (kind p) ENDPOINT)) (decided (eqb (type_number p) 1))
  where
    go : Decided (eqb (kind w) COMPANION) → Decided (eqb (kind p) ENDPOINT) → Decided (eqb (type_number p) 1) →
        cond (eqb (kind w) COMPANION && not (eqb (kind p) ENDPOINT && eqb (type_number p) 1)) (w - placed 6 2 (companion_mult w)) w ≡ w
    go (inr c) e t = rw c
    go (inl c) (inl e) (inl t) = rw (c, e, t)
    go (inl c) (inl e) (inr t) =
        let m : leb (companion_mult w) 0 ≡ true = rw (c, e, t) at f in
        let z : companion_mult w ≡ 0 = omega (arith, leb-true (companion_mult w) 0 m) in rw (c, e, t, z) (omega arith)
    go (inl c) (inr e) t = let n : false ≡ true = rw (c, e) at f in not_both false n refl

pub settled_paired : (p : ℕ) (l : List ℕ) → paired_after p l ≡ true → settled_after true p l ≡ l
unfolding settled_after paired_after
settled_paired p [] e = refl
settled_paired p (w ∷ l) e =
    rw (settled_word_lem p w (and_left (follows p w) _ e), settled_paired w l (and_right (follows p w) _ e))

-- Without companions nothing is lost.
pub none_settled : (p : ℕ) (l : List ℕ) → settled_after false p l ≡ l
unfolding settled_after settled_word
none_settled p [] = refl
none_settled p (w ∷ l) = rw (none_settled w l)

pub written_words : (super : Bool) (l : List ℕ) → Writable super l → (not super || paired l) ≡ true → read_words super (written_bytes l) ≡ l
unfolding read_words descriptors written_bytes paired
written_words true l g q = rw (cut_joined l, all_words_lem true l g) (settled_paired 0 l q)
written_words false l g q = rw (cut_joined l, all_words_lem false l g) (none_settled 0 l)

pub written_short : (l : List ℕ) → length (written_bytes l) ≤ 9 * length l
unfolding written_bytes
written_short l = joined_short l
