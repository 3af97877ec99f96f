-- Bytes cut into descriptors: the first, and those after it.
use Prim.Native.Nat.{ℕ, zero, suc, ◌-◌, ◌≤◌, ◌<◌}
use mathlib.Core.Path.{◌≡◌, refl, sym, ap, ◌∙◌}
use mathlib.Core.Logic.{◌≢◌, inl, inr}
use mathlib.Core.Bool.{Bool, true, false, cond, ◌&&◌, and-false}
use mathlib.Core.List.{List, [], ◌∷◌}
use native.Mathlib.Omega.{arith}
use borrow.Author.Tests.{eqb-true, eqb-false, leb-true, eq-eqb, ne_eqb, le-leb, lt-leb}
use lib.Dec.{eqb, leb}
use lib.ListN.{length, get_or, take, drop, length-take, length-drop}
use lib.Seq.{get_or-take}
use Rattle.laws.proofs.Tests.{and_left, and_right}
use Rattle.laws.proofs.Cases.{Decided, decided}
use denote.Enum.Bare.{sameb}
use Rattle.descriptor_raw.specs.contracts.DescriptorKind.{the_type}
use Rattle.descriptor_raw.specs.declared.DescriptorKind.{DescriptorKind}
use Rattle.descriptor_raw.specs.declared.DescriptorKind.TheVariants.{Configuration, Interface, Endpoint, Companion, Other}
use Rattle.descriptor_raw.specs.Descriptor.{CONFIGURATION-TYPE, INTERFACE-TYPE, ENDPOINT-TYPE, COMPANION-TYPE, TYPE, LENGTH, kind_of, size_of, byte_at}
use Rattle.descriptor_raw.specs.Read.{cut, descriptors, whole, all_whole}
use Rattle.descriptor_reader.specs.Walk.{CutOff}

-- What is still to come of a descriptor is dropped.
cut_skip : (left : ℕ) (l : List ℕ) → cut left l ≡ cut 0 (drop left l)
unfolding cut
cut_skip zero l = refl
cut_skip (suc left) [] = refl
cut_skip (suc left) (b ∷ l) = cut_skip left l

-- Every descriptor has a length and a type.
size_least : (super : Bool) (type : ℕ) → 2 ≤ size_of super type
unfolding size_of
size_least super type = go (eqb type CONFIGURATION-TYPE) (eqb type INTERFACE-TYPE) (eqb type ENDPOINT-TYPE) (super && eqb type COMPANION-TYPE)
  where
    go : (a b c e : Bool) → 2 ≤ cond a 9 (cond b 9 (cond c 7 (cond e 6 2)))
    go true b c e = omega arith
    go false true c e = omega arith
    go false false true e = omega arith
    go false false false true = omega arith
    go false false false false = omega arith

first_length : (n : ℕ) (m : List ℕ) → get_or (take n (n ∷ m)) 0 0 ≡ n
first_length zero m = refl
first_length (suc n) m = refl

-- A descriptor that is whole.
pub record Whole (super : Bool) (d : List ℕ) : Type 0 where
  pub least : 2 ≤ length d
  pub sized : size_of super (byte_at TYPE d) ≤ length d
  pub long : byte_at LENGTH d ≡ length d

pub whole_is : (super : Bool) (d : List ℕ) → whole super d ≡ true → Whole super d
unfolding whole
whole_is super d w =
    let s : size_of super (byte_at TYPE d) ≤ byte_at LENGTH d =
    leb-true _ _ (and_left _ (eqb (length d) (byte_at LENGTH d)) w) in
    let e : length d ≡ byte_at LENGTH d =
    eqb-true _ _ (and_right (leb (size_of super (byte_at TYPE d)) (byte_at LENGTH d)) _ w) in
    record { least = omega (arith, size_least super (byte_at TYPE d)); sized = omega arith; long = sym e }

-- Bytes from a length byte on.
module _ (super : Bool) (n : ℕ) (l : List ℕ) where
  first_cut : descriptors (n ∷ l) ≡ take n (n ∷ l) ∷ cut 0 (drop (n - 1) l)
  unfolding descriptors cut
  first_cut = rw (cut_skip (n - 1) l)

  refused : whole super (take n (n ∷ l)) ≡ false → all_whole super (descriptors (n ∷ l)) ≡ false
  unfolding all_whole
  refused w = rw (first_cut, w)

  rest_drop : 1 ≤ n → drop (n - 1) l ≡ drop n (n ∷ l)
  rest_drop h = let s : n ≡ suc (n - 1) = omega arith in ap (λ k. drop k (n ∷ l)) (sym s)

  first_next : 1 ≤ n → descriptors (n ∷ l) ≡ take n (n ∷ l) ∷ descriptors (drop n (n ∷ l))
  unfolding descriptors
  first_next h = first_cut ∙ rw (rest_drop h)

  no_type : n < 2 → all_whole super (descriptors (n ∷ l)) ≡ false
  unfolding whole
  no_type p =
      let s : n < size_of super (byte_at TYPE (take n (n ∷ l))) = omega (arith, size_least super (byte_at TYPE (take n (n ∷ l)))) in
      refused (rw (first_length n l, lt-leb _ n s))

  past_end : length (n ∷ l) < n → all_whole super (descriptors (n ∷ l)) ≡ false
  unfolding whole
  past_end p =
      let s : length (take n (n ∷ l)) ≡ n → ⊥ = λ q. omega (arith, length-take n (n ∷ l)) in
      refused (rw (first_length n l, ne_eqb _ n s, and-false))

  module _ (p : 2 ≤ n) (q : n ≤ length (n ∷ l)) where
    first_type : byte_at TYPE (take n (n ∷ l)) ≡ get_or (n ∷ l) 1 0
    first_type = get_or-take n (n ∷ l) 1 0 (omega arith)

    first_long : length (take n (n ∷ l)) ≡ n
    first_long = omega (arith, length-take n (n ∷ l))

    short : n < size_of super (get_or (n ∷ l) 1 0) → all_whole super (descriptors (n ∷ l)) ≡ false
    unfolding whole
    short s = refused (rw (first_length n l, first_type, lt-leb _ n s))

    passed : size_of super (get_or (n ∷ l) 1 0) ≤ n → all_whole super (descriptors (n ∷ l)) ≡ all_whole super (descriptors (drop n (n ∷ l)))
    unfolding whole all_whole
    passed s = rw (first_next (omega arith), first_length n l, first_type, le-leb _ n s, eq-eqb _ n first_long)

pub empty : (l : List ℕ) (b : Bool) → b ≡ eqb (length l) 0 → b ≡ true → l ≡ []
empty [] b e t = refl
empty (x ∷ l) b e t = absurd (omega (arith, eqb-true (length (x ∷ l)) 0 (sym e ∙ t)))

-- The same of bytes that are not empty, and whose length byte is given.
module _ (super : Bool) (l : List ℕ) (n : ℕ) (b : Bool) (m : b ≡ eqb (length l) 0) (f : b ≡ false) (e : n ≡ get_or l 0 0) where
  h : 1 ≤ length l
  h = let z : length l ≢ 0 = eqb-false (length l) 0 (sym m ∙ f) in omega arith

  pub no_type_refused : n < 2 → all_whole super (descriptors l) ≡ false
  no_type_refused = go l h e
    where
      go : (l : List ℕ) → 1 ≤ length l → n ≡ get_or l 0 0 → n < 2 → all_whole super (descriptors l) ≡ false
      go [] h e p = absurd (omega arith)
      go (x ∷ l) h e p = no_type super x l (omega arith)

  pub past_end_refused : length l < n → all_whole super (descriptors l) ≡ false
  past_end_refused = go l h e
    where
      go : (l : List ℕ) → 1 ≤ length l → n ≡ get_or l 0 0 → length l < n → all_whole super (descriptors l) ≡ false
      go [] h e p = absurd (omega arith)
      go (x ∷ l) h e p = past_end super x l (omega arith)

  module _ (p : 2 ≤ n) (q : n ≤ length l) where
    pub short_refused : n < size_of super (get_or l 1 0) → all_whole super (descriptors l) ≡ false
    short_refused = go l h e q
      where
        go : (l : List ℕ) → 1 ≤ length l → n ≡ get_or l 0 0 → n ≤ length l → n < size_of super (get_or l 1 0) → all_whole super (descriptors l) ≡ false
        go [] h e q s = absurd (omega arith)
        go (x ∷ l) h e q s = short super x l (omega arith) (omega arith) (omega arith)

    pub whole_passed : (after : List ℕ) → after ≡ drop n l → size_of super (get_or l 1 0) ≤ n → all_whole super (descriptors l) ≡ all_whole super (descriptors after)
    whole_passed after a = rw a (go l h e q)
      where
        go : (l : List ℕ) → 1 ≤ length l → n ≡ get_or l 0 0 → n ≤ length l → size_of super (get_or l 1 0) ≤ n →
            all_whole super (descriptors l) ≡ all_whole super (descriptors (drop n l))
        go [] h e q s = absurd (omega arith)
        go (x ∷ l) h e q s = rw e (passed super x l (omega arith) (omega arith) (omega arith))

pub none_whole : (super : Bool) (l : List ℕ) → l ≡ [] → all_whole super (descriptors l) ≡ true
unfolding descriptors cut all_whole
none_whole super l e = rw e

-- The first of bytes whose descriptors are whole.
pub record First (super : Bool) (l d after : List ℕ) : Type 0 where
  pub cut_off : CutOff l d after
  pub whole : whole super d ≡ true
  pub rest : all_whole super (descriptors after) ≡ true

first_inside : (super : Bool) (n : ℕ) (l : List ℕ) → all_whole super (descriptors (n ∷ l)) ≡ true →
    (whole super (take n (n ∷ l)) ≡ true) × (1 ≤ n) × (n ≤ length (n ∷ l)) × (all_whole super (descriptors (drop n (n ∷ l))) ≡ true)
unfolding all_whole descriptors
first_inside super n l w =
    let p : (whole super (take n (n ∷ l)) && all_whole super (cut 0 (drop (n - 1) l))) ≡ true = rw (first_cut super n l) at w in
    let d : whole super (take n (n ∷ l)) ≡ true = and_left _ (all_whole super (cut 0 (drop (n - 1) l))) p in
    let k = whole_is super (take n (n ∷ l)) d in
    let s : length (take n (n ∷ l)) ≡ n = sym k.long ∙ first_length n l in
    let one : 1 ≤ n = omega (arith, k.least) in
    (d, one, omega (arith, length-take n (n ∷ l)), rw (← rest_drop super n l one) (and_right (whole super (take n (n ∷ l))) _ p))

-- The first of bytes, which is its length.
abbrev Starts : ℕ → List ℕ → Type 0
Starts n l = (0 < length l) × ((d : ℕ) → n ≡ get_or l 0 d)

pub length_inside : (super : Bool) (l : List ℕ) (n : ℕ) → Starts n l → all_whole super (descriptors l) ≡ true → n ≤ length l
length_inside super [] n s w = absurd (omega (arith, s.0))
length_inside super (x ∷ l) n s w = omega (arith, (first_inside super x l w).2, s.1 0)

pub first_of : (super : Bool) (l d after : List ℕ) (n : ℕ) → Starts n l → all_whole super (descriptors l) ≡ true → d ≡ take n l → after ≡ drop n l → First super l d after
first_of super [] d after n s w p q = absurd (omega (arith, s.0))
first_of super (x ∷ l) d after n s w p q =
    let f = first_inside super x l w in
    rw (p, q, s.1 0)
    (record {
      cut_off =
          record { next = first_next super x l f.1; long = omega (arith, length-take x (x ∷ l), length-drop x (x ∷ l), f.2) };
      whole = f.0;
      rest = f.3;
    })

-- Kinds of descriptors.
abbrev pub is_c : DescriptorKind → Bool
is_c Configuration = true
is_c Interface = false
is_c Endpoint = false
is_c Companion = false
is_c Other = false

abbrev pub is_i : DescriptorKind → Bool
is_i Configuration = false
is_i Interface = true
is_i Endpoint = false
is_i Companion = false
is_i Other = false

abbrev pub is_e : DescriptorKind → Bool
is_e Configuration = false
is_e Interface = false
is_e Endpoint = true
is_e Companion = false
is_e Other = false

abbrev pub is_m : DescriptorKind → Bool
is_m Configuration = false
is_m Interface = false
is_m Endpoint = false
is_m Companion = true
is_m Other = false

-- The tests of a type, by its kind.
pub record Typed (type : ℕ) (kind : DescriptorKind) : Type 0 where
  pub configuration : eqb type CONFIGURATION-TYPE ≡ is_c kind
  pub interface : eqb type INTERFACE-TYPE ≡ is_i kind
  pub endpoint : eqb type ENDPOINT-TYPE ≡ is_e kind
  pub companion : eqb type COMPANION-TYPE ≡ is_m kind

pub typed : (type : ℕ) (kind : DescriptorKind) → kind ≡ kind_of type → Typed type kind
unfolding kind_of
typed type kind q =
    rw q
    (go (decided (eqb type CONFIGURATION-TYPE)) (decided (eqb type INTERFACE-TYPE)) (decided (eqb type ENDPOINT-TYPE)) (decided (eqb type COMPANION-TYPE)))
  where
    go : Decided (eqb type CONFIGURATION-TYPE) → Decided (eqb type INTERFACE-TYPE) → Decided (eqb type ENDPOINT-TYPE) → Decided (eqb type COMPANION-TYPE) →
        Typed type (kind_of type)
    go (inl c) i e m = rw (eqb-true type CONFIGURATION-TYPE c) (record { configuration = refl; interface = refl; endpoint = refl; companion = refl })
    go (inr c) (inl i) e m = rw (eqb-true type INTERFACE-TYPE i) (record { configuration = refl; interface = refl; endpoint = refl; companion = refl })
    go (inr c) (inr i) (inl e) m = rw (eqb-true type ENDPOINT-TYPE e) (record { configuration = refl; interface = refl; endpoint = refl; companion = refl })
    go (inr c) (inr i) (inr e) (inl m) = rw (eqb-true type COMPANION-TYPE m) (record { configuration = refl; interface = refl; endpoint = refl; companion = refl })
    go (inr c) (inr i) (inr e) (inr m) =
        record {
          configuration = c ∙ rw (c, i, e, m);
          interface = i ∙ rw (c, i, e, m);
          endpoint = e ∙ rw (c, i, e, m);
          companion = m ∙ rw (c, i, e, m);
        }

-- A kind compared, and a kind that is not one of some.
pub same_configuration : (kind : DescriptorKind) → sameb the_type kind Configuration ≡ is_c kind
same_configuration Configuration = refl
same_configuration Interface = refl
same_configuration Endpoint = refl
same_configuration Companion = refl
same_configuration Other = refl

pub same_interface : (kind : DescriptorKind) → sameb the_type kind Interface ≡ is_i kind
same_interface Configuration = refl
same_interface Interface = refl
same_interface Endpoint = refl
same_interface Companion = refl
same_interface Other = refl

pub same_endpoint : (kind : DescriptorKind) → sameb the_type kind Endpoint ≡ is_e kind
same_endpoint Configuration = refl
same_endpoint Interface = refl
same_endpoint Endpoint = refl
same_endpoint Companion = refl
same_endpoint Other = refl

pub not_configuration : (kind : DescriptorKind) → kind ≢ Configuration → is_c kind ≡ false
not_configuration Configuration n = absurd (n refl)
not_configuration Interface n = refl
not_configuration Endpoint n = refl
not_configuration Companion n = refl
not_configuration Other n = refl

pub not_interface : (kind : DescriptorKind) → kind ≢ Interface → is_i kind ≡ false
not_interface Configuration n = refl
not_interface Interface n = absurd (n refl)
not_interface Endpoint n = refl
not_interface Companion n = refl
not_interface Other n = refl

pub not_endpoint : (kind : DescriptorKind) → kind ≢ Endpoint → is_e kind ≡ false
not_endpoint Configuration n = refl
not_endpoint Interface n = refl
not_endpoint Endpoint n = absurd (n refl)
not_endpoint Companion n = refl
not_endpoint Other n = refl

pub not_companion : (kind : DescriptorKind) → kind ≢ Companion → is_m kind ≡ false
not_companion Configuration n = refl
not_companion Interface n = refl
not_companion Endpoint n = refl
not_companion Companion n = absurd (n refl)
not_companion Other n = refl
