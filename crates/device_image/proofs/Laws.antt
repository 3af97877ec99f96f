-- A record and its image.
use Prim.Native.Nat.{ℕ, zero, suc, ◌+◌, ◌-◌, ◌≤◌, ◌<◌}
use mathlib.Core.Path.{◌≡◌, refl, sym, ap, subst, ◌∙◌}
use mathlib.Core.Bool.{Bool, true, false, cond}
use mathlib.Core.List.{List, [], ◌∷◌, map, flatten}
use native.Mathlib.Nat.{zero-add}
use native.Mathlib.Omega.{arith}
use borrow.Author.Tests.{eq-eqb}
use mir.Val.{bool_byte}
use lib.ListN.{length, get_or, take}
use lib.Seq.{sets}
use Rattle.laws.specs.Bounds.{Below}
use Rattle.laws.proofs.Tests.{and-true}
use Rattle.record_endpoint.specs.EndpointMap.{tabulated}
use Rattle.record_endpoint.specs.Endpoint.{blank}
use Rattle.record_endpoint.specs.declared.entry.Handle.{Handle}
use Rattle.record_endpoint.specs.declared.entry.Handle.TheVariants.{Active, Revoked}
use Rattle.device.specs.declared.record.Device.{Device}
use Rattle.descriptor_list.specs.Valid.{LIST-ROOM}
use Rattle.record_ring.specs.Rings.{RING-ROOM}
use Rattle.record_ring.specs.Store.{GIVEN-ROOM}
use Rattle.record_endpoint.specs.Order.{PLACES}
use Rattle.record_settings.specs.Held.{HELD-ROOM}
use Rattle.device_image.specs.Layout.{USABLE, CONFIGURED, CONTROL-REVOKED, EP-REVOKED, SLOT, MAX-SLOTS, PORT-SPEED, CURRENT-CONFIG-VALUE, EP-ADDRESSES, EP-INTERFACES, INTERFACES, ALTERNATES, LIST, SPACING, LIST-LEN, EP-COUNT, HELD-COUNT, QUARANTINED-COUNT, CONTROL, EP-RINGS, QUARANTINED, UP, GIVEN-COUNT, GIVEN, WORDS}
use Rattle.device_image.specs.Image.{flag, revoked, handle_word, address_word, ring_word, parts, encode, is_set, handle_in, number_at, endpoint_in, read, FixedIn, decode, stored, below, is_image}
use Rattle.device_image.specs.Fits.{Fits}
use Rattle.device_image.proofs.Steps.{mapped, length_mapped, image_flag, image_byte, image_word, image_up}
use Rattle.device_image.proofs.Steps as steps
use Rattle.device_image.proofs.Parts.{sum, Laid, laid_cuts, laid_word, laid_part, lay, length_joined, tabulated_list, tabulated_same, tabulated_map, tabulated_length, tabulated_at, cuts, cuts_joined, number_list, below_run, below_add}

abbrev SIZES : List ℕ
SIZES = 3 ∷ PLACES ∷ 4 ∷ PLACES ∷ PLACES ∷ HELD-ROOM ∷ HELD-ROOM ∷ LIST-ROOM ∷ 6 ∷ PLACES ∷ RING-ROOM ∷ 2 ∷ GIVEN-ROOM ∷ []

flag_back : (b : Bool) → is_set (flag b) ≡ b
unfolding is_set flag
flag_back true = refl
flag_back false = refl

handle_back : (h : Handle) → handle_in (revoked h) ≡ h
unfolding handle_in revoked
handle_back Active = refl
handle_back Revoked = refl

flag_word : (w : ℕ) → w < 2 → flag (is_set w) ≡ w
unfolding is_set flag
flag_word zero h = refl
flag_word (suc zero) h = refl
flag_word (suc (suc w)) h = absurd (omega arith)

handle_word_lem : (w : ℕ) → w < 2 → revoked (handle_in w) ≡ w
unfolding handle_in revoked
handle_word_lem zero h = refl
handle_word_lem (suc zero) h = refl
handle_word_lem (suc (suc w)) h = absurd (omega arith)

flag_below : (b : Bool) → flag b < 2
unfolding flag
flag_below true = omega arith
flag_below false = omega arith

revoked_below : (h : Handle) → revoked h < 2
unfolding revoked
revoked_below Active = omega arith
revoked_below Revoked = omega arith

-- The numbers of a record, by width.
abbrev flags_of : Device → List ℕ
flags_of d = flag d.usable ∷ flag d.configured ∷ revoked d.control_handle ∷ []

abbrev bytes_of : Device → List ℕ
bytes_of d = d.slot.0 ∷ d.max_slots ∷ d.port_speed ∷ d.current_config_value ∷ []

abbrev counts_of : Device → List ℕ
counts_of d =
    d.spacing ∷ d.list_len ∷ d.ep_count ∷ d.held_count ∷ d.quarantined_count ∷ d.control ∷ []

abbrev up_of : Device → List ℕ
up_of d = flag d.up ∷ d.given_count ∷ []

flag_byte : (b : Bool) → bool_byte b ≡ flag b
unfolding flag
flag_byte true = refl
flag_byte false = refl

three_below : (bound a b c : ℕ) → a < bound → b < bound → c < bound → Below bound (a ∷ b ∷ c ∷ [])
three_below bound a b c x y z zero h = x
three_below bound a b c x y z (suc zero) h = y
three_below bound a b c x y z (suc (suc zero)) h = z
three_below bound a b c x y z (suc (suc (suc i))) h = absurd (omega arith)

cons_below : (bound a : ℕ) (l : List ℕ) → a < bound → Below bound l → Below bound (a ∷ l)
cons_below bound a l x b zero h = x
cons_below bound a l x b (suc i) h = b i (omega arith)

module _ (d : Device) (fits : Fits d) where
  sizes : map length (parts d) ≡ SIZES
  unfolding parts
  sizes =
      rw (length_mapped handle_word d.eps fits.eps.0, length_mapped address_word d.eps fits.eps.0, length_mapped ring_word d.eps fits.eps.0, fits.owners.0, fits.interfaces.0, fits.alternates.0, fits.list.0, fits.quarantined, fits.given)

  -- An image lies in the parts of its record.
  laid : Laid SIZES (parts d) (encode d)
  unfolding encode
  laid = record { joined = refl; sized = sizes }

  length_encode : length (encode d) ≡ WORDS
  unfolding encode sum
  length_encode = length_joined (parts d) ∙ ap sum sizes

  -- What is left where all but the list and the given rings is written over a buffer that says these.
  pub updated :
      (l : List ℕ) → length l ≡ WORDS → FixedIn d l → {l1 l2 l3 l4 : List ℕ} {w : ℕ} →
      l1
      ≡ sets (sets (sets (sets l EP-REVOKED (map handle_word d.eps)) EP-ADDRESSES (map address_word d.eps)) EP-INTERFACES d.ep_interfaces) EP-RINGS
      (map ring_word d.eps) →
      l2 ≡ sets l1 INTERFACES d.interfaces → l3 ≡ sets l2 ALTERNATES d.alternates → l4 ≡ sets l3 QUARANTINED d.quarantined →
      w ≡ revoked d.control_handle →
      sets (sets (sets (sets l4 USABLE (bool_byte d.usable ∷ bool_byte d.configured ∷ w ∷ [])) SLOT (bytes_of d)) SPACING (counts_of d)) UP
      (bool_byte d.up ∷ d.given_count ∷ [])
      ≡ stored d l
  unfolding encode parts read stored sum cuts
  updated l e s a b b' c g =
      rw (eq-eqb (length l) WORDS e, g, flag_byte d.usable, flag_byte d.configured, flag_byte d.up, c, b', b, a, s.list, s.given)
      (lay 11 (up_of d) refl
      (lay 8 (counts_of d) refl
      (lay 2 (bytes_of d) refl
      (lay 0 (flags_of d) refl
      (lay 10 d.quarantined fits.quarantined
      (lay 6 d.alternates fits.alternates.0
      (lay 5 d.interfaces fits.interfaces.0
      (lay 9 (map ring_word d.eps) (length_mapped ring_word d.eps fits.eps.0)
      (lay 4 d.ep_interfaces fits.owners.0
      (lay 3 (map address_word d.eps) (length_mapped address_word d.eps fits.eps.0)
      (lay 1 (map handle_word d.eps) (length_mapped handle_word d.eps fits.eps.0) (laid_cuts SIZES l e)))))))))))).joined

  -- A buffer over which these are written says them, so all that is written then is the image.
  placed : (l : List ℕ) → length l ≡ WORDS → FixedIn d (sets (sets l LIST d.list) GIVEN d.given)
  unfolding read sum cuts
  placed l e =
      let w = lay 12 d.given fits.given (lay 7 d.list fits.list.0 (laid_cuts SIZES l e)) in
      record { list = sym (laid_part w 7); given = sym (laid_part w 12) }

  pub encoded :
      (l : List ℕ) → length l ≡ WORDS → {l1 l2 l3 : List ℕ} → l1 ≡ sets l LIST d.list → l2 ≡ sets l1 GIVEN d.given → length l2 ≡ WORDS →
      (FixedIn d l2 → l3 ≡ stored d l2) → l3 ≡ stored d l
  unfolding stored
  encoded l e {l1} {l2} a b size u =
      u (rw (b, a) (placed l e)) ∙ rw (eq-eqb (length l2) WORDS size, eq-eqb (length l) WORDS e)

  module _ (j k a : ℕ) (p : List ℕ) (ek : get_or SIZES j 0 ≡ k) (ea : sum (take j SIZES) ≡ a) (ep : get_or (parts d) j [] ≡ p) where
    word : (i : ℕ) → i < k → get_or (encode d) (a + i) 0 ≡ get_or p i 0
    word i h =
        subst (λ (m : ℕ). get_or (encode d) (m + i) 0 ≡ get_or p i 0) ea
        (laid_word laid j i (rw ek h) ∙ ap (λ (q : List ℕ). get_or q i 0) ep)

    back : length p ≡ k → tabulated (number_at (encode d)) k a ≡ p
    unfolding number_at
    back el = tabulated_list (number_at (encode d)) p k a 0 el word

    run : (bound : ℕ) → length p ≡ k → Below bound p → below bound k a (encode d) ≡ true
    run bound el b = below_run bound k a (encode d) (λ i h. rw (word i h) (b i (rw el h)))

  address_at : (i : ℕ) → i < PLACES → get_or (encode d) (EP-ADDRESSES + i) 0 ≡ (get_or d.eps i blank).address
  unfolding sum parts address_word
  address_at i h =
      word 3 PLACES EP-ADDRESSES (map address_word d.eps) refl refl refl i h
      ∙ sym (mapped address_word d.eps i blank fits.eps.0 h)

  ring_at : (i : ℕ) → i < PLACES → get_or (encode d) (EP-RINGS + i) 0 ≡ (get_or d.eps i blank).ring
  unfolding sum parts ring_word
  ring_at i h =
      word 9 PLACES EP-RINGS (map ring_word d.eps) refl refl refl i h
      ∙ sym (mapped ring_word d.eps i blank fits.eps.0 h)

  handle_at : (i : ℕ) → i < PLACES → handle_in (get_or (encode d) (EP-REVOKED + i) 0) ≡ (get_or d.eps i blank).handle
  unfolding sum parts handle_word
  handle_at i h =
      ap handle_in
      (word 1 PLACES EP-REVOKED (map handle_word d.eps) refl refl refl i h
      ∙ sym (mapped handle_word d.eps i blank fits.eps.0 h))
      ∙ handle_back (get_or d.eps i blank).handle

  endpoints_back : tabulated (endpoint_in (encode d)) PLACES 0 ≡ d.eps
  unfolding endpoint_in
  endpoints_back =
      tabulated_list (endpoint_in (encode d)) d.eps PLACES 0 blank fits.eps.0
      (λ i h. rw (zero-add, address_at i h, ring_at i h, handle_at i h) refl)

  quarantined_back : tabulated (number_at (encode d)) RING-ROOM QUARANTINED ≡ d.quarantined
  unfolding sum parts
  quarantined_back = back 10 RING-ROOM QUARANTINED d.quarantined refl refl refl fits.quarantined

  flag_at : (i : ℕ) → i < 3 → get_or (encode d) i 0 ≡ get_or (flags_of d) i 0
  unfolding sum parts
  flag_at i h = subst (λ (m : ℕ). get_or (encode d) m 0 ≡ get_or (flags_of d) i 0) (zero-add i) (word 0 3 0 (flags_of d) refl refl refl i h)

  byte_at : (i : ℕ) → i < 4 → get_or (encode d) (SLOT + i) 0 ≡ get_or (bytes_of d) i 0
  unfolding sum parts
  byte_at i h = word 2 4 SLOT (bytes_of d) refl refl refl i h

  count_at : (i : ℕ) → i < 6 → get_or (encode d) (SPACING + i) 0 ≡ get_or (counts_of d) i 0
  unfolding sum parts
  count_at i h = word 8 6 SPACING (counts_of d) refl refl refl i h

  up_at : get_or (encode d) UP 0 ≡ flag d.up
  unfolding sum parts
  up_at = word 11 2 UP (up_of d) refl refl refl 0 (omega arith)

  given_count_at : get_or (encode d) GIVEN-COUNT 0 ≡ d.given_count
  unfolding sum parts
  given_count_at = word 11 2 UP (up_of d) refl refl refl 1 (omega arith)

  given_back : tabulated (number_at (encode d)) GIVEN-ROOM GIVEN ≡ d.given
  unfolding sum parts
  given_back = back 12 GIVEN-ROOM GIVEN d.given refl refl refl fits.given

  list_back : tabulated (number_at (encode d)) LIST-ROOM LIST ≡ d.list
  unfolding sum parts
  list_back = back 7 LIST-ROOM LIST d.list refl refl refl fits.list.0

  owners_back : tabulated (number_at (encode d)) PLACES EP-INTERFACES ≡ d.ep_interfaces
  unfolding sum parts
  owners_back = back 4 PLACES EP-INTERFACES d.ep_interfaces refl refl refl fits.owners.0

  interfaces_back : tabulated (number_at (encode d)) HELD-ROOM INTERFACES ≡ d.interfaces
  unfolding sum parts
  interfaces_back = back 5 HELD-ROOM INTERFACES d.interfaces refl refl refl fits.interfaces.0

  alternates_back : tabulated (number_at (encode d)) HELD-ROOM ALTERNATES ≡ d.alternates
  unfolding sum parts
  alternates_back = back 6 HELD-ROOM ALTERNATES d.alternates refl refl refl fits.alternates.0

  read_encode : read (encode d) ≡ d
  unfolding read
  read_encode =
      let usable : is_set (get_or (encode d) USABLE 0) ≡ d.usable = ap is_set (flag_at 0 (omega arith)) ∙ flag_back d.usable in
      let up : is_set (get_or (encode d) UP 0) ≡ d.up = ap is_set up_at ∙ flag_back d.up in
      let configured : is_set (get_or (encode d) CONFIGURED 0) ≡ d.configured = ap is_set (flag_at 1 (omega arith)) ∙ flag_back d.configured in
      let handle : handle_in (get_or (encode d) CONTROL-REVOKED 0) ≡ d.control_handle = ap handle_in (flag_at 2 (omega arith)) ∙ handle_back d.control_handle in
      let slot : get_or (encode d) SLOT 0 ≡ d.slot.0 = byte_at 0 (omega arith) in
      let n : get_or (encode d) MAX-SLOTS 0 ≡ d.max_slots = byte_at 1 (omega arith) in
      let speed : get_or (encode d) PORT-SPEED 0 ≡ d.port_speed = byte_at 2 (omega arith) in
      let value : get_or (encode d) CURRENT-CONFIG-VALUE 0 ≡ d.current_config_value = byte_at 3 (omega arith) in
      let spacing : get_or (encode d) SPACING 0 ≡ d.spacing = count_at 0 (omega arith) in
      let words : get_or (encode d) LIST-LEN 0 ≡ d.list_len = count_at 1 (omega arith) in
      let endpoints : get_or (encode d) EP-COUNT 0 ≡ d.ep_count = count_at 2 (omega arith) in
      let held : get_or (encode d) HELD-COUNT 0 ≡ d.held_count = count_at 3 (omega arith) in
      let rings : get_or (encode d) QUARANTINED-COUNT 0 ≡ d.quarantined_count = count_at 4 (omega arith) in
      let control : get_or (encode d) CONTROL 0 ≡ d.control = count_at 5 (omega arith) in
      rw (usable, up, configured, handle, slot, n, speed, value, spacing, words, endpoints, held, rings, control, list_back, endpoints_back, owners_back, interfaces_back, alternates_back, quarantined_back, given_count_at, given_back)
      refl

  handles : Below 2 (map handle_word d.eps)
  unfolding handle_word
  handles i h =
      rw (← mapped handle_word d.eps i blank fits.eps.0 (rw (← length_mapped handle_word d.eps fits.eps.0) h))
      (revoked_below (get_or d.eps i blank).handle)

  -- The image of a record is one.
  pub image_encode : is_image (encode d) ≡ true
  unfolding is_image sum parts
  image_encode =
      and-true _ _ (eq-eqb (length (encode d)) WORDS length_encode)
      (and-true _ _
      (below_add 2 3 PLACES USABLE (encode d)
      (run 0 3 USABLE (flags_of d) refl refl refl 2 refl
      (three_below 2 _ _ _ (flag_below d.usable) (flag_below d.configured) (revoked_below d.control_handle)))
      (run 1 PLACES EP-REVOKED (map handle_word d.eps) refl refl refl 2 (length_mapped handle_word d.eps fits.eps.0) handles))
      (and-true _ _
      (below_add 256 4 (LIST - EP-ADDRESSES) SLOT (encode d)
      (run 2 4 SLOT (bytes_of d) refl refl refl 256 refl
      (cons_below 256 d.slot.0 (d.max_slots ∷ d.port_speed ∷ d.current_config_value ∷ []) fits.slot (three_below 256 _ _ _ fits.max_slots fits.speed fits.value)))
      (below_add 256 PLACES (LIST - EP-INTERFACES) EP-ADDRESSES (encode d)
      (run 3 PLACES EP-ADDRESSES (map address_word d.eps) refl refl refl 256 (length_mapped address_word d.eps fits.eps.0) fits.eps.1)
      (below_add 256 PLACES (LIST - INTERFACES) EP-INTERFACES (encode d)
      (run 4 PLACES EP-INTERFACES d.ep_interfaces refl refl refl 256 fits.owners.0 fits.owners.1)
      (below_add 256 HELD-ROOM HELD-ROOM INTERFACES (encode d)
      (run 5 HELD-ROOM INTERFACES d.interfaces refl refl refl 256 fits.interfaces.0 fits.interfaces.1)
      (run 6 HELD-ROOM ALTERNATES d.alternates refl refl refl 256 fits.alternates.0 fits.alternates.1)))))
      (and-true _ _ (run 7 LIST-ROOM LIST d.list refl refl refl 4294967296 fits.list.0 fits.list.1)
      (below_run 2 1 UP (encode d) (λ i h. let z : i ≡ 0 = omega arith in rw (z, up_at) (flag_below d.up))))))

  -- The record is what its image says.
  pub decode_encode : decode (encode d) ≡ d
  unfolding decode
  decode_encode = rw image_encode read_encode

-- The addresses and the rings of the endpoints that words say.
module _ (l : List ℕ) where
  addresses_cut : map address_word (tabulated (endpoint_in l) PLACES 0) ≡ tabulated (number_at l) PLACES EP-ADDRESSES
  unfolding address_word endpoint_in number_at
  addresses_cut =
      tabulated_map address_word (endpoint_in l) PLACES 0
      ∙ tabulated_same (λ i. address_word (endpoint_in l i)) (number_at l) PLACES 0 EP-ADDRESSES (λ i q. rw zero-add refl)

  rings_cut : map ring_word (tabulated (endpoint_in l) PLACES 0) ≡ tabulated (number_at l) PLACES EP-RINGS
  unfolding ring_word endpoint_in number_at
  rings_cut =
      tabulated_map ring_word (endpoint_in l) PLACES 0
      ∙ tabulated_same (λ i. ring_word (endpoint_in l i)) (number_at l) PLACES 0 EP-RINGS (λ i q. rw zero-add refl)

-- A list of words is an image exactly where it is what `encode` makes of the record that it says.
module _ (l : List ℕ) (image : is_image l ≡ true) where
  handles_cut : map handle_word (tabulated (endpoint_in l) PLACES 0) ≡ tabulated (number_at l) PLACES EP-REVOKED
  unfolding handle_word endpoint_in number_at
  handles_cut =
      tabulated_map handle_word (endpoint_in l) PLACES 0
      ∙ tabulated_same (λ i. handle_word (endpoint_in l i)) (number_at l) PLACES 0 EP-REVOKED
      (λ i q. rw zero-add (handle_word_lem (get_or l (EP-REVOKED + i) 0) (image_flag l image (EP-REVOKED + i) (omega arith))))

  flags_cut : flags_of (read l) ≡ tabulated (number_at l) 3 0
  unfolding read tabulated number_at
  flags_cut =
      rw (flag_word (get_or l USABLE 0) (image_flag l image USABLE (omega arith)), flag_word (get_or l CONFIGURED 0) (image_flag l image CONFIGURED (omega arith)), handle_word_lem (get_or l CONTROL-REVOKED 0) (image_flag l image CONTROL-REVOKED (omega arith)))
      refl

  up_cut : up_of (read l) ≡ tabulated (number_at l) 2 UP
  unfolding read tabulated number_at
  up_cut = rw (flag_word (get_or l UP 0) (image_up l image)) refl

  parts_cut : parts (read l) ≡ cuts SIZES 0 l
  unfolding parts read cuts tabulated number_at
  parts_cut = rw (flags_cut, handles_cut, addresses_cut l, rings_cut l, up_cut) refl

  pub image_length : length l ≡ WORDS
  image_length = steps.image_length l image

  pub encode_decode : encode (decode l) ≡ l
  unfolding encode decode sum
  encode_decode = rw image (ap flatten parts_cut ∙ cuts_joined SIZES 0 l ∙ number_list l WORDS image_length)

-- What words say fits, where they are of their widths.
module _ (l : List ℕ) (byte : (i : ℕ) → SLOT ≤ i → i < LIST → get_or l i 0 < 256) (word : (i : ℕ) → LIST ≤ i → i < SPACING → get_or l i 0 < 4294967296) where
  narrow :
      (bound k a : ℕ) → ((i : ℕ) → i < k → get_or l (a + i) 0 < bound) →
      (length (tabulated (number_at l) k a) ≡ k) × Below bound (tabulated (number_at l) k a)
  unfolding number_at
  narrow bound k a h =
      let size = tabulated_length (number_at l) k a in
      (size, λ i g. rw (tabulated_at (number_at l) k a i 0 (rw (← size) g)) (h i (rw (← size) g)))

  bytes : (k a : ℕ) → SLOT ≤ a → a + k ≤ LIST → (length (tabulated (number_at l) k a) ≡ k) × Below 256 (tabulated (number_at l) k a)
  bytes k a g h = narrow 256 k a (λ i q. byte (a + i) (omega arith) (omega arith))

  fits_read : Fits (read l)
  unfolding read
  fits_read =
      record {
        slot = byte SLOT (omega arith) (omega arith);
        max_slots = byte MAX-SLOTS (omega arith) (omega arith);
        speed = byte PORT-SPEED (omega arith) (omega arith);
        value = byte CURRENT-CONFIG-VALUE (omega arith) (omega arith);
        list = narrow 4294967296 LIST-ROOM LIST (λ i q. word (LIST + i) (omega arith) (omega arith));
        eps = (tabulated_length (endpoint_in l) PLACES 0, rw (addresses_cut l) (bytes PLACES EP-ADDRESSES (omega arith) (omega arith)).1);
        owners = bytes PLACES EP-INTERFACES (omega arith) (omega arith);
        interfaces = bytes HELD-ROOM INTERFACES (omega arith) (omega arith);
        alternates = bytes HELD-ROOM ALTERNATES (omega arith) (omega arith);
        quarantined = tabulated_length (number_at l) RING-ROOM QUARANTINED;
        given = tabulated_length (number_at l) GIVEN-ROOM GIVEN;
      }

pub fits_decode : (l : List ℕ) → Fits (decode l)
unfolding decode
fits_decode l = go (is_image l) refl
  where
    go : (b : Bool) → is_image l ≡ b → Fits (read (cond b l []))
    go true e = fits_read l (image_byte l e) (image_word l e)
    go false e = fits_read [] (λ i g h. omega arith) (λ i g h. omega arith)
