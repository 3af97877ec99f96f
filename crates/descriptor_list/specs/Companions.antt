-- Companions in a list of descriptor words, and which lists are valid at a speed: 02, request 11.
use Rattle.std.specs.Prelude.{ℕ, ◌≤◌, ◌≡◌, Bool, true, not, cond, ◌&&◌, ◌||◌, List, [], ◌∷◌, eqb, leb, length, get_or}
use Rattle.def.specs.Speed.{is_super}
use Rattle.descriptor.specs.Word.{kind, is_companion, type_number, companion_mult, companion_ok, with_companion, ENDPOINT}
use Rattle.descriptor_list.specs.Valid.{LIST-ROOM, begins_with_configuration, valid_list}

-- A word, with the one directly behind it if they are an endpoint and its companion.
unfoldable pub joined_word : ℕ → ℕ → ℕ
joined_word w next = cond (eqb (kind w) ENDPOINT && is_companion next) (with_companion w next) w

-- The words of a list, each endpoint word with its companion, and no companion by itself: lookup, settings, rings and routes are over these.
-- Behind the last word stands 0, which is no companion.
unfoldable pub joined : List ℕ → List ℕ
joined [] = []
joined (w ∷ l) = cond (is_companion w) (joined l) (joined_word w (get_or l 0 0) ∷ joined l)

-- Companions by themselves: none but at speeds 4 and 5, and no unused bit set in one.
unfoldable pub companions_ok : Bool → List ℕ → Bool
companions_ok super [] = true
companions_ok super (w ∷ l) = (not (is_companion w) || (super && companion_ok w)) && companions_ok super l

-- 01's rules, companions passed over; but these count among the 256, and none begins a list. Any other list gives 4.
unfoldable pub list_ok : ℕ → List ℕ → Bool
list_ok speed l =
    leb (length l) LIST-ROOM && (begins_with_configuration l && (companions_ok (is_super speed) l && valid_list (joined l)))

-- The highest mult in an endpoint word's companion: 2 where the endpoint is isochronous.
unfoldable pub mult_room : ℕ → ℕ
mult_room w = cond (eqb (type_number w) 1) 2 0

-- Whether a word may stand directly behind another: behind an endpoint word a companion with a mult in range, and none behind any other.
unfoldable pub follows : ℕ → ℕ → Bool
follows p w = cond (eqb (kind p) ENDPOINT) (is_companion w && leb (companion_mult w) (mult_room p)) (not (is_companion w))

unfoldable pub paired_after : ℕ → List ℕ → Bool
paired_after p [] = not (eqb (kind p) ENDPOINT)
paired_after p (w ∷ l) = follows p w && paired_after w l

-- The same of a whole list, as if behind 0, which is a configuration's word.
unfoldable pub paired : List ℕ → Bool
paired l = paired_after 0 l

-- At speeds 4 and 5 any other list gives 26.
unfoldable pub companions_fit : ℕ → List ℕ → Bool
companions_fit speed l = not (is_super speed) || paired l

-- A list that is valid at a speed: 4 and then 26 are judged over the whole of it.
unfoldable pub valid_at : ℕ → List ℕ → Bool
valid_at speed l = list_ok speed l && companions_fit speed l

-- What the code asks of a list whose joined words it copies: room in an array, and no setting of more than 30 words.
pub record Joinable (l : List ℕ) : Type 0 where
  pub short : length l ≤ LIST-ROOM
  pub valid : valid_list (joined l) ≡ true
