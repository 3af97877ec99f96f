-- What is promised of lists with companions: proofs/Companions.antt proves each `..Promise`.
use Rattle.std.specs.Prelude.{ℕ, ◌%◌, ◌^◌, ◌≤◌, ◌≡◌, true, false, cond, List, [], ◌∷◌, ◌++◌, eqb}
use Rattle.laws.specs.Bounds.{Below}
use Rattle.def.specs.Speed.{is_super}
use Rattle.descriptor.specs.Word.{kind, type_number, companion_mult, with_companion, CONFIGURATION, ENDPOINT, COMPANION}
use Rattle.descriptor_list.specs.Valid.{configurations, valid_list}
use Rattle.descriptor_list.specs.Companions.{joined, list_ok, companions_fit, valid_at}

-- At speeds 1 to 3 a list is valid by 01's rules alone, and it is its own joined list.
pub record AsBefore (speed : ℕ) (l : List ℕ) : Type 0 where
  pub list : list_ok speed l ≡ valid_list l
  pub companions : companions_fit speed l ≡ true
  pub valid : valid_at speed l ≡ valid_list l
  pub same : valid_list l ≡ true → joined l ≡ l

abbrev pub BeforePromise : Type 0
BeforePromise = (speed : ℕ) (l : List ℕ) → is_super speed ≡ false → AsBefore speed l

-- The words of a list that are not of kind 3.
unfoldable pub passed_over : List ℕ → List ℕ
passed_over [] = []
passed_over (w ∷ l) = cond (eqb (kind w) COMPANION) (passed_over l) (w ∷ passed_over l)

-- The 32 bits of each word that are the list's own.
unfoldable pub lows : List ℕ → List ℕ
lows [] = []
lows (w ∷ l) = w % 2 ^ 32 ∷ lows l

-- Companions apart, the joined words are the words of the list in their order.
pub record Joins (l : List ℕ) : Type 0 where
  pub low : lows (joined l) ≡ passed_over l
  pub configurations : configurations (joined l) ≡ configurations l

abbrev pub JoinedPromise : Type 0
JoinedPromise = (l : List ℕ) → Below (2 ^ 32) l → Joins l

-- An endpoint word before others has its companion directly behind it, with a mult in range, and is joined to that one.
pub record HasCompanion (w : ℕ) (l : List ℕ) : Type 0 where
  pub companion : ℕ
  pub rest : List ℕ
  pub behind : l ≡ companion ∷ rest
  pub is-one : kind companion ≡ COMPANION
  pub mult : companion_mult companion ≤ cond (eqb (type_number w) 1) 2 0
  pub joins : joined (w ∷ l) ≡ with_companion w companion ∷ joined rest

-- Of a list that is valid at speed 4 or 5 this is so of each endpoint word, of a repeated address too.
abbrev pub PairedPromise : Type 0
PairedPromise =
    (speed : ℕ) (xs : List ℕ) (w : ℕ) (l : List ℕ) →
    is_super speed ≡ true →
    valid_at speed (xs ++ (w ∷ l)) ≡ true →
    kind w ≡ ENDPOINT →
    HasCompanion w l

-- The first word is a configuration's: a companion there gives 4.
abbrev pub FirstPromise : Type 0
FirstPromise = (speed w : ℕ) (l : List ℕ) → list_ok speed (w ∷ l) ≡ true → kind w ≡ CONFIGURATION

-- What lookup and all after it work on is a list by 01's rules.
abbrev pub ValidPromise : Type 0
ValidPromise = (speed : ℕ) (l : List ℕ) → valid_at speed l ≡ true → valid_list (joined l) ≡ true
