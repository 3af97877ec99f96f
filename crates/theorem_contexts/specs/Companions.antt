-- What a companion gives the block of its endpoint in every Configure that adds it at speeds 4 and 5, an undoing one too, at both spacings:
-- xHCI 1.2, section 6.2.3; USB 3.2, section 9.6.
use Rattle.std.specs.Prelude.{ℕ, ◌+◌, ◌/◌, ◌%◌, ◌^◌, ◌<◌, ◌≤◌, ◌≡◌, ◌⊎◌, false, List, ◌∷◌, ◌++◌}
use Rattle.descriptor.specs.Word.{with_companion}
use Rattle.transfer.specs.Routes.{Queue}
use Rattle.context_field.specs.declared.Field.{Field}
use Rattle.context_block.specs.Fields.{MULT, MAX-ESIT-PAYLOAD-HI, MAX-BURST-SIZE, AVERAGE-TRB-LENGTH, MAX-ESIT-PAYLOAD-LO}
use Rattle.context_block.specs.Blocks.{word_dci, some_dci}
use Rattle.context.specs.Place.{written, read_at}
use Rattle.context.specs.Steps.{add_all}
use Rattle.context.specs.Promises.{ConfigureReads}

-- Bits 24 and 23 of an endpoint word are its type: 1 isochronous, 2 bulk, 3 interrupt.
abbrev pub type_of : ℕ → ℕ
type_of w = w / 2 ^ 23 % 2 ^ 2

-- A block's fields against a companion's: bits 29 to 26 are its burst, 25 and 24 its mult, 23 to 8 its bytes per interval. A bulk endpoint's
-- block keeps four of the five as they were.
pub record CompanionRead (read was : Field → ℕ) (w c : ℕ) : Type 0 where
  pub burst : read MAX-BURST-SIZE ≡ c / 2 ^ 26 % 2 ^ 4
  pub mult : (type_of w ≡ 1) ⊎ (type_of w ≡ 3) → read MULT ≡ c / 2 ^ 24 % 2 ^ 2
  pub high : (type_of w ≡ 1) ⊎ (type_of w ≡ 3) → read MAX-ESIT-PAYLOAD-HI ≡ 0
  pub low : (type_of w ≡ 1) ⊎ (type_of w ≡ 3) → read MAX-ESIT-PAYLOAD-LO ≡ c / 2 ^ 8 % 2 ^ 16
  pub average : (type_of w ≡ 1) ⊎ (type_of w ≡ 3) → read AVERAGE-TRB-LENGTH ≡ c / 2 ^ 8 % 2 ^ 16
  pub bulk :
      type_of w ≡ 2 →
      (read MULT ≡ was MULT)
      × ((read MAX-ESIT-PAYLOAD-HI ≡ was MAX-ESIT-PAYLOAD-HI)
      × ((read MAX-ESIT-PAYLOAD-LO ≡ was MAX-ESIT-PAYLOAD-LO) × (read AVERAGE-TRB-LENGTH ≡ was AVERAGE-TRB-LENGTH)))

-- Of an endpoint word that is added with its companion; of several words of an address the last, each over what the words before it left.
abbrev pub CompanionsRead : Type 0
CompanionsRead =
    (s speed interface alternate : ℕ) (dropped added : List ℕ) (queues : List Queue) (dcis was ctx : List ℕ) →
    4 ≤ speed →
    speed ≤ 5 →
    ConfigureReads s speed interface alternate dropped added queues dcis was ctx →
    (xs ys : List ℕ) (w c : ℕ) →
    w < 2 ^ 32 →
    added ≡ xs ++ (with_companion w c ∷ ys) →
    some_dci (word_dci w) ys ≡ false →
    let block = word_dci w + 1 in
    CompanionRead (read_at s ctx block) (read_at s (written s (add_all speed queues xs) was) block) w c
