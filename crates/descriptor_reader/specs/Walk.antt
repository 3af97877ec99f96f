-- What the walks over descriptors give.
use Rattle.std.specs.Prelude.{ℕ, ◌+◌, ◌≤◌, ◌<◌, ◌≡◌, Bool, List, [], ◌∷◌, Option, Some, None, MatchOption, length, take}
use Rattle.descriptor_raw.specs.Read.{descriptors, read_words}
use Rattle.descriptor_reader.specs.declared.cut.Descriptor.{Descriptor}
use Rattle.descriptor_reader.specs.declared.cut.Descriptors.{Descriptors}

-- The first descriptor of bytes, and the bytes after it.
pub record CutOff (bytes d after : List ℕ) : Type 0 where
  pub next : descriptors bytes ≡ d ∷ descriptors after
  pub long : length d + length after ≡ length bytes

-- One step of a walk, which goes on with companions as it began.
pub record Step (from : Descriptors) (d : Descriptor) (left : Descriptors) : Type 0 where
  pub cut_off : CutOff from.bytes.now d.bytes.now left.bytes.now
  pub given : d.companions ≡ from.companions
  pub kept : left.companions ≡ from.companions

-- What a walk gives: the first descriptor that is left, or none where nothing is left.
abbrev pub Yields : Descriptors → Option Descriptor → Descriptors → Type 0
Yields from given left = MatchOption given (from.bytes.now ≡ []) (λ d. Step from d left)

-- The word of a descriptor, or none.
unfoldable pub made_words : Option ℕ → List ℕ
made_words (Some w) = w ∷ []
made_words None = []

-- What is gathered of the words of bytes: all of them, at the front of a list, where they are 256 at most.
abbrev pub Gathered : Bool → List ℕ → List ℕ → Option ℕ → Type 0
Gathered super bytes list gathered =
    MatchOption gathered (256 < length (read_words super bytes)) (λ count. (count ≤ 256) × (take count list ≡ read_words super bytes))
