-- Settings converted: 02's forms of two of them, as many as there can be, each ground of 23 and 24 with what stands just beside it, and
-- each speed.
-- proofs/Examples.antt computes them.
use Rattle.std.specs.Prelude.{ℕ, zero, suc, ◌+◌, ◌*◌, ◌≡◌, List, [], ◌∷◌, replicate, Err}
use Rattle.function_answer.specs.declared.Refusal.{Refusal}
use Rattle.function_answer.specs.declared.Refusal.TheVariants.{TooShort, Speed, DescriptorList, Companion, Settings, OtherConfiguration}
use Rattle.function_answer.specs.Answer.{Left, leaves, accepts}
use Rattle.settings_form.specs.Form.{new_form}
use Rattle.settings_form.specs.Convert.{to_new, to_old}

-- Configuration 1 with alternates 0 and 1 of interface 0, and alternate 0 of interface 3.
abbrev pub one : List ℕ
one = 0x00400000 ∷ 0x40000000 ∷ 0x40004000 ∷ 0x40c00000 ∷ []

-- Configuration 1 with interface 0 and configuration 2 with interface 1; the same where both have the value 1.
abbrev pub two : List ℕ
two = 0x00400000 ∷ 0x40000000 ∷ 0x00800000 ∷ 0x40400000 ∷ []

abbrev pub alike : List ℕ
alike = 0x00400000 ∷ 0x40000000 ∷ 0x00400000 ∷ 0x40400000 ∷ []

-- Configuration 1 with alternate 0 of each of 32 interfaces.
unfoldable pub alternates : ℕ → ℕ → List ℕ
alternates first zero = []
alternates first (suc n) = (0x40000000 + first * 0x400000) ∷ alternates (suc first) n

abbrev pub full : List ℕ
full = 0x00400000 ∷ alternates 0 32

-- Alternate 0 of as many interfaces.
unfoldable pub pairs : ℕ → ℕ → List ℕ
pairs first zero = []
pairs first (suc n) = first ∷ 0 ∷ pairs (suc first) n

abbrev pub lent : List ℕ
lent = replicate 66 0xa9

abbrev pub old_to_new : List ℕ → List ℕ → Left
old_to_new settings list = to_new 3 settings list lent

abbrev pub new_to_old : List ℕ → List ℕ → Left
new_to_old settings list = to_old 3 settings list lent

abbrev pub into : List ℕ → Left
into output = accepts output lent

abbrev pub refused : Refusal → Left
refused refusal = leaves (Err refusal) lent

abbrev pub NewExamples : Type 0
NewExamples =
    (old_to_new (0 ∷ 1 ∷ 3 ∷ 0 ∷ []) one ≡ into (0x01 ∷ 0x08 ∷ 0x00 ∷ 0x04 ∷ 0x0c ∷ 0x00 ∷ []))
    × (old_to_new [] one ≡ into (0x01 ∷ 0x00 ∷ []))
    -- an odd length
    × (old_to_new (0 ∷ 1 ∷ 3 ∷ []) one ≡ refused Settings)
    -- interfaces that do not rise, and one that stands twice
    × (old_to_new (3 ∷ 0 ∷ 0 ∷ 1 ∷ []) one ≡ refused Settings)
    × (old_to_new (0 ∷ 0 ∷ 0 ∷ 1 ∷ []) one ≡ refused Settings)
    -- an alternate and an interface that are not there
    × (old_to_new (3 ∷ 1 ∷ []) one ≡ refused Settings)
    × (old_to_new (1 ∷ 0 ∷ []) one ≡ refused Settings)
    -- a later configuration's, and that of a later configuration of the same value
    × (old_to_new (1 ∷ 0 ∷ []) two ≡ refused Settings)
    × (old_to_new (1 ∷ 0 ∷ []) alike ≡ refused Settings)
    -- an empty list
    × (old_to_new [] [] ≡ refused Settings)
    -- one pair more than 32
    × (old_to_new (pairs 0 33) full ≡ refused Settings)
    -- 4 before 23, and 3 before both
    × (old_to_new (0 ∷ []) (0x40000000 ∷ []) ≡ refused DescriptorList)
    × (to_new 3 (0 ∷ []) (0x40000000 ∷ []) (replicate 65 0) ≡ leaves (Err TooShort) (replicate 65 0))

abbrev pub OldExamples : Type 0
OldExamples =
    (new_to_old (0x01 ∷ 0x08 ∷ 0x00 ∷ 0x04 ∷ 0x0c ∷ 0x00 ∷ []) one ≡ into (0 ∷ 1 ∷ 3 ∷ 0 ∷ []))
    × (new_to_old (0x01 ∷ 0x00 ∷ []) one ≡ into [])
    -- fewer than two bytes
    × (new_to_old [] one ≡ refused Settings)
    × (new_to_old (0x01 ∷ []) one ≡ refused Settings)
    -- a byte too many, and one too few
    × (new_to_old (0x01 ∷ 0x08 ∷ 0x00 ∷ 0x04 ∷ 0x0c ∷ 0x00 ∷ 0x00 ∷ []) one ≡ refused Settings)
    × (new_to_old (0x01 ∷ 0x08 ∷ 0x00 ∷ 0x04 ∷ 0x0c ∷ []) one ≡ refused Settings)
    -- each bit of padding
    × (new_to_old (0x01 ∷ 0x08 ∷ 0x00 ∷ 0x04 ∷ 0x0c ∷ 0x01 ∷ []) one ≡ refused Settings)
    × (new_to_old (0x01 ∷ 0x08 ∷ 0x00 ∷ 0x04 ∷ 0x0c ∷ 0x02 ∷ []) one ≡ refused Settings)
    × (new_to_old (0x01 ∷ 0x02 ∷ []) one ≡ refused Settings)
    -- interfaces that do not rise, and one that stands twice
    × (new_to_old (0x01 ∷ 0x08 ∷ 0x0c ∷ 0x00 ∷ 0x00 ∷ 0x04 ∷ []) one ≡ refused Settings)
    × (new_to_old (0x01 ∷ 0x08 ∷ 0x00 ∷ 0x00 ∷ 0x00 ∷ 0x04 ∷ []) one ≡ refused Settings)
    -- an alternate that is not there
    × (new_to_old (0x01 ∷ 0x04 ∷ 0x0c ∷ 0x04 ∷ []) one ≡ refused Settings)
    -- a configuration that is not there, and an empty list
    × (new_to_old (0x02 ∷ 0x00 ∷ []) one ≡ refused Settings)
    × (new_to_old (0x01 ∷ 0x00 ∷ []) [] ≡ refused Settings)
    -- that of a later configuration of the same value
    × (new_to_old (0x01 ∷ 0x04 ∷ 0x04 ∷ 0x00 ∷ []) alike ≡ refused Settings)
    -- another configuration than the first, without settings and with one that it has, and with one that it has not
    × (new_to_old (0x02 ∷ 0x00 ∷ []) two ≡ refused OtherConfiguration)
    × (new_to_old (0x02 ∷ 0x04 ∷ 0x04 ∷ 0x00 ∷ []) two ≡ refused OtherConfiguration)
    × (new_to_old (0x02 ∷ 0x04 ∷ 0x00 ∷ 0x00 ∷ []) two ≡ refused Settings)
    -- 4 before 23, and 3 before both
    × (new_to_old [] (0x40000000 ∷ []) ≡ refused DescriptorList)
    × (to_old 3 [] (0x40000000 ∷ []) (replicate 65 0) ≡ leaves (Err TooShort) (replicate 65 0))

-- 32 pairs, there and back, and the new form of one pair more.
abbrev pub FullExamples : Type 0
FullExamples =
    (old_to_new (pairs 0 32) full ≡ into (new_form 1 (pairs 0 32)))
    × (new_to_old (new_form 1 (pairs 0 32)) full ≡ into (pairs 0 32))
    × (new_to_old (new_form 1 (pairs 0 33)) full ≡ refused Settings)

-- The list `one` with an endpoint in each alternate, which have companions or not.
abbrev pub paired : List ℕ
paired =
    0x00400000 ∷ 0x40000000 ∷ 0xa3808410 ∷ 0xcc000800 ∷ 0x40004000 ∷ 0xa3008410 ∷ 0xcc000000 ∷ 0x40c00000 ∷ 0xa5808410 ∷ 0xcc000800 ∷ []

abbrev pub alone : List ℕ
alone = 0x00400000 ∷ 0x40000000 ∷ 0xa3808410 ∷ 0x40004000 ∷ 0xa3008410 ∷ 0x40c00000 ∷ 0xa5808410 ∷ []

-- Each speed with lists of either kind.
abbrev pub SpeedExamples : Type 0
SpeedExamples =
    (to_new 4 (0 ∷ 1 ∷ 3 ∷ 0 ∷ []) paired lent ≡ into (0x01 ∷ 0x08 ∷ 0x00 ∷ 0x04 ∷ 0x0c ∷ 0x00 ∷ []))
    × (to_new 5 (0 ∷ 1 ∷ 3 ∷ 0 ∷ []) paired lent ≡ into (0x01 ∷ 0x08 ∷ 0x00 ∷ 0x04 ∷ 0x0c ∷ 0x00 ∷ []))
    × (to_new 3 (0 ∷ 1 ∷ 3 ∷ 0 ∷ []) paired lent ≡ refused DescriptorList)
    × (to_new 3 (0 ∷ 1 ∷ 3 ∷ 0 ∷ []) alone lent ≡ into (0x01 ∷ 0x08 ∷ 0x00 ∷ 0x04 ∷ 0x0c ∷ 0x00 ∷ []))
    × (to_new 4 (0 ∷ 1 ∷ 3 ∷ 0 ∷ []) alone lent ≡ refused Companion)
    × (to_new 5 (0 ∷ 1 ∷ 3 ∷ 0 ∷ []) alone lent ≡ refused Companion)
    × (to_old 4 (0x01 ∷ 0x08 ∷ 0x00 ∷ 0x04 ∷ 0x0c ∷ 0x00 ∷ []) paired lent ≡ into (0 ∷ 1 ∷ 3 ∷ 0 ∷ []))
    × (to_old 3 (0x01 ∷ 0x08 ∷ 0x00 ∷ 0x04 ∷ 0x0c ∷ 0x00 ∷ []) paired lent ≡ refused DescriptorList)
    × (to_old 5 (0x01 ∷ 0x08 ∷ 0x00 ∷ 0x04 ∷ 0x0c ∷ 0x00 ∷ []) alone lent ≡ refused Companion)
    -- 26 before 23, 4 before 26, a companion as first word, 6 before 4, and 3 before 6
    × (to_new 4 (0 ∷ []) alone lent ≡ refused Companion)
    × (to_new 4 [] (0x00400000 ∷ 0xcc000801 ∷ []) lent ≡ refused DescriptorList)
    × (to_old 4 [] (0xcc000800 ∷ []) lent ≡ refused DescriptorList)
    × (to_new 0 [] (0x40000000 ∷ []) lent ≡ refused Speed)
    × (to_old 6 [] (0x40000000 ∷ []) lent ≡ refused Speed)
    × (to_old 6 [] [] (replicate 65 0) ≡ leaves (Err TooShort) (replicate 65 0))
