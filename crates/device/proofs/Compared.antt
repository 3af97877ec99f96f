-- What a comparison of answers tests.
use mathlib.Core.Path.{◌≡◌, refl, sym}
use mathlib.Core.Bool.{Bool, true, false, not, cond}
use Rattle.laws.proofs.Variants.{each_value}
use Rattle.answer.specs.contracts.Answer.{enum}
use Rattle.answer.specs.contracts.AnswerPartialEq.TheImpl as answers
use Rattle.answer.specs.declared.Answer.{Answer}
use Rattle.answer.specs.declared.Answer.TheVariants as answer
use Rattle.answer.specs.Answer.{number, is_accepted, is_broken}

same_test : (a b : Bool) → cond a b (not b) ≡ true → a ≡ b
same_test true b e = sym e
same_test false true e = e
same_test false false e = refl

pub accepted_test : (a : Answer) → answers.eq-value.it a answer.Accepted ≡ is_accepted a
unfolding number
accepted_test a =
    same_test _ _ (each_value enum (λ x. cond (answers.eq-value.it x answer.Accepted) (is_accepted x) (not (is_accepted x))) refl (λ v. refl, tt) a)

pub broken_test : (a : Answer) → answers.eq-value.it a answer.InterfaceBroken ≡ is_broken a
unfolding number
broken_test a =
    same_test _ _ (each_value enum (λ x. cond (answers.eq-value.it x answer.InterfaceBroken) (is_broken x) (not (is_broken x))) refl (λ v. refl, tt) a)
