-- Reading gives each command back, and takes no other word for one.
use Prim.Native.Nat.{ℕ, zero, suc, ◌/◌, ◌%◌, ◌^◌, ◌≤◌, ◌<◌}
use mathlib.Core.Path.{◌≡◌, refl, ap, ◌∙◌}
use mathlib.Core.Bool.{Bool, true, false}
use mathlib.Core.Logic.{◌⊎◌, inl, inr}
use native.Mathlib.Omega.{arith}
use borrow.Author.Tests.{eqb-true, le-leb, leb-true}
use lib.Dec.{leb}
use Rattle.laws.proofs.Tests.{and_left, and_right}
use Rattle.command.specs.declared.Command.{Command}
use Rattle.command.specs.declared.Command.TheVariants as command
use Rattle.command.specs.Command.{log_word, command_word}
use Rattle.command.proofs.Operations.{operation_word}
use Rattle.command_reader.specs.Read.{logged, has_one, has_two, lowest_bit, is_command, command_of}
use Rattle.command_reader.specs.Promises.{numbers, GivesBack, Named, NoOther}

-- The operands of a word.
module _ (operation first second : ℕ) (f : first < 256) (s : second < 256) where
  first_word : log_word operation first second / 2 ^ 20 % 256 ≡ first
  first_word = omega arith

  second_word : log_word operation first second / 2 ^ 12 % 256 ≡ second
  second_word = omega arith

  back : operation ≤ 12 → log_word operation first second % lowest_bit operation ≡ 0 →
      command_of (log_word operation first second) ≡ logged operation first second
  unfolding command_of is_command
  back h z =
      rw (operation_word operation first second f s, le-leb operation 12 h, z, first_word, second_word)

one_back : (operation first : ℕ) → operation ≤ 12 → has_one operation ≡ true → first < 256 →
    command_of (log_word operation first 0) ≡ logged operation first 0
unfolding lowest_bit
one_back operation first h e f = back operation first 0 f (omega arith) h (rw e (omega arith))

pub gives_back : GivesBack
unfolding numbers command_word command_of is_command lowest_bit has_one has_two
gives_back command.Address f s = refl
gives_back command.Evaluate f s = refl
gives_back command.Configure f s = refl
gives_back (command.Stop dci) f s = one_back 4 _ (omega arith) refl f
gives_back (command.Resume dci) f s = one_back 5 _ (omega arith) refl f
gives_back (command.SetInterface interface alternate) f s = back 6 interface alternate f s (omega arith) (omega arith)
gives_back (command.SetConfiguration value) f s = one_back 7 value (omega arith) refl f
gives_back command.ReadHeader f s = refl
gives_back command.ReadConfiguration f s = refl
gives_back command.ReadDevice f s = refl
gives_back (command.ReadConfig index) f s = one_back 11 index (omega arith) refl f
gives_back command.Disable f s = refl

is_named : (word : ℕ) (c : Command) → word ≡ command_word c → (numbers c).first < 256 → (numbers c).second < 256 → Named word
is_named word c e f s = record { which = c; is_word = e; read = ap command_of e ∙ gives_back c f s }

-- A word of each operation that is 0 below its last operand.
named : (word operation : ℕ) → operation ≤ 12 → word / 2 ^ 28 ≡ operation → word % lowest_bit operation ≡ 0 →
    (command_of word ≡ logged 0 0 0) ⊎ Named word
unfolding numbers command_word command_of is_command lowest_bit has_one has_two
named word zero h e z = inl (let n : word ≡ 0 = omega (arith, e, z) in rw n)
named word (suc zero) h e z = inr (is_named word command.Address (omega (arith, e, z)) (omega arith) (omega arith))
named word (suc (suc zero)) h e z = inr (is_named word command.Evaluate (omega (arith, e, z)) (omega arith) (omega arith))
named word (suc (suc (suc zero))) h e z = inr (is_named word command.Configure (omega (arith, e, z)) (omega arith) (omega arith))
named word (suc (suc (suc (suc zero)))) h e z =
    inr (is_named word (command.Stop (record { 0 = word / 2 ^ 20 % 256 })) (omega (arith, e, z)) (omega arith) (omega arith))
named word (suc (suc (suc (suc (suc zero))))) h e z =
    inr (is_named word (command.Resume (record { 0 = word / 2 ^ 20 % 256 })) (omega (arith, e, z)) (omega arith) (omega arith))
named word (suc (suc (suc (suc (suc (suc zero)))))) h e z =
    inr (is_named word (command.SetInterface (word / 2 ^ 20 % 256) (word / 2 ^ 12 % 256)) (omega (arith, e, z)) (omega arith) (omega arith))
named word (suc (suc (suc (suc (suc (suc (suc zero))))))) h e z =
    inr (is_named word (command.SetConfiguration (word / 2 ^ 20 % 256)) (omega (arith, e, z)) (omega arith) (omega arith))
named word (suc (suc (suc (suc (suc (suc (suc (suc zero)))))))) h e z =
    inr (is_named word command.ReadHeader (omega (arith, e, z)) (omega arith) (omega arith))
named word (suc (suc (suc (suc (suc (suc (suc (suc (suc zero))))))))) h e z =
    inr (is_named word command.ReadConfiguration (omega (arith, e, z)) (omega arith) (omega arith))
named word (suc (suc (suc (suc (suc (suc (suc (suc (suc (suc zero)))))))))) h e z =
    inr (is_named word command.ReadDevice (omega (arith, e, z)) (omega arith) (omega arith))
named word (suc (suc (suc (suc (suc (suc (suc (suc (suc (suc (suc zero))))))))))) h e z =
    inr (is_named word (command.ReadConfig (word / 2 ^ 20 % 256)) (omega (arith, e, z)) (omega arith) (omega arith))
named word (suc (suc (suc (suc (suc (suc (suc (suc (suc (suc (suc (suc zero)))))))))))) h e z =
    inr (is_named word command.Disable (omega (arith, e, z)) (omega arith) (omega arith))
named word (suc (suc (suc (suc (suc (suc (suc (suc (suc (suc (suc (suc (suc n))))))))))))) h e z = absurd (omega arith)

of_command : (word : ℕ) → is_command word ≡ true → (command_of word ≡ logged 0 0 0) ⊎ Named word
unfolding is_command
of_command word e =
    named word (word / 2 ^ 28) (leb-true (word / 2 ^ 28) 12 (and_left _ _ e)) refl
    (eqb-true (word % lowest_bit (word / 2 ^ 28)) 0 (and_right (leb (word / 2 ^ 28) 12) _ e))

pub no_other : NoOther
unfolding command_of
no_other word = go (is_command word) refl
  where
    go : (b : Bool) → is_command word ≡ b → (command_of word ≡ logged 0 0 0) ⊎ Named word
    go false e = inl (rw e)
    go true e = of_command word e
