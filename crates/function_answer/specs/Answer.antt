-- What a function outside a slot answers, and what it leaves in the memory that it is lent.
use Rattle.std.specs.Prelude.{ℕ, ◌≤◌, ◌≡◌, Bool, cond, ⊤, List, length, get_or, Result, Ok, Err}
use Rattle.std.proofs.lemmas.List.Edits.{sets}
use Rattle.function_answer.specs.declared.Refusal.{Refusal}
use Rattle.function_answer.specs.declared.Refusal.TheVariants.{ContextLength, TooShort, DescriptorList, NoEndpoint, Speed, Malformed, Settings, OtherConfiguration, Companion}

-- The numbers of 01 and 02.
unfoldable pub number : Result ℕ Refusal → ℕ
number (Ok count) = 0
number (Err ContextLength) = 1
number (Err TooShort) = 3
number (Err DescriptorList) = 4
number (Err NoEndpoint) = 4
number (Err Speed) = 6
number (Err Malformed) = 20
number (Err Settings) = 23
number (Err OtherConfiguration) = 24
number (Err Companion) = 26

-- How many words or bytes were written.
unfoldable pub count_of : Result ℕ Refusal → ℕ
count_of (Ok count) = count
count_of (Err refusal) = 0

pub record Left : Type 0 where
  pub answer : Result ℕ Refusal
  pub memory : List ℕ

abbrev pub leaves : Result ℕ Refusal → List ℕ → Left
leaves answer memory = record { answer = answer; memory = memory }

-- Accepted: the output from the first word or byte on, and past it what was there.
abbrev pub accepts : List ℕ → List ℕ → Left
accepts output buffer = leaves (Ok (length output)) (sets buffer 0 output)

-- One check, and what follows where it holds. A refusal changes nothing.
abbrev pub unless : Bool → Refusal → List ℕ → Left → Left
unless holds refusal buffer next = cond holds next (leaves (Err refusal) buffer)

-- The same of a check that says itself how it refuses.
unfoldable pub on_check : Result ⊤ Refusal → List ℕ → Left → Left
on_check (Ok _) buffer next = next
on_check (Err refusal) buffer next = leaves (Err refusal) buffer

-- What is lent past the output keeps its contents, so all of it after a refusal, whose count is 0.
pub record RestKept (buffer : List ℕ) (left : Left) : Type 0 where
  pub long : length left.memory ≡ length buffer
  pub past : (k : ℕ) → count_of left.answer ≤ k → get_or left.memory k 0 ≡ get_or buffer k 0
