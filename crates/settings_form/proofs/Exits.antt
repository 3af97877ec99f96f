-- The exits of the two conversions.
use Prim.Native.Nat.{ℕ, ◌+◌, ◌-◌, ◌≤◌, ◌<◌}
use mathlib.Core.Path.{◌≡◌, ap, ◌∙◌}
use mathlib.Core.Logic.{inl, inr}
use mathlib.Core.Bool.{true, false, and-false}
use mathlib.Core.List.{List, [], ◌∷◌, ◌++◌}
use Rattle.std.proofs.Common.{Result, Ok, Err}
use Rattle.std.specs.Bool.{⊤}
use native.Mathlib.Nat.{mod-eq_of_lt}
use native.Mathlib.Omega.{arith}
use borrow.Author.Tests.{eq-eqb, ne_eqb, le-leb, leb-true}
use lib.Dec.{leb}
use lib.ListN.{length, get_or, take, drop}
use lib.Seq.{sets, sets-eq, take_at}
use Rattle.laws.proofs.Cases.{Decided, decided}
use Rattle.def.specs.Speed.{speed_known}
use Rattle.descriptor_list.specs.Companions.{list_ok, companions_fit}
use Rattle.function_answer.specs.declared.Refusal.{Refusal}
use Rattle.function_answer.specs.declared.Refusal.TheVariants.{TooShort, Speed, DescriptorList, Companion, Settings, OtherConfiguration}
use Rattle.function_answer.specs.Answer.{leaves, on_check}
use Rattle.settings_form.specs.Form.{new_form, value_in, pairs_in, is_new_form}
use Rattle.settings_form.specs.Held.{configuration_words, settings_held}
use Rattle.settings_form.specs.Convert.{ROOM, list_check, first_value, to_new, to_old}
use Rattle.settings_form.proofs.Read.{value_is, bytes_long, form_long, pairs_long}
use Rattle.settings_form.proofs.Words.{no_words, many_pairs}

-- What is stored at the front is there.
pub stored : (out l : List ℕ) → length out ≤ length l → out ++ drop (length out) l ≡ sets l 0 out
stored out l h = let m : 0 + length out ≤ length l = omega arith in let e : 0 + length out ≡ length out = omega arith in rw (sets-eq out l 0 m, e)

pub taken_back : (out l : List ℕ) (n : ℕ) → length out ≡ n → n ≤ length l → take n (sets l 0 out) ≡ out
taken_back out l n e h =
    let m : 0 + length out ≤ length l = omega arith in rw (sets-eq out l 0 m, take_at out (drop (0 + length out) l) n e)

pub form_length : (value : ℕ) (pairs : List ℕ) → length (new_form value pairs) ≡ length pairs + 2
unfolding new_form
form_length value pairs = bytes_long (length pairs + 2) _

pub first_is : (form : List ℕ) → is_new_form form ≡ true → get_or form 0 0 < 256 → value_in form ≡ get_or form 0 0
first_is [] w h = absurd (omega (arith, form_long [] w))
first_is (x ∷ l) w h = value_is x l ∙ mod-eq_of_lt h

none_held : (list : List ℕ) (value : ℕ) (pairs : List ℕ) → list ≡ [] → settings_held list value pairs ≡ false
unfolding configuration_words
none_held list value pairs e = no_words list value pairs (rw e)

-- What the check of the list has passed: the bytes lent, and the rest.
pub record Passed (speed : ℕ) (list : List ℕ) (lent : ℕ) : Type 0 where
  pub room : ROOM ≤ lent
  pub known : speed_known speed ≡ true
  pub valid : list_ok speed list ≡ true
  pub companions : companions_fit speed list ≡ true

pub passed : (speed : ℕ) (list : List ℕ) (lent : ℕ) → list_check speed list lent ≡ Ok tt → Passed speed list lent
unfolding list_check
passed speed list lent k = go (decided (leb ROOM lent)) (decided (speed_known speed)) (decided (list_ok speed list)) (decided (companions_fit speed list))
  where
    go : Decided (leb ROOM lent) → Decided (speed_known speed) → Decided (list_ok speed list) → Decided (companions_fit speed list) → Passed speed list lent
    go (inl r) (inl s) (inl v) (inl c) = record { room = leb-true ROOM lent r; known = s; valid = v; companions = c }
    go (inl r) (inl s) (inl v) (inr c) = let q : Err Companion ≡ Ok tt = rw (r, s, v, c) at k in absurd (cc)
    go (inl r) (inl s) (inr v) c = let q : Err DescriptorList ≡ Ok tt = rw (r, s, v) at k in absurd (cc)
    go (inl r) (inr s) v c = let q : Err Speed ≡ Ok tt = rw (r, s) at k in absurd (cc)
    go (inr r) s v c = let q : Err TooShort ≡ Ok tt = rw r at k in absurd (cc)

pub passes : (speed : ℕ) (list : List ℕ) (lent again : ℕ) → Passed speed list lent → ROOM ≤ again → list_check speed list again ≡ Ok tt
unfolding list_check
passes speed list lent again p r = rw (le-leb ROOM again r, p.known, p.valid, p.companions)

-- The check of the list does not answer 24.
pub checked_other : (speed : ℕ) (list : List ℕ) (lent : ℕ) (refusal : Refusal) → list_check speed list lent ≡ Err refusal →
    ◌≡◌ {A = Result ℕ Refusal} (Err refusal) (Err OtherConfiguration) → ⊥
unfolding list_check
checked_other speed list lent refusal k o =
    go (decided (leb ROOM lent)) (decided (speed_known speed)) (decided (list_ok speed list)) (decided (companions_fit speed list))
  where
    s : refusal ≡ OtherConfiguration
    s = cc

    go : Decided (leb ROOM lent) → Decided (speed_known speed) → Decided (list_ok speed list) → Decided (companions_fit speed list) → ⊥
    go (inl r) (inl n) (inl v) (inl c) = let q : ◌≡◌ {A = Result ⊤ Refusal} (Ok tt) (Err refusal) = rw (r, n, v, c) at k in absurd (cc)
    go (inl r) (inl n) (inl v) (inr c) = let q : ◌≡◌ {A = Result ⊤ Refusal} (Err Companion) (Err refusal) = rw (r, n, v, c) at k in let t : Companion ≡ refusal = cc in absurd (cc)
    go (inl r) (inl n) (inr v) c = let q : ◌≡◌ {A = Result ⊤ Refusal} (Err DescriptorList) (Err refusal) = rw (r, n, v) at k in let t : DescriptorList ≡ refusal = cc in absurd (cc)
    go (inl r) (inr n) v c = let q : ◌≡◌ {A = Result ⊤ Refusal} (Err Speed) (Err refusal) = rw (r, n) at k in let t : Speed ≡ refusal = cc in absurd (cc)
    go (inr r) n v c = let q : ◌≡◌ {A = Result ⊤ Refusal} (Err TooShort) (Err refusal) = rw r at k in let t : TooShort ≡ refusal = cc in absurd (cc)

-- After the check of the list.
module _ (speed : ℕ) (settings list buffer : List ℕ) (k : list_check speed list (length buffer) ≡ Ok tt) where
  room : ROOM ≤ length buffer
  room = (passed speed list (length buffer) k).room

  refused_old : settings_held list (value_in settings) (pairs_in settings) ≡ false → leaves (Err Settings) buffer ≡ to_old speed settings list buffer
  unfolding to_old on_check
  refused_old h = rw (k, h, and-false (is_new_form settings))

  pub empty_new : list ≡ [] → leaves (Err Settings) buffer ≡ to_new speed settings list buffer
  unfolding to_new on_check
  empty_new e = rw (k, none_held list (first_value list) settings e)

  pub empty_old : list ≡ [] → leaves (Err Settings) buffer ≡ to_old speed settings list buffer
  empty_old e = refused_old (none_held list _ _ e)

  module _ (value : ℕ) (f : value ≡ first_value list) where
    pub new_written : settings_held list value settings ≡ true → (out : List ℕ) → out ≡ sets buffer 0 (new_form value settings) →
        leaves (Ok (length settings + 2)) out ≡ to_new speed settings list buffer
    unfolding to_new on_check
    new_written h out o = rw (k, ← f, h, form_length value settings, o)

  pub not_formed : is_new_form settings ≡ false → leaves (Err Settings) buffer ≡ to_old speed settings list buffer
  unfolding to_old on_check
  not_formed w = rw (k, w)

  module _ (w : is_new_form settings ≡ true) where
    pub many_formed : 66 < length settings → leaves (Err Settings) buffer ≡ to_old speed settings list buffer
    many_formed h = refused_old (many_pairs list _ _ (omega (arith, pairs_long settings w)))

    -- the value, and the pairs as they were read into memory
    module _ (small : get_or settings 0 0 < 256) (few : length settings ≤ 66) (blank : List ℕ) (long : length blank ≡ 64) (all : List ℕ) (p : all ≡ sets blank 0 (pairs_in settings)) where
      pub judged : take (length settings - 2) all ≡ pairs_in settings
      judged = ap (take (length settings - 2)) p ∙ taken_back (pairs_in settings) blank (length settings - 2) (pairs_long settings w) (omega arith)

      pub not_held_old : settings_held list (get_or settings 0 0) (take (length settings - 2) all) ≡ false →
          leaves (Err Settings) buffer ≡ to_old speed settings list buffer
      not_held_old h = refused_old (rw (first_is settings w small) (rw judged at h))

      module _ (h : settings_held list (get_or settings 0 0) (take (length settings - 2) all) ≡ true) (first : ℕ) (f : first ≡ first_value list) where
        held : settings_held list (value_in settings) (pairs_in settings) ≡ true
        held = rw (first_is settings w small) (rw judged at h)

        pub other_value : (get_or settings 0 0 ≡ first → ⊥) → leaves (Err OtherConfiguration) buffer ≡ to_old speed settings list buffer
        unfolding to_old on_check
        other_value n = rw (k, w, held, first_is settings w small, ← f, ne_eqb (get_or settings 0 0) first n)

        pub old_written : get_or settings 0 0 ≡ first → (out : List ℕ) → out ≡ take (length settings - 2) all ++ drop (length settings - 2) buffer →
            leaves (Ok (length settings - 2)) out ≡ to_old speed settings list buffer
        unfolding to_old on_check
        old_written e out o =
            let n = pairs_long settings w in
            let s : out ≡ sets buffer 0 (pairs_in settings) =
            o ∙ rw (judged, ← n) (stored (pairs_in settings) buffer (omega (arith, room, n))) in
            rw (k, w, held, first_is settings w small, ← f, eq-eqb (get_or settings 0 0) first e, n, s)
