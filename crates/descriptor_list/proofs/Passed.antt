-- Validity is of the words that are not of kind 3: a companion above its endpoint's word changes nothing of it.
use Prim.Native.Nat.{ℕ, suc, ◌+◌}
use mathlib.Core.Path.{◌≡◌, refl, sym, ap, ◌∙◌}
use mathlib.Core.Bool.{Bool, true, false, cond, ◌&&◌, ◌||◌}
use mathlib.Core.List.{List, [], ◌∷◌, ◌++◌}
use mathlib.Core.Logic.{inl, inr}
use borrow.Author.Tests.{eqb-true}
use lib.Dec.{eqb}
use lib.ListN.{length, get_or}
use Rattle.laws.proofs.Cases.{Decided, decided}
use Rattle.descriptor.specs.Word.{kind, is_companion, with_companion, word_ok, CONFIGURATION, ENDPOINT, COMPANION}
use Rattle.descriptor.specs.Promises.{SaysSame}
use Rattle.descriptor.proofs.Joined.{same_promise}
use Rattle.descriptor_list.specs.Lookup.{endpoint_run, of_interface}
use Rattle.descriptor_list.specs.Valid.{begins_with_configuration, words_ok, runs_fit, configurations, has_interface, last_alternate, interfaces, valid_list}
use Rattle.descriptor_list.specs.Companions.{joined_word, joined}
use Rattle.descriptor_list.specs.Promises.{passed_over}

-- A word says the same with its companion.
says_itself : (w : ℕ) → SaysSame w w
says_itself w =
    record {
      kind = refl;
      value = refl;
      interface = refl;
      alternate = refl;
      type = refl;
      address = refl;
      transfer = refl;
      size = refl;
      packets = refl;
      interval = refl;
      ok = refl;
    }

pub joined_says : (w next : ℕ) → SaysSame w (joined_word w next)
unfolding joined_word
joined_says w next = go (eqb (kind w) ENDPOINT && is_companion next)
  where
    go : (b : Bool) → SaysSame w (cond b (with_companion w next) w)
    go true = same_promise w next
    go false = says_itself w

-- Lists whose words say the same.
unfoldable pub Alike : List ℕ → List ℕ → Type 0
Alike [] [] = Unit {0}
Alike [] (w ∷ l) = ⊥
Alike (v ∷ m) [] = ⊥
Alike (v ∷ m) (w ∷ l) = SaysSame w v × Alike m l

pub joined_alike : (l : List ℕ) → Alike (joined l) (passed_over l)
unfolding Alike joined passed_over is_companion
joined_alike [] = tt
joined_alike (w ∷ l) = go (eqb (kind w) COMPANION) (joined_says w (get_or l 0 0)) (joined_alike l)
  where
    go : (b : Bool) → SaysSame w (joined_word w (get_or l 0 0)) → Alike (joined l) (passed_over l) →
        Alike (cond b (joined l) (joined_word w (get_or l 0 0) ∷ joined l)) (cond b (passed_over l) (w ∷ passed_over l))
    go true s a = a
    go false s a = (s, a)

alike_length : (m l : List ℕ) → Alike m l → length m ≡ length l
unfolding Alike
alike_length [] [] a = refl
alike_length [] (w ∷ l) a = absurd a
alike_length (v ∷ m) [] a = absurd a
alike_length (v ∷ m) (w ∷ l) a = ap suc (alike_length m l a.1)

alike_begins : (m l : List ℕ) → Alike m l → begins_with_configuration m ≡ begins_with_configuration l
unfolding Alike begins_with_configuration
alike_begins [] [] a = refl
alike_begins [] (w ∷ l) a = absurd a
alike_begins (v ∷ m) [] a = absurd a
alike_begins (v ∷ m) (w ∷ l) a = ap (λ k. eqb k CONFIGURATION) a.0.kind

alike_words : (m l : List ℕ) → Alike m l → words_ok m ≡ words_ok l
unfolding Alike words_ok
alike_words [] [] a = refl
alike_words [] (w ∷ l) a = absurd a
alike_words (v ∷ m) [] a = absurd a
alike_words (v ∷ m) (w ∷ l) a = rw (a.0.ok, alike_words m l a.1)

alike_run : (m l : List ℕ) → Alike m l → endpoint_run m ≡ endpoint_run l
unfolding Alike endpoint_run
alike_run [] [] a = refl
alike_run [] (w ∷ l) a = absurd a
alike_run (v ∷ m) [] a = absurd a
alike_run (v ∷ m) (w ∷ l) a = rw (a.0.kind, alike_run m l a.1)

alike_runs : (m l : List ℕ) → Alike m l → runs_fit m ≡ runs_fit l
unfolding Alike runs_fit
alike_runs [] [] a = refl
alike_runs [] (w ∷ l) a = absurd a
alike_runs (v ∷ m) [] a = absurd a
alike_runs (v ∷ m) (w ∷ l) a = rw (a.0.kind, alike_run m l a.1, alike_runs m l a.1)

alike_configurations : (m l : List ℕ) → Alike m l → configurations m ≡ configurations l
unfolding Alike configurations
alike_configurations [] [] a = refl
alike_configurations [] (w ∷ l) a = absurd a
alike_configurations (v ∷ m) [] a = absurd a
alike_configurations (v ∷ m) (w ∷ l) a = rw (a.0.kind, alike_configurations m l a.1)

alike_has : (i : ℕ) (m l : List ℕ) → Alike m l → has_interface i m ≡ has_interface i l
unfolding Alike has_interface of_interface
alike_has i [] [] a = refl
alike_has i [] (w ∷ l) a = absurd a
alike_has i (v ∷ m) [] a = absurd a
alike_has i (v ∷ m) (w ∷ l) a = rw (a.0.kind, a.0.interface, alike_has i m l a.1)

alike_interfaces : (m l : List ℕ) → Alike m l → interfaces m ≡ interfaces l
unfolding Alike interfaces last_alternate
alike_interfaces [] [] a = refl
alike_interfaces [] (w ∷ l) a = absurd a
alike_interfaces (v ∷ m) [] a = absurd a
alike_interfaces (v ∷ m) (w ∷ l) a = rw (a.0.kind, a.0.interface, alike_has _ m l a.1, alike_interfaces m l a.1)

alike_valid : (m l : List ℕ) → Alike m l → valid_list m ≡ valid_list l
unfolding valid_list
alike_valid m l a =
    rw (alike_length m l a, alike_begins m l a, alike_words m l a, alike_runs m l a, alike_configurations m l a, alike_interfaces m l a)

pub valid_passed : (l : List ℕ) → valid_list (joined l) ≡ valid_list (passed_over l)
valid_passed l = alike_valid (joined l) (passed_over l) (joined_alike l)

pub configurations_passed : (l : List ℕ) → configurations (passed_over l) ≡ configurations l
unfolding passed_over configurations
configurations_passed [] = refl
configurations_passed (w ∷ l) = go (decided (eqb (kind w) COMPANION)) (configurations_passed l)
  where
    go : Decided (eqb (kind w) COMPANION) → configurations (passed_over l) ≡ configurations l →
        configurations (cond (eqb (kind w) COMPANION) (passed_over l) (w ∷ passed_over l))
        ≡ cond (eqb (kind w) CONFIGURATION) (suc (configurations l)) (configurations l)
    go (inl p) e = rw (p, eqb-true (kind w) COMPANION p) e
    go (inr p) e = rw (p, e)

-- Of words before others.
pub passed_both : (x y : List ℕ) → passed_over (x ++ y) ≡ passed_over x ++ passed_over y
unfolding passed_over
passed_both [] y = refl
passed_both (w ∷ x) y = go (eqb (kind w) COMPANION) (passed_both x y)
  where
    go : (b : Bool) → passed_over (x ++ y) ≡ passed_over x ++ passed_over y →
        cond b (passed_over (x ++ y)) (w ∷ passed_over (x ++ y)) ≡ cond b (passed_over x) (w ∷ passed_over x) ++ passed_over y
    go true e = e
    go false e = ap (λ z. w ∷ z) e
