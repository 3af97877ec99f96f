-- Every promise of specs/Promises.antt, and what callers use of lists with companions.
use Prim.Native.Nat.{ℕ, suc, ◌+◌, ◌*◌, ◌%◌, ◌^◌, ◌≤◌, ◌<◌}
use mathlib.Core.Path.{◌≡◌, refl, sym, ◌∙◌}
use mathlib.Core.Logic.{inl, inr}
use mathlib.Core.Bool.{Bool, true, false, cond, ◌&&◌, and-false, and-true as and-one}
use mathlib.Core.List.{List, [], ◌∷◌, ◌++◌}
use native.Mathlib.Omega.{arith}
use borrow.Author.Tests.{eqb-true, leb-true}
use lib.Dec.{eqb, leb}
use lib.ListN.{length, get_or}
use Rattle.laws.specs.Bounds.{Below}
use Rattle.laws.proofs.Tests.{and_left, and_right, not_both}
use Rattle.laws.proofs.Cases.{Decided, decided}
use Rattle.def.specs.Speed.{is_super}
use Rattle.descriptor.specs.Word.{kind, is_companion, companion_mult, with_companion, word_ok, CONFIGURATION, ENDPOINT, COMPANION}
use Rattle.descriptor.proofs.Joined.{same_promise, companion_refused}
use Rattle.descriptor_list.specs.Valid.{begins_with_configuration, words_ok, runs_fit, configurations, valid_list}
use Rattle.descriptor_list.specs.Companions.{joined_word, joined, companions_ok, list_ok, mult_room, follows, paired_after, paired, companions_fit, valid_at, Joinable}
use Rattle.descriptor_list.specs.Promises.{BeforePromise, passed_over, lows, JoinedPromise, HasCompanion, PairedPromise, FirstPromise, ValidPromise}

-- The 0 behind the last word is no companion.
pub zero_none : is_companion 0 ≡ false
unfolding is_companion kind
zero_none = refl

-- Without companions the words are as they are.
none_rest : (w : ℕ) (l : List ℕ) → companions_ok false (w ∷ l) ≡ true → (is_companion w ≡ false) × (companions_ok false l ≡ true)
unfolding companions_ok
none_rest w l e = go (decided (is_companion w))
  where
    go : Decided (is_companion w) → (is_companion w ≡ false) × (companions_ok false l ≡ true)
    go (inl p) = let f : false ≡ true = rw p at e in not_both false f refl
    go (inr p) = (p, rw p at e)

none_first : (l : List ℕ) → companions_ok false l ≡ true → is_companion (get_or l 0 0) ≡ false
none_first [] e = zero_none
none_first (c ∷ l) e = (none_rest c l e).0

none_behind : (w next : ℕ) → is_companion next ≡ false → joined_word w next ≡ w
unfolding joined_word
none_behind w next e = rw (e, and-false (eqb (kind w) ENDPOINT))

pub none_joined : (l : List ℕ) → companions_ok false l ≡ true → joined l ≡ l
unfolding joined
none_joined [] e = refl
none_joined (w ∷ l) e =
    let t = none_rest w l e in rw (t.0, none_behind w (get_or l 0 0) (none_first l t.1), none_joined l t.1)

-- A companion anywhere makes a list one that is none of 01's.
some_refused : (l : List ℕ) → companions_ok false l ≡ false → words_ok l ≡ false
unfolding companions_ok words_ok
some_refused [] e = not_both true refl e
some_refused (w ∷ l) e = go (decided (is_companion w)) (some_refused l)
  where
    go : Decided (is_companion w) → (companions_ok false l ≡ false → words_ok l ≡ false) → (word_ok w && words_ok l) ≡ false
    go (inl p) r = rw (companion_refused w p)
    go (inr p) r = let f : companions_ok false l ≡ false = rw p at e in rw (r f, and-false (word_ok w))

absorbed : (a b r : Bool) → (a && (b && (a && (b && r)))) ≡ (a && (b && r))
absorbed true true r = refl
absorbed true false r = refl
absorbed false b r = refl

refused_all : (a b c r : Bool) → c ≡ false → (a && (b && (c && r))) ≡ false
refused_all a b c r e = rw (e, and-false b, and-false a)

plain_list : (l : List ℕ) → (leb (length l) 256 && (begins_with_configuration l && (companions_ok false l && valid_list (joined l)))) ≡ valid_list l
unfolding valid_list
plain_list l = go (decided (companions_ok false l))
  where
    go : Decided (companions_ok false l) →
        (leb (length l) 256 && (begins_with_configuration l && (companions_ok false l && valid_list (joined l)))) ≡ valid_list l
    go (inl p) = rw (p, none_joined l p) (absorbed (leb (length l) 256) (begins_with_configuration l) _)
    go (inr p) =
        refused_all (leb (length l) 256) (begins_with_configuration l) (companions_ok false l) (valid_list (joined l)) p
        ∙ sym (refused_all (leb (length l) 256) (begins_with_configuration l) (words_ok l) _ (some_refused l p))

valid_plain : (l : List ℕ) → valid_list l ≡ true → companions_ok false l ≡ true
unfolding valid_list
valid_plain l v = go (decided (companions_ok false l))
  where
    go : Decided (companions_ok false l) → companions_ok false l ≡ true
    go (inl p) = p
    go (inr p) =
        not_both (words_ok l) (and_left (words_ok l) _ (and_right (begins_with_configuration l) _ (and_right (leb (length l) 256) _ v)))
        (some_refused l p)

pub before_promise : BeforePromise
unfolding list_ok companions_fit valid_at
before_promise speed l s =
    record {
      list = rw s (plain_list l);
      companions = rw s;
      valid = rw (s, plain_list l) (and-one (valid_list l));
      same = λ v. none_joined l (valid_plain l v);
    }

pub first_promise : FirstPromise
unfolding list_ok begins_with_configuration
first_promise speed w l v =
    eqb-true (kind w) CONFIGURATION (and_left (eqb (kind w) CONFIGURATION) _ (and_right (leb (length (w ∷ l)) 256) _ v))

pub valid_promise : ValidPromise
unfolding valid_at list_ok
valid_promise speed l v =
    and_right (companions_ok (is_super speed) l) _
    (and_right (begins_with_configuration l) _ (and_right (leb (length l) 256) _ (and_left (list_ok speed l) _ v)))

joined_kind : (w next : ℕ) → kind (joined_word w next) ≡ kind w
unfolding joined_word
joined_kind w next = go (eqb (kind w) ENDPOINT && is_companion next)
  where
    go : (b : Bool) → kind (cond b (with_companion w next) w) ≡ kind w
    go true = (same_promise w next).kind
    go false = refl

companion_no_configuration : (w : ℕ) → is_companion w ≡ true → eqb (kind w) CONFIGURATION ≡ false
unfolding is_companion
companion_no_configuration w p = rw (eqb-true (kind w) COMPANION p)

pub joined_configurations : (l : List ℕ) → configurations (joined l) ≡ configurations l
unfolding joined configurations
joined_configurations [] = refl
joined_configurations (w ∷ l) = go (decided (is_companion w)) (joined_configurations l)
  where
    go : Decided (is_companion w) → configurations (joined l) ≡ configurations l →
        configurations (cond (is_companion w) (joined l) (joined_word w (get_or l 0 0) ∷ joined l))
        ≡ cond (eqb (kind w) CONFIGURATION) (suc (configurations l)) (configurations l)
    go (inl p) e = rw (p, companion_no_configuration w p) e
    go (inr p) e = rw (p, joined_kind w (get_or l 0 0), e)

-- No more words than the list has.
pub joined_few : (l : List ℕ) → length (joined l) ≤ length l
unfolding joined
joined_few [] = omega arith
joined_few (w ∷ l) = go (is_companion w) (joined_few l)
  where
    go : (b : Bool) → length (joined l) ≤ length l → length (cond b (joined l) (joined_word w (get_or l 0 0) ∷ joined l)) ≤ length (w ∷ l)
    go true h = omega arith
    go false h = omega arith

-- What else a list that is valid at a speed has.
pub record Listed (speed : ℕ) (l : List ℕ) : Type 0 where
  pub list : list_ok speed l ≡ true
  pub companions : companions_fit speed l ≡ true
  pub short : length l ≤ 256
  pub begins : begins_with_configuration l ≡ true
  pub valid : valid_list (joined l) ≡ true
  pub few : configurations l ≤ 8

pub listed : (speed : ℕ) (l : List ℕ) → valid_at speed l ≡ true → Listed speed l
unfolding valid_at list_ok valid_list
listed speed l v =
    let a = and_left (list_ok speed l) _ v in
    let b = and_right (leb (length l) 256) _ a in
    let c = valid_promise speed l v in
    let d =
    and_right (runs_fit (joined l)) _
    (and_right (words_ok (joined l)) _ (and_right (begins_with_configuration (joined l)) _ (and_right (leb (length (joined l)) 256) _ c))) in
    record {
      list = a;
      companions = and_right (list_ok speed l) _ v;
      short = leb-true (length l) 256 (and_left _ _ a);
      begins = and_left (begins_with_configuration l) _ b;
      valid = c;
      few = rw (joined_configurations l) at (leb-true (configurations (joined l)) 8 (and_left _ _ d));
    }

pub joinable : (speed : ℕ) (l : List ℕ) → valid_at speed l ≡ true → Joinable l
joinable speed l v = let d = listed speed l v in record { short = d.short; valid = d.valid }

-- What the first of both tests gives alone.
pub ok_short : (speed : ℕ) (l : List ℕ) → list_ok speed l ≡ true → length l ≤ 256
unfolding list_ok
ok_short speed l e = leb-true (length l) 256 (and_left _ _ e)

-- Pairs.
paired_behind : (p : ℕ) (xs : List ℕ) (w : ℕ) (l : List ℕ) → paired_after p (xs ++ (w ∷ l)) ≡ true → paired_after w l ≡ true
unfolding paired_after
paired_behind p [] w l e = and_right (follows p w) _ e
paired_behind p (x ∷ xs) w l e = paired_behind x xs w l (and_right (follows p x) _ e)

endpoint_none : (w : ℕ) → kind w ≡ ENDPOINT → is_companion w ≡ false
unfolding is_companion
endpoint_none w k = rw k

companion_kind : (c : ℕ) → is_companion c ≡ true → kind c ≡ COMPANION
unfolding is_companion
companion_kind c q = eqb-true (kind c) COMPANION q

companion_behind : (w : ℕ) (l : List ℕ) → kind w ≡ ENDPOINT → paired_after w l ≡ true → HasCompanion w l
unfolding paired_after follows mult_room joined joined_word
companion_behind w [] k e = let f : false ≡ true = rw k at e in not_both false f refl
companion_behind w (c ∷ l) k e =
    let f : (is_companion c && leb (companion_mult c) (mult_room w)) ≡ true = rw k at (and_left (follows w c) _ e) in
    let q = and_left (is_companion c) _ f in
    record {
      companion = c;
      rest = l;
      behind = refl;
      is-one = companion_kind c q;
      mult = leb-true (companion_mult c) (mult_room w) (and_right (is_companion c) _ f);
      joins = rw (endpoint_none w k, k, q);
    }

pub paired_promise : PairedPromise
unfolding valid_at companions_fit paired
paired_promise speed xs w l s v k =
    companion_behind w l k (paired_behind 0 xs w l (rw s at (and_right (list_ok speed (xs ++ (w ∷ l))) _ v)))

-- The low words.
low_word : (w next : ℕ) → w < 2 ^ 32 → joined_word w next % 2 ^ 32 ≡ w
unfolding joined_word with_companion
low_word w next h = go (eqb (kind w) ENDPOINT && is_companion next)
  where
    go : (b : Bool) → cond b (w + 2 ^ 32 * next) w % 2 ^ 32 ≡ w
    go true = omega arith
    go false = omega arith

joined_lows : (l : List ℕ) → Below (2 ^ 32) l → lows (joined l) ≡ passed_over l
unfolding joined lows passed_over is_companion
joined_lows [] b = refl
joined_lows (w ∷ l) b =
    go (eqb (kind w) COMPANION) (joined_lows l (λ k h. b (suc k) (omega arith))) (low_word w (get_or l 0 0) (b 0 (omega arith)))
  where
    go : (t : Bool) → lows (joined l) ≡ passed_over l → joined_word w (get_or l 0 0) % 2 ^ 32 ≡ w →
        lows (cond t (joined l) (joined_word w (get_or l 0 0) ∷ joined l)) ≡ cond t (passed_over l) (w ∷ passed_over l)
    go true e f = e
    go false e f = rw (e, f)

pub joined_promise : JoinedPromise
joined_promise l b = record { low = joined_lows l b; configurations = joined_configurations l }
