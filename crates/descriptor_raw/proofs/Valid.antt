-- The words of a valid list by their kinds.
use Prim.Native.Nat.{ℕ, ◌≤◌}
use mathlib.Core.Path.{◌≡◌, refl}
use mathlib.Core.Logic.{◌≢◌, inl, inr}
use mathlib.Core.Bool.{Bool, true, false, not, cond, ◌&&◌}
use mathlib.Core.List.{List, [], ◌∷◌}
use native.Mathlib.Omega.{arith}
use borrow.Author.Tests.{eqb-true, eqb-false, ne_eqb, not-true}
use lib.Dec.{eqb, leb}
use lib.ListN.{length, get_or}
use Rattle.laws.proofs.Tests.{and_left, and_right, not_both}
use Rattle.laws.proofs.Cases.{Decided, decided}
use Rattle.descriptor.specs.Word.{CONFIGURATION, ALTERNATE, ENDPOINT, kind, is_companion, with_companion, endpoint_descriptor, word_ok, companion_ok}
use Rattle.def.specs.Speed.{is_super}
use Rattle.descriptor.proofs.Joined.{same_promise}
use Rattle.descriptor_list.specs.Companions.{joined_word, joined, companions_ok, list_ok, valid_at}
use Rattle.descriptor_list.specs.Valid.{begins_with_configuration, words_ok, valid_list}
use Rattle.descriptor_raw.specs.Write.{packets_given}

pub valid_words : (list : List ℕ) → valid_list list ≡ true → words_ok list ≡ true
unfolding valid_list
valid_words list v =
    and_left (words_ok list) _ (and_right (begins_with_configuration list) _ (and_right (leb (length list) 256) _ v))

-- A word that may stand in a list by itself, a companion at speeds 4 and 5 only.
unfoldable pub stands_ok : Bool → ℕ → Bool
stands_ok super w = cond (is_companion w) (super && companion_ok w) (word_ok w)

unfoldable pub each_ok : Bool → List ℕ → Bool
each_ok super [] = true
each_ok super (w ∷ l) = stands_ok super w && each_ok super l

joined_ok : (w next : ℕ) → word_ok (joined_word w next) ≡ word_ok w
unfolding joined_word
joined_ok w next = go (eqb (kind w) ENDPOINT && is_companion next)
  where
    go : (b : Bool) → word_ok (cond b (with_companion w next) w) ≡ word_ok w
    go true = (same_promise w next).ok
    go false = refl

pub each_ok_lem : (super : Bool) (l : List ℕ) → companions_ok super l ≡ true → words_ok (joined l) ≡ true → each_ok super l ≡ true
unfolding companions_ok words_ok joined each_ok stands_ok
each_ok_lem super [] c o = refl
each_ok_lem super (w ∷ l) c o = go (decided (is_companion w)) (each_ok_lem super l)
  where
    go : Decided (is_companion w) → (companions_ok super l ≡ true → words_ok (joined l) ≡ true → each_ok super l ≡ true) →
        (cond (is_companion w) (super && companion_ok w) (word_ok w) && each_ok super l) ≡ true
    go (inl p) r =
        let k : ((super && companion_ok w) && companions_ok super l) ≡ true = rw p at c in
        let v : words_ok (joined l) ≡ true = rw p at o in
        rw (p, and_left (super && companion_ok w) _ k) (r (and_right (super && companion_ok w) _ k) v)
    go (inr p) r =
        let k : companions_ok super l ≡ true = rw p at c in
        let v : (word_ok (joined_word w (get_or l 0 0)) && words_ok (joined l)) ≡ true = rw p at o in
        let ok : word_ok w ≡ true = rw (joined_ok w (get_or l 0 0)) at (and_left (word_ok (joined_word w (get_or l 0 0))) _ v) in
        rw (p, ok) (r k (and_right (word_ok (joined_word w (get_or l 0 0))) _ v))

pub valid_each : (speed : ℕ) (list : List ℕ) → valid_at speed list ≡ true → each_ok (is_super speed) list ≡ true
unfolding valid_at list_ok
valid_each speed list v =
    let a = and_right (leb (length list) 256) _ (and_left (list_ok speed list) _ v) in
    let b = and_right (begins_with_configuration list) _ a in
    each_ok_lem (is_super speed) list (and_left (companions_ok (is_super speed) list) _ b)
    (valid_words (joined list) (and_right (companions_ok (is_super speed) list) _ b))

-- A word that is neither a configuration's nor an alternate's is an endpoint's.
pub endpoint_kind : (w : ℕ) → word_ok w ≡ true → kind w ≢ CONFIGURATION → kind w ≢ ALTERNATE → kind w ≡ ENDPOINT
unfolding word_ok
endpoint_kind w ok c a = go (decided (eqb (kind w) ENDPOINT))
  where
    go : Decided (eqb (kind w) ENDPOINT) → kind w ≡ ENDPOINT
    go (inl p) = eqb-true (kind w) ENDPOINT p
    go (inr p) = not_both false (rw (ne_eqb _ _ c, ne_eqb _ _ a, p) at ok) refl

module _ (w : ℕ) (l : List ℕ) (p : packets_given (w ∷ l) ≡ true) where
  -- an endpoint word has packets
  pub packets_first : kind w ≡ ENDPOINT → 1 ≤ (endpoint_descriptor w).packets_per_microframe
  unfolding packets_given
  packets_first k =
      let packets = (endpoint_descriptor w).packets_per_microframe in
      let q : not (eqb packets 0) ≡ true = rw k at (and_left (not (eqb (kind w) ENDPOINT && eqb packets 0)) (packets_given l) p) in
      let z : packets ≢ 0 = eqb-false packets 0 (not-true (eqb packets 0) q) in
      omega arith

  pub packets_rest : packets_given l ≡ true
  unfolding packets_given
  packets_rest =
      and_right (not (eqb (kind w) ENDPOINT && eqb (endpoint_descriptor w).packets_per_microframe 0)) (packets_given l) p
