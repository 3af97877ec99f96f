-- The endpoints of an alternate as the library's words for chains of iterators.
use Prim.Native.Nat.{ℕ, suc, ◌+◌, ◌≤◌}
use mathlib.Core.Path.{◌≡◌, refl, sym, ap, ◌∙◌}
use mathlib.Core.Logic.{◌≢◌, inl, inr}
use mathlib.Core.Bool.{Bool, true, false, cond, not, ◌&&◌}
use mathlib.Core.List.{List, [], ◌∷◌}
use native.Mathlib.Omega.{arith}
use borrow.Author.Tests.{eqb-true, eqb-false}
use lib.Dec.{eqb}
use lib.ListN.{length, take}
use Rattle.std.specs.List.{prefix_len, filter}
use Rattle.laws.proofs.Cases.{Decided, decided}
use Rattle.descriptor.specs.declared.WordKind.TheVariants.{Configuration, Alternate, Endpoint}
use Rattle.descriptor.specs.Word.{CONFIGURATION, ALTERNATE, ENDPOINT, COMPANION, kind}
use Rattle.descriptor.proofs.Kind.{is_kind, kind_test}
use Rattle.descriptor_raw.specs.Claims.{endpoints_after, up_to, endpoints}
use Rattle.descriptor_raw.specs.Write.{all_descriptors}
use Rattle.descriptor_raw.proofs.Made.{configuration_endpoints, interface_endpoints, companion_endpoints, endpoint_endpoints}
use Rattle.descriptor_writer.proofs.Claiming.{companion_left}

-- What closures test of a word.
abbrev pub stays : ℕ → Bool
stays w = not (is_kind Configuration w) && not (is_kind Alternate w)

none : endpoints_after (all_descriptors []) ≡ 0
unfolding endpoints_after up_to endpoints all_descriptors
none = refl

one_add : (n : ℕ) → suc n ≡ 1 + n
one_add n = omega arith

-- What a word adds to the endpoints of those after it.
data Adds (w : ℕ) (l : List ℕ) : Type 0 where
  stop : stays w ≡ false → endpoints_after (all_descriptors (w ∷ l)) ≡ 0 → Adds w l
  one : stays w ≡ true → is_kind Endpoint w ≡ true → endpoints_after (all_descriptors (w ∷ l)) ≡ suc (endpoints_after (all_descriptors l)) → Adds w l
  same : stays w ≡ true → is_kind Endpoint w ≡ false → endpoints_after (all_descriptors (w ∷ l)) ≡ endpoints_after (all_descriptors l) → Adds w l

adds : (w : ℕ) (l : List ℕ) → Adds w l
unfolding all_descriptors
adds w l = go (decided (eqb (kind w) CONFIGURATION)) (decided (eqb (kind w) ALTERNATE)) (decided (eqb (kind w) ENDPOINT))
  where
    ds : List (List ℕ)
    ds = all_descriptors l

    go : Decided (eqb (kind w) CONFIGURATION) → Decided (eqb (kind w) ALTERNATE) → Decided (eqb (kind w) ENDPOINT) → Adds w l
    go (inl c) a e = stop (rw (kind_test Configuration w, c)) (configuration_endpoints w ds (eqb-true _ _ c))
    go (inr c) (inl a) e = stop (rw (kind_test Configuration w, c, kind_test Alternate w, a)) (interface_endpoints w ds (eqb-true _ _ a))
    go (inr c) (inr a) (inl e) =
        let k : kind w ≡ ENDPOINT = eqb-true _ _ e in
        let x : kind w ≢ COMPANION = λ q. let z : ◌≡◌ {A = ℕ} 2 3 = sym k ∙ q in omega arith in
        one (rw (kind_test Configuration w, c, kind_test Alternate w, a)) (kind_test Endpoint w ∙ e)
        (endpoint_endpoints w ds (eqb-false _ _ c) (eqb-false _ _ a) x)
    go (inr c) (inr a) (inr e) =
        same (rw (kind_test Configuration w, c, kind_test Alternate w, a)) (kind_test Endpoint w ∙ e)
        (companion_endpoints w ds (companion_left w (eqb-false _ _ c) (eqb-false _ _ a) (eqb-false _ _ e)))

pub counted : (l : List ℕ) → length (filter (is_kind Endpoint) (take (prefix_len stays l) l)) ≡ endpoints_after (all_descriptors l)
counted [] = sym none
counted (w ∷ l) = go (adds w l) (counted l)
  where
    go : Adds w l → length (filter (is_kind Endpoint) (take (prefix_len stays l) l)) ≡ endpoints_after (all_descriptors l) →
        length (filter (is_kind Endpoint) (take (cond (stays w) (1 + prefix_len stays l) 0) (w ∷ l))) ≡ endpoints_after (all_descriptors (w ∷ l))
    go (stop s n) r = rw (s, n)
    go (one s e n) r = rw (s, n, ← one_add (prefix_len stays l), e) (ap suc r)
    go (same s e n) r = rw (s, n, ← one_add (prefix_len stays l), e) r

pub counted_few : (l : List ℕ) → endpoints_after (all_descriptors l) ≤ length l
counted_few [] = omega (arith, none)
counted_few (w ∷ l) = go (adds w l) (counted_few l)
  where
    go : Adds w l → endpoints_after (all_descriptors l) ≤ length l → endpoints_after (all_descriptors (w ∷ l)) ≤ length (w ∷ l)
    go (stop s n) r = omega (arith, n)
    go (one s e n) r = omega (arith, n)
    go (same s e n) r = omega (arith, n)
