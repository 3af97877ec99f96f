-- What sound given rings are: such as may be given, and those in use among them.
use Prim.Native.Nat.{ℕ, ◌+◌, ◌≤◌}
use mathlib.Core.Path.{◌≡◌, refl}
use mathlib.Core.Logic.{⊎_elim}
use mathlib.Core.Bool.{true, ◌&&◌}
use mathlib.Core.List.{List, [], ◌∷◌, ◌++◌}
use native.Mathlib.Omega.{arith}
use lib.ListN.{length, take, length-append}
use Rattle.laws.specs.Distinct.{elem, distinct}
use Rattle.laws.proofs.Tests.{and_left, and_right, and-true}
use Rattle.laws.proofs.Distinct.{elem_none, elem_here, elem_there, elem_cases}
use Rattle.record_ring.specs.Rings.{not_among}
use Rattle.record_ring.specs.Store.{given_ok, among, free_rings}
use Rattle.record_ring.proofs.Promises.{given_apart, count_promise}
use Rattle.record_endpoint.specs.declared.entry.Endpoint.{Endpoint}
use Rattle.record_endpoint.specs.Endpoint.{rings_of}
use Rattle.record_checks.specs.Store.{sound_store}
use Rattle.record_checks.proofs.Steps.{rings_count}

pub record SoundStore (given live quarantined : List ℕ) : Type 0 where
  pub fit : given_ok given ≡ true
  pub live_given : (x : ℕ) → elem x live ≡ true → elem x given ≡ true
  pub kept_given : (x : ℕ) → elem x quarantined ≡ true → elem x given ≡ true

among_each : (l given : List ℕ) → among l given ≡ true → (x : ℕ) → elem x l ≡ true → elem x given ≡ true
unfolding among
among_each [] given e x h = elem_none x h
among_each (r ∷ l) given e x h =
    ⊎_elim (λ s. rw s (and_left (elem r given) (among l given) e)) (among_each l given (and_right (elem r given) (among l given) e) x)
    (elem_cases x r l h)

each_among : (l given : List ℕ) → ((x : ℕ) → elem x l ≡ true → elem x given ≡ true) → among l given ≡ true
unfolding among
each_among [] given f = refl
each_among (r ∷ l) given f =
    and-true (elem r given) (among l given) (f r (elem_here r l)) (each_among l given (λ x h. f x (elem_there x r l h)))

module _ (given live quarantined : List ℕ) where
  pub store_told : sound_store given live quarantined ≡ true → SoundStore given live quarantined
  store_told e =
      let both = and_right (given_ok given) (among live given && among quarantined given) e in
      record {
        fit = and_left (given_ok given) (among live given && among quarantined given) e;
        live_given = among_each live given (and_left (among live given) (among quarantined given) both);
        kept_given = among_each quarantined given (and_right (among live given) (among quarantined given) both);
      }

  pub store_sound : SoundStore given live quarantined → sound_store given live quarantined ≡ true
  store_sound s =
      and-true (given_ok given) (among live given && among quarantined given) s.fit
      (and-true (among live given) (among quarantined given) (each_among live given s.live_given) (each_among quarantined given s.kept_given))

-- The free rings, where none is quarantined, are all but the live ones and control's.
pub free_count :
    (given live : List ℕ) (control : ℕ) → SoundStore given (live ++ (control ∷ [])) [] → distinct (live ++ (control ∷ [])) ≡ true →
    length (free_rings given live control []) + (length live + 1) ≡ length given
unfolding free_rings
free_count given live control s d =
    let used = live ++ (control ∷ []) in
    let sum : length (not_among used given) + length used ≡ length given =
    count_promise given used (given_apart given s.fit) d (each_among used given s.live_given) in
    let n : length used ≡ length live + 1 = length-append live (control ∷ []) in
    omega (arith, sum, n)

-- as many as endpoints
pub live_count : (n : ℕ) (eps : List Endpoint) → n ≤ length eps → length (rings_of (take n eps)) ≡ n
live_count n eps h = rings_count eps n h
