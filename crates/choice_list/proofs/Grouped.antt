-- The candidates of the names in one array, each name's behind those of the names before it.
use Rattle.std.specs.Prelude.{ℕ, ◌+◌, ◌-◌, ◌<◌, ◌≤◌, ◌≡◌, true, List, [], ◌∷◌, ◌++◌, length, get_or, set, take, drop, map}
use Rattle.std.specs.List.{flat_map}
use mathlib.Core.Path.{refl, sym, ap, ◌∙◌}
use native.Mathlib.Omega.{arith}
use Rattle.std.proofs.lemmas.List.{append_assoc, length-append, take_all, take_at, drop_at, take_more, take_more_set, map_more, flat_map_more, take-append-drop}
use lib.ListN.{length-set}
use Rattle.laws.specs.Distinct.{distinct}
use Rattle.choice_search.specs.declared.by_name.Candidate.{Candidate}
use Rattle.choice_search.specs.Search.{grouped}
use Rattle.choice_list.specs.Tried.{candidates}
use Rattle.choice_list.proofs.Words.{first_few}
use Rattle.choice_list.proofs.Few.{prefix_few, few_candidates}

grouped_back : (f : ℕ → List Candidate) (names : List ℕ) (tail : List Candidate) →
    grouped (map (λ x. length (f x)) names) (flat_map f names ++ tail) ≡ map f names
unfolding grouped
grouped_back f [] tail = refl
grouped_back f (x ∷ xs) tail =
    rw (
      append_assoc (f x) (flat_map f xs) tail,
      take_at (f x) (flat_map f xs ++ tail) (length (f x)) refl,
      drop_at (f x) (flat_map f xs ++ tail) (length (f x)) refl,
      grouped_back f xs tail,
    ) refl

module _ (list : List ℕ) (speed longest : ℕ) (names : List ℕ) where
  abbrev its : ℕ → List Candidate
  its x = candidates list speed longest x

  -- Where the walk over the names stands.
  pub record Gathering (all : List Candidate) (counts : List ℕ) (i end : ℕ) : Type 0 where
    pub room : length all ≡ 256
    pub wide : length counts ≡ 8
    pub put : take end all ≡ flat_map its (take i names)
    pub ends : end ≡ length (flat_map its (take i names))
    pub counted : take i counts ≡ map (λ x. length (its x)) (take i names)

  pub gather_starts : (all : List Candidate) (counts : List ℕ) → length all ≡ 256 → length counts ≡ 8 → Gathering all counts 0 0
  gather_starts all counts r w = record { room = r; wide = w; put = refl; ends = refl; counted = refl }

  module _ (all : List Candidate) (counts : List ℕ) (i end : ℕ) (h : i < length names) (g : Gathering all counts i end) where
    more : flat_map its (take (i + 1) names) ≡ flat_map its (take i names) ++ its (get_or names i 0)
    more = ap (flat_map its) (take_more names i 0 h) ∙ sym (flat_map_more its [] (take i names) (get_or names i 0))

    length_more : length (flat_map its (take (i + 1) names)) ≡ end + length (its (get_or names i 0))
    length_more = rw (more, length-append (flat_map its (take i names)) (its (get_or names i 0)), ← g.ends) refl

    pub gather_fits : length list ≤ 256 → distinct names ≡ true → end + length (its (get_or names i 0)) ≤ 256
    gather_fits l d =
        let p = prefix_few its (i + 1) names in
        let f = few_candidates list speed longest names d in
        let w = first_few list in
        let e = length_more in
        omega (arith, p, f, w, e)

    pub gather_goes : (new : List Candidate) (last count : ℕ) → i < 8 → length new ≡ 256 → last ≡ end + length (its (get_or names i 0)) →
        take last new ≡ take end all ++ its (get_or names i 0) → count ≡ last - end → Gathering new (set counts i count) (i + 1) last
    gather_goes new last count few r e q c =
        record {
          room = r;
          wide = simp length-set g.wide;
          put = q ∙ ap (λ t. t ++ its (get_or names i 0)) g.put ∙ sym more;
          ends = e ∙ sym length_more;
          counted =
              let n : count ≡ length (its (get_or names i 0)) = omega (arith, e, c) in
              rw (take_more_set counts i count (rw g.wide few), map_more (λ x. length (its x)) names i 0 h, g.counted, n) refl;
        }

  pub gather_ends : (all : List Candidate) (counts : List ℕ) (i end : ℕ) → length names ≤ i → i ≤ length names → Gathering all counts i end →
      grouped (take (length names) counts) all ≡ map its names
  gather_ends all counts i end h k g =
      let e : i ≡ length names = omega arith in
      let t = take_all (length names) names (omega arith) in
      let c : take (length names) counts ≡ map (λ x. length (its x)) names = rw (e, t) at g.counted in
      let p : take end all ≡ flat_map its names = rw (e, t) at g.put in
      rw c (ap (grouped (map (λ x. length (its x)) names)) (sym (take-append-drop end all) ∙ ap (λ l. l ++ drop end all) p) ∙ grouped_back its names (drop end all))
