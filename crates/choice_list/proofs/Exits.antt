-- What is returned is the choice of the search.
use Rattle.std.specs.Prelude.{ℕ, ◌≡◌, Some, List, [], ◌∷◌, length, map}
use mathlib.Core.Path.{refl, ap, ◌∙◌}
use Rattle.std.proofs.lemmas.List.{length-map}
use Rattle.choice_search.specs.declared.by_name.Candidate.{Candidate}
use Rattle.choice_search.specs.Search.{pick, turned, Within, Blamed}
use Rattle.choice_list.specs.declared.chosen.Chosen.{Chosen}
use Rattle.choice_list.specs.Choice.{alternate_at}
use Rattle.choice_list.specs.Chosen.{AlternatesAs, Refused, ChosenIn, chosen, no_choice}
use Rattle.choice_list.specs.Tried.{candidates, new_names, place_of}
use Rattle.choice_list.proofs.Lift.{picked_first, none_chosen}

map_map : (f g : ℕ → ℕ) (l : List ℕ) → map (λ x. f (g x)) l ≡ map f (map g l)
map_map f g [] = refl
map_map f g (x ∷ l) = rw (map_map f g l) refl

module _ (list : List ℕ) (speed longest : ℕ) (names once : List ℕ) (n : ℕ) (groups : List (List Candidate)) (is : once ≡ new_names [] names)
    (long : length once ≡ n) (its : groups ≡ map (candidates list speed longest) once) where
  its_own : groups ≡ map (candidates list speed longest) (new_names [] names)
  its_own = rw (← is) its

  pub chosen_in : (picks : List ℕ) → pick groups 0 ≡ Some (turned picks (length groups)) → (r : Chosen) → r.answer ≡ 0 →
      AlternatesAs (map (λ x. alternate_at list (place_of once (turned picks n) x)) names) r.alternates → ChosenIn list speed longest names r
  chosen_in picks e r a f =
      let l : length groups ≡ n = ap length its ∙ length-map once (candidates list speed longest) ∙ long in
      let p = rw (l, its_own) at e in
      chosen (map (place_of once (turned picks n)) names) (rw is (picked_first list speed longest names (turned picks n) p)) a
      (rw (← map_map (alternate_at list) (place_of once (turned picks n)) names) f)

  pub refused_in : (blame : ℕ) → Blamed groups blame × Within blame 0 → (r : Chosen) → Refused 30 r → ChosenIn list speed longest names r
  refused_in blame b r f = no_choice (none_chosen list speed longest names (rw its_own at (b.0 0 b.1))) f
