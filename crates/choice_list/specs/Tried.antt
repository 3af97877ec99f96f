-- What inner functions give the search: the candidates of an interface, and the names, each once. Nothing above rests on it.
use Rattle.std.specs.Prelude.{ℕ, zero, suc, ◌+◌, Bool, cond, ◌&&◌, List, [], ◌∷◌, ◌++◌, eqb, get_or}
use Rattle.laws.specs.Distinct.{elem}
use Rattle.descriptor.specs.Word.{alternate_setting}
use Rattle.descriptor_list.specs.Lookup.{of_interface, find_endpoints}
use Rattle.context_block.specs.Flags.{flags_of}
use Rattle.choice_search.specs.declared.by_name.Candidate.{Candidate}
use Rattle.choice_list.specs.Candidate.{first_length, all_short, found_at, words_at}

-- A candidate but for its place in the first configuration.
unfoldable pub may_choose : List ℕ → ℕ → ℕ → ℕ → ℕ → Bool
may_choose list speed longest interface place =
    let w = get_or list place 0 in
    of_interface interface w
    && (found_at place (find_endpoints list interface (alternate_setting w))
    && all_short speed longest (words_at list interface place))

-- The candidates of an interface among n places from one on.
unfoldable pub candidates_from : List ℕ → ℕ → ℕ → ℕ → ℕ → ℕ → List Candidate
candidates_from list speed longest interface zero place = []
candidates_from list speed longest interface (suc n) place =
    cond (may_choose list speed longest interface place)
    (record { place = place; addresses = flags_of (words_at list interface place) } ∷ candidates_from list speed longest interface n (place + 1))
    (candidates_from list speed longest interface n (place + 1))

unfoldable pub candidates : List ℕ → ℕ → ℕ → ℕ → List Candidate
candidates list speed longest interface = candidates_from list speed longest interface (first_length list) 0

-- Those of some names that were not seen, each once.
unfoldable pub new_names : List ℕ → List ℕ → List ℕ
new_names seen [] = []
new_names seen (n ∷ ns) = cond (elem n seen) (new_names seen ns) (n ∷ new_names (seen ++ (n ∷ [])) ns)

-- The place beside a name, where it stands first; 0 where it does not stand.
unfoldable pub place_of : List ℕ → List ℕ → ℕ → ℕ
place_of [] places x = 0
place_of (n ∷ ns) [] x = 0
place_of (n ∷ ns) (p ∷ ps) x = cond (eqb n x) p (place_of ns ps x)
