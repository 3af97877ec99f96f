-- The table of the dispatcher is the one that the started calls leave.
use Prim.Native.Nat.{ℕ}
use mathlib.Core.Path.{◌≡◌, refl, sym, ◌∙◌, ap}
use mathlib.Core.List.{List, [], ◌∷◌, ◌++◌}
use Rattle.theorem_dispatch.specs.Isolation.{Run, ran, table_after}
use Rattle.theorem_dispatch.specs.Desk.{Desk, Event, submits, turns, started, desk_after, desk_in, started_in, new_desk, DependsOnOwn}
use Rattle.theorem_dispatch.proofs.Isolation.{is_isolated}

pub table_both : (t : List ℕ) (rs qs : List Run) → table_after t (rs ++ qs) ≡ table_after (table_after t rs) qs
unfolding table_after
table_both t [] qs = refl
table_both t (r ∷ rs) qs = table_both ((ran r t).routes) rs qs

table_desk : (d : Desk) (e : Event) → (desk_after d e).table ≡ table_after d.table (started d e)
unfolding desk_after started table_after
table_desk d (submits r) = refl
table_desk d turns = refl

pub table_in : (d : Desk) (es : List Event) → (desk_in d es).table ≡ table_after d.table (started_in d es)
unfolding desk_in started_in table_after
table_in d [] = refl
table_in d (e ∷ es) =
    table_in (desk_after d e) es
    ∙ ap (λ t. table_after t (started_in (desk_after d e) es)) (table_desk d e)
    ∙ sym (table_both d.table (started d e) (started_in (desk_after d e) es))

pub depends_on_own : DependsOnOwn
unfolding new_desk
depends_on_own slot t u c k es fs s e =
    let a = is_isolated slot t u (started_in (new_desk c t) es) (started_in (new_desk k u) fs) s e in
    (rw (table_in (new_desk c t) es, table_in (new_desk k u) fs) a.words, a)
