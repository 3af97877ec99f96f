use Prim.Native.Nat.{ℕ}
use mathlib.Core.Path.{◌≡◌, ◌∙◌}
use mathlib.Core.List.{[]}
use borrow.Author.Rules.{rules}
use mathlib.Core.Bool.{◌||◌}
use lib.Dec.{eqb}
use lib.ListN.{get_or}
use Rattle.std.proofs.lemmas.Iterator.{YieldsList-from_slice}
use Rattle.std.proofs.lemmas.Iterator.Consumers.{YieldsList-from_enumerate}
use Rattle.std.proofs.lemmas.Iterator.Search.{all_from_yields_List}
use Rattle.std.specs.List.{list_any}
use Rattle.transfer.specs.Routes.{queues, route_of, is_free}
use Rattle.transfer.proofs.Steps.{is_free_test, free_all}
use Rattle.transfer.proofs.new_free.Goals as goal

pub returns : goal.returns
unfolding route_of
returns c = let a = c.args in
    all_from_yields_List (λ (p : ℕ × ℕ). is_free a.routes.now a.slot.0 (queues a.old_dcis.now []) (record { dci = p.1; ring = get_or a.rings.now p.0 0 })) _ _ _ c.all.ensures.ran
    (YieldsList-from_enumerate {s = c.enumerate.result} (YieldsList-from_slice a.dcis.now (search rules)) (search rules)) (λ x b q k.
    let e : b ≡ ((eqb (route_of a.routes.now a.slot.0 x.1.now) 0 || eqb (route_of a.routes.now a.slot.0 x.1.now) (get_or a.rings.now x.0 0)) || list_any (λ y. eqb y x.1.now) a.old_dcis.now) = search rules in
    (search rules, e ∙ is_free_test _ _ _ _ _))
    ∙ free_all _ _ _ _ _
