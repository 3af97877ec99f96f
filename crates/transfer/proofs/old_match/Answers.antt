use Prim.Native.Nat.{ℕ}
use mathlib.Core.Path.{◌∙◌}
use borrow.Author.Rules.{rules}
use lib.Dec.{eqb}
use lib.ListN.{get_or}
use Rattle.std.proofs.lemmas.Iterator.{YieldsList-from_slice}
use Rattle.std.proofs.lemmas.Iterator.Consumers.{YieldsList-from_enumerate}
use Rattle.std.proofs.lemmas.Iterator.Search.{all_from_yields_List}
use Rattle.transfer.specs.Routes.{route_of}
use Rattle.transfer.proofs.Steps.{match_all}
use Rattle.transfer.proofs.old_match.Goals as goal

pub returns : goal.returns
unfolding route_of
returns c = let a = c.args in
    all_from_yields_List (λ (p : ℕ × ℕ). eqb (route_of a.routes.now a.slot.0 p.1) (get_or a.rings.now p.0 0)) _ _ _ c.all.ensures.ran
    (YieldsList-from_enumerate {s = c.enumerate.result} (YieldsList-from_slice a.dcis.now (search rules)) (search rules)) (λ x b q k. search rules)
    ∙ match_all _ _ _ _
