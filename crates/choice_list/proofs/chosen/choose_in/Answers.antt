use mathlib.Core.List.{[]}
use mathlib.Core.Path.{◌≡◌, refl}
use lib.ListN.{length}
use borrow.Author.Rules.{rules}
use Rattle.std.proofs.lemmas.List.{length-take-le}
use Rattle.descriptor_list.specs.Companions.{joined}
use Rattle.choice_search.specs.Search.{PickedAs}
use Rattle.choice_list.proofs.Once.{new_distinct}
use Rattle.choice_list.proofs.Exits.{chosen_in, refused_in}
use Rattle.choice_list.proofs.chosen.choose_in.Goals as goal

pub candidates_of-counts-requires : goal.candidates_of-counts-requires
candidates_of-counts-requires c =
    let e : length c.of-once.result.names ≡ 8 = search rules in
    let n = length-take-le c.of-once.result.count c.of-once.result.names (rw e c.of-once.result.fits) in
    (c.requires.0, (rw n c.of-once.result.fits, (rw c.of-once.ensures (new_distinct [] c.args.names.now), refl)))

pub returns-in-Ok : goal.returns-in-Ok
unfolding PickedAs
returns-in-Ok c =
    let e : length c.of-once.result.names ≡ 8 = search rules in
    let n = length-take-le c.of-once.result.count c.of-once.result.names (rw e c.of-once.result.fits) in
    chosen_in (joined c.args.list.now) c.args.speed c.args.longest c.args.names.now _ c.of-once.result.count _
    c.of-once.ensures n (rw n at c.candidates_of-counts.ensures) _ c.in-Ok.ensures _ refl c.alternates_of.ensures

pub returns-in-Err : goal.returns-in-Err
unfolding PickedAs
returns-in-Err c =
    let e : length c.of-once.result.names ≡ 8 = search rules in
    let n = length-take-le c.of-once.result.count c.of-once.result.names (rw e c.of-once.result.fits) in
    refused_in (joined c.args.list.now) c.args.speed c.args.longest c.args.names.now _ c.of-once.result.count _
    c.of-once.ensures n (rw n at c.candidates_of-counts.ensures) _ c.in-Err.ensures _ c.refused.ensures
