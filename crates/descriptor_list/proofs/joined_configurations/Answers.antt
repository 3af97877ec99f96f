use Rattle.std.proofs.Common.{rules, ◌≡◌, ◌∙◌, count_by}
use Rattle.std.proofs.iter.runs.Made.{chains}
use Rattle.descriptor.specs.declared.WordKind.TheVariants.{Configuration}
use Rattle.descriptor.proofs.Kind.{is_kind}
use Rattle.descriptor_list.proofs.Chains.{configurations_counted}
use Rattle.descriptor_list.proofs.joined_configurations.Goals as goal

pub returns : goal.returns
returns c =
    let counted : c.count.result ≡ count_by (is_kind Configuration) c.args.list.now = search (rules, chains) in
    counted ∙ configurations_counted c.args.list.now
