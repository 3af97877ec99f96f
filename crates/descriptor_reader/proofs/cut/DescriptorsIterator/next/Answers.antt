use Prim.Native.Nat.{◌<◌}
use mathlib.Core.Path.{refl}
use native.Mathlib.Omega.{arith}
use lib.ListN.{length}
use borrow.Author.Rules.{rules}
use Rattle.descriptor_reader.proofs.Step.{whole_is, length_inside, first_of}
use Rattle.descriptor_reader.proofs.cut.DescriptorsIterator.next.Goals as goal

pub split_at-requires : goal.split_at-requires
split_at-requires c = length_inside _ _ _ c.in_ok-n.ensures.item.3 c.args.self.now.whole

pub invariant_of-self : goal.invariant_of-self
invariant_of-self c =
    let f = first_of _ _ _ _ _ c.in_ok-n.ensures.item.3 c.args.self.now.whole c.split_at.ensures.front c.split_at.ensures.back in
    record { whole = f.rest }

pub invariant_of-result : goal.invariant_of-result
invariant_of-result c =
    let f = first_of _ _ _ _ _ c.in_ok-n.ensures.item.3 c.args.self.now.whole c.split_at.ensures.front c.split_at.ensures.back in
    record { whole = f.whole }

pub returns-clause-steps : goal.returns-clause-steps
returns-clause-steps c =
    record {
      cut_off = (first_of _ _ _ _ _ c.in_ok-n.ensures.item.3 c.args.self.now.whole c.split_at.ensures.front c.split_at.ensures.back).cut_off;
      given = refl;
      kept = refl;
    }

pub returns-clause-goes : goal.returns-clause-goes
returns-clause-goes c =
    let f = first_of _ _ _ _ _ c.in_ok-n.ensures.item.3 c.args.self.now.whole c.split_at.ensures.front c.split_at.ensures.back in
    let m : length c.split_at.result.1.now < length c.args.self.now.bytes.now =
    omega (arith, f.cut_off.long, (whole_is _ _ f.whole).least) in
    search rules
