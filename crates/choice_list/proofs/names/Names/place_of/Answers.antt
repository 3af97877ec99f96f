use native.Mathlib.Omega.{arith}
use Prim.Native.Nat.{◌-◌}
use mathlib.Core.Path.{◌≡◌, refl}
use lib.ListN.{length}
use borrow.Author.Rules.{rules}
use Rattle.std.proofs.lemmas.List.{length-take-le}
use Rattle.choice_list.proofs.Once.{sought, seek_on, not_sought}
use Rattle.choice_list.proofs.names.Names.place_of.Goals as goal

pub loop-i-init : goal.loop-i-init
loop-i-init c = let e : c.args.self.now.count - 0 ≡ c.args.self.now.count = omega arith in rw e refl

pub returns-then-x-name : goal.returns-then-x-name
returns-then-x-name c = sought _ _ _ _ (let e : length c.args.self.now.names ≡ 8 = search rules in length-take-le _ _ (rw e c.args.self.now.fits)) _ c.loop-i-test.true c.loop-i.invariant c.if-x-name.true

pub loop-i-preserved : goal.loop-i-preserved
loop-i-preserved c = seek_on _ _ _ _ (let e : length c.args.self.now.names ≡ 8 = search rules in length-take-le _ _ (rw e c.args.self.now.fits)) _ c.loop-i-test.true c.loop-i.invariant c.if-x-name.false

pub returns : goal.returns
returns c = not_sought _ _ _ _ (let e : length c.args.self.now.names ≡ 8 = search rules in length-take-le _ _ (rw e c.args.self.now.fits)) _ c.loop-i-test.false c.loop-i.invariant
