use mathlib.Core.Path.{◌≡◌, sym, ◌∙◌}
use native.Mathlib.Omega.{arith}
use mathlib.Core.Bool.{true, false}
use Rattle.std.proofs.Common.{is_some}
use Rattle.record_settings.proofs.Steps.{sound_none, sound_next, sound_again, sound_lost, held_any}
use Rattle.record_settings.proofs.held.Settings.are_sound.Goals as goal

pub loop-i-init : goal.loop-i-init
loop-i-init c = sound_none _ _ _

pub returns-then-contains : goal.returns-then-contains
returns-then-contains c = let s = c.args.self.now in
    let i = c.loop-i.i in
    sym (sound_again _ _ _ _ i c.loop-i-test.true (sym (c.contains.ensures.value ∙ held_any i s.interfaces s.alternates _ (omega arith)) ∙ c.if-contains.true))

pub returns-then-is_none : goal.returns-then-is_none
returns-then-is_none c = let e : is_some c.find_interface_endpoints-found.result ≡ false = c.if-is_none.ensures in
    sym (sound_lost _ _ _ _ c.loop-i.i c.loop-i-test.true (rw (← c.find_interface_endpoints-found.ensures) e))

pub loop-i-preserved : goal.loop-i-preserved
loop-i-preserved c = let s = c.args.self.now in
    let i = c.loop-i.i in
    let e : is_some c.find_interface_endpoints-found.result ≡ true = c.if-is_none.ensures in
    sound_next _ _ _ i c.loop-i.invariant (sym (c.contains.ensures.value ∙ held_any i s.interfaces s.alternates _ (omega arith)) ∙ c.if-contains.false) (rw (← c.find_interface_endpoints-found.ensures) e)
