use borrow.Author.Rules.{rules}
use native.Mathlib.Omega.{arith}
use mathlib.Core.Path.{◌∙◌}
use Rattle.descriptor_list.specs.Companions.{joined}
use Rattle.course_steps.specs.Arrays.{dcis_in, rings_in}
use Rattle.course_set_configuration.proofs.Steps.{add_next, compare_next, added}
use Rattle.course_set_configuration.proofs.held.prepare_restore.Goals as goal

pub highest_staying-entries-requires : goal.highest_staying-entries-requires
unfolding dcis_in
highest_staying-entries-requires c =
    let room = c.requires.room in
    (omega (arith, c.begin_configure.auto.ctx, room.spaced.wide, room.spaced.room), rw c.dcis-dcis.ensures room.dcis)

pub loop-i-preserved : goal.loop-i-preserved
loop-i-preserved c = (
  search rules,
  omega (arith, c.highest_added-entries.ensures, c.loop-i.invariant.1),
  c.loop-i.invariant.2 ∙ compare_next _ _ _ _ _ _ c.loop-i-test.true (c.words-words.ensures ∙ c.of_setting-setting.ensures) _ _ c.highest_added-entries.ensures,
  c.loop-i.invariant.3 ∙ add_next _ _ _ _ _ _ c.loop-i-test.true (c.words-words.ensures ∙ c.of_setting-setting.ensures) _ _ _ _ _ c.add_endpoints.ensures,
)

pub returns : goal.returns
unfolding dcis_in rings_in
returns c =
    added c.args.a (joined c.args.list.now) c.args.ctx.now _ _ _ _ _ c.loop-i-test.false
    c.requires.room.spaced (c.begin_configure.ensures c.args.a.spacing) c.finish_configure.ensures
    c.loop-i.invariant.1 _ _ _ c.loop-i.invariant.3 c.highest_staying-entries.ensures.1 c.loop-i.invariant.2 c.dcis-dcis.ensures c.rings-rings.ensures
