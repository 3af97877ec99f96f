use borrow.Author.Rules.{rules}
use native.Mathlib.Omega.{arith}
use mathlib.Core.Path.{◌∙◌}
use Rattle.descriptor_list.specs.Companions.{joined}
use Rattle.course_steps.specs.Arrays.{dcis_in}
use Rattle.course_set_configuration.proofs.Steps.{drop_next, dropped}
use Rattle.course_set_configuration.proofs.held.prepare_drop.Goals as goal

pub loop-i-preserved : goal.loop-i-preserved
loop-i-preserved c = (
  search rules,
  λ s. c.loop-i.invariant.1 s ∙ drop_next _ _ _ _ _ _ c.loop-i-test.true
      (c.words.ensures ∙ c.of_setting-setting.ensures) s _ _ (c.drop_endpoints.ensures s),
)

pub highest_staying-entries-requires : goal.highest_staying-entries-requires
unfolding dcis_in
highest_staying-entries-requires c =
    let room = c.requires.room in
    (omega (arith, c.loop-i.invariant.0, c.begin_configure.auto.ctx, room.spaced.wide, room.spaced.room), rw c.dcis.ensures room.dcis)

pub returns : goal.returns
unfolding dcis_in
returns c =
    dropped c.args.a (joined c.args.list.now) c.args.ctx.now _ _ _ _ _ c.loop-i-test.false
    c.requires.room.spaced (c.begin_configure.ensures c.args.a.spacing) c.finish_configure.ensures
    c.highest_staying-entries.ensures.0 (c.loop-i.invariant.1 c.args.a.spacing)
    (λ ws f. rw c.dcis.ensures at (c.highest_staying-entries.ensures.1 ws f))
