use borrow.Author.Rules.{rules}
use mathlib.Core.Path.{sym, ◌∙◌}
use Rattle.laws.proofs.Tests.{not_both}
use Rattle.descriptor.proofs.Kind.{kind_in, none_refused}
use Rattle.descriptor_list.proofs.Behind.{behind_end, behind_configuration, behind_endpoint, behind_marked, behind_new}
use Rattle.descriptor_list.proofs.Steps.{word_refused, configuration_refused, alternate_refused, unfit}
use Rattle.descriptor_list.proofs.words_fit.Goals as goal

pub loop-i-init : goal.loop-i-init
loop-i-init c = behind_end c.args.list.now

pub returns-then-not-word_ok : goal.returns-then-not-word_ok
returns-then-not-word_ok c =
    sym (unfit _ (word_refused _ _ _ c.loop-i-test.true c.loop-i.invariant.inside c.loop-i.invariant.walked (sym c.word_ok.ensures ∙ c.if-not-word_ok.true)))

pub returns-then-run-ne0 : goal.returns-then-run-ne0
returns-then-run-ne0 c =
    sym (unfit _ (configuration_refused _ _ _ c.loop-i-test.true c.loop-i.invariant.inside c.loop-i.invariant.walked
    (kind_in _ _ c.word_kind.ensures c.in-Some-Configuration.is c.in-Some-Configuration.field-0-is) c.if-run-ne0.true))

pub loop-i-preserved-else-run-ne0 : goal.loop-i-preserved-else-run-ne0
loop-i-preserved-else-run-ne0 c =
    behind_configuration _ _ _ _ _ c.loop-i.invariant c.loop-i-test.true (sym c.word_ok.ensures ∙ c.if-not-word_ok.false)
    (kind_in _ _ c.word_kind.ensures c.in-Some-Configuration.is c.in-Some-Configuration.field-0-is) c.if-run-ne0.false

pub returns-then-run-gt30 : goal.returns-then-run-gt30
returns-then-run-gt30 c =
    sym (unfit _ (alternate_refused _ _ _ c.loop-i-test.true c.loop-i.invariant.inside c.loop-i.invariant.walked
    (kind_in _ _ c.word_kind.ensures c.in-Some-Alternate.is c.in-Some-Alternate.field-0-is) c.if-run-gt30.true))

pub loop-i-preserved-then-not-marks-interface : goal.loop-i-preserved-then-not-marks-interface
loop-i-preserved-then-not-marks-interface c =
    behind_new _ _ _ _ _ c.loop-i.invariant c.loop-i-test.true (sym c.word_ok.ensures ∙ c.if-not-word_ok.false)
    (kind_in _ _ c.word_kind.ensures c.in-Some-Alternate.is c.in-Some-Alternate.field-0-is) c.if-run-gt30.false
    _ c.interface_number-interface.ensures (search rules) c.if-not-marks-interface.true

pub loop-i-preserved-else-not-marks-interface : goal.loop-i-preserved-else-not-marks-interface
loop-i-preserved-else-not-marks-interface c =
    behind_marked _ _ _ _ _ c.loop-i.invariant c.loop-i-test.true (sym c.word_ok.ensures ∙ c.if-not-word_ok.false)
    (kind_in _ _ c.word_kind.ensures c.in-Some-Alternate.is c.in-Some-Alternate.field-0-is) c.if-run-gt30.false
    _ c.interface_number-interface.ensures (search rules) c.if-not-marks-interface.false

pub loop-i-preserved : goal.loop-i-preserved
loop-i-preserved c =
    behind_endpoint _ _ _ _ _ c.loop-i.invariant c.loop-i-test.true (sym c.word_ok.ensures ∙ c.if-not-word_ok.false)
    (kind_in _ _ c.word_kind.ensures c.in-Some-Endpoint.is c.in-Some-Endpoint.field-0-is)

pub returns-in-None : goal.returns-in-None
returns-in-None c = not_both _ (sym c.word_ok.ensures ∙ c.if-not-word_ok.false) (none_refused _ _ c.word_kind.ensures c.in-None.is)
