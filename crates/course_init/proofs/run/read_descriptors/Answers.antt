use mathlib.Core.Path.{◌≡◌, ◌∙◌}
use Prim.Native.Nat.{◌-◌}
use native.Mathlib.Nat.{sub-zero}
use native.Mathlib.Omega.{arith}
use borrow.Author.Rules.{rules}
use Rattle.descriptor_list.proofs.Companions.{listed}
use Rattle.course_init.specs.Reading.{bring_up_of}
use Rattle.course_init.specs.Init.{bring_up_configuration, bring_up_device}
use Rattle.course_init.specs.Parts.{or_ended, bring_up_left}
use Rattle.course_init.proofs.Steps.{unless_done, done, stopped_before, stopped_after, configs_next, configs_stopped}
use Rattle.course_init.proofs.run.read_descriptors.Goals as goal

pub returns-in_default : goal.returns-in_default
returns-in_default c = record {
  all_read = λ n e. absurd cc;
  log_value = λ rings hubs ctx routes spacing.
      stopped_before _ _ _ _ _ _ c.send-packet.ensures ctx routes _ _ _ (unless_done _ c.in_default.not-Done) _ (listed _ _ c.requires.list_value).begins
      c.before_reading.ensures;
}

pub returns-in_default-value : goal.returns-in_default-value
unfolding bring_up_configuration
returns-in_default-value c = record {
  all_read = λ n e. absurd cc;
  log_value = λ rings hubs ctx routes spacing.
      done _ _ _ _ _ _ c.send-packet.ensures _ ctx routes _ c.in-Done.is
      ∙ stopped_before _ _ _ _ _ _ c.send-value.ensures ctx routes _ _ _ (unless_done _ c.in_default-value.not-Done) _
      (listed _ _ c.requires.list_value).begins c.before_reading-in_default-value.ensures;
}

pub returns-in_default-device : goal.returns-in_default-device
unfolding bring_up_configuration bring_up_device
returns-in_default-device c = record {
  all_read = λ n e. absurd cc;
  log_value = λ rings hubs ctx routes spacing.
      done _ _ _ _ _ _ c.send-packet.ensures _ ctx routes _ c.in-Done.is
      ∙ done _ _ _ _ _ _ c.send-value.ensures _ ctx routes _ c.in-Done-value.is
      ∙ stopped_after _ _ _ _ _ _ c.send-device.ensures ctx routes _ _ _ (unless_done _ c.in_default-device.not-Done)
      (bring_up_of c.args.a rings hubs c.args.list.now) 0 c.after_reading.ensures;
}

pub loop-i-init : goal.loop-i-init
loop-i-init c = (
  search rules,
  omega (arith, (listed _ _ c.requires.list_value).few, c.count_configurations-all.ensures),
  search rules,
  λ rings hubs ctx routes spacing. rw sub-zero,
)

pub returns-in_default-s : goal.returns-in_default-s
unfolding bring_up_configuration bring_up_device bring_up_left
returns-in_default-s c = record {
  all_read = λ n e. absurd cc;
  log_value = λ rings hubs ctx routes spacing.
      let a = bring_up_of c.args.a rings hubs c.args.list.now in
      done _ _ _ _ _ _ c.send-packet.ensures _ ctx routes _ c.in-Done.is
      ∙ done _ _ _ _ _ _ c.send-value.ensures _ ctx routes _ c.in-Done-value.is
      ∙ done _ _ _ _ _ _ c.send-device.ensures _ ctx routes _ c.in-Done-device.is
      ∙ rw (← c.count_configurations-all.ensures)
      (c.loop-i.invariant.3 rings hubs ctx routes spacing
      ∙ configs_stopped a spacing ctx routes _ _ _ _ c.count_configurations-all.ensures c.loop-i-test.true _ _ c.send-s.ensures _ _
      (unless_done _ c.in_default-s.not-Done) c.after_reading-in_default-s.ensures);
}

pub loop-i-preserved : goal.loop-i-preserved
loop-i-preserved c = (
  search rules,
  search rules,
  search rules,
  λ rings hubs ctx routes spacing.
      c.loop-i.invariant.3 rings hubs ctx routes spacing
      ∙ configs_next _ _ _ _ _ _ _ _ c.count_configurations-all.ensures c.loop-i-test.true _ _ c.send-s.ensures c.in-Done-s.is,
)

pub returns : goal.returns
unfolding bring_up_configuration bring_up_device bring_up_left or_ended
returns c =
    let all = c.count_configurations-all.result in
    let same : c.loop-i.i ≡ all = omega (arith, c.loop-i-test.false, c.loop-i.invariant.0) in
    let none : all - c.loop-i.i ≡ 0 = omega (arith, same) in
    record {
      all_read = λ n e. search rules;
      log_value = λ rings hubs ctx routes spacing.
          done _ _ _ _ _ _ c.send-packet.ensures _ ctx routes _ c.in-Done.is
          ∙ done _ _ _ _ _ _ c.send-value.ensures _ ctx routes _ c.in-Done-value.is
          ∙ done _ _ _ _ _ _ c.send-device.ensures _ ctx routes _ c.in-Done-device.is
          ∙ rw (← c.count_configurations-all.ensures) (rw (none, same) at (c.loop-i.invariant.3 rings hubs ctx routes spacing));
    }
