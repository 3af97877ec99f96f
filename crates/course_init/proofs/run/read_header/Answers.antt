use mathlib.Core.Path.{sym, ◌∙◌}
use borrow.Author.Tests.{eq-eqb, ne_eqb}
use Rattle.answer.specs.declared.Answer.TheVariants as answer
use Rattle.command.specs.Course.{on_sent}
use Rattle.command.proofs.Phases.{continued}
use Rattle.course_init.specs.Init.{step, bring_up_header}
use Rattle.course_init.specs.Parts.{or_ended}
use Rattle.course_init.proofs.Steps.{unless_done, done, stopped_before, header_refused}
use Rattle.course_init.proofs.run.read_header.Goals as goal

pub returns-in_default : goal.returns-in_default
returns-in_default c = record {
  packet_value = λ e. absurd cc;
  log_value = λ rings hubs list ctx routes spacing v.
      stopped_before _ _ _ _ _ _ c.send-address.ensures ctx routes _ _ _ (unless_done _ c.in_default.not-Done) list v c.before_reading.ensures;
}

pub returns-in_default-header : goal.returns-in_default-header
unfolding bring_up_header
returns-in_default-header c = record {
  packet_value = λ e. absurd cc;
  log_value = λ rings hubs list ctx routes spacing v.
      done _ _ _ _ _ _ c.send-address.ensures _ ctx routes _ c.in-Done.is
      ∙ stopped_before _ _ _ _ _ _ c.send-header.ensures ctx routes _ _ _ (unless_done _ c.in_default-header.not-Done) list v
      c.before_reading-in_default-header.ensures;
}

-- 16
pub returns-then-a-ne8 : goal.returns-then-a-ne8
unfolding bring_up_header step on_sent continued
returns-then-a-ne8 c = record {
  packet_value = λ e. absurd cc;
  log_value = λ rings hubs list ctx routes spacing v.
      done _ _ _ _ _ _ c.send-address.ensures _ ctx routes _ c.in-Done.is
      ∙ done _ _ _ _ _ _ c.send-header.ensures _ ctx routes _ c.in-Done-header.is
      ∙ header_refused _ list ctx routes _ answer.ShortHeader _ _ _ v c.unread.ensures
      (rw (ne_eqb c.args.a.header 8 c.if-a-ne8.true));
}

-- 19
pub returns-then-not-exponent_ok : goal.returns-then-not-exponent_ok
unfolding bring_up_header step on_sent continued
returns-then-not-exponent_ok c = record {
  packet_value = λ e. absurd cc;
  log_value = λ rings hubs list ctx routes spacing v.
      done _ _ _ _ _ _ c.send-address.ensures _ ctx routes _ c.in-Done.is
      ∙ done _ _ _ _ _ _ c.send-header.ensures _ ctx routes _ c.in-Done-header.is
      ∙ header_refused _ list ctx routes _ answer.PacketExponent _ _ _ v c.unread-then-not-exponent_ok.ensures
      (rw (eq-eqb c.args.a.header 8 c.if-a-ne8.false, ← c.exponent_ok.ensures, c.if-not-exponent_ok.true));
}

pub returns : goal.returns
unfolding bring_up_header step on_sent continued or_ended
returns c =
    let ok = c.if-not-exponent_ok.false in
    record {
      packet_value = λ e. sym c.exponent_ok.ensures ∙ ok;
      log_value = λ rings hubs list ctx routes spacing v.
          done _ _ _ _ _ _ c.send-address.ensures _ ctx routes _ c.in-Done.is
          ∙ done _ _ _ _ _ _ c.send-header.ensures _ ctx routes _ c.in-Done-header.is
          ∙ rw (eq-eqb c.args.a.header 8 c.if-a-ne8.false, ← c.exponent_ok.ensures, ok);
    }
