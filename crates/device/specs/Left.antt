-- What a call returns and leaves.
use Rattle.std.specs.Prelude.{ℕ, cond, List}
use Rattle.answer.specs.declared.Answer.{Answer}
use Rattle.answer.specs.Answer.{is_lost}
use Rattle.command.specs.Course.{Played}
use Rattle.course_steps.specs.End.{End}
use Rattle.device.specs.declared.record.Device.{Device}
use Rattle.device.specs.declared.record.Called.{Called}
use Rattle.device.specs.declared.update.Ended.{Ended}
use Rattle.device.specs.Device.{unusable}

pub record Left : Type 0 where
  pub device : Device
  pub answer : Answer
  pub count : ℕ
  pub ctx : List ℕ
  pub routes : List ℕ
  pub log : List ℕ

-- What a call hands back: the record as its end left it.
abbrev pub called_of : Device → Ended → Called
called_of d e = record { device = d; answer = e.answer; count = e.count }

abbrev pub leaves : Called → List ℕ → List ℕ → List ℕ → Left
leaves r ctx routes log =
    record { device = r.device; answer = r.answer; count = r.count; ctx = ctx; routes = routes; log = log }

-- Refused: nothing changed, count 0.
unfoldable pub refused : Device → Answer → List ℕ → List ℕ → List ℕ → Left
refused d a ctx routes log = record { device = d; answer = a; count = 0; ctx = ctx; routes = routes; log = log }

-- 14 and 15 make the record unusable.
unfoldable pub marked : Answer → Device → Device
marked a d = cond (is_lost a) (unusable d) d

-- Where a course has ended, with the record that its end makes.
unfoldable pub ended : (End → Device) → Played End → Left
ended made p =
    record {
      device = made p.end;
      answer = p.end.answer;
      count = p.count;
      ctx = p.end.ctx;
      routes = p.end.routes;
      log = p.log;
    }
