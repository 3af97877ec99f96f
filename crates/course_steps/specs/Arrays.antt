-- Queues that lie in arrays beside their count, and what a phase leaves.
use Rattle.std.specs.Prelude.{ℕ, ◌≡◌, List, length, take}
use Rattle.command.specs.Course.{Played}
use Rattle.context.specs.Place.{Spaced}
use Rattle.context.specs.Promises.{EndpointDcis}
use Rattle.record_endpoint.specs.declared.queues.Queues.{Queues}
use Rattle.transfer.specs.Routes.{Queue, queues}
use Rattle.course_steps.specs.End.{End}
use Rattle.course_steps.specs.declared.CourseEnd.{CourseEnd}

unfoldable pub dcis_in : Queues → List ℕ
dcis_in q = take q.count q.dcis

unfoldable pub rings_in : Queues → List ℕ
rings_in q = take q.count q.rings

unfoldable pub queues_in : Queues → List Queue
queues_in q = queues (dcis_in q) (rings_in q)

-- What a phase leaves, as a course's end says it.
abbrev pub course_leaves : CourseEnd → List ℕ → List ℕ → List ℕ → Played End
course_leaves r ctx routes log =
    record {
      end = record { answer = r.answer; active = r.active; moved = r.moved; doubted = r.doubted; ctx = ctx; routes = routes };
      count = r.count;
      log = log;
    }

-- What every phase asks: a context of this spacing, arrays that are full, and Dcis of endpoints.
-- No field of a type keeps it: the spacing is of the context, a slice that the phases are lent, and queues whose count a phase lowers
-- would owe the rest anew.
pub record Room (spacing ctx : ℕ) (old all : Queues) : Type 0 where
  pub spaced : Spaced spacing ctx
  pub full : length (queues_in old) ≡ old.count
  pub dcis : EndpointDcis (dcis_in all)
