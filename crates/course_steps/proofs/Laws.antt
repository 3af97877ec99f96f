-- Queues in arrays: their Dcis, how many they are, and what the phases ask of them.
use Prim.Native.Nat.{ℕ, zero, suc, ◌+◌, ◌<◌, ◌≤◌}
use mathlib.Core.Path.{◌≡◌, refl, sym, ap, ◌∙◌}
use mathlib.Core.Bool.{Bool, true, false, cond, ◌&&◌}
use mathlib.Core.List.{List, [], ◌∷◌}
use native.Mathlib.Omega.{arith}
use borrow.Author.Tests.{leb-true, ltb-true}
use lib.Dec.{eqb, leb, ltb}
use lib.ListN.{length, drop, get_or, length-take}
use Rattle.laws.proofs.Computed.{all_below}
use Rattle.laws.proofs.Tests.{and_left, and_right}
use Rattle.answer.specs.declared.Answer.{Answer}
use Rattle.command.specs.declared.Sent.{Sent}
use Rattle.command.specs.declared.Sent.TheVariants.{Done}
use Rattle.command.specs.declared.Swept.{Swept}
use Rattle.command.specs.Course.{ends, then, played}
use Rattle.command.specs.Sweep.{stop_endpoints, resume_stopped_endpoints, SweptAs}
use Rattle.command.proofs.Laws.{played_ends}
use Rattle.command.proofs.Phases.{swept_on}
use Rattle.command.proofs.Sweeps.{stop_done_count, resume_count}
use Rattle.context.specs.Place.{Spaced}
use Rattle.context.specs.Promises.{EndpointDcis}
use Rattle.record_endpoint.specs.declared.queues.Queues.{Queues}
use Rattle.record_endpoint.specs.EndpointMap.{gathered, queues_of, queue_dcis, queue_rings, QueuesAs}
use Rattle.record_endpoint.specs.Order.{dci_at}
use Rattle.transfer.specs.Routes.{Queue, queues}
use Rattle.course_steps.specs.declared.CourseEnd.{CourseEnd}
use Rattle.course_steps.specs.End.{settings_kept, settings_marked}
use Rattle.course_steps.specs.Arrays.{dcis_in, rings_in, queues_in, course_leaves, Room}

-- the Dcis of queues made of Dcis and rings
pub dcis_queues : (ds rs : List ℕ) → queue_dcis (queues ds rs) ≡ ds
unfolding queues queue_dcis
dcis_queues [] rs = refl
dcis_queues (d ∷ ds) rs = ap (λ l. d ∷ l) (dcis_queues ds (drop 1 rs))

-- as many as there are queues
pub length_dcis : (qs : List Queue) → length (queue_dcis qs) ≡ length qs
unfolding queue_dcis
length_dcis [] = refl
length_dcis (q ∷ qs) = ap suc (length_dcis qs)

-- queues taken apart and put together again
pub queues_parts : (qs : List Queue) → queues (queue_dcis qs) (queue_rings qs) ≡ qs
unfolding queues queue_dcis queue_rings
queues_parts [] = refl
queues_parts (q ∷ qs) = ap (λ l. q ∷ l) (queues_parts qs)

module _ (q : Queues) where
  -- the Dcis of the queues in some arrays
  pub dcis_in_lem : queue_dcis (queues_in q) ≡ dcis_in q
  unfolding queues_in
  dcis_in_lem = dcis_queues (dcis_in q) (rings_in q)

  -- as many as there are queues
  pub length_in : length (dcis_in q) ≡ length (queues_in q)
  length_in = ap length (sym dcis_in_lem) ∙ length_dcis (queues_in q)

  -- no more than the count
  pub few_in : length (dcis_in q) ≤ q.count
  unfolding dcis_in
  few_in = simp length-take (omega arith)

module _ (q : Queues) (by : List ℕ) (a : QueuesAs q by) where
  -- arrays that hold the queues of some rings
  pub queues_as : queues_in q ≡ queues_of by
  unfolding queues_in dcis_in rings_in
  queues_as = rw (a.dcis, a.rings) (queues_parts (queues_of by))

  -- are full of them
  pub full_as : length (queues_in q) ≡ q.count
  full_as = ap length queues_as ∙ sym a.count

module _ (q : Queues) (o ctx log left : List ℕ) (n : ℕ) (r : Swept) where
  -- the count after the queues' endpoints are stopped
  pub stopped_count : SweptAs r left (played o n (stop_endpoints ctx (dcis_in q)) log) → r.sent ≡ Done → r.count ≤ n + q.count
  stopped_count a e = omega (arith, stop_done_count o ctx (dcis_in q) log left n r a e, few_in q)

  -- and after they are resumed
  pub resumed_count : SweptAs r left (played o n (resume_stopped_endpoints ctx (dcis_in q)) log) → r.count ≤ n + q.count
  resumed_count a = omega (arith, resume_count o ctx (dcis_in q) log left n r a, few_in q)

-- the Dci of each place is an endpoint's
dci_placed : (place : ℕ) → place < 30 → (2 ≤ dci_at place) × (dci_at place < 32)
unfolding dci_at
dci_placed place h =
    let t = all_below (λ p. leb 2 (dci_at p) && ltb (dci_at p) 32) 30 refl place h in
    (leb-true _ _ (and_left _ _ t), ltb-true _ _ (and_right (leb 2 (dci_at place)) _ t))

gathered_dcis : (f : ℕ → Queue) (rings : List ℕ) (k place : ℕ) → ((p : ℕ) → p < place + k → (2 ≤ (f p).dci) × ((f p).dci < 32)) →
    EndpointDcis (queue_dcis (gathered f rings k place))
unfolding gathered queue_dcis
gathered_dcis f rings zero place h = λ i l. absurd (omega arith)
gathered_dcis f rings (suc k) place h =
    go (eqb (get_or rings place 0) 0) (gathered_dcis f rings k (place + 1) (λ p l. h p (omega arith))) (h place (omega arith))
  where
    rest : List Queue
    rest = gathered f rings k (place + 1)

    go : (b : Bool) → EndpointDcis (queue_dcis rest) → (2 ≤ (f place).dci) × ((f place).dci < 32) →
        EndpointDcis (queue_dcis (cond b rest (f place ∷ rest)))
    go true r d = r
    go false r d = first
      where
        first : EndpointDcis (queue_dcis (f place ∷ rest))
        first zero l = d
        first (suc i) l = r i (omega arith)

-- so are those of queues by place
pub queue_dcis_lem : (by : List ℕ) → EndpointDcis (queue_dcis (queues_of by))
unfolding queues_of
queue_dcis_lem by = gathered_dcis _ by 30 0 (λ p l. dci_placed p l)

-- what the phases ask, of arrays that hold the queues of some rings
pub room_as : (spacing ctx : ℕ) (old all : Queues) (by whole : List ℕ) → Spaced spacing ctx → QueuesAs old by →
    QueuesAs all whole → Room spacing ctx old all
unfolding dcis_in
room_as spacing ctx old all by whole s o a =
    record {
      spaced = s;
      full = full_as old by o;
      dcis = rw a.dcis (queue_dcis_lem whole);
    }

-- and in a context of the same length
pub room_same : (s m n : ℕ) (old all : Queues) → Room s m old all → n ≡ m → Room s n old all
room_same s m n old all r e = rw e r

-- what a phase leaves where its course has ended
pub ended : {log ctx routes : List ℕ} {n active : ℕ} {a : Answer} {moved doubted : Bool} {r : CourseEnd} (o : List ℕ) →
    r ≡ record { answer = a; count = n; active = active; moved = moved; doubted = doubted } →
    course_leaves r ctx routes log
    ≡ played o n (ends (record { answer = a; active = active; moved = moved; doubted = doubted; ctx = ctx; routes = routes })) log
ended o e = rw (e, played_ends)

-- where it ends with some queues' endpoints resumed, and a mark
pub ended_marked : {left ctx routes : List ℕ} {back : Swept} {r : CourseEnd} (q : Queues) (o log : List ℕ) (n : ℕ) (f : Sent → Answer) (g : Sent → Bool) →
    SweptAs back left (played o n (resume_stopped_endpoints ctx (dcis_in q)) log) →
    r ≡ record { answer = f back.sent; count = back.count; active = back.active; moved = false; doubted = g back.sent } →
    course_leaves r ctx routes left
    ≡ played o n
    (then (resume_stopped_endpoints ctx (queue_dcis (queues_in q))) (λ s. ends (settings_marked (f s.sent) s.active (g s.sent) ctx routes))) log
ended_marked q o log n f g a e = rw dcis_in_lem (swept_on o log n _ _ a refl (ended o e))

-- and without one
pub ended_resumed : {left ctx routes : List ℕ} {back : Swept} {r : CourseEnd} (q : Queues) (o log : List ℕ) (n : ℕ) (f : Sent → Answer) →
    SweptAs back left (played o n (resume_stopped_endpoints ctx (dcis_in q)) log) →
    r ≡ record { answer = f back.sent; count = back.count; active = back.active; moved = false; doubted = false } →
    course_leaves r ctx routes left
    ≡ played o n
    (then (resume_stopped_endpoints ctx (queue_dcis (queues_in q))) (λ s. ends (settings_kept (f s.sent) s.active ctx routes))) log
ended_resumed q o log n f a e = ended_marked q o log n f (λ s. false) a e

-- queues that count none, as `Queues::NONE`, are none
pub none_counted : (q : Queues) → q.count ≡ 0 → queues_in q ≡ []
unfolding queues_in dcis_in queues
none_counted q e = simp e
