-- The words of the courses where every command is done.
use Rattle.std.proofs.Common.{Result, Ok, Err}
use Prim.Native.Nat.{ℕ, zero, suc, ◌+◌, ◌≤◌, ◌<◌}
use mathlib.Core.Path.{◌≡◌, refl, sym, ◌∙◌, ap}
use mathlib.Core.Bool.{Bool, true, false, not, cond}
use mathlib.Core.List.{List, [], ◌∷◌, ◌++◌, append-nil, append_assoc}
use native.Mathlib.Omega.{arith}
use lib.Dec.{eqb}
use lib.ListN.{length, get_or, get_or-append}
use Rattle.laws.proofs.Tests.{not_both}
use Rattle.def.specs.Speed.{exponent_ok}
use Rattle.descriptor.specs.Word.{configuration_value}
use Rattle.descriptor_list.specs.Valid.{configurations}
use Rattle.answer.specs.declared.Answer.TheVariants as answer
use Rattle.answer.specs.Answer.{number, is_accepted}
use Rattle.command.specs.declared.Command.{Command}
use Rattle.command.specs.declared.Command.TheVariants as command
use Rattle.command.specs.declared.Sent.TheVariants.{Done}
use Rattle.command.specs.Command.{log_word, command_word, outcome_at, stop_command}
use Rattle.command.specs.Course.{Course, ends, sends, on_sent, then, words, result}
use Rattle.command.specs.Sweep.{Sweep, swept, stop_from, stop_endpoints, stop_each}
use Rattle.command.proofs.Sweeps.{stop_words}
use Rattle.record_endpoint.specs.declared.endpoint_map.EndpointMap.{EndpointMap}
use Rattle.record_endpoint.specs.declared.endpoint_map.Owner.{Owner}
use Rattle.record_endpoint.specs.Order.{dci_at}
use Rattle.record_endpoint.specs.EndpointMap.{is_owned, gathered, queues_of, queue_dcis}
use Rattle.transfer.specs.declared.RouteError.{RouteError}
use Rattle.transfer.specs.Routes.{Queue, replaced}
use Rattle.course_steps.specs.End.{End}
use Rattle.course_claim.specs.Claim.{Claim, claim_publish, claim_switch, claim_configure, claim_course}
use Rattle.course_release.specs.Release.{Release, release_publish, release_configure, release_course}
use Rattle.course_set_configuration.specs.SetConfiguration.{Settings, drop_context, set_evaluate, set_published, set_publish, set_switch, set_configure, set_course}
use Rattle.course_disconnect.specs.Disconnect.{disable, disconnect_course}
use Rattle.course_init.specs.Reading.{BringUp, Reading, Brought, brought, nothing_read, read_up_to}
use Rattle.course_init.specs.Init.{step, bring_up_settings, bring_up_set, bring_up_configs, bring_up_device, bring_up_configuration, bring_up_packet, bring_up_header, bring_up_address}
use Rattle.theorem_calls.specs.Accepted.{dcis_from, stops, reads_of}
use Rattle.theorem_calls.proofs.Courses.{Strict, strict_first}
use Rattle.theorem_calls.proofs.Listed.{none_moved}

-- How a course ends where every command is done, and what it logs.
unfoldable pub done_end : {A : Type 0} → Course A → A
done_end (ends a) = a
done_end (sends c ctx k) = done_end (k Done)

unfoldable pub done_words : {A : Type 0} → Course A → List ℕ
done_words (ends a) = []
done_words (sends c ctx k) = command_word c ∷ done_words (k Done)

pub record Walked {A : Type 0} (o : List ℕ) (n : ℕ) (c : Course A) : Type 0 where
  pub end : result o n c ≡ done_end c
  pub logged : words o n c ≡ done_words c

-- One that does not end by N does.
pub walked : {A : Type 0} (N : A → Type 0) (o : List ℕ) (n : ℕ) (c : Course A) → Strict N c → (N (result o n c) → ⊥) → Walked o n c
unfolding Strict words result done_end done_words
walked N o n (ends a) t e = record { end = refl; logged = refl }
walked N o n (sends c ctx f) t e =
    let d : outcome_at o n ≡ Done = strict_first N o n c ctx f t e in
    let w = walked N o (n + 1) (f Done) t.0 (rw d at e) in
    record { end = rw d w.end; logged = rw d (ap (λ ws. command_word c ∷ ws) w.logged) }

-- Any course does as long as its commands are done.
pub begins : {A : Type 0} (o : List ℕ) (n : ℕ) (c : Course A) (i : ℕ) → i < length (words o n c) →
    ((k : ℕ) → k < i → outcome_at o (n + k) ≡ Done) →
    (i < length (done_words c)) × (get_or (words o n c) i 0 ≡ get_or (done_words c) i 0)
unfolding words done_words
begins o n (ends a) i h f = absurd (omega arith)
begins o n (sends c ctx k) zero h f = (omega arith, refl)
begins o n (sends c ctx k) (suc i) h f =
    let z : n + 0 ≡ n = omega arith in
    let d : outcome_at o n ≡ Done = rw z at (f zero (omega arith)) in
    let l : suc i < suc (length (words o (n + 1) (k Done))) = rw d at h in
    let w = begins o (n + 1) (k Done) i (omega arith) (λ j m. let y : n + 1 + j ≡ n + suc j = omega arith in rw y (f (suc j) (omega arith))) in
    (omega (arith, w.0), rw d w.1)

-- These words and no others, or fewer of them.
pub record Front (ws all : List ℕ) : Type 0 where
  pub rest : List ℕ
  pub whole : ws ++ rest ≡ all

pub front_all : (ws all : List ℕ) → ws ≡ all → Front ws all
front_all ws all e = record { rest = []; whole = append-nil ws ∙ e }

pub front_word : (ws all : List ℕ) → Front ws all → (i : ℕ) → i < length ws → get_or ws i 0 ≡ get_or all i 0
front_word ws all f i h = sym (get_or-append ws f.rest 0 i h) ∙ ap (λ x. get_or x i 0) f.whole

-- One course after the other.
done_then : {A B : Type 0} (c : Course A) (f : A → Course B) → done_words (then c f) ≡ done_words c ++ done_words (f (done_end c))
unfolding done_words done_end then
done_then (ends a) f = refl
done_then (sends c ctx k) f = ap (λ ws. command_word c ∷ ws) (done_then (k Done) f)

end_then : {A B : Type 0} (c : Course A) (f : A → Course B) → done_end (then c f) ≡ done_end (f (done_end c))
unfolding done_end then
end_then (ends a) f = refl
end_then (sends c ctx k) f = end_then (k Done) f

-- Stops.
module _ (ctx : List ℕ) where
  stop_done_words : (stopped ds : List ℕ) → done_words (stop_from ctx stopped ds) ≡ stop_words ds
  unfolding done_words stop_from stop_words on_sent
  stop_done_words stopped [] = refl
  stop_done_words stopped (d ∷ ds) = ap (λ ws. command_word (stop_command d) ∷ ws) (stop_done_words (stopped ++ (d ∷ [])) ds)

  stop_done_end : (stopped ds : List ℕ) → done_end (stop_from ctx stopped ds) ≡ swept Done 0
  unfolding done_end stop_from on_sent
  stop_done_end stopped [] = refl
  stop_done_end stopped (d ∷ ds) = stop_done_end (stopped ++ (d ∷ [])) ds

  each_done_words : (ds : List ℕ) → done_words (stop_each ctx ds) ≡ stop_words ds
  unfolding done_words stop_each stop_words on_sent
  each_done_words [] = refl
  each_done_words (d ∷ ds) = ap (λ ws. command_word (stop_command d) ∷ ws) (each_done_words ds)

  each_done_end : (ds : List ℕ) → done_end (stop_each ctx ds) ≡ false
  unfolding done_end stop_each on_sent
  each_done_end [] = refl
  each_done_end (d ∷ ds) = each_done_end ds

  after_stops_words : (ds : List ℕ) (f : Sweep → Course End) →
      done_words (then (stop_endpoints ctx ds) f) ≡ stop_words ds ++ done_words (f (swept Done 0))
  unfolding stop_endpoints
  after_stops_words ds f =
      done_then (stop_from ctx [] ds) f
      ∙ rw (stop_done_words [] ds, stop_done_end [] ds) refl

pub claim_words : (a : Claim) (ctx routes : List ℕ) →
    done_words (claim_course a ctx routes)
    ≡ stop_words (queue_dcis a.old) ++ (0x30000000 ∷ log_word 6 a.args.interface a.args.alternate ∷ [])
unfolding claim_course claim_configure claim_switch claim_publish done_words on_sent command_word
claim_words a ctx routes = after_stops_words ctx (queue_dcis a.old) _

pub release_words : (a : Release) (ctx routes : List ℕ) →
    done_words (release_course a ctx routes) ≡ stop_words (queue_dcis a.old) ++ (0x30000000 ∷ [])
unfolding release_course release_configure release_publish done_words on_sent command_word
release_words a ctx routes = after_stops_words ctx (queue_dcis a.old) _

pub set_words : (a : Settings) (ctx routes : List ℕ) → replaced routes a.slot a.old [] ≡ Ok tt →
    done_words (set_course a ctx routes)
    ≡ stop_words (queue_dcis a.old) ++ (0x30000000 ∷ log_word 7 a.value 0 ∷ 0x20000000 ∷ [])
unfolding set_course set_configure set_switch set_publish set_published set_evaluate done_words on_sent command_word
set_words a ctx routes r = after_stops_words ctx (queue_dcis a.old) _ ∙ rw r refl

published_front : (a : Settings) (stops ctx routes : List ℕ) (r : Result Unit RouteError) →
    Front (stops ++ (0x30000000 ∷ log_word 7 a.value 0 ∷ done_words (set_published r a ctx routes)))
    (stops ++ (0x30000000 ∷ log_word 7 a.value 0 ∷ 0x20000000 ∷ []))
unfolding set_published set_evaluate done_words command_word on_sent
published_front a stops ctx routes (Ok _) = front_all _ _ refl
published_front a stops ctx routes (Err _) = record { rest = 0x20000000 ∷ []; whole = append_assoc stops _ _ }

pub set_front : (a : Settings) (ctx routes : List ℕ) →
    Front (done_words (set_course a ctx routes)) (stop_words (queue_dcis a.old) ++ (0x30000000 ∷ log_word 7 a.value 0 ∷ 0x20000000 ∷ []))
unfolding set_course set_configure set_switch set_publish done_words on_sent command_word
set_front a ctx routes =
    rw (after_stops_words ctx (queue_dcis a.old) _)
    (published_front a (stop_words (queue_dcis a.old)) (drop_context a ctx) routes (replaced routes a.slot a.old []))

pub disconnect_words : (slot : ℕ) (dcis ctx routes : List ℕ) →
    done_words (disconnect_course slot dcis ctx routes) ≡ stop_words (1 ∷ dcis) ++ (0xC0000000 ∷ [])
unfolding disconnect_course disable done_words command_word
disconnect_words slot dcis ctx routes =
    done_then (stop_each ctx (1 ∷ dcis)) _ ∙ rw (each_done_words ctx (1 ∷ dcis), each_done_end ctx (1 ∷ dcis)) refl

-- The words of Stops.
pub stops_spelled : (ds : List ℕ) → stop_words ds ≡ stops ds
unfolding stop_words stops command_word
stops_spelled [] = refl
stops_spelled (d ∷ ds) = ap (λ ws. log_word 4 d 0 ∷ ws) (stops_spelled ds)

-- Dcis by place.
abbrev queue_at : ℕ → ℕ → Queue
queue_at p ring = record { dci = dci_at p; ring = ring }

module _ (who : Owner) (c : EndpointMap) (rings : List ℕ) (same : (p : ℕ) → p < 30 → eqb (get_or rings p 0) 0 ≡ not (is_owned who c p)) where
  dcis_placed : (k a : ℕ) → a + k ≤ 30 → queue_dcis (gathered (λ p. queue_at p (get_or rings p 0)) rings k a) ≡ dcis_from who c k a
  unfolding gathered queue_dcis dcis_from
  dcis_placed zero a h = refl
  dcis_placed (suc k) a h = rw (same a (omega arith)) (go (is_owned who c a) (dcis_placed k (a + 1) (omega arith)))
    where
      rest : List Queue
      rest = gathered (λ p. queue_at p (get_or rings p 0)) rings k (a + 1)

      go :
          (t : Bool) → queue_dcis rest ≡ dcis_from who c k (a + 1) →
          queue_dcis (cond (not t) rest (queue_at a (get_or rings a 0) ∷ rest))
          ≡ cond t (dci_at a ∷ dcis_from who c k (a + 1)) (dcis_from who c k (a + 1))
      go true e = ap (λ ds. dci_at a ∷ ds) e
      go false e = e

  pub dcis_by_place : queue_dcis (queues_of rings) ≡ dcis_from who c 30 0
  unfolding queues_of
  dcis_by_place = dcis_placed 30 0 (omega arith)

-- Bring-up.
abbrev Walks : List ℕ → Course Brought → Type 0
Walks ws c = is_accepted (done_end c).answer ≡ true → done_words c ≡ ws

step_walks : (c : Command) (read : Reading) (ctx routes ws : List ℕ) (next : Course Brought) → Walks ws next →
    Walks (command_word c ∷ ws) (step c read ctx routes next)
unfolding done_end done_words step on_sent
step_walks c read ctx routes ws next t e = ap (λ x. command_word c ∷ x) (t e)

ended_walks : (x : Brought) → Walks [] (ends x)
unfolding done_words
ended_walks x e = refl

module _ (a : BringUp) (spacing : ℕ) (routes : List ℕ) where
  abbrev last_words : List ℕ
  last_words = 0x30000000 ∷ log_word 7 (configuration_value (get_or a.list 0 0)) 0 ∷ 0x20000000 ∷ []

  set_walks : (ctx : List ℕ) → Walks last_words (bring_up_set a spacing ctx routes)
  unfolding done_words bring_up_set bring_up_settings queue_dcis stop_words
  set_walks ctx e =
      let s = bring_up_settings a spacing in
      done_then (set_course s ctx routes) _ ∙ append-nil _ ∙ set_words s ctx routes (none_moved routes a.slot)

  configs_walk : (k i : ℕ) (ctx : List ℕ) → Walks (reads_of k i ++ last_words) (bring_up_configs a spacing k i ctx routes)
  unfolding bring_up_configs reads_of command_word
  configs_walk zero i ctx = set_walks ctx
  configs_walk (suc k) i ctx = step_walks (command.ReadConfig i) (read_up_to a i) ctx routes _ _ (configs_walk k (i + 1) ctx)

  abbrev list_words : List ℕ
  list_words = cond (eqb (length a.list) 0) [] (reads_of (configurations a.list) 0 ++ last_words)

  device_walks : (ctx : List ℕ) → Walks (0xA0000000 ∷ list_words) (bring_up_device a spacing ctx routes)
  unfolding bring_up_device command_word
  device_walks ctx = step_walks command.ReadDevice (read_up_to a 0) ctx routes _ _ (go (eqb (length a.list) 0))
    where
      go :
          (b : Bool) →
          Walks (cond b [] (reads_of (configurations a.list) 0 ++ last_words))
          (cond b (ends (brought answer.Accepted (read_up_to a 0) ctx routes)) (bring_up_configs a spacing (configurations a.list) 0 ctx routes))
      go true = ended_walks _
      go false = configs_walk (configurations a.list) 0 ctx

  packet_walks : (ctx : List ℕ) → Walks (0x20000000 ∷ 0x90000000 ∷ 0xA0000000 ∷ list_words) (bring_up_packet a spacing ctx routes)
  unfolding bring_up_packet bring_up_configuration command_word
  packet_walks ctx =
      step_walks command.Evaluate nothing_read _ routes _ _ (step_walks command.ReadConfiguration nothing_read _ routes _ _ (device_walks _))

  -- one that ends refused walks nowhere
  no_walk : (x : Brought) (ws : List ℕ) → is_accepted x.answer ≡ false → Walks ws (ends x)
  unfolding done_end
  no_walk x ws n e = not_both (is_accepted x.answer) e n

  either_walks : (b : Bool) (ws : List ℕ) (x y : Course Brought) → Walks ws x → Walks ws y → Walks ws (cond b x y)
  either_walks true ws x y t u = t
  either_walks false ws x y t u = u

  pub bring_up_walks : (ctx : List ℕ) →
      Walks (0x10000000 ∷ 0x80000000 ∷ 0x20000000 ∷ 0x90000000 ∷ 0xA0000000 ∷ list_words) (bring_up_address a spacing ctx routes)
  unfolding bring_up_address bring_up_header command_word number
  bring_up_walks ctx =
      step_walks command.Address nothing_read _ routes _ _
      (step_walks command.ReadHeader nothing_read _ routes _ _
      (either_walks (eqb a.header 8) _ _ _ (either_walks (exponent_ok a.speed a.packet) _ _ _ (packet_walks _) (no_walk _ _ refl)) (no_walk _ _ refl)))

-- And however far it comes.
step_front : (c : Command) (read : Reading) (ctx routes ws : List ℕ) (next : Course Brought) → Front (done_words next) ws →
    Front (done_words (step c read ctx routes next)) (command_word c ∷ ws)
unfolding done_words step on_sent
step_front c read ctx routes ws next f = record { rest = f.rest; whole = ap (λ x. command_word c ∷ x) f.whole }

ended_front : (x : Brought) (ws : List ℕ) → Front (done_words (ends x)) ws
unfolding done_words
ended_front x ws = record { rest = ws; whole = refl }

either_front : (b : Bool) (ws : List ℕ) (x y : Course Brought) → Front (done_words x) ws → Front (done_words y) ws → Front (done_words (cond b x y)) ws
either_front true ws x y t u = t
either_front false ws x y t u = u

module _ (a : BringUp) (spacing : ℕ) (routes : List ℕ) where
  set_brought_front : (ctx : List ℕ) → Front (done_words (bring_up_set a spacing ctx routes)) (last_words a spacing routes)
  unfolding done_words bring_up_set bring_up_settings queue_dcis stop_words
  set_brought_front ctx =
      let s = bring_up_settings a spacing in
      front_all _ _ (done_then (set_course s ctx routes) _ ∙ append-nil _ ∙ set_words s ctx routes (none_moved routes a.slot))

  configs_front : (k i : ℕ) (ctx : List ℕ) →
      Front (done_words (bring_up_configs a spacing k i ctx routes)) (reads_of k i ++ last_words a spacing routes)
  unfolding bring_up_configs reads_of command_word
  configs_front zero i ctx = set_brought_front ctx
  configs_front (suc k) i ctx = step_front (command.ReadConfig i) (read_up_to a i) ctx routes _ _ (configs_front k (i + 1) ctx)

  list_front : (b : Bool) (ctx : List ℕ) →
      Front (done_words (cond b (ends (brought answer.Accepted (read_up_to a 0) ctx routes)) (bring_up_configs a spacing (configurations a.list) 0 ctx routes)))
      (cond b [] (reads_of (configurations a.list) 0 ++ last_words a spacing routes))
  list_front true ctx = ended_front _ _
  list_front false ctx = configs_front (configurations a.list) 0 ctx

  packet_front : (ctx : List ℕ) →
      Front (done_words (bring_up_packet a spacing ctx routes)) (0x20000000 ∷ 0x90000000 ∷ 0xA0000000 ∷ list_words a spacing routes)
  unfolding bring_up_packet bring_up_configuration bring_up_device command_word
  packet_front ctx =
      step_front command.Evaluate nothing_read _ routes _ _
      (step_front command.ReadConfiguration nothing_read _ routes _ _
      (step_front command.ReadDevice (read_up_to a 0) _ routes _ _ (list_front (eqb (length a.list) 0) _)))

  pub bring_up_front : (ctx : List ℕ) →
      Front (done_words (bring_up_address a spacing ctx routes))
      (0x10000000 ∷ 0x80000000 ∷ 0x20000000 ∷ 0x90000000 ∷ 0xA0000000 ∷ list_words a spacing routes)
  unfolding bring_up_address bring_up_header command_word
  bring_up_front ctx =
      step_front command.Address nothing_read _ routes _ _
      (step_front command.ReadHeader nothing_read _ routes _ _
      (either_front (eqb a.header 8) _ _ _
      (either_front (exponent_ok a.speed a.packet) _ _ _ (packet_front _) (ended_front _ _)) (ended_front _ _)))
