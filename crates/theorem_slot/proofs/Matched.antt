-- No call on a record whose routes are the plain slot's is answered with 18.
use Prim.Native.Nat.{ℕ}
use mathlib.Core.Path.{◌≡◌, refl, sym, ◌∙◌, ap}
use mathlib.Core.Bool.{Bool, true, false}
use mathlib.Core.List.{List, []}
use mathlib.Core.Logic.{◌⊎◌, inl, inr}
use native.Mathlib.Omega.{arith}
use Rattle.laws.proofs.Tests.{not_both}
use Rattle.answer.specs.declared.Answer.{Answer}
use Rattle.answer.specs.declared.Answer.TheVariants as answer
use Rattle.answer.specs.Answer.{number}
use Rattle.command.specs.declared.Sent.{Sent}
use Rattle.command.specs.declared.Sent.TheVariants as sent
use Rattle.command.specs.Command.{outcome_at}
use Rattle.command.specs.Course.{result, played}
use Rattle.transfer.specs.Routes.{replaced}
use Rattle.record_endpoint.specs.EndpointMap.{owned_rings, queues_of, queue_dcis}
use Rattle.record_endpoint.specs.declared.endpoint_map.Owner.TheVariants.{Interface}
use Rattle.theorem_routing.specs.Routing.{NamedBy}
use Rattle.theorem_routing.proofs.Laws.{release_done, bare_done}
use Rattle.course_steps.specs.End.{End, answer_of}
use Rattle.course_claim.proofs.Laws.{claim_answers, Refused}
use Rattle.course_release.proofs.Laws as released
use Rattle.course_set_configuration.proofs.Laws as configured
use Rattle.course_disconnect.proofs.Ends.{Ended, disconnect_ends}
use Rattle.device.specs.declared.record.Device.{Device}
use Rattle.device.specs.Device.{endpoint_map_in}
use Rattle.device.specs.Left.{Left, refused, ended}
use Rattle.device.specs.Calls.{hub_context, hub_course, hub_left, hub_update}
use Rattle.device.specs.Ask.{Ask, commit}
use Rattle.device.specs.Claim.{drawn, claim_in, claim_run, claim}
use Rattle.device.specs.Release.{release_in, release_run, release}
use Rattle.device.specs.SetConfiguration.{settings_in, set_run, set_configuration}
use Rattle.device.specs.Disconnect.{disconnect_run, disconnect}
use Rattle.theorem_slot.specs.Call.{Buffers, Asked, brings_up, claims, commits, releases, configures, updates_hub, disconnects, left}
use Rattle.theorem_slot.specs.Answers.{is_refused, is_bring_up}
use Rattle.theorem_slot.specs.Theorem.{State}
use Rattle.theorem_slot.proofs.Good.{Down, Live, Good, Stands, live_tells, named_from}
use Rattle.theorem_slot.proofs.Step.{on_mild, mild_claim, mild_commit, mild_release, mild_set, mild_hub, mild_disconnect}
use Rattle.theorem_slot.proofs.Refusing.{down_refuses}

-- Not 18.
abbrev pub Other : Answer → Type 0
Other a = a ≡ answer.InvalidEndpoint → ⊥

by_number : (a b : Answer) → a ≡ b → (number b ≡ 18 → ⊥) → Other a
unfolding number
by_number a b e h i = h (ap number (sym e ∙ i))

refused_other : (a : Answer) → is_refused a ≡ true → Other a
unfolding is_refused number
refused_other a r i = not_both (is_refused answer.InvalidEndpoint) (ap is_refused (sym i) ∙ r) refl

-- The few answers of most courses.
few : (a : Answer) → (a ≡ answer.Accepted) ⊎ Refused a → Other a
unfolding number
few a (inl e) = by_number a _ e (λ z. omega arith)
few a (inr (inl (code, e))) = by_number a _ e (λ z. omega arith)
few a (inr (inr (inl e))) = by_number a _ e (λ z. omega arith)
few a (inr (inr (inr e))) = by_number a _ e (λ z. omega arith)

sent_other : (s : Sent) → Other (answer_of s)
unfolding answer_of
sent_other sent.Done = few _ (inl refl)
sent_other (sent.Failed code) = few _ (inr (inl (code, refl)))
sent_other sent.Cut = few _ (inr (inr (inr refl)))

module _ (slot : ℕ) (before : List ℕ) (s : State) (g : Good slot before s) (l : Live slot s.device s.plain) (b : Buffers) where
  abbrev d : Device
  d = s.device

  abbrev refuse : Answer → Left
  refuse x = refused d x b.ctx s.routes b.log

  named : NamedBy s.routes slot (endpoint_map_in d)
  named = named_from slot s.routes s.plain (endpoint_map_in d) g.named (live_tells slot d s.plain l)

  claim_other : (i a : ℕ) → Other (left (claims i a) b d s.routes).answer
  unfolding left claim refused ended played
  claim_other i a =
      on_mild (λ (x : Left). Other x.answer) _ (claim_run d b.ctx s.routes b.log b.outcomes i a (drawn d i a)) refuse (mild_claim d _ _ _ i a)
      (λ k. few _ (claim_answers (claim_in d i a (drawn d i a)) b.ctx s.routes b.outcomes 0)) refused_other

  commit_other : (p : Ask) → Other (left (commits p) b d s.routes).answer
  unfolding left commit refused ended played
  commit_other p =
      let rings = drawn d p.interface p.alternate in
      on_mild (λ (x : Left). Other x.answer) _
      (claim_run d b.ctx s.routes b.log b.outcomes p.interface p.alternate rings) refuse (mild_commit d _ _ _ p)
      (λ k. few _ (claim_answers (claim_in d p.interface p.alternate rings) b.ctx s.routes b.outcomes 0)) refused_other

  released_other :
      (i : ℕ) (x : Answer) → released.OneAnswer (release_in d i) s.routes x → Other x
  unfolding release_in number
  released_other i x (inl e) = few x (inl e)
  released_other i x (inr (inl e)) = few x (inr (inl e))
  released_other i x (inr (inr (inl e))) = few x (inr (inr (inr e)))
  released_other i x (inr (inr (inr (e, n)))) =
      absurd
      (n
      (ap (λ y. replaced s.routes y (queues_of (owned_rings (Interface i) (endpoint_map_in d))) []) l.place
      ∙ release_done s.routes slot (endpoint_map_in d) named i))

  release_other : (i : ℕ) → Other (left (releases i) b d s.routes).answer
  unfolding left release refused ended played
  release_other i =
      on_mild (λ (x : Left). Other x.answer) _ (release_run d b.ctx s.routes b.log b.outcomes i) refuse (mild_release d _ _ _ i)
      (λ k. released_other i _ (released.release_answers (release_in d i) s.routes b.outcomes b.ctx 0)) refused_other

  set_other : (value : ℕ) → Other (left (configures value) b d s.routes).answer
  unfolding left set_configuration refused ended played settings_in
  set_other value =
      on_mild (λ (x : Left). Other x.answer) _ (set_run d b.ctx s.routes b.log b.outcomes value) refuse (mild_set d _ _ _)
      (λ k e.
      ((configured.set_answers (settings_in d value) s.routes b.outcomes b.ctx 0).invalid e).1
      (ap (λ y. replaced s.routes y (queues_of (endpoint_map_in d).rings) []) l.place ∙ bare_done s.routes slot (endpoint_map_in d) named))
      refused_other

  hub_other : (ports : ℕ) (multi : Bool) (ns : ℕ) → Other (left (updates_hub ports multi ns) b d s.routes).answer
  unfolding left hub_update refused hub_left hub_course played result
  hub_other ports multi ns =
      on_mild (λ (x : Left). Other x.answer) _
      (hub_left d (hub_context d ports multi ns b.ctx) s.routes (played b.outcomes 0 (hub_course (hub_context d ports multi ns b.ctx)) b.log))
      refuse (mild_hub d _ _ _ ns) (λ k. sent_other (outcome_at b.outcomes 0)) refused_other

  ended_other : (e : End) → Ended d.slot.0 b.ctx s.routes e → Other e.answer
  ended_other e (inl h) = few _ (inl (ap (λ x. x.answer) h))
  ended_other e (inr (inl h)) = few _ (inr (inr (inl (ap (λ x. x.answer) h))))
  ended_other e (inr (inr h)) = few _ (inr (inr (inr (ap (λ x. x.answer) h))))

  disconnect_other : Other (left disconnects b d s.routes).answer
  unfolding left disconnect refused ended played
  disconnect_other =
      on_mild (λ (x : Left). Other x.answer) _ (disconnect_run d b.ctx s.routes b.log b.outcomes) refuse (mild_disconnect d _ _ _)
      (λ k.
      ended_other _
      (disconnect_ends d.slot.0 (queue_dcis (queues_of (endpoint_map_in d).rings)) b.ctx s.routes b.outcomes 0))
      refused_other

  live_other : (asked : Asked) → is_bring_up asked ≡ false → Other (left asked b d s.routes).answer
  unfolding is_bring_up
  live_other (brings_up a) n = not_both true refl n
  live_other (claims i a) n = claim_other i a
  live_other (commits p) n = commit_other p
  live_other (releases i) n = release_other i
  live_other (configures value) n = set_other value
  live_other (updates_hub ports multi ns) n = hub_other ports multi ns
  live_other disconnects n = disconnect_other

pub down_other : (asked : Asked) (b : Buffers) (d : Device) (routes : List ℕ) → Down d → is_bring_up asked ≡ false → Other (left asked b d routes).answer
unfolding refused number
down_other asked b d routes n e =
    by_number _ _ (ap (λ (x : Left). x.answer) (down_refuses asked b d routes n e)) (λ z. omega arith)

good_other :
    (slot : ℕ) (before : List ℕ) (s : State) → Good slot before s → (asked : Asked) (b : Buffers) → is_bring_up asked ≡ false →
    Other (left asked b s.device s.routes).answer
good_other slot before s g asked b e = go g.live
  where
    go : Down s.device ⊎ Live slot s.device s.plain → Other (left asked b s.device s.routes).answer
    go (inl n) = down_other asked b s.device s.routes n e
    go (inr l) = live_other slot before s g l b asked e

-- Wherever the slot stands.
pub stands_other :
    (slot : ℕ) (before : List ℕ) (s : State) → Stands slot before s → (asked : Asked) (b : Buffers) → is_bring_up asked ≡ false →
    Other (left asked b s.device s.routes).answer
stands_other slot before s (inl g) asked b e = good_other slot before s g asked b e
stands_other slot before s (inr (inl g)) asked b e = down_other asked b s.device s.routes g.down e
stands_other slot before s (inr (inr g)) asked b e = down_other asked b s.device s.routes g.down e
