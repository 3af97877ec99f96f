-- What a bring-up says for good, and the configuration value: what the calls make of them.
use Prim.Native.Nat.{ℕ}
use mathlib.Core.Path.{◌≡◌, refl, sym, ◌∙◌, ap}
use mathlib.Core.Bool.{Bool, true, false, cond}
use mathlib.Core.List.{List, []}
use mathlib.Core.Logic.{inl, inr}
use lib.ListN.{length}
use Rattle.laws.proofs.Tests.{not_both}
use Rattle.answer.specs.declared.Answer.{Answer}
use Rattle.answer.specs.declared.Answer.TheVariants as answer
use Rattle.answer.specs.Answer.{number, is_accepted, is_lost}
use Rattle.answer.specs.Check.{Pass}
use Rattle.command.specs.Course.{result, played}
use Rattle.record_endpoint.specs.declared.entry.Endpoints.{Endpoints}
use Rattle.record_endpoint.specs.declared.endpoint_map.EndpointMap.{EndpointMap}
use Rattle.record_endpoint.specs.declared.endpoint_map.Owner.TheVariants.{Any}
use Rattle.record_endpoint.specs.EndpointMap.{queues_of, queue_rings, no_endpoints, with_active}
use Rattle.record_ring.specs.Rings.{entered}
use Rattle.record_settings.specs.Held.{Held}
use Rattle.course_steps.specs.End.{End}
use Rattle.course_set_configuration.specs.SetConfiguration.{Settings, set_course}
use Rattle.course_set_configuration.proofs.Laws.{OneAnswer, Answered, set_answers}
use Rattle.device.specs.declared.record.Device.{Device}
use Rattle.device.specs.Device.{endpoint_map_in, quarantined_of, Same, Status, HeldArrays, keep, put, rebuilt, lost, valued, control_revoked, gone, endpoint_arrays, setting_arrays, ring_array, unusable, with_configuration, with_endpoints, with_held, with_quarantined, quarantines}
use Rattle.device.specs.Left.{Left, refused, marked, ended}
use Rattle.device.specs.Calls.{hub_left, hub_update}
use Rattle.device.specs.Check.{record_check}
use Rattle.device.specs.Claim.{claim_record, claim}
use Rattle.device.specs.Ask.{commit}
use Rattle.device.specs.Release.{release_record, release}
use Rattle.device.specs.SetConfiguration.{settings_in, bare, ended_by, set_record, set_run, set_configuration}
use Rattle.device.specs.Disconnect.{all_revoked, unplugged, disconnect_record, disconnect}
use Rattle.device.proofs.Updates.{same_self, same_then, rebuilt_same}
use Rattle.theorem_slot.specs.Call.{Buffers, Asked, brings_up, claims, commits, releases, configures, updates_hub, disconnects, left}
use Rattle.theorem_slot.specs.Answers.{is_refused, is_bring_up}
use Rattle.theorem_slot.proofs.Step.{on_mild, refused_mild, mild_claim, mild_commit, mild_release, mild_set, mild_hub, mild_disconnect}
use Rattle.theorem_calls.specs.Changes.{FixedKept, value_after, ValueKept}

-- A record that says for good what d does, with this value.
pub record Framed (d : Device) (v : Bool × ℕ) (e : Device) : Type 0 where
  pub same : Same d e
  pub value : (e.configured, e.current_config_value) ≡ v

abbrev pub value_of : Device → Bool × ℕ
value_of d = (d.configured, d.current_config_value)

framed_self : (d : Device) → Framed d (value_of d) d
framed_self d = record { same = same_self d; value = refl }

abbrev status_value : Status → Bool × ℕ
status_value t = (t.configured, t.value)

-- The other parts may become anything.
module _ (d e : Device) (v : Bool × ℕ) (f : Framed d v e) where
  framed_rebuilt :
      (status : Status → Status) (endpoints : Endpoints → Endpoints) (settings : HeldArrays → HeldArrays) (quarantine : List ℕ × ℕ → List ℕ × ℕ) →
      ((t : Status) → status_value (status t) ≡ status_value t) →
      Framed d v (rebuilt keep status endpoints settings quarantine e)
  unfolding rebuilt
  framed_rebuilt status endpoints settings quarantine h =
      record { same = same_then d e _ f.same (rebuilt_same status endpoints settings quarantine e); value = h _ ∙ f.value }

  framed_endpoints : (c : EndpointMap) → Framed d v (with_endpoints c e)
  unfolding with_endpoints
  framed_endpoints c = framed_rebuilt keep (put (endpoint_arrays c)) keep keep (λ t. refl)

  framed_held : (hs : List Held) → Framed d v (with_held hs e)
  unfolding with_held
  framed_held hs = framed_rebuilt keep keep (put (setting_arrays hs)) keep (λ t. refl)

  framed_quarantined : (rings : List ℕ) → Framed d v (with_quarantined rings e)
  unfolding with_quarantined
  framed_quarantined rings = framed_rebuilt keep keep keep (put (ring_array (entered (quarantined_of e) rings))) (λ t. refl)

  framed_unusable : Framed d v (unusable e)
  unfolding unusable
  framed_unusable = framed_rebuilt lost keep keep keep (λ t. refl)

  framed_revoked : Framed d v (all_revoked e)
  unfolding all_revoked
  framed_revoked = framed_rebuilt control_revoked (put (endpoint_arrays (with_active Any 0 (endpoint_map_in e)))) keep keep (λ t. refl)

  framed_unplugged : Framed d v (unplugged e)
  unfolding unplugged
  framed_unplugged = framed_rebuilt gone (put (endpoint_arrays no_endpoints)) (put (setting_arrays [])) keep (λ t. refl)

  framed_valued : (value : ℕ) → Framed d (true, value) (with_configuration value e)
  unfolding with_configuration
  framed_valued value = record { same = same_then d e _ f.same (rebuilt_same (valued value) keep keep keep e); value = refl }

framed_cond : {d x y : Device} {v : Bool × ℕ} (b : Bool) → Framed d v x → Framed d v y → Framed d v (cond b x y)
framed_cond true f g = f
framed_cond false f g = g

framed_marked : (d e : Device) (v : Bool × ℕ) (a : Answer) → Framed d v e → Framed d v (marked a e)
unfolding marked
framed_marked d e v a f = framed_cond (is_lost a) (framed_unusable d e v f) f

framed_quarantines : (d e : Device) (v : Bool × ℕ) (b : Bool) (rings : List ℕ) → Framed d v e → Framed d v (quarantines b rings e)
unfolding quarantines
framed_quarantines d e v b rings f = framed_cond b (framed_quarantined d e v f rings) f

module _ (d : Device) where
  abbrev v : Bool × ℕ
  v = value_of d

  self : (c : EndpointMap) → Framed d v (with_endpoints c d)
  self c = framed_endpoints d d v (framed_self d) c

  claim_framed : (i a : ℕ) (rings : List ℕ) (e : End) → Framed d v (claim_record d i a rings e)
  unfolding claim_record
  claim_framed i a rings e =
      framed_marked d _ v e.answer
      (framed_cond e.moved (framed_held d _ v (self _) _) (framed_quarantines d _ v _ _ (self _)))

  release_framed : (i : ℕ) (e : End) → Framed d v (release_record d i e)
  unfolding release_record
  release_framed i e = framed_marked d _ v e.answer (framed_cond e.moved (framed_held d _ v (self _) _) (self _))

  bare_framed : Framed d v (bare d)
  unfolding bare
  bare_framed = framed_held d _ v (self _) _

  set_framed : (value : ℕ) (e : End) → (is_accepted e.answer ≡ true → e.moved ≡ true) →
      Framed d (cond (is_accepted e.answer) (true, value) v) (set_record d value e)
  unfolding set_record ended_by
  set_framed value e m = framed_marked d _ _ e.answer (go e.moved (is_accepted e.answer) m)
    where
      go :
          (b accepted : Bool) → (accepted ≡ true → b ≡ true) →
          Framed d (cond accepted (true, value) v)
          (cond b (cond accepted (with_configuration value (bare d)) (quarantines (is_lost e.answer) (queue_rings (queues_of (endpoint_map_in d).rings)) (bare d)))
          (with_endpoints (with_active Any e.active (endpoint_map_in d)) d))
      go true true n = framed_valued d (bare d) v bare_framed value
      go true false n = framed_quarantines d (bare d) v _ _ bare_framed
      go false true n = not_both false (n refl) refl
      go false false n = self _

  disconnect_framed : (e : End) → Framed d v (disconnect_record d e)
  unfolding disconnect_record
  disconnect_framed e =
      framed_cond e.moved (framed_unplugged d d v (framed_self d))
      (framed_marked d _ v e.answer (framed_quarantines d _ v _ _ (framed_revoked d d v (framed_self d))))

-- An accepted set configuration has moved its settings.
accepted_moves : (a : Settings) (routes : List ℕ) (e : End) → Answered a routes e → is_accepted e.answer ≡ true → e.moved ≡ true
unfolding number
accepted_moves a routes e w t = go w.only
  where
    other : (x : Answer) → e.answer ≡ x → is_accepted x ≡ false → e.moved ≡ true
    other x q n = not_both (is_accepted x) (sym (ap is_accepted q) ∙ t) n

    go : OneAnswer e.answer → e.moved ≡ true
    go (inl q) = w.accepted q
    go (inr (inl (code, q))) = other (answer.Failed code) q refl
    go (inr (inr (inl q))) = other answer.InterfaceBroken q refl
    go (inr (inr (inr (inl q)))) = other answer.Cut q refl
    go (inr (inr (inr (inr q)))) = other answer.InvalidEndpoint q refl

value_refused : (asked : Asked) (a : Answer) (v : Bool × ℕ) → is_accepted a ≡ false → value_after asked a v ≡ v
unfolding value_after
value_refused (brings_up b) a v n = refl
value_refused (claims i w) a v n = refl
value_refused (commits p) a v n = refl
value_refused (releases i) a v n = refl
value_refused (configures value) a v n = rw n refl
value_refused (updates_hub ports multi ns) a v n = refl
value_refused disconnects a v n = refl

module _ (b : Buffers) (d : Device) (routes : List ℕ) where
  Says : Asked → Left → Type 0
  Says asked l = Framed d (value_after asked l.answer (value_of d)) l.device

  refuses : (asked : Asked) (a : Answer) → is_refused a ≡ true → Says asked (refused d a b.ctx routes b.log)
  unfolding Says refused
  refuses asked a r = rw (value_refused asked a (value_of d) (refused_mild a r).0) (framed_self d)

  each : (a : Asked) → is_bring_up a ≡ false → Says a (left a b d routes)
  unfolding Says value_after is_bring_up left claim commit release set_configuration hub_update disconnect ended hub_left played
  each (brings_up a) n = not_both true refl n
  each (claims i a) n =
      on_mild (Says (claims i a)) _ _ _ (mild_claim d _ _ _ i a) (λ e. claim_framed d i a _ _) (refuses (claims i a))
  each (commits p) n =
      on_mild (Says (commits p)) _ _ _ (mild_commit d _ _ _ p) (λ e. claim_framed d p.interface p.alternate _ _) (refuses (commits p))
  each (releases i) n =
      on_mild (Says (releases i)) _ _ _ (mild_release d _ _ _ i) (λ e. release_framed d i _) (refuses (releases i))
  each (configures value) n =
      on_mild (Says (configures value)) (record_check d (length b.ctx) (length routes) (length b.log) Pass)
      (set_run d b.ctx routes b.log b.outcomes value) (λ x. refused d x b.ctx routes b.log) (mild_set d _ _ _)
      (λ e.
      set_framed d value (result b.outcomes 0 (set_course (settings_in d value) b.ctx routes))
      (accepted_moves (settings_in d value) routes _ (set_answers (settings_in d value) routes b.outcomes b.ctx 0)))
      (refuses (configures value))
  each (updates_hub ports multi ns) n =
      on_mild (Says (updates_hub ports multi ns)) _ _ _ (mild_hub d _ _ _ ns)
      (λ e. framed_marked d d (value_of d) _ (framed_self d)) (refuses (updates_hub ports multi ns))
  each disconnects n =
      on_mild (Says disconnects) _ _ _ (mild_disconnect d _ _ _) (λ e. disconnect_framed d _) (refuses disconnects)

pub fixed_kept : FixedKept
unfolding Says
fixed_kept c d routes n = (each c.buffers d routes c.asked n).same

pub value_kept : ValueKept
unfolding Says
value_kept c d routes n = (each c.buffers d routes c.asked n).value
