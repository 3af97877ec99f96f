-- Which answers a call may give.
use Rattle.std.proofs.Common.{Ok, Err, Option, Some, None}
use Prim.Native.Nat.{ℕ, zero, suc, ◌+◌, ◌*◌}
use mathlib.Core.Path.{◌≡◌, refl}
use mathlib.Core.Bool.{Bool, true, false, cond, ◌&&◌, ◌||◌}
use mathlib.Core.List.{List, []}
use mathlib.Core.Logic.{◌⊎◌, inl, inr}
use lib.Dec.{eqb, leb}
use lib.ListN.{length}
use Rattle.laws.specs.Distinct.{elem}
use Rattle.def.specs.Speed.{HIGH, speed_known, exponent_ok}
use Rattle.descriptor_list.specs.Valid.{configurations}
use Rattle.descriptor_list.specs.Companions.{list_ok, companions_fit}
use Rattle.descriptor_list.specs.Lookup.{find_endpoints}
use Rattle.hub.specs.Chain.{chain_ok}
use Rattle.hub.specs.ThinkTime.{think_time}
use Rattle.answer.specs.declared.Answer.{Answer}
use Rattle.answer.specs.declared.Answer.TheVariants as answer
use Rattle.answer.specs.Check.{Check, Pass, unless}
use Rattle.answer.specs.Answer.{number}
use Rattle.command.specs.declared.Command.{Command}
use Rattle.command.specs.declared.Sent.{Sent}
use Rattle.command.specs.declared.Sent.TheVariants.{Done, Failed, Cut}
use Rattle.command.specs.Command.{outcome_at}
use Rattle.command.specs.Course.{Course, ends, result, played}
use Rattle.command.proofs.Cuts.{each_outcome}
use Rattle.command.proofs.Laws.{result_then}
use Rattle.record_ring.specs.Store.{given_ok}
use Rattle.record_settings.specs.Held.{is_held, is_found, setting_words}
use Rattle.record_settings.specs.Match.{addresses_free}
use Rattle.record_checks.specs.Think.{is_thought}
use Rattle.record_endpoint.specs.EndpointMap.{queues_of, queue_dcis}
use Rattle.transfer.specs.Routes.{route_of, with_route, old_match, new_free, replaced}
use Rattle.context.specs.Place.{spacing_of}
use Rattle.course_steps.specs.End.{End, answer_of}
use Rattle.course_claim.proofs.Laws.{Refused, claim_answers}
use Rattle.course_release.specs.Release.{Release}
use Rattle.course_release.proofs.Laws.{release_answers}
use Rattle.course_release.proofs.Laws as release-laws
use Rattle.course_set_configuration.proofs.Laws.{OneAnswer, set_answers}
use Rattle.course_disconnect.proofs.Ends.{Ended, disconnect_ends}
use Rattle.course_init.specs.Reading.{BringUp, Reading, Brought, control_ring}
use Rattle.course_init.specs.Init.{step, bring_up_settings, bring_up_set, bring_up_configs, bring_up_device, bring_up_configuration, bring_up_packet, bring_up_header, bring_up_address}
use Rattle.device.specs.declared.record.Device.{Device}
use Rattle.device.specs.Device.{endpoint_map_in, list_of, held_of, free_of}
use Rattle.device.specs.Sound.{sound}
use Rattle.device.specs.Left.{Left, refused, ended}
use Rattle.device.specs.Calls.{on_check, hub_course, hub_left, hub_update}
use Rattle.device.specs.Check.{check_marked, record_check, disconnect_check, hub_check}
use Rattle.device.specs.Claim.{claim_check, drawn, claim_in, claim}
use Rattle.device.specs.Ask.{Ask, ask_of, ask_check, same_ask, current_check, commit}
use Rattle.device.specs.Release.{release_check, release_in, release}
use Rattle.device.specs.SetConfiguration.{settings_in, set_configuration}
use Rattle.device.specs.Disconnect.{disconnect}
use Rattle.device_bring_up.specs.BringUp.{slot_check, device_check, queue_check, bring_up_check, bring_up_course, brought_left, bring_up}
use Rattle.theorem_slot.specs.Call.{Buffers, Asked, brings_up, claims, commits, releases, configures, updates_hub, disconnects, left}
use Rattle.theorem_calls.specs.Possible.{answers_of, OnlyThese}

-- Where there is nothing to move, the routes allow it.
pub none_moved : (routes : List ℕ) (slot : ℕ) → replaced routes slot [] [] ≡ Ok tt
unfolding replaced old_match new_free
none_moved routes slot = refl

module _ (ns : List ℕ) where
  abbrev Among : Answer → Type 0
  Among a = elem (number a) ns ≡ true

  -- A check that refuses with these only.
  unfoldable pub Listed : Check → Type 0
  Listed (Ok _) = Unit {0}
  Listed (Err a) = Among a

  pub on_listed : (k : Check) (run : Left) (refuse : Answer → Left) → Listed k → ((a : Answer) → (refuse a).answer ≡ a) → Among run.answer →
      Among (on_check k run refuse).answer
  unfolding Listed on_check
  on_listed (Ok _) run refuse m q r = r
  on_listed (Err a) run refuse m q r = rw (q a) m

  listed_unless : (b : Bool) (a : Answer) (next : Check) → Among a → Listed next → Listed (unless b a next)
  unfolding Listed
  listed_unless true a next m n = n
  listed_unless false a next m n = m

  listed_pass : Listed Pass
  unfolding Listed
  listed_pass = tt

  -- 12, 1, 2 and 3.
  pub record Lengths : Type 0 where
    pub unusable : Among answer.Unusable
    pub ctx : Among answer.ContextLength
    pub routes : Among answer.RoutesLength
    pub log : Among answer.LogTooShort

  listed_marked : Lengths → (mark : Bool) (d : Device) (ctx routes log : ℕ) (next : Check) → Listed next → Listed (check_marked mark d ctx routes log next)
  unfolding check_marked
  listed_marked m mark d ctx routes log next n =
      listed_unless (mark && sound d) answer.Unusable _ m.unusable
      (listed_unless (eqb ctx (33 * d.spacing)) answer.ContextLength _ m.ctx
      (listed_unless (eqb routes (32 * (d.max_slots + 1))) answer.RoutesLength _ m.routes
      (listed_unless (leb 64 log) answer.LogTooShort _ m.log n)))

  pub listed_record : Lengths → (d : Device) (ctx routes log : ℕ) (next : Check) → Listed next → Listed (record_check d ctx routes log next)
  unfolding record_check
  listed_record m d ctx routes log next n = listed_marked m d.usable d ctx routes log next n

  pub listed_disconnect : Lengths → (d : Device) (ctx routes log : ℕ) → Listed (disconnect_check d ctx routes log)
  unfolding disconnect_check
  listed_disconnect m d ctx routes log = listed_marked m d.up d ctx routes log Pass listed_pass

  listed_thought : Among answer.ThinkTime → (t : Option ℕ) → Listed (is_thought t)
  unfolding is_thought Listed
  listed_thought m (Some v) = tt
  listed_thought m None = m

  pub listed_hub : Among answer.ThinkTime → (d : Device) (n : ℕ) → Listed (hub_check d n)
  unfolding hub_check
  listed_hub m d n = go (eqb d.port_speed HIGH)
    where
      go : (b : Bool) → Listed (cond b (is_thought (think_time n)) Pass)
      go true = listed_thought m (think_time n)
      go false = listed_pass

  pub listed_draw :
      Among answer.NotFound → Among answer.InvalidParameter → Among answer.TooFewRings → (d : Device) (i a : ℕ) (next : Check) →
      Listed next → Listed (claim_check d i a next)
  unfolding claim_check
  listed_draw f p r d i a next m =
      let ws = setting_words (list_of d) i a in
      listed_unless (is_found (find_endpoints (list_of d) i a)) answer.NotFound _ f
      (listed_unless (addresses_free ws i (endpoint_map_in d)) answer.InvalidParameter _ p
      (listed_unless (leb (length ws) (length (free_of d))) answer.TooFewRings _ r m))

  pub listed_current : Among answer.OutdatedAsk → (d : Device) (p : Ask) → Listed (current_check d p)
  unfolding current_check
  listed_current m d p = listed_unless (same_ask p (ask_of d p.interface p.alternate)) answer.OutdatedAsk _ m listed_pass

  pub listed_release : Among answer.NotClaimed → (d : Device) (i : ℕ) → Listed (release_check d i)
  unfolding release_check
  listed_release m d i = listed_unless (is_held i (held_of d)) answer.NotClaimed _ m listed_pass

  -- Of a course's end.
  pub record Ends : Type 0 where
    pub accepted : Among answer.Accepted
    pub failed : (code : ℕ) → Among (answer.Failed code)
    pub cut : Among answer.Cut

  listed_claim : Ends → Among answer.InterfaceBroken → (x : Answer) → (x ≡ answer.Accepted) ⊎ Refused x → Among x
  listed_claim m b x (inl q) = rw q m.accepted
  listed_claim m b x (inr (inl (code, q))) = rw q (m.failed code)
  listed_claim m b x (inr (inr (inl q))) = rw q b
  listed_claim m b x (inr (inr (inr q))) = rw q m.cut

  listed_released :
      Ends → Among answer.InvalidEndpoint → (a : Release) (routes : List ℕ) (x : Answer) → release-laws.OneAnswer a routes x → Among x
  listed_released m v a routes x (inl q) = rw q m.accepted
  listed_released m v a routes x (inr (inl (code, q))) = rw q (m.failed code)
  listed_released m v a routes x (inr (inr (inl q))) = rw q m.cut
  listed_released m v a routes x (inr (inr (inr (q, n)))) = rw q v

  -- 18 only where the routes do not allow it
  listed_set : Ends → Among answer.InterfaceBroken → (x : Answer) → (x ≡ answer.InvalidEndpoint → Among answer.InvalidEndpoint) → OneAnswer x → Among x
  listed_set m b x v (inl q) = rw q m.accepted
  listed_set m b x v (inr (inl (code, q))) = rw q (m.failed code)
  listed_set m b x v (inr (inr (inl q))) = rw q b
  listed_set m b x v (inr (inr (inr (inl q)))) = rw q m.cut
  listed_set m b x v (inr (inr (inr (inr q)))) = rw q (v q)

  listed_disabled :
      Among answer.Accepted → Among answer.InterfaceBroken → Among answer.Cut → (slot : ℕ) (ctx routes : List ℕ) (e : End) →
      Ended slot ctx routes e → Among e.answer
  listed_disabled a b c slot ctx routes e (inl v) = rw v a
  listed_disabled a b c slot ctx routes e (inr (inl v)) = rw v b
  listed_disabled a b c slot ctx routes e (inr (inr v)) = rw v c

  listed_sent : Ends → (s : Sent) → Among (answer_of s)
  unfolding answer_of
  listed_sent m Done = m.accepted
  listed_sent m (Failed code) = m.failed code
  listed_sent m Cut = m.cut

  -- Bring-up: 18 comes to none, for it has no routes to take out.
  module _ (m : Ends) (b : Among answer.InterfaceBroken) (o : List ℕ) where
    pub AmongEnds : Course Brought → Type 0
    AmongEnds c = (n : ℕ) → Among (result o n c).answer

    step_listed : (c : Command) (read : Reading) (ctx routes : List ℕ) (next : Course Brought) → AmongEnds next →
        AmongEnds (step c read ctx routes next)
    unfolding AmongEnds result step
    step_listed c read ctx routes next t n =
        each_outcome (λ (x : Course Brought). Among (result o (n + 1) x).answer) _ _ _ (t (n + 1)) (λ code. m.failed code) m.cut (outcome_at o n)

    module _ (a : BringUp) (spacing : ℕ) (routes : List ℕ) where
      set_listed : (ctx : List ℕ) → AmongEnds (bring_up_set a spacing ctx routes)
      unfolding AmongEnds result bring_up_set bring_up_settings
      set_listed ctx n =
          let s = bring_up_settings a spacing in
          let w = set_answers s routes o ctx n in
          rw result_then (listed_set m b _ (λ q. absurd ((w.invalid q).1 (none_moved routes a.slot))) w.only)

      configs_listed : (k i : ℕ) (ctx : List ℕ) → AmongEnds (bring_up_configs a spacing k i ctx routes)
      unfolding bring_up_configs
      configs_listed zero i ctx = set_listed ctx
      configs_listed (suc k) i ctx = step_listed _ _ ctx routes _ (configs_listed k (i + 1) ctx)

      either : (t : Bool) (x y : Course Brought) → AmongEnds x → AmongEnds y → AmongEnds (cond t x y)
      either true x y f g = f
      either false x y f g = g

      ended_listed : (x : Brought) → Among x.answer → AmongEnds (ends x)
      unfolding AmongEnds result
      ended_listed x q n = q

      packet_listed : (ctx : List ℕ) → AmongEnds (bring_up_packet a spacing ctx routes)
      unfolding bring_up_packet bring_up_configuration bring_up_device
      packet_listed ctx =
          step_listed _ _ _ routes _
          (step_listed _ _ _ routes _
          (step_listed _ _ _ routes _ (either (eqb (length a.list) 0) _ _ (ended_listed _ m.accepted) (configs_listed (configurations a.list) 0 _))))

      pub bring_up_listed : Among answer.ShortHeader → Among answer.PacketExponent → (ctx : List ℕ) → AmongEnds (bring_up_address a spacing ctx routes)
      unfolding bring_up_address bring_up_header
      bring_up_listed h x ctx =
          step_listed _ _ _ routes _
          (step_listed _ _ _ routes _
          (either (eqb a.header 8) _ _ (either (exponent_ok a.speed a.packet) _ _ (packet_listed _) (ended_listed _ x)) (ended_listed _ h)))

  pub record BringUpChecks : Type 0 where
    pub slot : Among answer.SlotLimitReached
    pub ctx : Among answer.ContextLength
    pub routes : Among answer.RoutesLength
    pub log : Among answer.LogTooShort
    pub speed : Among answer.Speed
    pub list : Among answer.DescriptorList
    pub companion : Among answer.Companion
    pub chain : Among answer.HubChain
    pub rings : Among answer.Rings
    pub queue : Among answer.QueueFull

  pub listed_bring_up : BringUpChecks → (a : BringUp) (ctx : ℕ) (routes : List ℕ) (log : ℕ) → Listed (bring_up_check a ctx routes log)
  unfolding bring_up_check slot_check device_check queue_check
  listed_bring_up m a ctx routes log =
      listed_unless (leb 1 a.slot && (leb a.slot a.max_slots && leb a.max_slots 255)) answer.SlotLimitReached _ m.slot
      (listed_unless (eqb ctx 1056 || eqb ctx 2112) answer.ContextLength _ m.ctx
      (listed_unless (eqb (length routes) (32 * (a.max_slots + 1))) answer.RoutesLength _ m.routes
      (listed_unless (leb 64 log) answer.LogTooShort _ m.log
      (listed_unless (speed_known a.speed) answer.Speed _ m.speed
      (listed_unless (list_ok a.speed a.list) answer.DescriptorList _ m.list
      (listed_unless (companions_fit a.speed a.list) answer.Companion _ m.companion
      (listed_unless (chain_ok a.hubs a.parent) answer.HubChain _ m.chain
      (listed_unless (given_ok a.rings) answer.Rings _ m.rings
      (listed_unless (eqb (route_of routes a.slot 1) 0) answer.QueueFull Pass m.queue listed_pass)))))))))

module _ (b : Buffers) (d : Device) (routes : List ℕ) where
  AmongThese : Asked → Type 0
  AmongThese a = elem (number (left a b d routes).answer) (answers_of a) ≡ true

  each : (a : Asked) → AmongThese a
  unfolding AmongThese AmongEnds answers_of elem number left claim commit release set_configuration hub_update disconnect bring_up ended hub_left brought_left bring_up_course hub_course refused ask_check played result
  each (brings_up a) =
      let ns = answers_of (brings_up a) in
      on_listed ns (bring_up_check a (length b.ctx) routes (length b.log)) _ _
      (listed_bring_up ns
      (record { slot = refl; ctx = refl; routes = refl; log = refl; speed = refl; list = refl; companion = refl; chain = refl; rings = refl; queue = refl })
      a (length b.ctx) routes (length b.log))
      (λ x. refl)
      (bring_up_listed ns (record { accepted = refl; failed = λ code. refl; cut = refl }) refl b.outcomes a (spacing_of (length b.ctx))
      (with_route routes a.slot 1 (control_ring a)) refl refl b.ctx 0)
  each (claims i a) =
      let ns = answers_of (claims i a) in
      on_listed ns _ _ _
      (listed_record ns (record { unusable = refl; ctx = refl; routes = refl; log = refl }) d (length b.ctx) (length routes) (length b.log) _
      (listed_draw ns refl refl refl d i a Pass (listed_pass ns)))
      (λ x. refl)
      (listed_claim ns (record { accepted = refl; failed = λ code. refl; cut = refl }) refl _
      (claim_answers (claim_in d i a (drawn d i a)) b.ctx routes b.outcomes 0))
  each (commits p) =
      let ns = answers_of (commits p) in
      let i = p.interface in
      let a = p.alternate in
      on_listed ns _ _ _
      (listed_record ns (record { unusable = refl; ctx = refl; routes = refl; log = refl }) d (length b.ctx) (length routes) (length b.log) _
      (listed_draw ns refl refl refl d i a _ (listed_current ns refl d p)))
      (λ x. refl)
      (listed_claim ns (record { accepted = refl; failed = λ code. refl; cut = refl }) refl _
      (claim_answers (claim_in d i a (drawn d i a)) b.ctx routes b.outcomes 0))
  each (releases i) =
      let ns = answers_of (releases i) in
      on_listed ns _ _ _
      (listed_record ns (record { unusable = refl; ctx = refl; routes = refl; log = refl }) d (length b.ctx) (length routes) (length b.log) _
      (listed_release ns refl d i))
      (λ x. refl)
      (listed_released ns (record { accepted = refl; failed = λ code. refl; cut = refl }) refl (release_in d i) routes _
      (release_answers (release_in d i) routes b.outcomes b.ctx 0))
  each (configures value) =
      let ns = answers_of (configures value) in
      on_listed ns _ _ _
      (listed_record ns (record { unusable = refl; ctx = refl; routes = refl; log = refl }) d (length b.ctx) (length routes) (length b.log) _
      (listed_pass ns))
      (λ x. refl)
      (listed_set ns (record { accepted = refl; failed = λ code. refl; cut = refl }) refl _ (λ q. refl)
      (set_answers (settings_in d value) routes b.outcomes b.ctx 0).only)
  each (updates_hub ports multi n) =
      let ns = answers_of (updates_hub ports multi n) in
      on_listed ns _ _ _
      (listed_record ns (record { unusable = refl; ctx = refl; routes = refl; log = refl }) d (length b.ctx) (length routes) (length b.log) _
      (listed_hub ns refl d n))
      (λ x. refl)
      (listed_sent ns (record { accepted = refl; failed = λ code. refl; cut = refl }) (outcome_at b.outcomes 0))
  each disconnects =
      let ns = answers_of disconnects in
      let dcis = queue_dcis (queues_of (endpoint_map_in d).rings) in
      on_listed ns _ _ _
      (listed_disconnect ns (record { unusable = refl; ctx = refl; routes = refl; log = refl }) d (length b.ctx) (length routes) (length b.log))
      (λ x. refl)
      (listed_disabled ns refl refl refl d.slot.0 b.ctx routes _ (disconnect_ends d.slot.0 dcis b.ctx routes b.outcomes 0))

pub only_these : OnlyThese
unfolding AmongThese
only_these c d routes = each c.buffers d routes c.asked
