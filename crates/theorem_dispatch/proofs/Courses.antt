-- The courses of the calls, over tables that the slot cannot tell apart.
use Prim.Native.Nat.{ℕ, zero, suc, ◌+◌}
use mathlib.Core.Path.{◌≡◌, refl}
use mathlib.Core.Bool.{Bool, true, false, cond}
use mathlib.Core.List.{List, []}
use Rattle.std.proofs.Common.{Result, Ok, Err, is_some}
use lib.Dec.{eqb}
use lib.ListN.{length}
use Rattle.def.specs.Speed.{exponent_ok}
use Rattle.descriptor_list.specs.Valid.{configurations}
use Rattle.answer.specs.declared.Answer.{Answer}
use Rattle.answer.specs.declared.Answer.TheVariants as answer
use Rattle.answer.specs.Answer.{is_accepted}
use Rattle.command.specs.declared.Command.{Command}
use Rattle.command.specs.declared.Sent.{Sent}
use Rattle.command.specs.declared.Sent.TheVariants.{Done, Failed, Cut}
use Rattle.command.specs.Course.{Course, ends, on_sent}
use Rattle.transfer.specs.declared.RouteError.{RouteError}
use Rattle.transfer.specs.Routes.{Queue, replaced, without_slot, Small}
use Rattle.course_steps.specs.End.{End, settings_kept, settings_moved, settings_marked, published, move_routes}
use Rattle.course_claim.specs.Claim.{Claim, claim_publish, claim_switch_back, claim_undone, claim_undo, claim_switch, claim_resume, claim_configure, claim_course}
use Rattle.course_release.specs.Release.{Release, release_publish, release_resume, release_configure, release_course}
use Rattle.course_set_configuration.specs.SetConfiguration.{Settings, set_evaluate, set_published, set_publish, set_restored, set_restore, set_switch, set_resume, set_configure, set_course}
use Rattle.course_disconnect.specs.Disconnect.{disable, disconnect_course}
use Rattle.course_init.specs.Reading.{BringUp, Reading, Brought, brought}
use Rattle.course_init.specs.Init.{step, bring_up_settings, bring_up_set, bring_up_configs, bring_up_device, bring_up_configuration, bring_up_packet, bring_up_header, bring_up_address}
use Rattle.theorem_dispatch.specs.Isolation.{SameWords}
use Rattle.theorem_dispatch.proofs.Alike.{Alike, both_end, both_send, alike_on, alike_then, alike_both}
use Rattle.theorem_dispatch.proofs.Tables.{same_answer, same_replaced, same_without}

-- Two ends that differ in the table alone.
pub record SameEnd (slot : ℕ) (e f : End) : Type 0 where
  pub others : f ≡ record e { routes = f.routes }
  pub routes : SameWords slot e.routes f.routes

module _ (slot : ℕ) (t u : List ℕ) (s : SameWords slot t u) where
  kept_end : (x : Answer) (n : ℕ) (b : Bool) (ctx : List ℕ) → SameEnd slot (settings_marked x n b ctx t) (settings_marked x n b ctx u)
  kept_end x n b ctx = record { others = refl; routes = s }

  moved_end : (x : Answer) (ctx : List ℕ) → SameEnd slot (settings_moved x ctx t) (settings_moved x ctx u)
  moved_end x ctx = record { others = refl; routes = s }

  kept : (x : Answer) (n : ℕ) (b : Bool) (ctx : List ℕ) →
      Alike (SameEnd slot) (ends (settings_marked x n b ctx t)) (ends (settings_marked x n b ctx u))
  kept x n b ctx = both_end (kept_end x n b ctx)

  moved : (x : Answer) (ctx : List ℕ) → Alike (SameEnd slot) (ends (settings_moved x ctx t)) (ends (settings_moved x ctx u))
  moved x ctx = both_end (moved_end x ctx)

-- Routes moved.
module _ (slot : ℕ) (old new : List Queue) (a : Small old) (b : Small new) (t u : List ℕ) (s : SameWords slot t u) where
  published_as : (r : Result Unit RouteError) (x : Answer) (m : Bool) (ctx : List ℕ) →
      SameEnd slot (published r x m slot old new ctx t) (published r x m slot old new ctx u)
  unfolding published
  published_as (Ok _) x m ctx = moved_end slot _ _ (same_replaced slot t u old new a b s) _ ctx
  published_as (Err _) x m ctx = kept_end slot t u s x 0 m ctx

  moves : (x : Answer) (m : Bool) (ctx : List ℕ) →
      Alike (SameEnd slot) (ends (move_routes x m slot old new ctx t)) (ends (move_routes x m slot old new ctx u))
  moves x m ctx = rw (same_answer slot t u old new a b s) (both_end (published_as (replaced t slot old new) x m ctx))

-- A claim.
module _ (a : Claim) (t u : List ℕ) (old : Small a.old) (new : Small a.pending) (s : SameWords a.args.slot.0 t u) where
  abbrev slot : ℕ
  slot = a.args.slot.0

  publish : (ctx : List ℕ) → Alike (SameEnd slot) (claim_publish a ctx t) (claim_publish a ctx u)
  unfolding claim_publish
  publish ctx = moves slot a.old a.pending old new t u s _ _ ctx

  switch_back : (code : ℕ) (ctx : List ℕ) → Alike (SameEnd slot) (claim_switch_back a code ctx t) (claim_switch_back a code ctx u)
  unfolding claim_switch_back
  switch_back code ctx = both_send (alike_on (SameEnd slot) _ _ _ _ _ _ (kept slot t u s _ _ _ ctx) (λ k. kept slot t u s _ _ _ ctx) (kept slot t u s _ _ _ ctx))

  undone : (held : Bool) (code : ℕ) (ctx : List ℕ) →
      Alike (SameEnd slot) (cond held (claim_switch_back a code ctx t) (ends (settings_kept (answer.Failed code) (length a.old) ctx t)))
      (cond held (claim_switch_back a code ctx u) (ends (settings_kept (answer.Failed code) (length a.old) ctx u)))
  undone true code ctx = switch_back code ctx
  undone false code ctx = kept slot t u s _ _ _ ctx

  undo : (code : ℕ) (ctx : List ℕ) → Alike (SameEnd slot) (claim_undo a code ctx t) (claim_undo a code ctx u)
  unfolding claim_undo claim_undone
  undo code ctx =
      both_send
      (alike_on (SameEnd slot) _ _ _ _ _ _ (undone (is_some a.args.held_alternate) code _) (λ k. kept slot t u s _ _ _ _) (kept slot t u s _ _ _ _))

  switch : (ctx : List ℕ) → Alike (SameEnd slot) (claim_switch a ctx t) (claim_switch a ctx u)
  unfolding claim_switch
  switch ctx = both_send (alike_on (SameEnd slot) _ _ _ _ _ _ (publish ctx) (λ k. undo k ctx) (kept slot t u s _ _ _ ctx))

  resume : (code : ℕ) (ctx : List ℕ) → Alike (SameEnd slot) (claim_resume a code ctx t) (claim_resume a code ctx u)
  unfolding claim_resume
  resume code ctx = alike_then (SameEnd slot) _ _ _ (λ r. kept slot t u s _ _ _ ctx)

  configure : (ctx : List ℕ) → Alike (SameEnd slot) (claim_configure a ctx t) (claim_configure a ctx u)
  unfolding claim_configure
  configure ctx = both_send (alike_on (SameEnd slot) _ _ _ _ _ _ (switch _) (λ k. resume k _) (kept slot t u s _ _ _ _))

  pub claim_alike : (ctx : List ℕ) → Alike (SameEnd slot) (claim_course a ctx t) (claim_course a ctx u)
  unfolding claim_course
  claim_alike ctx =
      alike_then (SameEnd slot) _ _ _
      (λ r. alike_on (SameEnd slot) _ _ _ _ _ _ (configure ctx) (λ k. kept slot t u s _ _ _ ctx) (kept slot t u s _ _ _ ctx) r.sent)

-- A release.
none_small : Small []
unfolding Small
none_small = tt

module _ (a : Release) (t u : List ℕ) (old : Small a.old) (s : SameWords a.slot t u) where
  release_publishes : (ctx : List ℕ) → Alike (SameEnd a.slot) (release_publish a ctx t) (release_publish a ctx u)
  unfolding release_publish
  release_publishes ctx = moves a.slot a.old [] old none_small t u s _ _ ctx

  release_resumes : (code : ℕ) (ctx : List ℕ) → Alike (SameEnd a.slot) (release_resume a code ctx t) (release_resume a code ctx u)
  unfolding release_resume
  release_resumes code ctx = alike_then (SameEnd a.slot) _ _ _ (λ r. kept a.slot t u s _ _ _ ctx)

  release_configures : (ctx : List ℕ) → Alike (SameEnd a.slot) (release_configure a ctx t) (release_configure a ctx u)
  unfolding release_configure
  release_configures ctx =
      both_send (alike_on (SameEnd a.slot) _ _ _ _ _ _ (release_publishes _) (λ k. release_resumes k _) (kept a.slot t u s _ _ _ _))

  pub release_alike : (ctx : List ℕ) → Alike (SameEnd a.slot) (release_course a ctx t) (release_course a ctx u)
  unfolding release_course
  release_alike ctx =
      alike_then (SameEnd a.slot) _ _ _
      (λ r. alike_on (SameEnd a.slot) _ _ _ _ _ _ (release_configures ctx) (λ k. kept a.slot t u s _ _ _ ctx) (kept a.slot t u s _ _ _ ctx) r.sent)

-- A set configuration.
evaluated : (a : Settings) (t u : List ℕ) → SameWords a.slot t u → (ctx : List ℕ) → Alike (SameEnd a.slot) (set_evaluate a ctx t) (set_evaluate a ctx u)
unfolding set_evaluate
evaluated a t u s ctx =
    both_send (alike_on (SameEnd a.slot) _ _ _ _ _ _ (moved a.slot t u s _ _) (λ k. moved a.slot t u s _ _) (moved a.slot t u s _ _))

module _ (a : Settings) (t u : List ℕ) (old : Small a.old) (s : SameWords a.slot t u) where
  set_as : (r : Result Unit RouteError) (ctx : List ℕ) → Alike (SameEnd a.slot) (set_published r a ctx t) (set_published r a ctx u)
  unfolding set_published
  set_as (Ok _) ctx = evaluated a _ _ (same_replaced a.slot t u a.old [] old none_small s) ctx
  set_as (Err _) ctx = kept a.slot t u s _ _ _ ctx

  set_publishes : (ctx : List ℕ) → Alike (SameEnd a.slot) (set_publish a ctx t) (set_publish a ctx u)
  unfolding set_publish
  set_publishes ctx = rw (same_answer a.slot t u a.old [] old none_small s) (set_as (replaced t a.slot a.old []) ctx)

  set_restores : (code : ℕ) (ctx : List ℕ) → Alike (SameEnd a.slot) (set_restored a code ctx t) (set_restored a code ctx u)
  unfolding set_restored
  set_restores code ctx =
      alike_then (SameEnd a.slot) _ _ _
      (λ r. alike_on (SameEnd a.slot) _ _ _ _ _ _ (kept a.slot t u s _ _ _ ctx) (λ k. kept a.slot t u s _ _ _ ctx) (kept a.slot t u s _ _ _ ctx) r.sent)

  set_undo : (code : ℕ) (ctx : List ℕ) → Alike (SameEnd a.slot) (set_restore a code ctx t) (set_restore a code ctx u)
  unfolding set_restore
  set_undo code ctx =
      both_send (alike_on (SameEnd a.slot) _ _ _ _ _ _ (set_restores code _) (λ k. kept a.slot t u s _ _ _ _) (kept a.slot t u s _ _ _ _))

  set_switches : (ctx : List ℕ) → Alike (SameEnd a.slot) (set_switch a ctx t) (set_switch a ctx u)
  unfolding set_switch
  set_switches ctx = both_send (alike_on (SameEnd a.slot) _ _ _ _ _ _ (set_publishes ctx) (λ k. set_undo k ctx) (kept a.slot t u s _ _ _ ctx))

  set_resumes : (code : ℕ) (ctx : List ℕ) → Alike (SameEnd a.slot) (set_resume a code ctx t) (set_resume a code ctx u)
  unfolding set_resume
  set_resumes code ctx = alike_then (SameEnd a.slot) _ _ _ (λ r. kept a.slot t u s _ _ _ ctx)

  set_configures : (ctx : List ℕ) → Alike (SameEnd a.slot) (set_configure a ctx t) (set_configure a ctx u)
  unfolding set_configure
  set_configures ctx = both_send (alike_on (SameEnd a.slot) _ _ _ _ _ _ (set_switches _) (λ k. set_resumes k _) (kept a.slot t u s _ _ _ _))

  pub set_alike : (ctx : List ℕ) → Alike (SameEnd a.slot) (set_course a ctx t) (set_course a ctx u)
  unfolding set_course
  set_alike ctx =
      alike_then (SameEnd a.slot) _ _ _
      (λ r. alike_on (SameEnd a.slot) _ _ _ _ _ _ (set_configures ctx) (λ k. kept a.slot t u s _ _ _ ctx) (kept a.slot t u s _ _ _ ctx) r.sent)

-- An unplugging.
module _ (slot : ℕ) (t u : List ℕ) (s : SameWords slot t u) where
  disable_end : (ctx : List ℕ) (x : Sent) → SameEnd slot
      (on_sent x (settings_moved answer.Accepted ctx (without_slot t slot)) (λ code. settings_kept answer.InterfaceBroken 0 ctx t) (settings_kept answer.Cut 0 ctx t))
      (on_sent x (settings_moved answer.Accepted ctx (without_slot u slot)) (λ code. settings_kept answer.InterfaceBroken 0 ctx u) (settings_kept answer.Cut 0 ctx u))
  unfolding on_sent
  disable_end ctx Done = moved_end slot _ _ (same_without slot t u s) _ ctx
  disable_end ctx (Failed k) = kept_end slot t u s _ _ _ ctx
  disable_end ctx Cut = kept_end slot t u s _ _ _ ctx

  disabled : (ctx : List ℕ) (cut : Bool) → Alike (SameEnd slot) (cond cut (ends (settings_kept answer.Cut 0 ctx t)) (disable slot ctx t))
      (cond cut (ends (settings_kept answer.Cut 0 ctx u)) (disable slot ctx u))
  unfolding disable
  disabled ctx true = kept slot t u s _ _ _ ctx
  disabled ctx false = both_send (λ x. both_end (disable_end ctx x))

  pub disconnect_alike : (dcis ctx : List ℕ) → Alike (SameEnd slot) (disconnect_course slot dcis ctx t) (disconnect_course slot dcis ctx u)
  unfolding disconnect_course
  disconnect_alike dcis ctx = alike_then (SameEnd slot) _ _ _ (disabled ctx)

-- A bring-up.
pub record SameBrought (slot : ℕ) (e f : Brought) : Type 0 where
  pub others : f ≡ record e { routes = f.routes }
  pub routes : SameWords slot e.routes f.routes

module _ (a : BringUp) (spacing : ℕ) (t u : List ℕ) (s : SameWords a.slot t u) where
  brought_as : (x : Answer) (r : Reading) (ctx : List ℕ) → Alike (SameBrought a.slot) (ends (brought x r ctx t)) (ends (brought x r ctx u))
  brought_as x r ctx = both_end (record { others = refl; routes = s })

  step_as : (c : Command) (r : Reading) (ctx : List ℕ) (p q : Course Brought) → Alike (SameBrought a.slot) p q →
      Alike (SameBrought a.slot) (step c r ctx t p) (step c r ctx u q)
  unfolding step
  step_as c r ctx p q h = both_send (alike_on (SameBrought a.slot) _ _ _ _ _ _ h (λ k. brought_as _ r ctx) (brought_as _ r ctx))

  set_as_brought : End → Brought
  set_as_brought e =
      brought e.answer
      (record { configured = true; value = cond (is_accepted e.answer) (bring_up_settings a spacing).value a.value; list = a.list })
      e.ctx e.routes

  brought_set : (ctx : List ℕ) → Alike (SameBrought a.slot) (bring_up_set a spacing ctx t) (bring_up_set a spacing ctx u)
  unfolding bring_up_set bring_up_settings
  brought_set ctx =
      alike_both (SameEnd a.slot) (SameBrought a.slot) _ _ _ _ (set_alike (bring_up_settings a spacing) t u none_small s ctx)
      (λ e f h. both_end (record { others = rw h.others refl; routes = h.routes }))

  brought_configs : (k i : ℕ) (ctx : List ℕ) → Alike (SameBrought a.slot) (bring_up_configs a spacing k i ctx t) (bring_up_configs a spacing k i ctx u)
  unfolding bring_up_configs
  brought_configs zero i ctx = brought_set ctx
  brought_configs (suc k) i ctx = step_as _ _ ctx _ _ (brought_configs k (i + 1) ctx)

  brought_empty : (b : Bool) (ctx : List ℕ) (x : Answer) (r : Reading) (p q : Course Brought) → Alike (SameBrought a.slot) p q →
      Alike (SameBrought a.slot) (cond b (ends (brought x r ctx t)) p) (cond b (ends (brought x r ctx u)) q)
  brought_empty true ctx x r p q h = brought_as x r ctx
  brought_empty false ctx x r p q h = h

  brought_full : (b : Bool) (ctx : List ℕ) (x : Answer) (r : Reading) (p q : Course Brought) → Alike (SameBrought a.slot) p q →
      Alike (SameBrought a.slot) (cond b p (ends (brought x r ctx t))) (cond b q (ends (brought x r ctx u)))
  brought_full true ctx x r p q h = h
  brought_full false ctx x r p q h = brought_as x r ctx

  brought_device : (ctx : List ℕ) → Alike (SameBrought a.slot) (bring_up_device a spacing ctx t) (bring_up_device a spacing ctx u)
  unfolding bring_up_device
  brought_device ctx = step_as _ _ ctx _ _ (brought_empty (eqb (length a.list) 0) ctx _ _ _ _ (brought_configs (configurations a.list) 0 ctx))

  brought_configuration : (ctx : List ℕ) → Alike (SameBrought a.slot) (bring_up_configuration a spacing ctx t) (bring_up_configuration a spacing ctx u)
  unfolding bring_up_configuration
  brought_configuration ctx = step_as _ _ ctx _ _ (brought_device ctx)

  brought_packet : (ctx : List ℕ) → Alike (SameBrought a.slot) (bring_up_packet a spacing ctx t) (bring_up_packet a spacing ctx u)
  unfolding bring_up_packet
  brought_packet ctx = step_as _ _ _ _ _ (brought_configuration _)

  brought_header : (ctx : List ℕ) → Alike (SameBrought a.slot) (bring_up_header a spacing ctx t) (bring_up_header a spacing ctx u)
  unfolding bring_up_header
  brought_header ctx =
      step_as _ _ ctx _ _
      (brought_full (eqb a.header 8) ctx _ _ _ _ (brought_full (exponent_ok a.speed a.packet) ctx _ _ _ _ (brought_packet ctx)))

  pub bring_up_alike : (ctx : List ℕ) → Alike (SameBrought a.slot) (bring_up_address a spacing ctx t) (bring_up_address a spacing ctx u)
  unfolding bring_up_address
  bring_up_alike ctx = step_as _ _ _ _ _ (brought_header _)
