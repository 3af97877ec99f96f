-- What the controller reads along the calls on a record: fields by the record and the call's arguments.
use Prim.Native.Nat.{ℕ, ◌^◌, ◌<◌}
use mathlib.Core.Path.{◌≡◌, refl}
use mathlib.Core.Bool.{Bool, cond}
use mathlib.Core.List.{List, []}
use native.Mathlib.Omega.{arith}
use lib.Dec.{lit<}
use lib.ListN.{length, get_or}
use Rattle.std.proofs.Common.{Option, Some, None}
use Rattle.hub.specs.ThinkTime.{think_time}
use Rattle.hub.proofs.Laws.{think_below}
use Rattle.transfer.specs.Routes.{queues}
use Rattle.context.specs.Place.{Spaced}
use Rattle.context.specs.Steps.{word_dcis}
use Rattle.context.specs.Promises.{ConfigureReads, ConfigurationReads, HubReads}
use Rattle.context.proofs.Promises.{hub_promise}
use Rattle.record_endpoint.specs.declared.endpoint_map.Owner.TheVariants.{Interface}
use Rattle.record_endpoint.specs.EndpointMap.{owned_rings, queues_of, queue_dcis}
use Rattle.record_settings.specs.Held.{is_held, alternate_of, setting_words, held_words}
use Rattle.record_checks.specs.Think.{think_value}
use Rattle.course_steps.proofs.Laws.{queue_dcis_lem}
use Rattle.course_release.specs.Release.{release_context}
use Rattle.course_release.proofs.Contexts.{release_configure_reads}
use Rattle.course_claim.specs.Claim.{claim_context, undo_context}
use Rattle.course_claim.proofs.Contexts.{ClaimFits, claim_configure_reads, claim_undo_reads}
use Rattle.course_set_configuration.specs.SetConfiguration.{drop_context, restore_context, value_context}
use Rattle.course_set_configuration.proofs.Contexts.{set_configure_reads, set_restore_reads, set_evaluate_reads}
use Rattle.device.specs.declared.record.Device.{Device}
use Rattle.device.specs.Device.{list_of, endpoint_map_in, held_of}
use Rattle.device.specs.Calls.{hub_context}
use Rattle.device.specs.Claim.{pending_of, claim_in}
use Rattle.device.specs.Release.{release_in}
use Rattle.device.specs.SetConfiguration.{settings_in}
use Rattle.device.proofs.ClaimLaws.{undone_to}
use Rattle.device.proofs.Facts.{SoundFacts}
use Rattle.device.proofs.Fit.{placed_setting, placed_if, placed_held, placed_endpoints, alternate_byte, pending_below, owned_below, queues_of_below, offered_reads}

-- A sound record, and a context of its spacing.
module _ (d : Device) (f : SoundFacts d) (ctx : List ℕ) (sp : Spaced d.spacing (length ctx)) where
  abbrev dcis : List ℕ
  dcis = queue_dcis (queues_of (endpoint_map_in d).rings)

  -- A claim of an alternate.
  module _ (i a : ℕ) (rings : List ℕ) (byte-i : i < 2 ^ 8) (byte-a : a < 2 ^ 8) (offered : (k : ℕ) → get_or rings k 0 < 2 ^ 64)
      (own : (k : ℕ) → get_or (endpoint_map_in d).rings k 0 < 2 ^ 64) where
    abbrev new : List ℕ
    new = setting_words (list_of d) i a

    abbrev old : List ℕ
    old = cond (is_held i (held_of d)) (setting_words (list_of d) i (alternate_of i (held_of d))) []

    claim_fits : ClaimFits (claim_in d i a rings)
    unfolding claim_in pending_of
    claim_fits =
        let p = placed_setting (list_of d) f.list i a in
        let q = placed_if (list_of d) f.list (is_held i (held_of d)) i (alternate_of i (held_of d)) in
        record {
          interface = byte-i;
          alternate = byte-a;
          old_alternate = rw (undone_to i (held_of d)) (alternate_byte (list_of d) (held_of d) f.settings i);
          old_words = placed_endpoints old q;
          new_words = placed_endpoints new p;
          old = λ x. owned_below (2 ^ 64) x (Interface i) (endpoint_map_in d) (lit< tt) own;
          pending = λ x. pending_below (2 ^ 64) x new rings (lit< tt) offered;
          dcis = queue_dcis_lem (endpoint_map_in d).rings;
        }

    -- Its Configure: each new word with the ring drawn for it.
    pub claim_reads :
        ConfigureReads d.spacing d.port_speed i a old new (queues (word_dcis new) rings) dcis ctx (claim_context (claim_in d i a rings) ctx)
    unfolding claim_in pending_of
    claim_reads =
        offered_reads d.spacing d.port_speed i a old new rings dcis ctx _ (placed_setting (list_of d) f.list i a)
        (claim_configure_reads (claim_in d i a rings) claim_fits ctx sp)

    -- The one that undoes it.
    pub undo_reads :
        ConfigureReads d.spacing d.port_speed i (alternate_of i (held_of d)) new old (queues_of (owned_rings (Interface i) (endpoint_map_in d))) dcis
        ctx (undo_context (claim_in d i a rings) ctx)
    unfolding claim_in
    undo_reads = rw (undone_to i (held_of d)) at (claim_undo_reads (claim_in d i a rings) claim_fits ctx sp)

  -- A release.
  pub release_reads : (i : ℕ) → i < 2 ^ 8 →
      let a = alternate_of i (held_of d) in
      ConfigureReads d.spacing d.port_speed i a (setting_words (list_of d) i a) [] [] dcis ctx (release_context (release_in d i) ctx)
  unfolding release_in
  release_reads i byte =
      let a = alternate_of i (held_of d) in
      release_configure_reads (release_in d i) ctx sp byte (alternate_byte (list_of d) (held_of d) f.settings i)
      (placed_endpoints (setting_words (list_of d) i a) (placed_setting (list_of d) f.list i a))
      (queue_dcis_lem (endpoint_map_in d).rings)

  -- A set configuration: its Configure, the one that undoes it, and the last Evaluate.
  module _ (value : ℕ) where
    abbrev held : List ℕ
    held = held_words (list_of d) (held_of d)

    pub drop_reads : ConfigureReads d.spacing d.port_speed 0 0 held [] [] dcis ctx (drop_context (settings_in d value) ctx)
    unfolding settings_in
    drop_reads =
        set_configure_reads (settings_in d value) ctx sp (placed_endpoints held (placed_held (list_of d) f.list (held_of d)))
        (queue_dcis_lem (endpoint_map_in d).rings)

    pub restore_reads : ((k : ℕ) → get_or (endpoint_map_in d).rings k 0 < 2 ^ 64) →
        ConfigureReads d.spacing d.port_speed 0 0 [] held (queues_of (endpoint_map_in d).rings) dcis ctx (restore_context (settings_in d value) ctx)
    unfolding settings_in
    restore_reads own =
        let p = placed_held (list_of d) f.list (held_of d) in
        set_restore_reads (settings_in d value) ctx sp (placed_endpoints held p)
        (λ x. queues_of_below (2 ^ 64) x (endpoint_map_in d).rings (lit< tt) own)
        (queue_dcis_lem (endpoint_map_in d).rings)

    pub value_reads : value < 2 ^ 8 → ConfigurationReads d.spacing value ctx (value_context (settings_in d value) ctx)
    unfolding settings_in
    value_reads byte = set_evaluate_reads (settings_in d value) ctx sp byte

  think_fits : (ns : ℕ) → think_value (think_time ns) < 2 ^ 2
  unfolding think_value
  think_fits ns = go (think_time ns) refl
    where
      go : (t : Option ℕ) → think_time ns ≡ t → think_value t < 2 ^ 2
      go (Some v) e = omega (arith, think_below ns v e)
      go None e = omega arith

  -- A hub update.
  pub hub_reads : (ports : ℕ) (multi : Bool) (ns : ℕ) → ports < 2 ^ 8 →
      HubReads d.spacing d.port_speed ports multi (think_value (think_time ns)) ctx (hub_context d ports multi ns ctx)
  unfolding hub_context
  hub_reads ports multi ns byte = hub_promise d.spacing d.port_speed ports multi (think_value (think_time ns)) ctx sp byte (think_fits ns)
