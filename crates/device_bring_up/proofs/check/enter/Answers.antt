use mathlib.Core.Path.{sym, ap, ◌∙◌}
use borrow.Author.Rules.{rules}
use Rattle.transfer.specs.Routes.{with_registered}
use Rattle.course_init.specs.Reading.{bring_up_of, control_ring}
use Rattle.device.proofs.Laws.{returned}
use Rattle.device_bring_up.proofs.Checks.{slot_refused, lengths_refused, lengths_passed}
use Rattle.device_bring_up.proofs.Steps.{queue_answered, not_entered, speed_refused, list_refused, companion_refused, chain_refused, ring_refused, entered}
use Rattle.device_bring_up.proofs.check.enter.Goals as goal

pub returns-then-not-slot_fits : goal.returns-then-not-slot_fits
unfolding control_ring
returns-then-not-slot_fits c =
    let a = bring_up_of c.args.a c.args.rings.now c.args.hubs.now c.args.list.now in
    not_entered a c.args.ctx c.args.routes.now c.args.log _ (slot_refused a c.args.ctx c.args.routes.now c.args.log (sym c.slot_fits.ensures ∙ c.if-not-slot_fits.true))

pub returns-in_err-lengths_check : goal.returns-in_err-lengths_check
unfolding control_ring
returns-in_err-lengths_check c =
    let a = bring_up_of c.args.a c.args.rings.now c.args.hubs.now c.args.list.now in
    let fits = sym c.slot_fits.ensures ∙ c.if-not-slot_fits.false in
    rw (returned _ _ c.from_residual.ensures.1)
    (not_entered a c.args.ctx c.args.routes.now c.args.log _ (lengths_refused a c.args.ctx c.args.routes.now c.args.log c.args.spacing c.lengths_check.result fits
    c.requires.spacing_value c.lengths_check.ensures _ c.in_err-lengths_check.was))

pub returns-then-not-speed_known : goal.returns-then-not-speed_known
unfolding control_ring
returns-then-not-speed_known c =
    let a = bring_up_of c.args.a c.args.rings.now c.args.hubs.now c.args.list.now in
    let fits = sym c.slot_fits.ensures ∙ c.if-not-slot_fits.false in
    let base = lengths_passed a c.args.ctx c.args.routes.now c.args.log c.args.spacing c.lengths_check.result fits
    c.requires.spacing_value c.lengths_check.ensures c.in_ok-lengths_check.was in
    speed_refused a c.args.ctx c.args.routes.now c.args.log base (sym c.speed_known.ensures ∙ c.if-not-speed_known.true)

pub returns-then-not-list_ok : goal.returns-then-not-list_ok
unfolding control_ring
returns-then-not-list_ok c =
    let a = bring_up_of c.args.a c.args.rings.now c.args.hubs.now c.args.list.now in
    let fits = sym c.slot_fits.ensures ∙ c.if-not-slot_fits.false in
    let base = lengths_passed a c.args.ctx c.args.routes.now c.args.log c.args.spacing c.lengths_check.result fits
    c.requires.spacing_value c.lengths_check.ensures c.in_ok-lengths_check.was in
    list_refused a c.args.ctx c.args.routes.now c.args.log base (sym c.speed_known.ensures ∙ c.if-not-speed_known.false) (sym c.list_ok.ensures ∙ c.if-not-list_ok.true)

pub returns-then-not-companions_fit : goal.returns-then-not-companions_fit
unfolding control_ring
returns-then-not-companions_fit c =
    let a = bring_up_of c.args.a c.args.rings.now c.args.hubs.now c.args.list.now in
    let fits = sym c.slot_fits.ensures ∙ c.if-not-slot_fits.false in
    let base = lengths_passed a c.args.ctx c.args.routes.now c.args.log c.args.spacing c.lengths_check.result fits
    c.requires.spacing_value c.lengths_check.ensures c.in_ok-lengths_check.was in
    companion_refused a c.args.ctx c.args.routes.now c.args.log base (sym c.speed_known.ensures ∙ c.if-not-speed_known.false) (sym c.list_ok.ensures ∙ c.if-not-list_ok.false) (sym c.companions_fit.ensures ∙ c.if-not-companions_fit.true)

pub returns-then-not-chain_ok : goal.returns-then-not-chain_ok
unfolding control_ring
returns-then-not-chain_ok c =
    let a = bring_up_of c.args.a c.args.rings.now c.args.hubs.now c.args.list.now in
    let fits = sym c.slot_fits.ensures ∙ c.if-not-slot_fits.false in
    let base = lengths_passed a c.args.ctx c.args.routes.now c.args.log c.args.spacing c.lengths_check.result fits
    c.requires.spacing_value c.lengths_check.ensures c.in_ok-lengths_check.was in
    chain_refused a c.args.ctx c.args.routes.now c.args.log base (sym c.speed_known.ensures ∙ c.if-not-speed_known.false) (sym c.list_ok.ensures ∙ c.if-not-list_ok.false) (sym c.companions_fit.ensures ∙ c.if-not-companions_fit.false) (sym c.chain_ok.ensures ∙ c.if-not-chain_ok.true)

pub returns-then-not-given_fit : goal.returns-then-not-given_fit
unfolding control_ring
returns-then-not-given_fit c =
    let a = bring_up_of c.args.a c.args.rings.now c.args.hubs.now c.args.list.now in
    let fits = sym c.slot_fits.ensures ∙ c.if-not-slot_fits.false in
    let base = lengths_passed a c.args.ctx c.args.routes.now c.args.log c.args.spacing c.lengths_check.result fits
    c.requires.spacing_value c.lengths_check.ensures c.in_ok-lengths_check.was in
    ring_refused a c.args.ctx c.args.routes.now c.args.log base (sym c.speed_known.ensures ∙ c.if-not-speed_known.false) (sym c.list_ok.ensures ∙ c.if-not-list_ok.false) (sym c.companions_fit.ensures ∙ c.if-not-companions_fit.false) (sym c.chain_ok.ensures ∙ c.if-not-chain_ok.false) (sym c.given_fit.ensures ∙ c.if-not-given_fit.true)

pub returns : goal.returns
unfolding control_ring
returns c =
    let a = bring_up_of c.args.a c.args.rings.now c.args.hubs.now c.args.list.now in
    let fits = sym c.slot_fits.ensures ∙ c.if-not-slot_fits.false in
    let base = lengths_passed a c.args.ctx c.args.routes.now c.args.log c.args.spacing c.lengths_check.result fits
    c.requires.spacing_value c.lengths_check.ensures c.in_ok-lengths_check.was in
    let r = c.register_queue.ensures in
    entered a c.args.ctx c.args.routes.now c.args.log base (sym c.speed_known.ensures ∙ c.if-not-speed_known.false) (sym c.list_ok.ensures ∙ c.if-not-list_ok.false) (sym c.companions_fit.ensures ∙ c.if-not-companions_fit.false) (sym c.chain_ok.ensures ∙ c.if-not-chain_ok.false) (sym c.given_fit.ensures ∙ c.if-not-given_fit.false) _ _
    (queue_answered a c.args.routes.now _ _ (λ e x p. search rules) r.0 c.map_err.ensures.cases) (r.1 ∙ ap (with_registered c.args.routes.now a.slot 1) c.requires.ring_value)
