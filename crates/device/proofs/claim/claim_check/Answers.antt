use mathlib.Core.Path.{◌≡◌}
use native.Mathlib.Omega.{arith}
use lib.ListN.{length}
use Rattle.device.specs.Device.{list_of}
use Rattle.device.specs.Ask.{ask_check}
use Rattle.device.proofs.Facts.{list_joinable}
use Rattle.device.proofs.Laws.{record_passed, returned}
use Rattle.device.proofs.ClaimLaws.{claim_refused, claim_checked, free_many}
use borrow.Author.Rules.{rules}
use Rattle.device.proofs.claim.claim_check.Goals as goal

pub returns-in_err-record_check : goal.returns-in_err-record_check
unfolding ask_check
returns-in_err-record_check c =
    rw (returned _ _ c.from_residual.ensures.1) (claim_refused c.args.d.now c.args.interface c.args.alternate _ _ _ c.record_check.result
    c.record_check.ensures _ c.in_err-record_check.was)

pub endpoint_map_in-c-requires : goal.endpoint_map_in-c-requires
endpoint_map_in-c-requires c = (record_passed _ _ _ _ _ c.record_check.ensures c.in_ok-record_check.was).facts.counts.endpoints

pub overflow_sub-free : goal.overflow_sub-free
overflow_sub-free c =
    let p = record_passed _ _ _ _ _ c.record_check.ensures c.in_ok-record_check.was in
    let eps : length c.args.d.now.eps ≡ 30 = search rules in
    let given : length c.args.d.now.given ≡ 64 = search rules in
    omega (arith, free_many c.args.d.now p.usable p.is_sound eps given)

pub overflow_sub-free-2 : goal.overflow_sub-free-2
overflow_sub-free-2 c =
    let p = record_passed _ _ _ _ _ c.record_check.ensures c.in_ok-record_check.was in
    let eps : length c.args.d.now.eps ≡ 30 = search rules in
    let given : length c.args.d.now.given ≡ 64 = search rules in
    omega (arith, free_many c.args.d.now p.usable p.is_sound eps given)

pub list-requires : goal.list-requires
list-requires c = (record_passed _ _ _ _ _ c.record_check.ensures c.in_ok-record_check.was).facts.counts.list

pub draw_check-requires : goal.draw_check-requires
draw_check-requires c =
    rw c.list.ensures (list_joinable c.args.d.now (record_passed _ _ _ _ _ c.record_check.ensures c.in_ok-record_check.was).is_sound).short

pub returns : goal.returns
unfolding ask_check list_of
returns c =
    let p = record_passed _ _ _ _ _ c.record_check.ensures c.in_ok-record_check.was in
    let eps : length c.args.d.now.eps ≡ 30 = search rules in
    let given : length c.args.d.now.given ≡ 64 = search rules in
    claim_checked c.args.d.now c.args.interface c.args.alternate _ _ _ c.record_check.result
    c.record_check.ensures c.endpoint_map_in-c.result _ c.draw_check.result c.in_ok-record_check.was c.endpoint_map_in-c.ensures
    (omega (arith, free_many c.args.d.now p.usable p.is_sound eps given)) (rw c.list.ensures at c.draw_check.ensures)
