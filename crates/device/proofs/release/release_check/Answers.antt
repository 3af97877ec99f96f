use mathlib.Core.Path.{◌∙◌}
use Rattle.device.proofs.Laws.{record_passed, returned}
use Rattle.device.proofs.ReleaseLaws.{release_refused, release_checked}
use Rattle.device.proofs.release.release_check.Goals as goal

pub returns-in_err-record_check : goal.returns-in_err-record_check
returns-in_err-record_check c =
    rw (returned _ _ c.from_residual.ensures.1) (release_refused c.args.d.now _ _ _ c.args.interface _ c.record_check.ensures _ c.in_err-record_check.was)

pub settings-requires : goal.settings-requires
settings-requires c = (record_passed _ _ _ _ _ c.record_check.ensures c.in_ok-record_check.was).facts.counts.held

pub returns : goal.returns
returns c =
    release_checked c.args.d.now _ _ _ c.args.interface _ c.record_check.ensures c.ok_or.result c.in_ok-record_check.was
    (c.ok_or.ensures.value ∙ rw (c.alternate_of.ensures, c.settings.ensures))
