use Rattle.record_settings.proofs.Steps.{settings_put}
use Rattle.record_settings.proofs.held.Settings.push.Goals as goal

pub returns : goal.returns
returns c = λ hs w. settings_put _ hs _ _ _ w
