use Rattle.record_endpoint.specs.Endpoint.{padded}
use lib.Seq.{take-append_seam}
use Rattle.record_settings.proofs.words.SettingWords.of.Goals as goal

pub returns : goal.returns
unfolding padded
returns c = rw c.padded.ensures (take-append_seam c.args.words.now _)
