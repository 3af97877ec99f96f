use Rattle.device.specs.Device.{no_device}
use Rattle.device_bring_up.specs.BringUp.{brought_record, brought_left}
use lib.Seq.{length-take-le}
use Rattle.course_init.specs.Reading.{control_ring}
use Rattle.device.proofs.Compared.{accepted_test}
use Rattle.device_bring_up.proofs.record.brought.Goals as goal

pub returns : goal.returns
unfolding brought_left brought_record control_ring no_device
returns c =
    λ hubs ctx routes log. let e = c.count_words-words.ensures in rw (
      c.eq-accepted.ensures,
      accepted_test c.args.e.answer,
      c.padded-kept.ensures,
      c.padded-given.ensures,
      c.requires.ring_value,
      c.no_device-d.ensures,
      e.1,
      length-take-le _ _ e.0,
      c.is_some.ensures,
      c.unwrap_or.ensures,
    )
