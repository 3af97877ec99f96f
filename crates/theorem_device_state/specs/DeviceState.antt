-- What a reader of the log knows of the USB device: its configuration value, and the alternate setting of each interface.
use Rattle.std.specs.Prelude.{ℕ, ◌+◌, ◌/◌, ◌%◌, ◌^◌, cond, List, [], ◌∷◌, eqb}
use Rattle.command.specs.declared.Sent.{Sent}
use Rattle.command.specs.declared.Sent.TheVariants.{Done, Failed, Cut}
use Rattle.command.specs.Command.{operation_of, outcome_at}
use Rattle.theorem_controller.specs.Controller.{SET-CONFIGURATION, is_done}

pub data Known : Type 0 where
  unknown : Known
  known : ℕ → Known

pub record DeviceState : Type 0 where
  pub configuration : Known
  -- by interface
  pub alternates : ℕ → Known

unfoldable pub nothing_known : DeviceState
nothing_known = record { configuration = unknown; alternates = λ j. unknown }

-- Address, SetInterface and ReadConfiguration of the log words, and the operands of a word.
abbrev pub ADDRESS : ℕ
ADDRESS = 1

abbrev pub SET-INTERFACE : ℕ
SET-INTERFACE = 6

abbrev pub READ-CONFIGURATION : ℕ
READ-CONFIGURATION = 9

abbrev pub first_of : ℕ → ℕ
first_of word = word / 2 ^ 20 % 256

abbrev pub second_of : ℕ → ℕ
second_of word = word / 2 ^ 12 % 256

-- SetInterface: done, the interface has the alternate; failed or not answered, its alternate is not known.
unfoldable pub interface_set : ℕ → ℕ → Sent → DeviceState → DeviceState
interface_set i a sent u =
    record {
      configuration = u.configuration;
      alternates = λ j. cond (eqb j i) (cond (is_done sent) (known a) unknown) (u.alternates j);
    }

-- SetConfiguration: done, the value is set and every interface has alternate 0; failed, nothing changes; not answered, nothing is known.
unfoldable pub configuration_set : ℕ → Sent → DeviceState → DeviceState
configuration_set v Done u = record { configuration = known v; alternates = λ j. known 0 }
configuration_set v (Failed code) u = u
configuration_set v Cut u = nothing_known

-- ReadConfiguration: done, the device has said its value.
unfoldable pub configuration_read : Known → Sent → DeviceState → DeviceState
configuration_read v sent u =
    record { configuration = cond (is_done sent) v u.configuration; alternates = u.alternates }

-- One logged word with its outcome; `v` is what ReadConfiguration reads. Once Address is sent nothing is known, whatever was before; no
-- other command tells the device of either.
unfoldable pub device_after : Known → ℕ → Sent → DeviceState → DeviceState
device_after v word sent u =
    cond (eqb (operation_of word) ADDRESS) nothing_known
    (cond (eqb (operation_of word) SET-INTERFACE) (interface_set (first_of word) (second_of word) sent u)
    (cond (eqb (operation_of word) SET-CONFIGURATION) (configuration_set (first_of word) sent u)
    (cond (eqb (operation_of word) READ-CONFIGURATION) (configuration_read v sent u) u)))

-- The words of a log; the first is command number i of its call.
unfoldable pub device_told : Known → List ℕ → ℕ → List ℕ → DeviceState → DeviceState
device_told v outcomes i [] u = u
device_told v outcomes i (w ∷ ws) u = device_told v outcomes (i + 1) ws (device_after v w (outcome_at outcomes i) u)
