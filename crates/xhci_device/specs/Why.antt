-- A reason across the C boundary: its kind, and what it has; the rest is 0.
use Rattle.std.specs.Prelude.{ℕ}
use Rattle.reason.specs.declared.Reason.{Reason}
use Rattle.reason.specs.declared.Reason.TheVariants.{Nothing, Alternate, Endpoint, Rings, Command, Number}
use Rattle.xhci_device.specs.declared.why.Why.{Why}

abbrev pub kind_only : ℕ → Why
kind_only kind = record { kind = kind; interface = 0; alternate = 0; word = 0; number = 0; place = 0 }

unfoldable pub why_of : Reason → Why
why_of Nothing = kind_only 0
why_of (Alternate interface alternate) = record { kind = 1; interface = interface; alternate = alternate; word = 0; number = 0; place = 0 }
why_of (Endpoint word owner) = record { kind = 2; interface = owner; alternate = 0; word = word; number = 0; place = 0 }
why_of Rings = kind_only 3
why_of (Command place word) = record { kind = 4; interface = 0; alternate = 0; word = word; number = 0; place = place }
why_of (Number number) = record { kind = 5; interface = 0; alternate = 0; word = 0; number = number; place = 0 }
