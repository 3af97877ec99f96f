-- The transaction translator of 01, "address".
use Rattle.std.specs.Prelude.{ℕ, zero, suc, false, cond, Option, Some, None, ◌||◌, List, eqb}
use Rattle.def.specs.Speed.{FULL, LOW, HIGH}
use Rattle.hub.specs.HubWord.{hub_at}
use Rattle.hub.specs.declared.translator.Translator.{Translator}

abbrev pub no_translator : Translator
no_translator = record { slot_id = 0; multi = false; port = 0 }

-- The nearest High hub, with the port on it as it is; a root hub never counts.
unfoldable pub nearest_high : List ℕ → ℕ → ℕ → ℕ → Translator
nearest_high hubs at port zero = no_translator
nearest_high hubs at port (suc d) =
    cond (eqb (hub_at hubs at).speed HIGH)
    (record { slot_id = (hub_at hubs at).slot_id; multi = (hub_at hubs at).multi; port = port })
    (nearest_high hubs (hub_at hubs at).parent (hub_at hubs at).port_id d)

-- What a device's slot context says of a transaction translator: Low and Full devices with a parent only.
unfoldable pub translator_of : ℕ → List ℕ → Option ℕ → ℕ → Translator
translator_of speed hubs None port = no_translator
translator_of speed hubs (Some at) port =
    cond (eqb speed FULL || eqb speed LOW) (nearest_high hubs at port (hub_at hubs at).depth_plus_one) no_translator
