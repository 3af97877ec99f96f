-- The course of a bring-up after its checks, with control's route registered: `Device::init` of the original; 01, "Course of each call".
use Rattle.std.specs.Prelude.{ℕ, zero, suc, ◌+◌, ◌≡◌, true, cond, List, [], eqb, length, get_or}
use Rattle.def.specs.Speed.{exponent_ok}
use Rattle.descriptor.specs.Word.{configuration_value}
use Rattle.descriptor_list.specs.Valid.{configurations}
use Rattle.hub.specs.Route.{route_string}
use Rattle.hub.specs.Translator.{translator_of}
use Rattle.answer.specs.declared.Answer.TheVariants as answer
use Rattle.answer.specs.Answer.{is_accepted}
use Rattle.command.specs.declared.Command.{Command}
use Rattle.command.specs.declared.Command.TheVariants as command
use Rattle.command.specs.Course.{Course, ends, sends, on_sent, then}
use Rattle.context.specs.Place.{written}
use Rattle.context.specs.Steps.{address_context, max_packet_writes}
use Rattle.course_set_configuration.specs.SetConfiguration.{Settings, set_course}
use Rattle.course_init.specs.Reading.{BringUp, control_ring, Reading, nothing_read, read_up_to, Brought, brought}

-- A command after which the bring-up goes on; it ends where the command fails or is cut.
unfoldable pub step : Command → Reading → List ℕ → List ℕ → Course Brought → Course Brought
step c read ctx routes next =
    sends c ctx
    (λ s.
    on_sent s next
    (λ code. ends (brought (answer.Failed code) read ctx routes))
    (ends (brought answer.Cut read ctx routes)))

-- The first configuration is set; no interface holds a setting yet.
unfoldable pub bring_up_settings : BringUp → ℕ → Settings
bring_up_settings a spacing =
    record {
      slot = a.slot;
      spacing = spacing;
      speed = a.speed;
      value = configuration_value (get_or a.list 0 0);
      words = [];
      old = [];
    }

unfoldable pub bring_up_set : BringUp → ℕ → List ℕ → List ℕ → Course Brought
bring_up_set a spacing ctx routes =
    let s = bring_up_settings a spacing in
    then (set_course s ctx routes)
    (λ e.
    ends
    (brought e.answer
    (record { configured = true; value = cond (is_accepted e.answer) s.value a.value; list = a.list })
    e.ctx e.routes))

-- Configuration descriptors are read, k of them from index i on.
unfoldable pub bring_up_configs : BringUp → ℕ → ℕ → ℕ → List ℕ → List ℕ → Course Brought
bring_up_configs a spacing zero i ctx routes = bring_up_set a spacing ctx routes
bring_up_configs a spacing (suc k) i ctx routes =
    step (command.ReadConfig i) (read_up_to a i) ctx routes (bring_up_configs a spacing k (i + 1) ctx routes)

-- The device descriptor is read; a device without configurations is brought up then.
unfoldable pub bring_up_device : BringUp → ℕ → List ℕ → List ℕ → Course Brought
bring_up_device a spacing ctx routes =
    step command.ReadDevice (read_up_to a 0) ctx routes
    (cond (eqb (length a.list) 0)
    (ends (brought answer.Accepted (read_up_to a 0) ctx routes))
    (bring_up_configs a spacing (configurations a.list) 0 ctx routes))

-- The configuration that is set now is read.
unfoldable pub bring_up_configuration : BringUp → ℕ → List ℕ → List ℕ → Course Brought
bring_up_configuration a spacing ctx routes =
    step command.ReadConfiguration nothing_read ctx routes (bring_up_device a spacing ctx routes)

-- The control endpoint's packet size is told to the controller.
unfoldable pub bring_up_packet : BringUp → ℕ → List ℕ → List ℕ → Course Brought
bring_up_packet a spacing ctx routes =
    let next = written spacing (max_packet_writes a.speed a.packet) ctx in
    step command.Evaluate nothing_read next routes (bring_up_configuration a spacing next routes)

-- A header in order: eight bytes, and a packet byte that a device of this speed may have.
abbrev pub HeaderRead : BringUp → Type 0
HeaderRead a = (a.header ≡ 8) × (exponent_ok a.speed a.packet ≡ true)

-- It is read in a header of eight bytes, which says one that a device of this speed may have.
unfoldable pub bring_up_header : BringUp → ℕ → List ℕ → List ℕ → Course Brought
bring_up_header a spacing ctx routes =
    step command.ReadHeader nothing_read ctx routes
    (cond (eqb a.header 8)
    (cond (exponent_ok a.speed a.packet) (bring_up_packet a spacing ctx routes)
    (ends (brought answer.PacketExponent nothing_read ctx routes)))
    (ends (brought answer.ShortHeader nothing_read ctx routes)))

-- The device is addressed, over a context of all zero.
unfoldable pub bring_up_address : BringUp → ℕ → List ℕ → List ℕ → Course Brought
bring_up_address a spacing ctx routes =
    let route = route_string a.hubs a.parent a.port in
    let translator = translator_of a.speed a.hubs a.parent a.port in
    let next = address_context spacing a.speed route translator a.root_port (control_ring a) ctx in
    step command.Address nothing_read next routes (bring_up_header a spacing next routes)
