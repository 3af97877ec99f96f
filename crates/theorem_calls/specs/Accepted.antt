-- The log of an accepted call, and with it the beginning of any other's, whatever record and table it gets.
use Rattle.std.specs.Prelude.{ℕ, zero, suc, ◌+◌, ◌<◌, ◌≡◌, cond, List, [], ◌∷◌, ◌++◌, eqb, length, get_or, take}
use Rattle.descriptor.specs.Word.{configuration_value}
use Rattle.descriptor_list.specs.Valid.{configurations}
use Rattle.answer.specs.declared.Answer.TheVariants as answer
use Rattle.record_endpoint.specs.declared.endpoint_map.EndpointMap.{EndpointMap}
use Rattle.record_endpoint.specs.declared.endpoint_map.Owner.{Owner}
use Rattle.record_endpoint.specs.declared.endpoint_map.Owner.TheVariants.{Any, Interface}
use Rattle.record_endpoint.specs.Order.{PLACES, dci_at}
use Rattle.record_endpoint.specs.EndpointMap.{is_owned}
use Rattle.device.specs.declared.record.Device.{Device}
use Rattle.device.specs.Device.{endpoint_map_in}
use Rattle.theorem_slot.specs.Call.{Asked, brings_up, claims, commits, releases, configures, updates_hub, disconnects, Call, left}
use Rattle.theorem_calls.specs.Commands.{AllDone}
use Rattle.theorem_calls.specs.Words.{address, evaluate, configure, stop, set_interface, set_value, read_header, read_configuration, read_device, read_config, disable}

-- The Dcis of an owner's endpoints, by rising address: of k places from `place` on, and of all.
unfoldable pub dcis_from : Owner → EndpointMap → ℕ → ℕ → List ℕ
dcis_from who c zero place = []
dcis_from who c (suc k) place =
    cond (is_owned who c place) (dci_at place ∷ dcis_from who c k (place + 1)) (dcis_from who c k (place + 1))

abbrev pub dcis_of : Owner → Device → List ℕ
dcis_of who d = dcis_from who (endpoint_map_in d) PLACES 0

-- A Stop for each.
unfoldable pub stops : List ℕ → List ℕ
stops [] = []
stops (dci ∷ dcis) = stop dci ∷ stops dcis

-- A ReadConfig for each of k configurations from index i on.
unfoldable pub reads_of : ℕ → ℕ → List ℕ
reads_of zero i = []
reads_of (suc k) i = read_config i ∷ reads_of k (i + 1)

-- The whole log of an accepted call: no command more, none less, none in another place.
unfoldable pub accepted_words : Asked → Device → List ℕ
accepted_words (brings_up a) d =
    address ∷ read_header ∷ evaluate ∷ read_configuration ∷ read_device
    ∷ cond (eqb (length a.list) 0) []
    (reads_of (configurations a.list) 0 ++ (configure ∷ set_value (configuration_value (get_or a.list 0 0)) ∷ evaluate ∷ []))
accepted_words (claims interface alternate) d =
    stops (dcis_of (Interface interface) d) ++ (configure ∷ set_interface interface alternate ∷ [])
accepted_words (commits p) d =
    stops (dcis_of (Interface p.interface) d) ++ (configure ∷ set_interface p.interface p.alternate ∷ [])
accepted_words (releases interface) d = stops (dcis_of (Interface interface) d) ++ (configure ∷ [])
accepted_words (configures value) d =
    stops (dcis_of Any d) ++ (configure ∷ set_value value ∷ evaluate ∷ [])
accepted_words (updates_hub ports multi ns) d = evaluate ∷ []
accepted_words disconnects d = stop 1 ∷ stops (dcis_of Any d) ++ (disable ∷ [])

abbrev pub AcceptedLog : Type 0
AcceptedLog =
    (c : Call) (d : Device) (routes : List ℕ) →
    let l = left c.asked c.buffers d routes in
    l.answer ≡ answer.Accepted → take l.count l.log ≡ accepted_words c.asked d

-- Any other call, accepted or not, logs the same words as long as its commands are done, and then the one that is not.
abbrev pub LogBegins : Type 0
LogBegins =
    (c : Call) (d : Device) (routes : List ℕ) (i : ℕ) →
    let l = left c.asked c.buffers d routes in
    i < l.count → AllDone c.buffers.outcomes i → get_or l.log i 0 ≡ get_or (accepted_words c.asked d) i 0
