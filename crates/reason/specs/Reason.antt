-- Why a claim, or a commit, got its answer, from what it left: its record, its answer's number, the words that it logged, and the outcomes.
use Rattle.std.specs.Prelude.{ℕ, ◌+◌, ◌%◌, ◌^◌, cond, ◌||◌, List, [], ◌∷◌, eqb, get_or}
use Rattle.descriptor.specs.Word.{endpoint_descriptor}
use Rattle.record_endpoint.specs.Order.{place_of}
use Rattle.record_endpoint.specs.declared.endpoint_map.EndpointMap.{EndpointMap}
use Rattle.record_settings.specs.Held.{setting_words}
use Rattle.record_settings.specs.Match.{address_free}
use Rattle.device.specs.declared.record.Device.{Device}
use Rattle.device.specs.Device.{list_of, endpoint_map_in}
use Rattle.device.specs.Sound.{sound}
use Rattle.reason.specs.declared.Reason.{Reason}
use Rattle.reason.specs.declared.Reason.TheVariants.{Nothing, Alternate, Endpoint, Rings, Command, Number}

-- The interface that owns the address of an endpoint word.
unfoldable pub owner_of : ℕ → EndpointMap → ℕ
owner_of w c = get_or c.owners (place_of (endpoint_descriptor w).address) 0

-- The first word whose address another interface owns, with its owner: the word of the list, without its companion.
unfoldable pub first_owned : List ℕ → ℕ → EndpointMap → Reason
first_owned [] i c = Number 9
first_owned (w ∷ ws) i c = cond (address_free w i c) (first_owned ws i c) (Endpoint (w % 2 ^ 32) (owner_of w c))

-- The same of the words of an alternate, by a record. One that is not sound refuses no claim for an owner.
unfoldable pub owned_reason : Device → ℕ → ℕ → Reason
owned_reason d i a = cond (sound d) (first_owned (setting_words (list_of d) i a) i (endpoint_map_in d)) (Number 9)

-- The first of some logged words, the n-th and on, whose outcome is not 0; where there is none, the answer's number.
unfoldable pub first_failed : List ℕ → ℕ → List ℕ → ℕ → Reason
first_failed o n [] number = Number number
first_failed o n (w ∷ ws) number = cond (eqb (get_or o n 0) 0) (first_failed o (n + 1) ws number) (Command n w)

unfoldable pub claim_reason : Device → ℕ → ℕ → ℕ → List ℕ → List ℕ → Reason
claim_reason d i a number words o =
    cond (eqb number 0) Nothing
    (cond (eqb number 8) (Alternate i a)
    (cond (eqb number 9) (owned_reason d i a)
    (cond (eqb number 13 || eqb number 14) (first_failed o 0 words number)
    (cond (eqb number 21) Rings
    (Number number)))))
