-- Worked values of the definitions: lookup over two configurations, and each limit of a valid list with the list just past it.
use Prim.Native.Nat.{ℕ, zero, suc, ◌+◌, ◌*◌}
use mathlib.Core.Path.{◌≡◌, refl}
use mathlib.Core.Bool.{Bool, true, false}
use mathlib.Core.List.{List, [], ◌∷◌}
use Rattle.std.proofs.Common.{Some, None}
use lib.ListN.{replicate}
use Rattle.def.specs.Speed.{is_super}
use Rattle.descriptor.specs.Word.{kind, is_companion, companion_mult, companion_ok, with_companion, interface_number, alternate_setting, direction_in, endpoint_number, type_number, endpoint_ok, word_ok}
use Rattle.descriptor_list.specs.Lookup.{endpoint_run, of_interface, is_alternate, find_from, find_endpoints}
use Rattle.descriptor_list.specs.Valid.{begins_with_configuration, words_ok, run_fits, runs_fit, configurations, has_interface, last_alternate, interfaces, valid_list}
use Rattle.descriptor_list.specs.Companions.{joined_word, joined, companions_ok, list_ok, mult_room, follows, paired_after, paired, companions_fit}

abbrev configuration : ℕ → ℕ
configuration value = value * 0x400000

abbrev alternate : ℕ → ℕ → ℕ
alternate i a = 0x40000000 + i * 0x400000 + a * 0x4000

-- a bulk endpoint
abbrev endpoint : ℕ → ℕ
endpoint number = 0x80000000 + number * 0x2000000 + 0x1000000

two : List ℕ
two =
    configuration 1 ∷ alternate 0 0 ∷ endpoint 1 ∷ alternate 0 1 ∷ endpoint 2 ∷ endpoint 3
    ∷ configuration 2 ∷ alternate 0 1 ∷ endpoint 4 ∷ alternate 1 0 ∷ []

lookups :
    (find_endpoints two 0 1 ≡ Some (record { start = 4; count = 2 }))
    × (find_endpoints two 0 0 ≡ Some (record { start = 2; count = 1 }))
    × (find_endpoints two 1 0 ≡ Some (record { start = 10; count = 0 }))
    × (find_endpoints two 1 1 ≡ None)
unfolding two find_endpoints find_from is_alternate of_interface endpoint_run kind interface_number alternate_setting
lookups = (refl, refl, refl, refl)

-- so many interfaces, with one alternate each
alternates : ℕ → List ℕ
alternates zero = []
alternates (suc n) = alternate n 0 ∷ alternates n

limits :
    (valid_list [] ≡ true)
    × (valid_list two ≡ true)
    × (valid_list (alternate 0 0 ∷ []) ≡ false)
    × (valid_list (configuration 1 ∷ endpoint 1 ∷ []) ≡ false)
    × (valid_list (configuration 1 ∷ alternate 0 0 ∷ replicate 30 (endpoint 1)) ≡ true)
    × (valid_list (configuration 1 ∷ alternate 0 0 ∷ replicate 31 (endpoint 1)) ≡ false)
    × (valid_list (replicate 8 (configuration 1)) ≡ true)
    × (valid_list (replicate 9 (configuration 1)) ≡ false)
    × (valid_list (configuration 1 ∷ alternates 32) ≡ true)
    × (valid_list (configuration 1 ∷ alternates 33) ≡ false)
    × (valid_list (configuration 1 ∷ replicate 33 (alternate 0 0)) ≡ true)
    × (valid_list (configuration 1 ∷ replicate 255 (alternate 0 0)) ≡ true)
    × (valid_list (configuration 1 ∷ replicate 256 (alternate 0 0)) ≡ false)
unfolding two alternates valid_list begins_with_configuration words_ok run_fits runs_fit configurations has_interface last_alternate interfaces of_interface endpoint_run kind interface_number direction_in endpoint_number type_number endpoint_ok word_ok
limits = (refl, refl, refl, refl, refl, refl, refl, refl, refl, refl, refl, refl, refl)

-- an isochronous endpoint
abbrev isochronous : ℕ → ℕ
isochronous number = 0x80000000 + number * 0x2000000 + 0x800000

-- its burst and mult
abbrev companion : ℕ → ℕ → ℕ
companion burst mult = 0xC0000000 + burst * 0x4000000 + mult * 0x1000000

-- Of the words of one alternate: whether a list is in order but for where companions stand (else 4), and whether they stand right (else 26).
abbrev judged : ℕ → List ℕ → Bool × Bool
judged speed ws =
    let list = configuration 1 ∷ alternate 0 0 ∷ ws in
    (list_ok speed list, companions_fit speed list)

pairs : ℕ → List ℕ
pairs zero = []
pairs (suc n) = endpoint 1 ∷ companion 0 0 ∷ pairs n

judgements :
    (judged 4 (endpoint 1 ∷ companion 15 0 ∷ []) ≡ (true, true))
    × (judged 5 (endpoint 1 ∷ endpoint 2 ∷ companion 0 0 ∷ []) ≡ (true, false))
    × (judged 4 (endpoint 1 ∷ []) ≡ (true, false))
    × (judged 4 (companion 0 0 ∷ []) ≡ (true, false))
    × (judged 4 (endpoint 1 ∷ companion 0 0 ∷ companion 0 0 ∷ []) ≡ (true, false))
    × (judged 4 (endpoint 1 ∷ companion 0 1 ∷ []) ≡ (true, false))
    × (judged 5 (isochronous 1 ∷ companion 0 2 ∷ []) ≡ (true, true))
    × (judged 4 (isochronous 1 ∷ companion 0 3 ∷ []) ≡ (true, false))
    × (judged 4 (endpoint 1 ∷ endpoint 2 ∷ (companion 0 0 + 1) ∷ []) ≡ (false, false))
    × (judged 3 (endpoint 1 ∷ companion 0 0 ∷ []) ≡ (false, true))
    × (judged 3 (endpoint 1 ∷ []) ≡ (true, true))
    × (judged 4 (pairs 30) ≡ (true, true))
    × (judged 4 (pairs 31) ≡ (false, true))
    × (list_ok 4 (companion 0 0 ∷ configuration 1 ∷ []) ≡ false)
    × (joined (endpoint 1 ∷ companion 1 0 ∷ endpoint 1 ∷ companion 2 0 ∷ [])
    ≡ (with_companion (endpoint 1) (companion 1 0) ∷ with_companion (endpoint 1) (companion 2 0) ∷ []))
unfolding pairs joined_word joined companions_ok list_ok mult_room follows paired_after paired companions_fit is_super is_companion companion_mult companion_ok with_companion valid_list begins_with_configuration words_ok run_fits runs_fit configurations has_interface last_alternate interfaces of_interface endpoint_run kind interface_number direction_in endpoint_number type_number endpoint_ok word_ok
judgements = (refl, refl, refl, refl, refl, refl, refl, refl, refl, refl, refl, refl, refl, refl, refl)
