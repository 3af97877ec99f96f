-- An alternate that is not found has no words.
use Rattle.std.specs.Prelude.{◌≡◌, refl, false, List, [], Option, Some, None, ℕ}
use mathlib.Core.Bool.{true≢false}
use native.Mathlib.Omega.{arith}
use borrow.Author.Tests.{le-leb}
use Rattle.descriptor_list.specs.declared.EndpointWords.{EndpointWords}
use Rattle.descriptor_list.specs.Lookup.{find_endpoints}
use Rattle.record_settings.specs.Held.{is_found, found_words, setting_words}
use Rattle.record_settings.specs.Match.{addresses_free}
use Rattle.theorem_cases.specs.Faults.{NotFoundAlone}

no_words : (found : Option EndpointWords) (list : List ℕ) → is_found found ≡ false → found_words found list ≡ []
unfolding found_words
no_words None list e = refl
no_words (Some f) list e = absurd (true≢false e)

pub not_found_alone : NotFoundAlone
unfolding setting_words addresses_free
not_found_alone list interface alternate c free e =
    let none = no_words (find_endpoints list interface alternate) list e in
    (rw none refl, rw none (le-leb 0 free (omega arith)))
