-- The examples of specs/Examples.antt.
use mathlib.Core.Path.{refl}
use Rattle.laws.specs.Distinct.{elem}
use Rattle.descriptor.specs.Word.{kind, interface_number, alternate_setting, direction_in, endpoint_number, type_number, transfer_type, endpoint_descriptor}
use Rattle.descriptor.specs.Endpoint.{dci_of, held_exponent, periodic_interval}
use Rattle.descriptor_configuration.specs.Words.{up_to_configuration}
use Rattle.descriptor_list.specs.Lookup.{endpoint_run, of_interface, is_alternate, find_from, find_endpoints}
use Rattle.record_settings.specs.Held.{found_words, setting_words}
use Rattle.context_block.specs.Blocks.{word_dci, some_dci}
use Rattle.context_block.specs.Flags.{flags_below, flags_of}
use Rattle.choice_search.specs.Search.{with_place, or_else, pick_one, pick}
use Rattle.choice_list.specs.Candidate.{first_length, short_as, is_short, all_short, found_at, words_at, is_candidate}
use Rattle.choice_list.specs.Tried.{may_choose, candidates_from, candidates, new_names}
use Rattle.choice_list.specs.Examples.{CandidateExamples, PickExamples}

candidate_examples : CandidateExamples
unfolding kind interface_number alternate_setting direction_in endpoint_number type_number transfer_type endpoint_descriptor held_exponent periodic_interval up_to_configuration endpoint_run of_interface is_alternate find_from find_endpoints found_words setting_words first_length short_as is_short all_short found_at words_at is_candidate
candidate_examples = (refl, refl, refl, refl, refl, refl, refl, refl, refl)

pick_examples : PickExamples
unfolding elem kind interface_number alternate_setting direction_in endpoint_number type_number transfer_type endpoint_descriptor dci_of held_exponent periodic_interval up_to_configuration endpoint_run of_interface is_alternate find_from find_endpoints found_words setting_words word_dci some_dci flags_below flags_of with_place or_else pick_one pick first_length short_as is_short all_short found_at words_at may_choose candidates_from candidates new_names
pick_examples = (refl, refl, refl, refl, refl, refl)
