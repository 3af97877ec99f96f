-- The worked answers of specs/Cameras.antt.
use mathlib.Core.Path.{refl}
use Rattle.laws.specs.Distinct.{elem}
use Rattle.def.specs.Speed.{speed_known, is_super}
use Rattle.descriptor.specs.Word.{is_companion, kind, configuration_value, interface_number, alternate_setting, direction_in, endpoint_number, type_number, transfer_type, companion_burst, companion_mult, companion_bytes, with_companion, companion_of, endpoint_descriptor, endpoint_ok, word_ok, companion_ok}
use Rattle.descriptor_list.specs.Lookup.{endpoint_run, of_interface}
use Rattle.descriptor_list.specs.Valid.{begins_with_configuration, words_ok, run_fits, runs_fit, configurations, has_interface, last_alternate, interfaces, valid_list}
use Rattle.descriptor_list.specs.Companions.{joined_word, joined, companions_ok, list_ok, mult_room, follows, paired_after, paired, companions_fit}
use Rattle.function_answer.specs.Answer.{number}
use Rattle.descriptor_raw.specs.Descriptor.{size_of}
use Rattle.descriptor_raw.specs.Claims.{up_to, bytes_of, interface_numbers, endpoints, distinct_count, bytes_after, interfaces_after, endpoints_after}
use Rattle.descriptor_raw.specs.Words.{configuration_word, alternate_word, endpoint_word, companion_word}
use Rattle.descriptor_raw.specs.Read.{cut, descriptors, whole, borne_out, all_whole, all_borne_out, well_formed, words_of, all_words, is_isochronous, settled_word, settled_after, read_words, burst_fits, bursts_fit, read_descriptors}
use Rattle.descriptor_raw.specs.Write.{configuration_descriptor, interface_descriptor, endpoint_bytes, companion_descriptor, word_packets, descriptor_of, all_descriptors, joined as together, written_bytes, packets_given, write_descriptors}
use Rattle.descriptor_raw.specs.Cameras.{ReadExamples, WriteExamples}

read : ReadExamples
unfolding number speed_known is_super size_of up_to bytes_of interface_numbers endpoints distinct_count bytes_after interfaces_after endpoints_after elem kind interface_number direction_in endpoint_number type_number companion_mult with_companion endpoint_ok word_ok companion_ok endpoint_run of_interface begins_with_configuration words_ok run_fits runs_fit configurations has_interface last_alternate interfaces valid_list joined_word joined companions_ok list_ok mult_room follows paired_after paired companions_fit is_companion read_descriptors cut descriptors whole borne_out all_whole all_borne_out well_formed words_of all_words is_isochronous settled_word settled_after read_words burst_fits bursts_fit configuration_word alternate_word endpoint_word companion_word
read = (refl, refl, refl, refl, refl, refl, refl, refl, refl, refl, refl, refl, refl, refl, refl, refl, refl, refl, refl, refl, refl, refl, refl, refl, refl, refl, refl, refl, refl)

write : WriteExamples
unfolding number speed_known is_super size_of up_to bytes_of interface_numbers endpoints distinct_count bytes_after interfaces_after endpoints_after elem kind interface_number direction_in endpoint_number type_number companion_mult with_companion endpoint_ok word_ok companion_ok endpoint_run of_interface begins_with_configuration words_ok run_fits runs_fit configurations has_interface last_alternate interfaces valid_list joined_word joined companions_ok list_ok mult_room follows paired_after paired companions_fit is_companion write_descriptors configuration_descriptor interface_descriptor endpoint_bytes companion_descriptor word_packets descriptor_of all_descriptors together written_bytes packets_given configuration_value alternate_setting transfer_type companion_burst companion_bytes companion_of endpoint_descriptor
write = (refl, refl, refl, refl, refl, refl, refl, refl, refl, refl, refl, refl, refl, refl, refl, refl, refl, refl, refl, refl)
