-- The examples of specs/Examples.antt.
use mathlib.Core.Path.{refl}
use Rattle.def.specs.Speed.{speed_known, is_super}
use Rattle.descriptor.specs.Word.{kind, is_companion, companion_ok, companion_mult, with_companion, configuration_value, interface_number, alternate_setting, direction_in, endpoint_number, type_number, endpoint_ok, word_ok}
use Rattle.descriptor_list.specs.Lookup.{endpoint_run, of_interface, is_alternate}
use Rattle.descriptor_list.specs.Valid.{begins_with_configuration, words_ok, run_fits, runs_fit, configurations, has_interface, last_alternate, interfaces, valid_list}
use Rattle.descriptor_list.specs.Companions.{joined_word, joined, companions_ok, list_ok, mult_room, follows, paired_after, paired, companions_fit}
use Rattle.function_answer.specs.Answer.{on_check}
use Rattle.settings_form.specs.Bits.{bits, number_of, all_bits, bytes_from}
use Rattle.settings_form.specs.Form.{new_form, value_in, count_in, pairs_in, is_new_form}
use Rattle.descriptor_configuration.specs.Words.{up_to_configuration}
use Rattle.settings_form.specs.Held.{is_configuration, configuration_words, pairs_held, held_in, settings_held}
use Rattle.settings_form.specs.Convert.{list_check, first_value, to_new, to_old}
use Rattle.settings_form.specs.Examples.{alternates, pairs, NewExamples, OldExamples, FullExamples, SpeedExamples}

new_examples : NewExamples
unfolding alternates pairs bits number_of all_bits bytes_from new_form value_in count_in pairs_in is_new_form up_to_configuration is_configuration configuration_words pairs_held held_in settings_held list_check first_value to_new to_old on_check list_ok companions_fit companions_ok joined_word joined mult_room follows paired_after paired speed_known is_super is_companion companion_ok companion_mult with_companion valid_list begins_with_configuration words_ok run_fits runs_fit configurations has_interface last_alternate interfaces of_interface is_alternate endpoint_run kind configuration_value interface_number alternate_setting direction_in endpoint_number type_number endpoint_ok word_ok
new_examples = (refl, refl, refl, refl, refl, refl, refl, refl, refl, refl, refl, refl, refl)

old_examples : OldExamples
unfolding alternates pairs bits number_of all_bits bytes_from new_form value_in count_in pairs_in is_new_form up_to_configuration is_configuration configuration_words pairs_held held_in settings_held list_check first_value to_new to_old on_check list_ok companions_fit companions_ok joined_word joined mult_room follows paired_after paired speed_known is_super is_companion companion_ok companion_mult with_companion valid_list begins_with_configuration words_ok run_fits runs_fit configurations has_interface last_alternate interfaces of_interface is_alternate endpoint_run kind configuration_value interface_number alternate_setting direction_in endpoint_number type_number endpoint_ok word_ok
old_examples = (refl, refl, refl, refl, refl, refl, refl, refl, refl, refl, refl, refl, refl, refl, refl, refl, refl, refl, refl, refl)

full_examples : FullExamples
unfolding alternates pairs bits number_of all_bits bytes_from new_form value_in count_in pairs_in is_new_form up_to_configuration is_configuration configuration_words pairs_held held_in settings_held list_check first_value to_new to_old on_check list_ok companions_fit companions_ok joined_word joined mult_room follows paired_after paired speed_known is_super is_companion companion_ok companion_mult with_companion valid_list begins_with_configuration words_ok run_fits runs_fit configurations has_interface last_alternate interfaces of_interface is_alternate endpoint_run kind configuration_value interface_number alternate_setting direction_in endpoint_number type_number endpoint_ok word_ok
full_examples = (refl, refl, refl)

speed_examples : SpeedExamples
unfolding alternates pairs bits number_of all_bits bytes_from new_form value_in count_in pairs_in is_new_form up_to_configuration is_configuration configuration_words pairs_held held_in settings_held list_check first_value to_new to_old on_check list_ok companions_fit companions_ok joined_word joined mult_room follows paired_after paired speed_known is_super is_companion companion_ok companion_mult with_companion valid_list begins_with_configuration words_ok run_fits runs_fit configurations has_interface last_alternate interfaces of_interface is_alternate endpoint_run kind configuration_value interface_number alternate_setting direction_in endpoint_number type_number endpoint_ok word_ok
speed_examples = (refl, refl, refl, refl, refl, refl, refl, refl, refl, refl, refl, refl, refl, refl, refl)
