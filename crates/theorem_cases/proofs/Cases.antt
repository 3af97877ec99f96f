-- 01's worked examples hold, and so do the lists of calls, every path of each call, the order of checks and a call for each
-- answer; what is wrong does not.
use Rattle.std.specs.Prelude.{ℕ, ◌≡◌, refl, Bool, true, false, List, ◌++◌}
use Rattle.def.specs.Speed.{speed_known, first_packet_size, is_super, exponent_ok, header_packet_size}
use Rattle.laws.specs.Distinct.{elem, distinct}
use Rattle.hub.specs.HubWord.{hub_info, hub_at}
use Rattle.hub.specs.Chain.{hub_fits, chain_from, chain_ok}
use Rattle.hub.specs.Route.{ports, clamp, route_string}
use Rattle.hub.specs.Route as hub-route
use Rattle.hub.specs.ThinkTime.{think_time}
use Rattle.descriptor.specs.Word.{direction_in, endpoint_number, type_number, transfer_type, companion_burst, companion_mult, companion_bytes, with_companion, companion_of, endpoint_descriptor, kind, is_companion, configuration_value, interface_number, alternate_setting, endpoint_ok, companion_ok, word_ok}
use Rattle.descriptor.specs.Endpoint.{dci_of, endpoint_type, held_exponent, periodic_interval, isochronous_interval, xhci_interval, is_periodic, periodic_burst, esit_payload}
use Rattle.descriptor_list.specs.Lookup.{endpoint_run, of_interface, is_alternate, find_from, find_endpoints}
use Rattle.descriptor_list.specs.Valid.{begins_with_configuration, words_ok, run_fits, runs_fit, configurations, has_interface, last_alternate, interfaces, valid_list}
use Rattle.descriptor_list.specs.Companions.{joined_word, joined, companions_ok, list_ok, mult_room, follows, paired_after, paired, companions_fit, valid_at}
use Rattle.context_field.specs.Field.{word_at, put_word, read_field, with_bits, write_field}
use Rattle.transfer.specs.Routes.{queues, ring_for, route_index, route_of, with_route, without_slot, registered, with_registered, names, old_match, is_free, new_free, replaced, cleared, published, moved, with_replaced}
use Rattle.record_ring.specs.Rings.{ring_ok, rings_ok, not_among, entered}
use Rattle.record_ring.specs.Store.{given_ok, among, inserted, sorted, lowest, least, free_rings}
use Rattle.context_block.specs.Blocks.{changed, ring_fields, error_count, periodic_fields, burst_of, basic_fields, plain_fields, companion_fields, endpoint_fields, word_dci, some_dci, drop_flags, address_slot, address_endpoint}
use Rattle.context_block.specs.Flags.{flags_below, flags_of}
use Rattle.context.specs.Place.{in_block, on_part, write_at, written, block_at, read_at, spacing_of}
use Rattle.context.specs.Steps.{address_context, address_writes, max_packet_writes, add_writes, add_all, highest_dci, word_dcis, staying, context_entries, configure_writes}
use Rattle.command.specs.Command.{command_word, outcome_at}
use Rattle.command.specs.Course.{on_sent, then, words, result, played}
use Rattle.command.specs.Sweep.{resume_from, resume_stopped_endpoints, or_code, undo_stops, stop_from, stop_endpoints, stop_each}
use Rattle.answer.specs.Answer.{number, code_of}
use Rattle.record_endpoint.specs.EndpointMap.{no_endpoints, with_endpoint, is_active, handle_of, endpoint_map_from, endpoint_map_of, gathered, endpoint_at, endpoints_of, owners_of, owns, is_owned, tabulated, owned_rings, queues_of, pending_from, pending_rings, claimed_ring, claimed_owner, claimed_active, claimed_endpoints, active_from, with_active, queue_dcis, queue_rings}
use Rattle.record_endpoint.specs.Endpoint.{addresses, rings_of, addresses_fit, padded}
use Rattle.record_endpoint.specs.Order.{address_at, dci_at, place_of}
use Rattle.record_settings.specs.Held.{held_in, interfaces_of, alternates_of, is_held, alternate_of, held_alternate, without_setting, with_setting, found_words, setting_words, held_words, each_setting, all_found, settings_sound}
use Rattle.record_settings.specs.Match.{has_place, places_of, agree, each_from, each_place, owns_places, all_own, owners_held, endpoints_match, address_free, addresses_free}
use Rattle.course_steps.specs.End as course-end
use Rattle.course_steps.specs.End.{is_unanswered, answer_of, configure_failed}
use Rattle.course_release.specs.Release.{release_context, release_publish, release_resume, release_configure, release_course}
use Rattle.course_claim.specs.Claim.{claim_context, undo_context, claim_publish, claim_switch_back, claim_undone, claim_undo, claim_switch, claim_resume, claim_configure, claim_course}
use Rattle.course_set_configuration.specs.SetConfiguration.{drop_context, restore_context, value_context, set_evaluate, set_published, set_publish, set_restored, set_restore, set_switch, set_resume, set_configure, set_course}
use Rattle.device.specs.Calls.{on_check, hub_context, hub_course, hub_left, hub_update}
use Rattle.record_checks.specs.Think.{is_thought, think_value}
use Rattle.record_checks.specs.Draw.{same_rings}
use Rattle.record_checks.specs.Rings.{each_once}
use Rattle.device.specs.Check.{check_marked, record_check, disconnect_check, hub_check}
use Rattle.device.specs.Claim.{claim_check, drawn, pending_of, claim_in, claim_record, claim}
use Rattle.course_disconnect.specs.Disconnect.{disable, disconnect_course}
use Rattle.device.specs.Disconnect.{all_revoked, unplugged, rings_in_doubt, disconnect_record, disconnect}
use Rattle.device.specs.Device.{words_of, list_of, endpoint_map_in, held_of, quarantined_of, given_of, free_of, with_endpoints, with_held, no_device, with_configuration, with_quarantined, unusable, quarantines}
use Rattle.device.specs.Ask.{ask, returned, ask_of, ask_check, same_ask, current_check, commit}
use Rattle.device.specs.Left.{refused, marked, ended}
use Rattle.device.specs.Release.{release_check, release_in, release_record, release}
use Rattle.device.specs.SetConfiguration.{settings_in, bare, ended_by, set_record, set_configuration}
use Rattle.device.specs.Sound.{slot_sound, counts_fit, lists_sound, live_rings, rings_sound, store_sound, sound}
use Rattle.course_init.specs.Reading.{control_ring, first_configurations, nothing_read, read_up_to}
use Rattle.course_init.specs.Init.{step, bring_up_settings, bring_up_set, bring_up_configs, bring_up_device, bring_up_header, bring_up_configuration, bring_up_packet, bring_up_address}
use Rattle.device_bring_up.specs.BringUp.{bring_up_check, bring_up_course, brought_record, brought_left, bring_up, slot_check, device_check, queue_check}
use Rattle.theorem_controller.specs.Controller.{is_done, controlled, enabled_after, done_word, sent_word}
use Rattle.theorem_controller.specs.Controller as controller
use Rattle.theorem_slot.specs.Call.{cut_at, context_cut, left}
use Rattle.theorem_slot.specs.Groups.{given_groups, chosen, drawn_from, keeps, claimed_groups, broken_groups, returned_groups, ended_groups, freed_groups, doubted_groups}
use Rattle.theorem_slot.specs.Plain.{held_queues, plain_route, is_held_dci, without, queues_of_one, setting_of, claimed_setting, effect_of, held_after, groups_after, is_up, is_unplugged, begun, emptied, failed, anew, observed, seen}
use Rattle.theorem_slot.specs.Theorem.{record_after, called, start}
use Rattle.theorem_doubt.specs.Doubt.{ring_at, acts, addressed_rings, configured_rings, rings_after, watched, unborn}
use Rattle.theorem_calls.specs.Possible.{answers_of}
use Rattle.theorem_cases.specs.Holds.{holds}
use Rattle.theorem_cases.proofs.Wrong.{any, wrong_cases, wrong_lists, wrong_rings, wrong_paths, wrong_orders, wrong_answers}
use Rattle.theorem_device_state.specs.DeviceState.{nothing_known, interface_set, configuration_set, configuration_read, device_after, device_told}
use Rattle.theorem_device_state.specs.Theorem.{value_read, device_heard, device_called}

abbrev wrong : (ring : ℕ) → List Bool
wrong ring = wrong_cases ring ++ (wrong_lists ++ (wrong_rings ++ (wrong_paths ++ (wrong_orders ++ wrong_answers))))

-- What holds and what does not, both computed.
computed : (ring : ℕ) → (holds ring ≡ true) × (any (wrong ring) ≡ false)
unfolding hub-route.route_of_ports speed_known hub_info hub_at hub_fits chain_from chain_ok ports clamp route_of route_string think_time direction_in endpoint_number type_number transfer_type companion_burst companion_mult companion_bytes with_companion companion_of endpoint_descriptor dci_of endpoint_type periodic_interval xhci_interval is_periodic periodic_burst esit_payload word_at put_word read_field with_bits write_field queues ring_for changed ring_fields error_count periodic_fields burst_of basic_fields plain_fields companion_fields endpoint_fields word_dci some_dci drop_flags in_block on_part write_at written block_at read_at add_writes add_all highest_dci word_dcis staying context_entries configure_writes first_packet_size header_packet_size kind is_companion companion_ok configuration_value interface_number alternate_setting endpoint_ok word_ok endpoint_run of_interface is_alternate find_from find_endpoints begins_with_configuration words_ok run_fits runs_fit configurations has_interface last_alternate interfaces valid_list joined_word joined companions_ok list_ok mult_room follows paired_after paired companions_fit valid_at route_index with_route registered with_registered names old_match is_free new_free replaced cleared published course-end.published moved with_replaced command_word outcome_at on_sent then words result played resume_from resume_stopped_endpoints or_code undo_stops stop_from stop_endpoints stop_each without_slot disable disconnect_course all_revoked unplugged rings_in_doubt disconnect_record disconnect is_up is_unplugged emptied failed number code_of ring_ok rings_ok given_ok among inserted sorted lowest least free_rings no_endpoints with_endpoint is_active handle_of endpoint_map_from endpoint_map_of gathered endpoint_at endpoints_of owners_of owns is_owned tabulated owned_rings queues_of pending_from pending_rings claimed_ring claimed_owner claimed_active claimed_endpoints active_from with_active queue_dcis queue_rings addresses addresses_fit padded address_at dci_at place_of held_in interfaces_of alternates_of is_held alternate_of held_alternate without_setting with_setting found_words setting_words held_words each_setting all_found settings_sound has_place places_of agree each_from each_place owns_places all_own owners_held endpoints_match addresses_free answer_of configure_failed release_context release_publish release_resume release_configure release_course claim_context undo_context claim_publish claim_switch_back claim_undone claim_undo claim_switch claim_resume claim_configure claim_course drop_context restore_context value_context set_evaluate set_published set_publish set_restored set_restore set_switch set_resume set_configure set_course on_check think_value hub_context hub_course hub_left hub_update check_marked record_check disconnect_check is_thought hub_check claim_check drawn pending_of claim_in quarantines claim_record claim flags_below flags_of same_rings ask_of ask_check same_ask current_check commit words_of list_of endpoint_map_in held_of quarantined_of given_of free_of with_endpoints with_held with_configuration with_quarantined unusable refused marked ended release_check release_in release_record release settings_in bare set_record set_configuration slot_sound counts_fit lists_sound rings_of live_rings not_among entered each_once rings_sound store_sound sound spacing_of bring_up_check step control_ring first_configurations nothing_read read_up_to bring_up_settings bring_up_set bring_up_configs bring_up_device bring_up_header bring_up_course brought_record no_device brought_left bring_up elem distinct left controller.configured is_done controlled enabled_after done_word held_queues plain_route is_held_dci without setting_of claimed_setting queues_of_one given_groups chosen drawn_from keeps claimed_groups broken_groups returned_groups freed_groups doubted_groups groups_after effect_of held_after begun anew observed cut_at context_cut called start slot_check device_check queue_check bring_up_configuration bring_up_packet bring_up_address seen address_free record_after held_exponent isochronous_interval is_super exponent_ok nothing_known interface_set configuration_set configuration_read device_after device_told value_read device_heard device_called ask returned answers_of is_unanswered ended_by sent_word ended_groups ring_at acts addressed_rings configured_rings rings_after watched unborn address_context address_writes address_endpoint address_slot max_packet_writes
computed ring = (refl, refl)

pub all_hold_lem : (ring : ℕ) → holds ring ≡ true
all_hold_lem ring = (computed ring).0

pub none_holds_lem : (ring : ℕ) → any (wrong ring) ≡ false
none_holds_lem ring = (computed ring).1
