-- The table of proved cases holds by computation.
use mathlib.Core.Path.{refl}
use Rattle.calculus.specs.Processes.{binders, raise, raise_by, lift, lift_by, rename_all, rename_action, rename, assign, reverse_onto, receive}
use Rattle.calculus.specs.Names.{names_of_reference, names_of_all}
use Rattle.machine.specs.Elements.{◌before◌, ◌then◌, into, size, place, element_at, unblock, weight_process, weight, weight_state, depth, process_depth, nesting}
use Rattle.machine.specs.Tests.{same, all_blocked, fits}
use Rattle.machine.specs.Kinds.{rule_of, side_of, channel, count, agree, kind_of, kind_number, answering, standing_of, inside_only, names_holder, target}
use Rattle.machine.specs.Positions.{locate, position, element_of, replace_at, replace_around}
use Rattle.machine.specs.Meetings.{found_alone, found_held, found_in, find, find_around, provided, join_held, join_alone, join, sender_first, receiver_first, behind, around, meet_from, meet, next_rule, meet_as, meet_place, succeeds, passing, partners}
use Rattle.machine.specs.Stepping.{move_ambient, move_process, move_of, move_in, within12, limited, within11, block_alone, met, perform, step_at, step_within}
use Rattle.machine.specs.Frames.{list_of, index_of, outer, holder, position_of, put}
use Rattle.machine.specs.Answers.{called, aimed, matches, holder_if, want_of, when, beyond, throughout, itself, answers_in, admits, contained, answers_among, arena, allowed, look, look_from, seek}
use Rattle.machine.specs.Pairs.{sending, walk, any, blocked_pair}
use Rattle.machine.specs.Cases.{restrictions, boxes, entering}
use Rattle.buffers.specs.Words.{word, field}
use Rattle.format.specs.Spelling.{reference_number, encode_reference, encode_references, encode_action, encode}
use Rattle.format.specs.Kinds.{kind_at, tag_kind, reference_count, directed_of, handed_count, binder_count, implied_count, tag_of, tag_with, count_bytes, action_tag, address_of, handed, reference_at, action_from}
use Rattle.format.specs.Reading.{map_outcome, shift, and_then, open_field, whole, read_field, reference_of, read_reference, read_references, read_spelled_count, read_name_count, read_action_parts, read_action, read_acting, shape_of, read_parts, read_process, read_count}
use Rattle.elements.specs.Spelling.{ambient_tag, encode_elements, encode_job, encode_state}
use Rattle.states.specs.Reading.{open_element, element_shape, element_parts, read_element, read_up_to, read_elements, read_ambient, ends, job_body, read_job, state_rest, state_body, parse_state, unpaired, read_within}
use Rattle.uses.specs.Uses.{targets, of_ambient, of_action, written, used, shared, mixed}
use Rattle.loaded.specs.Loading.{loaded, load_job, load}
use Rattle.buffers.specs.Buffers.{fits_in, fitting}
use Rattle.listing.specs.Listing.{words, list_read, list_bytes}
use Rattle.weighing.specs.Weighing.{weigh}
use Rattle.machine.specs.Lowest.{able, partners_of, partners_in, partner_of}
use Rattle.machine.specs.Ordered.{lowest, member}
use Rattle.partnering.specs.Partnering.{told, partners_read, partners_bytes}
use Rattle.calls.specs.Steps.{stepped, step_read, step_bytes}
use Rattle.cases.specs.Examples.{Holds, AllHold, null_job, null_state, empty_cabinet, bare_state, empty_state, restriction_at, two_blocked, two_ambients, adapter, deck, deck_behind, sends, hears, handing, taken, handing_beside, taken_beside, input_job, input_state, countless_job, output_job, cabinet, deck_runs, root_of, tells, listens, deck_as_channel, boxed, box_bytes, boxed_bytes, entered, table, TableHolds}

pub table_holds : TableHolds
unfolding binders raise raise_by lift lift_by rename_all rename_action rename assign reverse_onto receive ◌before◌ ◌then◌ into size place element_at unblock weight_process weight weight_state depth process_depth nesting same all_blocked fits rule_of side_of channel count agree kind_of kind_number answering standing_of inside_only names_holder target locate position element_of replace_at replace_around found_alone found_held found_in find find_around provided join_held join_alone join sender_first receiver_first behind around meet_from meet next_rule meet_as meet_place succeeds passing partners move_ambient move_process move_of move_in within12 limited within11 block_alone met perform step_at step_within list_of index_of outer holder position_of put called aimed matches holder_if want_of when beyond throughout itself answers_in admits contained answers_among arena allowed look look_from seek sending walk any blocked_pair word field reference_number encode_reference encode_references encode_action encode kind_at tag_kind reference_count directed_of handed_count binder_count implied_count tag_of tag_with count_bytes action_tag address_of handed reference_at action_from map_outcome shift and_then open_field whole read_field reference_of read_reference read_references read_spelled_count read_name_count read_action_parts read_action read_acting shape_of read_parts read_process read_count ambient_tag encode_elements encode_job encode_state open_element element_shape element_parts read_element read_up_to read_elements read_ambient ends job_body read_job state_rest state_body parse_state unpaired read_within loaded load_job load fits_in fitting words list_read list_bytes weigh partner_of stepped step_read step_bytes Holds AllHold restrictions boxes entering null_job null_state empty_cabinet bare_state empty_state restriction_at two_blocked two_ambients adapter deck deck_behind sends hears handing taken handing_beside taken_beside input_job input_state countless_job output_job cabinet deck_runs root_of tells listens deck_as_channel boxed box_bytes boxed_bytes entered table names_of_reference names_of_all targets of_ambient of_action written used shared mixed able partners_of partners_in lowest member told partners_read partners_bytes
table_holds = (refl, (refl, (refl, (refl, (refl, (refl, (refl, (refl, (refl, (refl, (refl, (refl, (refl, (refl, (refl, (refl, (refl, (refl, (refl, (refl, (refl, (refl, (refl, (refl, (refl, (refl, (refl, (refl, (refl, (refl, (refl, (refl, (refl, (refl, (refl, (refl, (refl, (refl, (refl, (refl, (refl, (refl, (refl, (refl, (refl, (refl, (refl, (refl, (refl, (refl, (refl, (refl, (refl, (refl, (refl, (refl, (refl, (refl, (refl, (refl, (refl, (refl, (refl, (refl, (refl, (refl, (refl, (refl, (refl, (refl, (refl, (refl, (refl, (refl, (refl, (refl, (refl, (refl, (refl, (refl, (refl, tt)))))))))))))))))))))))))))))))))))))))))))))))))))))))))))))))))))))))))))))))))
