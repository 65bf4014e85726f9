-- The table of worked sweeps holds by computation.
use mathlib.Core.Path.{refl}
use Rattle.calculus.specs.Names.{names_of_reference, names_of_all, names_of_action, names_of_process}
use Rattle.machine.specs.Names.{names}
use Rattle.machine.specs.Frames.{list_of, index_of, outer, holder, position_of, put}
use Rattle.machine.specs.Answers.{called, aimed, matches, holder_if, want_of, when, beyond, throughout, itself, answers_in, admits, contained, answers_among, arena, allowed, look, look_from, seek}
use Rattle.machine.specs.Kinds.{channel, count, kind_of, kind_number, answering, standing_of, inside_only, names_holder, target}
use Rattle.machine.specs.Pairs.{sending, walk, any, blocked_pair}
use Rattle.machine.specs.Cases.{boxes}
use Rattle.calculus.specs.Processes.{binders}
use Rattle.machine.specs.Elements.{◌before◌, ◌then◌}
use Rattle.buffers.specs.Words.{word, field}
use Rattle.buffers.specs.Buffers.{fits_in, fitting}
use Rattle.format.specs.Spelling.{reference_number, encode_reference, encode_references, encode_action, encode}
use Rattle.format.specs.Kinds.{kind_at, tag_kind, reference_count, directed_of, handed_count, binder_count, implied_count, tag_of, tag_with, count_bytes, action_tag, address_of, handed, reference_at, action_from}
use Rattle.format.specs.Reading.{map_outcome, shift, and_then, open_field, whole, read_field, reference_of, read_reference, read_references, read_spelled_count, read_name_count, read_action_parts, read_action, read_acting, shape_of, read_parts, read_process, read_count}
use Rattle.elements.specs.Spelling.{ambient_tag, encode_elements, encode_state}
use Rattle.states.specs.Reading.{open_element, element_shape, element_parts, read_element, read_up_to, read_elements, read_ambient, ends, state_rest, state_body, parse_state, unpaired, read_within}
use Rattle.removals.specs.Sweeping.{occurrences, clearable, unless_cleared, sweep_by, sweep, sweep_state}
use Rattle.sweeping.specs.Sweeping.{sweep_read, sweep_bytes}
use Rattle.sweeping.specs.Cases.{AllSweep, boxed, cleared, nested, awaited, table, TableSweeps}

pub table_sweeps : TableSweeps
unfolding names_of_reference names_of_all names_of_action names_of_process names list_of index_of outer holder position_of put called aimed matches holder_if want_of when beyond throughout itself answers_in admits contained answers_among arena allowed look look_from seek channel count kind_of kind_number answering standing_of inside_only names_holder target sending walk any blocked_pair binders ◌before◌ ◌then◌ word field fits_in fitting reference_number encode_reference encode_references encode_action encode kind_at tag_kind reference_count directed_of handed_count binder_count implied_count tag_of tag_with count_bytes action_tag address_of handed reference_at action_from map_outcome shift and_then open_field whole read_field reference_of read_reference read_references read_spelled_count read_name_count read_action_parts read_action read_acting shape_of read_parts read_process read_count ambient_tag encode_elements encode_state open_element element_shape element_parts read_element read_up_to read_elements read_ambient ends state_rest state_body parse_state unpaired read_within occurrences clearable unless_cleared sweep_by sweep sweep_state sweep_read sweep_bytes AllSweep boxed cleared nested awaited table boxes
table_sweeps = (refl, (refl, (refl, (refl, (refl, (refl, (refl, (refl, (refl, (refl, tt))))))))))
