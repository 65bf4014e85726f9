-- The worked list of accesses, by computation.
use mathlib.Core.Path.{refl}
use Rattle.machine.specs.Elements.{◌then◌, element_at, weight_process, weight, weight_state, depth, process_depth, nesting}
use Rattle.machine.specs.Tests.{fits}
use Rattle.machine.specs.Positions.{locate, position, replace_at}
use Rattle.machine.specs.Stepping.{move_process, move_of, move_in, within12, limited, within11, perform, step_at, step_within}
use Rattle.machine.specs.Pairs.{walk, blocked_pair}
use Rattle.buffers.specs.Words.{word, field}
use Rattle.format.specs.Spelling.{encode}
use Rattle.format.specs.Reading.{map_outcome, shift, and_then, open_field, whole, read_field, shape_of, read_parts, read_process, read_count}
use Rattle.elements.specs.Spelling.{encode_elements, encode_state}
use Rattle.states.specs.Reading.{open_element, element_shape, element_parts, read_element, read_up_to, read_elements, ends, state_rest, state_body, parse_state, unpaired, read_within}
use Rattle.buffers.specs.Buffers.{fits_in, fitting}
use Rattle.weighing.specs.Weighing.{weigh}
use Rattle.machine.specs.Lowest.{partner_of}
use Rattle.calls.specs.Steps.{stepped, step_read, step_bytes}
use Rattle.cases.specs.Examples.{bare_state, empty_state}
use Rattle.panel.specs.Access.{result_weight}
use Rattle.accesses.specs.Accesses.{command_of, calling, calls_of, present_after, answers_of, answers_from}
use Rattle.accesses.specs.Registers.{told_by, told_at, rest_at, told_after, keyed_after, line_at, seen_in}
use Rattle.accesses.specs.Examples.{buffer, enough, too_short, session, SessionHolds}

pub session_holds : SessionHolds
unfolding ◌then◌ element_at weight_process weight weight_state depth process_depth nesting fits locate position replace_at move_process move_of move_in within12 limited within11 perform step_at step_within walk blocked_pair word field encode map_outcome shift and_then open_field whole read_field shape_of read_parts read_process read_count encode_elements encode_state open_element element_shape element_parts read_element read_up_to read_elements ends state_rest state_body parse_state unpaired read_within fits_in fitting weigh partner_of stepped step_read step_bytes bare_state empty_state command_of calling calls_of present_after answers_of answers_from buffer enough too_short session result_weight told_by told_at rest_at told_after keyed_after line_at seen_in
session_holds = (refl, refl, refl)
