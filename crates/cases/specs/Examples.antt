-- Document 01's proved cases P1 to P10 and those of document 02's requests, one table over the definitions that the contracts cite.
use Rattle.std.specs.Prelude.{◌≡◌, List, [], ◌∷◌, ◌++◌, ℕ, zero, suc, length}
use Rattle.std.proofs.Math.Option.{none, some}
use Rattle.calculus.specs.Processes.{Reference, name, variable, sibling_output, parent_output, internal_input, external_input, enter, leave, accept, release, Process, null, parallel, restriction, ambient, action, replication}
use Rattle.machine.specs.Elements.{Status, unblocked, blocked, Elements, empty, ambient_then, process_then, blocked_then, State, state}
use Rattle.machine.specs.Cases.{restrictions, boxes, entering}
use Rattle.buffers.specs.Words.{word, field}
use Rattle.format.specs.Reading.{Outcome, refused, got}
use Rattle.elements.specs.Spelling.{job, encode_job, encode_state}
use Rattle.states.specs.Reading.{read_state}
use Rattle.buffers.specs.Buffers.{Written, kept, wrote}
use Rattle.loaded.specs.Loading.{loaded, load}
use Rattle.listing.specs.Listing.{list_bytes}
use Rattle.weighing.specs.Weighing.{weigh}
use Rattle.machine.specs.Questions.{Tally}
use Rattle.partnering.specs.Partnering.{partners_bytes}
use Rattle.calls.specs.Steps.{step_bytes}

-- An example: a definition's answer on bytes, and what it has to be.
pub data Example : Type 0 where
  loads : (bytes : List ℕ) (room : ℕ) → Written ℕ (Unit {0}) → Example
  steps : (bytes : List ℕ) (place partner room : ℕ) → Written ℕ ℕ → Example
  reads : (bytes : List ℕ) → Outcome State → Example
  weighs : (bytes : List ℕ) → Outcome ℕ → Example
  counts : (bytes : List ℕ) (place : ℕ) → Outcome Tally → Example
  lists : (bytes : List ℕ) (room : ℕ) → Written ℕ (Unit {0}) → Example

unfoldable pub Holds : Example → Type 0
Holds (loads bytes room w) = load bytes room ≡ w
Holds (steps bytes p q room w) = step_bytes bytes p q room ≡ w
Holds (reads bytes o) = read_state bytes ≡ o
Holds (weighs bytes o) = weigh bytes ≡ o
Holds (counts bytes p o) = partners_bytes bytes p ≡ o
Holds (lists bytes room w) = list_bytes bytes room ≡ w

unfoldable pub AllHold : List Example → Type 0
AllHold [] = Unit {0}
AllHold (e ∷ es) = Holds e × AllHold es

-- The bytes of P1 and P2 with the cabinet (document 02, request 4): a job whose process is null, with so many free names, its state, and the cabinet by itself.
unfoldable pub null_job : ℕ → List ℕ
null_job F = 0x10 ∷ 0x00 ∷ 0x05 ∷ 0x00 ∷ F ∷ 0x20 ∷ 0x00 ∷ 0x00 ∷ []

unfoldable pub null_state : List ℕ
null_state = 0x11 ∷ 0x00 ∷ 0x0F ∷ 0x00 ∷ 0x01 ∷ 0x00 ∷ 0x01 ∷ 0x40 ∷ 0x00 ∷ 0x08 ∷ 0x00 ∷ 0x00 ∷ 0x42 ∷ 0x00 ∷ 0x03 ∷ 0x20 ∷ 0x00 ∷ 0x00 ∷ []

unfoldable pub empty_cabinet : List ℕ
empty_cabinet = 0x11 ∷ 0x00 ∷ 0x09 ∷ 0x00 ∷ 0x01 ∷ 0x00 ∷ 0x01 ∷ 0x40 ∷ 0x00 ∷ 0x02 ∷ 0x00 ∷ 0x00 ∷ []

-- Those that document 01 prints for P1 and P2, with no name and no cabinet.
unfoldable pub bare_state : List ℕ
bare_state = 0x11 ∷ 0x00 ∷ 0x0A ∷ 0x00 ∷ 0x00 ∷ 0x00 ∷ 0x00 ∷ 0x42 ∷ 0x00 ∷ 0x03 ∷ 0x20 ∷ 0x00 ∷ 0x00 ∷ []

unfoldable pub empty_state : List ℕ
empty_state = 0x11 ∷ 0x00 ∷ 0x04 ∷ 0x00 ∷ 0x00 ∷ 0x00 ∷ 0x00 ∷ []

-- A restriction to be stepped at N.
unfoldable pub restriction_at : ℕ → State
restriction_at N = state 0 N (process_then (restriction null) empty)

-- Two blocked ambients named 0 with these contents, and a state that holds these two.
unfoldable pub two_blocked : Elements → Elements → Elements
two_blocked A B = ambient_then blocked (name 0) A (ambient_then blocked (name 0) B empty)

unfoldable pub two_ambients : Elements → Elements → State
two_ambients A B = state 3 3 (two_blocked A B)

-- An adapter that waits to enter an ambient named 1 on a channel, and a deck of that name, which accepts on channel 2.
unfoldable pub adapter : (name channel : ℕ) → Elements → Elements
adapter a x C = ambient_then blocked (name a) (blocked_then (enter (name 1) (name x)) null empty) C

unfoldable pub deck : Elements
deck = ambient_then unblocked (name 1) (process_then (action (accept (name 2)) null) empty) empty

unfoldable pub deck_behind : Elements → State
deck_behind L = state 5 5 L

-- A blocked output of these names to an ambient named 0, and a blocked input of so many.
unfoldable pub sends : List Reference → Elements → Elements
sends ns C = blocked_then (sibling_output (name 0) (name 1) ns) null C

unfoldable pub hears : ℕ → Elements → Elements
hears n C = blocked_then (external_input (name 1) n) null C

-- Names handed to the list around: the input of so many names to be executed at place 0, the output at place 2.
unfoldable pub handing : ℕ → List Reference → Process → State
handing n ns P =
    state 6 6 (process_then (action (internal_input (name 0) n) P) (ambient_then blocked (name 1) (blocked_then (parent_output (name 0) ns) null empty) empty))

unfoldable pub taken : Process → State
taken P = state 6 6 (process_then P (ambient_then unblocked (name 1) (process_then null empty) empty))

-- Names handed to a sibling: the output at place 1, the input at place 3.
unfoldable pub handing_beside : List Reference → Process → State
handing_beside ns P =
    state 6 6
    (ambient_then unblocked (name 1) (process_then (action (sibling_output (name 2) (name 0) ns) null) empty)
    (ambient_then blocked (name 2) (blocked_then (external_input (name 0) (length ns)) P empty) empty))

unfoldable pub taken_beside : Process → State
taken_beside P = state 6 6 (ambient_then unblocked (name 1) (process_then null empty) (ambient_then unblocked (name 2) (process_then P empty) empty))

-- A job with F = 2 whose process is an input on the name x with this count in bytes, and the state with the same in the cabinet.
unfoldable pub input_job : (x count : ℕ) → List ℕ
input_job x count = 0x10 ∷ 0x00 ∷ 0x0E ∷ 0x00 ∷ 0x02 ∷ 0x24 ∷ 0x00 ∷ 0x09 ∷ 0x3A ∷ 0x00 ∷ 0x03 ∷ 0x00 ∷ x ∷ count ∷ 0x20 ∷ 0x00 ∷ 0x00 ∷ []

unfoldable pub input_state : (x count : ℕ) → List ℕ
input_state x count =
    0x11 ∷ 0x00 ∷ 0x18 ∷ 0x00 ∷ 0x02 ∷ 0x00 ∷ 0x02 ∷ 0x40 ∷ 0x00 ∷ 0x11 ∷ 0x00 ∷ 0x00 ∷ 0x42 ∷ 0x00 ∷ 0x0C ∷ 0x24 ∷ 0x00 ∷ 0x09 ∷ 0x3A ∷ 0x00 ∷ 0x03 ∷ 0x00 ∷ x ∷ count ∷ 0x20 ∷ 0x00 ∷ 0x00 ∷ []

-- The job with no count behind x.
unfoldable pub countless_job : List ℕ
countless_job = 0x10 ∷ 0x00 ∷ 0x0D ∷ 0x00 ∷ 0x02 ∷ 0x24 ∷ 0x00 ∷ 0x08 ∷ 0x3A ∷ 0x00 ∷ 0x02 ∷ 0x00 ∷ 0x01 ∷ 0x20 ∷ 0x00 ∷ 0x00 ∷ []

-- A job with F = 2 whose process is an output to the list around with this count in bytes and these two references behind it.
unfoldable pub output_job : (count first second : ℕ) → List ℕ
output_job count first second =
    0x10 ∷ 0x00 ∷ 0x12 ∷ 0x00 ∷ 0x02 ∷ 0x24 ∷ 0x00 ∷ 0x0D ∷ 0x39 ∷ 0x00 ∷ 0x07 ∷ 0x00 ∷ 0x01 ∷ count ∷ 0x00 ∷ first ∷ 0x00 ∷ second ∷ 0x20 ∷ 0x00 ∷ 0x00 ∷ []

-- The cabinet, and in it or beside it a deck named 1 that executes a process.
unfoldable pub cabinet : Status → Elements → Elements → Elements
cabinet s A C = ambient_then s (name 0) A C

unfoldable pub deck_runs : Process → Elements
deck_runs P = ambient_then unblocked (name 1) (process_then P empty) empty

unfoldable pub root_of : Elements → State
root_of L = state 4 4 L

-- The deck tells the cabinet its name on channel 3, and the cabinet makes an ambient of the name that it takes.
unfoldable pub tells : Process
tells = action (sibling_output (name 0) (name 3) (name 1 ∷ [])) null

unfoldable pub listens : Elements → Elements
listens C = blocked_then (external_input (name 3) 1) (ambient (variable 0) null) C

-- A deck named 1 that accepts on its own name, as if it were a channel.
unfoldable pub deck_as_channel : Process
deck_as_channel = ambient (name 1) (action (accept (name 1)) null)

-- A state with these elements in so many ambients, each in the next, and the like with these bytes in them.
unfoldable pub boxed : ℕ → Elements → State
boxed n L = state 3 3 (boxes n L)

unfoldable pub box_bytes : ℕ → List ℕ → List ℕ
box_bytes zero bytes = bytes
box_bytes (suc n) bytes = field 0x40 (word 0 ++ box_bytes n bytes)

unfoldable pub boxed_bytes : ℕ → List ℕ → List ℕ
boxed_bytes n bytes = field 0x11 (word 3 ++ word 3 ++ box_bytes n bytes)

-- The adapter in the deck.
unfoldable pub entered : Elements
entered = ambient_then unblocked (name 2) (process_then null (ambient_then unblocked (name 1) (process_then null empty) empty)) empty

unfoldable pub table : List Example
table =
    -- P1
    loads (null_job 1) 32768 (wrote tt null_state)
    -- P2
    ∷ steps null_state 1 65535 32768 (wrote 31 empty_cabinet)
    ∷ weighs empty_cabinet (got 1 12)
    -- P3
    ∷ loads [] 32768 (kept 2)
    ∷ reads [] (refused 2)
    -- P4
    ∷ loads (null_job 1 ++ 0x00 ∷ []) 32768 (kept 4)
    -- P5 and P6
    ∷ loads (encode_job (job 1 (restrictions 31 null))) 32768 (wrote tt (encode_state (loaded (job 1 (restrictions 31 null)))))
    ∷ loads (encode_job (job 1 (restrictions 32 null))) 32768 (kept 5)
    -- P7 and P8
    ∷ steps (encode_state (restriction_at 4095)) 0 65535 32768 (wrote 33 (encode_state (state 0 4096 (process_then null empty))))
    ∷ steps (encode_state (restriction_at 4096)) 0 65535 32768 (kept 11)
    -- P9 and P10
    ∷ weighs (encode_state (two_ambients (sends (name 2 ∷ []) (hears 1 empty)) empty)) (got 0 43)
    ∷ reads (encode_state (two_ambients (sends (name 2 ∷ []) empty) (hears 1 empty))) (refused 7)
    -- request 1: no name, two and four, each variable read where another's order would give another name
    ∷ steps (encode_state (handing 0 [] (action (accept (name 2)) null))) 0 2 32768 (wrote 38 (encode_state (taken (action (accept (name 2)) null))))
    ∷ steps (encode_state (handing 2 (name 2 ∷ name 3 ∷ []) (action (sibling_output (variable 0) (variable 1) (variable 1 ∷ variable 0 ∷ [])) null))) 0 2 32768
    (wrote 38 (encode_state (taken (action (sibling_output (name 3) (name 2) (name 2 ∷ name 3 ∷ [])) null))))
    ∷ steps
    (encode_state
    (handing 4 (name 2 ∷ name 3 ∷ name 4 ∷ name 5 ∷ [])
    (action (sibling_output (variable 0) (variable 3) (variable 1 ∷ variable 3 ∷ variable 0 ∷ variable 2 ∷ [])) null)))
    0 2 32768
    (wrote 38 (encode_state (taken (action (sibling_output (name 5) (name 2) (name 4 ∷ name 2 ∷ name 5 ∷ name 3 ∷ [])) null))))
    -- under the three variables of another input, to a sibling
    ∷ steps (encode_state (handing_beside (name 4 ∷ name 5 ∷ []) (action (internal_input (variable 1) 3) (action (enter (variable 3) (variable 2)) null)))) 1 3 32768
    (wrote 35 (encode_state (taken_beside (action (internal_input (name 4) 3) (action (enter (name 5) (variable 2)) null)))))
    -- the channel agrees and the count does not: no partner, and 43
    ∷ steps (encode_state (handing 2 (name 2 ∷ []) null)) 0 2 32768 (kept 9)
    ∷ steps (encode_state (handing 2 (name 2 ∷ []) null)) 0 65535 32768
    (wrote 43
    (encode_state (state 6 6 (blocked_then (internal_input (name 0) 2) null (ambient_then blocked (name 1) (blocked_then (parent_output (name 0) (name 2 ∷ [])) null empty) empty)))))
    -- blocked in siblings with different counts they are no pair, with equal ones they are
    ∷ weighs (encode_state (two_ambients (sends (name 2 ∷ name 1 ∷ []) empty) (hears 3 empty))) (got 0 47)
    ∷ reads (encode_state (two_ambients (sends (name 2 ∷ name 1 ∷ []) empty) (hears 2 empty))) (refused 7)
    -- a count of 0, and 14 at 1, 5 and 255
    ∷ loads (input_job 1 0) 32768 (wrote tt (input_state 1 0))
    ∷ loads (input_job 1 1) 32768 (kept 14)
    ∷ loads (input_job 1 5) 32768 (kept 14)
    ∷ reads (input_state 1 255) (refused 14)
    -- 6 before it where x is out of range, 2 where the count is missing, and it before a reference out of range
    ∷ loads (input_job 2 1) 32768 (kept 6)
    ∷ loads countless_job 32768 (kept 2)
    ∷ loads (output_job 5 2 0) 32768 (kept 14)
    ∷ loads (output_job 2 2 0) 32768 (kept 6)
    -- request 3: two of three that wait for the deck, the third on another channel; with that one alone, none
    ∷ counts (encode_state (deck_behind (adapter 0 2 (adapter 3 4 (adapter 0 2 deck))))) 7 (got (record { lowest = some 1; number = 2 }) 80)
    ∷ counts (encode_state (deck_behind (adapter 3 4 deck))) 3 (got (record { lowest = none; number = 0 }) 44)
    -- two of four inputs: not the one in the sender's own ambient, and not the one with another count
    ∷ counts (encode_state (state 3 3 (ambient_then unblocked (name 0) (process_then (action (sibling_output (name 0) (name 1) (name 2 ∷ [])) null) (hears 1 empty)) (ambient_then blocked (name 0) (hears 2 (hears 1 (hears 1 empty))) empty)))) 1
    (got (record { lowest = some 5; number = 2 }) 80)
    -- a null has none; 8 at an ambient with unblocked contents, at a blocked one, at a blocked action and where no element stands
    ∷ counts bare_state 0 (got (record { lowest = none; number = 0 }) 13)
    ∷ counts (encode_state (deck_behind (adapter 0 2 deck))) 2 (refused 8)
    ∷ counts (encode_state (deck_behind (adapter 0 2 deck))) 0 (refused 8)
    ∷ counts (encode_state (deck_behind (adapter 0 2 deck))) 1 (refused 8)
    ∷ counts (encode_state (deck_behind (adapter 0 2 deck))) 4 (refused 8)
    -- 7 before it
    ∷ counts (encode_state (two_ambients (sends (name 2 ∷ []) empty) (hears 1 empty))) 0 (refused 7)
    -- request 4: a job without a free name is 6 at F, before what is missing behind it; half an F is 2
    ∷ loads (null_job 0) 32768 (kept 6)
    ∷ loads (0x10 ∷ 0x00 ∷ 0x02 ∷ 0x00 ∷ 0x00 ∷ []) 32768 (kept 6)
    ∷ loads (0x10 ∷ 0x00 ∷ 0x01 ∷ 0x00 ∷ []) 32768 (kept 2)
    -- ten bytes more than the job fit, or 13
    ∷ loads (null_job 1) 18 (wrote tt null_state)
    ∷ loads (null_job 1) 17 (kept 13)
    -- the states of before, with no name and no cabinet
    ∷ steps bare_state 0 65535 32768 (wrote 31 empty_state)
    ∷ weighs empty_state (got 0 7)
    -- a deck leaves the cabinet, and tells it a name from beside it; from inside it does not
    ∷ steps (encode_state (root_of (cabinet unblocked (blocked_then (release (name 2)) null (deck_runs (action (leave (name 2)) tells))) empty))) 3 1 32768
    (wrote 41 (encode_state (root_of (cabinet unblocked (process_then null empty) (deck_runs tells)))))
    ∷ steps (encode_state (root_of (cabinet blocked (listens empty) (deck_runs tells)))) 3 1 32768
    (wrote 35 (encode_state (root_of (cabinet unblocked (process_then (ambient (name 1) null) empty) (deck_runs null)))))
    ∷ steps (encode_state (root_of (cabinet unblocked (listens (deck_runs tells)) empty))) 3 1 32768 (kept 9)
    -- request 7: a name that is a deck's and a channel, in either order, the channel behind a replication or the deck behind an action; a target and the x of one action
    ∷ loads (encode_job (job 2 deck_as_channel)) 32768 (kept 15)
    ∷ loads (encode_job (job 3 (parallel (replication (accept (name 1)) null) (action (leave (name 2)) (ambient (name 1) null))))) 32768 (kept 15)
    ∷ loads (encode_job (job 2 (action (enter (name 1) (name 1)) null))) 32768 (kept 15)
    -- the cabinet's name as a channel, in every job
    ∷ loads (input_job 0 0) 32768 (kept 15)
    -- 14 before it, and it before 13
    ∷ loads (input_job 0 1) 32768 (kept 14)
    ∷ loads (input_job 0 0) 0 (kept 15)
    -- not judged: a name that is sent, and a variable
    ∷ loads (encode_job (job 4 (action (sibling_output (name 1) (name 2) (name 2 ∷ name 1 ∷ name 0 ∷ [])) null))) 32768
    (wrote tt (encode_state (loaded (job 4 (action (sibling_output (name 1) (name 2) (name 2 ∷ name 1 ∷ name 0 ∷ [])) null)))))
    ∷ loads (encode_job (job 1 (restriction (ambient (variable 0) (action (accept (variable 0)) null))))) 32768
    (wrote tt (encode_state (loaded (job 1 (restriction (ambient (variable 0) (action (accept (variable 0)) null)))))))
    -- the state of a job that is refused for this is stepped on
    ∷ steps (encode_state (loaded (job 2 (action (accept (name 0)) null)))) 1 65535 32768
    (wrote 43 (encode_state (state 2 2 (cabinet unblocked (blocked_then (accept (name 0)) null empty) empty))))
    -- request 8: ambients eight deep, and nine
    ∷ reads (encode_state (boxed 8 empty)) (got (boxed 8 empty) 47)
    ∷ weighs (encode_state (boxed 8 empty)) (got 8 47)
    ∷ counts (encode_state (boxed 8 empty)) 7 (got (record { lowest = none; number = 0 }) 47)
    ∷ steps (encode_state (boxed 8 empty)) 7 65535 32768 (wrote 29 (encode_state (boxed 7 (ambient_then blocked (name 0) empty empty))))
    ∷ reads (encode_state (boxed 9 empty)) (refused 5)
    ∷ weighs (encode_state (boxed 9 empty)) (refused 5)
    ∷ counts (encode_state (boxed 9 empty)) 8 (refused 5)
    ∷ steps (encode_state (boxed 9 empty)) 8 65535 32768 (kept 5)
    -- 5 at the field of the ninth, 40 or 41: behind its header, its tag and its length, and before its name; behind what stands before it
    ∷ reads (boxed_bytes 8 (0x40 ∷ 0x00 ∷ [])) (refused 2)
    ∷ reads (boxed_bytes 8 (0x44 ∷ 0x00 ∷ 0x02 ∷ 0x00 ∷ 0x00 ∷ [])) (refused 3)
    ∷ reads (boxed_bytes 8 (0x40 ∷ 0x00 ∷ 0x03 ∷ 0x00 ∷ 0x00 ∷ [])) (refused 2)
    ∷ reads (boxed_bytes 8 (0x40 ∷ 0x00 ∷ 0x00 ∷ [])) (refused 5)
    ∷ reads (boxed_bytes 8 (0x41 ∷ 0x00 ∷ 0x02 ∷ 0x00 ∷ 0x03 ∷ [])) (refused 5)
    ∷ reads (boxed_bytes 8 (0x42 ∷ 0x00 ∷ 0x03 ∷ 0x26 ∷ 0x00 ∷ 0x00 ∷ 0x40 ∷ 0x00 ∷ 0x02 ∷ 0x00 ∷ 0x00 ∷ [])) (refused 3)
    -- the adapter in the deck at 8, and at 9; an ambient that appears at 8, and at 9
    ∷ steps (encode_state (boxed 6 (entering empty))) 7 9 32768 (wrote 39 (encode_state (boxed 6 entered)))
    ∷ steps (encode_state (boxed 7 (entering empty))) 8 10 32768 (kept 12)
    ∷ steps (encode_state (boxed 7 (process_then (ambient (name 0) null) empty))) 7 65535 32768 (wrote 34 (encode_state (boxed 8 (process_then null empty))))
    ∷ steps (encode_state (boxed 8 (process_then (ambient (name 0) null) empty))) 8 65535 32768 (kept 12)
    -- listed at 8, at 9 and at 16, and 5 at 17; 13 as before
    ∷ lists (encode_state (boxed 8 empty)) 2 (wrote tt (word 7))
    ∷ lists (encode_state (boxed 9 empty)) 2 (wrote tt (word 8))
    ∷ lists (encode_state (boxed 9 empty)) 1 (kept 13)
    ∷ lists (encode_state (boxed 15 (process_then null (ambient_then blocked (name 0) empty (ambient_then unblocked (name 0) empty empty))))) 32768 (wrote tt (word 15 ++ word 17))
    ∷ lists (encode_state (boxed 17 empty)) 32768 (kept 5)
    -- a blocked pair at 10: 7 in the listing, and 5 before it in every other call
    ∷ lists (encode_state (boxed 9 (two_blocked (sends (name 2 ∷ []) empty) (hears 1 empty)))) 32768 (kept 7)
    ∷ reads (encode_state (boxed 9 (two_blocked (sends (name 2 ∷ []) empty) (hears 1 empty)))) (refused 5)
    ∷ []

-- Every example of the table holds.
abbrev pub TableHolds : Type 0
TableHolds = AllHold table
