-- The numbers of causes and layers, and how a fault is written.
use Rattle.std.specs.Prelude.{ℕ, List, ◌∷◌, ◌++◌, codes, decimal}
use Rattle.cells.specs.declared.faults.Cause.{Cause}
use Rattle.cells.specs.declared.faults.Cause.TheVariants.{PartyOutOfRange, PartyHasContract, SpacingOutOfRange, BoundOutOfRange, NoHopCrossed, CellsPresent, CalendarExceeded, TableExceeded, NoBusyPeriod, DemandExceeded, LevelExceeded, NoFreeOffset, NoContract, TooSoon, DeliveryPastLast, TableLength, SlotsOver, PartyHasCells, EligibleOutOfWindow, HeaderLength, HeaderParty, HeaderAhead, TextSizeOrEnd, LineForm, NumberOutOfRange, LinePlace, RecordFull, NoPartyLine}
use Rattle.cells.specs.declared.faults.Layer.{Layer}
use Rattle.cells.specs.declared.faults.Layer.TheVariants.{Scheduler, Hop, Path, Plan, Trace, Record, Header}
use Rattle.cells.specs.declared.faults.Fault.{Fault}

-- the number of a cause
abbrev pub cause_number : Cause → ℕ
cause_number PartyOutOfRange = 1
cause_number PartyHasContract = 2
cause_number SpacingOutOfRange = 3
cause_number BoundOutOfRange = 4
cause_number NoHopCrossed = 5
cause_number CellsPresent = 6
cause_number CalendarExceeded = 7
cause_number TableExceeded = 8
cause_number NoBusyPeriod = 9
cause_number DemandExceeded = 10
cause_number LevelExceeded = 11
cause_number NoFreeOffset = 12
cause_number NoContract = 13
cause_number TooSoon = 14
cause_number DeliveryPastLast = 15
cause_number TableLength = 16
cause_number SlotsOver = 17
cause_number PartyHasCells = 18
cause_number EligibleOutOfWindow = 19
cause_number HeaderLength = 20
cause_number HeaderParty = 21
cause_number HeaderAhead = 22
cause_number TextSizeOrEnd = 23
cause_number LineForm = 24
cause_number NumberOutOfRange = 25
cause_number LinePlace = 26
cause_number RecordFull = 27
cause_number NoPartyLine = 28

-- the number of a layer
abbrev pub layer_number : Layer → ℕ
layer_number Scheduler = 1
layer_number Hop = 2
layer_number Path = 3
layer_number Plan = 4
layer_number Trace = 5
layer_number Record = 6
layer_number Header = 7

-- a fault that is about a party names neither a hop nor a line
abbrev pub party_fault : Cause → Layer → ℕ → Fault
party_fault c l p = record { cause = c; layer = l; party = p; hop = 255; line = 0 }

-- a fault of a text names its line, and neither a party nor a hop
abbrev pub text_fault : Cause → Layer → ℕ → Fault
text_fault c l n = record { cause = c; layer = l; party = 255; hop = 255; line = n }

-- a tab and a number behind it
abbrev pub field : ℕ → List ℕ
field n = 9 ∷ decimal n

-- the fault line, without its newline
abbrev pub fault_text : Fault → List ℕ
fault_text f =
    codes "FAULT" ++ (field (cause_number f.cause) ++ (field (layer_number f.layer) ++ (field f.party ++ (field f.hop ++ field f.line))))
