-- What a trace's text says.
use Rattle.std.specs.Prelude.{ℕ, max, Bool, true, cond, ◌&&◌, List, [], ◌∷◌, ◌++◌, length, Some, None, Ok, Err, Option, Result, ◌==◌, nat_le}
use Rattle.cells.specs.declared.faults.Cause.{Cause}
use Rattle.cells.specs.declared.faults.Cause.TheVariants.{LineForm, NumberOutOfRange, LinePlace}
use Rattle.cells.specs.declared.faults.Fault.{Fault}
use Rattle.cells.specs.declared.faults.Layer.TheVariants.{Trace}
use Rattle.cells.specs.declared.times.Slot.{Slot}
use Rattle.texts.specs.Fields.{pieces, numbers_of}
use Rattle.texts.specs.Lines.{and_then, body_of, read_text}
use Rattle.texts.specs.Parties.{listed}
use Rattle.texts.specs.declared.forms.PlanParty.{PlanParty}
use Rattle.texts.specs.declared.forms.TraceLine.{TraceLine}

abbrev pub slot_at : ℕ → Slot
slot_at n = record { 0 = n }

-- the party is at most 15, the slot is not past the last
abbrev pub line_ranged : TraceLine → Bool
line_ranged l = nat_le l.party 15 && nat_le l.slot.0 16777215

-- the highest slot of a party's lines; 0 before its first
abbrev pub highest : ℕ → List TraceLine → ℕ
highest p [] = 0
highest p (l ∷ ls) = cond (l.party == p) (max l.slot.0 (highest p ls)) (highest p ls)

-- no line behind it has its party and a lower slot
abbrev pub not_below : TraceLine → List TraceLine → Bool
not_below l [] = true
not_below l (k ∷ ks) = cond (k.party == l.party) (nat_le l.slot.0 k.slot.0) true && not_below l ks

-- no party's slot falls
abbrev pub never_falls : List TraceLine → Bool
never_falls [] = true
never_falls (l ∷ ls) = not_below l ls && never_falls ls

-- `party slot label`
abbrev pub trace_numbers : List ℕ → Result TraceLine Cause
trace_numbers [] = Err LineForm
trace_numbers (p ∷ []) = Err LineForm
trace_numbers (p ∷ s ∷ []) = Err LineForm
trace_numbers (p ∷ s ∷ l ∷ []) =
    cond (nat_le p 15 && (nat_le s 16777215 && nat_le l 4294967295)) (Ok (record { party = p; slot = slot_at s; label = l })) (Err NumberOutOfRange)
trace_numbers (p ∷ s ∷ l ∷ m ∷ ms) = Err LineForm

abbrev pub trace_fields : Option (List ℕ) → Result TraceLine Cause
trace_fields None = Err LineForm
trace_fields (Some ns) = trace_numbers ns

-- its party has a line in the plan, and its slot is not below an earlier one of its party
abbrev pub line_placed : List PlanParty → List TraceLine → TraceLine → Bool
line_placed ps ls x = listed x.party ps && nat_le (highest x.party ls) x.slot.0

abbrev pub added_to : List PlanParty → List TraceLine → TraceLine → Result (List TraceLine) Cause
added_to ps ls x = cond (line_placed ps ls x) (Ok (ls ++ x ∷ [])) (Err LinePlace)

-- a line: its form and ranges, then its place
abbrev pub trace_step : List PlanParty → List TraceLine → List ℕ → Result (List TraceLine) Cause
trace_step ps ls l = and_then (trace_fields (numbers_of (pieces 9 l))) (added_to ps ls)

abbrev pub trace_end : List TraceLine → Result (List TraceLine) Cause
trace_end ls = Ok ls

-- what the text of a trace says, under a plan with these parties; an empty text is a trace
abbrev pub trace_of : List PlanParty → List ℕ → Result (List TraceLine) Fault
trace_of ps bs = cond (length bs == 0) (Ok []) (read_text Trace (trace_step ps) trace_end [] (body_of bs))
