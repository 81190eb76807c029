-- What a calendar means: its slot, and of each party and slot the label of the cell that waits for it.
use Rattle.std.specs.Prelude.{ℕ, List, None, Option, slice_index_or}
use Rattle.cells.specs.declared.parties.ByParty.{ByParty}
use Rattle.calendar.specs.declared.grid.Calendar.{Calendar}
use Rattle.calendar.specs.Rows.{row_of, window}

-- the label of a day and a party
abbrev pub label_at : List (Option (ByParty ℕ)) → ℕ → ℕ → Option ℕ
label_at ds k p = row_of (slice_index_or ds k None) p

-- the present slot
abbrev pub now_of : Calendar → ℕ
now_of c = c.slot.0

-- of a party and a slot the label of the cell that waits: none unless the party is at most 15, and the slot
-- is the present one or less than 192 ahead; then what stands in the grid at the day of the slot
unfoldable pub waiting_of : Calendar → ℕ → ℕ → Option ℕ
waiting_of c = window c.slot.0 (label_at c.days)
