-- What a table of turns means, and what it answers.
use Rattle.std.specs.Prelude.{ℕ, Some, None, Option, slice_index_or}
use Rattle.cells.specs.declared.faults.Cause.{Cause}
use Rattle.cells.specs.declared.times.Slot.{Slot}
use Rattle.scheduler.specs.declared.terms.Cell.{Cell}
use Rattle.scheduler.specs.Meaning.{Meaning}
use Rattle.scheduler.specs.Tables.{contracts_of}
use Rattle.table.specs.Turns.{turn, period, least_free, offset_verdict}
use Rattle.table.specs.Kept.{owner_in, last_of, held_of}
use Rattle.table.specs.declared.state.Table.{Table}

-- slot and contracts as registered; of each party the label that is kept
abbrev pub table_meaning : Table → Meaning
table_meaning x = record {
  slot = x.register.slot.0;
  contracts = contracts_of x.register.contracts;
  held = λ p. held_of (last_of (contracts_of x.register.contracts p)) (slice_index_or x.labels.entries p None);
}

-- the owner of each turn
abbrev pub owner_of : Table → ℕ → Option ℕ
owner_of x = owner_in x.owners.turns

-- its own test of a contract
abbrev pub table_test : Table → ℕ → ℕ → ℕ → Option Cause
table_test x p s d = offset_verdict (least_free (owner_of x) (period s d))

-- the cell of a party, under a label, eligible in a slot
abbrev pub cell_under : ℕ → Slot → Option ℕ → Option Cell
cell_under p t None = None
cell_under p t (Some l) = Some (record { party = p; label = l; eligible = t })

-- the cell that a party holds, eligible in the slot of its last
abbrev pub cell_at : Meaning → ℕ → Option Slot → Option Cell
cell_at m p None = None
cell_at m p (Some t) = cell_under p t (m.held p t.0)

-- the cell that the owner holds
abbrev pub cell_of : Meaning → Option ℕ → Option Cell
cell_of m None = None
cell_of m (Some p) = cell_at m p (last_of (m.contracts p))

-- the held cell of the present turn's owner
abbrev pub turn_choice : Meaning → (ℕ → Option ℕ) → Option Cell
turn_choice m owner = cell_of m (owner (turn m.slot))

-- the same of a table
abbrev pub table_choice : Table → Option Cell
table_choice x = turn_choice (table_meaning x) (owner_of x)
