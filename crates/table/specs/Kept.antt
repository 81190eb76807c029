-- What a table of turns keeps: each party's turn comes once in a period, so that its held cell goes before its next.
use Rattle.std.specs.Prelude.{ℕ, zero, suc, ◌+◌, Bool, true, false, cond, List, is_some, Some, None, Option, ◌==◌, slice_index_or}
use Rattle.cells.specs.declared.times.Slot.{Slot}
use Rattle.scheduler.specs.declared.terms.Contract.{Contract}
use Rattle.table.specs.Turns.{turn, is_party, period}

-- the owner of each turn, none past the table
abbrev pub owner_in : List (Option ℕ) → ℕ → Option ℕ
owner_in owners k = slice_index_or owners k None

-- whether the turn of slot k is the party q's
abbrev pub owns : (ℕ → Option ℕ) → ℕ → ℕ → Bool
owns owner q k = is_party q (owner (turn k))

-- the slots from k to the next whose turn is q's, at most n
abbrev pub wait_to : ℕ → (ℕ → Option ℕ) → ℕ → ℕ → ℕ
wait_to zero owner q k = 0
wait_to (suc n) owner q k = cond (owns owner q k) 0 (suc (wait_to n owner q (k + 1)))

-- the same; after 128 slots the turns come again
unfoldable pub wait : (ℕ → Option ℕ) → ℕ → ℕ → ℕ
wait owner q k = wait_to 128 owner q k

-- the period of a contract, and above every wait without one
abbrev pub period_or : Option Contract → ℕ
period_or None = 129
period_or (Some c) = period c.spacing.0 c.bound.0

-- the slot of the last cell put under a contract
abbrev pub last_of : Option Contract → Option Slot
last_of None = None
last_of (Some c) = c.last

-- a party holds one cell at most, its last, so that a label and the slot of its last cell say which
abbrev pub held_of : Option Slot → Option ℕ → ℕ → Option ℕ
held_of None l e = None
held_of (Some t) None e = None
held_of (Some t) (Some l) e = cond (e == t.0) (Some l) None

-- the slot of the turn that a held cell waits for, from the slot of its party's last cell, its label and the wait; n without one
abbrev pub turn_by : ℕ → (ℕ → ℕ) → Option Slot → Option ℕ → ℕ
turn_by n w None l = n
turn_by n w (Some t) None = n
turn_by n w (Some t) (Some l) = t.0 + w t.0

-- a label is there only where a cell was put
abbrev pub dated : Option Slot → Option ℕ → Bool
dated None None = true
dated None (Some l) = false
dated (Some t) l = true

-- an owner has a contract
abbrev pub tenant : (ℕ → Option Contract) → Option ℕ → Bool
tenant contracts None = true
tenant contracts (Some q) = is_some (contracts q)
