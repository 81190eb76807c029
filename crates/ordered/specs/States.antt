-- What a scheduler that serves in an order means, keeps and chooses.
use Rattle.std.specs.Prelude.{◌≡◌, ℕ, ◌≤◌, Bool, true, List, length, map, Some, Option, Result, MatchResult, nat_lt, slice_set}
use Rattle.std.specs.List.{range_with_len}
use Rattle.cells.specs.declared.faults.Cause.{Cause}
use Rattle.cells.specs.declared.faults.Fault.{Fault}
use Rattle.order.specs.First.{foremost}
use Rattle.scheduler.specs.declared.register.Register.{Register}
use Rattle.scheduler.specs.declared.terms.Cell.{Cell}
use Rattle.scheduler.specs.declared.terms.Contract.{Contract}
use Rattle.scheduler.specs.Meaning.{Meaning, agreed, granted, common_verdict, grant_verdict}
use Rattle.scheduler.specs.Tables.{contracts_of, Refuses, Extends}
use Rattle.backlog.specs.declared.held.Held.{Held}
use Rattle.backlog.specs.declared.places.Backlog.{Backlog}
use Rattle.backlog.specs.Backlogs.{cells_of}
use Rattle.demand.specs.Cells.{meaning_of, cell_of, Orderly}
use Rattle.demand.specs.Totals.{total_of}

-- its slot, its contracts and its held cells
abbrev pub means : Register → Backlog → Meaning
means r b = meaning_of r.slot.0 r.contracts (cells_of b)

-- its test of a contract is that of its table with the contract in it
abbrev pub test_by : (List (Option Contract) → Option Cause) → List (Option Contract) → ℕ → ℕ → ℕ → Option Cause
test_by verdict cs p s d = verdict (slice_set cs p (Some (agreed s d)))

-- the contracts of parties 0 to 15, as a table
abbrev pub table_of : (ℕ → Option Contract) → List (Option Contract)
table_of f = map f (range_with_len 0 16)

-- the same test, of what it means
abbrev pub judged_by : (List (Option Contract) → Option Cause) → Meaning → ℕ → ℕ → ℕ → Option Cause
judged_by verdict m p s d = verdict (table_of (granted m p s d).contracts)

-- its answer to a grant
abbrev pub grant_by : (List (Option Contract) → Option Cause) → Register → Backlog → ℕ → ℕ → ℕ → Option Cause
grant_by verdict r b p s d = grant_verdict (means r b) p s d (test_by verdict r.contracts p s d)

-- a register with a contract added to it, or the fault where every make refuses the contract
abbrev pub Tried : Register → Backlog → ℕ → ℕ → ℕ → Result Register Fault → Type 0
Tried r b p s d tried =
    let busy = nat_lt 0 (length (cells_of b)) in
    MatchResult tried (λ t. Extends r.contracts t.contracts busy p s d × (t.slot ≡ r.slot)) (Refuses (common_verdict (contracts_of r.contracts p) busy p s d) p)

-- the cell that it serves next: the first in the order
abbrev pub first_by : (Held → Held → Bool) → Backlog → Option Cell
first_by ahead b = cell_of (foremost ahead (cells_of b))

-- what it keeps of its slot, its contracts and its held cells: they are orderly, the contracts stay within the limit of each condition, and each condition is kept
pub record Sound (asks : ℕ → ℕ → ℕ → ℕ) (limit : ℕ → ℕ) (keeps : ℕ → ℕ → List (Option Contract) → List Held → Bool) (t : ℕ) (cs : List (Option Contract)) (xs : List Held) : Type 0 where
  pub orderly : Orderly cs xs
  pub tested : (n : ℕ) → total_of (asks n) cs ≤ limit n
  pub kept : (n : ℕ) → keeps n t cs xs ≡ true
