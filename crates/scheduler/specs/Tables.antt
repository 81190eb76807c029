-- A table of contracts, by party.
use Rattle.std.specs.Prelude.{◌≡◌, ℕ, Bool, List, Some, None, Err, Option, slice_index_or, slice_set}
use Rattle.cells.specs.declared.faults.Fault.{Fault}
use Rattle.cells.specs.declared.faults.Cause.{Cause}
use Rattle.cells.specs.declared.times.Slot.{Slot}
use Rattle.scheduler.specs.declared.terms.Contract.{Contract}
use Rattle.scheduler.specs.Meaning.{told, updated, common_verdict, agreed}

-- the contract of each party, none past the table
abbrev pub contracts_of : List (Option Contract) → ℕ → Option Contract
contracts_of cs p = slice_index_or cs p None

-- the spacing, and 1 without a contract
abbrev pub spacing_or : Option Contract → ℕ
spacing_or None = 1
spacing_or (Some c) = c.spacing.0

-- the bound, and 1 without a contract
abbrev pub bound_or : Option Contract → ℕ
bound_or None = 1
bound_or (Some c) = c.bound.0

-- a slot, and n where there is none
abbrev pub slot_or : ℕ → Option Slot → ℕ
slot_or n None = n
slot_or n (Some t) = t.0

-- the slot of the last cell put, and n where there is none
abbrev pub last_or : ℕ → Option Contract → ℕ
last_or n None = n
last_or n (Some c) = slot_or n c.last

-- the verdict refuses the party with this fault
abbrev pub Refuses : Option Cause → ℕ → Fault → Type 0
Refuses v p f = told v p (tt {0}) ≡ Err f

-- the table new is old with a contract added, which no make refuses
pub record Extends (old new : List (Option Contract)) (busy : Bool) (p s d : ℕ) : Type 0 where
  pub consent : common_verdict (contracts_of old p) busy p s d ≡ None
  pub table : new ≡ slice_set old p (Some (agreed s d))
  pub contracts : contracts_of new ≡ updated (contracts_of old) p (Some (agreed s d))
