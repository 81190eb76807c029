-- What the contracts of a table ask for together.
use Rattle.std.specs.Prelude.{ℕ, Bool, List, Some, None, sum_by, Option, nat_lt}
use Rattle.cells.specs.declared.faults.Cause.{Cause}
use Rattle.cells.specs.declared.faults.Cause.TheVariants.{TableExceeded}
use Rattle.scheduler.specs.declared.terms.Contract.{Contract}
use Rattle.scheduler.specs.Meaning.{refused_if}
use Rattle.demand.specs.Counts.{ceil}

-- what one contract asks for, by its spacing and bound; nothing without a contract
abbrev pub each_of : (ℕ → ℕ → ℕ) → Option Contract → ℕ
each_of f None = 0
each_of f (Some c) = f c.spacing.0 c.bound.0

-- the sum over all contracts
abbrev pub total_of : (ℕ → ℕ → ℕ) → List (Option Contract) → ℕ
total_of f cs = sum_by (each_of f) cs

-- the places that the held cells of one contract may take up at a time: ⌈d/s⌉
abbrev pub places : ℕ → ℕ → ℕ
places s d = ceil d s

-- whether the contracts together may want more places than the 128 of a table
abbrev pub exceeds_table : List (Option Contract) → Bool
exceeds_table cs = nat_lt 128 (total_of places cs)

-- the first test of a make with a table of 128, and the verdict that follows it
abbrev pub table_first : List (Option Contract) → Option Cause → Option Cause
table_first cs v = refused_if (exceeds_table cs) TableExceeded v
