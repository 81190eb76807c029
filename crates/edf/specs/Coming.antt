-- The order of held cells, and the cells that are still to come.
use Rattle.std.specs.Prelude.{ℕ, ◌+◌, Bool, true, false, cond, List, Some, None, sum_by, Option, ◌==◌, nat_le, nat_lt}
use Rattle.scheduler.specs.declared.terms.Contract.{Contract}
use Rattle.backlog.specs.declared.held.Held.{Held}
use Rattle.backlog.specs.Cells.{due_of}
use Rattle.demand.specs.Cells.{next_slot, due_before}
use Rattle.demand.specs.Counts.{jobs}

-- the lesser due slot comes first, then the lower party
abbrev pub earlier : Held → Held → Bool
earlier x y = cond (nat_lt (due_of x) (due_of y)) true (cond (due_of x == due_of y) (nat_lt x.cell.party y.cell.party) false)

-- the most cells that a contract can put from slot t on and that are due before slot e
abbrev pub coming : ℕ → ℕ → Option Contract → ℕ
coming t e None = 0
coming t e (Some c) = jobs (next_slot t c.spacing.0 c.last + c.bound.0) c.spacing.0 e

-- whether the cells held in slot t, and those that can still come, are due before slot t + n in no more than the n slots till then
abbrev pub timely_in : ℕ → ℕ → List (Option Contract) → List Held → Bool
timely_in n t cs xs = nat_le (sum_by (due_before (t + n)) xs + sum_by (coming t (t + n)) cs) n
