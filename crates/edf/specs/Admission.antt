-- EDF's own test of a contract table, the proposed contract included.
use Rattle.std.specs.Prelude.{ℕ, zero, suc, ◌+◌, Bool, cond, List, Some, None, Option, nat_le, nat_lt}
use Rattle.cells.specs.declared.faults.Cause.{Cause}
use Rattle.cells.specs.declared.faults.Cause.TheVariants.{NoBusyPeriod, DemandExceeded}
use Rattle.scheduler.specs.declared.terms.Contract.{Contract}
use Rattle.scheduler.specs.Meaning.{refused_if, some_below}
use Rattle.demand.specs.Counts.{ceil, jobs}
use Rattle.demand.specs.Totals.{total_of, table_first}

-- the most cells that a contract puts in l slots: ⌈l/s⌉
abbrev pub put_in : ℕ → ℕ → ℕ → ℕ
put_in l s d = ceil l s

-- the most cells that it puts in l slots and that are due in them: ⌊(l − d)/s⌋ + 1 where d ≤ l, else none
abbrev pub due_in : ℕ → ℕ → ℕ → ℕ
due_in l s d = jobs d s l

-- W(l), the work of l slots: the sum of ⌈l/s⌉
abbrev pub work_in : List (Option Contract) → ℕ → ℕ
work_in cs l = total_of (put_in l) cs

-- H(l), the demand of l slots: the sum of ⌊(l − d)/s⌋ + 1 over the contracts with d ≤ l
abbrev pub demand_in : List (Option Contract) → ℕ → ℕ
demand_in cs l = total_of (due_in l) cs

-- the least number, of the n from a on, that passes the test
abbrev pub least_from : ℕ → ℕ → (ℕ → Bool) → Option ℕ
least_from zero a f = None
least_from (suc n) a f = cond (f a) (Some a) (least_from n (a + 1) f)

-- P, the busy period: the least l from 1 to 1,024 with W(l) ≤ l
unfoldable pub busy_period : List (Option Contract) → Option ℕ
busy_period cs = least_from 1024 1 (λ l. nat_le (work_in cs l) l)

-- whether H(l) > l for some l from 1 to p
abbrev pub over_demand : List (Option Contract) → ℕ → Bool
over_demand cs p = some_below p (λ k. nat_lt (k + 1) (demand_in cs (k + 1)))

-- without P the one cause, with more demand than slots up to P the other
abbrev pub busy_verdict : List (Option Contract) → Option ℕ → Option Cause
busy_verdict cs None = Some NoBusyPeriod
busy_verdict cs (Some p) = refused_if (over_demand cs p) DemandExceeded None

-- the table of 128 first, then the busy period and the demand up to its end
abbrev pub test_of : List (Option Contract) → Option Cause
test_of cs = table_first cs (busy_verdict cs (busy_period cs))
