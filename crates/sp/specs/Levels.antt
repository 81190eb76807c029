-- Levels, the test of each level at which a contract stands, and the order of serving.
use Rattle.std.specs.Prelude.{ℕ, zero, suc, ◌^◌, Bool, true, false, cond, List, None, Option, ◌==◌, nat_le, nat_lt}
use Rattle.cells.specs.declared.faults.Cause.{Cause}
use Rattle.cells.specs.declared.faults.Cause.TheVariants.{LevelExceeded}
use Rattle.scheduler.specs.declared.terms.Contract.{Contract}
use Rattle.scheduler.specs.Meaning.{some_below, refused_if}
use Rattle.backlog.specs.declared.held.Held.{Held}
use Rattle.demand.specs.Counts.{ceil}
use Rattle.demand.specs.Totals.{total_of, table_first}

-- the greatest exponent below n of a power of two that is not above d, and 0 where there is none
abbrev pub greatest_exponent : ℕ → ℕ → ℕ
greatest_exponent zero d = 0
greatest_exponent (suc n) d = cond (nat_le (2 ^ n) d) n (greatest_exponent n d)

-- the level of a contract, by its bound: the exponent of the greatest power of two not above it, 0 to 7
unfoldable pub level : ℕ → ℕ
level d = greatest_exponent 8 d

-- of a contract with these terms, if its level is l: one
abbrev pub one_at : ℕ → ℕ → ℕ → ℕ
one_at l s d = cond (level d == l) 1 0

-- of a contract with these terms, if its level is l or lower: the cells that it may put in n slots
abbrev pub share : ℕ → ℕ → ℕ → ℕ → ℕ
share l n s d = cond (nat_le (level d) l) (ceil n s) 0

-- how many contracts stand at level l
abbrev pub standing : List (Option Contract) → ℕ → ℕ
standing cs l = total_of (one_at l) cs

-- the cells that the contracts of level l or lower may put in 2 ^ l slots
abbrev pub shares : List (Option Contract) → ℕ → ℕ
shares cs l = total_of (share l (2 ^ l)) cs

-- whether a contract stands at level l, and those of level l or lower may put more cells in 2 ^ l slots than can be sent in them
abbrev pub overfull : List (Option Contract) → ℕ → Bool
overfull cs l = cond (nat_lt 0 (standing cs l)) (nat_lt (2 ^ l) (shares cs l)) false

-- whether some level is
unfoldable pub levels_exceeded : List (Option Contract) → Bool
levels_exceeded cs = some_below 8 (overfull cs)

-- the test of contracts that would stand together: the places of the table first, then the levels
abbrev pub sp_verdict : List (Option Contract) → Option Cause
sp_verdict cs = table_first cs (refused_if (levels_exceeded cs) LevelExceeded None)

-- the level of a held cell is that of its party's contract
abbrev pub level_of : Held → ℕ
level_of x = level x.bound.0

-- whether a number is below another, and where they are equal the rest decides
abbrev pub below_then : ℕ → ℕ → Bool → Bool
below_then a b rest = cond (nat_lt a b) true (cond (a == b) rest false)

-- the order of serving: the lower level, then the earlier eligible slot, then the lower party
abbrev pub precedes : Held → Held → Bool
precedes x y = below_then (level_of x) (level_of y) (below_then x.cell.eligible.0 y.cell.eligible.0 (nat_lt x.cell.party y.cell.party))
