-- Why no cell is late: each level has an end until which its slots suffice.
use Rattle.std.specs.Prelude.{ℕ, ◌+◌, ◌^◌, Bool, false, cond, List, Some, None, sum_by, Option, ◌==◌, nat_le, nat_lt}
use Rattle.scheduler.specs.declared.terms.Contract.{Contract}
use Rattle.scheduler.specs.Meaning.{some_below}
use Rattle.backlog.specs.declared.held.Held.{Held}
use Rattle.demand.specs.Counts.{jobs}
use Rattle.demand.specs.Cells.{next_slot}
use Rattle.sp.specs.Levels.{level, level_of}

-- the cells that a contract of level l or lower may still put from slot t on and before slot b
abbrev pub arriving : ℕ → ℕ → ℕ → Option Contract → ℕ
arriving l t b None = 0
arriving l t b (Some c) = cond (nat_le (level c.bound.0) l) (jobs (next_slot t c.spacing.0 c.last + 1) c.spacing.0 b) 0

-- 1 for a held cell of level l or lower
abbrev pub low : ℕ → Held → ℕ
low l x = cond (nat_le (level_of x) l) 1 0

-- 1 for such a cell that became eligible more than 2 ^ l slots before slot b
abbrev pub stale : ℕ → ℕ → Held → ℕ
stale l b x = cond (nat_le (level_of x) l) (cond (nat_lt (x.cell.eligible.0 + 2 ^ l) b) 1 0) 0

-- the k slots from t on suffice for level l and lower: no more such cells are held or may still be put in them,
-- and they end no later than 2 ^ l slots after each of those held became eligible
abbrev pub suffices : ℕ → List (Option Contract) → List Held → ℕ → ℕ → Bool
suffices l cs xs t k = cond (nat_le (sum_by (low l) xs + sum_by (arriving l t (t + k)) cs) k) (sum_by (stale l (t + k)) xs == 0) false

-- some number of slots, from none to 2 ^ l, does. It is a test that can be carried out, so that a state can keep it
-- as a fact without keeping the number
unfoldable pub has_end : ℕ → List (Option Contract) → List Held → ℕ → Bool
has_end l cs xs t = some_below (2 ^ l + 1) (suffices l cs xs t)
