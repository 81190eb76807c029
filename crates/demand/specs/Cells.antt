-- Held cells beside the contracts of their parties.
use Rattle.std.specs.Prelude.{◌≡◌, ℕ, ◌+◌, ◌<◌, ◌≤◌, max, cond, List, length, Some, None, sum_by, Option, ◌==◌, nat_le, nat_lt, slice_index_or}
use Rattle.cells.specs.declared.times.Slot.{Slot}
use Rattle.scheduler.specs.declared.terms.Cell.{Cell}
use Rattle.scheduler.specs.declared.terms.Contract.{Contract}
use Rattle.scheduler.specs.Meaning.{Meaning, put_rule}
use Rattle.scheduler.specs.Tables.{contracts_of, bound_or}
use Rattle.backlog.specs.declared.held.Held.{Held}
use Rattle.backlog.specs.Cells.{due_of, held_in, at}
use Rattle.demand.specs.Counts.{jobs}
use Rattle.demand.specs.Totals.{total_of, places}

-- what a slot, a contract table and held cells mean
abbrev pub meaning_of : ℕ → List (Option Contract) → List Held → Meaning
meaning_of t cs xs = record { slot = t; contracts = contracts_of cs; held = held_in xs }

-- the cell of what is held
abbrev pub cell_of : Option Held → Option Cell
cell_of None = None
cell_of (Some x) = Some x.cell

-- the earliest slot from t on in which a contract of spacing s may put again: t, or last + s if that is later
abbrev pub next_slot : ℕ → ℕ → Option Slot → ℕ
next_slot t s None = t
next_slot t s (Some l) = max t (l.0 + s)

-- 1 for a cell of the party that became eligible in slot a or later
abbrev pub put_since : ℕ → ℕ → Held → ℕ
put_since p a x = cond (p == x.cell.party) (cond (nat_le a x.cell.eligible.0) 1 0) 0

-- the most cells, s apart, that were put from slot a on, the last of them in that slot
abbrev pub allowed_by : ℕ → ℕ → Option Slot → ℕ
allowed_by a s None = 0
allowed_by a s (Some l) = jobs a s l.0

-- the same of a contract; none without one
abbrev pub allowed : ℕ → Option Contract → ℕ
allowed a None = 0
allowed a (Some c) = allowed_by a c.spacing.0 c.last

-- 1 for a cell of the party that is held under another bound than b
abbrev pub stray : ℕ → ℕ → Held → ℕ
stray p b x = cond (p == x.cell.party) (cond (b == x.bound.0) 0 1) 0

-- 1 for a cell that is due before slot t
abbrev pub due_before : ℕ → Held → ℕ
due_before t x = cond (nat_lt (due_of x) t) 1 0

-- what a make with a table of 128 keeps of its contracts and held cells: a party's cells have different eligible slots and are its
-- spacing apart, each is held under its contract's bound, and the contracts want no more places than there are
pub record Orderly (cs : List (Option Contract)) (xs : List Held) : Type 0 where
  pub single : (p e : ℕ) → sum_by (at p e) xs ≤ 1
  pub spaced : (p a : ℕ) → sum_by (put_since p a) xs ≤ allowed a (slice_index_or cs p None)
  pub agreed : (p : ℕ) → sum_by (stray p (bound_or (slice_index_or cs p None))) xs ≡ 0
  pub fits : total_of places cs ≤ 128

-- x is a cell that party p puts in slot t: it has the contract c, which may put then, and the cell is eligible then, under its bound
pub record Puts (cs : List (Option Contract)) (t p : ℕ) (c : Contract) (x : Held) : Type 0 where
  pub inside : p < length cs
  pub granted : slice_index_or cs p None ≡ Some c
  pub consent : put_rule (Some c) t ≡ None
  pub spacing : 1 ≤ c.spacing.0
  pub party : x.cell.party ≡ p
  pub eligible : x.cell.eligible.0 ≡ t
  pub bound : x.bound.0 ≡ c.bound.0
