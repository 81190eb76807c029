-- A row of cells, by party, that a scheduler is given.
use Rattle.std.specs.Prelude.{ℕ, cond, Some, None, Option, nat_lt}
use Rattle.scheduler.specs.declared.terms.Contract.{Contract}
use Rattle.scheduler.specs.Meaning.{Meaning, updated, used, filled}

-- a party's contract, used in slot n if there is a cell
abbrev pub used_if : Option ℕ → Option Contract → ℕ → Option Contract
used_if None c n = c
used_if (Some l) c n = used c n

-- its cells, with the one of slot n if there is one
abbrev pub held_if : Option ℕ → (ℕ → Option ℕ) → ℕ → ℕ → Option ℕ
held_if None h n = h
held_if (Some l) h n = updated h n (Some l)

-- the scheduler with every cell of the row put
abbrev pub with_row : (ℕ → Option ℕ) → Meaning → Meaning
with_row row m = record { slot = m.slot; contracts = λ p. used_if (row p) (m.contracts p) m.slot; held = λ p. held_if (row p) (m.held p) m.slot }

-- the scheduler with one cell put, if there is one
abbrev pub with_one : Option ℕ → ℕ → Meaning → Meaning
with_one None p m = m
with_one (Some l) p m = filled m p l

-- the row of the parties below i
abbrev pub below : ℕ → (ℕ → Option ℕ) → ℕ → Option ℕ
below i row p = cond (nat_lt p i) (row p) None
