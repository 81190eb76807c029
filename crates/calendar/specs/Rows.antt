-- Labels by party, and for which slots there is room.
use Rattle.std.specs.Prelude.{ℕ, ◌+◌, ◌%◌, Bool, false, cond, Some, None, Option, nat_le, nat_lt, slice_index_or}
use Rattle.cells.specs.declared.parties.ByParty.{ByParty}

-- whether a cell of party p can wait for slot e, from slot n: p is at most 15, and e is from n to n + 191
abbrev pub room : ℕ → ℕ → ℕ → Bool
room n p e = cond (nat_le p 15) (cond (nat_le n e) (nat_lt e (n + 192)) false) false

-- of a grid by day and party, what waits for each party and slot, from slot n
abbrev pub window : ℕ → (ℕ → ℕ → Option ℕ) → ℕ → ℕ → Option ℕ
window n grid p e = cond (room n p e) (grid (e % 192) p) None

-- the labels of a day by party; without any, no party has one
abbrev pub row_of : Option (ByParty ℕ) → ℕ → Option ℕ
row_of None p = None
row_of (Some r) p = slice_index_or r.entries p None
