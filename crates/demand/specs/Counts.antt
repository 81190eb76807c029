-- How many cells a spacing of s slots allows.
use Rattle.std.specs.Prelude.{ℕ, ◌+◌, ◌-◌, ◌/◌, ◌%◌, min, cond, nat_le}

-- ⌈x/s⌉, the quotient rounded up: the most cells, s apart, that come in x slots
abbrev pub ceil : ℕ → ℕ → ℕ
ceil x s = x / s + min 1 (x % s)

-- how many of first, first + s, first + 2 s and so on are at most x
abbrev pub jobs : ℕ → ℕ → ℕ → ℕ
jobs first s x = cond (nat_le first x) ((x - first) / s + 1) 0
