-- The makes of scheduler by number and by name.
use Rattle.std.specs.Prelude.{ℕ, cond, List, codes, ◌==◌}
use Rattle.cells.specs.declared.makes.Make.{Make}
use Rattle.cells.specs.declared.makes.Make.TheVariants.{Edf, Sp, Table}

-- 0 is EDF, 1 is SP, every other number is TABLE
abbrev pub make_of : ℕ → Make
make_of n = cond (n == 0) Edf (cond (n == 1) Sp Table)

-- the name that a plan gives a make
abbrev pub make_name : Make → List ℕ
make_name Edf = codes "EDF"
make_name Sp = codes "SP"
make_name Table = codes "TABLE"
