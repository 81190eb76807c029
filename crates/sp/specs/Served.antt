-- Which cell is served, said of what SP means.
use Rattle.std.specs.Prelude.{◌≡◌, ℕ, Bool, false, Some, None, Option, nat_lt}
use Rattle.scheduler.specs.declared.terms.Cell.{Cell}
use Rattle.scheduler.specs.Meaning.{Meaning}
use Rattle.scheduler.specs.Tables.{bound_or}
use Rattle.sp.specs.Levels.{level, below_then}

-- the level of a party's contract
abbrev pub party_level : Meaning → ℕ → ℕ
party_level m p = level (bound_or (m.contracts p))

-- whether a cell of party p, eligible in slot e, goes before one of party q, eligible in slot f: by the lower level, then the earlier
-- eligible slot, then the lower party
abbrev pub goes_before : Meaning → ℕ → ℕ → ℕ → ℕ → Bool
goes_before m p e q f = below_then (party_level m p) (party_level m q) (below_then e f (nat_lt p q))

-- a held cell before which no held cell goes, or none where no cell is held
abbrev pub GoesFirst : Meaning → Option Cell → Type 0
GoesFirst m None = (p e : ℕ) → m.held p e ≡ None
GoesFirst m (Some c) =
    (m.held c.party c.eligible.0 ≡ Some c.label)
    × ((p e l : ℕ) → m.held p e ≡ Some l → goes_before m p e c.party c.eligible.0 ≡ false)
