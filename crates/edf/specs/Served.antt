-- Which cell is served, said of what an EDF scheduler means.
use Rattle.std.specs.Prelude.{◌≡◌, ℕ, ◌≤◌, Some, None, Option}
use Rattle.scheduler.specs.declared.terms.Cell.{Cell}
use Rattle.scheduler.specs.declared.terms.Contract.{Contract}
use Rattle.scheduler.specs.Meaning.{Meaning, due}

-- no held cell is due before the cell, nor is one of a lower party due in the same slot; without a cell none is held
abbrev pub Earliest : Meaning → Option Cell → Type 0
Earliest m None = (p e : ℕ) → m.held p e ≡ None
Earliest m (Some x) =
    (p e l : ℕ) (c d : Contract) → m.held p e ≡ Some l → m.contracts p ≡ Some c → m.contracts x.party ≡ Some d
    → (due x.eligible.0 d.bound.0 ≤ due e c.bound.0) × (due x.eligible.0 d.bound.0 ≡ due e c.bound.0 → x.party ≤ p)
