-- The parties that cross a hop.
use Rattle.std.specs.Prelude.{◌≡◌, ℕ, Some, None, Option, slice_index_or}
use Rattle.cells.specs.declared.times.Slot.{Slot}
use Rattle.paths.specs.Verdicts.{share}
use Rattle.hops.specs.declared.crossing.Crossing.{Crossing}
use Rattle.hops.specs.declared.crossings.Crossings.{Crossings}

-- how each party crosses
abbrev pub crossings_of : Crossings → ℕ → Option Crossing
crossings_of c p = slice_index_or c.parties.entries p None

-- how many cells of it can wait at once
abbrev pub crossing_load : Option Crossing → ℕ
crossing_load None = 0
crossing_load (Some x) = share x.trail.lead.0 x.trail.spacing.0

-- a crossing of the same terms
pub record Same (x z : Crossing) : Type 0 where
  pub spacing : z.trail.spacing.0 ≡ x.trail.spacing.0
  pub lead : z.trail.lead.0 ≡ x.trail.lead.0
  pub bound : z.bound.0 ≡ x.bound.0
  pub constants : z.constant.0 ≡ x.constant.0

-- a crossing whose cell was taken in slot n, to be sent
pub record Taking (x : Crossing) (n : ℕ) (z : Crossing) : Type 0 where
  pub same : Same x z
  pub latest : z.trail.latest ≡ x.trail.latest
  pub slot : Slot
  pub last : z.trail.last ≡ Some slot
  pub now : slot.0 ≡ n

-- a crossing before and after, if a cell was taken
abbrev pub Took : Option ℕ → ℕ → Option Crossing → Option Crossing → Type 0
Took None n x z = z ≡ x
Took (Some l) n None z = z ≡ None
Took (Some l) n (Some x) z = (x' : Crossing) × (z ≡ Some x') × Taking x n x'
