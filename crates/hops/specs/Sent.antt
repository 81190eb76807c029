-- What a hop sends, and hands to the path behind.
use Rattle.std.specs.Prelude.{◌≡◌, ℕ, ◌+◌, ◌≤◌, Some, None, Option}
use Rattle.header.specs.declared.Header.{Header}
use Rattle.scheduler.specs.declared.terms.Cell.{Cell}
use Rattle.scheduler.specs.Meaning.{due, last_slot}
use Rattle.paths.specs.Route.{Route, entered}
use Rattle.paths.specs.Verdicts.{arrival_rule}
use Rattle.hops.specs.declared.crossing.Crossing.{Crossing}

-- the header of a cell that is sent in slot n: so far ahead of its due slot
pub record Heads (c : Cell) (x : Crossing) (n : ℕ) (y : Header) : Type 0 where
  pub party : y.party ≡ c.party
  pub ahead : n + y.ahead.0 ≡ due c.eligible.0 x.bound.0
  pub label : y.label ≡ c.label

-- a cell can be sent in slot n: its party crosses, it is eligible and not overdue, and the path behind takes it, eligible there its bound and the link later
pub record Ready (xs : ℕ → Option Crossing) (g n : ℕ) (b : Route) (c : Cell) : Type 0 where
  pub crossing : Crossing
  pub crosses : xs c.party ≡ Some crossing
  pub party : c.party ≤ 15
  pub slots : n ≤ last_slot
  pub eligible : c.eligible.0 ≤ n
  pub timely : n ≤ due c.eligible.0 crossing.bound.0
  pub consent : arrival_rule b (b.contracts c.party) c.party (c.eligible.0 + crossing.bound.0 + g) ≡ None

-- the entry in the send table, and the path behind before and after: nothing was served, or the cell was sent and entered there
abbrev pub Handed : (ℕ → Option Crossing) → ℕ → ℕ → Option Cell → Option Header → Route → Route → Type 0
Handed xs g n None y b b' = (y ≡ None) × (b' ≡ b)
Handed xs g n (Some c) y b b' = (x : Crossing) × (h : Header) × (xs c.party ≡ Some x) × (y ≡ Some h) × Heads c x n h × (b' ≡ entered b c.party (c.eligible.0 + x.bound.0 + g) c.label)
