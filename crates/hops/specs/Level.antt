-- How a hop's parts agree.
use Rattle.std.specs.Prelude.{◌≡◌, ℕ, suc, ◌+◌, ◌≤◌, true, ◌⊎◌, List, is_some, Some, None, Option}
use Rattle.cells.specs.declared.times.Slot.{Slot}
use Rattle.scheduler.specs.declared.terms.Contract.{Contract}
use Rattle.paths.specs.Route.{Terms, Place, constant}
use Rattle.paths.specs.Laws.{Lawful}
use Rattle.hops.specs.declared.crossing.Crossing.{Crossing}
use Rattle.hops.specs.Joined.{Parts, Side, side, own, seen, joined}

-- a party that crosses has the same contract with the scheduler and behind, where its lead is its bound here and the link; its path
-- constant is these and what lies behind
pub record Crosses (g : ℕ) (gs : List ℕ) (x : Crossing) (c : Contract) (t : Terms) : Type 0 where
  pub spacing : c.spacing.0 ≡ x.trail.spacing.0
  pub bound : c.bound.0 ≡ x.bound.0
  pub last : c.last ≡ x.trail.last
  pub behind : t.spacing ≡ x.trail.spacing.0
  pub lead : t.lead ≡ x.bound.0 + g
  pub constants : x.constant.0 ≡ x.bound.0 + g + constant gs t.bounds

-- a party has a contract with the scheduler if it crosses the hop, and then behind it too
abbrev pub Tied : ℕ → List ℕ → Option Crossing → Option Contract → Option Terms → Type 0
Tied g gs None c t = c ≡ None
Tied g gs (Some x) None t = ⊥
Tied g gs (Some x) (Some c) None = ⊥
Tied g gs (Some x) (Some c) (Some t) = Crosses g gs x c t

-- the slot of the last delivery under a contract
abbrev pub last_of : Option Terms → Option ℕ
last_of None = None
last_of (Some t) = t.last

-- no cell behind, nor the last delivery, is later than the cell that was eligible here in slot a; and that one is on the path, or was delivered last
pub record Passed (y : Side) (x : Crossing) (a : ℕ) : Type 0 where
  pub cells : (v : ℕ) (z : Place) → y.behind v ≡ Some z → v ≤ a + x.constant.0
  pub last : (u : ℕ) → last_of y.terms ≡ Some u → u ≤ a + x.constant.0
  pub known : (is_some (seen y (a + x.constant.0)) ≡ true) ⊎ (last_of y.terms ≡ Some (a + x.constant.0))

-- nothing has gone behind
pub record Unused (y : Side) : Type 0 where
  pub cells : (v : ℕ) → y.behind v ≡ None
  pub last : last_of y.terms ≡ None

-- by the slot in which the scheduler was last given a cell of the party: those that wait come a spacing later, those behind are no later
abbrev pub Put : Side → Crossing → Option Slot → Type 0
Put y x None = Unused y
Put y x (Some t) = Passed y x t.0 × ((e l : ℕ) → y.waits e ≡ Some l → t.0 + x.trail.spacing.0 ≤ e)

-- by the latest slot in which a cell that entered was eligible
abbrev pub Latest : Side → Crossing → Option Slot → Type 0
Latest y x None = Unused y × ((e : ℕ) → own y e ≡ None)
Latest y x (Some t) = Passed y x t.0 × ((e l : ℕ) → own y e ≡ Some l → e ≤ t.0)

-- what holds of a party that crosses: no cell stands both here and behind
pub record Settled (y : Side) (x : Crossing) (c : Contract) : Type 0 where
  pub apart : (e l : ℕ) → y.held e ≡ Some l → y.behind (e + x.constant.0) ≡ None
  pub put : Put y x c.last
  pub latest : Latest y x x.trail.latest

-- what holds of a party in slot n, at a hop with link g before links gs: a cell that waits is not past its slot, and only a party that crosses waits
pub record Agrees (n g : ℕ) (gs : List ℕ) (y : Side) : Type 0 where
  pub tied : Tied g gs y.crossing y.contract y.terms
  pub window : (e l : ℕ) → y.waits e ≡ Some l → n ≤ e
  pub idle : y.crossing ≡ None → (e : ℕ) → y.waits e ≡ None
  pub settled : (x : Crossing) (c : Contract) → y.crossing ≡ Some x → y.contract ≡ Some c → Settled y x c

-- all that holds between the parts of a hop
pub record Level (k : Parts) : Type 0 where
  pub slots : k.sched.slot ≡ k.behind.slot
  pub numbers : k.behind.first ≡ suc k.number
  pub link : k.link ≤ 63
  pub agrees : (p : ℕ) → Agrees k.behind.slot k.link k.behind.links (side k p)
  pub lawful : Lawful (joined k)

-- a hop is sound: its calendar is at the slot of the path behind, and its parts agree
pub record Sound (day : ℕ) (k : Parts) : Type 0 where
  pub days : day ≡ k.behind.slot
  pub level : Level k
