-- What a hop and the path behind it mean together.
use Rattle.std.specs.Prelude.{ℕ, suc, ◌-◌, cond, ◌∷◌, Some, None, Option, nat_lt}
use Rattle.scheduler.specs.declared.terms.Contract.{Contract}
use Rattle.scheduler.specs.Meaning.{Meaning}
use Rattle.paths.specs.Route.{Route, Terms, Place}
use Rattle.hops.specs.declared.crossing.Crossing.{Crossing}

-- a hop's number and link; what its scheduler means; of each party and eligible slot the label of the cell that waits; the parties
-- that cross it; and what the path behind means
pub record Parts : Type 0 where
  pub number : ℕ
  pub link : ℕ
  pub sched : Meaning
  pub waits : ℕ → ℕ → Option ℕ
  pub crossings : ℕ → Option Crossing
  pub behind : Route

-- the parts, one by one
abbrev pub parts : ℕ → ℕ → Meaning → (ℕ → ℕ → Option ℕ) → (ℕ → Option Crossing) → Route → Parts
parts n g m w xs b = record { number = n; link = g; sched = m; waits = w; crossings = xs; behind = b }

-- what a hop has of one party: how it crosses, its contracts with the scheduler and behind, its cells that wait and that are held, by
-- eligible slot, and those behind, by the slot in which they leave
pub record Side : Type 0 where
  pub crossing : Option Crossing
  pub contract : Option Contract
  pub terms : Option Terms
  pub waits : ℕ → Option ℕ
  pub held : ℕ → Option ℕ
  pub behind : ℕ → Option Place

-- a party's side of the parts
abbrev pub side : Parts → ℕ → Side
side k p = record { crossing = k.crossings p; contract = k.sched.contracts p; terms = k.behind.contracts p; waits = k.waits p; held = k.sched.held p; behind = k.behind.cells p }

-- the first, or else the second
abbrev pub either : Option ℕ → Option ℕ → Option ℕ
either None o = o
either (Some l) o = Some l

-- the label of the cell that stands at this hop and is eligible in slot e: it waits or is held
abbrev pub own : Side → ℕ → Option ℕ
own y e = either (y.waits e) (y.held e)

-- the same, of the cell that leaves in slot v: it is eligible the path constant before
abbrev pub leaving : Option Crossing → (ℕ → Option ℕ) → ℕ → Option ℕ
leaving None f v = None
leaving (Some x) f v = cond (nat_lt v x.constant.0) None (f (v - x.constant.0))

-- a cell behind, seen from here
abbrev pub deeper : Option Place → Option Place
deeper None = None
deeper (Some z) = Some (record { label = z.label; hop = suc z.hop })

-- a cell at this hop, or else one behind
abbrev pub standing : Option ℕ → Option Place → Option Place
standing None b = deeper b
standing (Some l) b = Some (record { label = l; hop = 0 })

-- the cell of a party that leaves in slot v
abbrev pub seen : Side → ℕ → Option Place
seen y v = standing (leaving y.crossing (own y) v) (y.behind v)

-- a contract behind, seen from a hop that the party crosses or not
abbrev pub from_here : Option Crossing → Option Terms → Option Terms
from_here x None = None
from_here None (Some t) = Some (record { spacing = t.spacing; bounds = 0 ∷ t.bounds; lead = t.lead; last = t.last })
from_here (Some x) (Some t) = Some (record { spacing = t.spacing; bounds = x.bound.0 ∷ t.bounds; lead = x.trail.lead.0; last = t.last })

-- the path from this hop on
abbrev pub joined : Parts → Route
joined k = record {
  slot = k.behind.slot;
  first = k.number;
  links = k.link ∷ k.behind.links;
  contracts = λ p. from_here (k.crossings p) (k.behind.contracts p);
  cells = λ p v. seen (side k p) v;
}
