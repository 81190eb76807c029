-- What holds of every path.
use Rattle.std.specs.Prelude.{◌≡◌, ℕ, ◌+◌, ◌<◌, ◌≤◌, length, Some, None, slice_index}
use Rattle.scheduler.specs.Meaning.{last_slot}
use Rattle.paths.specs.Route.{Route, Terms, Place, constant, rest, deadline}

-- a contract is in range: spacing 1 to 1,024, lead 1 to 191, a bound of at most 128 for each hop; its last delivery is over
pub record InRange (r : Route) (t : Terms) : Type 0 where
  pub spacing_least : 1 ≤ t.spacing
  pub spacing_most : t.spacing ≤ 1024
  pub lead_least : 1 ≤ t.lead
  pub lead_most : t.lead ≤ 191
  pub whole : length t.bounds ≡ length r.links
  pub bounds_most : (k : ℕ) → slice_index t.bounds k ≤ 128
  pub over : (u : ℕ) → t.last ≡ Some u → u < r.slot

-- a cell that leaves in slot v stands where it may, at hop k: at a hop that it crosses, or at the end; it has come so far;
-- it is not due below the slot; and it leaves within its lead and the path constant
pub record Stands (r : Route) (t : Terms) (v k : ℕ) : Type 0 where
  pub hop : k ≤ length r.links
  pub crossed : k < length r.links → 1 ≤ slice_index t.bounds k
  pub way : rest r.links t.bounds k ≤ v
  pub in_time : r.slot ≤ deadline r.links t.bounds v k
  pub known : v < r.slot + t.lead + constant r.links t.bounds

-- a path has at most eight hops, with links of at most 63 slots; only parties 0 to 15 have contracts, which are in range; a cell stands
-- where it may under its party's contract; the cells of a party leave at least a spacing apart, and so from its last delivery
pub record Lawful (r : Route) : Type 0 where
  pub slots : r.slot ≤ last_slot + 1
  pub hops : r.first + length r.links ≤ 8
  pub links : (k : ℕ) → slice_index r.links k ≤ 63
  pub parties : (p : ℕ) → 15 < p → r.contracts p ≡ None
  pub terms : (p : ℕ) (t : Terms) → r.contracts p ≡ Some t → InRange r t
  pub owned : (p v : ℕ) → r.contracts p ≡ None → r.cells p v ≡ None
  pub stands : (p v : ℕ) (t : Terms) (x : Place) → r.contracts p ≡ Some t → r.cells p v ≡ Some x → Stands r t v x.hop
  pub spaced : (p v w : ℕ) (t : Terms) (x y : Place) → r.contracts p ≡ Some t → r.cells p v ≡ Some x → r.cells p w ≡ Some y → v < w → v + t.spacing ≤ w
  pub since : (p u v : ℕ) (t : Terms) (x : Place) → r.contracts p ≡ Some t → t.last ≡ Some u → r.cells p v ≡ Some x → u + t.spacing ≤ v
