-- What a path means, and how a cell travels on it.
use Rattle.std.specs.Prelude.{◌≡◌, ℕ, zero, suc, ◌+◌, ◌-◌, ◌≤◌, Bool, true, false, cond, List, [], ◌∷◌, Some, None, Option, ◌==◌, slice_index_or}
use Rattle.cells.specs.declared.times.Span.{Span}
use Rattle.header.specs.declared.Header.{Header}
use Rattle.scheduler.specs.Meaning.{due, updated}
use Rattle.paths.specs.declared.tables.Delivery.{Delivery}

-- a contract on a path: the least distance of two cells; for each hop of this path its bound, 0 where it is not
-- crossed; the lead, so many slots ahead a cell's eligible slot is known when it enters, the present one counted;
-- and the slot of the last delivery under it
pub record Terms : Type 0 where
  pub spacing : ℕ
  pub bounds : List ℕ
  pub lead : ℕ
  pub last : Option ℕ

-- where a cell stands: its label, and how many hops of this path it has passed. Past the last hop stands the end
pub record Place : Type 0 where
  pub label : ℕ
  pub hop : ℕ

-- the slot; how many hops stand in front of this path, which is the number of its first hop; the links of its
-- hops, the front one first; the contract of each party; of each party and slot of leaving the cell. A party's
-- cells leave a spacing apart, so that no two leave in one slot
pub record Route : Type 0 where
  pub slot : ℕ
  pub first : ℕ
  pub links : List ℕ
  pub contracts : ℕ → Option Terms
  pub cells : ℕ → ℕ → Option Place

-- slot 0, no contract, no cell
abbrev pub fresh : ℕ → List ℕ → Route
fresh n gs = record { slot = 0; first = n; links = gs; contracts = λ p. None; cells = λ p v. None }

-- what a hop adds to the path constant: its bound and its link, if it is crossed
abbrev pub cost : ℕ → ℕ → ℕ
cost g d = cond (d == 0) 0 (d + g)

-- the path constant, from links and bounds
abbrev pub constant : List ℕ → List ℕ → ℕ
constant [] ds = 0
constant (g ∷ gs) [] = 0
constant (g ∷ gs) (d ∷ ds) = cost g d + constant gs ds

-- the path constant from hop k on
abbrev pub rest : List ℕ → List ℕ → ℕ → ℕ
rest [] ds k = 0
rest (g ∷ gs) [] k = 0
rest (g ∷ gs) (d ∷ ds) zero = cost g d + constant gs ds
rest (g ∷ gs) (d ∷ ds) (suc k) = rest gs ds k

-- the slot in which a cell that leaves in slot v is eligible at hop k
abbrev pub eligible : List ℕ → List ℕ → ℕ → ℕ → ℕ
eligible gs ds v k = v - rest gs ds k

-- the last slot in which it may stand there: the one in which it is due at a hop, or delivered at the end
abbrev pub deadline : List ℕ → List ℕ → ℕ → ℕ → ℕ
deadline [] ds v k = v
deadline (g ∷ gs) [] v k = v
deadline (g ∷ gs) (d ∷ ds) v zero = due (eligible (g ∷ gs) (d ∷ ds) v zero) d
deadline (g ∷ gs) (d ∷ ds) v (suc k) = deadline gs ds v k

-- whether hop k is the end
abbrev pub at_end : List ℕ → ℕ → Bool
at_end [] k = true
at_end (g ∷ gs) zero = false
at_end (g ∷ gs) (suc k) = at_end gs k

-- the first hop that is crossed, or the end
abbrev pub next : List ℕ → ℕ
next [] = 0
next (d ∷ ds) = cond (d == 0) (suc (next ds)) 0

-- the bounds of a contract
abbrev pub bounds_of : Option Terms → List ℕ
bounds_of None = []
bounds_of (Some t) = t.bounds

-- the path constant under a contract, if there is one
abbrev pub constant_in : List ℕ → Option Terms → Option Span
constant_in gs None = None
constant_in gs (Some t) = Some (record { 0 = constant gs t.bounds })

-- the path constant of a party
abbrev pub constant_of : Route → ℕ → ℕ
constant_of r p = constant r.links (bounds_of (r.contracts p))

-- a cell of the party enters, eligible in slot e at the first hop that it crosses
abbrev pub entered : Route → ℕ → ℕ → ℕ → Route
entered r p e l = record {
  slot = r.slot;
  first = r.first;
  links = r.links;
  contracts = r.contracts;
  cells = updated r.cells p (updated (r.cells p) (e + constant_of r p) (Some (record { label = l; hop = next (bounds_of (r.contracts p)) })));
}

-- whether a send entry is that of the party's cell that is due in slot u: sent in slot t, u less t ahead
abbrev pub names : Option Header → ℕ → ℕ → ℕ → Bool
names None t p u = false
names (Some y) t p u = cond (p == y.party) (u == t + y.ahead.0) false

-- one hop further
abbrev pub further : Option ℕ → Option ℕ
further None = None
further (Some k) = Some (suc k)

-- where a cell of party p that leaves in slot v stands after the tick of slot t, if it stood at hop k before. n is the number of
-- the first hop, and ss the send table: a cell whose hop sent it stands at the next hop that it crosses; at the end
-- it is gone once slot v is over
abbrev pub moved : ℕ → List ℕ → List ℕ → List (Option Header) → ℕ → ℕ → ℕ → ℕ → Option ℕ
moved n [] ds ss t p v k = cond (v == t) None (Some k)
moved n (g ∷ gs) [] ss t p v k = Some k
moved n (g ∷ gs) (d ∷ ds) ss t p v zero =
    Some (cond (names (slice_index_or ss n None) t p (deadline (g ∷ gs) (d ∷ ds) v zero)) (suc (next ds)) zero)
moved n (g ∷ gs) (d ∷ ds) ss t p v (suc k) = further (moved (suc n) gs ds ss t p v k)

-- a cell at a hop, if there is one
abbrev pub placed : ℕ → Option ℕ → Option Place
placed l None = None
placed l (Some k) = Some (record { label = l; hop = k })

-- a cell after the tick
abbrev pub cell_after : Route → List (Option Header) → ℕ → ℕ → Option Place → Option Place
cell_after r ss p v None = None
cell_after r ss p v (Some x) = placed x.label (moved r.first r.links (bounds_of (r.contracts p)) ss r.slot p v x.hop)

-- the label of a cell that stands at the end
abbrev pub arrived : List ℕ → Option Place → Option ℕ
arrived gs None = None
arrived gs (Some x) = cond (at_end gs x.hop) (Some x.label) None

-- what a party is delivered in this slot: its cell that leaves now
abbrev pub delivery_of : Route → ℕ → Option ℕ
delivery_of r p = arrived r.links (r.cells p r.slot)

-- the contract after slot t, in which this was delivered
abbrev pub noted : Option Terms → Option ℕ → ℕ → Option Terms
noted None o t = None
noted (Some k) None t = Some k
noted (Some k) (Some l) t = Some (record { spacing = k.spacing; bounds = k.bounds; lead = k.lead; last = Some t })

-- the path one slot on: each hop has sent what the send table says, and the end delivered what was to leave
abbrev pub ticked : Route → List (Option Header) → Route
ticked r ss = record {
  slot = r.slot + 1;
  first = r.first;
  links = r.links;
  contracts = λ p. noted (r.contracts p) (delivery_of r p) r.slot;
  cells = λ p v. cell_after r ss p v (r.cells p v);
}

-- the entry of a party in a delivery table
abbrev pub delivery_entry : ℕ → Option ℕ → Option Delivery
delivery_entry p None = None
delivery_entry p (Some l) = Some (record { party = p; label = l })

-- hop k may send this: a cell that stands there, is eligible, and due so many slots from now
pub record MaySend (r : Route) (k : ℕ) (y : Header) : Type 0 where
  pub leaving : ℕ
  pub stands : r.cells y.party leaving ≡ Some (record { label = y.label; hop = k })
  pub at_hop : at_end r.links k ≡ false
  pub ready : eligible r.links (bounds_of (r.contracts y.party)) leaving k ≤ r.slot
  pub ahead : deadline r.links (bounds_of (r.contracts y.party)) leaving k ≡ r.slot + y.ahead.0
