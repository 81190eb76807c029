-- What each call on a path answers, and what it leaves.
use Rattle.std.specs.Prelude.{◌≡◌, ℕ, zero, suc, ◌+◌, ◌-◌, ◌<◌, Bool, true, false, cond, List, [], ◌∷◌, get_or, is_some, Some, None, Ok, Err, Option, Result, ◌==◌, nat_lt, slice_index_or}
use Rattle.cells.specs.declared.faults.Cause.{Cause}
use Rattle.cells.specs.declared.faults.Cause.TheVariants.{PartyOutOfRange, PartyHasContract, SpacingOutOfRange, BoundOutOfRange, CellsPresent, CalendarExceeded, NoContract, TooSoon, SlotsOver, PartyHasCells, EligibleOutOfWindow}
use Rattle.cells.specs.declared.faults.Layer.TheVariants.{Scheduler, Hop}
use Rattle.cells.specs.declared.faults.Fault.{Fault}
use Rattle.cells.specs.declared.times.Span.{Span}
use Rattle.demand.specs.Counts.{ceil}
use Rattle.header.specs.Headers.{header_of}
use Rattle.header.specs.declared.Header.{Header}
use Rattle.scheduler.specs.Meaning.{last_slot, outside, some_below, updated}
use Rattle.paths.specs.declared.tables.Delivery.{Delivery}
use Rattle.paths.specs.Route.{Route, Terms, MaySend, constant, bounds_of, entered, ticked, delivery_of, delivery_entry}

-- a fault of a hop or the end: what is refused, to which party, and at which hop, or 255
abbrev pub fault : Cause → ℕ → ℕ → Fault
fault c p k = record { cause = c; layer = Hop; party = p; hop = k; line = 0 }

-- what is answered under a verdict: none is consent
abbrev pub answered : Option Fault → Result (Unit {0}) Fault
answered None = Ok tt
answered (Some f) = Err f

-- what stands after it: a refusal leaves the old
abbrev pub unless : {X : Type 0} → Option Fault → X → X → X
unless None old new = new
unless (Some f) old new = old

-- the fault f where the test is true, else what follows
abbrev pub refused_if : Bool → Fault → Option Fault → Option Fault
refused_if b f v = cond b (Some f) v

-- whether a cell of the party is on the path. A cell that enters leaves within its lead and the path constant, so these slots are gone through
unfoldable pub holds_of : Route → ℕ → Bool
holds_of r p = elim (r.contracts p) [ None ↦ false | Some t ↦ some_below (r.slot + t.lead + constant r.links t.bounds) (λ v. is_some (r.cells p v)) ]

-- whether a cell of any party is on it
unfoldable pub holds_any : Route → Bool
holds_any r = some_below 16 (holds_of r)

-- the bound that hop n is given
abbrev pub bound : List Span → ℕ → ℕ
bound bs n = (get_or bs n (record { 0 = 0 })).0

-- the lowest hop from n on, of so many, whose bound is not 0
abbrev pub nonzero : ℕ → ℕ → List Span → Option ℕ
nonzero zero n bs = None
nonzero (suc i) n bs = cond (bound bs n == 0) (nonzero i (suc n) bs) (Some n)

-- the lowest hop from n on whose bound is bad: a hop that the path has takes 0 to 128, one that it lacks only 0
abbrev pub bad_bound : ℕ → List ℕ → List Span → Option ℕ
bad_bound n [] bs = nonzero (8 - n) n bs
bad_bound n (g ∷ gs) bs = cond (nat_lt 128 (bound bs n)) (Some n) (bad_bound (suc n) gs bs)

-- the number by which a path names itself: that of its first hop; the end is 8
abbrev pub own_number : ℕ → List ℕ → ℕ
own_number n [] = 8
own_number n (g ∷ gs) = n

-- the lowest bad hop: a lead out of range counts as this path's own
abbrev pub bad_hop : ℕ → List ℕ → List Span → ℕ → Option ℕ
bad_hop n gs bs lead = cond (outside 1 191 lead) (Some (own_number n gs)) (bad_bound n gs bs)

-- a bad hop is refused, else what follows
abbrev pub refused_at : Option ℕ → ℕ → Option Fault → Option Fault
refused_at None p v = v
refused_at (Some k) p v = Some (fault BoundOutOfRange p k)

-- the bounds of this path's hops among those given
abbrev pub bounds_from : ℕ → List ℕ → List Span → List ℕ
bounds_from n [] bs = []
bounds_from n (g ∷ gs) bs = bound bs n ∷ bounds_from (suc n) gs bs

-- how many cells of a contract can wait at once: the lead over the spacing, rounded up
abbrev pub share : ℕ → ℕ → ℕ
share lead s = ceil lead s

-- the same, of a contract if there is one
abbrev pub share_of : Option Terms → ℕ
share_of None = 0
share_of (Some t) = share t.lead t.spacing

-- n, where the first of these bounds is not 0
abbrev pub if_crossed : List ℕ → ℕ → ℕ
if_crossed [] n = 0
if_crossed (d ∷ ds) n = cond (d == 0) 0 n

-- the same, at the first hop: 0 of a contract that does not cross it
abbrev pub crossing_share : Option Terms → ℕ
crossing_share o = if_crossed (bounds_of o) (share_of o)

-- the sum of f over the first n
abbrev pub sum_below : ℕ → (ℕ → ℕ) → ℕ
sum_below zero f = 0
sum_below (suc n) f = f n + sum_below n f

-- the sum over the contracts of all parties
unfoldable pub shares : (Option Terms → ℕ) → (ℕ → Option Terms) → ℕ
shares f cs = sum_below 16 (λ q. f (cs q))

-- the lead behind a hop: its bound and its link if it is crossed, else the same
abbrev pub handed : ℕ → List ℕ → ℕ → ℕ
handed g [] lead = lead
handed g (d ∷ ds) lead = cond (d == 0) lead (d + g)

-- all but the first
abbrev pub but_first : List ℕ → List ℕ
but_first [] = []
but_first (d ∷ ds) = ds

-- a contract, seen from behind the first hop with link g
abbrev pub behind : ℕ → Option Terms → Option Terms
behind g None = None
behind g (Some t) = Some (record { spacing = t.spacing; bounds = but_first t.bounds; lead = handed g t.bounds t.lead; last = t.last })

-- a scheduler's own answer to a proposed contract: party, spacing, bound
abbrev pub Test : Type 0
Test = ℕ → ℕ → ℕ → Option Cause

-- a scheduler's refusal with the number of its hop, else what follows
abbrev pub tested : Option Cause → ℕ → ℕ → Option Fault → Option Fault
tested None p n v = v
tested (Some c) p n v = Some (record { cause = c; layer = Scheduler; party = p; hop = n; line = 0 })

-- whether there is room, from hop n on: at each hop that is crossed the calendar of 192 and then the scheduler's test, last the calendar of the end
abbrev pub admitted : ℕ → List ℕ → List Test → (ℕ → Option Terms) → ℕ → ℕ → List Span → ℕ → Option Fault
admitted n [] ts cs p s bs lead = refused_if (nat_lt 192 (shares share_of cs + share lead s)) (fault CalendarExceeded p 8) None
admitted n (g ∷ gs) [] cs p s bs lead = None
admitted n (g ∷ gs) (t ∷ ts) cs p s bs lead =
    cond (bound bs n == 0) (admitted (suc n) gs ts (λ q. behind g (cs q)) p s bs lead)
    (refused_if (nat_lt 192 (shares crossing_share cs + share lead s)) (fault CalendarExceeded p n)
    (tested (t p s (bound bs n)) p n (admitted (suc n) gs ts (λ q. behind g (cs q)) p s bs (bound bs n + g))))

-- a grant, by whether the party has a contract, the lowest bad hop, and whether a cell is on the path; where nothing is refused, v
abbrev pub common_rule : Bool → Option ℕ → Bool → ℕ → ℕ → Option Fault → Option Fault
common_rule known bad busy p s v =
    refused_if (nat_lt 15 p) (fault PartyOutOfRange p 255)
    (refused_if known (fault PartyHasContract p 255)
    (refused_if (outside 1 1024 s) (fault SpacingOutOfRange p 255)
    (refused_at bad p
    (refused_if busy (fault CellsPresent p 255) v))))

-- a grant: what is refused before any room is asked for, and then v
abbrev pub grant_rule : Route → ℕ → ℕ → List Span → ℕ → Option Fault → Option Fault
grant_rule r p s bs lead v = common_rule (is_some (r.contracts p)) (bad_hop r.first r.links bs lead) (holds_any r) p s v

-- a grant, under the tests of the schedulers at the hops
abbrev pub grant_verdict : Route → List Test → ℕ → ℕ → List Span → ℕ → Option Fault
grant_verdict r ts p s bs lead = grant_rule r p s bs lead (admitted r.first r.links ts r.contracts p s bs lead)

-- the contract is added, with no delivery
abbrev pub granted : Route → ℕ → ℕ → List Span → ℕ → Route
granted r p s bs lead = record {
  slot = r.slot;
  first = r.first;
  links = r.links;
  contracts = updated r.contracts p (Some (record { spacing = s; bounds = bounds_from r.first r.links bs; lead = lead; last = None }));
  cells = r.cells;
}

-- a withdrawal: no contract, then a cell of the party is on the path
abbrev pub withdraw_rule : Option Terms → Bool → ℕ → Option Fault
withdraw_rule None holds p = Some (fault NoContract p 255)
withdraw_rule (Some t) holds p = refused_if holds (fault PartyHasCells p 255) None

-- the same, of a path
abbrev pub withdraw_verdict : Route → ℕ → Option Fault
withdraw_verdict r p = withdraw_rule (r.contracts p) (holds_of r p) p

-- the contract is gone
abbrev pub withdrawn : Route → ℕ → Route
withdrawn r p = record { slot = r.slot; first = r.first; links = r.links; contracts = updated r.contracts p None; cells = r.cells }

-- slot e is below slot t, or not below t + lead
abbrev pub out_of_window : ℕ → ℕ → ℕ → Bool
out_of_window t lead e = cond (nat_lt e t) true (cond (nat_lt e (t + lead)) false true)

-- slots v and w are less than s apart
abbrev pub within : ℕ → ℕ → ℕ → Bool
within s v w = cond (nat_lt v (w + s)) (nat_lt w (v + s)) false

-- the last delivery was less than s slots from slot v
abbrev pub last_within : Option ℕ → ℕ → ℕ → Bool
last_within None s v = false
last_within (Some u) s v = within s v u

-- a cell of the party that leaves in slot v would leave less than a spacing from another on the path, or from its last delivery
unfoldable pub crowded : Route → Terms → ℕ → ℕ → Bool
crowded r t p v = cond (last_within t.last t.spacing v) true (some_below (v + t.spacing) (λ w. cond (within t.spacing v w) (is_some (r.cells p w)) false))

-- an arrival under a contract, eligible in slot e
abbrev pub arrival_rule : Route → Option Terms → ℕ → ℕ → Option Fault
arrival_rule r None p e = Some (fault NoContract p 255)
arrival_rule r (Some t) p e =
    refused_if (out_of_window r.slot t.lead e) (fault EligibleOutOfWindow p 255)
    (refused_if (crowded r t p (e + constant r.links t.bounds)) (fault TooSoon p 255) None)

-- an arrival with a header, in slot a: the header's own faults come first
abbrev pub header_rule : Route → Result Header Fault → ℕ → Option Fault
header_rule r (Err f) a = Some f
header_rule r (Ok h) a = arrival_rule r (r.contracts h.party) h.party (a + h.ahead.0)

-- the same, with the header's bytes
abbrev pub enter_verdict : Route → List ℕ → ℕ → Option Fault
enter_verdict r bytes a = header_rule r (header_of bytes) a

-- the path with the cell of a header
abbrev pub entered_by : Route → Result Header Fault → ℕ → Route
entered_by r (Err f) a = r
entered_by r (Ok h) a = entered r h.party (a + h.ahead.0) h.label

-- a tick: refused once every slot is over
abbrev pub tick_verdict : Route → Option Fault
tick_verdict r = refused_if (nat_lt last_slot r.slot) (fault SlotsOver 255 255) None

-- the delivery table after a tick: written whole, or as it was
abbrev pub Delivers : Option Fault → Route → List (Option Delivery) → List (Option Delivery) → Type 0
Delivers (Some f) r old new = new ≡ old
Delivers None r old new = (p : ℕ) → slice_index_or new p None ≡ delivery_entry p (delivery_of r p)

-- the send table after a tick: written whole from the first hop of this path on, or as it was. Each entry is of a cell that its hop may send;
-- so there is none past the last hop
pub record Sent (r : Route) (old new : List (Option Header)) : Type 0 where
  pub front : (k : ℕ) → k < r.first → slice_index_or new k None ≡ slice_index_or old k None
  pub sends : (k : ℕ) (y : Header) → slice_index_or new (r.first + k) None ≡ Some y → MaySend r k y

-- the same, under a verdict
abbrev pub Sends : Option Fault → Route → List (Option Header) → List (Option Header) → Type 0
Sends (Some f) r old new = new ≡ old
Sends None r old new = Sent r old new

-- the path after a tick under a verdict
abbrev pub after_tick : Route → List (Option Header) → Route
after_tick r ss = unless (tick_verdict r) r (ticked r ss)
