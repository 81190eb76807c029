-- What the end of a path has, by its parts.
use Rattle.std.specs.Prelude.{◌≡◌, ℕ, Bool, false, [], Some, None, Option, slice_index_or}
use Rattle.cells.specs.declared.times.Slot.{Slot}
use Rattle.scheduler.specs.Meaning.{some_below}
use Rattle.paths.specs.declared.trail.Trail.{Trail}
use Rattle.paths.specs.Laws.{Lawful}
use Rattle.paths.specs.Route.{Route, Terms, Place, noted}
use Rattle.paths.specs.Trails.{still, Newest}
use Rattle.ends.specs.declared.trails.Trails.{Trails}

-- the trail of each party, none past the table
abbrev pub trail_of : Trails → ℕ → Option Trail
trail_of x p = slice_index_or x.parties.entries p None

-- the number of a slot, if there is one
abbrev pub number_in : Option Slot → Option ℕ
number_in None = None
number_in (Some t) = Some t.0

-- the contract of a trail: it crosses no hop, and what was taken last was delivered
abbrev pub terms_of : Trail → Terms
terms_of y = record { spacing = y.spacing.0; bounds = []; lead = y.lead.0; last = number_in y.last }

-- the same, if there is a trail
abbrev pub terms_in : Option Trail → Option Terms
terms_in None = None
terms_in (Some y) = Some (terms_of y)

-- the latest eligible slot on a trail, if there is a trail
abbrev pub latest_in : Option Trail → Option (Option Slot)
latest_in None = None
latest_in (Some y) = Some y.latest

-- whether a cell of a trail is still here in slot n
abbrev pub still_in : Option Trail → ℕ → Bool
still_in None n = false
still_in (Some y) n = still y.latest 0 n

-- whether a cell of any party is
unfoldable pub still_any : (ℕ → Option Trail) → ℕ → Bool
still_any ts n = some_below 16 (λ p. still_in (ts p) n)

-- a trail before and after slot t, in which this was delivered: the slot is its last, and the latest stays
pub record Noted (old : Option Trail) (o : Option ℕ) (t : ℕ) (new : Option Trail) : Type 0 where
  pub terms : terms_in new ≡ noted (terms_in old) o t
  pub latest : latest_in new ≡ latest_in old

-- a cell that waits stands at the end, which no hop of this path comes before
abbrev pub place_in : Option ℕ → Option Place
place_in None = None
place_in (Some l) = Some (record { label = l; hop = 0 })

-- a path without a hop: its slot, how many hops stand in front, the trails by party, and what waits by party and slot
abbrev pub route_of : ℕ → ℕ → (ℕ → Option Trail) → (ℕ → ℕ → Option ℕ) → Route
route_of n k ts w = record { slot = n; first = k; links = []; contracts = λ p. terms_in (ts p); cells = λ p v. place_in (w p v) }

-- the laws hold, and each trail says which cell of its party is the latest: a cell leaves in its eligible slot
pub record Tracked (r : Route) (ts : ℕ → Option Trail) : Type 0 where
  pub lawful : Lawful r
  pub newest : (p : ℕ) (y : Trail) → ts p ≡ Some y → Newest r (terms_of y) p 0 y.latest
