use Rattle.std.proofs.Common.{◌≡◌, ℕ, ◌<◌, ◌≤◌, get_or, None}
use Rattle.paths.specs.Route.{delivery_entry}
use Rattle.ends.specs.Ends.{trail_of, Noted}
use Rattle.ends.proofs.trails.Trails.deliver.Given as goal

-- the parties below have been delivered to, and the others not yet
abbrev pub invariant-loop-party : goal.invariant-loop-party
invariant-loop-party l =
    ((p : ℕ) → p < l.party → get_or l.deliveries p None ≡ delivery_entry p (get_or l.row.entries p None))
    × ((p : ℕ) → l.party ≤ p → get_or l.deliveries p None ≡ None)
    × ((p : ℕ) → p < l.party → Noted (trail_of l.initial.self p) (get_or l.row.entries p None) l.slot.0 (trail_of l.self p))
    × ((p : ℕ) → l.party ≤ p → trail_of l.self p ≡ trail_of l.initial.self p)
