use Rattle.std.proofs.Common.{◌≡◌, ℕ, ◌<◌, ◌≤◌, get_or, None}
use Rattle.hops.specs.Crossed.{crossings_of, Took}
use Rattle.hops.proofs.crossings.Crossings.take_row.Given as goal

abbrev pub invariant-loop-party : goal.invariant-loop-party
invariant-loop-party l =
    ((p : ℕ) → p < l.party → Took (get_or l.row.entries p None) l.slot.0 (crossings_of l.initial.self p) (crossings_of l.self p))
    × ((p : ℕ) → l.party ≤ p → crossings_of l.self p ≡ crossings_of l.initial.self p)
