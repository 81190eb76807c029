use Rattle.std.proofs.Common.{◌≡◌, ℕ, ◌<◌, ◌≤◌, None}
use Rattle.calendar.specs.Days.{waiting_of}
use Rattle.calendar.proofs.grid.Calendar.any_within.Given as goal

abbrev pub invariant-loop-slot : goal.invariant-loop-slot
invariant-loop-slot l = (e : ℕ) → l.first ≤ e → e < l.slot → waiting_of l.self l.party e ≡ None
