use Rattle.std.proofs.Common.{◌≡◌, ℕ, ◌%◌, ◌<◌}
use Rattle.table.specs.Kept.{owner_in}
use Rattle.table.specs.Turns.{Taken}
use Rattle.table.specs.Offsets.{FreeTo}
use Rattle.table.proofs.owners.Owners.least_free_offset.Given as goal

abbrev pub invariant-loop-turn : goal.invariant-loop-turn
invariant-loop-turn l = (l.turn % l.period ≡ l.offset) × FreeTo (owner_in l.self.turns) l.period l.offset l.turn

abbrev pub invariant-offsets : goal.invariant-offsets
invariant-offsets l = (o : ℕ) → o < l.offset → Taken (owner_in l.self.turns) l.period o
