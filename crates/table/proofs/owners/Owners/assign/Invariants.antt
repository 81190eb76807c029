use Rattle.std.proofs.Common.{◌≡◌, ◌%◌, eqb, length, Some}
use Rattle.table.specs.Kept.{owner_in}
use Rattle.table.specs.Offsets.{Done}
use Rattle.table.proofs.owners.Owners.assign.Given as goal

abbrev pub invariant-loop-turn : goal.invariant-loop-turn
invariant-loop-turn l = (length l.owner-items ≡ 128) × Done l.turn (λ k. eqb (k % l.period) l.offset) (Some l.party) (owner_in l.initial.owner-items) (owner_in l.owner-items)
