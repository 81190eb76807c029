use Rattle.std.proofs.Common.{◌≡◌, length, None}
use Rattle.table.specs.Kept.{owner_in}
use Rattle.table.specs.Turns.{is_party}
use Rattle.table.specs.Offsets.{Done}
use Rattle.table.proofs.owners.Owners.release.Given as goal

abbrev pub invariant-loop-owner : goal.invariant-loop-owner
invariant-loop-owner l = (length l.owner-items ≡ 128) × Done l.owner-index (λ k. is_party l.party (owner_in l.initial.owner-items k)) None (owner_in l.initial.owner-items) (owner_in l.owner-items)
