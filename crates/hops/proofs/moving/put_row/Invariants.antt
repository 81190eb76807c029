use Rattle.std.proofs.Common.{◌≡◌, get_or, None}
use Rattle.hops.specs.Rows.{with_row, below}
use Rattle.hops.proofs.moving.put_row.Given as goal

abbrev pub invariant-loop-party : goal.invariant-loop-party
invariant-loop-party g l = g.S.Scheduler.meaning l.scheduler ≡ with_row (below l.party (λ p. get_or l.row.entries p None)) (g.S.Scheduler.meaning l.initial.scheduler)
