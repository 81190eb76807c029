use Rattle.std.proofs.Common.{◌≡◌, MatchOption}
use Rattle.order.specs.First.{First}
use Rattle.order.proofs.first.Given as goal

abbrev pub invariant-loop-i : goal.invariant-loop-i
invariant-loop-i g l = MatchOption l.best (l.i ≡ 0) (First (g.O.Order.ahead l.order) l.items l.i)
