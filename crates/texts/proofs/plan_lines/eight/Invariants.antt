use Rattle.std.proofs.Common.{◌≡◌}
use Rattle.texts.proofs.Terms.{filled}
use Rattle.texts.proofs.plan_lines.eight.Given as goal

abbrev pub invariant-loop-i : goal.invariant-loop-i
invariant-loop-i l = l.all ≡ filled l.bounds l.i
