use Rattle.std.proofs.Common.{rules}
use mathlib.Core.Path.{fun_ext}
use Rattle.hops.proofs.crossings.Crossings.new.Goals as goal

pub returns : goal.returns
returns c = fun_ext (λ p. search rules)
