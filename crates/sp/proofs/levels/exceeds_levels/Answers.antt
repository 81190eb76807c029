use Rattle.std.proofs.Common.{rules, tests}
use Rattle.std.proofs.iter.runs.Sources.{ranges}
use Rattle.demand.proofs.Below.{below_is, any_of}
use Rattle.sp.specs.Levels.{overfull, levels_exceeded}
use Rattle.sp.proofs.levels.exceeds_levels.Goals as goal

pub returns : goal.returns
unfolding levels_exceeded
returns c =
    let test = overfull c.args.register.now.contracts in
    below_is 8 test c.any.result (any_of c.any.ensures.runs.0 0 8 (search (rules, ranges)) _ test _ c.any.result c.any.ensures.runs.2 (λ a r f k. search (rules, tests)) (λ x r k. search (rules, tests)))
