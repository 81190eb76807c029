use Rattle.std.proofs.Common.{◌+◌, nat_lt, rules, tests}
use Rattle.std.proofs.iter.runs.Sources.{ranges}
use Rattle.demand.proofs.Below.{to_is, any_of}
use Rattle.edf.specs.Admission.{demand_in}
use Rattle.edf.proofs.admission.exceeds_demand.Goals as goal

pub returns : goal.returns
returns c =
    let p = c.any.ensures.runs.0 in
    to_is c.args.period (λ k. nat_lt k (demand_in c.args.register.now.contracts k)) c.any.result
    (any_of p 1 (c.args.period + 1) (search (rules, ranges)) _ (λ k. nat_lt k (demand_in c.args.register.now.contracts k)) _ c.any.result c.any.ensures.runs.2 (λ a r f k. search (rules, tests)) (λ x r k. search (rules, tests)))
