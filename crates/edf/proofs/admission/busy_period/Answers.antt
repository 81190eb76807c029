use Rattle.std.proofs.Common.{nat_le, rules, tests}
use Rattle.std.proofs.iter.runs.Sources.{ranges}
use Rattle.demand.proofs.Below.{find_of}
use Rattle.edf.specs.Admission.{work_in, busy_period}
use Rattle.edf.specs.Busy.{least_is}
use Rattle.edf.proofs.admission.busy_period.Goals as goal

pub returns-clause-value : goal.returns-clause-value
unfolding busy_period
returns-clause-value c =
    let p = c.find.ensures.runs.0 in
    least_is 1024 1 (λ l. nat_le (work_in c.args.register.now.contracts l) l) c.find.result
    (find_of p 1 1025 (search (rules, ranges)) _ (λ l. nat_le (work_in c.args.register.now.contracts l) l) _ c.find.result c.find.ensures.runs.2 (λ a r f k. search (rules, tests)) (λ x r k. search (rules, tests)))
