use Rattle.std.proofs.Common.{◌∙◌, None, arith, rules}
use borrow.Author.Tests.{tests}
use Rattle.std.proofs.lemmas.Iterator.{YieldsList-from_slice, YieldsList-from_map}
use Rattle.std.proofs.lemmas.Iterator.Consumers.{sum_by_from_yields_List, fits_by_from_yields_list}
use Rattle.paths.proofs.Parties.{sum_all}
use Rattle.hops.specs.Crossed.{crossing_load}
use Rattle.hops.proofs.Tables.{loads_few}
use Rattle.hops.proofs.crossings.Crossings.load.Goals as goal

pub sum-requires-clause-fits : goal.sum-requires-clause-fits
sum-requires-clause-fits c =
    let xs = c.args.self.now.parties.entries in
    fits_by_from_yields_list crossing_load xs c.map.result _ (YieldsList-from_map _ crossing_load (YieldsList-from_slice xs (cc)) c.map.ensures.closure (λ x r q k. search (rules, tests))) (omega (arith, loads_few xs c.args.self.now.parties.whole))

pub returns : goal.returns
returns c =
    let xs = c.args.self.now.parties.entries in
    let all = sum_by_from_yields_List crossing_load xs c.map.result _ c.sum.ensures.ran (YieldsList-from_map _ crossing_load (YieldsList-from_slice xs (cc)) c.map.ensures.closure (λ x r q k. search (rules, tests))) in
    record { value = all ∙ sum_all crossing_load xs None 16 c.args.self.now.parties.whole; few = omega (arith, all, loads_few xs c.args.self.now.parties.whole) }
