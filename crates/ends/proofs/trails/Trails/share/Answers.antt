use Rattle.std.proofs.Common.{◌∙◌, None, arith, rules}
use borrow.Author.Tests.{tests}
use Rattle.std.proofs.lemmas.Iterator.{YieldsList-from_slice, YieldsList-from_map}
use Rattle.std.proofs.lemmas.Iterator.Consumers.{sum_by_from_yields_List, fits_by_from_yields_list}
use Rattle.paths.specs.Verdicts.{shares}
use Rattle.paths.proofs.Parties.{sum_all}
use Rattle.ends.proofs.Steps.{share_in, shares_few}
use Rattle.ends.proofs.trails.Trails.share.Goals as goal

pub sum-requires-clause-fits : goal.sum-requires-clause-fits
sum-requires-clause-fits c =
    let ts = c.args.self.now.parties.entries in
    fits_by_from_yields_list share_in ts c.map.result _ (YieldsList-from_map _ share_in (YieldsList-from_slice ts (cc)) c.map.ensures.closure (λ x r q k. search (rules, tests))) (omega (arith, shares_few ts c.args.self.now.parties.whole))

pub returns : goal.returns
unfolding shares
returns c =
    let ts = c.args.self.now.parties.entries in
    let all = sum_by_from_yields_List share_in ts c.map.result _ c.sum.ensures.ran (YieldsList-from_map _ share_in (YieldsList-from_slice ts (cc)) c.map.ensures.closure (λ x r q k. search (rules, tests))) in
    record { value = all ∙ sum_all share_in ts None 16 c.args.self.now.parties.whole; few = omega (arith, all, shares_few ts c.args.self.now.parties.whole) }
