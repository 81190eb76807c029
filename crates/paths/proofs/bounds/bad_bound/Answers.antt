use Rattle.std.proofs.Common.{◌≤◌, ◌<◌, rules}
use Rattle.std.proofs.lemmas.Iterator.{first_from_Range}
use borrow.Author.Tests.{tests}
use Rattle.paths.specs.Verdicts.{bound}
use Rattle.paths.proofs.BadBounds.{most_at, first_bad}
use Rattle.paths.proofs.bounds.bad_bound.Goals as goal

pub returns : goal.returns
returns c gs e =
    let f = c.args.first in
    let h = c.args.hops in
    let bs = c.args.bounds.now in
    first_bad gs bs f h e (search rules) c.find.result
    (first_from_Range _ _ _ c.find.result (λ k. most_at f h k < bound bs k) (λ k. bound bs k ≤ most_at f h k) c.find.ensures.ran (λ x q k. search (rules, tests)) (λ x q k. search (rules, tests)))
