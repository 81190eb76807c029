use Rattle.std.proofs.Common.{rules}
use borrow.Author.Tests.{tests}
use Rattle.paths.specs.Verdicts.{holds_of, holds_any}
use Rattle.paths.proofs.Parties.{any_upto}
use Rattle.hops.specs.Hops.{parts_of}
use Rattle.hops.specs.Joined.{joined}
use Rattle.hops.proofs.hop.Hop.busy.Goals as goal

pub returns : goal.returns
unfolding holds_any
returns g c =
    let k = parts_of g.S.Scheduler.meaning g.P.Path.route c.args.self.now in
    any_upto _ _ (holds_of (joined k)) c.new.result 15 c.new.ensures.start c.new.ensures.end c.new.ensures.exhausted (λ p b h k. search (rules, tests)) c.any.result c.any.ensures.runs
