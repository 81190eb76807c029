use Rattle.std.proofs.Common.{rules}
use borrow.Author.Tests.{tests}
use Rattle.calendar.specs.Days.{now_of}
use Rattle.paths.proofs.Parties.{any_upto}
use Rattle.ends.specs.Ends.{trail_of, still_in, still_any}
use Rattle.ends.proofs.end.End.busy.Goals as goal

pub returns : goal.returns
unfolding still_any
returns c =
    let x = c.args.self.now in
    any_upto _ _ (λ p. still_in (trail_of x.trails p) (now_of x.waiting)) c.new.result 15 c.new.ensures.start c.new.ensures.end c.new.ensures.exhausted (λ p b h k. search (rules, tests)) c.any.result c.any.ensures.runs
