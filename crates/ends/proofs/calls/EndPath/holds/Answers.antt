use Rattle.std.proofs.Common.{sym, ◌∙◌}
use Rattle.calendar.specs.Days.{now_of, waiting_of}
use Rattle.ends.specs.Ends.{trail_of}
use Rattle.ends.proofs.Outcomes.{tracked_of}
use Rattle.ends.proofs.Steps.{holds_is}
use Rattle.ends.proofs.calls.EndPath.holds.Goals as goal

pub returns : goal.returns
returns c =
    let x = c.args.self.now in
    c.keeps.ensures ∙ sym (holds_is (now_of x.waiting) x.first (trail_of x.trails) (waiting_of x.waiting) (tracked_of x) c.args.party)
