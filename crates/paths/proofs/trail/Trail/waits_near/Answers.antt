use Rattle.std.proofs.Common.{◌≤◌, arith}
use Rattle.calendar.specs.Days.{waiting_of}
use Rattle.calendar.proofs.Waits.{waiting_range, slots_range}
use Rattle.paths.proofs.Trails.{near_by}
use Rattle.paths.proofs.trail.Trail.waits_near.Goals as goal

-- `to` falls short of the last slot near `eligible` only where no cell waits so late
pub returns : goal.returns
returns c =
    let s = c.args.self.now.spacing.0 in
    let e = c.args.eligible.0 in
    let least : 1 ≤ s = c.args.self.now.spaced in
    let from = c.saturating_sub-from.ensures in
    let to = c.saturating_add-to.ensures in
    near_by (waiting_of c.args.waiting.now c.args.party) s e c.saturating_sub-from.result c.saturating_add-to.result c.any_between.result
    (λ a f g. (omega arith, omega arith))
    (λ a l i f g. (
    let k = waiting_range c.args.waiting.now c.args.party a l i in
    let n = slots_range c.args.waiting.now in
    (omega arith, omega arith)))
    c.any_between.ensures.found
    c.any_between.ensures.none
