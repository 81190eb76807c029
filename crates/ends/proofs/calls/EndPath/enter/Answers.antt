use Rattle.std.proofs.Common.{◌≡◌, ℕ, ◌+◌, Some, None, Ok, Err, sym, ap, ◌∙◌, rules}
use Rattle.std.proofs.lemmas.Result.{err_from_is_err_and}
use Rattle.std.specs.Result.{result_err}
use Rattle.calendar.specs.Days.{now_of, waiting_of}
use Rattle.header.specs.Headers.{header_of}
use Rattle.paths.specs.Route.{entered}
use Rattle.paths.specs.Trails.{arrival_by}
use Rattle.paths.specs.Verdicts.{answered, unless, arrival_rule, header_rule, enter_verdict, entered_by}
use Rattle.ends.specs.Ends.{trail_of, terms_in}
use Rattle.ends.specs.Meant.{end_route}
use Rattle.ends.proofs.Outcomes.{trail_ok, trail_err, tracked_of, end_arrived}
use Rattle.ends.proofs.Steps.{arrival_at, arrival_is}
use Rattle.ends.proofs.calls.EndPath.enter.Goals as goal
use Rattle.ends.proofs.calls.EndPath.enter.Goals.{After-contract, After-check_arrival}

-- the verdict, once the header is read
read : (c : After-contract) → enter_verdict (end_route c.args.self.now) c.args.header.now c.args.arrival.0 ≡ header_rule (end_route c.args.self.now) (Ok c.in_ok-arrived.arrived) c.args.arrival.0
read c = ap (λ o. header_rule (end_route c.args.self.now) o c.args.arrival.0) (sym c.in_ok-arrived.ensures.value)

-- and by the trail of the party
by_trail : (c : After-check_arrival) → header_rule (end_route c.args.self.now) (Ok c.in_ok-arrived.arrived) c.args.arrival.0 ≡ result_err c.check_arrival.result
by_trail c =
    let x = c.args.self.now in
    let p = c.in_ok-arrived.arrived.party in
    let e = c.args.arrival.0 + c.in_ok-arrived.arrived.ahead.0 in
    let w = waiting_of x.waiting in
    sym (arrival_is (now_of x.waiting) x.first (trail_of x.trails) w (tracked_of x) p e)
    ∙ ap (λ o. arrival_at o (w p) (now_of x.waiting) p e) (trail_ok _ _ c.in_ok-trail.trail c.in_ok-trail.ensures.value)
    ∙ sym c.check_arrival.ensures.verdict

pub returns-in_err-trail : goal.returns-in_err-trail
returns-in_err-trail c =
    let r = end_route c.args.self.now in
    let p = c.in_ok-arrived.arrived.party in
    let a = c.args.arrival.0 in
    let none = trail_err _ _ c.in_err-trail.field-0.0 c.in_err-trail.ensures.value in
    let all : enter_verdict r c.args.header.now a ≡ Some c.in_err-trail.field-0.0 = read ((goal.at.returns-in_err-trail c).After-contract) ∙ ap (λ o. arrival_rule r (terms_in o) p (a + c.in_ok-arrived.arrived.ahead.0)) none.0 ∙ ap Some (sym none.1) in
    let q = err_from_is_err_and c.from_residual-in_err-trail.result c.from_residual-in_err-trail.ensures.1 in
    record {
      answer = q.1 ∙ ap Err q.2 ∙ ap answered (sym all);
      becomes = ap (λ v. unless v r (entered_by r (header_of c.args.header.now) a)) (sym all);
    }

pub returns-in_err-cell : goal.returns-in_err-cell
returns-in_err-cell c =
    let at = goal.at.returns-in_err-cell c in
    let r = end_route c.args.self.now in
    let a = c.args.arrival.0 in
    let all : enter_verdict r c.args.header.now a ≡ Some c.in_err-cell.field-0.0 = read at.After-contract ∙ by_trail at.After-check_arrival ∙ ap result_err c.in_err-cell.was in
    let q = err_from_is_err_and c.from_residual-in_err-cell.result c.from_residual-in_err-cell.ensures.1 in
    record {
      answer = q.1 ∙ ap Err q.2 ∙ ap answered (sym all);
      becomes = ap (λ v. unless v r (entered_by r (header_of c.args.header.now) a)) (sym all);
    }

pub invariant_of-self : goal.invariant_of-self
invariant_of-self c =
    let x = c.args.self.now in
    let k = c.in_ok-cell.cell in
    let is = c.in_ok-cell.ensures.cell in
    let y = c.in_ok-trail.trail in
    let z = c.entering-entered.ensures in
    let e = c.args.arrival.0 + c.in_ok-arrived.arrived.ahead.0 in
    let has = trail_ok _ _ y c.in_ok-trail.ensures.value in
    let v = end_arrived x k.party e k.label y c.entering-entered.result k.eligible c.put.new.self (record { parties = c.set.new.self }) (search rules) is.1 (ap (trail_of x.trails) is.0 ∙ has) (ap (λ (p : ℕ). arrival_by y (waiting_of x.waiting p) (now_of x.waiting) p e) is.0 ∙ sym c.in_ok-cell.ensures.verdict)
    z.spacing z.lead z.last z.latest c.put.ensures.slot c.put.ensures.cells c.set.ensures in
    record { tracked = v.after.tracked }

pub returns : goal.returns
returns c =
    let at = goal.at.returns c in
    let x = c.args.self.now in
    let r = end_route x in
    let a = c.args.arrival.0 in
    let k = c.in_ok-cell.cell in
    let is = c.in_ok-cell.ensures.cell in
    let y = c.in_ok-trail.trail in
    let z = c.entering-entered.ensures in
    let e = a + c.in_ok-arrived.arrived.ahead.0 in
    let has = trail_ok _ _ y c.in_ok-trail.ensures.value in
    let v = end_arrived x k.party e k.label y c.entering-entered.result k.eligible c.put.new.self (record { parties = c.set.new.self }) (search rules) is.1 (ap (trail_of x.trails) is.0 ∙ has) (ap (λ (p : ℕ). arrival_by y (waiting_of x.waiting p) (now_of x.waiting) p e) is.0 ∙ sym c.in_ok-cell.ensures.verdict)
    z.spacing z.lead z.last z.latest c.put.ensures.slot c.put.ensures.cells c.set.ensures in
    let all : enter_verdict r c.args.header.now a ≡ None = read at.After-contract ∙ by_trail at.After-check_arrival ∙ ap result_err c.in_ok-cell.was in
    record {
      answer = ap answered (sym all);
      becomes = v.after.route ∙ (λ i. entered r (is.0 i) e (is.2 i)) ∙ ap (λ o. entered_by r o a) c.in_ok-arrived.ensures.value ∙ ap (λ u. unless u r (entered_by r (header_of c.args.header.now) a)) (sym all);
    }
