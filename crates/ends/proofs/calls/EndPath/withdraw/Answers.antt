use Rattle.std.proofs.Common.{◌≡◌, Some, None, Err, sym, ap, ◌∙◌, rules}
use Rattle.std.proofs.lemmas.Result.{err_from_is_err_and}
use Rattle.calendar.specs.Days.{now_of, waiting_of}
use Rattle.paths.specs.Verdicts.{answered, unless, holds_of, withdraw_rule, withdraw_verdict, withdrawn}
use Rattle.ends.specs.Ends.{trail_of}
use Rattle.ends.specs.Meant.{end_route}
use Rattle.ends.proofs.Outcomes.{answered_ok, answered_err, withdrawal, tracked_of, end_withdrawn}
use Rattle.ends.proofs.Steps.{holds_is}
use Rattle.ends.proofs.calls.EndPath.withdraw.Goals as goal

pub returns-in_err-check_withdrawal : goal.returns-in_err-check_withdrawal
returns-in_err-check_withdrawal c =
    let x = c.args.self.now in
    let r = end_route x in
    let p = c.args.party in
    let f = c.in_err-check_withdrawal.field-0.0 in
    let held = holds_is (now_of x.waiting) x.first (trail_of x.trails) (waiting_of x.waiting) (tracked_of x) p in
    let all : withdraw_verdict r p ≡ Some f = ap (λ b. withdraw_rule (r.contracts p) b p) held ∙ answered_err _ f c.in_err-check_withdrawal.ensures.answer in
    let q = err_from_is_err_and c.from_residual.result c.from_residual.ensures.1 in
    record {
      answer = q.1 ∙ ap Err q.2 ∙ ap answered (sym all);
      becomes = ap (λ v. unless v r (withdrawn r p)) (sym all);
    }

pub invariant_of-self : goal.invariant_of-self
invariant_of-self c =
    let x = c.args.self.now in
    let p = c.args.party in
    let held = holds_is (now_of x.waiting) x.first (trail_of x.trails) (waiting_of x.waiting) (tracked_of x) p in
    let ok : withdraw_verdict (end_route x) p ≡ None = ap (λ b. withdraw_rule ((end_route x).contracts p) b p) held ∙ answered_ok _ c.in_ok-check_withdrawal.ensures.answer in
    record { tracked = (end_withdrawn x p c.forget.new.self (search rules) c.forget.ensures (withdrawal ((end_route x).contracts p) (holds_of (end_route x) p) p ok)).tracked }

pub returns : goal.returns
returns c =
    let x = c.args.self.now in
    let r = end_route x in
    let p = c.args.party in
    let held = holds_is (now_of x.waiting) x.first (trail_of x.trails) (waiting_of x.waiting) (tracked_of x) p in
    let ok : withdraw_verdict r p ≡ None = ap (λ b. withdraw_rule (r.contracts p) b p) held ∙ answered_ok _ c.in_ok-check_withdrawal.ensures.answer in
    let route = (end_withdrawn x p c.forget.new.self (search rules) c.forget.ensures (withdrawal (r.contracts p) (holds_of r p) p ok)).route in
    record {
      answer = ap answered (sym ok);
      becomes = route ∙ ap (λ v. unless v r (withdrawn r p)) (sym ok);
    }
