use Rattle.std.proofs.Common.{◌≡◌, ◌+◌, ltb, [], is_some, Some, None, Err, sym, refl, ap, ◌∙◌}
use Rattle.std.proofs.lemmas.Result.{err_from_is_err_and}
use Rattle.cells.specs.declared.faults.Cause.TheVariants.{CalendarExceeded}
use Rattle.cells.specs.declared.times.Span.{Span}
use Rattle.paths.specs.Verdicts.{fault, refused_if, share, answered, unless, admitted, grant_rule, grant_verdict, granted}
use Rattle.paths.proofs.Kept.{terms_good}
use Rattle.ends.specs.Meant.{end_route}
use Rattle.ends.proofs.Outcomes.{answered_ok, answered_err, or_else, rule_by, verdict_by, end_granted}
use Rattle.ends.proofs.calls.EndPath.grant.Goals as goal
use Rattle.ends.proofs.calls.EndPath.grant.Goals.{After-new, After-check_room}

pub returns-in_err-check_terms : goal.returns-in_err-check_terms
returns-in_err-check_terms c =
    let x = c.args.self.now in
    let r = end_route x in
    let p = c.args.party in
    let s = c.args.spacing.0 in
    let bs = c.args.bounds.now in
    let lead = c.args.lead.0 in
    let f = c.in_err-check_terms.field-0.0 in
    let by = rule_by x p s lead bs c.is_some-known.result c.bad_hop-bad.result c.busy.result (c.is_some-known.ensures ∙ ap is_some c.get.ensures.value) (c.bad_hop-bad.ensures [] refl) c.busy.ensures in
    let rule : grant_rule r p s bs lead None ≡ Some f = sym by ∙ answered_err _ f c.in_err-check_terms.ensures in
    let all : grant_verdict r [] p s bs lead ≡ Some f = verdict_by x p s lead bs ∙ ap (λ v. or_else v (admitted x.first [] [] r.contracts p s bs lead)) rule in
    let q = err_from_is_err_and c.from_residual.result c.from_residual.ensures.1 in
    record {
      answer = q.1 ∙ ap Err q.2 ∙ ap answered (sym all);
      becomes = ap (λ v. unless v r (granted r p s bs lead)) (sym all);
    }

-- the rule refuses nothing
passed : (c : After-new) → grant_rule (end_route c.args.self.now) c.args.party c.args.spacing.0 c.args.bounds.now c.args.lead.0 None ≡ None
passed c =
    sym (rule_by c.args.self.now c.args.party c.args.spacing.0 c.args.lead.0 c.args.bounds.now c.is_some-known.result c.bad_hop-bad.result c.busy.result (c.is_some-known.ensures ∙ ap is_some c.get.ensures.value) (c.bad_hop-bad.ensures [] refl) c.busy.ensures)
    ∙ answered_ok _ c.in_ok-check_terms.ensures

pub unwrap-trail-requires : goal.unwrap-trail-requires
unwrap-trail-requires c =
    c.new.ensures.some
    ∙ terms_good (end_route c.args.self.now) c.args.party c.args.spacing.0 c.args.bounds.now c.args.lead.0 (passed ((goal.at.unwrap-trail-requires c).After-new))

-- the trail is that of the contract
made : (c : After-check_room) → (c.unwrap-trail.result.spacing ≡ c.args.spacing) × (c.unwrap-trail.result.lead ≡ c.args.lead)
made c = rw c.unwrap-trail.ensures at c.new.ensures.terms

-- with the room, that is the verdict
asked : (c : After-check_room) → grant_rule (end_route c.args.self.now) c.args.party c.args.spacing.0 c.args.bounds.now c.args.lead.0 None ≡ None → c.check_room.result ≡ answered (grant_verdict (end_route c.args.self.now) [] c.args.party c.args.spacing.0 c.args.bounds.now c.args.lead.0)
asked c rule =
    let x = c.args.self.now in
    let p = c.args.party in
    let t = made c in
    c.check_room.ensures
    ∙ (λ i. answered (refused_if (ltb 192 (c.share.ensures.value i + share (t.1 i).0 (t.0 i).0)) (fault CalendarExceeded p 8) None))
    ∙ ap answered (sym (verdict_by x p c.args.spacing.0 c.args.lead.0 c.args.bounds.now ∙ ap (λ v. or_else v (admitted x.first [] [] (end_route x).contracts p c.args.spacing.0 c.args.bounds.now c.args.lead.0)) rule))

pub returns-in_err-check_room : goal.returns-in_err-check_room
returns-in_err-check_room c =
    let at = goal.at.returns-in_err-check_room c in
    let r = end_route c.args.self.now in
    let all = sym (answered_err _ c.in_err-check_room.field-0.0 (sym c.in_err-check_room.was ∙ asked at.After-check_room (passed at.After-new))) in
    let q = err_from_is_err_and c.from_residual-in_err-check_room.result c.from_residual-in_err-check_room.ensures.1 in
    record {
      answer = q.1 ∙ ap Err q.2 ∙ ap answered all;
      becomes = ap (λ v. unless v r (granted r c.args.party c.args.spacing.0 c.args.bounds.now c.args.lead.0)) all;
    }

pub invariant_of-self : goal.invariant_of-self
invariant_of-self c =
    let at = goal.at.invariant_of-self c in
    let t = made at.After-check_room in
    let y = c.unwrap-trail.result in
    let unused : (y.latest ≡ None) × (y.last ≡ None) = rw c.unwrap-trail.ensures at c.new.ensures.unused in
    record { tracked = (end_granted c.args.self.now c.args.party c.args.spacing.0 c.args.lead.0 c.args.bounds.now y (record { parties = c.set.new.self }) c.set.ensures (ap (λ (d : Span). d.0) t.0) (ap (λ (d : Span). d.0) t.1) unused.0 unused.1 (passed at.After-new)).tracked }

pub returns : goal.returns
returns c =
    let at = goal.at.returns c in
    let x = c.args.self.now in
    let r = end_route x in
    let p = c.args.party in
    let s = c.args.spacing.0 in
    let bs = c.args.bounds.now in
    let lead = c.args.lead.0 in
    let y = c.unwrap-trail.result in
    let rule = passed at.After-new in
    let t = made at.After-check_room in
    let unused : (y.latest ≡ None) × (y.last ≡ None) = rw c.unwrap-trail.ensures at c.new.ensures.unused in
    let leads = ap (λ (d : Span). d.0) t.1 in
    let spaces = ap (λ (d : Span). d.0) t.0 in
    let all = sym (answered_ok _ (sym c.in_ok-check_room.was ∙ asked at.After-check_room rule)) in
    let route = (end_granted x p s lead bs y (record { parties = c.set.new.self }) c.set.ensures spaces leads unused.0 unused.1 rule).route in
    record {
      answer = ap answered all;
      becomes = route ∙ ap (λ v. unless v r (granted r p s bs lead)) all;
    }
