use Rattle.std.proofs.Common.{◌≡◌, ◌∷◌, is_some, None, Err, sym, ap, ◌∙◌, rules}
use Rattle.std.proofs.lemmas.Result.{err_from_is_err_and}
use Rattle.calendar.specs.Days.{now_of}
use Rattle.paths.specs.Verdicts.{answered, unless, admitted, grant_rule, granted}
use Rattle.paths.proofs.Kept.{terms_good}
use Rattle.hops.specs.Hops.{parts_of}
use Rattle.hops.specs.Joined.{joined}
use Rattle.hops.proofs.Grants.{rule_is, bad_terms, good_terms, granted-passing, answer_passed}
use Rattle.hops.proofs.Opened.{sound_opened}
use Rattle.hops.proofs.calls.HopPath.grant.Given as given
use Rattle.hops.proofs.calls.HopPath.grant.Goals as goal
use Rattle.hops.proofs.calls.HopPath.grant.Goals.{After-check_terms, After-unwrap-trail}

-- what is checked
rule : (g : given.Over) (c : After-check_terms g) → c.check_terms.result ≡ answered (grant_rule (joined (parts_of g.S.Scheduler.meaning g.P.Path.route c.args.self.now)) c.args.party c.args.spacing.0 c.args.bounds.now c.args.lead.0 None)
rule g c =
    let h = c.args.self.now in
    c.check_terms.ensures
    ∙ ap answered (rule_is (parts_of g.S.Scheduler.meaning g.P.Path.route h) c.is_some-known.result c.busy.result c.bad_hop-bad.result c.args.party c.args.spacing.0 c.args.bounds.now c.args.lead.0 None
    (c.is_some-known.ensures ∙ ap is_some c.constant.ensures) (c.bad_hop-bad.ensures (h.link.0 ∷ (g.P.Path.route h.behind).links) (sym c.hops.ensures)) c.busy.ensures)

pub returns-in_err-check_terms : goal.returns-in_err-check_terms
returns-in_err-check_terms g c =
    let h = c.args.self.now in
    let k = parts_of g.S.Scheduler.meaning g.P.Path.route h in
    let f = err_from_is_err_and c.from_residual.result c.from_residual.ensures.1 in
    let o = bad_terms (now_of h.waiting) k c.args.party c.args.spacing.0 c.args.bounds.now c.args.lead.0 (g.S.Scheduler.test h.scheduler ∷ g.P.Path.tests h.behind)
    c.from_residual.result c.in_err-check_terms.field-0.0 (sound_opened (now_of h.waiting) k h.sound) (sym (rule g ((goal.at.returns-in_err-check_terms g c).After-check_terms)) ∙ c.in_err-check_terms.was) (f.1 ∙ ap Err f.2) in
    record { answer = o.answer; becomes = o.becomes }

pub invariant_of-self-clause-sound : goal.invariant_of-self-clause-sound
invariant_of-self-clause-sound g c =
    let h = c.args.self.now in
    let k = parts_of g.S.Scheduler.meaning g.P.Path.route h in
    let snd = sound_opened (now_of h.waiting) k h.sound in
    let good = answer_passed _ c.in_ok-check_terms.field-0 (sym (rule g ((goal.at.invariant_of-self-clause-sound g c).After-check_terms)) ∙ c.in_ok-check_terms.was) in
    let o = granted-passing k snd.level c.args.party c.args.spacing.0 c.args.bounds.now c.args.lead.0 good
    (now_of h.waiting) (g.S.Scheduler.test h.scheduler) (g.P.Path.tests h.behind) (g.P.Path.route c.grant.new.self) c.grant.result snd
    (sym c.bound_at-bound.ensures ∙ c.if-bound-eq0.true) c.grant.ensures.answer c.grant.ensures.becomes in
    ∣ o.kept ∣₁

pub returns-then-bound-eq0 : goal.returns-then-bound-eq0
returns-then-bound-eq0 g c =
    let h = c.args.self.now in
    let k = parts_of g.S.Scheduler.meaning g.P.Path.route h in
    let snd = sound_opened (now_of h.waiting) k h.sound in
    let good = answer_passed _ c.in_ok-check_terms.field-0 (sym (rule g ((goal.at.returns-then-bound-eq0 g c).After-check_terms)) ∙ c.in_ok-check_terms.was) in
    let o = granted-passing k snd.level c.args.party c.args.spacing.0 c.args.bounds.now c.args.lead.0 good
    (now_of h.waiting) (g.S.Scheduler.test h.scheduler) (g.P.Path.tests h.behind) (g.P.Path.route c.grant.new.self) c.grant.result snd
    (sym c.bound_at-bound.ensures ∙ c.if-bound-eq0.true) c.grant.ensures.answer c.grant.ensures.becomes in
    record { answer = o.answer; becomes = o.becomes }

pub unwrap-trail-requires : goal.unwrap-trail-requires
unwrap-trail-requires g c =
    let good = answer_passed _ c.in_ok-check_terms.field-0 (sym (rule g ((goal.at.unwrap-trail-requires g c).After-check_terms)) ∙ c.in_ok-check_terms.was) in
    c.new.ensures.some ∙ terms_good (joined (parts_of g.S.Scheduler.meaning g.P.Path.route c.args.self.now)) c.args.party c.args.spacing.0 c.args.bounds.now c.args.lead.0 good

-- the trail is that of the contract
made : (g : given.Over) (c : After-unwrap-trail g) → (c.unwrap-trail.result.spacing ≡ c.args.spacing) × (c.unwrap-trail.result.lead ≡ c.args.lead)
made g c = rw c.unwrap-trail.ensures at c.new.ensures.terms

pub cross-requires : goal.cross-requires
cross-requires g c =
    let at = goal.at.cross-requires g c in
    let h = c.args.self.now in
    let good = answer_passed _ c.in_ok-check_terms.field-0 (sym (rule g at.After-check_terms) ∙ c.in_ok-check_terms.was) in
    let t = made g at.After-unwrap-trail in
    let unused : (c.unwrap-trail.result.latest ≡ None) × (c.unwrap-trail.result.last ≡ None) = rw c.unwrap-trail.ensures at c.new.ensures.unused in
    record {
      checked = (λ i. grant_rule (joined (parts_of g.S.Scheduler.meaning g.P.Path.route h)) c.args.party (t.0 i).0 c.args.bounds.now (t.1 i).0 None) ∙ good;
      bound = c.bound_at-bound.ensures;
      crossed = search rules;
      latest = unused.0;
      last = unused.1;
    }

pub returns : goal.returns
returns g c =
    let at = goal.at.returns g c in
    let h = c.args.self.now in
    let s = c.args.spacing.0 in
    let k = parts_of g.S.Scheduler.meaning g.P.Path.route h in
    let good = answer_passed _ c.in_ok-check_terms.field-0 (sym (rule g at.After-check_terms) ∙ c.in_ok-check_terms.was) in
    let w = good_terms k (sound_opened (now_of h.waiting) k h.sound).level c.args.party s c.args.bounds.now c.args.lead.0 good (g.S.Scheduler.test h.scheduler ∷ g.P.Path.tests h.behind) in
    let t = made g at.After-unwrap-trail in
    let room = admitted h.number (h.link.0 ∷ (g.P.Path.route h.behind).links) (g.S.Scheduler.test h.scheduler ∷ g.P.Path.tests h.behind) (joined k).contracts c.args.party s c.args.bounds.now c.args.lead.0 in
    let same : admitted h.number (h.link.0 ∷ (g.P.Path.route h.behind).links) (g.S.Scheduler.test h.scheduler ∷ g.P.Path.tests h.behind) (joined k).contracts c.args.party c.unwrap-trail.result.spacing.0 c.args.bounds.now c.unwrap-trail.result.lead.0 ≡ room =
    (λ i. admitted h.number (h.link.0 ∷ (g.P.Path.route h.behind).links) (g.S.Scheduler.test h.scheduler ∷ g.P.Path.tests h.behind) (joined k).contracts c.args.party (t.0 i).0 c.args.bounds.now (t.1 i).0) in
    record {
      answer = c.cross.ensures.answer ∙ ap answered (same ∙ sym w);
      becomes = c.cross.ensures.becomes ∙ (λ i. unless ((same ∙ sym w) i) (joined k) (granted (joined k) c.args.party (t.0 i).0 c.args.bounds.now (t.1 i).0));
    }
