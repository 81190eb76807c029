use Rattle.std.proofs.Common.{◌≡◌, ltb, length, None, Err, sym, refl, ap, ◌∙◌, subst, rules}
use Rattle.std.proofs.lemmas.Result.{err_from_is_err_and}
use Rattle.scheduler.specs.Meaning.{holds_any, common_verdict, grant_verdict}
use Rattle.scheduler.specs.Tables.{Refuses, contracts_of}
use Rattle.scheduler.proofs.Verdicts.{told_ok, told_err, after_ok, after_err, after_same, after_parts, or_else_err, or_else_ok}
use Rattle.backlog.specs.Backlogs.{cells_of}
use Rattle.demand.proofs.Keeps.{busy_of}
use Rattle.demand.proofs.Consent.{consent_idle, none_held}
use Rattle.ordered.specs.States.{means, test_by}
use Rattle.ordered.specs.Keeps.{sound_idle, judged}
use Rattle.ordered.proofs.calls.OrderedScheduler.grant.Goals as goal

pub returns-in_err-trial : goal.returns-in_err-trial
returns-in_err-trial g c =
    let s = c.args.self.now in
    let verdict = g.D.Discipline.verdict in
    let m = means s.register s.backlog in
    let p = c.args.party in
    let n = c.args.spacing.0 in
    let d = c.args.bound.0 in
    let own = test_by verdict s.register.contracts p n d in
    let held = busy_of s.register (cells_of s.backlog) s.sound.orderly in
    let f = c.in_err-trial.field-0.0 in
    let q = err_from_is_err_and c.from_residual.result c.from_residual.ensures.1 in
    let refuses : Refuses (common_verdict (m.contracts p) (holds_any m) p n d) p f = subst (λ b. Refuses (common_verdict (m.contracts p) b p n d) p f) held c.in_err-trial.ensures in
    let all = or_else_err (common_verdict (m.contracts p) (holds_any m) p n d) own p f refuses in
    record {
      answer = q.1 ∙ ap Err q.2 ∙ told_err (grant_verdict m p n d own) p tt f all;
      becomes = after_err (grant_verdict m p n d own) p f m m _ all refl;
      table = after_err (grant_verdict m p n d own) p f s.register.contracts s.register.contracts _ all refl;
      judged = judged verdict s.register s.backlog p n d;
    }

pub returns-in_err-admit : goal.returns-in_err-admit
returns-in_err-admit g c =
    let s = c.args.self.now in
    let verdict = g.D.Discipline.verdict in
    let m = means s.register s.backlog in
    let p = c.args.party in
    let n = c.args.spacing.0 in
    let d = c.args.bound.0 in
    let own = test_by verdict s.register.contracts p n d in
    let held = busy_of s.register (cells_of s.backlog) s.sound.orderly in
    let f = c.in_err-admit.field-0.0 in
    let q = err_from_is_err_and c.from_residual-in_err-admit.result c.from_residual-in_err-admit.ensures.1 in
    let new = c.in_ok-trial.ensures.0 in
    let ok : common_verdict (m.contracts p) (holds_any m) p n d ≡ None = subst (λ b. common_verdict (m.contracts p) b p n d ≡ None) held new.consent in
    let same : grant_verdict m p n d own ≡ own = or_else_ok _ _ ok in
    let refuses : Refuses own p f = subst (λ cs. Refuses (verdict cs) p f) new.table (sym c.in_err-admit.ensures) in
    let all : Refuses (grant_verdict m p n d own) p f = subst (λ v. Refuses v p f) (sym same) refuses in
    record {
      answer = q.1 ∙ ap Err q.2 ∙ told_err (grant_verdict m p n d own) p tt f all;
      becomes = after_err (grant_verdict m p n d own) p f m m _ all refl;
      table = after_err (grant_verdict m p n d own) p f s.register.contracts s.register.contracts _ all refl;
      judged = judged verdict s.register s.backlog p n d;
    }

pub returns : goal.returns
returns g c =
    let s = c.args.self.now in
    let verdict = g.D.Discipline.verdict in
    let m = means s.register s.backlog in
    let p = c.args.party in
    let n = c.args.spacing.0 in
    let d = c.args.bound.0 in
    let own = test_by verdict s.register.contracts p n d in
    let held = busy_of s.register (cells_of s.backlog) s.sound.orderly in
    let new = c.in_ok-trial.ensures.0 in
    let v = grant_verdict m p n d own in
    let ok : common_verdict (m.contracts p) (holds_any m) p n d ≡ None = subst (λ b. common_verdict (m.contracts p) b p n d ≡ None) held new.consent in
    let passed : verdict c.in_ok-trial.trial.contracts ≡ None = search rules in
    let all : v ≡ None = or_else_ok _ _ ok ∙ ap verdict (sym new.table) ∙ passed in
    record {
      answer = told_ok v p tt all;
      becomes = after_parts v m _ _ _ _ _ _ (ap (λ t. t.0) c.in_ok-trial.ensures.1 ∙ after_same v m.slot) (after_ok v _ _ _ all new.contracts) (after_same v m.held);
      table = after_ok v _ _ _ all new.table;
      judged = judged verdict s.register s.backlog p n d;
    }

pub invariant_of-self : goal.invariant_of-self
invariant_of-self g c =
    let x = c.args.self.now in
    let r = c.in_ok-trial.trial in
    let free = consent_idle (contracts_of x.register.contracts c.args.party) (ltb 0 (length (cells_of x.backlog))) c.args.party c.args.spacing.0 c.args.bound.0 c.in_ok-trial.ensures.0.consent in
    let none = none_held (cells_of x.backlog) free in
    let passed : g.D.Discipline.verdict r.contracts ≡ None = search rules in
    let test = g.met.D.Discipline.tests r.contracts r.spaced r.bounded passed in
    record { sound = sound_idle g.D.Discipline.asks g.D.Discipline.limit g.D.Discipline.keeps g.met.D.Discipline.idle r.slot.0 r.contracts (cells_of x.backlog) none r.spaced test.0 test.1 }
