use Rattle.std.proofs.Common.{◌≡◌, ℕ, ◌≤◌, Some, None, Err, sym, refl, ap, ◌∙◌, subst, rules}
use Rattle.std.proofs.lemmas.Result.{err_from_is_err_and}
use Rattle.cells.specs.declared.faults.Cause.TheVariants.{NoFreeOffset}
use Rattle.scheduler.specs.Meaning.{holds_any, common_verdict, grant_verdict, granted, told, after, updated, agreed}
use Rattle.scheduler.specs.Tables.{Refuses}
use Rattle.scheduler.proofs.Updates.{same_meaning}
use Rattle.scheduler.proofs.Verdicts.{told_ok, told_err, after_ok, after_err, or_else_err, or_else_ok}
use Rattle.table.specs.Kept.{last_of, held_of}
use Rattle.table.specs.Tables.{table_meaning, table_test, owner_of}
use Rattle.table.specs.Turns.{period, Found, least_free, offset_verdict, assigned, assigned_at}
use Rattle.table.specs.Helds.{held_by, held_kept}
use Rattle.table.specs.Keeps.{kept_along, kept_granted}
use Rattle.table.specs.Laws.{kept, label_of, contract_of}
use Rattle.table.specs.Offsets.{found_least, free_none}
use Rattle.table.specs.Periods.{period_fits}
use Rattle.table.proofs.calls.TableScheduler.grant.Goals as goal

pub returns-in_err-register : goal.returns-in_err-register
returns-in_err-register c =
    let x = c.args.self.now in
    let m = table_meaning x in
    let p = c.args.party in
    let s = c.args.spacing.0 in
    let d = c.args.bound.0 in
    let e = c.in_err-register.field-0.0 in
    let v = grant_verdict m p s d (table_test x p s d) in
    let q = err_from_is_err_and c.from_residual.result c.from_residual.ensures.1 in
    let refuses : Refuses (common_verdict (m.contracts p) (holds_any m) p s d) p e = subst (λ b. Refuses (common_verdict (m.contracts p) b p s d) p e) c.busy-busy.ensures c.in_err-register.ensures in
    let all : Refuses v p e = or_else_err (common_verdict (m.contracts p) (holds_any m) p s d) (table_test x p s d) p e refuses in
    record {
      answer = q.1 ∙ ap Err q.2 ∙ told_err v p tt e all;
      becomes = after_err v p e m m _ all refl;
      owners = after_err v p e (owner_of x) (owner_of x) _ all refl;
    }

pub returns-in_default : goal.returns-in_default
returns-in_default c =
    let x = c.args.self.now in
    let m = table_meaning x in
    let p = c.args.party in
    let s = c.args.spacing.0 in
    let d = c.args.bound.0 in
    let v = grant_verdict m p s d (table_test x p s d) in
    let new = c.in_ok-register.ensures.0 in
    let ok : common_verdict (m.contracts p) (holds_any m) p s d ≡ None = subst (λ b. common_verdict (m.contracts p) b p s d ≡ None) c.busy-busy.ensures new.consent in
    let found : Found (owner_of x) (period s d) None = subst (λ (n : ℕ). Found (owner_of x) n None) c.period-period.ensures.value c.in_default.ensures in
    let all : v ≡ Some NoFreeOffset = or_else_ok _ _ ok ∙ ap offset_verdict (found_least (owner_of x) (period s d) None found) in
    record {
      answer = ap Err c.refused.ensures ∙ ap (λ w. told w p tt) (sym all);
      becomes = ap (λ w. after w m (granted m p s d)) (sym all);
      owners = ap (λ w. after w (owner_of x) (assigned_at (owner_of x) (period s d) (least_free (owner_of x) (period s d)) p)) (sym all);
    }

pub invariant_of-self : goal.invariant_of-self
invariant_of-self c =
    let x = c.args.self.now in
    let m = table_meaning x in
    let p = c.args.party in
    let s = c.args.spacing.0 in
    let d = c.args.bound.0 in
    let o = c.in-Some.offset in
    let n = x.register.slot.0 in
    let f = contract_of x in
    let new = c.in_ok-register.ensures.0 in
    let consent = new.consent in
    let a : 1 ≤ s = search rules in
    let b : 1 ≤ d = search rules in
    let e : d ≤ 128 = search rules in
    let none : f p ≡ None = search rules in
    let found : Found (owner_of x) (period s d) (Some o) = subst (λ (k : ℕ). Found (owner_of x) k (Some o)) c.period-period.ensures.value c.in-Some.ensures in
    let owners = c.assign.ensures ∙ ap (λ (k : ℕ). assigned (owner_of x) k o p) c.period-period.ensures.value in
    kept_along _ n _ (updated f p (Some (agreed s d))) _ (assigned (owner_of x) (period s d) o p) _ (label_of x) (ap (λ t. t.0) c.in_ok-register.ensures.1) new.contracts owners refl
    (kept_granted n f (owner_of x) (label_of x) p s d o (period_fits s d a b e) found.0 (free_none (owner_of x) (period s d) o found.1) none (kept x))

pub returns : goal.returns
returns c =
    let x = c.args.self.now in
    let m = table_meaning x in
    let p = c.args.party in
    let s = c.args.spacing.0 in
    let d = c.args.bound.0 in
    let o = c.in-Some.offset in
    let f = contract_of x in
    let g = label_of x in
    let v = grant_verdict m p s d (table_test x p s d) in
    let new = c.in_ok-register.ensures.0 in
    let consent = new.consent in
    let none : f p ≡ None = search rules in
    let ok : common_verdict (m.contracts p) (holds_any m) p s d ≡ None = subst (λ b. common_verdict (m.contracts p) b p s d ≡ None) c.busy-busy.ensures consent in
    let found : Found (owner_of x) (period s d) (Some o) = subst (λ (k : ℕ). Found (owner_of x) k (Some o)) c.period-period.ensures.value c.in-Some.ensures in
    let least = found_least (owner_of x) (period s d) (Some o) found in
    let all : v ≡ None = or_else_ok _ _ ok ∙ ap offset_verdict least in
    let owners = c.assign.ensures ∙ ap (λ (k : ℕ). assigned (owner_of x) k o p) c.period-period.ensures.value ∙ ap (λ r. assigned_at (owner_of x) (period s d) r p) (sym least) in
    let held = ap (λ k. held_by k g) new.contracts ∙ held_kept f g p (Some (agreed s d)) (λ e. sym (ap (λ w. held_of (last_of w) (g p) e) none)) in
    record {
      answer = told_ok v p tt all;
      becomes = after_ok v _ _ _ all (same_meaning _ _ _ _ _ _ (ap (λ t. t.0) c.in_ok-register.ensures.1) new.contracts held);
      owners = after_ok v _ _ _ all owners;
    }
