use Rattle.std.proofs.Common.{◌≡◌, ℕ, ◌+◌, ◌<◌, ◌≤◌, Bool, true, false, cond, ltb, length, get_or, Some, None, sym, refl, ap, ◌∙◌, subst, arith}
use Rattle.std.proofs.lemmas.Bool.{ltb-false}
use Rattle.cells.specs.declared.faults.Cause.TheVariants.{TooSoon}
use Rattle.cells.specs.declared.times.Slot.{Slot}
use Rattle.scheduler.specs.declared.terms.Contract.{Contract}
use Rattle.scheduler.specs.Meaning.{put_rule, put_verdict, after, updated, used, stamped}
use Rattle.scheduler.proofs.Registers.{party, terms}
use Rattle.scheduler.proofs.Updates.{table-set, same_meaning}
use Rattle.scheduler.proofs.Verdicts.{told_ok, after_ok, after_err}
use Rattle.table.specs.declared.state.Table.{Table}
use Rattle.table.specs.Kept.{wait, last_of, period_or}
use Rattle.table.specs.Tables.{table_meaning, owner_of}
use Rattle.table.specs.Turns.{period}
use Rattle.table.specs.Helds.{held_by, held_put}
use Rattle.table.specs.Keeps.{kept_along, kept_put, idle}
use Rattle.table.specs.Laws.{kept, label_of, contract_of}
use Rattle.table.specs.Periods.{period_fits}
use Rattle.table.proofs.calls.TableScheduler.put.Goals as goal

-- a put that is not too soon comes a spacing after the last
spaced : (c : Contract) (n : ℕ) (t : Slot) → put_rule (Some c) n ≡ None → c.last ≡ Some t → t.0 + c.spacing.0 ≤ n
spaced c n t ok e = way (ltb n (t.0 + c.spacing.0)) refl (subst (λ o. cond (elim o [ None ↦ false | Some t ↦ ltb n (t.0 + c.spacing.0) ]) (Some TooSoon) None ≡ None) e ok)
  where
    way : (b : Bool) → ltb n (t.0 + c.spacing.0) ≡ b → cond b (Some TooSoon) None ≡ None → t.0 + c.spacing.0 ≤ n
    way true h k = absurd (let z : ◌≡◌ {A = ℕ} 0 1 = cc in omega arith)
    way false h k = ltb-false n (t.0 + c.spacing.0) h

-- so nothing of the party is held then
free_to_put : (x : Table) (p : ℕ) (c : Contract) → contract_of x p ≡ Some c → put_rule (contract_of x p) x.register.slot.0 ≡ None → label_of x p ≡ None
free_to_put x p c is ok =
    let n = x.register.slot.0 in
    let r = terms x.register p c is in
    let f = period_fits c.spacing.0 c.bound.0 r.spacing_least r.bound_least r.bound_most in
    idle n (wait (owner_of x) p) (last_of (contract_of x p)) (label_of x p) (period c.spacing.0 c.bound.0) c.spacing.0 f.spacing
    (λ j. subst (λ o. wait (owner_of x) p j + 1 ≤ period_or o) is (x.recurring p j))
    (x.prompt p)
    (x.dated p)
    (λ t e. spaced c n t (subst (λ o. put_rule o n ≡ None) is ok) (sym (ap last_of is) ∙ e))

pub invariant_of-self : goal.invariant_of-self
invariant_of-self c =
    let x = c.args.self.now in
    let p = c.args.party in
    let n = x.register.slot.0 in
    let f = contract_of x in
    let same = c.put.ensures.contracts ∙ sym (after_err (put_rule (f p) n) p _ f f (updated f p (used (f p) n)) c.in_err-put.ensures.answer refl) in
    kept_along _ n _ f _ (owner_of x) _ (label_of x) (ap (λ t. t.0) c.put.ensures.slot) same refl refl (kept x)

pub invariant_of-self-2 : goal.invariant_of-self-2
invariant_of-self-2 c =
    let x = c.args.self.now in
    let p = c.args.party in
    let l = c.args.label in
    let n = x.register.slot.0 in
    let f = contract_of x in
    let t = c.in_ok-put.field-0 in
    let is = c.in_ok-put.ensures.answer.0 in
    let ok = c.in_ok-put.ensures.answer.1 in
    let whole = x.labels.whole in
    let low = party x.register p t is in
    let within : p < length x.labels.entries = omega arith in
    let cs = c.put.ensures.contracts ∙ ap (λ v. after v f (updated f p (used (f p) n))) ok ∙ ap (λ o. updated f p (used o n)) is in
    let gs = ap (λ ls q. get_or ls q None) c.keep.ensures ∙ table-set (λ o. o) x.labels.entries p (Some l) None within in
    kept_along _ n _ (updated f p (Some (stamped t n))) _ (owner_of x) _ (updated (label_of x) p (Some l)) (ap (λ t. t.0) c.put.ensures.slot) cs refl gs (kept_put n f (owner_of x) (label_of x) p l t is (kept x))

pub returns : goal.returns
returns c =
    let x = c.args.self.now in
    let p = c.args.party in
    let l = c.args.label in
    let n = x.register.slot.0 in
    let f = contract_of x in
    let g = label_of x in
    let t = c.in_ok-put.field-0 in
    let is = c.in_ok-put.ensures.answer.0 in
    let ok : put_verdict (table_meaning x) p ≡ None = c.in_ok-put.ensures.answer.1 in
    let whole = x.labels.whole in
    let low = party x.register p t is in
    let within : p < length x.labels.entries = omega arith in
    let cs = c.put.ensures.contracts ∙ ap (λ v. after v f (updated f p (used (f p) n))) ok in
    let gs = ap (λ ls q. get_or ls q None) c.keep.ensures ∙ table-set (λ o. o) x.labels.entries p (Some l) None within in
    let held =
    ap (λ h. held_by h (λ q. get_or c.keep.new.labels.entries q None)) (cs ∙ ap (λ o. updated f p (used o n)) is)
    ∙ ap (held_by (updated f p (Some (stamped t n)))) gs
    ∙ held_put f g p l (stamped t n) (record { 0 = n }) refl (free_to_put x p t is ok)
    in
    record {
      answer = told_ok _ _ _ ok;
      becomes = after_ok _ _ _ _ ok (same_meaning _ _ _ _ _ _ (ap (λ t. t.0) c.put.ensures.slot) cs held);
      owners = refl;
    }
