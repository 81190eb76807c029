use Rattle.std.proofs.Common.{◌≡◌, ℕ, Bool, true, false, Some, None, Ok, Err, Option, sym, refl, ap, ◌∙◌, subst, arith}
use Rattle.std.proofs.lemmas.Result.{err_from_is_err_and}
use Rattle.scheduler.specs.declared.terms.Contract.{Contract}
use Rattle.scheduler.specs.Meaning.{told, after, updated, withdraw_rule, withdraw_verdict, holds_of}
use Rattle.scheduler.specs.Tables.{Refuses}
use Rattle.scheduler.proofs.Updates.{same_meaning}
use Rattle.scheduler.proofs.Verdicts.{told_ok, told_err, after_ok, after_err}
use Rattle.table.specs.Kept.{last_of, held_of}
use Rattle.table.specs.Tables.{table_meaning, owner_of}
use Rattle.table.specs.Turns.{released}
use Rattle.table.specs.Helds.{is_none, held_by, held_kept, held_none}
use Rattle.table.specs.Keeps.{kept_along, kept_withdrawn}
use Rattle.table.specs.Laws.{kept, label_of, contract_of, holds_is}
use Rattle.table.proofs.calls.TableScheduler.withdraw.Goals as goal

-- a withdrawal that is told to go on finds no cell of the party
not_held : (o : Option Contract) (b : Bool) (p : ℕ) → Ok (tt {0}) ≡ told (withdraw_rule o b) p (tt {0}) → b ≡ false
not_held None b p e = absurd (let z : ◌≡◌ {A = ℕ} 0 1 = cc in omega arith)
not_held (Some c) true p e = absurd (let z : ◌≡◌ {A = ℕ} 0 1 = cc in omega arith)
not_held (Some c) false p e = refl

consent : (o : Option Contract) (b : Bool) (p : ℕ) → Ok (tt {0}) ≡ told (withdraw_rule o b) p (tt {0}) → withdraw_rule o b ≡ None
consent None b p e = absurd (let z : ◌≡◌ {A = ℕ} 0 1 = cc in omega arith)
consent (Some c) true p e = absurd (let z : ◌≡◌ {A = ℕ} 0 1 = cc in omega arith)
consent (Some c) false p e = refl

pub invariant_of-self : goal.invariant_of-self
invariant_of-self c =
    let x = c.args.self.now in
    let p = c.args.party in
    let n = x.register.slot.0 in
    let f = contract_of x in
    let v = withdraw_rule (f p) c.holds-holds.result in
    let same = c.withdraw.ensures.contracts ∙ sym (after_err v p _ f f (updated f p None) (sym c.in_err-withdraw.ensures.answer) refl) in
    kept_along _ n _ f _ (owner_of x) _ (label_of x) (ap (λ t. t.0) c.withdraw.ensures.slot) same refl refl (kept x)

pub returns-in_err-withdraw : goal.returns-in_err-withdraw
returns-in_err-withdraw c =
    let x = c.args.self.now in
    let m = table_meaning x in
    let p = c.args.party in
    let f = contract_of x in
    let g = label_of x in
    let e = c.in_err-withdraw.field-0.0 in
    let h : c.holds-holds.result ≡ holds_of m p = c.holds-holds.ensures in
    let v = withdraw_rule (f p) c.holds-holds.result in
    let was : Refuses v p e = sym c.in_err-withdraw.ensures.answer in
    let all : Refuses (withdraw_verdict m p) p e = subst (λ b. Refuses (withdraw_rule (f p) b) p e) h was in
    let q = err_from_is_err_and c.from_residual.result c.from_residual.ensures.1 in
    let same = c.withdraw.ensures.contracts ∙ sym (after_err v p e f f (updated f p None) was refl) in
    record {
      answer = q.1 ∙ ap Err q.2 ∙ told_err (withdraw_verdict m p) p tt e all;
      becomes = after_err (withdraw_verdict m p) p e m _ _ all (same_meaning _ _ _ _ _ _ (ap (λ t. t.0) c.withdraw.ensures.slot) same (ap (λ k. held_by k g) same));
      owners = after_err (withdraw_verdict m p) p e (owner_of x) (owner_of x) _ all refl;
    }

pub invariant_of-self-2 : goal.invariant_of-self-2
invariant_of-self-2 c =
    let x = c.args.self.now in
    let p = c.args.party in
    let n = x.register.slot.0 in
    let f = contract_of x in
    let b = c.holds-holds.result in
    let told-so = c.in_ok-withdraw.ensures.answer in
    let ok = consent (f p) b p told-so in
    let none = is_none (label_of x p) (sym (holds_is x p) ∙ sym c.holds-holds.ensures ∙ not_held (f p) b p told-so) in
    let cs = c.withdraw.ensures.contracts ∙ ap (λ v. after v f (updated f p None)) ok in
    kept_along _ n _ (updated f p None) _ (released (owner_of x) p) _ (label_of x) (ap (λ t. t.0) c.withdraw.ensures.slot) cs c.release.ensures refl (kept_withdrawn n f (owner_of x) (label_of x) p none (kept x))

pub returns : goal.returns
returns c =
    let x = c.args.self.now in
    let m = table_meaning x in
    let p = c.args.party in
    let f = contract_of x in
    let g = label_of x in
    let b = c.holds-holds.result in
    let h : b ≡ holds_of m p = c.holds-holds.ensures in
    let told-so = c.in_ok-withdraw.ensures.answer in
    let was = consent (f p) b p told-so in
    let ok : withdraw_verdict m p ≡ None = subst (λ b. withdraw_rule (f p) b ≡ None) h was in
    let none = is_none (g p) (sym (holds_is x p) ∙ sym h ∙ not_held (f p) b p told-so) in
    let cs = c.withdraw.ensures.contracts ∙ ap (λ v. after v f (updated f p None)) was in
    let held = ap (λ k. held_by k g) cs ∙ held_kept f g p None (λ e. sym (ap (λ o. held_of (last_of (f p)) o e) none ∙ held_none (last_of (f p)) e)) in
    record {
      answer = told_ok _ _ _ ok;
      becomes = after_ok _ _ _ _ ok (same_meaning _ _ _ _ _ _ (ap (λ t. t.0) c.withdraw.ensures.slot) cs held);
      owners = after_ok _ _ _ _ ok c.release.ensures;
    }
