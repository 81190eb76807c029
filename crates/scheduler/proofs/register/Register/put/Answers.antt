use Rattle.std.proofs.Common.{◌≡◌, ℕ, ◌<◌, ◌≤◌, length, get_or, set, Some, None, Option, sym, refl, ap, ◌∙◌, subst, arith, rules}
use Rattle.scheduler.specs.declared.terms.Contract.{Contract}
use Rattle.scheduler.specs.Meaning.{updated, stamped, used, put_rule}
use Rattle.scheduler.specs.Tables.{contracts_of, spacing_or, bound_or, last_or}
use Rattle.scheduler.proofs.Updates.{each_set, contracts_set}
use Rattle.scheduler.proofs.Verdicts.{after_ok}
use Rattle.scheduler.proofs.register.Register.put.Goals as goal
use Rattle.scheduler.proofs.register.Register.put.Goals.{in-Some-last+else-lt, in_default-last}

pub invariant_of-self : goal.invariant_of-self
invariant_of-self c =
    let s = c.args.self.now in
    let cs = s.contracts in
    let p = c.args.party in
    let v : Option Contract = Some c.stamp.new.self in
    let within : p < length cs = search rules in
    let whole : length (set cs p v) ≡ 16 = search rules in
    let was = c.in-Some-contracts.is in
    let is : Some (stamped c.in-Some-contracts.used s.slot.0) ≡ v = ap Some (sym c.stamp.ensures) in
    let kept = λ (Q : Option Contract → Type 0) (h : (q : ℕ) → Q (get_or cs q None)) (n : Q (Some (stamped c.in-Some-contracts.used s.slot.0))).
    each_set (λ q o. Q o) cs p v None within (subst Q is n) h in record {
      slots = s.slots;
      whole = whole;
      spaced = kept (λ o. 1 ≤ spacing_or o) s.spaced (subst (λ o. 1 ≤ spacing_or o) was (s.spaced p));
      near = kept (λ o. spacing_or o ≤ 1024) s.near (subst (λ o. spacing_or o ≤ 1024) was (s.near p));
      bounded = kept (λ o. 1 ≤ bound_or o) s.bounded (subst (λ o. 1 ≤ bound_or o) was (s.bounded p));
      prompt = kept (λ o. bound_or o ≤ 128) s.prompt (subst (λ o. bound_or o ≤ 128) was (s.prompt p));
      past = kept (λ o. last_or s.slot.0 o ≤ s.slot.0) s.past (omega arith);
    }

pub returns-in-Some-contracts : goal.returns-in-Some-contracts
returns-in-Some-contracts c =
    let s = c.args.self.now in
    let cs = s.contracts in
    let p = c.args.party in
    let n = s.slot.0 in
    let within : p < length cs = search rules in
    let was = c.in-Some-contracts.is in
    let here : contracts_of cs p ≡ Some c.in-Some.contract = search rules in
    let ok : put_rule (contracts_of cs p) n ≡ None =
    elim c.match-contract-2.branch [ in-Some-last+else-lt w ↦ search rules | in_default-last w ↦ search rules ] in
    let is : Some c.stamp.new.self ≡ used (contracts_of cs p) n = ap Some c.stamp.ensures ∙ ap (λ o. used o n) (sym was) in
    record {
      answer = (here, ok);
      slot = refl;
      table = after_ok _ _ _ _ ok (ap (set cs p) is);
      contracts = after_ok _ _ _ _ ok (contracts_set cs p (Some c.stamp.new.self) within ∙ ap (updated (contracts_of cs) p) is);
    }
