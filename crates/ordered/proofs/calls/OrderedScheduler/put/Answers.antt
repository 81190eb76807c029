use Rattle.std.proofs.Common.{◌≡◌, None, sym, refl, ap, ◌∙◌}
use Rattle.scheduler.specs.Meaning.{put_rule, put_verdict}
use Rattle.scheduler.specs.Tables.{contracts_of}
use Rattle.scheduler.proofs.Verdicts.{after_ok, after_err, after_same, after_parts}
use Rattle.backlog.specs.Backlogs.{cells_of}
use Rattle.backlog.proofs.HeldCells.{held_pushed}
use Rattle.ordered.specs.States.{means}
use Rattle.ordered.specs.Keeps.{moved, pushes}
use Rattle.ordered.proofs.calls.OrderedScheduler.put.Goals as goal

pub invariant_of-self : goal.invariant_of-self
invariant_of-self g c =
    let x = c.args.self.now in
    let cs = x.register.contracts in
    let rule = put_rule (contracts_of cs c.args.party) x.register.slot.0 in
    let kept = after_err rule c.args.party _ cs cs _ c.in_err-contract.ensures.answer refl in
    record { sound = moved g.D.Discipline.asks g.D.Discipline.limit g.D.Discipline.keeps x.register.slot.0 _ cs _ (cells_of x.backlog) (ap (λ n. n.0) c.put.ensures.slot) (c.put.ensures.table ∙ sym kept) x.sound }

pub invariant_of-self-2 : goal.invariant_of-self-2
invariant_of-self-2 g c =
    let x = c.args.self.now in
    let told = c.in_ok-contract.ensures.answer in
    let is = c.arrival-cell.ensures in
    let new = pushes g.D.Discipline.asks g.D.Discipline.limit g.D.Discipline.keeps g.met.D.Discipline.put g.met.D.Discipline.prompt x.register (cells_of x.backlog) _ _ c.args.party c.in_ok-contract.contract c.push.ensures.becomes told.0 told.1 (ap (λ y. y.party) is) (ap (λ y. y.eligible.0) is) refl x.sound in
    record { sound = moved g.D.Discipline.asks g.D.Discipline.limit g.D.Discipline.keeps x.register.slot.0 _ _ _ (cells_of c.push.new.self) (ap (λ n. n.0) c.put.ensures.slot) c.put.ensures.table new.2 }

pub returns-clause-becomes : goal.returns-clause-becomes
returns-clause-becomes g c =
    let x = c.args.self.now in
    let p = c.args.party in
    let m = means x.register x.backlog in
    let told = c.in_ok-contract.ensures.answer in
    let is = c.arrival-cell.ensures in
    let new = pushes g.D.Discipline.asks g.D.Discipline.limit g.D.Discipline.keeps g.met.D.Discipline.put g.met.D.Discipline.prompt x.register (cells_of x.backlog) _ _ p c.in_ok-contract.contract c.push.ensures.becomes told.0 told.1 (ap (λ y. y.party) is) (ap (λ y. y.eligible.0) is) refl x.sound in
    let ok : put_verdict m p ≡ None = told.1 in
    let held = held_pushed (cells_of x.backlog) _ _ c.push.ensures.becomes new.0 p m.slot c.args.label (ap (λ y. y.party) is) (ap (λ y. y.eligible.0) is) (ap (λ y. y.label) is) new.1 in
    after_parts (put_verdict m p) m _ _ _ _ _ _ (ap (λ n. n.0) c.put.ensures.slot ∙ after_same (put_verdict m p) m.slot) c.put.ensures.contracts (after_ok (put_verdict m p) _ _ _ ok held)
