use Rattle.std.proofs.Common.{◌≡◌, set, None, ap, ◌∙◌}
use Rattle.scheduler.specs.Meaning.{told, after, withdraw_rule, withdraw_verdict, updated, holds_of}
use Rattle.scheduler.proofs.Verdicts.{after_same, after_parts}
use Rattle.backlog.specs.Backlogs.{cells_of}
use Rattle.demand.proofs.Keeps.{holds_by}
use Rattle.ordered.specs.States.{means}
use Rattle.ordered.specs.Keeps.{moved, sound_withdrawn}
use Rattle.ordered.proofs.calls.OrderedScheduler.withdraw.Goals as goal

pub returns : goal.returns
returns g c =
    let x = c.args.self.now in
    let p = c.args.party in
    let m = means x.register x.backlog in
    let h : c.holds-holds.result ≡ holds_of m p = c.holds-holds.ensures ∙ holds_by x.register (cells_of x.backlog) p x.sound.orderly in
    record {
      answer = c.withdraw.ensures.answer ∙ ap (λ b. told (withdraw_rule (m.contracts p) b) p tt) h;
      becomes =
          after_parts (withdraw_verdict m p) m _ _ _ _ _ _
          (ap (λ n. n.0) c.withdraw.ensures.slot ∙ after_same (withdraw_verdict m p) m.slot)
          (c.withdraw.ensures.contracts ∙ ap (λ b. after (withdraw_rule (m.contracts p) b) m.contracts (updated m.contracts p None)) h)
          (after_same (withdraw_verdict m p) m.held);
      table = c.withdraw.ensures.table ∙ ap (λ b. after (withdraw_rule (m.contracts p) b) x.register.contracts (set x.register.contracts p None)) h;
    }

pub invariant_of-self : goal.invariant_of-self
invariant_of-self g c =
    let x = c.args.self.now in
    let left = sound_withdrawn g.D.Discipline.asks g.D.Discipline.limit g.D.Discipline.keeps g.met.D.Discipline.withdrawn x.register (cells_of x.backlog) c.args.party c.holds-holds.result c.holds-holds.ensures x.sound in
    record { sound = moved g.D.Discipline.asks g.D.Discipline.limit g.D.Discipline.keeps x.register.slot.0 _ _ _ (cells_of x.backlog) (ap (λ n. n.0) c.withdraw.ensures.slot) c.withdraw.ensures.table left }
