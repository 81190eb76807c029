use Rattle.std.proofs.Common.{◌≡◌, ◌+◌, None, sym, refl, ap, ◌∙◌, rules}
use Rattle.scheduler.specs.Meaning.{after, serve_rule, serve_verdict, without}
use Rattle.scheduler.proofs.Verdicts.{after_ok, after_err, after_parts}
use Rattle.backlog.specs.Backlogs.{cells_of}
use Rattle.backlog.specs.Cells.{held_in}
use Rattle.demand.specs.Cells.{cell_of}
use Rattle.demand.proofs.Keeps.{held_left}
use Rattle.ordered.specs.States.{means, first_by}
use Rattle.ordered.specs.Keeps.{moved, sound_served}
use Rattle.ordered.proofs.calls.OrderedScheduler.serve.Goals as goal

pub invariant_of-self : goal.invariant_of-self
invariant_of-self g c =
    let x = c.args.self.now in
    let t = x.register.slot.0 in
    let kept = after_err (serve_rule t) 255 _ t t _ (sym c.in_err-tick.ensures.answer) refl in
    record { sound = moved g.D.Discipline.asks g.D.Discipline.limit g.D.Discipline.keeps t _ x.register.contracts _ (cells_of x.backlog) (c.tick.ensures.slot ∙ sym kept) c.tick.ensures.table x.sound }

pub invariant_of-self-2 : goal.invariant_of-self-2
invariant_of-self-2 g c =
    let x = c.args.self.now in
    let t = x.register.slot.0 in
    let cs = x.register.contracts in
    let ok : serve_rule t ≡ None = search rules in
    let next : c.tick.new.self.slot.0 ≡ t + 1 = c.tick.ensures.slot ∙ ap (λ r. after r t (t + 1)) ok in
    let ahead = g.D.Order.ahead x.discipline in
    let served = sound_served g.D.Discipline.asks g.D.Discipline.limit g.D.Discipline.keeps ahead g.met.D.Discipline.idle (g.met.D.Discipline.served x.discipline) t cs (cells_of x.backlog) _ _ x.register.spaced (sym c.take_first.ensures.answer) c.take_first.ensures.becomes x.sound in
    record { sound = moved g.D.Discipline.asks g.D.Discipline.limit g.D.Discipline.keeps (t + 1) _ cs _ (cells_of c.take_first.new.self) next c.tick.ensures.table served }

pub returns-clause-becomes : goal.returns-clause-becomes
returns-clause-becomes g c =
    let x = c.args.self.now in
    let m = means x.register x.backlog in
    let xs = cells_of x.backlog in
    let ok : serve_verdict m ≡ None = search rules in
    let pick : first_by (g.D.Order.ahead x.discipline) x.backlog ≡ cell_of c.take_first.result = ap cell_of (sym c.take_first.ensures.answer) in
    let held = held_left x.register.contracts xs (cells_of c.take_first.new.self) c.take_first.result c.take_first.ensures.becomes x.sound.orderly ∙ ap (without (held_in xs)) (sym pick) in
    after_parts (serve_verdict m) m _ _ _ _ _ _ c.tick.ensures.slot (after_ok (serve_verdict m) _ _ _ ok (search rules)) (after_ok (serve_verdict m) _ _ _ ok held)
