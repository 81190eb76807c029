use Rattle.std.proofs.Common.{◌≡◌, suc, ◌+◌, None, sym, ap, ◌∙◌, subst, arith}
use Rattle.calendar.specs.Days.{now_of, waiting_of}
use Rattle.scheduler.specs.Meaning.{fresh as sched-fresh}
use Rattle.paths.specs.Laws.{Lawful}
use Rattle.paths.specs.Route.{fresh}
use Rattle.hops.specs.Crossed.{crossings_of}
use Rattle.hops.specs.Joined.{parts, joined}
use Rattle.hops.specs.Level.{Sound}
use Rattle.hops.proofs.Withdrawals.{sound_fresh}
use Rattle.hops.proofs.calls.HopPath.reset.Goals as goal

pub invariant_of-self-clause-sound : goal.invariant_of-self-clause-sound
invariant_of-self-clause-sound g c =
    let h = c.args.self.now in
    let gs = (g.P.Path.route h.behind).links in
    let b' = c.reset-3.new.self in
    let n = c.args.first in
    let one : n + 1 ≡ suc n = omega arith in
    let b-is : g.P.Path.route b' ≡ fresh (suc n) gs = c.reset-3.ensures.becomes ∙ ap (λ n. fresh n gs) one in
    let law : Lawful (g.P.Path.route b') = g.met.P.Path.lawful b' in
    let law' : Lawful (fresh (suc n) gs) = subst Lawful b-is law in
    let same : parts n h.link.0 (g.S.Scheduler.meaning c.reset.new.self) (waiting_of c.reset-2.new.self) (crossings_of c.new-self.result) (g.P.Path.route b') ≡ parts n h.link.0 sched-fresh (λ p e. None) (λ p. None) (fresh (suc n) gs) =
    (λ i. parts n h.link.0 (c.reset.ensures i) (c.reset-2.ensures.cells i) (c.new-self.ensures i) (b-is i)) in
    let snd = sound_fresh n h.link.0 gs h.short (omega arith) law'.links in
    ∣ subst (Sound (now_of c.reset-2.new.self)) (sym same) (subst (λ d. Sound d (parts n h.link.0 sched-fresh (λ p e. None) (λ p. None) (fresh (suc n) gs))) (sym c.reset-2.ensures.slot) snd) ∣₁

pub returns : goal.returns
returns g c =
    let h = c.args.self.now in
    let gs = (g.P.Path.route h.behind).links in
    let b' = c.reset-3.new.self in
    let n = c.args.first in
    let one : n + 1 ≡ suc n = omega arith in
    let b-is : g.P.Path.route b' ≡ fresh (suc n) gs = c.reset-3.ensures.becomes ∙ ap (λ n. fresh n gs) one in
    let same : parts n h.link.0 (g.S.Scheduler.meaning c.reset.new.self) (waiting_of c.reset-2.new.self) (crossings_of c.new-self.result) (g.P.Path.route b') ≡ parts n h.link.0 sched-fresh (λ p e. None) (λ p. None) (fresh (suc n) gs) =
    (λ i. parts n h.link.0 (c.reset.ensures i) (c.reset-2.ensures.cells i) (c.new-self.ensures i) (b-is i)) in
    record { becomes = ap joined same }
