use Rattle.std.proofs.Common.{◌≡◌, ◌≤◌, ◌∷◌, None, sym, ap, ◌∙◌, subst, arith}
use Rattle.calendar.specs.Days.{now_of, waiting_of}
use Rattle.scheduler.specs.Meaning.{fresh as sched-fresh}
use Rattle.paths.specs.Laws.{Lawful}
use Rattle.paths.specs.Route.{fresh}
use Rattle.hops.specs.Crossed.{crossings_of}
use Rattle.hops.specs.Joined.{parts, joined}
use Rattle.hops.specs.Level.{Sound}
use Rattle.hops.proofs.Withdrawals.{sound_fresh}
use Rattle.hops.proofs.hop.Hop.new.Goals as goal

pub invariant_of-result-clause-sound : goal.invariant_of-result-clause-sound
invariant_of-result-clause-sound g c =
    let gs = (g.P.Path.route c.args.behind).links in
    let b' = c.reset-2.new.self in
    let l = c.short.result.0 in
    let b-is : g.P.Path.route b' ≡ fresh 1 gs = c.reset-2.ensures.becomes in
    let law : Lawful (fresh 1 gs) = subst Lawful b-is (g.met.P.Path.lawful b') in
    let short : l ≤ 63 = omega (arith, c.short.ensures) in
    let same : parts 0 l (g.S.Scheduler.meaning c.reset.new.self) (waiting_of c.new.result) (crossings_of c.new-2.result) (g.P.Path.route b') ≡ parts 0 l sched-fresh (λ p e. None) (λ p. None) (fresh 1 gs) =
    (λ i. parts 0 l (c.reset.ensures i) (c.new.ensures.cells i) (c.new-2.ensures i) (b-is i)) in
    let snd = sound_fresh 0 l gs short (omega arith) law.links in
    ∣ subst (Sound (now_of c.new.result)) (sym same) (subst (λ d. Sound d (parts 0 l sched-fresh (λ p e. None) (λ p. None) (fresh 1 gs))) (sym c.new.ensures.slot) snd) ∣₁

pub returns : goal.returns
returns g c =
    let gs = (g.P.Path.route c.args.behind).links in
    let b' = c.reset-2.new.self in
    let l = c.short.result.0 in
    let b-is : g.P.Path.route b' ≡ fresh 1 gs = c.reset-2.ensures.becomes in
    let same : parts 0 l (g.S.Scheduler.meaning c.reset.new.self) (waiting_of c.new.result) (crossings_of c.new-2.result) (g.P.Path.route b') ≡ parts 0 l sched-fresh (λ p e. None) (λ p. None) (fresh 1 gs) =
    (λ i. parts 0 l (c.reset.ensures i) (c.new.ensures.cells i) (c.new-2.ensures i) (b-is i)) in
    ap joined same ∙ ap (λ l. fresh 0 (l ∷ gs)) c.short.ensures
