use Rattle.std.proofs.Common.{sym, ap, ◌∙◌}
use Rattle.calendar.specs.Days.{now_of}
use Rattle.paths.specs.Verdicts.{answered}
use Rattle.hops.specs.Hops.{parts_of}
use Rattle.hops.proofs.Opened.{sound_opened}
use Rattle.hops.proofs.Seen.{none_is}
use Rattle.hops.proofs.Withdrawals.{uncrossed}
use Rattle.hops.proofs.calls.HopPath.withdraw.Goals as goal

pub invariant_of-self-clause-sound : goal.invariant_of-self-clause-sound
invariant_of-self-clause-sound g c =
    let h = c.args.self.now in
    let k = parts_of g.S.Scheduler.meaning g.P.Path.route h in
    let s = sound_opened (now_of h.waiting) k h.sound in
    let p = c.args.party in
    let u = uncrossed k (now_of h.waiting) s p (g.met.P.Path.lawful h.behind) (sym c.get.ensures.value ∙ none_is c.get.result (sym c.is_some.ensures ∙ c.if-is_some.false)) (g.P.Path.route c.withdraw.new.self) c.withdraw.ensures.becomes in
    ∣ u.sound ∣₁

pub returns-else-is_some : goal.returns-else-is_some
returns-else-is_some g c =
    let h = c.args.self.now in
    let k = parts_of g.S.Scheduler.meaning g.P.Path.route h in
    let s = sound_opened (now_of h.waiting) k h.sound in
    let p = c.args.party in
    let u = uncrossed k (now_of h.waiting) s p (g.met.P.Path.lawful h.behind) (sym c.get.ensures.value ∙ none_is c.get.result (sym c.is_some.ensures ∙ c.if-is_some.false)) (g.P.Path.route c.withdraw.new.self) c.withdraw.ensures.becomes in
    record {
      answer = c.withdraw.ensures.answer ∙ ap answered (sym u.verdict);
      becomes = u.route;
    }
