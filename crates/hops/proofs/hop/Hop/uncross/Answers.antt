use Rattle.std.proofs.Common.{◌≡◌, true, false, is_ok, Err, sym, ap, ◌∙◌, subst}
use Rattle.calendar.specs.Days.{now_of, waiting_of}
use Rattle.scheduler.specs.Meaning.{after}
use Rattle.scheduler.specs.Meaning.{withdrawn as sched-withdrawn}
use Rattle.paths.specs.Laws.{Lawful}
use Rattle.paths.specs.Verdicts.{answered, unless, holds_of, withdrawn}
use Rattle.paths.proofs.Kept.{lawful_withdrawn}
use Rattle.hops.specs.Crossed.{crossings_of}
use Rattle.hops.specs.Hops.{parts_of}
use Rattle.hops.specs.Joined.{parts, joined}
use Rattle.hops.specs.Level.{Level, Sound}
use Rattle.hops.proofs.Answering.{answered_is_ok, told_is_ok}
use Rattle.hops.proofs.Seen.{some_is}
use Rattle.hops.proofs.Levels.{withdrawn_parts, withdrawn_both, level-withdrawn}
use Rattle.hops.proofs.Opened.{sound_opened}
use Rattle.hops.proofs.Withdrawals.{crossed_verdict, owns_none, sched_consents, behind_consents}
use Rattle.hops.proofs.hop.Hop.uncross.Goals as goal

pub returns-then-holds_cell : goal.returns-then-holds_cell
returns-then-holds_cell g c =
    let h = c.args.self.now in
    let k = parts_of g.S.Scheduler.meaning g.P.Path.route h in
    let s = sound_opened (now_of h.waiting) k h.sound in
    let x = some_is (crossings_of h.crossings c.args.party) c.requires.crosses in
    let v = crossed_verdict k s.level c.args.party x.0 x.1 true (sym c.holds_cell.ensures ∙ c.if-holds_cell.true) in
    record {
      answer = ap Err c.refused.ensures ∙ sym (ap answered v);
      becomes = sym (ap (λ v. unless v (joined k) (withdrawn (joined k) c.args.party)) v);
    }

pub unwrap-requires : goal.unwrap-requires
unwrap-requires g c =
    let h = c.args.self.now in
    let k = parts_of g.S.Scheduler.meaning g.P.Path.route h in
    let s = sound_opened (now_of h.waiting) k h.sound in
    let x = some_is (crossings_of h.crossings c.args.party) c.requires.crosses in
    let none : holds_of (joined k) c.args.party ≡ false = sym c.holds_cell.ensures ∙ c.if-holds_cell.false in
    ap is_ok c.withdraw.ensures.answer ∙ told_is_ok _ _ _ (sched_consents k s.level c.args.party x.0 x.1 none)

pub unwrap-requires-2 : goal.unwrap-requires-2
unwrap-requires-2 g c =
    let h = c.args.self.now in
    let k = parts_of g.S.Scheduler.meaning g.P.Path.route h in
    let s = sound_opened (now_of h.waiting) k h.sound in
    let x = some_is (crossings_of h.crossings c.args.party) c.requires.crosses in
    let none : holds_of (joined k) c.args.party ≡ false = sym c.holds_cell.ensures ∙ c.if-holds_cell.false in
    ap is_ok c.withdraw-2.ensures.answer ∙ answered_is_ok _ (behind_consents k s.level c.args.party x.0 x.1 none)

pub invariant_of-self-clause-sound : goal.invariant_of-self-clause-sound
invariant_of-self-clause-sound g c =
    let h = c.args.self.now in
    let k = parts_of g.S.Scheduler.meaning g.P.Path.route h in
    let s = sound_opened (now_of h.waiting) k h.sound in
    let p = c.args.party in
    let x = some_is (crossings_of h.crossings p) c.requires.crosses in
    let lev : Level k = s.level in
    let none : holds_of (joined k) p ≡ false = sym c.holds_cell.ensures ∙ c.if-holds_cell.false in
    let m-is : g.S.Scheduler.meaning c.withdraw.new.self ≡ sched-withdrawn k.sched p = c.withdraw.ensures.becomes ∙ ap (λ v. after v k.sched (sched-withdrawn k.sched p)) (sched_consents k lev p x.0 x.1 none) in
    let b-is : g.P.Path.route c.withdraw-2.new.self ≡ withdrawn k.behind p = c.withdraw-2.ensures.becomes ∙ ap (λ v. unless v k.behind (withdrawn k.behind p)) (behind_consents k lev p x.0 x.1 none) in
    let same : parts h.number h.link.0 (g.S.Scheduler.meaning c.withdraw.new.self) (waiting_of h.waiting) (crossings_of c.set.new.self) (g.P.Path.route c.withdraw-2.new.self) ≡ withdrawn_parts k lev p =
    (λ i. parts h.number h.link.0 (m-is i) (waiting_of h.waiting) (c.set.ensures i) (b-is i)) in
    let owns = owns_none k lev p x.0 x.1 none in
    let route = withdrawn_both k lev p owns in
    let snd : Sound (now_of h.waiting) (withdrawn_parts k lev p) = record { days = s.days; level = level-withdrawn k lev p owns (subst Lawful (sym route) (lawful_withdrawn (joined k) lev.lawful p none)) } in
    ∣ subst (Sound (now_of h.waiting)) (sym same) snd ∣₁

pub returns : goal.returns
returns g c =
    let h = c.args.self.now in
    let k = parts_of g.S.Scheduler.meaning g.P.Path.route h in
    let s = sound_opened (now_of h.waiting) k h.sound in
    let p = c.args.party in
    let x = some_is (crossings_of h.crossings p) c.requires.crosses in
    let lev : Level k = s.level in
    let none : holds_of (joined k) p ≡ false = sym c.holds_cell.ensures ∙ c.if-holds_cell.false in
    let m-is : g.S.Scheduler.meaning c.withdraw.new.self ≡ sched-withdrawn k.sched p = c.withdraw.ensures.becomes ∙ ap (λ v. after v k.sched (sched-withdrawn k.sched p)) (sched_consents k lev p x.0 x.1 none) in
    let b-is : g.P.Path.route c.withdraw-2.new.self ≡ withdrawn k.behind p = c.withdraw-2.ensures.becomes ∙ ap (λ v. unless v k.behind (withdrawn k.behind p)) (behind_consents k lev p x.0 x.1 none) in
    let same : parts h.number h.link.0 (g.S.Scheduler.meaning c.withdraw.new.self) (waiting_of h.waiting) (crossings_of c.set.new.self) (g.P.Path.route c.withdraw-2.new.self) ≡ withdrawn_parts k lev p =
    (λ i. parts h.number h.link.0 (m-is i) (waiting_of h.waiting) (c.set.ensures i) (b-is i)) in
    let owns = owns_none k lev p x.0 x.1 none in
    let route = withdrawn_both k lev p owns in
    let v = crossed_verdict k lev p x.0 x.1 false none in
    record {
      answer = sym (ap answered v);
      becomes = ap joined same ∙ route ∙ sym (ap (λ v. unless v (joined k) (withdrawn (joined k) p)) v);
    }
