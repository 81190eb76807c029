use Rattle.std.proofs.Common.{◌≡◌, eqb-true, sym, ap, ◌∙◌, subst}
use Rattle.calendar.specs.Days.{now_of, waiting_of}
use Rattle.hops.specs.Crossed.{crossings_of}
use Rattle.hops.specs.Hops.{parts_of}
use Rattle.hops.specs.Joined.{parts, joined}
use Rattle.hops.specs.Level.{Level}
use Rattle.hops.proofs.Enters.{Later}
use Rattle.hops.proofs.Levels.{waiting_parts, putting_parts}
use Rattle.hops.proofs.Arrivals.{later_by, same_on, waits_entered, waits_level, puts_entered, puts_level, puts_consent}
use Rattle.hops.proofs.Opened.{sound_opened}
use Rattle.hops.proofs.hop.Hop.accept.Goals as goal

pub hold-requires : goal.hold-requires
hold-requires g c =
    let h = c.args.self.now in
    let k = parts_of g.S.Scheduler.meaning g.P.Path.route h in
    let s = sound_opened (now_of h.waiting) k h.sound in
    let now = eqb-true c.args.cell.eligible.0 c.slot.result.0 (sym c.eq.ensures ∙ c.if-eq.true) ∙ c.slot.ensures ∙ s.days in
    record {
      party = c.requires.party;
      consent = puts_consent k s.level c.args.cell.party (g.met.S.Scheduler.past h.scheduler) c.args.crossing c.requires.crosses c.args.cell.eligible.0 c.requires.consent now;
    }

pub invariant_of-self-clause-sound : goal.invariant_of-self-clause-sound
invariant_of-self-clause-sound g c =
    let h = c.args.self.now in
    let k = parts_of g.S.Scheduler.meaning g.P.Path.route h in
    let s = sound_opened (now_of h.waiting) k h.sound in
    let p = c.args.cell.party in
    let l = c.args.cell.label in
    let e = c.args.cell.eligible.0 in
    let x = c.args.crossing in
    let x' = c.taking.result in
    let lev = s.level in
    let past = g.met.S.Scheduler.past h.scheduler in
    let now = eqb-true c.args.cell.eligible.0 c.slot.result.0 (sym c.eq.ensures ∙ c.if-eq.true) ∙ c.slot.ensures ∙ s.days in
    let same = same_on c.entering-noted.ensures.same c.taking.ensures.same in
    let later = subst (Later x.trail.latest e) (sym c.taking.ensures.latest) (later_by x.trail.latest c.entering-noted.result.trail.latest c.args.cell.eligible c.entering-noted.ensures.latest) in
    let o = c.hold.ensures in
    let at : parts h.number h.link.0 (g.S.Scheduler.meaning c.hold.new.scheduler) (waiting_of h.waiting) (crossings_of c.hold.new.crossings) (g.P.Path.route h.behind) ≡ putting_parts k lev p l x' =
    (λ i. parts h.number h.link.0 (o.sched i) (waiting_of h.waiting) (o.crossings i) (g.P.Path.route h.behind)) in
    ∣ record { days = s.days; level = subst Level (sym at) (puts_level k lev p past x c.requires.crosses e c.requires.consent x' same later l now c.taking.ensures.last) } ∣₁

pub returns-then-eq : goal.returns-then-eq
returns-then-eq g c =
    let h = c.args.self.now in
    let k = parts_of g.S.Scheduler.meaning g.P.Path.route h in
    let s = sound_opened (now_of h.waiting) k h.sound in
    let p = c.args.cell.party in
    let l = c.args.cell.label in
    let e = c.args.cell.eligible.0 in
    let x = c.args.crossing in
    let x' = c.taking.result in
    let lev = s.level in
    let past = g.met.S.Scheduler.past h.scheduler in
    let now = eqb-true c.args.cell.eligible.0 c.slot.result.0 (sym c.eq.ensures ∙ c.if-eq.true) ∙ c.slot.ensures ∙ s.days in
    let same = same_on c.entering-noted.ensures.same c.taking.ensures.same in
    let later = subst (Later x.trail.latest e) (sym c.taking.ensures.latest) (later_by x.trail.latest c.entering-noted.result.trail.latest c.args.cell.eligible c.entering-noted.ensures.latest) in
    let o = c.hold.ensures in
    let at : parts h.number h.link.0 (g.S.Scheduler.meaning c.hold.new.scheduler) (waiting_of h.waiting) (crossings_of c.hold.new.crossings) (g.P.Path.route h.behind) ≡ putting_parts k lev p l x' =
    (λ i. parts h.number h.link.0 (o.sched i) (waiting_of h.waiting) (o.crossings i) (g.P.Path.route h.behind)) in
    ap joined at ∙ puts_entered k lev p past x c.requires.crosses e c.requires.consent x' same later l now

pub invariant_of-self-else-eq-clause-sound : goal.invariant_of-self-else-eq-clause-sound
invariant_of-self-else-eq-clause-sound g c =
    let h = c.args.self.now in
    let k = parts_of g.S.Scheduler.meaning g.P.Path.route h in
    let s = sound_opened (now_of h.waiting) k h.sound in
    let p = c.args.cell.party in
    let l = c.args.cell.label in
    let e = c.args.cell.eligible.0 in
    let x = c.args.crossing in
    let x' = c.entering-noted.result in
    let lev = s.level in
    let past = g.met.S.Scheduler.past h.scheduler in
    let same = c.entering-noted.ensures.same in
    let later = later_by x.trail.latest x'.trail.latest c.args.cell.eligible c.entering-noted.ensures.latest in
    let o = c.keep.ensures in
    let at : parts h.number h.link.0 (g.S.Scheduler.meaning h.scheduler) (waiting_of c.keep.new.waiting) (crossings_of c.keep.new.crossings) (g.P.Path.route h.behind) ≡ waiting_parts k lev p e l x' =
    (λ i. parts h.number h.link.0 (g.S.Scheduler.meaning h.scheduler) (o.waits i) (o.crossings i) (g.P.Path.route h.behind)) in
    ∣ record { days = o.day ∙ s.days; level = subst Level (sym at) (waits_level k lev p past x c.requires.crosses e c.requires.consent x' same later l c.entering-noted.ensures.last) } ∣₁

pub returns-else-eq : goal.returns-else-eq
returns-else-eq g c =
    let h = c.args.self.now in
    let k = parts_of g.S.Scheduler.meaning g.P.Path.route h in
    let s = sound_opened (now_of h.waiting) k h.sound in
    let p = c.args.cell.party in
    let l = c.args.cell.label in
    let e = c.args.cell.eligible.0 in
    let x = c.args.crossing in
    let x' = c.entering-noted.result in
    let lev = s.level in
    let past = g.met.S.Scheduler.past h.scheduler in
    let same = c.entering-noted.ensures.same in
    let later = later_by x.trail.latest x'.trail.latest c.args.cell.eligible c.entering-noted.ensures.latest in
    let o = c.keep.ensures in
    let at : parts h.number h.link.0 (g.S.Scheduler.meaning h.scheduler) (waiting_of c.keep.new.waiting) (crossings_of c.keep.new.crossings) (g.P.Path.route h.behind) ≡ waiting_parts k lev p e l x' =
    (λ i. parts h.number h.link.0 (g.S.Scheduler.meaning h.scheduler) (o.waits i) (o.crossings i) (g.P.Path.route h.behind)) in
    ap joined at ∙ waits_entered k lev p past x c.requires.crosses e c.requires.consent x' same later l
