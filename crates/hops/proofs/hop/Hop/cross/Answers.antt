use Rattle.std.proofs.Common.{◌≡◌, ℕ, ◌+◌, ◌≤◌, ltb, List, is_some, Some, None, Ok, Err, sym, refl, ap, ◌∙◌, subst}
use Rattle.std.proofs.lemmas.Result.{err_from_is_err_and}
use Rattle.calendar.specs.Days.{now_of}
use Rattle.cells.specs.declared.faults.Cause.TheVariants.{CalendarExceeded}
use Rattle.cells.specs.declared.times.Span.{Span}
use Rattle.scheduler.specs.Meaning.{told, grant_verdict as sched-verdict}
use Rattle.paths.specs.declared.trail.Trail.{Trail}
use Rattle.paths.specs.Route.{constant}
use Rattle.paths.specs.Verdicts.{fault, refused_if, answered, bound, bounds_from, share, sum_below, grant_rule}
use Rattle.hops.specs.declared.hop.Hop.{Hop}
use Rattle.hops.specs.Crossed.{crossings_of, crossing_load}
use Rattle.hops.specs.Hops.{parts_of}
use Rattle.hops.specs.Joined.{joined}
use Rattle.hops.specs.Level.{Level}
use Rattle.hops.proofs.Grants.{Asked, numbered_as, no_room, no_consent, undoing, refused_behind, rest_is, rest_most, granted-whole}
use Rattle.hops.proofs.Opened.{sound_opened}
use Rattle.hops.proofs.Seen.{some_same}
use Rattle.hops.proofs.hop.Hop.cross.Given as given
use Rattle.hops.proofs.hop.Hop.cross.Goals as goal
use Rattle.hops.proofs.hop.Hop.cross.Goals.{Start, After-check_room, After-numbered, After-constant}

-- what is asked
abbrev asked : (g : given.Over) {s : _} {t : _} (h : Hop g.row.S.Denot g.row.P.Denot s t) (p : ℕ) (y : Trail) (d : Span) (bs : List Span) → Level (parts_of g.S.Scheduler.meaning g.P.Path.route h) → grant_rule (joined (parts_of g.S.Scheduler.meaning g.P.Path.route h)) p y.spacing.0 bs y.lead.0 None ≡ None → d.0 ≡ bound bs h.number → 1 ≤ d.0 → Asked
asked g h p y d bs level rule here crossed = record {
  parts = parts_of g.S.Scheduler.meaning g.P.Path.route h;
  level = level;
  contracted = g.met.S.Scheduler.contracted h.scheduler;
  party = p;
  spacing = y.spacing.0;
  bounds = bs;
  lead = y.lead.0;
  rule = rule;
  test = g.S.Scheduler.test h.scheduler;
  tests = g.P.Path.tests h.behind;
  given = d.0;
  here = here;
  crossed = crossed;
}

abbrev asked-at : (g : given.Over) → Start g → Asked
asked-at g c = asked g c.args.self.now c.args.party c.args.trail c.args.bound c.args.bounds.now (sound_opened (now_of c.args.self.now.waiting) (parts_of g.S.Scheduler.meaning g.P.Path.route c.args.self.now) c.args.self.now.sound).level c.requires.checked c.requires.bound c.requires.crossed

-- the calendar's answer
room : (g : given.Over) (c : After-check_room g) → c.check_room.result ≡ answered (refused_if (ltb 192 (sum_below 16 (λ q. crossing_load (crossings_of c.args.self.now.crossings q)) + share c.args.trail.lead.0 c.args.trail.spacing.0)) (fault CalendarExceeded c.args.party c.args.self.now.number) None)
room g c = c.check_room.ensures ∙ ap (λ n. answered (refused_if (ltb 192 (n + share c.args.trail.lead.0 c.args.trail.spacing.0)) (fault CalendarExceeded c.args.party c.args.self.now.number) None)) c.load.ensures.value

-- and the scheduler's
consent : (g : given.Over) (c : After-numbered g) → numbered_as c.args.self.now.number (told (sched-verdict (g.S.Scheduler.meaning c.args.self.now.scheduler) c.args.party c.args.trail.spacing.0 c.args.bound.0 (g.S.Scheduler.test c.args.self.now.scheduler c.args.party c.args.trail.spacing.0 c.args.bound.0)) c.args.party tt) ≡ c.numbered.result
consent g c = sym (ap (numbered_as c.args.self.now.number) c.grant.ensures.answer) ∙ sym c.numbered.ensures

pub returns-in_err-check_room : goal.returns-in_err-check_room
returns-in_err-check_room g c =
    let at = goal.at.returns-in_err-check_room g c in
    let f = err_from_is_err_and c.from_residual.result c.from_residual.ensures.1 in
    let o = no_room (asked-at g at.Start) (now_of c.args.self.now.waiting) c.from_residual.result c.in_err-check_room.field-0.0 (sound_opened (now_of c.args.self.now.waiting) (parts_of g.S.Scheduler.meaning g.P.Path.route c.args.self.now) c.args.self.now.sound) (sym (room g at.After-check_room) ∙ c.in_err-check_room.was) (f.1 ∙ ap Err f.2) in
    record { answer = o.answer; becomes = o.becomes }

pub returns-in_err-numbered : goal.returns-in_err-numbered
returns-in_err-numbered g c =
    let at = goal.at.returns-in_err-numbered g c in
    let x = c.from_residual-in_err-numbered in
    let f = err_from_is_err_and x.result x.ensures.1 in
    let o = no_consent (asked-at g at.Start) c.in_ok-check_room.field-0 (sym (room g at.After-check_room) ∙ c.in_ok-check_room.was)
    (now_of c.args.self.now.waiting) (g.S.Scheduler.meaning c.grant.new.self) x.result c.in_err-numbered.field-0.0 (sound_opened (now_of c.args.self.now.waiting) (parts_of g.S.Scheduler.meaning g.P.Path.route c.args.self.now) c.args.self.now.sound) (consent g at.After-numbered ∙ c.in_err-numbered.was) c.grant.ensures.becomes (f.1 ∙ ap Err f.2) in
    record { answer = o.answer; becomes = o.becomes }

pub settled-requires : goal.settled-requires
settled-requires g c =
    let at = goal.at.settled-requires g c in
    undoing (asked-at g at.Start) c.in_ok-check_room.field-0 (sym (room g at.After-check_room) ∙ c.in_ok-check_room.was)
    c.in_ok-numbered.field-0 (consent g at.After-numbered ∙ c.in_ok-numbered.was) (g.S.Scheduler.meaning c.grant.new.self) c.grant.ensures.becomes

pub invariant_of-self-in-Break-branch-3 : goal.invariant_of-self-in-Break-branch-3
invariant_of-self-in-Break-branch-3 g c =
    let at = goal.at.invariant_of-self-in-Break-branch-3 g c in
    let h = c.args.self.now in
    let f = c.in_err-settled.field-0.0 in
    let o = refused_behind (asked-at g at.Start) c.in_ok-check_room.field-0 (sym (room g at.After-check_room) ∙ c.in_ok-check_room.was)
    c.in_ok-numbered.field-0 (consent g at.After-numbered ∙ c.in_ok-numbered.was) (g.S.Scheduler.meaning c.grant.new.self) c.grant.ensures.becomes
    c.onward-answer.result (g.P.Path.route c.onward-answer.new.behind) c.onward-answer.ensures.answer c.onward-answer.ensures.becomes
    (now_of h.waiting) (g.S.Scheduler.meaning c.settled.new.scheduler) (Err f) f (sound_opened (now_of h.waiting) (parts_of g.S.Scheduler.meaning g.P.Path.route h) h.sound) c.settled.ensures.becomes (sym c.settled.ensures.same ∙ c.in_err-settled.was) refl in
    record { short = h.short; sound = ∣ o.kept ∣₁ }

pub returns-in_err-settled : goal.returns-in_err-settled
returns-in_err-settled g c =
    let at = goal.at.returns-in_err-settled g c in
    let x = c.from_residual-in_err-settled in
    let f = err_from_is_err_and x.result x.ensures.1 in
    let o = refused_behind (asked-at g at.Start) c.in_ok-check_room.field-0 (sym (room g at.After-check_room) ∙ c.in_ok-check_room.was)
    c.in_ok-numbered.field-0 (consent g at.After-numbered ∙ c.in_ok-numbered.was) (g.S.Scheduler.meaning c.grant.new.self) c.grant.ensures.becomes
    c.onward-answer.result (g.P.Path.route c.onward-answer.new.behind) c.onward-answer.ensures.answer c.onward-answer.ensures.becomes
    (now_of c.args.self.now.waiting) (g.S.Scheduler.meaning c.settled.new.scheduler) x.result c.in_err-settled.field-0.0 (sound_opened (now_of c.args.self.now.waiting) (parts_of g.S.Scheduler.meaning g.P.Path.route c.args.self.now) c.args.self.now.sound) c.settled.ensures.becomes (sym c.settled.ensures.same ∙ c.in_err-settled.was) (f.1 ∙ ap Err f.2) in
    record { answer = o.answer; becomes = o.becomes }

-- the path constant behind
rest : (g : given.Over) (c : After-constant g) → c.constant.result ≡ Some (record { 0 = constant (g.P.Path.route c.args.self.now.behind).links (bounds_from (g.P.Path.route c.args.self.now.behind).first (g.P.Path.route c.args.self.now.behind).links c.args.bounds.now) })
rest g c =
    c.constant.ensures
    ∙ rest_is (asked g c.args.self.now c.args.party c.args.trail c.args.bound c.args.bounds.now (sound_opened (now_of c.args.self.now.waiting) (parts_of g.S.Scheduler.meaning g.P.Path.route c.args.self.now) c.args.self.now.sound).level c.requires.checked c.requires.bound c.requires.crossed)
    c.in_ok-check_room.field-0 (sym (c.check_room.ensures ∙ ap (λ n. answered (refused_if (ltb 192 (n + share c.args.trail.lead.0 c.args.trail.spacing.0)) (fault CalendarExceeded c.args.party c.args.self.now.number) None)) c.load.ensures.value) ∙ c.in_ok-check_room.was)
    c.in_ok-numbered.field-0 (sym (ap (numbered_as c.args.self.now.number) c.grant.ensures.answer) ∙ sym c.numbered.ensures ∙ c.in_ok-numbered.was) (g.S.Scheduler.meaning c.grant.new.self) c.grant.ensures.becomes
    c.onward-answer.result (g.P.Path.route c.onward-answer.new.behind) c.onward-answer.ensures.answer c.onward-answer.ensures.becomes
    c.in_ok-settled.field-0 (sym c.settled.ensures.same ∙ c.in_ok-settled.was)

pub unwrap-rest-requires : goal.unwrap-rest-requires
unwrap-rest-requires g c = ap is_some (rest g ((goal.at.unwrap-rest-requires g c).After-constant))

pub new-crossing-requires : goal.new-crossing-requires
new-crossing-requires g c =
    let e = ap (λ (x : Span). x.0) (some_same (rest g ((goal.at.new-crossing-requires g c).After-constant)) c.unwrap-rest.ensures) in
    subst (λ n. n ≤ 1337) e (rest_most (parts_of g.S.Scheduler.meaning g.P.Path.route c.args.self.now) (sound_opened (now_of c.args.self.now.waiting) (parts_of g.S.Scheduler.meaning g.P.Path.route c.args.self.now) c.args.self.now.sound).level c.args.party c.args.trail.spacing.0 c.args.bounds.now c.args.trail.lead.0 c.requires.checked)

pub invariant_of-self-2-clause-sound : goal.invariant_of-self-2-clause-sound
invariant_of-self-2-clause-sound g c =
    let at = goal.at.invariant_of-self-2-clause-sound g c in
    let h = c.args.self.now in
    let e = ap (λ (x : Span). x.0) (some_same (rest g at.After-constant) c.unwrap-rest.ensures) in
    let x = c.new-crossing.result in
    let y = c.new-crossing.ensures in
    let o = granted-whole (asked-at g at.Start) c.in_ok-check_room.field-0 (sym (room g at.After-check_room) ∙ c.in_ok-check_room.was)
    c.in_ok-numbered.field-0 (consent g at.After-numbered ∙ c.in_ok-numbered.was) (g.S.Scheduler.meaning c.grant.new.self) c.grant.ensures.becomes
    c.onward-answer.result (g.P.Path.route c.onward-answer.new.behind) c.onward-answer.ensures.answer c.onward-answer.ensures.becomes
    c.in_ok-settled.field-0 (sym c.settled.ensures.same ∙ c.in_ok-settled.was)
    (now_of h.waiting) (g.S.Scheduler.meaning c.settled.new.scheduler) (crossings_of c.set.new.self) x (Ok tt) (sound_opened (now_of h.waiting) (parts_of g.S.Scheduler.meaning g.P.Path.route h) h.sound) c.settled.ensures.becomes c.set.ensures
    (ap (λ (t : Trail). t.spacing.0) y.trail) (ap (λ (t : Trail). t.lead.0) y.trail) (ap (λ (b : Span). b.0) y.bound) (y.constant ∙ ap (λ n. c.args.bound.0 + h.link.0 + n) (sym e))
    (ap (λ (t : Trail). t.latest) y.trail ∙ c.requires.latest) (ap (λ (t : Trail). t.last) y.trail ∙ c.requires.last) refl in
    ∣ o.kept ∣₁

pub returns : goal.returns
returns g c =
    let at = goal.at.returns g c in
    let h = c.args.self.now in
    let e = ap (λ (x : Span). x.0) (some_same (rest g at.After-constant) c.unwrap-rest.ensures) in
    let x = c.new-crossing.result in
    let y = c.new-crossing.ensures in
    let o = granted-whole (asked-at g at.Start) c.in_ok-check_room.field-0 (sym (room g at.After-check_room) ∙ c.in_ok-check_room.was)
    c.in_ok-numbered.field-0 (consent g at.After-numbered ∙ c.in_ok-numbered.was) (g.S.Scheduler.meaning c.grant.new.self) c.grant.ensures.becomes
    c.onward-answer.result (g.P.Path.route c.onward-answer.new.behind) c.onward-answer.ensures.answer c.onward-answer.ensures.becomes
    c.in_ok-settled.field-0 (sym c.settled.ensures.same ∙ c.in_ok-settled.was)
    (now_of h.waiting) (g.S.Scheduler.meaning c.settled.new.scheduler) (crossings_of c.set.new.self) x (Ok tt) (sound_opened (now_of h.waiting) (parts_of g.S.Scheduler.meaning g.P.Path.route h) h.sound) c.settled.ensures.becomes c.set.ensures
    (ap (λ (t : Trail). t.spacing.0) y.trail) (ap (λ (t : Trail). t.lead.0) y.trail) (ap (λ (b : Span). b.0) y.bound) (y.constant ∙ ap (λ n. c.args.bound.0 + h.link.0 + n) (sym e))
    (ap (λ (t : Trail). t.latest) y.trail ∙ c.requires.latest) (ap (λ (t : Trail). t.last) y.trail ∙ c.requires.last) refl in
    record { answer = o.answer; becomes = o.becomes }
