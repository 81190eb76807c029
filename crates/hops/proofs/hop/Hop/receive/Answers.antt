use Rattle.std.proofs.Common.{◌≡◌, ◌+◌, ◌<◌, Some, None, Err, sym, ap, ◌∙◌, subst}
use Rattle.std.proofs.lemmas.Result.{err_from_is_err_and}
use Rattle.std.specs.Result.{result_err}
use Rattle.calendar.specs.Days.{now_of, waiting_of}
use Rattle.paths.specs.Route.{entered}
use Rattle.paths.specs.Trails.{arrival_by}
use Rattle.paths.specs.Verdicts.{answered, unless, arrival_rule}
use Rattle.hops.specs.Crossed.{crossings_of}
use Rattle.hops.specs.Hops.{parts_of}
use Rattle.hops.specs.Joined.{joined}
use Rattle.hops.proofs.Arrivals.{rule_here}
use Rattle.hops.proofs.Opened.{sound_opened}
use Rattle.hops.proofs.hop.Hop.receive.Given as given
use Rattle.hops.proofs.hop.Hop.receive.Goals as goal
use Rattle.hops.proofs.hop.Hop.receive.Goals.{After-check_arrival}

-- the verdict on the cell
verdict : (g : given.Over) (c : After-check_arrival g) → arrival_rule (joined (parts_of g.S.Scheduler.meaning g.P.Path.route c.args.self.now)) ((joined (parts_of g.S.Scheduler.meaning g.P.Path.route c.args.self.now)).contracts c.args.arrived.party) c.args.arrived.party (c.args.arrival.0 + c.args.arrived.ahead.0) ≡ result_err c.check_arrival.result
verdict g c =
    let h = c.args.self.now in
    let k = parts_of g.S.Scheduler.meaning g.P.Path.route h in
    let s = sound_opened (now_of h.waiting) k h.sound in
    let p = c.args.arrived.party in
    let e = c.args.arrival.0 + c.args.arrived.ahead.0 in
    sym (rule_here k s.level p (g.met.S.Scheduler.past h.scheduler) c.args.crossing c.requires.crosses e)
    ∙ ap (λ n. arrival_by c.args.crossing.trail (waiting_of h.waiting p) n p e) (sym s.days)
    ∙ sym c.check_arrival.ensures.verdict

pub returns-in_err-cell : goal.returns-in_err-cell
returns-in_err-cell g c =
    let k = parts_of g.S.Scheduler.meaning g.P.Path.route c.args.self.now in
    let p = c.args.arrived.party in
    let e = c.args.arrival.0 + c.args.arrived.ahead.0 in
    let q = err_from_is_err_and c.from_residual.result c.from_residual.ensures.1 in
    let rule : arrival_rule (joined k) ((joined k).contracts p) p e ≡ Some c.in_err-cell.field-0.0 = verdict g ((goal.at.returns-in_err-cell g c).After-check_arrival) ∙ ap result_err c.in_err-cell.was in
    record {
      answer = q.1 ∙ ap Err q.2 ∙ ap answered (sym rule);
      becomes = ap (λ o. unless o (joined k) (entered (joined k) p e c.args.arrived.label)) (sym rule);
    }

pub accept-requires : goal.accept-requires
accept-requires g c =
    let h = c.args.self.now in
    let k = parts_of g.S.Scheduler.meaning g.P.Path.route h in
    let is = c.in_ok-cell.ensures.cell in
    record {
      crosses = ap (crossings_of h.crossings) is.0 ∙ c.requires.crosses;
      party = subst (λ p. p < 16) (sym is.0) c.requires.party;
      consent =
          (λ i. arrival_rule (joined k) ((joined k).contracts (is.0 i)) (is.0 i) (is.1 i))
          ∙ verdict g ((goal.at.accept-requires g c).After-check_arrival)
          ∙ ap result_err c.in_ok-cell.was;
    }

pub returns : goal.returns
returns g c =
    let k = parts_of g.S.Scheduler.meaning g.P.Path.route c.args.self.now in
    let p = c.args.arrived.party in
    let e = c.args.arrival.0 + c.args.arrived.ahead.0 in
    let is = c.in_ok-cell.ensures.cell in
    let rule : arrival_rule (joined k) ((joined k).contracts p) p e ≡ None = verdict g ((goal.at.returns g c).After-check_arrival) ∙ ap result_err c.in_ok-cell.was in
    record {
      answer = ap answered (sym rule);
      becomes = c.accept.ensures ∙ (λ i. entered (joined k) (is.0 i) (is.1 i) (is.2 i)) ∙ ap (λ o. unless o (joined k) (entered (joined k) p e c.args.arrived.label)) (sym rule);
    }
