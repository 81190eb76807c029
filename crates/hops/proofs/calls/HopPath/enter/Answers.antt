use Rattle.std.proofs.Common.{◌≡◌, ◌+◌, None, Ok, sym, ap, ◌∙◌}
use Rattle.calendar.specs.Days.{now_of}
use Rattle.header.specs.Headers.{header_of}
use Rattle.paths.specs.Verdicts.{answered, unless, arrival_rule, header_rule, entered_by}
use Rattle.hops.specs.Hops.{parts_of}
use Rattle.hops.specs.Joined.{joined}
use Rattle.hops.proofs.Arrivals.{rule_behind, passed_slot, passed_level, passed_entered}
use Rattle.hops.proofs.Opened.{sound_opened}
use Rattle.hops.proofs.calls.HopPath.enter.Goals as goal

pub invariant_of-self-clause-sound : goal.invariant_of-self-clause-sound
invariant_of-self-clause-sound g c =
    let h = c.args.self.now in
    let k = parts_of g.S.Scheduler.meaning g.P.Path.route h in
    let s = sound_opened (now_of h.waiting) k h.sound in
    let arrived = c.in_ok-arrived.arrived in
    let p = arrived.party in
    let e = c.args.arrival.0 + arrived.ahead.0 in
    let l = arrived.label in
    let a = c.args.arrival.0 in
    let lev = s.level in
    let read : header_of c.args.header.now ≡ Ok arrived = sym c.read.ensures.value ∙ c.in_ok-arrived.was in
    let none : k.crossings p ≡ None = sym c.get.ensures.value ∙ c.in-None.is in
    let becomes = c.enter.ensures.becomes ∙ (λ i. unless (header_rule k.behind (read i) a) k.behind (entered_by k.behind (read i) a)) in
    ∣ record { days = s.days ∙ sym (passed_slot k lev p none e l (arrival_rule k.behind (k.behind.contracts p) p e) (g.P.Path.route c.enter.new.self) becomes); level = passed_level k lev p none e l (g.P.Path.route c.enter.new.self) becomes } ∣₁

pub returns-in-None : goal.returns-in-None
returns-in-None g c =
    let h = c.args.self.now in
    let k = parts_of g.S.Scheduler.meaning g.P.Path.route h in
    let s = sound_opened (now_of h.waiting) k h.sound in
    let arrived = c.in_ok-arrived.arrived in
    let p = arrived.party in
    let e = c.args.arrival.0 + arrived.ahead.0 in
    let l = arrived.label in
    let a = c.args.arrival.0 in
    let lev = s.level in
    let read : header_of c.args.header.now ≡ Ok arrived = sym c.read.ensures.value ∙ c.in_ok-arrived.was in
    let none : k.crossings p ≡ None = sym c.get.ensures.value ∙ c.in-None.is in
    let becomes = c.enter.ensures.becomes ∙ (λ i. unless (header_rule k.behind (read i) a) k.behind (entered_by k.behind (read i) a)) in
    record {
      answer = c.enter.ensures.answer ∙ ap (λ r. answered (header_rule k.behind r a)) read ∙ ap answered (rule_behind k lev p none e) ∙ sym (ap (λ r. answered (header_rule (joined k) r a)) read);
      becomes = passed_entered k lev p none e l (g.P.Path.route c.enter.new.self) becomes ∙ sym (λ i. unless (header_rule (joined k) (read i) a) (joined k) (entered_by (joined k) (read i) a));
    }
