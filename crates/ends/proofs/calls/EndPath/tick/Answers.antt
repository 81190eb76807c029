use Rattle.std.proofs.Common.{◌≡◌, ℕ, ◌+◌, ◌≤◌, get_or, replicate, None, sym, refl, ap, ◌∙◌, subst, arith, rules}
use Rattle.calendar.specs.Days.{now_of, waiting_of}
use Rattle.scheduler.specs.Meaning.{last_slot}
use Rattle.paths.specs.Route.{delivery_entry, ticked}
use Rattle.paths.specs.Verdicts.{answered, unless, tick_verdict, Delivers, Sends}
use Rattle.paths.proofs.Present.{none_some}
use Rattle.ends.specs.Ends.{trail_of, Noted}
use Rattle.ends.specs.Meant.{end_route}
use Rattle.ends.proofs.Outcomes.{blank, tracked_of, end_ticked}
use Rattle.ends.proofs.Steps.{delivers, not_noted}
use Rattle.ends.proofs.calls.EndPath.tick.Goals as goal

pub invariant_of-self : goal.invariant_of-self
invariant_of-self c =
    let x = c.args.self.now in
    let n = now_of x.waiting in
    let ss = c.send_nothing.new.sends in
    let low : n ≤ last_slot = search rules in
    let came = c.in-Some.ensures.answer in
    let notes : (p : ℕ) → Noted (trail_of x.trails p) (waiting_of x.waiting p n) n (trail_of c.deliver.new.self p) =
    λ p. subst (λ d. Noted (trail_of x.trails p) d n (trail_of c.deliver.new.self p)) (came p) (subst (λ t. Noted (trail_of x.trails p) (get_or c.in-Some.row.entries p None) t (trail_of c.deliver.new.self p)) c.slot-slot.ensures (c.deliver.ensures.trails p)) in
    let v = end_ticked x c.next_day.new.self c.deliver.new.self ss low c.in-Some.ensures.slot c.in-Some.ensures.cells notes in
    record { tracked = v.tracked }

pub returns-in-Some : goal.returns-in-Some
returns-in-Some c =
    let x = c.args.self.now in
    let r = end_route x in
    let n = now_of x.waiting in
    let ss = c.send_nothing.new.sends in
    let low : n ≤ last_slot = search rules in
    let ok : tick_verdict r ≡ None = search rules in
    let came = c.in-Some.ensures.answer in
    let notes : (p : ℕ) → Noted (trail_of x.trails p) (waiting_of x.waiting p n) n (trail_of c.deliver.new.self p) =
    λ p. subst (λ d. Noted (trail_of x.trails p) d n (trail_of c.deliver.new.self p)) (came p) (subst (λ t. Noted (trail_of x.trails p) (get_or c.in-Some.row.entries p None) t (trail_of c.deliver.new.self p)) c.slot-slot.ensures (c.deliver.ensures.trails p)) in
    let v = end_ticked x c.next_day.new.self c.deliver.new.self ss low c.in-Some.ensures.slot c.in-Some.ensures.cells notes in
    record {
      answer = ap answered (sym ok);
      becomes = v.route ∙ ap (λ v. unless v r (ticked r ss)) (sym ok);
      deliveries = subst (λ v. Delivers v r c.args.deliveries.now c.deliver.new.deliveries) (sym ok) (λ p. c.deliver.ensures.table p ∙ ap (delivery_entry p) (came p ∙ sym (delivers n x.first (trail_of x.trails) (waiting_of x.waiting) (tracked_of x) p)));
      sends = subst (λ v. Sends v r c.args.sends.now ss) (sym ok) (record { front = c.send_nothing.ensures.front; sends = λ k y e. absurd (none_some (c.send_nothing.ensures.rest (x.first + k) (omega arith)) e) });
    }

pub invariant_of-self-in_default : goal.invariant_of-self-in_default
invariant_of-self-in_default c =
    let x = c.args.self.now in
    let n = now_of x.waiting in
    let ss = c.send_nothing.new.sends in
    let low : n ≤ last_slot = search rules in
    let came = c.in_default.ensures.answer in
    let notes : (p : ℕ) → Noted (trail_of x.trails p) (waiting_of x.waiting p n) n (trail_of x.trails p) = λ p. not_noted _ _ _ n refl (sym (came p)) in
    let v = end_ticked x c.next_day.new.self x.trails ss low c.in_default.ensures.slot c.in_default.ensures.cells notes in
    record { tracked = v.tracked }

pub returns-in_default : goal.returns-in_default
returns-in_default c =
    let x = c.args.self.now in
    let r = end_route x in
    let n = now_of x.waiting in
    let ss = c.send_nothing.new.sends in
    let low : n ≤ last_slot = search rules in
    let ok : tick_verdict r ≡ None = search rules in
    let came = c.in_default.ensures.answer in
    let notes : (p : ℕ) → Noted (trail_of x.trails p) (waiting_of x.waiting p n) n (trail_of x.trails p) = λ p. not_noted _ _ _ n refl (sym (came p)) in
    let v = end_ticked x c.next_day.new.self x.trails ss low c.in_default.ensures.slot c.in_default.ensures.cells notes in
    record {
      answer = ap answered (sym ok);
      becomes = v.route ∙ ap (λ v. unless v r (ticked r ss)) (sym ok);
      deliveries = subst (λ v. Delivers v r c.args.deliveries.now (replicate 16 None)) (sym ok) (λ p. blank 16 p ∙ ap (delivery_entry p) (came p ∙ sym (delivers n x.first (trail_of x.trails) (waiting_of x.waiting) (tracked_of x) p)));
      sends = subst (λ v. Sends v r c.args.sends.now ss) (sym ok) (record { front = c.send_nothing.ensures.front; sends = λ k y e. absurd (none_some (c.send_nothing.ensures.rest (x.first + k) (omega arith)) e) });
    }
