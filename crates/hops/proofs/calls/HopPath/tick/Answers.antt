use Rattle.std.proofs.Common.{◌≡◌, ◌<◌, ◌≤◌, length, set, Some, sym, ap, ◌∙◌, subst, arith}
use Rattle.calendar.specs.Days.{now_of, waiting_of}
use Rattle.scheduler.specs.Laws.{Chosen}
use Rattle.scheduler.specs.Meaning.{last_slot, stepped, after, serve_verdict}
use Rattle.paths.specs.Laws.{Lawful}
use Rattle.paths.specs.Route.{ticked, delivery_entry}
use Rattle.paths.specs.Verdicts.{answered, unless, tick_verdict, Delivers, Sends, Sent}
use Rattle.hops.specs.Crossed.{crossings_of}
use Rattle.hops.specs.Hops.{parts_of}
use Rattle.hops.specs.Joined.{parts, joined}
use Rattle.hops.specs.Sent.{Ready, Handed}
use Rattle.hops.proofs.Answering.{told_ok_is, answered_ok, tick_in_time}
use Rattle.hops.proofs.Behind.{put_consents}
use Rattle.hops.proofs.Handover.{delivery_same}
use Rattle.hops.proofs.Opened.{sound_opened}
use Rattle.hops.proofs.Sides.{Honest}
use Rattle.hops.proofs.TickWhole.{ready_now, final, Final}
use Rattle.hops.proofs.calls.HopPath.tick.Goals as goal

pub admit-requires-clause-consent : goal.admit-requires-clause-consent
admit-requires-clause-consent g c p l e =
    let h = c.args.self.now in
    let k = parts_of g.S.Scheduler.meaning g.P.Path.route h in
    let s = sound_opened (now_of h.waiting) k h.sound in
    put_consents k s.level p l (sym (ap (waiting_of h.waiting p) s.days) ∙ e)

pub send-sent-requires : goal.send-sent-requires
send-sent-requires g c =
    let h = c.args.self.now in
    let k = parts_of g.S.Scheduler.meaning g.P.Path.route h in
    let s = sound_opened (now_of h.waiting) k h.sound in
    let lb : Lawful k.behind = g.met.P.Path.lawful h.behind in
    let ok = answered_ok (tick_verdict k.behind) (sym c.in_ok-tick.was ∙ c.tick.ensures.answer) in
    let ss = c.tick.new.sends in
    let b = g.P.Path.route c.tick.new.self in
    let b-is : b ≡ ticked k.behind ss = c.tick.ensures.becomes ∙ ap (λ v. unless v k.behind (ticked k.behind ss)) ok in
    let le : now_of h.waiting ≤ last_slot = subst (λ n. n ≤ last_slot) (sym s.days) (tick_in_time k.behind ok) in
    let a = c.admit.new.scheduler in
    let m = g.S.Scheduler.meaning a in
    let xs = crossings_of c.admit.new.crossings in
    let hon : Honest m = record { timely = g.met.S.Scheduler.timely a; contracted = g.met.S.Scheduler.contracted a; ranged = g.met.S.Scheduler.ranged a; past = g.met.S.Scheduler.past a } in
    let served = told_ok_is (serve_verdict m) 255 c.unwrap-served.result (g.S.Scheduler.choice a) (sym c.unwrap-served.ensures ∙ c.serve.ensures.answer) in
    record {
      link = h.short;
      ready = λ cell e. (
          let chosen : Chosen m (Some cell) = subst (Chosen m) (sym served.0 ∙ e) (g.met.S.Scheduler.chosen a) in
          subst (λ n. Ready xs h.link.0 n b cell) (sym c.slot-slot.ensures)
          (ready_now k (now_of h.waiting) s lb le c.args.sends.now ss b b-is m c.admit.ensures.sched hon xs c.admit.ensures.crossings cell chosen));
    }

pub note-requires : goal.note-requires
note-requires g c =
    let h = c.args.self.now in
    let s = sound_opened (now_of h.waiting) (parts_of g.S.Scheduler.meaning g.P.Path.route h) h.sound in
    omega (arith, s.level.lawful.hops)

pub invariant_of-self-2-clause-sound : goal.invariant_of-self-2-clause-sound
invariant_of-self-2-clause-sound g c =
    let h = c.args.self.now in
    let k = parts_of g.S.Scheduler.meaning g.P.Path.route h in
    let s = sound_opened (now_of h.waiting) k h.sound in
    let lb : Lawful k.behind = g.met.P.Path.lawful h.behind in
    let ok = answered_ok (tick_verdict k.behind) (sym c.in_ok-tick.was ∙ c.tick.ensures.answer) in
    let ss = c.tick.new.sends in
    let b = g.P.Path.route c.tick.new.self in
    let b-is : b ≡ ticked k.behind ss = c.tick.ensures.becomes ∙ ap (λ v. unless v k.behind (ticked k.behind ss)) ok in
    let le : now_of h.waiting ≤ last_slot = subst (λ n. n ≤ last_slot) (sym s.days) (tick_in_time k.behind ok) in
    let a = c.admit.new.scheduler in
    let m = g.S.Scheduler.meaning a in
    let xs = crossings_of c.admit.new.crossings in
    let hon : Honest m = record { timely = g.met.S.Scheduler.timely a; contracted = g.met.S.Scheduler.contracted a; ranged = g.met.S.Scheduler.ranged a; past = g.met.S.Scheduler.past a } in
    let served = told_ok_is (serve_verdict m) 255 c.unwrap-served.result (g.S.Scheduler.choice a) (sym c.unwrap-served.ensures ∙ c.serve.ensures.answer) in
    let t = c.serve.new.self in
    let hon' : Honest (g.S.Scheduler.meaning t) = record { timely = g.met.S.Scheduler.timely t; contracted = g.met.S.Scheduler.contracted t; ranged = g.met.S.Scheduler.ranged t; past = g.met.S.Scheduler.past t } in
    let chosen : Chosen m c.unwrap-served.result = subst (Chosen m) (sym served.0) (g.met.S.Scheduler.chosen a) in
    let stepped-is : g.S.Scheduler.meaning t ≡ stepped m c.unwrap-served.result = c.serve.ensures.becomes ∙ ap (λ v. after v m (stepped m (g.S.Scheduler.choice a))) served.1 ∙ ap (stepped m) (sym served.0) in
    let b' = c.send-sent.new.behind in
    let handed : Handed xs h.link.0 (now_of h.waiting) c.unwrap-served.result c.send-sent.result b (g.P.Path.route b') =
    subst (λ n. Handed xs h.link.0 n c.unwrap-served.result c.send-sent.result b (g.P.Path.route b')) c.slot-slot.ensures c.send-sent.ensures in
    let within : h.number < length ss = omega (arith, s.level.lawful.hops) in
    let q = c.admit.new.waiting in
    let z = parts h.number h.link.0 (g.S.Scheduler.meaning t) (waiting_of q) xs (g.P.Path.route b') in
    let w : Final k (now_of h.waiting) s lb le c.args.sends.now ss b b-is m c.admit.ensures.sched hon xs c.admit.ensures.crossings z (now_of q) (set ss h.number c.send-sent.result) =
    final k (now_of h.waiting) s lb le c.args.sends.now ss b b-is m c.admit.ensures.sched hon xs c.admit.ensures.crossings
    (subst (λ v. Sends v k.behind c.args.sends.now ss) ok c.tick.ensures.sends) (waiting_of q) c.admit.ensures.waits c.unwrap-served.result chosen (g.S.Scheduler.meaning t) stepped-is hon'
    c.send-sent.result (g.P.Path.route b') handed (g.met.P.Path.lawful b') (now_of q) c.admit.ensures.day within in
    ∣ w.sound ∣₁

pub returns : goal.returns
returns g c =
    let h = c.args.self.now in
    let k = parts_of g.S.Scheduler.meaning g.P.Path.route h in
    let s = sound_opened (now_of h.waiting) k h.sound in
    let lb : Lawful k.behind = g.met.P.Path.lawful h.behind in
    let ok = answered_ok (tick_verdict k.behind) (sym c.in_ok-tick.was ∙ c.tick.ensures.answer) in
    let ss = c.tick.new.sends in
    let b = g.P.Path.route c.tick.new.self in
    let b-is : b ≡ ticked k.behind ss = c.tick.ensures.becomes ∙ ap (λ v. unless v k.behind (ticked k.behind ss)) ok in
    let le : now_of h.waiting ≤ last_slot = subst (λ n. n ≤ last_slot) (sym s.days) (tick_in_time k.behind ok) in
    let a = c.admit.new.scheduler in
    let m = g.S.Scheduler.meaning a in
    let xs = crossings_of c.admit.new.crossings in
    let hon : Honest m = record { timely = g.met.S.Scheduler.timely a; contracted = g.met.S.Scheduler.contracted a; ranged = g.met.S.Scheduler.ranged a; past = g.met.S.Scheduler.past a } in
    let served = told_ok_is (serve_verdict m) 255 c.unwrap-served.result (g.S.Scheduler.choice a) (sym c.unwrap-served.ensures ∙ c.serve.ensures.answer) in
    let t = c.serve.new.self in
    let hon' : Honest (g.S.Scheduler.meaning t) = record { timely = g.met.S.Scheduler.timely t; contracted = g.met.S.Scheduler.contracted t; ranged = g.met.S.Scheduler.ranged t; past = g.met.S.Scheduler.past t } in
    let chosen : Chosen m c.unwrap-served.result = subst (Chosen m) (sym served.0) (g.met.S.Scheduler.chosen a) in
    let stepped-is : g.S.Scheduler.meaning t ≡ stepped m c.unwrap-served.result = c.serve.ensures.becomes ∙ ap (λ v. after v m (stepped m (g.S.Scheduler.choice a))) served.1 ∙ ap (stepped m) (sym served.0) in
    let b' = c.send-sent.new.behind in
    let handed : Handed xs h.link.0 (now_of h.waiting) c.unwrap-served.result c.send-sent.result b (g.P.Path.route b') =
    subst (λ n. Handed xs h.link.0 n c.unwrap-served.result c.send-sent.result b (g.P.Path.route b')) c.slot-slot.ensures c.send-sent.ensures in
    let within : h.number < length ss = omega (arith, s.level.lawful.hops) in
    let q = c.admit.new.waiting in
    let z = parts h.number h.link.0 (g.S.Scheduler.meaning t) (waiting_of q) xs (g.P.Path.route b') in
    let w : Final k (now_of h.waiting) s lb le c.args.sends.now ss b b-is m c.admit.ensures.sched hon xs c.admit.ensures.crossings z (now_of q) (set ss h.number c.send-sent.result) =
    final k (now_of h.waiting) s lb le c.args.sends.now ss b b-is m c.admit.ensures.sched hon xs c.admit.ensures.crossings
    (subst (λ v. Sends v k.behind c.args.sends.now ss) ok c.tick.ensures.sends) (waiting_of q) c.admit.ensures.waits c.unwrap-served.result chosen (g.S.Scheduler.meaning t) stepped-is hon'
    c.send-sent.result (g.P.Path.route b') handed (g.met.P.Path.lawful b') (now_of q) c.admit.ensures.day within in
    let zs = c.note.new.sends in
    let table : set ss h.number c.send-sent.result ≡ zs = sym c.note.ensures in
    record {
      answer = sym (ap answered ok);
      becomes = w.route ∙ ap (ticked (joined k)) table ∙ sym (ap (λ v. unless v (joined k) (ticked (joined k) zs)) ok);
      deliveries = subst (λ v. Delivers v (joined k) c.args.deliveries.now c.tick.new.deliveries) (sym ok) (λ p. subst (λ v. Delivers v k.behind c.args.deliveries.now c.tick.new.deliveries) ok c.tick.ensures.deliveries p ∙ ap (delivery_entry p) (sym (delivery_same k s.level lb p)));
      sends = subst (λ v. Sends v (joined k) c.args.sends.now zs) (sym ok) (subst (Sent (joined k) c.args.sends.now) table w.sent);
    }
