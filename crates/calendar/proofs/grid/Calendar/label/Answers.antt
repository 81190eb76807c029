use Rattle.std.proofs.Common.{◌≡◌, ◌<◌, true, false, length, sym, ap, ◌∙◌, rules}
use Rattle.std.proofs.lemmas.List.{get_or_default}
use Rattle.calendar.specs.Days.{label_at, now_of}
use Rattle.calendar.specs.Rows.{room, row_of}
use Rattle.calendar.proofs.Waits.{waiting_in, waiting_out}
use Rattle.calendar.proofs.grid.Calendar.label.Goals as goal

pub returns-then-not-has_room : goal.returns-then-not-has_room
returns-then-not-has_room c =
    let s = c.args.self.now in
    let none : room (now_of s) c.args.party c.args.slot.0 ≡ false = sym {b = room (now_of s) c.args.party c.args.slot.0} c.if-not-has_room.ensures in
    sym (waiting_out s c.args.party c.args.slot.0 none)

pub returns-in_err-as_ref : goal.returns-in_err-as_ref
returns-in_err-as_ref c =
    let s = c.args.self.now in
    let p = c.args.party in
    let free : room (now_of s) p c.args.slot.0 ≡ true = sym c.if-not-has_room.ensures in
    let within : c.day_of.result < length s.days = search rules in
    let day = get_or_default s.days c.day_of.result _ _ within ∙ sym c.in_err-as_ref.ensures.value in
    c.from_residual.ensures ∙ ap (λ o. row_of o p) (sym day) ∙ sym (waiting_in s p c.args.slot.0 free ∙ ap (λ k. label_at s.days k p) (sym c.day_of.ensures))

pub returns : goal.returns
returns c =
    let s = c.args.self.now in
    let p = c.args.party in
    let free : room (now_of s) p c.args.slot.0 ≡ true = sym c.if-not-has_room.ensures in
    let within : c.day_of.result < length s.days = search rules in
    let day = get_or_default s.days c.day_of.result _ _ within ∙ sym c.in_ok-as_ref.ensures.value in
    c.get.ensures.value ∙ ap (λ o. row_of o p) (sym day) ∙ sym (waiting_in s p c.args.slot.0 free ∙ ap (λ k. label_at s.days k p) (sym c.day_of.ensures))
