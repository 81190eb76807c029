use Rattle.std.proofs.Common.{◌<◌, ◌≤◌, length, sym, ◌∙◌, arith, rules}
use Rattle.std.proofs.lemmas.List.{get_or_default, get_or-take}
use Rattle.backlog.proofs.Firsts.{swapped}
use Rattle.backlog.proofs.places.Backlog.swap_remove.Goals as goal

pub returns : goal.returns
returns c =
    let s = c.args.self.now in
    let below : c.args.place < s.count = c.requires in
    let within : s.count ≤ length s.places = search rules in
    let place : c.args.place < length s.places = omega arith in
    record { answer = get_or_default s.places c.args.place _ _ place ∙ sym (get_or-take s.count s.places c.args.place _ below); becomes = λ f. swapped f s.places s.count c.args.place _ _ below within }
