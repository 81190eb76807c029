use Rattle.std.proofs.Common.{◌≡◌, ◌<◌, true, cond, ltb, [], ◌∷◌, ◌++◌, length, sym, ap, ◌∙◌, rules}
use Rattle.std.proofs.lemmas.List.{take_more_set}
use Rattle.backlog.specs.Backlogs.{cells_of}
use Rattle.backlog.proofs.places.Backlog.push.Goals as goal

pub returns : goal.returns
returns c =
    let s = c.args.self.now in
    let within : s.count < length s.places = search rules in
    let long : length (cells_of s) ≡ s.count = search rules in
    let room : ltb (length (cells_of s)) 128 ≡ true = search rules in
    record { answer = sym room; becomes = take_more_set s.places s.count c.args.held within ∙ ap (λ b. cond b (cells_of s ++ c.args.held ∷ []) (cells_of s)) (sym room) }
