use Rattle.std.proofs.Common.{◌≡◌, length, get_or, Some, sym, ap, ◌∙◌}
use Rattle.order.specs.First.{First}
use Rattle.order.proofs.Foremost.{foremost_is}
use Rattle.backlog.specs.Backlogs.{cells_of}
use Rattle.backlog.proofs.places.Backlog.take_first.Goals as goal

pub returns : goal.returns
returns g c =
    let o = c.args.order.now in
    let xs = cells_of c.args.self.now in
    let x = c.swap_remove.result in
    let place : First (g.O.Order.ahead o) xs (length xs) c.in_ok-place.place = c.in_ok-place.ensures in
    let same : get_or xs c.in_ok-place.place x ≡ x = sym c.swap_remove.ensures.answer in
    record {
      answer = sym (foremost_is (g.O.Order.ahead o) (g.met.O.Order.asymmetric o) (g.met.O.Order.transitive o) xs c.in_ok-place.place x place ∙ ap Some same);
      becomes = c.swap_remove.ensures.becomes;
    }
