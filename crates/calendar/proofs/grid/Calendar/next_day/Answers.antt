use Rattle.std.proofs.Common.{◌∙◌}
use Rattle.calendar.proofs.Waits.{waiting_first, waiting_next}
use Rattle.calendar.proofs.grid.Calendar.next_day.Goals as goal

pub returns : goal.returns
returns c =
    let s = c.args.self.now in
    record {
      answer = λ p. c.take-row.ensures.answer p ∙ waiting_first s c.day_of.result p c.day_of.ensures;
      slot = c.following-self.ensures;
      cells = waiting_next s _ c.day_of.result c.following-self.ensures c.day_of.ensures c.take-row.ensures.empty;
    }
