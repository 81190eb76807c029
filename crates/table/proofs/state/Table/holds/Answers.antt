use Rattle.std.proofs.Common.{is_some, sym, ap, ◌∙◌}
use Rattle.table.specs.Laws.{holds_is}
use Rattle.table.proofs.state.Table.holds.Goals as goal

pub returns : goal.returns
returns c = c.is_some.ensures ∙ ap is_some c.get.ensures.value ∙ sym (holds_is c.args.self.now c.args.party)
