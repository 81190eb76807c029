use Rattle.std.proofs.Common.{◌≡◌, Bool, true, false, not, is_none, sym, ap, refl, ◌∙◌}
use Rattle.std.specs.List.{list_all}
use Rattle.scheduler.specs.Meaning.{holds_any}
use Rattle.table.specs.declared.state.Table.{Table}
use Rattle.table.specs.Tables.{table_meaning}
use Rattle.table.specs.Laws.{busy_some, busy_none}
use Rattle.table.proofs.Labels.{some_label, no_label}
use Rattle.table.proofs.state.Table.busy.Goals as goal

busy_by : (x : Table) (b : Bool) → list_all is_none x.labels.entries ≡ b → not b ≡ holds_any (table_meaning x)
busy_by x false h = let q = some_label x.labels.entries h in sym (busy_some x q.0 q.1.0 q.1.1)
busy_by x true h = sym (busy_none x (no_label x.labels.entries h))

pub returns : goal.returns
returns c = ap not c.is_empty.ensures ∙ busy_by c.args.self.now _ refl
