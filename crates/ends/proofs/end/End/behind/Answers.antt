use Rattle.ends.proofs.Outcomes.{end_fresh}
use Rattle.ends.proofs.end.End.behind.Goals as goal

pub invariant_of-result : goal.invariant_of-result
invariant_of-result c = record { tracked = (end_fresh c.args.first c.new.result (record { parties = c.new-2.result }) c.requires c.new.ensures.slot c.new.ensures.cells c.new-2.ensures).tracked }

pub returns : goal.returns
returns c = (end_fresh c.args.first c.new.result (record { parties = c.new-2.result }) c.requires c.new.ensures.slot c.new.ensures.cells c.new-2.ensures).route
