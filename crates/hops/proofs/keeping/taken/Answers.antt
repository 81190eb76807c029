use Rattle.std.proofs.Common.{sym, ◌∙◌, rules}
use Rattle.hops.proofs.Tables.{took_map, took_none}
use Rattle.hops.proofs.keeping.taken.Goals as goal

pub returns-then-is_some : goal.returns-then-is_some
returns-then-is_some c = took_map _ c.args.label c.args.slot.0 _ c.map.result (sym c.is_some.ensures ∙ c.if-is_some.true) c.map.ensures.cases (λ x z h. search rules)

pub returns-else-is_some : goal.returns-else-is_some
returns-else-is_some c = took_none c.args.label _ _ (sym c.is_some.ensures ∙ c.if-is_some.false)
