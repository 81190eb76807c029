use Rattle.std.proofs.Common.{length, vec_items, Ok, ap, ◌∙◌}
use Rattle.texts.specs.Fields.{pieces}
use Rattle.texts.specs.declared.forms.PlanEntry.TheVariants.{Hop, Party}
use Rattle.texts.proofs.Ranges.{plan_line_ranged}
use Rattle.texts.proofs.plans.Draft.add_line.Goals as goal

pub add_hop-requires : goal.add_hop-requires
add_hop-requires c = plan_line_ranged (length (vec_items c.args.self.now.hops)) (pieces 9 c.args.text.now) (Hop c.in-Hop.hop) (c.in_ok-hop.ensures ∙ ap (λ e. Ok e) c.in-Hop.is)

pub add_party-requires : goal.add_party-requires
add_party-requires c = plan_line_ranged (length (vec_items c.args.self.now.hops)) (pieces 9 c.args.text.now) (Party c.in-Party.party) (c.in_ok-hop.ensures ∙ ap (λ e. Ok e) c.in-Party.is)
