use Rattle.std.proofs.Common.{◌≡◌, length, refl, ap, ◌∙◌, arith, rules, tests}
use Rattle.std.proofs.lemmas.Iterator.{YieldsList-from_slice}
use Rattle.std.proofs.lemmas.Iterator.Adapters.{fits_from_length, at_most_from_yields_List}
use Rattle.demand.proofs.totals.total.Goals as goal

pub sum-requires-clause-fits : goal.sum-requires-clause-fits
sum-requires-clause-fits g c =
    let whole : length c.map.result.iter.rest.now ≡ 16 = ap (λ i. length i.rest.now) c.map.ensures.source ∙ ap length (c.iter.ensures.rest ∙ c.contracts.ensures) ∙ c.args.register.now.whole in
    fits_from_length _ _ 16 _ (at_most_from_yields_List (YieldsList-from_slice _ refl) (omega arith)) c.map.ensures.closure (omega arith) (λ x r q k. search (rules, tests))
