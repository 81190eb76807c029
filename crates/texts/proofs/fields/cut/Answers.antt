use Rattle.std.proofs.Common.{◌≡◌, eqb, sym, ◌∙◌, rules, tests}
use Rattle.std.proofs.lemmas.Iterator.{YieldsList-from_slice}
use Rattle.std.proofs.lemmas.Iterator.Search.{position_from_yields_List}
use Rattle.texts.proofs.Pieces.{found, uncut, cut_at}
use Rattle.texts.proofs.fields.cut.Goals as goal
use Rattle.texts.proofs.fields.cut.Goals.{After-position}

tab : (c : After-position) → c.position.result ≡ found 9 c.args.line.now
tab c = position_from_yields_List (λ x. eqb x 9) _ _ c.position.result c.position.ensures.ran (YieldsList-from_slice c.args.line.now c.iter.ensures.rest) (λ x b q k. search (rules, tests))

pub returns-in_err-at : goal.returns-in_err-at
returns-in_err-at c =
    let alone = uncut 9 c.args.line.now (sym (tab (goal.at.returns-in_err-at c).After-position) ∙ c.in_err-at.was) in
    rw c.from_residual.ensures alone

pub returns : goal.returns
returns c = cut_at 9 c.args.line.now c.in_ok-at.at (sym (tab (goal.at.returns c).After-position) ∙ c.in_ok-at.was)
