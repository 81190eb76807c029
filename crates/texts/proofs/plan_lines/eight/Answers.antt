use Rattle.std.proofs.Common.{get_or, set, ap, ◌∙◌, arith}
use Rattle.texts.specs.PlanLines.{span}
use Rattle.texts.proofs.Terms.{filled_none, filled_more, filled_all, term_at}
use Rattle.texts.proofs.plan_lines.eight.Goals as goal

pub loop-i-init : goal.loop-i-init
loop-i-init c = filled_none c.args.bounds.now

pub overflow_cast-all : goal.overflow_cast-all
overflow_cast-all c = omega (arith, term_at c.args.bounds.now c.loop-i.i c.requires.small c.loop-i-test.true)

pub loop-i-preserved : goal.loop-i-preserved
loop-i-preserved c =
    ap (λ ys. set ys c.loop-i.i (span (get_or c.args.bounds.now c.loop-i.i 0))) c.loop-i.invariant
    ∙ filled_more c.args.bounds.now c.loop-i.i c.loop-i-test.true c.requires.few

pub returns : goal.returns
returns c = c.loop-i.invariant ∙ filled_all c.args.bounds.now c.loop-i.i c.loop-i-test.false (omega arith)
