use denote.Param.Always.{mut_total}
use Rattle.std.proofs.Common.{◌≡◌, ◌+◌, ◌≤◌, ℕ, eqb, false, List, [], Ok, Err, Result, length, sym, ap, ◌∙◌, subst, arith, rules, tests}
use Rattle.std.proofs.lemmas.Iterator.Splits.{YieldsList-from_slice_split}
use Rattle.std.proofs.lemmas.Bool.{cond-false}
use Rattle.std.proofs.lemmas.Result.{err_from_is_err_and}
use Rattle.std.specs.Result.{result_ok}
use Rattle.cells.specs.declared.faults.Fault.{Fault}
use Rattle.cells.specs.declared.faults.Layer.TheVariants.{Trace}
use Rattle.texts.specs.Fields.{pieces}
use Rattle.texts.specs.Lines.{ToldBy, each_line, read_text, body_of}
use Rattle.texts.specs.Plans.{layout_of}
use Rattle.texts.specs.TraceRead.{trace_lines}
use Rattle.texts.specs.Traces.{trace_step, trace_end, trace_of}
use Rattle.texts.specs.declared.forms.PlanParty.{PlanParty}
use Rattle.texts.specs.declared.forms.TraceLine.{TraceLine}
use Rattle.texts.proofs.Reading.{body_now, body_few, few_pieces, line_read, line_refused, trace_step_one}
use Rattle.texts.proofs.Turns.{turn, over}
use Rattle.texts.proofs.Whole.{trace_written_lem}
use Rattle.texts.proofs.read_trace.read_trace.Goals as goal

-- the answer from a trace on, at its next line
abbrev from : List PlanParty → List TraceLine → List (List ℕ) → Result (List TraceLine) Fault
from ps xs ls = each_line Trace (trace_step ps) trace_end (length xs + 1) xs ls

pub loop-text-init : goal.loop-text-init
loop-text-init c =
    let ps = (layout_of c.args.plan.now).parties in
    let bs = c.in_ok-lines.lines.now in
    let found = body_now c.body.result c.in_ok-lines.lines (body_of c.args.text.now) c.body.ensures (c.ok_or.ensures.ok_part ∙ ap result_ok c.in_ok-lines.was) in
    let read = ap (read_text Trace (trace_step ps) trace_end []) found in
    let some : eqb (length c.args.text.now) 0 ≡ false = search rules in
    let first : trace_of ps c.args.text.now ≡ from ps (trace_lines c.new-follow.result.trace) (pieces 10 bs) = cond-false (eqb (length c.args.text.now) 0) _ _ some ∙ read ∙ ap (λ xs. from ps xs (pieces 10 bs)) (sym c.new-follow.ensures) in
    let few : length (trace_lines c.new-follow.result.trace) + length (pieces 10 bs) ≤ 40000 = omega (arith, ap (λ ls. length ls) c.new-follow.ensures, few_pieces 10 bs, body_few c.args.text.now bs found) in
    let gives = YieldsList-from_slice_split _ _ bs c.split-text-items.ensures.rest c.split-text-items.ensures.done c.split-text-items.ensures.closure (λ x r q k. search (rules, tests)) in
    record { callable = mut_total _ _ (λ s a. tt); finite = tt; rest = record { left = pieces 10 bs; gives = rw c.into_iter-text-iterator.ensures.into_iter_gives gives; holds = (first, few) } }

pub loop-text-preserved : goal.loop-text-preserved
loop-text-preserved c =
    let ps = (layout_of c.args.plan.now).parties in
    let i = c.loop-text.invariant.rest in
    let m = turn i.left i.gives c.in-Some.text c.next.new.self c.in-Some.ensures.steps in
    let goes = c.in-Some.ensures.goes.on c.loop-text.invariant.finite in
    let was = trace_lines c.loop-text.follow.trace in
    let now = trace_lines c.take_line.new.self.trace in
    let one = trace_step_one Trace (length was + 1) ps was now c.in-Some.text.now c.in_ok-take_line.ensures in
    let more = i.holds.0 ∙ ap (from ps was) m.1.0 ∙ line_read Trace (trace_step ps) trace_end (length was + 1) was now c.in-Some.text.now m.0 c.in_ok-take_line.ensures
    ∙ ap (λ n. each_line Trace (trace_step ps) trace_end (n + 1) now m.0) (sym one) in
    let few : length now + length m.0 ≤ 40000 = omega (arith, one, i.holds.1, ap (λ ls. length ls) m.1.0) in
    record { callable = goes.0; finite = goes.1; rest = record { left = m.0; gives = m.1.1; holds = (more, few) } }

pub take_line-requires : goal.take_line-requires
take_line-requires c = omega (arith, c.loop-text.invariant.rest.holds.1)

pub returns-in_err-take_line-clause-told : goal.returns-in_err-take_line-clause-told
returns-in_err-take_line-clause-told c =
    let ps = (layout_of c.args.plan.now).parties in
    let i = c.loop-text.invariant.rest in
    let m = turn i.left i.gives c.in-Some.text c.next.new.self c.in-Some.ensures.steps in
    let was = trace_lines c.loop-text.follow.trace in
    let told = line_refused Trace (trace_step ps) trace_end {X = Unit {0}} (λ _. trace_lines c.take_line.new.self.trace) trace_lines (length was + 1) was c.in-Some.text.now m.0 c.in_err-take_line.field-0.0 c.in_err-take_line.ensures in
    let p = err_from_is_err_and c.from_residual-in_err-take_line.result c.from_residual-in_err-take_line.ensures.1 in
    rw (p.1, p.2) (subst (λ o. ToldBy trace_lines o (Err c.in_err-take_line.field-0.0)) (sym (i.holds.0 ∙ ap (from ps was) m.1.0)) told)

pub returns-then-is_empty-clause-written : goal.returns-then-is_empty-clause-written
returns-then-is_empty-clause-written c =
    let bs = c.args.text.now in
    let ps = (layout_of c.args.plan.now).parties in
    let told : trace_of ps bs ≡ Ok (trace_lines c.finish.result) = search rules in
    trace_written_lem ps bs (trace_lines c.finish.result) told

pub returns : goal.returns
returns c =
    let bs = c.args.text.now in
    let ps = (layout_of c.args.plan.now).parties in
    let i = c.loop-text.invariant.rest in
    let xs = trace_lines c.loop-text.follow.trace in
    let told : trace_of ps bs ≡ Ok (trace_lines c.finish-2.result) = i.holds.0 ∙ ap (from ps xs) (over i.left i.gives c.next.new.self c.in-None.ensures.steps) ∙ ap (λ ls. Ok ls) (sym c.finish-2.ensures) in
    record { told = told; written = trace_written_lem ps bs (trace_lines c.finish-2.result) told }
