use denote.Param.Always.{mut_total}
use Rattle.std.proofs.Common.{◌≡◌, ◌+◌, ℕ, List, Err, Result, sym, ap, ◌∙◌, subst, rules, tests}
use Rattle.std.proofs.lemmas.Iterator.Splits.{YieldsList-from_slice_split}
use Rattle.std.proofs.lemmas.Result.{err_from_is_err_and}
use Rattle.std.specs.Result.{result_ok}
use Rattle.cells.specs.declared.faults.Fault.{Fault}
use Rattle.cells.specs.declared.faults.Layer.TheVariants.{Plan}
use Rattle.texts.specs.Fields.{pieces}
use Rattle.texts.specs.Lines.{ToldBy, each_line, read_text, body_of}
use Rattle.texts.specs.Plans.{Layout, blank, draft_of, layout_of, lines_in, plan_step, plan_end, plan_of}
use Rattle.texts.proofs.Reading.{body_now, line_read, line_refused, plan_step_one}
use Rattle.texts.proofs.Turns.{turn, over}
use Rattle.texts.specs.Writing.{plan_written}
use Rattle.texts.proofs.Whole.{told_made, plan_written_lem}
use Rattle.texts.proofs.read_plan.read_plan.Goals as goal

-- the answer from a plan on, at its next line
abbrev from : Layout → List (List ℕ) → Result Layout Fault
from m ls = each_line Plan plan_step plan_end (lines_in m + 1) m ls

pub loop-text-init : goal.loop-text-init
loop-text-init c =
    let bs = c.in_ok-lines.lines.now in
    let gives = YieldsList-from_slice_split _ _ bs c.split-text-items.ensures.rest c.split-text-items.ensures.done c.split-text-items.ensures.closure (λ x r q k. search (rules, tests)) in
    let read = ap (read_text Plan plan_step plan_end blank) (body_now c.body.result c.in_ok-lines.lines (body_of c.args.text.now) c.body.ensures (c.ok_or.ensures.ok_part ∙ ap result_ok c.in_ok-lines.was)) in
    record { callable = mut_total _ _ (λ s a. tt); finite = tt; rest = record { left = pieces 10 bs; gives = rw c.into_iter-text-iterator.ensures.into_iter_gives gives; holds = read ∙ ap (λ m. from m (pieces 10 bs)) (sym c.new-draft.ensures) } }

pub loop-text-preserved : goal.loop-text-preserved
loop-text-preserved c =
    let i = c.loop-text.invariant.rest in
    let m = turn i.left i.gives c.in-Some.text c.next.new.self c.in-Some.ensures.steps in
    let goes = c.in-Some.ensures.goes.on c.loop-text.invariant.finite in
    let was = draft_of c.loop-text.draft in
    let now = draft_of c.take_line.new.self in
    let more = i.holds ∙ ap (from was) m.1.0 ∙ line_read Plan plan_step plan_end (lines_in was + 1) was now c.in-Some.text.now m.0 c.in_ok-take_line.ensures
    ∙ ap (λ n. each_line Plan plan_step plan_end (n + 1) now m.0) (sym (plan_step_one Plan (lines_in was + 1) was now c.in-Some.text.now c.in_ok-take_line.ensures)) in
    record { callable = goes.0; finite = goes.1; rest = record { left = m.0; gives = m.1.1; holds = more } }

pub returns-in_err-take_line-clause-told : goal.returns-in_err-take_line-clause-told
returns-in_err-take_line-clause-told c =
    let i = c.loop-text.invariant.rest in
    let m = turn i.left i.gives c.in-Some.text c.next.new.self c.in-Some.ensures.steps in
    let was = draft_of c.loop-text.draft in
    let told = line_refused Plan plan_step plan_end {X = Unit {0}} (λ _. draft_of c.take_line.new.self) layout_of (lines_in was + 1) was c.in-Some.text.now m.0 c.in_err-take_line.field-0.0 c.in_err-take_line.ensures in
    let p = err_from_is_err_and c.from_residual-in_err-take_line.result c.from_residual-in_err-take_line.ensures.1 in
    rw (p.1, p.2) (subst (λ o. ToldBy layout_of o (Err c.in_err-take_line.field-0.0)) (sym (i.holds ∙ ap (from was) m.1.0)) told)

pub returns : goal.returns
returns c =
    let bs = c.args.text.now in
    let i = c.loop-text.invariant.rest in
    let m = draft_of c.loop-text.draft in
    let whole = i.holds ∙ ap (from m) (over i.left i.gives c.next.new.self c.in-None.ensures.steps) in
    let told = subst (λ o. ToldBy layout_of o c.finish.result) (sym whole) c.finish.ensures in
    record { told = told; written = told_made layout_of (λ l. plan_written l ≡ bs) (plan_of bs) c.finish.result told (plan_written_lem bs) }
