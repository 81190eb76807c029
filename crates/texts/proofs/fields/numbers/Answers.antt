use denote.Param.Always.{mut_total}
use Rattle.std.proofs.Common.{vec_items, sym, ap, ◌∙◌, rules, tests}
use Rattle.std.proofs.lemmas.Iterator.Splits.{YieldsList-from_slice_split}
use Rattle.texts.specs.Fields.{pieces, numbers_of}
use Rattle.texts.proofs.Sequences.{onto, onto_nil, one_more, not_one, all_read}
use Rattle.texts.proofs.Turns.{turn, over}
use Rattle.texts.proofs.fields.numbers.Goals as goal

pub loop-field-init : goal.loop-field-init
loop-field-init c =
    let fs = c.args.fields.now in
    let gives = YieldsList-from_slice_split _ _ fs c.split-field-items.ensures.rest c.split-field-items.ensures.done c.split-field-items.ensures.closure (λ x r q k. search (rules, tests)) in
    record { callable = mut_total _ _ (λ s a. tt); finite = tt; rest = record { left = pieces 9 fs; gives = rw c.into_iter-field-iterator.ensures.into_iter_gives gives; holds = onto_nil _ ∙ ap (λ xs. onto xs (numbers_of (pieces 9 fs))) (sym c.new-all.ensures.items) } }

pub returns-in_default : goal.returns-in_default
returns-in_default c =
    let i = c.loop-field.invariant.rest in
    let m = turn i.left i.gives c.in-Some.field c.next.new.self c.in-Some.ensures.steps in
    let all = vec_items c.loop-field.all in
    sym (i.holds ∙ ap (λ fs. onto all (numbers_of fs)) m.1.0 ∙ not_one all c.in-Some.field.now m.0 c.in_default.ensures)

pub loop-field-preserved : goal.loop-field-preserved
loop-field-preserved c =
    let i = c.loop-field.invariant.rest in
    let m = turn i.left i.gives c.in-Some.field c.next.new.self c.in-Some.ensures.steps in
    let all = vec_items c.loop-field.all in
    let more = i.holds ∙ ap (λ fs. onto all (numbers_of fs)) m.1.0 ∙ one_more all c.in-Some-number.n c.in-Some.field.now m.0 c.in-Some-number.ensures ∙ ap (λ xs. onto xs (numbers_of m.0)) (sym c.in_ok-push.ensures.items) in
    let goes = c.in-Some.ensures.goes.on c.loop-field.invariant.finite in
    record { callable = goes.0; finite = goes.1; rest = record { left = m.0; gives = m.1.1; holds = more } }

pub returns : goal.returns
returns c =
    let i = c.loop-field.invariant.rest in
    let all = vec_items c.loop-field.all in
    sym (i.holds ∙ ap (λ fs. onto all (numbers_of fs)) (over i.left i.gives c.next.new.self c.in-None.ensures.steps) ∙ all_read all)
