use Rattle.std.proofs.Common.{◌≡◌, ◌+◌}
use Rattle.cells.specs.declared.faults.Layer.TheVariants.{Plan}
use Rattle.texts.specs.Lines.{each_line}
use Rattle.texts.specs.Plans.{draft_of, lines_in, plan_step, plan_end, plan_of}
use Rattle.texts.proofs.Turns.{Gives}
use Rattle.texts.proofs.read_plan.read_plan.Given as goal

-- what is left of the lines gives the answer
abbrev pub invariant-loop-text : goal.invariant-loop-text
invariant-loop-text l = record {
  callable : (goal.iterator-loop-text).can_next l.text-iterator;
  finite : (goal.iterator-loop-text).is_finite l.text-iterator;
  rest : Gives (goal.iterator-loop-text).next_gives (λ x. x.now) l.text-iterator (λ ls. plan_of l.text ≡ each_line Plan plan_step plan_end (lines_in (draft_of l.draft) + 1) (draft_of l.draft) ls);
}
