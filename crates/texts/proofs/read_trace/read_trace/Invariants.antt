use Rattle.std.proofs.Common.{◌≡◌, ◌+◌, ◌≤◌, length}
use Rattle.cells.specs.declared.faults.Layer.TheVariants.{Trace}
use Rattle.texts.specs.Lines.{each_line}
use Rattle.texts.specs.Plans.{layout_of}
use Rattle.texts.specs.TraceRead.{trace_lines}
use Rattle.texts.specs.Traces.{trace_step, trace_end, trace_of}
use Rattle.texts.proofs.Turns.{Gives}
use Rattle.texts.proofs.read_trace.read_trace.Given as goal

-- what is left of the lines gives the answer; and the lines are no more than the bytes
abbrev pub invariant-loop-text : goal.invariant-loop-text
invariant-loop-text l = record {
  callable : (goal.iterator-loop-text).can_next l.text-iterator;
  finite : (goal.iterator-loop-text).is_finite l.text-iterator;
  rest : Gives (goal.iterator-loop-text).next_gives (λ x. x.now) l.text-iterator (λ ls.
      (trace_of (layout_of l.plan).parties l.text ≡ each_line Trace (trace_step (layout_of l.plan).parties) trace_end (length (trace_lines l.follow.trace) + 1) (trace_lines l.follow.trace) ls)
      × (length (trace_lines l.follow.trace) + length ls ≤ 40000));
}
