-- The lines of a trace that was read.
use Rattle.std.specs.Prelude.{List, vec_items}
use Rattle.texts.specs.declared.forms.TraceLine.{TraceLine}
use Rattle.texts.specs.declared.traces.Trace.{Trace}

abbrev pub trace_lines : Trace → List TraceLine
trace_lines t = vec_items t.lines
