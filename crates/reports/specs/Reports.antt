-- What is said of a plan and a trace that were read, and of a fault.
use Rattle.std.specs.Prelude.{ℕ, ◌+◌, cond, List, [], ◌∷◌, ◌++◌, sum_by, Ok, Err, codes, Result, ◌==◌}
use Rattle.std.specs.List.{zip, enumerate_from, flat_map}
use Rattle.cells.specs.Faults.{field, fault_text}
use Rattle.cells.specs.declared.faults.Fault.{Fault}
use Rattle.cells.specs.declared.times.Span.{Span}
use Rattle.texts.specs.Lines.{and_then}
use Rattle.cells.specs.Makes.{make_name}
use Rattle.texts.specs.Plans.{Layout, plan_of}
use Rattle.texts.specs.Traces.{trace_of}
use Rattle.texts.specs.declared.forms.PlanHop.{PlanHop}
use Rattle.texts.specs.declared.forms.PlanParty.{PlanParty}
use Rattle.texts.specs.declared.forms.TraceLine.{TraceLine}

-- bound and link of a hop that is crossed, one whose bound is not 0
abbrev pub hop_share : PlanHop → Span → ℕ
hop_share h d = cond (d.0 == 0) 0 (d.0 + h.link.0)

-- the sum of bound and link over the hops that are crossed
abbrev pub crossing_sum : List PlanHop → List Span → ℕ
crossing_sum hs ds = sum_by (λ p. hop_share p.0 p.1) (zip hs ds)

-- `HOP index kind link`
abbrev pub hop_text : ℕ → PlanHop → List ℕ
hop_text i h = codes "HOP" ++ (field i ++ (9 ∷ (make_name h.kind ++ (field h.link.0 ++ 10 ∷ []))))

-- `PARTY number sum`
abbrev pub party_text : List PlanHop → PlanParty → List ℕ
party_text hs p = codes "PARTY" ++ (field p.number ++ (field (crossing_sum hs p.bounds) ++ 10 ∷ []))

-- `LINE party slot label`
abbrev pub line_text : TraceLine → List ℕ
line_text l = codes "LINE" ++ (field l.party ++ (field l.slot.0 ++ (field l.label ++ 10 ∷ [])))

-- the hops with their numbers, then the parties, then the trace
abbrev pub said : Layout → List TraceLine → List ℕ
said m ls = flat_map (λ p. hop_text p.0 p.1) (enumerate_from 0 m.hops) ++ (flat_map (party_text m.hops) m.parties ++ flat_map line_text ls)

-- what the texts of a plan and a trace say: the first fault, the plan's before the trace's; or what is said of them
abbrev pub told : List ℕ → List ℕ → Result (List ℕ) Fault
told plan trace = and_then (plan_of plan) (λ m. and_then (trace_of m.parties trace) (λ ls. Ok (said m ls)))

-- a fault as a line of its own
abbrev pub reported : Result (List ℕ) Fault → List ℕ
reported (Ok text) = text
reported (Err f) = fault_text f ++ 10 ∷ []

abbrev pub report_of : List ℕ → List ℕ → List ℕ
report_of plan trace = reported (told plan trace)
