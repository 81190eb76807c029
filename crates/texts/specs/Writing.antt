-- How a plan and a trace are written: what was read, as the one text that says it.
use Rattle.std.specs.Prelude.{ℕ, List, [], ◌∷◌, ◌++◌, map, length, take, codes, decimal}
use Rattle.std.specs.List.{flat_map}
use Rattle.cells.specs.Faults.{field}
use Rattle.cells.specs.Makes.{make_name}
use Rattle.texts.specs.Plans.{Layout}
use Rattle.texts.specs.declared.forms.PlanHop.{PlanHop}
use Rattle.texts.specs.declared.forms.PlanParty.{PlanParty}
use Rattle.texts.specs.declared.forms.TraceLine.{TraceLine}

-- numbers, a tab before each
abbrev pub tabbed : List ℕ → List ℕ
tabbed [] = []
tabbed (n ∷ ns) = field n ++ tabbed ns

abbrev pub hop_written : PlanHop → List ℕ
hop_written h = codes "HOP" ++ (9 ∷ (make_name h.kind ++ (field h.link.0 ++ 10 ∷ [])))

-- with the bounds of so many hops
abbrev pub party_written : ℕ → PlanParty → List ℕ
party_written k p = codes "PARTY" ++ (tabbed (p.number ∷ p.spacing.0 ∷ map (λ d. d.0) (take k p.bounds)) ++ 10 ∷ [])

abbrev pub line_written : TraceLine → List ℕ
line_written l = decimal l.party ++ (tabbed (l.slot.0 ∷ l.label ∷ []) ++ 10 ∷ [])

-- the hops' lines, then the parties'
abbrev pub plan_written : Layout → List ℕ
plan_written m = flat_map hop_written m.hops ++ flat_map (party_written (length m.hops)) m.parties

abbrev pub trace_written : List TraceLine → List ℕ
trace_written ls = flat_map line_written ls
