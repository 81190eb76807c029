-- What a plan's text says, as a whole.
use Rattle.std.specs.Prelude.{ℕ, ◌+◌, Bool, cond, not, ◌&&◌, List, [], ◌∷◌, ◌++◌, length, Ok, Err, vec_items, Result, ◌==◌, nat_lt}
use Rattle.cells.specs.declared.faults.Cause.{Cause}
use Rattle.cells.specs.declared.faults.Cause.TheVariants.{LinePlace}
use Rattle.cells.specs.declared.faults.Fault.{Fault}
use Rattle.cells.specs.declared.faults.Layer.TheVariants.{Plan}
use Rattle.texts.specs.Fields.{pieces}
use Rattle.texts.specs.Lines.{and_then, body_of, read_text}
use Rattle.texts.specs.Parties.{listed}
use Rattle.texts.specs.PlanLines.{plan_line}
use Rattle.texts.specs.declared.forms.PlanHop.{PlanHop}
use Rattle.texts.specs.declared.forms.PlanParty.{PlanParty}
use Rattle.texts.specs.declared.forms.PlanEntry.{PlanEntry}
use Rattle.texts.specs.declared.forms.PlanEntry.TheVariants.{Hop, Party}
use Rattle.texts.specs.declared.plans.Draft.{Draft}
use Rattle.texts.specs.declared.plans.Plan.{Plan as PlanRead}

-- the hops and the parties of a plan, in the order of their lines
pub record Layout : Type 0 where
  pub hops : List PlanHop
  pub parties : List PlanParty

abbrev pub draft_of : Draft → Layout
draft_of d = record { hops = vec_items d.hops; parties = vec_items d.parties }

abbrev pub layout_of : PlanRead → Layout
layout_of p = draft_of p.draft

abbrev pub blank : Layout
blank = record { hops = []; parties = [] }

-- a hop stands before every party, and is one of eight at most; a party has no line yet
abbrev pub placed : Layout → PlanEntry → Bool
placed m (Hop h) = nat_lt (length m.hops) 8 && length m.parties == 0
placed m (Party p) = nat_lt (length m.parties) 16 && not (listed p.number m.parties)

abbrev pub added : Layout → PlanEntry → Layout
added m (Hop h) = record { hops = m.hops ++ h ∷ []; parties = m.parties }
added m (Party p) = record { hops = m.hops; parties = m.parties ++ p ∷ [] }

-- a line: its form and ranges, then its place
abbrev pub added_line : Layout → PlanEntry → Result Layout Cause
added_line m e = cond (placed m e) (Ok (added m e)) (Err LinePlace)

abbrev pub plan_step : Layout → List ℕ → Result Layout Cause
plan_step m l = and_then (plan_line (length m.hops) (pieces 9 l)) (added_line m)

-- a plan has a hop and a party
abbrev pub plan_end : Layout → Result Layout Cause
plan_end m = cond (nat_lt 0 (length m.hops) && nat_lt 0 (length m.parties)) (Ok m) (Err LinePlace)

-- what the text of a plan says
abbrev pub plan_of : List ℕ → Result Layout Fault
plan_of bs = read_text Plan plan_step plan_end blank (body_of bs)

-- how many lines a plan has
abbrev pub lines_in : Layout → ℕ
lines_in m = length m.hops + length m.parties
