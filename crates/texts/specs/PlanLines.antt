-- What one line of a plan says.
use Rattle.std.specs.Prelude.{ℕ, ◌-◌, Bool, cond, ◌&&◌, leb, List, [], ◌∷◌, ◌++◌, map, length, replicate, Some, None, Ok, Err, codes, Option, Result, ◌==◌, nat_le}
use Rattle.std.specs.List.{list_all}
use Rattle.std.specs.Str.{bytes_eq}
use Rattle.cells.specs.declared.faults.Cause.{Cause}
use Rattle.cells.specs.declared.faults.Cause.TheVariants.{LineForm, NumberOutOfRange}
use Rattle.cells.specs.declared.times.Span.{Span}
use Rattle.texts.specs.Fields.{numbers_of}
use Rattle.cells.specs.declared.makes.Make.{Make}
use Rattle.cells.specs.declared.makes.Make.TheVariants.{Edf, Sp, Table}
use Rattle.texts.specs.declared.forms.PlanEntry.{PlanEntry}
use Rattle.texts.specs.declared.forms.PlanEntry.TheVariants.{Hop, Party}

abbrev pub span : ℕ → Span
span n = record { 0 = n }

-- the makes by name
abbrev pub kind_of : List ℕ → Option Make
kind_of w =
    cond (bytes_eq w (codes "EDF")) (Some Edf) (cond (bytes_eq w (codes "SP")) (Some Sp) (cond (bytes_eq w (codes "TABLE")) (Some Table) None))

-- `HOP kind link`, behind its first word: the link is at most 63
abbrev pub hop_numbers : Make → List ℕ → Result PlanEntry Cause
hop_numbers k [] = Err LineForm
hop_numbers k (g ∷ []) = cond (nat_le g 63) (Ok (Hop (record { kind = k; link = span g }))) (Err NumberOutOfRange)
hop_numbers k (g ∷ h ∷ gs) = Err LineForm

abbrev pub hop_line : Option Make → Option (List ℕ) → Result PlanEntry Cause
hop_line None gs = Err LineForm
hop_line (Some k) None = Err LineForm
hop_line (Some k) (Some gs) = hop_numbers k gs

abbrev pub hop_fields : List (List ℕ) → Result PlanEntry Cause
hop_fields [] = Err LineForm
hop_fields (w ∷ fs) = hop_line (kind_of w) (numbers_of fs)

-- numbers that a plan may write as spacing or bound
abbrev pub terms : List ℕ → Bool
terms ds = list_all (λ d. leb d 65535) ds

-- the bounds, and 0 for each of the eight hops that the plan lacks
abbrev pub eight_of : List ℕ → List Span
eight_of ds = map span ds ++ replicate (8 - length ds) (span 0)

-- `PARTY number spacing bounds`, behind its first word: as many bounds as the plan has hops
abbrev pub party_numbers : ℕ → List ℕ → Result PlanEntry Cause
party_numbers hops [] = Err LineForm
party_numbers hops (p ∷ []) = Err LineForm
party_numbers hops (p ∷ s ∷ ds) =
    cond (length ds == hops) (cond (nat_le p 15 && (nat_le s 65535 && terms ds)) (Ok (Party (record { number = p; spacing = span s; bounds = eight_of ds }))) (Err NumberOutOfRange)) (Err LineForm)

abbrev pub party_fields : ℕ → Option (List ℕ) → Result PlanEntry Cause
party_fields hops None = Err LineForm
party_fields hops (Some ns) = party_numbers hops ns

-- a line after so many hops
abbrev pub plan_line : ℕ → List (List ℕ) → Result PlanEntry Cause
plan_line hops [] = Err LineForm
plan_line hops (w ∷ fs) =
    cond (bytes_eq w (codes "HOP")) (hop_fields fs) (cond (bytes_eq w (codes "PARTY")) (party_fields hops (numbers_of fs)) (Err LineForm))
