-- What belongs to the make that a switch behaves as, and what does not.
use Rattle.std.specs.Prelude.{◌≡◌}
use Rattle.cells.specs.declared.makes.Make.{Make}
use Rattle.cells.specs.declared.makes.Make.TheVariants.{Edf, Sp, Table}
use Rattle.switch.specs.declared.state.Switch.{Switch}

-- what belongs to the make, of what belongs to EDF, to SP and to TABLE
abbrev pub pick : {X : Type 0} → Make → X → X → X → X
pick Edf edf sp table = edf
pick Sp edf sp table = sp
pick Table edf sp table = table

-- the same of a switch, from what belongs to a scheduler of each make
abbrev pub of_make : {E S T X : Type 0} → (E → X) → (S → X) → (T → X) → Switch E S T → X
of_make edf sp table x = pick x.make (edf x.edf) (sp x.sp) (table x.table)

-- the two makes that a switch does not behave as are left as they were: each before and after
abbrev pub Aside : {E S T : Type 0} → Make → E → E → S → S → T → T → Type 0
Aside Edf edf edf' sp sp' table table' = (sp' ≡ sp) × (table' ≡ table)
Aside Sp edf edf' sp sp' table table' = (edf' ≡ edf) × (table' ≡ table)
Aside Table edf edf' sp sp' table table' = (edf' ≡ edf) × (sp' ≡ sp)
