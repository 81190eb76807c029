-- Why a line was not read, as why its text was not.
use Rattle.std.specs.Prelude.{ℕ}
use Rattle.cells.specs.Faults.{text_fault}
use Rattle.cells.specs.declared.faults.Cause.{Cause}
use Rattle.cells.specs.declared.faults.Fault.{Fault}
use Rattle.cells.specs.declared.faults.Layer.{Layer}
use Rattle.texts.specs.declared.refusals.Refusal.{Refusal}
use Rattle.texts.specs.declared.refusals.Refusal.TheVariants.{Faulty, NoMemory}

-- the refusal of a text whose line n was refused
abbrev pub refusal_in_line : Layer → ℕ → Refusal Cause → Refusal Fault
refusal_in_line y n (Faulty c) = Faulty (text_fault c y n)
refusal_in_line y n NoMemory = NoMemory
