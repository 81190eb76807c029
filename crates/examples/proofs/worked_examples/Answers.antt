use Rattle.std.proofs.Common.{refl}
use Rattle.examples.proofs.Shown.{worked}
use Rattle.examples.proofs.worked_examples.Goals as goal

pub returns : goal.returns
returns c = record { count = refl; shown = worked }
