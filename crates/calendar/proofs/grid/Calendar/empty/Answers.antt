use Rattle.std.proofs.Common.{refl}
use Rattle.calendar.proofs.Grids.{label_none}
use Rattle.calendar.proofs.Waits.{waiting_none}
use Rattle.calendar.proofs.grid.Calendar.empty.Goals as goal

pub returns : goal.returns
returns c = record { slot = refl; cells = waiting_none _ (label_none 192) }
