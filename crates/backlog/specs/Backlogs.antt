-- What a backlog holds.
use Rattle.std.specs.Prelude.{List, take}
use Rattle.backlog.specs.declared.held.Held.{Held}
use Rattle.backlog.specs.declared.places.Backlog.{Backlog}

-- the held cells, by place
abbrev pub cells_of : Backlog → List Held
cells_of b = take b.count b.places
