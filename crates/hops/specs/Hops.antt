-- A hop, by its parts.
use Rattle.calendar.specs.Days.{waiting_of}
use Rattle.scheduler.specs.Meaning.{Meaning}
use Rattle.paths.specs.Route.{Route}
use Rattle.hops.specs.declared.hop.Hop.{Hop}
use Rattle.hops.specs.Crossed.{crossings_of}
use Rattle.hops.specs.Joined.{Parts, parts, joined}

-- the parts of a hop, by what its scheduler and the path behind mean
abbrev pub parts_of : {S P : Type 0} {s : _} {p : _} → (S → Meaning) → (P → Route) → Hop S P s p → Parts
parts_of m r h = parts h.number h.link.0 (m h.scheduler) (waiting_of h.waiting) (crossings_of h.crossings) (r h.behind)

-- what a hop means
abbrev pub hop_route : {S P : Type 0} {s : _} {p : _} → (S → Meaning) → (P → Route) → Hop S P s p → Route
hop_route m r h = joined (parts_of m r h)
