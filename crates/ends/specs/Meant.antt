-- What the end of a path means.
use Rattle.calendar.specs.Days.{now_of, waiting_of}
use Rattle.paths.specs.Route.{Route}
use Rattle.ends.specs.declared.end.End.{End}
use Rattle.ends.specs.Ends.{trail_of, route_of}

-- what the end means
abbrev pub end_route : End → Route
end_route x = route_of (now_of x.waiting) x.first (trail_of x.trails) (waiting_of x.waiting)
