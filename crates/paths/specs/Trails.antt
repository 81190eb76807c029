-- What a trail says of a party's cells that wait.
use Rattle.std.specs.Prelude.{◌≡◌, ℕ, ◌+◌, ◌≤◌, Bool, true, false, cond, ◌⊎◌, is_some, Some, None, Option, nat_lt}
use Rattle.cells.specs.declared.faults.Cause.TheVariants.{TooSoon, EligibleOutOfWindow}
use Rattle.cells.specs.declared.faults.Fault.{Fault}
use Rattle.cells.specs.declared.times.Slot.{Slot}
use Rattle.scheduler.specs.Meaning.{some_below}
use Rattle.paths.specs.Route.{Route, Terms, Place}
use Rattle.paths.specs.Verdicts.{fault, refused_if, out_of_window, within}
use Rattle.paths.specs.declared.trail.Trail.{Trail}

-- slot e comes sooner than s slots after a slot, if there is one
abbrev pub follows : Option Slot → ℕ → ℕ → Bool
follows None s e = false
follows (Some t) s e = nat_lt e (t.0 + s)

-- a cell that waits is less than s slots from slot e
unfoldable pub waits_near : (ℕ → Option ℕ) → ℕ → ℕ → Bool
waits_near w s e = some_below (e + s) (λ a. cond (within s e a) (is_some (w a)) false)

-- whether a cell that is eligible in slot e comes less than a spacing from another: later than all by as much it does not; near the latest it does; and
-- else the last that was taken and those that wait decide
abbrev pub crowding : Option Slot → Option Slot → ℕ → (ℕ → Option ℕ) → ℕ → Bool
crowding None last s w e = false
crowding (Some a) last s w e = cond (nat_lt e (a.0 + s)) (cond (nat_lt a.0 (e + s)) true (cond (follows last s e) true (waits_near w s e))) false

-- an arrival of party p by its trail, in slot n, eligible in slot e, where w waits
abbrev pub arrival_by : Trail → (ℕ → Option ℕ) → ℕ → ℕ → ℕ → Option Fault
arrival_by y w n p e =
    refused_if (out_of_window n y.lead.0 e) (fault EligibleOutOfWindow p 255)
    (refused_if (crowding y.latest y.last y.spacing.0 w e) (fault TooSoon p 255) None)

-- whether a cell of the trail is still on the path in slot n, c slots of path after its eligible slot
abbrev pub still : Option Slot → ℕ → ℕ → Bool
still None c n = false
still (Some a) c n = cond (nat_lt (a.0 + c) n) false true

-- no cell of the party, nor its last delivery, is later than slot a, and the one of slot a is on the path or was delivered last
pub record Until (r : Route) (t : Terms) (p a : ℕ) : Type 0 where
  pub cells : (v : ℕ) (x : Place) → r.cells p v ≡ Some x → v ≤ a
  pub last : (u : ℕ) → t.last ≡ Some u → u ≤ a
  pub known : (is_some (r.cells p a) ≡ true) ⊎ (t.last ≡ Some a)

-- the latest slot in which a cell of the party that entered was eligible, c slots before it leaves: none where there never was one
abbrev pub Newest : Route → Terms → ℕ → ℕ → Option Slot → Type 0
Newest r t p c None = ((v : ℕ) → r.cells p v ≡ None) × (t.last ≡ None)
Newest r t p c (Some a) = Until r t p (a.0 + c)
