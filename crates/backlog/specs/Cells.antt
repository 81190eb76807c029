-- A list of held cells.
use Rattle.std.specs.Prelude.{◌≡◌, ℕ, ◌+◌, ◌≤◌, Bool, false, cond, List, [], ◌∷◌, Some, None, sum_by, Option, ◌==◌}
use Rattle.std.specs.List.{list_any}
use Rattle.scheduler.specs.Meaning.{due}
use Rattle.backlog.specs.declared.held.Held.{Held}

-- the slot in which it is due
abbrev pub due_of : Held → ℕ
due_of x = due x.cell.eligible.0 x.bound.0

-- whether it is the cell of a party and an eligible slot
abbrev pub is_cell : ℕ → ℕ → Held → Bool
is_cell p e x = cond (p == x.cell.party) (e == x.cell.eligible.0) false

-- the label of the cell of a party and an eligible slot, if it is held
abbrev pub held_in : List Held → ℕ → ℕ → Option ℕ
held_in [] p e = None
held_in (x ∷ xs) p e = cond (is_cell p e x) (Some x.cell.label) (held_in xs p e)

-- whether a cell of the party is held
abbrev pub holds_in : List Held → ℕ → Bool
holds_in xs p = list_any (λ x. p == x.cell.party) xs

-- 1 for the cell of a party and an eligible slot
abbrev pub at : ℕ → ℕ → Held → ℕ
at p e x = cond (is_cell p e x) 1 0

-- no two cells are of one party and one eligible slot
abbrev pub Single : List Held → Type 0
Single xs = (p e : ℕ) → sum_by (at p e) xs ≤ 1

-- ys has the cells of xs, in any order, but for the one taken: every sum over xs is that over ys and the one taken
abbrev pub Taken : List Held → Option Held → List Held → Type 0
Taken xs None ys = ys ≡ xs
Taken xs (Some x) ys = (f : Held → ℕ) → sum_by f ys + f x ≡ sum_by f xs
