-- The first held cell in the order of serving.
use Rattle.std.specs.Prelude.{◌≡◌, ℕ, ◌+◌, ◌<◌, ◌≤◌, true, false, cond, List, Some, None, sum_by, Option, nat_lt, slice_index_or}
use Rattle.std.proofs.Common.{sym, ap, subst, inl, inr, arith}
use Rattle.std.proofs.lemmas.List.Sums.{sum_by-le-sum_by}
use Rattle.std.proofs.lemmas.Bool.{cases_Bool, cases_lt}
use Rattle.std.proofs.lemmas.Bool.Decides.{nat_tests}
use Rattle.order.specs.First.{foremost}
use Rattle.order.proofs.Foremost.{foremost_at}
use Rattle.scheduler.specs.declared.terms.Contract.{Contract}
use Rattle.scheduler.specs.Tables.{bound_or}
use Rattle.backlog.specs.declared.held.Held.{Held}
use Rattle.backlog.specs.Cells.{held_in, at}
use Rattle.backlog.proofs.HeldCells.{held_foremost}
use Rattle.demand.specs.Cells.{meaning_of, cell_of, stray, Orderly}
use Rattle.demand.proofs.Sums.{each_le_add, sum_zero}
use Rattle.demand.proofs.Firsts.{foremost_none, foremost_least}
use Rattle.demand.proofs.Keeps.{held_some, bound_at}
use Rattle.sp.specs.Levels.{level, below_then, level_of, precedes}
use Rattle.sp.specs.Ends.{low}
use Rattle.sp.specs.Served.{goes_before, GoesFirst}

-- the order of serving is one
pub asymmetric : (x y : Held) → precedes x y ≡ true → precedes y x ≡ false
asymmetric x y h = grind (arith, nat_tests)

pub transitive : (x y z : Held) → precedes x y ≡ false → precedes y z ≡ false → precedes x z ≡ false
transitive x y z h k = grind (arith, nat_tests)

-- 1 for a cell that comes before x
abbrev before : Held → Held → ℕ
before x y = cond (precedes y x) 1 0

-- none comes before the first
none_before : (xs : List Held) (x : Held) → foremost precedes xs ≡ Some x → sum_by (before x) xs ≡ 0
none_before xs x first = sum_zero (before x) xs x (λ i h. ap (λ b. cond b 1 0) (foremost_least precedes asymmetric transitive xs x first i x h))

low_before : (l : ℕ) (x y : Held) → l < level_of x → low l y ≤ before x y
low_before l x y h = grind (arith, nat_tests)

-- the first is of the lowest level held
pub lowest : (xs : List Held) (x : Held) (l : ℕ) → foremost precedes xs ≡ Some x → 1 ≤ sum_by (low l) xs → level_of x ≤ l
lowest xs x l first some =
    elim (cases_lt l (level_of x)) [
      | inl h ↦
          let none = none_before xs x first in
          let less = sum_by-le-sum_by (low l) (before x) xs (λ y. low_before l x y h) in
          absurd (omega arith)
      | inr h ↦ h
    ]

-- a cell of a party and eligible slot that goes before x, under the bound of its contract
at_before : (p e d : ℕ) (x y : Held) → below_then (level d) (level_of x) (below_then e x.cell.eligible.0 (nat_lt p x.cell.party)) ≡ true → at p e y ≤ before x y + stray p d y
at_before p e d x y t = grind (arith, nat_tests)

-- it is the cell that goes first, said of what is meant
pub goes_first : (t : ℕ) (cs : List (Option Contract)) (xs : List Held) (o : Option Held) → Orderly cs xs → foremost precedes xs ≡ o → GoesFirst (meaning_of t cs xs) (cell_of o)
goes_first t cs xs None v first = λ p e. ap (λ ys. held_in ys p e) (foremost_none precedes xs first)
goes_first t cs xs (Some x) v first = (held_foremost precedes xs x v.single first, λ p e l h. none p e l h)
  where
    -- it is held under its contract's bound
    under : x.bound.0 ≡ bound_or (slice_index_or cs x.cell.party None)
    under =
        let i = foremost_at precedes xs x x first in
        subst (λ y. y.bound.0 ≡ bound_or (slice_index_or cs y.cell.party None)) i.2 (bound_at cs xs i.0 x v i.1)

    none : (p e l : ℕ) → held_in xs p e ≡ Some l → goes_before (meaning_of t cs xs) p e x.cell.party x.cell.eligible.0 ≡ false
    none p e l h =
        let d = bound_or (slice_index_or cs p None) in
        elim (cases_Bool (goes_before (meaning_of t cs xs) p e x.cell.party x.cell.eligible.0)) [
          | inl b ↦
              let own = subst (λ n. below_then (level d) (level n) (below_then e x.cell.eligible.0 (nat_lt p x.cell.party)) ≡ true) (sym under) b in
              let less = each_le_add (at p e) (before x) (stray p d) (λ y. at_before p e d x y own) xs in
              let some = held_some p e l xs h in
              let zero = none_before xs x first in
              let all = v.agreed p in
              absurd (omega arith)
          | inr b ↦ b
        ]
