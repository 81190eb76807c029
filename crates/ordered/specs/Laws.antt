-- What holds of every discipline.
use Rattle.std.specs.Prelude.{◌≡◌, ℕ, ◌+◌, ◌<◌, ◌≤◌, Bool, true, false, List, [], ◌∷◌, ◌++◌, length, Some, None, sum_by, Option, slice_index_or, slice_set}
use Rattle.cells.specs.declared.faults.Cause.{Cause}
use Rattle.order.specs.First.{foremost}
use Rattle.scheduler.specs.declared.terms.Cell.{Cell}
use Rattle.scheduler.specs.declared.terms.Contract.{Contract}
use Rattle.scheduler.specs.Meaning.{Meaning, agreed, stamped}
use Rattle.scheduler.specs.Tables.{spacing_or, bound_or}
use Rattle.backlog.specs.declared.held.Held.{Held}
use Rattle.backlog.specs.Cells.{holds_in, Taken}
use Rattle.demand.specs.Cells.{meaning_of, cell_of, due_before, Orderly, Puts}
use Rattle.demand.specs.Totals.{total_of, places}
use Rattle.ordered.specs.States.{Sound}

-- spacings and bounds are at least 1
abbrev pub Spaced : List (Option Contract) → Type 0
Spaced cs = (p : ℕ) → 1 ≤ spacing_or (slice_index_or cs p None)

abbrev pub Bounded : List (Option Contract) → Type 0
Bounded cs = (p : ℕ) → 1 ≤ bound_or (slice_index_or cs p None)

module _ (verdict : List (Option Contract) → Option Cause) (asks : ℕ → ℕ → ℕ → ℕ) (limit : ℕ → ℕ) where
  -- contracts that pass the test find places for their cells, and stay within the limit of each condition
  abbrev pub Tests : Type 0
  Tests = (cs : List (Option Contract)) → Spaced cs → Bounded cs → verdict cs ≡ None → (total_of places cs ≤ 128) × ((n : ℕ) → total_of (asks n) cs ≤ limit n)

-- a contract that stands alone passes
abbrev pub Alone : (List (Option Contract) → Option Cause) → Type 0
Alone verdict = (cs : List (Option Contract)) (p s d : ℕ) → length cs ≡ 16 → ((q : ℕ) → slice_index_or cs q None ≡ None) → p ≤ 15 → 1 ≤ s → 1 ≤ d → d ≤ 128 → verdict (slice_set cs p (Some (agreed s d))) ≡ None

module _ (asks : ℕ → ℕ → ℕ → ℕ) (limit : ℕ → ℕ) (keeps : ℕ → ℕ → List (Option Contract) → List Held → Bool) where
  -- each condition is kept where nothing is held
  abbrev pub KeptIdle : Type 0
  KeptIdle = (n t : ℕ) (cs : List (Option Contract)) → Spaced cs → ((m : ℕ) → total_of (asks m) cs ≤ limit m) → keeps n t cs [] ≡ true

  -- and at the end of a slot in which the first in the order was served
  abbrev pub KeptServed : (Held → Held → Bool) → Type 0
  KeptServed ahead = (n t : ℕ) (cs : List (Option Contract)) (xs ys : List Held) (x : Held) → Spaced cs → foremost ahead xs ≡ Some x → Taken xs (Some x) ys → Sound asks limit keeps t cs xs → keeps n (t + 1) cs ys ≡ true

  -- and after a withdrawal by a party that holds nothing
  abbrev pub KeptWithdrawn : Type 0
  KeptWithdrawn = (n t p : ℕ) (cs : List (Option Contract)) (xs : List Held) → p < length cs → holds_in xs p ≡ false → Sound asks limit keeps t cs xs → keeps n t (slice_set cs p None) xs ≡ true

  -- and after a cell is put
  abbrev pub KeptPut : Type 0
  KeptPut = (n t p : ℕ) (cs : List (Option Contract)) (xs : List Held) (c : Contract) (x : Held) → Spaced cs → Puts cs t p c x → Sound asks limit keeps t cs xs → keeps n t (slice_set cs p (Some (stamped c t))) (xs ++ x ∷ []) ≡ true

  -- where they are kept, no held cell is due before the slot
  abbrev pub Prompt : Type 0
  Prompt = (t : ℕ) (cs : List (Option Contract)) (xs : List Held) → Sound asks limit keeps t cs xs → sum_by (due_before t) xs ≡ 0

-- what is said of the cell that is served is true of the first in the order
abbrev pub Served : (Held → Held → Bool) → (Meaning → Option Cell → Type 0) → Type 0
Served ahead serves = (t : ℕ) (cs : List (Option Contract)) (xs : List Held) → Orderly cs xs → serves (meaning_of t cs xs) (cell_of (foremost ahead xs))
