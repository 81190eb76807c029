-- The first of some records in an order.
use Rattle.std.specs.Prelude.{◌≡◌, ℕ, ◌<◌, Bool, true, false, cond, List, [], ◌∷◌, Some, None, Option, slice_index_or}

-- i is the lowest place of the first in the order among the places below n:
-- none of them comes before it, and it comes before each at a lower place
abbrev pub First : {X : Type 0} → (X → X → Bool) → List X → ℕ → ℕ → Type 0
First {X} ahead xs n i =
    (i < n)
    × ((k : ℕ) (d : X) → k < n → ahead (slice_index_or xs k d) (slice_index_or xs i d) ≡ false)
    × ((k : ℕ) (d : X) → k < i → ahead (slice_index_or xs i d) (slice_index_or xs k d) ≡ true)

-- the one of two records that comes first, x where neither comes before the other
abbrev pub sooner : {X : Type 0} → (X → X → Bool) → X → Option X → X
sooner ahead x None = x
sooner ahead x (Some y) = cond (ahead y x) y x

-- the first record of a list in the order, the one at the lowest place among equals, or none of an empty list
abbrev pub foremost : {X : Type 0} → (X → X → Bool) → List X → Option X
foremost ahead [] = None
foremost ahead (x ∷ xs) = Some (sooner ahead x (foremost ahead xs))
