-- Sums over a list, place by place.
use Rattle.std.proofs.Common.{◌≡◌, ℕ, suc, ◌+◌, ◌<◌, ◌≤◌, List, [], ◌∷◌, length, get_or, sum_by, refl, arith}
use Rattle.std.proofs.lemmas.List.Sums.{sum_by-cons}

module _ {X : Type 0} where
  pub sum_le_add : (f g k : X → ℕ) (xs : List X) (d : X) → ((i : ℕ) → i < length xs → f (get_or xs i d) ≤ g (get_or xs i d) + k (get_or xs i d)) → sum_by f xs ≤ sum_by g xs + sum_by k xs
  sum_le_add f g k [] d h = omega arith
  sum_le_add f g k (x ∷ xs) d h =
      let ih = sum_le_add f g k xs d (λ i l. h (suc i) (omega arith)) in
      omega (arith, sum_by-cons f x xs, sum_by-cons g x xs, sum_by-cons k x xs, h 0 (omega arith), ih)

  pub sum_le : (f g : X → ℕ) (xs : List X) (d : X) → ((i : ℕ) → i < length xs → f (get_or xs i d) ≤ g (get_or xs i d)) → sum_by f xs ≤ sum_by g xs
  sum_le f g [] d h = omega arith
  sum_le f g (x ∷ xs) d h =
      let ih = sum_le f g xs d (λ i l. h (suc i) (omega arith)) in
      omega (arith, sum_by-cons f x xs, sum_by-cons g x xs, h 0 (omega arith), ih)

  -- the same of every record
  pub each_le_add : (f g k : X → ℕ) → ((x : X) → f x ≤ g x + k x) → (xs : List X) → sum_by f xs ≤ sum_by g xs + sum_by k xs
  each_le_add f g k h [] = omega arith
  each_le_add f g k h (x ∷ xs) = omega (arith, sum_by-cons f x xs, sum_by-cons g x xs, sum_by-cons k x xs, h x, each_le_add f g k h xs)

  pub sum_zero : (f : X → ℕ) (xs : List X) (d : X) → ((i : ℕ) → i < length xs → f (get_or xs i d) ≡ 0) → sum_by f xs ≡ 0
  sum_zero f [] d h = refl
  sum_zero f (x ∷ xs) d h = omega (arith, sum_by-cons f x xs, h 0 (omega arith), sum_zero f xs d (λ i l. h (suc i) (omega arith)))
