-- The first places of a table: one cell less.
use Rattle.std.proofs.Common.{◌≡◌, ℕ, ◌+◌, ◌-◌, ◌<◌, ◌≤◌, ◌⊎◌, List, length, get_or, take, set, sum_by, sym, ap, ◌∙◌, inl, inr, arith}
use lib.Seq.{take-set-le, take-set-lt}
use Rattle.std.proofs.lemmas.List.{get_or_default, get_or-take, length-take-le}
use Rattle.std.proofs.lemmas.List.Sums.{sum_by_more, sum_by-set}

last_or_not : (i n : ℕ) → i < n → (i ≡ n - 1) ⊎ (i < n - 1)
last_or_not i n h = grind arith

-- what is taken out at place i of the first n, the last of them put there
pub swapped : {X : Type 0} (f : X → ℕ) (xs : List X) (n i : ℕ) (d e : X) → i < n → n ≤ length xs
    → sum_by f (take (n - 1) (set xs i (get_or xs (n - 1) d))) + f (get_or xs i e) ≡ sum_by f (take n xs)
swapped f xs n i d e h l =
    let n1 : n - 1 + 1 ≡ n = omega arith in
    let nl : n - 1 < length xs = omega arith in
    let all : sum_by f (take n xs) ≡ sum_by f (take (n - 1) xs) + f (get_or xs (n - 1) d) = ap (λ k. sum_by f (take k xs)) (sym n1) ∙ sum_by_more f xs (n - 1) d nl in
    elim (last_or_not i n h) [
      | inl q ↦
          let u : n - 1 ≤ i = omega arith in
          let same : sum_by f (take (n - 1) (set xs i (get_or xs (n - 1) d))) ≡ sum_by f (take (n - 1) xs) = ap (sum_by f) (take-set-le (n - 1) xs i (get_or xs (n - 1) d) u) in
          let il : i < length xs = omega arith in
          let at : f (get_or xs i e) ≡ f (get_or xs (n - 1) d) = ap f (get_or_default xs i e d il ∙ ap (λ k. get_or xs k d) q) in
          omega arith
      | inr q ↦
          let same : sum_by f (take (n - 1) (set xs i (get_or xs (n - 1) d))) ≡ sum_by f (set (take (n - 1) xs) i (get_or xs (n - 1) d)) = ap (sum_by f) (take-set-lt (n - 1) xs i (get_or xs (n - 1) d) q) in
          let long : length (take (n - 1) xs) ≡ n - 1 = length-take-le (n - 1) xs (omega arith) in
          let il : i < length (take (n - 1) xs) = omega arith in
          let put = sum_by-set f (take (n - 1) xs) i (get_or xs (n - 1) d) e il in
          let at : f (get_or (take (n - 1) xs) i e) ≡ f (get_or xs i e) = ap f (get_or-take (n - 1) xs i e q) in
          omega arith
    ]
