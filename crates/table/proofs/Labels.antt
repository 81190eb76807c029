-- Whether none of some labels is there.
use Rattle.std.proofs.Common.{◌≡◌, ℕ, zero, suc, true, false, List, [], ◌∷◌, get_or, is_none, Some, None, Option, refl}
use Rattle.std.specs.List.{list_all}
use Rattle.std.proofs.lemmas.Bool.{both_ways}

pub some_label : (xs : List (Option ℕ)) → list_all is_none xs ≡ false → (p : ℕ) × ((l : ℕ) × (get_or xs p None ≡ Some l))
some_label [] h = absurd (both_ways true h refl)
some_label (Some l ∷ xs) h = (0, (l, refl))
some_label (None ∷ xs) h = let q = some_label xs h in (suc q.0, q.1)

pub no_label : (xs : List (Option ℕ)) → list_all is_none xs ≡ true → (p : ℕ) → get_or xs p None ≡ None
no_label [] h p = refl
no_label (Some l ∷ xs) h p = absurd (both_ways false refl h)
no_label (None ∷ xs) h zero = refl
no_label (None ∷ xs) h (suc p) = no_label xs h p
