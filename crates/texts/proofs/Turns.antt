-- One turn of a `for` over an iterator that gives a known list.
use Rattle.std.proofs.Common.{◌≡◌, List, [], ◌∷◌, Some, None, Option, sym, refl, ap}
use Rattle.std.proofs.lemmas.Iterator.{YieldsList}

-- s gives a list of which P holds
pub record Gives {S A B : Type 0} (steps : S → Option A → S → Type 0) (v : A → B) (s : S) (P : List B → Type 0) : Type 0 where
  pub left : List B
  pub gives : YieldsList steps v s left
  pub holds : P left

pub turn : {S A B : Type 0} {steps : S → Option A → S → Type 0} {v : A → B} {s : S} (ys : List B) → YieldsList steps v s ys → (x : A) (t : S) → steps s (Some x) t → (zs : List B) × ((ys ≡ v x ∷ zs) × YieldsList steps v t zs)
turn [] e x t k = absurd (e.runs x t k)
turn (y ∷ ys) e x t k = let m = e.runs.1 x t k in (ys, (ap (λ b. b ∷ ys) (sym m.0), record { runs = m.1 }))

pub over : {S A B : Type 0} {steps : S → Option A → S → Type 0} {v : A → B} {s : S} (ys : List B) → YieldsList steps v s ys → (t : S) → steps s None t → ys ≡ []
over [] e t k = refl
over (y ∷ ys) e t k = absurd (e.runs.0 t k)
