-- No record of a list comes before the first.
use Rattle.std.proofs.Common.{◌≡◌, ℕ, zero, suc, ◌<◌, Bool, true, false, cond, List, [], ◌∷◌, length, get_or, Some, None, Option, refl, ap, subst, arith}
use Rattle.order.specs.First.{sooner, foremost}
use Rattle.order.proofs.Steps.{self}

-- a list without a first is empty
pub foremost_none : {X : Type 0} (b : X → X → Bool) (xs : List X) → foremost b xs ≡ None → xs ≡ []
foremost_none b [] e = refl
foremost_none b (x ∷ xs) e = absurd (let z : ◌≡◌ {A = ℕ} 0 1 = cc in omega arith)

module _ {X : Type 0} (b : X → X → Bool) (asym : (x y : X) → b x y ≡ true → b y x ≡ false) (weak : (x y z : X) → b x y ≡ false → b y z ≡ false → b x z ≡ false) where
  pub foremost_least : (xs : List X) (x : X) → foremost b xs ≡ Some x → (i : ℕ) (d : X) → i < length xs → b (get_or xs i d) x ≡ false
  foremost_least [] x e i d l = absurd (omega arith)
  foremost_least (y ∷ ys) x e i d l =
      let is : sooner b y (foremost b ys) ≡ x = cc in
      subst (λ z. b (get_or (y ∷ ys) i d) z ≡ false) is (step (foremost b ys) (λ z k j h. foremost_least ys z k j d h) refl i l)
    where
      alone : (i : ℕ) → ys ≡ [] → i < length (y ∷ ys) → b (get_or (y ∷ ys) i d) y ≡ false
      alone zero n h = self b asym weak y
      alone (suc i) n h = absurd (let z = ap length n in omega arith)

      here : (z : X) (i : ℕ) → b z y ≡ false → ((j : ℕ) → j < length ys → b (get_or ys j d) z ≡ false) → i < length (y ∷ ys) → b (get_or (y ∷ ys) i d) y ≡ false
      here z zero t r h = self b asym weak y
      here z (suc i) t r h = weak (get_or ys i d) z y (r i (omega arith)) t

      later : (z : X) (i : ℕ) → b z y ≡ true → ((j : ℕ) → j < length ys → b (get_or ys j d) z ≡ false) → i < length (y ∷ ys) → b (get_or (y ∷ ys) i d) z ≡ false
      later z zero t r h = asym z y t
      later z (suc i) t r h = r i (omega arith)

      either : (v : Bool) (z : X) (i : ℕ) → b z y ≡ v → ((j : ℕ) → j < length ys → b (get_or ys j d) z ≡ false) → i < length (y ∷ ys) → b (get_or (y ∷ ys) i d) (cond v z y) ≡ false
      either true z i t r h = later z i t r h
      either false z i t r h = here z i t r h

      step : (o : Option X) → ((z : X) → foremost b ys ≡ Some z → (j : ℕ) → j < length ys → b (get_or ys j d) z ≡ false) → foremost b ys ≡ o → (i : ℕ) → i < length (y ∷ ys) → b (get_or (y ∷ ys) i d) (sooner b y o) ≡ false
      step None r k i h = alone i (foremost_none b ys k) h
      step (Some z) r k i h = either (b z y) z i refl (r z k) h
