-- A record does not come before itself.
use Rattle.std.proofs.Common.{◌≡◌, ℕ, Bool, true, false, ◌⊎◌, refl, inl, inr, arith}

pub clash : {b : Bool} → b ≡ true → b ≡ false → ⊥
clash p q = let z : ◌≡◌ {A = ℕ} 0 1 = cc in omega arith

pub decide : (v : Bool) → (v ≡ true) ⊎ (v ≡ false)
decide true = inl refl
decide false = inr refl

module _ {X : Type 0} (b : X → X → Bool) (asym : (x y : X) → b x y ≡ true → b y x ≡ false) (weak : (x y z : X) → b x y ≡ false → b y z ≡ false → b x z ≡ false) where
  pub self : (x : X) → b x x ≡ false
  self x = elim (decide (b x x)) [ inl t ↦ asym x x t | inr f ↦ f ]
