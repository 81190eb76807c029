-- The record at the place that the search answers is the first of the list.
use Rattle.std.proofs.Common.{◌≡◌, ℕ, zero, suc, ◌<◌, Bool, true, false, cond, ◌⊎◌, List, [], ◌∷◌, length, get_or, Some, None, Option, refl, ap, ◌∙◌, inl, inr, arith}
use Rattle.std.proofs.lemmas.List.{get_or_default}
use Rattle.order.specs.First.{First, sooner, foremost}
use Rattle.order.proofs.Steps.{clash, decide, self}

order_of : (i j : ℕ) → (i < j) ⊎ ((j < i) ⊎ (i ≡ j))
order_of i j = grind arith

-- the first of a list stands in it
sooner_at : {X : Type 0} (b : X → X → Bool) (y : X) (ys : List X) (d x : X) (o : Option X) → ((z : X) → o ≡ Some z → (i : ℕ) × (i < length ys) × (get_or ys i d ≡ z)) → sooner b y o ≡ x → (i : ℕ) × (i < length (y ∷ ys)) × (get_or (y ∷ ys) i d ≡ x)
sooner_at b y ys d x None h e = (0, omega arith, e)
sooner_at {X} b y ys d x (Some z) h e = pick (b z y) e (h z refl)
  where
    pick : (v : Bool) → cond v z y ≡ x → (i : ℕ) × (i < length ys) × (get_or ys i d ≡ z) → (i : ℕ) × (i < length (y ∷ ys)) × (get_or (y ∷ ys) i d ≡ x)
    pick true k (i, l, q) = (suc i, omega arith, q ∙ k)
    pick false k (i, l, q) = (0, omega arith, k)

pub foremost_at : {X : Type 0} (b : X → X → Bool) (xs : List X) (d x : X) → foremost b xs ≡ Some x → (i : ℕ) × (i < length xs) × (get_or xs i d ≡ x)
foremost_at b [] d x e = absurd (let z : ◌≡◌ {A = ℕ} 0 1 = cc in omega arith)
foremost_at b (y ∷ ys) d x e = let k : sooner b y (foremost b ys) ≡ x = cc in sooner_at b y ys d x (foremost b ys) (foremost_at b ys d) k

module _ {X : Type 0} (b : X → X → Bool) (asym : (x y : X) → b x y ≡ true → b y x ≡ false) (weak : (x y z : X) → b x y ≡ false → b y z ≡ false → b x z ≡ false) where
  -- there is one such place
  pub first_one : (xs : List X) (n i j : ℕ) (d : X) → First b xs n i → First b xs n j → i ≡ j
  first_one xs n i j d p q =
      elim (order_of i j) [
        | inl l ↦ absurd (clash (q.2 i d l) (p.1 j d q.0))
        | inr r ↦ elim r [ inl l ↦ absurd (clash (p.2 j d l) (q.1 i d p.0)) | inr e ↦ e ]
      ]

  -- the first of x ∷ xs, which is at place j of xs and comes before x
  front_later : (x : X) (xs : List X) (j : ℕ) → ((d : X) → b (get_or xs j d) x ≡ true) → First b xs (length xs) j → First b (x ∷ xs) (length (x ∷ xs)) (suc j)
  front_later x xs j t f = (let l = f.0 in omega arith, λ k d h. none k d h, λ k d h. later k d h)
    where
      none : (k : ℕ) (d : X) → k < length (x ∷ xs) → b (get_or (x ∷ xs) k d) (get_or xs j d) ≡ false
      none zero d h = asym (get_or xs j d) x (t d)
      none (suc k) d h = f.1 k d (omega arith)

      later : (k : ℕ) (d : X) → k < suc j → b (get_or xs j d) (get_or (x ∷ xs) k d) ≡ true
      later zero d h = t d
      later (suc k) d h = f.2 k d (omega arith)

  -- the same where it does not: x is the first
  front_here : (x : X) (xs : List X) (j : ℕ) → ((d : X) → b (get_or xs j d) x ≡ false) → First b xs (length xs) j → First b (x ∷ xs) (length (x ∷ xs)) 0
  front_here x xs j t f = (omega arith, λ k d h. none k d h, λ k d h. absurd (omega arith))
    where
      none : (k : ℕ) (d : X) → k < length (x ∷ xs) → b (get_or (x ∷ xs) k d) x ≡ false
      none zero d h = self b asym weak x
      none (suc k) d h = weak (get_or xs k d) (get_or xs j d) x (f.1 k d (omega arith)) (t d)

  front_alone : (x : X) → First b (x ∷ []) (length (x ∷ [])) 0
  front_alone x = (omega arith, λ k d h. none k d h, λ k d h. absurd (omega arith))
    where
      none : (k : ℕ) (d : X) → k < length (x ∷ []) → b (get_or (x ∷ []) k d) x ≡ false
      none zero d h = self b asym weak x
      none (suc k) d h = absurd (omega arith)

  -- the place of the first of a list that is not empty
  place : (x : X) (xs : List X) → (i : ℕ) × First b (x ∷ xs) (length (x ∷ xs)) i × ((d : X) → foremost b (x ∷ xs) ≡ Some (get_or (x ∷ xs) i d))
  place x [] = (0, front_alone x, λ d. refl)
  place x (y ∷ ys) = next (place y ys)
    where
      same : (j : ℕ) → First b (y ∷ ys) (length (y ∷ ys)) j → (d e : X) → get_or (y ∷ ys) j d ≡ get_or (y ∷ ys) j e
      same j f d e = get_or_default (y ∷ ys) j d e f.0

      chosen : (j : ℕ) (v : Bool) → ((d : X) → foremost b (y ∷ ys) ≡ Some (get_or (y ∷ ys) j d)) → (d : X) → b (get_or (y ∷ ys) j d) x ≡ v → foremost b (x ∷ y ∷ ys) ≡ Some (cond v (get_or (y ∷ ys) j d) x)
      chosen j v e d t = ap (λ o. Some (sooner b x o)) (e d) ∙ ap (λ w. Some (cond w (get_or (y ∷ ys) j d) x)) t

      next : (i : ℕ) × First b (y ∷ ys) (length (y ∷ ys)) i × ((d : X) → foremost b (y ∷ ys) ≡ Some (get_or (y ∷ ys) i d)) → (i : ℕ) × First b (x ∷ y ∷ ys) (length (x ∷ y ∷ ys)) i × ((d : X) → foremost b (x ∷ y ∷ ys) ≡ Some (get_or (x ∷ y ∷ ys) i d))
      next (j, f, e) =
          elim (decide (b (get_or (y ∷ ys) j x) x)) [
            | inl t ↦ (
              suc j,
              front_later x (y ∷ ys) j (λ d. ap (λ z. b z x) (same j f d x) ∙ t) f,
              λ d. chosen j true e d (ap (λ z. b z x) (same j f d x) ∙ t),
            )
            | inr t ↦ (
              0,
              front_here x (y ∷ ys) j (λ d. ap (λ z. b z x) (same j f d x) ∙ t) f,
              λ d. chosen j false e d (ap (λ z. b z x) (same j f d x) ∙ t),
            )
          ]

  -- the record at the place found is the first of the list
  pub foremost_is : (xs : List X) (i : ℕ) (d : X) → First b xs (length xs) i → foremost b xs ≡ Some (get_or xs i d)
  foremost_is [] i d f = absurd (let l = f.0 in omega arith)
  foremost_is (x ∷ xs) i d f = found (place x xs)
    where
      found : (j : ℕ) × First b (x ∷ xs) (length (x ∷ xs)) j × ((d : X) → foremost b (x ∷ xs) ≡ Some (get_or (x ∷ xs) j d)) → foremost b (x ∷ xs) ≡ Some (get_or (x ∷ xs) i d)
      found (j, g, e) = e d ∙ ap (λ k. Some (get_or (x ∷ xs) k d)) (first_one (x ∷ xs) (length (x ∷ xs)) j i d g f)
