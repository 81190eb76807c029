-- What a search up a range of numbers tells of each number.
use Rattle.std.proofs.Common.{◌≡◌, ℕ, ◌+◌, ◌-◌, ◌<◌, ◌≤◌, Bool, true, false, Some, None, Option, sym, refl, ap, subst, ◌∙◌, arith}
use denote.Ref.{Bor}
use denote.Param.Members.{Mut}
use Rattle.std.specs.Bool.{MatchBool, IsTrue}
use Rattle.std.specs.Fn.{Called, CalledAt}
use Rattle.std.specs.Option.{MatchOption, IfSome, IsSomeAnd, option_map}
use Rattle.std.specs.Iterator.Runs.{Run, AllItems, AnyItem, AllItemsBelow, ItemsCountUp, AnyItemGives, AllItemsGive, NoItemPasses, EndsAtFirstPassing, CallKeepsClosure}
use Rattle.scheduler.specs.Meaning.{some_below}
use Rattle.scheduler.proofs.Holds.{below_true, below_false}

got : (o : Option ℕ) (x : ℕ) → option_map (λ y. y) o ≡ Some x → o ≡ Some x
got None x e = absurd (let z : ◌≡◌ {A = ℕ} 0 1 = cc in omega arith)
got (Some y) x e = e

-- a run that counts up from a and stays below b
module _ {S : Type 0} {steps : S → Option ℕ → S → Type 0} (p : Run steps) (a b : ℕ) (up : ItemsCountUp p a b) where
  at : (k : ℕ) → a ≤ k → k < a + p.len → p.at (k - a) ≡ Some k
  at k lo hi = let s : a + (k - a) ≡ k = omega arith in got (p.at (k - a)) k (up.3 (k - a) (omega arith) ∙ ap Some s)

  number : (o : Option ℕ) (k : ℕ) (P : ℕ → Type 0) → p.at k ≡ o → IsSomeAnd o P → (a + k < b) × P (a + k)
  number None k P e h = absurd h
  number (Some x) k P e h = let c = subst (λ o. IfSome o (λ y. (y ≡ a + k) × (y < b))) e (up.2 k) in (omega (arith, c.0, c.1), subst P c.0 h)

  -- what is true of each item is true of each number, where the run is whole
  pub every_number : (P : ℕ → Type 0) → p.whole ≡ true → AllItems p P → (k : ℕ) → a ≤ k → k < b → P k
  every_number P w h k lo hi = subst (λ o. IfSome o P) (at k lo (omega (arith, up.1 w))) (h (k - a))

  -- what is true of some item is true of some number
  pub some_number : (P : ℕ → Type 0) → AnyItem p P → (k : ℕ) × (a ≤ k) × (k < b) × P k
  some_number P h = let n = number (p.at h.0) h.0 P refl h.2 in (a + h.0, omega arith, n.0, n.1)

  -- of the last item x, what is true of each item before it is true of each number before it
  pub first_number : (P : ℕ → Type 0) (x i : ℕ) → p.len ≡ i + 1 → p.at i ≡ Some x → AllItemsBelow p i P → (a ≤ x) × (x < b) × ((k : ℕ) → a ≤ k → k < x → P k)
  first_number P x i long last h =
      let c = subst (λ o. IfSome o (λ y. (y ≡ a + i) × (y < b))) last (up.2 i) in
      let is = c.0 in
      (omega arith, c.1, λ k lo hi. subst (λ o. IsSomeAnd o P) (at k lo (omega arith)) (h (k - a) (omega arith)))

  -- what `any` and `find` answer, where a call of the closure reads a test
  module _ {F : Type 0} (f : F) (test : ℕ → Bool) where
    pub any_of : (g : Mut F (ℕ × Unit {0}) Bool) (r : Bool) → MatchBool r (AnyItemGives p g f true) (IsTrue p.whole × AllItemsGive p g f false) → CallKeepsClosure g f → ((x : ℕ) (c : Bool) → Called g f (x, tt) c f → c ≡ test x)
        → MatchBool r ((k : ℕ) × (a ≤ k) × (k < b) × (test k ≡ true)) ((k : ℕ) → a ≤ k → k < b → test k ≡ false)
    any_of g true h keeps reads = let n = some_number (λ x. Called g f (x, tt) true f) (h keeps) in (n.0, n.1, n.2, sym (reads n.0 true n.3))
    any_of g false h keeps reads = λ k lo hi. sym (reads k false (every_number (λ x. Called g f (x, tt) false f) h.0 (h.1 keeps) k lo hi))

    pub find_of : (g : Mut F (Bor ℕ × Unit {0}) Bool) (r : Option ℕ) → MatchOption r (IsTrue p.whole × NoItemPasses p g f) (EndsAtFirstPassing p g f) → CallKeepsClosure g f → ((x : ℕ) (c : Bool) → CalledAt g f x c f → c ≡ test x)
        → MatchOption r ((k : ℕ) → a ≤ k → k < b → test k ≡ false) (λ x. (a ≤ x) × (x < b) × (test x ≡ true) × ((k : ℕ) → a ≤ k → k < x → test k ≡ false))
    find_of g None h keeps reads = λ k lo hi. sym (reads k false (every_number (λ x. CalledAt g f x false f) h.0 (h.1 keeps) k lo hi))
    find_of g (Some x) h keeps reads =
        let q = h.3 keeps in
        let n = first_number (λ y. CalledAt g f y false f) x h.0 h.1 h.2 q.1 in
        (n.0, n.1, sym (reads x true q.0), λ k lo hi. sym (reads k false (n.2 k lo hi)))

-- whether some number below n passes
pub below_is : (n : ℕ) (f : ℕ → Bool) (b : Bool) → MatchBool b ((k : ℕ) × (0 ≤ k) × (k < n) × (f k ≡ true)) ((k : ℕ) → 0 ≤ k → k < n → f k ≡ false) → b ≡ some_below n f
below_is n f true h = sym (below_true n f h.0 h.2 h.3)
below_is n f false h = sym (below_false n f (λ k. h k (omega arith)))

-- whether one from 1 to n does
pub to_is : (n : ℕ) (f : ℕ → Bool) (b : Bool) → MatchBool b ((k : ℕ) × (1 ≤ k) × (k < n + 1) × (f k ≡ true)) ((k : ℕ) → 1 ≤ k → k < n + 1 → f k ≡ false) → b ≡ some_below n (λ k. f (k + 1))
to_is n f true h = let s : h.0 ≡ h.0 - 1 + 1 = omega (arith, h.1) in sym (below_true n (λ k. f (k + 1)) (h.0 - 1) (omega (arith, h.1, h.2)) (subst (λ k. f k ≡ true) s h.3))
to_is n f false h = sym (below_false n (λ k. f (k + 1)) (λ k l. h (k + 1) (omega arith) (omega arith)))
