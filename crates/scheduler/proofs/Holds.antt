-- Whether a cell is held.
use Rattle.std.proofs.Common.{◌≡◌, ℕ, zero, suc, ◌+◌, ◌<◌, ◌≤◌, Bool, true, false, cond, ◌⊎◌, is_some, Some, None, Option, sym, refl, ap, ◌∙◌, inl, inr, arith}
use Rattle.cells.specs.declared.times.Slot.{Slot}
use Rattle.scheduler.specs.declared.terms.Contract.{Contract}
use Rattle.scheduler.specs.Laws.{Contracted, Past, Since}
use Rattle.scheduler.specs.Meaning.{Meaning, some_below, holds_of, holds_any}

split : (k n : ℕ) → k < suc n → (k < n) ⊎ (k ≡ n)
split k n h = grind arith

-- a party is at most 15 or above
pub low_or_high : (p : ℕ) → (p ≤ 15) ⊎ (15 < p)
low_or_high p = grind arith

-- none passes, so none is found
pub below_false : (n : ℕ) (f : ℕ → Bool) → ((k : ℕ) → k < n → f k ≡ false) → some_below n f ≡ false
below_false zero f h = refl
below_false (suc n) f h =
    ap (λ b. cond b true (some_below n f)) (h n (omega arith)) ∙ below_false n f (λ k l. h k (omega arith))

cond-true : (b : Bool) → cond b true true ≡ true
cond-true true = refl
cond-true false = refl

-- one passes, so one is found
pub below_true : (n : ℕ) (f : ℕ → Bool) (k : ℕ) → k < n → f k ≡ true → some_below n f ≡ true
below_true zero f k l e = absurd (omega arith)
below_true (suc n) f k l e =
    elim (split k n l) [
      | inl s ↦ ap (λ b. cond (f n) true b) (below_true n f k s e) ∙ cond-true (f n)
      | inr s ↦ ap (λ b. cond b true (some_below n f)) (ap f (sym s) ∙ e)
    ]

both_false : (b d : Bool) → cond b true d ≡ false → (b ≡ false) × (d ≡ false)
both_false true d e = absurd (let z : ◌≡◌ {A = ℕ} 0 1 = cc in omega arith)
both_false false d e = (refl, e)

-- none is found, so none passes
pub none_below : (n : ℕ) (f : ℕ → Bool) → some_below n f ≡ false → (k : ℕ) → k < n → f k ≡ false
none_below zero f h k l = absurd (omega arith)
none_below (suc n) f h k l =
    let b = both_false (f n) (some_below n f) h in
    elim (split k n l) [ inl s ↦ none_below n f b.1 k s | inr s ↦ ap f s ∙ b.0 ]

is_none : (o : Option ℕ) → is_some o ≡ false → o ≡ None
is_none None e = refl
is_none (Some l) e = absurd (let z : ◌≡◌ {A = ℕ} 0 1 = cc in omega arith)

-- a party that holds nothing
pub holds_of_none : (m : Meaning) (p : ℕ) → ((e : ℕ) → m.held p e ≡ None) → holds_of m p ≡ false
unfolding holds_of
holds_of_none m p h = below_false (m.slot + 1) (λ e. is_some (m.held p e)) (λ e l. ap is_some (h e))

-- a party that holds a cell
pub holds_of_some : (m : Meaning) (p e l : ℕ) → e ≤ m.slot → m.held p e ≡ Some l → holds_of m p ≡ true
unfolding holds_of
holds_of_some m p e l b h = below_true (m.slot + 1) (λ e. is_some (m.held p e)) e (omega arith) (ap is_some h)

-- what a party that holds nothing holds
pub none_of : (m : Meaning) (p e : ℕ) → holds_of m p ≡ false → e ≤ m.slot → m.held p e ≡ None
unfolding holds_of
none_of m p e h b = is_none (m.held p e) (none_below (m.slot + 1) (λ e. is_some (m.held p e)) h e (omega arith))

-- nothing is held
pub holds_any_none : (m : Meaning) → ((p e : ℕ) → m.held p e ≡ None) → holds_any m ≡ false
unfolding holds_any
holds_any_none m h = below_false 16 (holds_of m) (λ p l. holds_of_none m p (h p))

-- a cell is held
pub holds_any_some : (m : Meaning) (p e l : ℕ) → p ≤ 15 → e ≤ m.slot → m.held p e ≡ Some l → holds_any m ≡ true
unfolding holds_any
holds_any_some m p e l a b h = below_true 16 (holds_of m) p (omega arith) (holds_of_some m p e l b h)

-- what is held where nothing is
pub none_any : (m : Meaning) (p e : ℕ) → holds_any m ≡ false → p ≤ 15 → e ≤ m.slot → m.held p e ≡ None
unfolding holds_any
none_any m p e h a b = none_of m p e (none_below 16 (holds_of m) h p (omega arith)) b

none_some : {X : Type 0} (o : Option X) (x : X) → o ≡ None → o ≡ Some x → ⊥
none_some o x a b = let z : ◌≡◌ {A = ℕ} 0 1 = cc in omega arith

since_slot : (o : Option Slot) (e n : ℕ) → Since o e → ((t : Slot) → o ≡ Some t → t.0 ≤ n) → e ≤ n
since_slot None e n s h = absurd s
since_slot (Some t) e n s h = let k = h t refl in omega arith

by_now : (m : Meaning) (o : Option Contract) → Contracted m → Past m → (p e l : ℕ) → m.held p e ≡ Some l → m.contracts p ≡ o → e ≤ m.slot
by_now m None c t p e l h k = absurd (none_some (m.held p e) l (c.cells p e k) h)
by_now m (Some x) c t p e l h k = since_slot x.last e m.slot (t.cells p e l x h k) (λ n. t.lasts p x n k)

-- a held cell is of a party 0 to 15, and eligible by now
pub held_within : (m : Meaning) → Contracted m → Past m → (p e l : ℕ) → m.held p e ≡ Some l → (p ≤ 15) × (e ≤ m.slot)
held_within m c t p e l h = (
  elim (low_or_high p) [ inl a ↦ a | inr a ↦ absurd (none_some (m.held p e) l (c.cells p e (c.parties p a)) h) ],
  by_now m (m.contracts p) c t p e l h refl,
)

nothing : (m : Meaning) (o : Option ℕ) → Contracted m → Past m → (p e : ℕ) → m.held p e ≡ o → (p ≤ 15 → e ≤ m.slot → m.held p e ≡ None) → m.held p e ≡ None
nothing m None c t p e h k = h
nothing m (Some l) c t p e h k = let w = held_within m c t p e l h in k w.0 w.1

-- a scheduler that holds no cell holds none anywhere, and so for one party
pub all_none : (m : Meaning) → Contracted m → Past m → holds_any m ≡ false → (p e : ℕ) → m.held p e ≡ None
all_none m c t h p e = nothing m (m.held p e) c t p e refl (λ a b. none_any m p e h a b)

pub party_none : (m : Meaning) → Contracted m → Past m → (p : ℕ) → holds_of m p ≡ false → (e : ℕ) → m.held p e ≡ None
party_none m c t p h e = nothing m (m.held p e) c t p e refl (λ a b. none_of m p e h b)
