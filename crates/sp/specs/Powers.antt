-- Levels and powers of two.
use Rattle.std.specs.Prelude.{◌≡◌, ℕ, zero, suc, ◌-◌, ◌^◌, ◌<◌, ◌≤◌, ◌⊎◌, nat_le}
use Rattle.std.proofs.Common.{sym, ◌∙◌, inl, inr, arith, pow_mono}
use Rattle.std.specs.Int.Count.{count_leading_zeros}
use Rattle.std.proofs.lemmas.Nat.{leading_top}
use Rattle.std.proofs.lemmas.Bool.{leb-true, leb-false, cond_both}
use Rattle.sp.specs.Levels.{greatest_exponent, level}

exponent_le : (n d : ℕ) → 1 ≤ d → 2 ^ greatest_exponent n d ≤ d
exponent_le zero d h = h
exponent_le (suc n) d h = cond_both (nat_le (2 ^ n) d) n (greatest_exponent n d) (λ k. 2 ^ k ≤ d) (leb-true (2 ^ n) d) (λ _. exponent_le n d h)

exponent_below : (n d : ℕ) → greatest_exponent n d ≤ n - 1
exponent_below zero d = omega arith
exponent_below (suc n) d = cond_both (nat_le (2 ^ n) d) n (greatest_exponent n d) (λ k. k ≤ suc n - 1) (λ _. omega arith) (λ _. (let h = exponent_below n d in omega arith))

high_or_low : (a b : ℕ) → (a < b) ⊎ (b ≤ a)
high_or_low a b = grind arith

-- a power of two that is not above d has an exponent below that of one that is
exponent_lt : (i j d : ℕ) → 2 ^ i ≤ d → d < 2 ^ j → i < j
exponent_lt i j d a b = elim (high_or_low i j) [ inl h ↦ h | inr h ↦ absurd (let m : 2 ^ j ≤ 2 ^ i = pow_mono h in omega arith) ]

exponent_is : (n j d : ℕ) → j < n → 2 ^ j ≤ d → d < 2 ^ suc j → greatest_exponent n d ≡ j
exponent_is zero j d h a b = absurd (omega arith)
exponent_is (suc n) j d h a b =
    cond_both (nat_le (2 ^ n) d) n (greatest_exponent n d) (λ k. k ≡ j)
    (λ t. (let m = exponent_lt n (suc j) d (leb-true (2 ^ n) d t) b in omega arith))
    (λ t. (let m = exponent_lt j n d a (leb-false (2 ^ n) d t) in exponent_is n j d m a b))

-- the power of two of a bound's level is not above the bound
pub level_le : (d : ℕ) → 1 ≤ d → 2 ^ level d ≤ d
unfolding level
level_le d h = exponent_le 8 d h

-- a level is 0 to 7
pub level_most : (d : ℕ) → level d ≤ 7
unfolding level
level_most d = exponent_below 8 d

-- the level of a bound, by the zeros above its highest digit
pub level_zeros : (d : ℕ) → 1 ≤ d → d ≤ 128 → (count_leading_zeros 32 d ≤ 31) × (31 - count_leading_zeros 32 d ≡ level d)
unfolding level
level_zeros d a b =
    let t = leading_top 32 d (omega arith) (omega arith) in
    let small : t.0 < 8 = exponent_lt t.0 8 d t.2 (omega arith) in
    (omega (arith, t.1), (let e : 31 - count_leading_zeros 32 d ≡ t.0 = omega (arith, t.1) in e ∙ sym (exponent_is 8 t.0 d small t.2 t.3)))
