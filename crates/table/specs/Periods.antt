-- The period of a contract.
use Rattle.std.specs.Prelude.{◌≡◌, ℕ, zero, suc, ◌+◌, ◌-◌, ◌*◌, ◌/◌, ◌%◌, ◌^◌, ◌<◌, ◌≤◌, min, Bool, true, false, cond, nat_le, refl}
use Rattle.std.proofs.Common.{sym, ap, subst, ◌∙◌, inl, inr, mod-lt, mod-eq_of_lt, arith, pow_pos, pow_mono}
use Rattle.std.proofs.Math.Nat.{min-le_left, min-le_right, mod-add-div', add-mul-mod_self_right, add-mod_right}
use Rattle.std.proofs.Math.Pow.{mod-mod-pow}
use Rattle.std.proofs.lemmas.Bool.{leb-true, leb-false, cases_lt}
use Rattle.table.specs.Turns.{power_to, greatest_power, period, Greatest}

-- p is a power of two, not above n, and twice p is above n
abbrev pub Power : ℕ → ℕ → Type 0
Power n p = (j : ℕ) × (p ≡ 2 ^ j) × (2 ^ j ≤ n) × (n < 2 ^ suc j)

pub power_is : (l n : ℕ) → 1 ≤ n → n < 2 ^ suc l → Power n (power_to l n)
power_is zero n a b = (0, refl, a, b)
power_is (suc l) n a b = way (nat_le (2 ^ suc l) n) refl (power_is l n a)
  where
    way : (t : Bool) → nat_le (2 ^ suc l) n ≡ t → (n < 2 ^ suc l → Power n (power_to l n)) → Power n (cond t (2 ^ suc l) (power_to l n))
    way true t r = (suc l, refl, leb-true (2 ^ suc l) n t, b)
    way false t r = r (leb-false (2 ^ suc l) n t)

exponent : (j k : ℕ) → 2 ^ j < 2 ^ k → j < k
exponent j k h = elim (cases_lt j k) [ inl l ↦ l | inr l ↦ absurd (omega (arith, pow_mono l)) ]

-- there is one such power
pub power_one : (n p q : ℕ) → Power n p → Power n q → p ≡ q
power_one n p q x y =
    let a : 2 ^ x.0 < 2 ^ suc y.0 = omega (arith, x.2, y.3) in
    let b : 2 ^ y.0 < 2 ^ suc x.0 = omega (arith, y.2, x.3) in
    let e : x.0 ≡ y.0 = omega (arith, exponent x.0 (suc y.0) a, exponent y.0 (suc x.0) b) in
    x.1 ∙ ap (λ (j : ℕ). 2 ^ j) e ∙ sym y.1

pub greatest_is : (n : ℕ) → 1 ≤ n → n ≤ 128 → Power n (greatest_power n)
unfolding greatest_power
greatest_is n a b = power_is 7 n a (omega arith)

pub power_greatest : (n p : ℕ) → Power n p → Greatest n p
power_greatest n p x =
    let e = x.1 in
    let m = x.2 in
    record {
      power = (x.0, x.1);
      within = omega arith;
      greatest = λ l a.
          let h : 2 ^ l < 2 ^ suc x.0 = omega (arith, x.3) in
          let k = exponent l (suc x.0) h in
          let g : l ≤ x.0 = omega arith in
          omega (arith, pow_mono g);
    }

-- what is used of a period: it is 1 to 128, above neither spacing nor bound, and the turns run through it whole
pub record Fits (s d p : ℕ) : Type 0 where
  pub least : 1 ≤ p
  pub most : p ≤ 128
  pub spacing : p ≤ s
  pub bound : p ≤ d
  pub whole : (k : ℕ) → k % 128 % p ≡ k % p

turn_mod : (n k : ℕ) → k ≤ 7 → n % 128 % 2 ^ k ≡ n % 2 ^ k
turn_mod n k h = let e : 7 - k + k ≡ 7 = omega arith in subst (λ (x : ℕ). n % 2 ^ x % 2 ^ k ≡ n % 2 ^ k) e (mod-mod-pow n (7 - k) k)

pub period_fits : (s d : ℕ) → 1 ≤ s → 1 ≤ d → d ≤ 128 → Fits s d (period s d)
period_fits s d a b c =
    let r = min-le_right s d in
    let l = min-le_left s d in
    let some : 1 ≤ min s d = grind arith in
    let x = greatest_is (min s d) some (omega arith) in
    let e = x.1 in
    let m = x.2 in
    let p = pow_pos x.0 in
    let h : 2 ^ x.0 < 2 ^ 8 = omega arith in
    let k = exponent x.0 8 h in
    let j : x.0 ≤ 7 = omega arith in
    record {
      least = omega arith;
      most = omega arith;
      spacing = omega arith;
      bound = omega arith;
      whole = λ n. subst (λ (q : ℕ). n % 128 % q ≡ n % q) (sym e) (turn_mod n x.0 j);
    }

-- from every k on, less than p further on there is a number with the remainder o
pub next : (p o k : ℕ) → o < p → (j : ℕ) × (j < p) × ((k + j) % p ≡ o)
next p o k h =
    let r : k % p < p = mod-lt k (omega arith) in
    let w = mod-add-div' k p in
    let same = mod-eq_of_lt h in
    elim (cases_lt o (k % p)) [
      | inl l ↦
          let j = o + p - k % p in
          let e : k + j ≡ o + k / p * p + p = omega arith in
          (j, omega arith, ap (λ n. n % p) e ∙ add-mod_right (o + k / p * p) p ∙ add-mul-mod_self_right o (k / p) p ∙ same)
      | inr l ↦
          let j = o - k % p in
          let e : k + j ≡ o + k / p * p = omega arith in
          (j, omega arith, ap (λ n. n % p) e ∙ add-mul-mod_self_right o (k / p) p ∙ same)
    ]
