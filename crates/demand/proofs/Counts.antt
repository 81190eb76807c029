-- The quotients of a spacing. No other file reasons on division.
use Rattle.std.proofs.Common.{◌≡◌, ℕ, zero, suc, ◌+◌, ◌-◌, ◌*◌, ◌/◌, ◌%◌, ◌<◌, ◌≤◌, min, leb, refl, subst, ⊎_elim, div-lt_iff_lt-mul, arith}
use native.Mathlib.Nat.{lt-div-mul-add}
use Rattle.std.proofs.lemmas.Nat.{div-add-mod', mod_below, mul-le}
use Rattle.std.proofs.lemmas.Bool.{cases_lt, cond_both, leb-true, leb-false}
use Rattle.demand.specs.Counts.{jobs, ceil}

below_div : (x s k : ℕ) → 1 ≤ s → x < k * s → x / s + 1 ≤ k
below_div x s k h lt = let q : x / s < k = (div-lt_iff_lt-mul {k = s} {x = x} {y = k} h).1 lt in omega (arith, q)

-- jobs a s x ≤ k where, and only where, x < a + k s
pub jobs_reach : (a s x : ℕ) → 1 ≤ s → x < a + jobs a s x * s
jobs_reach a s x h =
    cond_both (leb a x) ((x - a) / s + 1) 0 (λ k. x < a + k * s) (λ e. omega (arith, leb-true a x e, lt-div-mul-add {a = x - a} {b = s} h)) (λ e. omega (arith, leb-false a x e))

pub jobs_least : (a s x k : ℕ) → 1 ≤ s → x < a + k * s → jobs a s x ≤ k
jobs_least a s x k h lt =
    cond_both (leb a x) ((x - a) / s + 1) 0 (λ j. j ≤ k) (λ e. (let l = leb-true a x e in below_div (x - a) s k h (omega arith))) (λ e. omega arith)

-- ceil x s ≤ k where, and only where, x ≤ k s
pub ceil_reach : (x s : ℕ) → 1 ≤ s → x ≤ ceil x s * s
ceil_reach x s h = over (x / s) (x % s) (div-add-mod' x s) (mod_below x s h)
  where
    over : (q r : ℕ) → q * s + r ≡ x → r < s → x ≤ (q + min 1 r) * s
    over q zero e l = let m : 0 ≡ min 1 0 = refl in subst (λ m. x ≤ (q + m) * s) m (omega arith)
    over q (suc r) e l = let m : 1 ≡ min 1 (suc r) = omega arith in subst (λ m. x ≤ (q + m) * s) m (omega arith)

pub ceil_least : (x s k : ℕ) → 1 ≤ s → x ≤ k * s → ceil x s ≤ k
ceil_least x s k h le = under (x / s) (x % s) (div-add-mod' x s)
  where
    under : (q r : ℕ) → q * s + r ≡ x → q + min 1 r ≤ k
    under q r e =
        ⊎_elim
        (λ (lt : k < q). absurd (let m = mul-le (k + 1) s q s (omega arith) (omega arith) in omega arith))
        (λ (ge : q ≤ k).
        ⊎_elim (λ (l : q < k). omega arith) (λ (g : k ≤ q). (let m = mul-le k s q s g (omega arith) in omega arith)) (cases_lt q k))
        (cases_lt k q)

-- from b to y is no further than from a to x
pub jobs_mono : (a b s x y : ℕ) → 1 ≤ s → y + a ≤ x + b → jobs b s y ≤ jobs a s x
jobs_mono a b s x y h le =
    let r = jobs_reach a s x h in
    jobs_least b s y (jobs a s x) h (step (jobs a s x) r)
  where
    step : (k : ℕ) → x < a + k * s → y < b + k * s
    step k r = omega arith

after_one : (a b s x y k j : ℕ) → y + a + s ≤ x + b → a ≤ x → x < a + k * s → ((m : ℕ) → y < b + m * s → j ≤ m) → j + 1 ≤ k
after_one a b s x y zero j ab ax r least = absurd (omega arith)
after_one a b s x y (suc m) j ab ax r least = omega (arith, least m (omega arith))

-- from b to y is a spacing less than from a to x
pub jobs_next : (a b s x y : ℕ) → 1 ≤ s → y + a + s ≤ x + b → a ≤ x → jobs b s y + 1 ≤ jobs a s x
jobs_next a b s x y h ab ax = after_one a b s x y (jobs a s x) (jobs b s y) ab ax (jobs_reach a s x h) (λ m. jobs_least b s y m h)

-- from a to x there is one where, and only where, x is not below a
pub jobs_some : (a s x : ℕ) → 1 ≤ s → a ≤ x → 1 ≤ jobs a s x
jobs_some a s x h ax = one (jobs a s x) (jobs_reach a s x h)
  where
    one : (k : ℕ) → x < a + k * s → 1 ≤ k
    one zero r = absurd (omega arith)
    one (suc k) r = omega arith

pub jobs_none : (a s x : ℕ) → 1 ≤ s → x < a → jobs a s x ≤ 0
jobs_none a s x h lt = jobs_least a s x 0 h (omega arith)

-- of the cells up to x, those up to p more than a span come after it
pub jobs_split : (d s x p : ℕ) → 1 ≤ s → p ≤ x → jobs d s x ≤ ceil p s + jobs d s (x - p)
jobs_split d s x p h le = jobs_least d s x (ceil p s + jobs d s (x - p)) h (far (ceil p s) (jobs d s (x - p)) (ceil_reach p s h) (jobs_reach d s (x - p) h))
  where
    far : (w k : ℕ) → p ≤ w * s → x - p < d + k * s → x < d + (w + k) * s
    far w k a b = omega arith

grown : (x s : ℕ) → 1 ≤ s → x ≤ x * s
grown x zero k = absurd (omega arith)
grown x (suc s) k = omega arith

-- no more cells than slots
pub ceil_self : (x s : ℕ) → 1 ≤ s → ceil x s ≤ x
ceil_self x s h = ceil_least x s x h (grown x s h)

pub jobs_self : (a s x : ℕ) → 1 ≤ s → 1 ≤ a → jobs a s x ≤ x
jobs_self a s x h pos = jobs_least a s x x h (let g = grown x s h in omega arith)
