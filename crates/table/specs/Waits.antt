-- How long a party waits for its turn.
use Rattle.std.specs.Prelude.{◌≡◌, ℕ, zero, suc, ◌+◌, ◌<◌, ◌≤◌, Bool, true, false, cond, Some, None, Option, ◌==◌, ◌≢◌, refl}
use Rattle.std.proofs.Common.{sym, ap, subst, ◌∙◌, mod-lt, arith}
use Rattle.std.proofs.lemmas.Bool.{eq-eqb, eqb-true, ne_eqb}
use Rattle.table.specs.Kept.{owns, wait_to, wait}
use Rattle.table.specs.Turns.{turn, turn_of, free, is_party, assigned, released}
use Rattle.table.specs.Offsets.{turn_is, free_at}
use Rattle.table.specs.Periods.{Fits, next}

most_to : (n : ℕ) (owner : ℕ → Option ℕ) (q k : ℕ) → wait_to n owner q k ≤ n
most_to zero owner q k = omega arith
most_to (suc n) owner q k = way (owns owner q k) (most_to n owner q (k + 1))
  where
    way : (b : Bool) → wait_to n owner q (k + 1) ≤ n → cond b 0 (suc (wait_to n owner q (k + 1))) ≤ suc n
    way true r = omega arith
    way false r = omega arith

-- no wait is above 128
pub wait_most : (owner : ℕ → Option ℕ) (q k : ℕ) → wait owner q k ≤ 128
unfolding wait
wait_most owner q k = most_to 128 owner q k

end_to : (n : ℕ) (owner : ℕ → Option ℕ) (q k : ℕ) → wait_to n owner q k < n → owns owner q (k + wait_to n owner q k) ≡ true
end_to zero owner q k h = absurd (omega arith)
end_to (suc n) owner q k h = way (owns owner q k) refl h (end_to n owner q (k + 1))
  where
    way : (b : Bool) → owns owner q k ≡ b → cond b 0 (suc (wait_to n owner q (k + 1))) < suc n → (wait_to n owner q (k + 1) < n → owns owner q (k + 1 + wait_to n owner q (k + 1)) ≡ true)
        → owns owner q (k + cond b 0 (suc (wait_to n owner q (k + 1)))) ≡ true
    way true t l r = let e : k + 0 ≡ k = omega arith in ap (owns owner q) e ∙ t
    way false t l r =
        let w = wait_to n owner q (k + 1) in
        let s : w < n = omega arith in
        let e : k + suc w ≡ k + 1 + w = omega arith in
        ap (owns owner q) e ∙ r s

-- the wait ends at a turn of the party's
pub wait_end : (owner : ℕ → Option ℕ) (q k : ℕ) → wait owner q k < 128 → owns owner q (k + wait owner q k) ≡ true
unfolding wait
wait_end owner q k h = end_to 128 owner q k h

le_to : (n : ℕ) (owner : ℕ → Option ℕ) (q k j : ℕ) → owns owner q (k + j) ≡ true → wait_to n owner q k ≤ j
le_to zero owner q k j t = omega arith
le_to (suc n) owner q k zero t = let e : k + zero ≡ k = omega arith in subst (λ b. cond b 0 (suc (wait_to n owner q (k + 1))) ≤ zero) (sym (ap (owns owner q) (sym e) ∙ t)) (omega arith)
le_to (suc n) owner q k (suc j) t = let e : k + 1 + j ≡ k + suc j = omega arith in way (owns owner q k) (le_to n owner q (k + 1) j (ap (owns owner q) e ∙ t))
  where
    way : (b : Bool) → wait_to n owner q (k + 1) ≤ j → cond b 0 (suc (wait_to n owner q (k + 1))) ≤ suc j
    way true r = omega arith
    way false r = omega arith

-- and at the first
pub wait_le : (owner : ℕ → Option ℕ) (q k j : ℕ) → owns owner q (k + j) ≡ true → wait owner q k ≤ j
unfolding wait
wait_le owner q k j t = le_to 128 owner q k j t

same_to : (n : ℕ) (f g : ℕ → Option ℕ) (q k : ℕ) → ((j : ℕ) → is_party q (f j) ≡ is_party q (g j)) → wait_to n f q k ≡ wait_to n g q k
same_to zero f g q k h = refl
same_to (suc n) f g q k h =
    ap (λ b. cond b 0 (suc (wait_to n f q (k + 1)))) (h (turn k)) ∙ ap (λ w. cond (owns g q k) 0 (suc w)) (same_to n f g q (k + 1) h)

-- it hangs on the party's own turns alone
pub wait_same : (f g : ℕ → Option ℕ) (q k : ℕ) → ((j : ℕ) → is_party q (f j) ≡ is_party q (g j)) → wait f q k ≡ wait g q k
unfolding wait
wait_same f g q k h = same_to 128 f g q k h

-- with the turns of an offset a party waits less than the period
pub wait-assigned : (owner : ℕ → Option ℕ) (s d p o q k : ℕ) → Fits s d p → o < p → wait (assigned owner p o q) q k < p
wait-assigned owner s d p o q k f h =
    let n = next p o k h in
    let l : turn (k + n.0) < 128 = mod-lt (k + n.0) (omega arith) in
    let t = turn_is p o (turn (k + n.0)) l (f.whole (k + n.0) ∙ n.2) in
    let e : owns (assigned owner p o q) q (k + n.0) ≡ true = ap (λ b. is_party q (cond b (Some q) (owner (turn (k + n.0))))) t ∙ eq-eqb q q refl in
    omega (arith, wait_le (assigned owner p o q) q k n.0 e, n.1)

-- free turns that are taken are no other party's
pub others_assigned : (owner : ℕ → Option ℕ) (p o q r : ℕ) → free owner p o ≡ true → (r ≢ q) → (j : ℕ) → is_party r (assigned owner p o q j) ≡ is_party r (owner j)
others_assigned owner p o q r f ne j = way (turn_of p o j) refl
  where
    way : (b : Bool) → turn_of p o j ≡ b → is_party r (cond b (Some q) (owner j)) ≡ is_party r (owner j)
    way true t = ne_eqb q r (λ e. ne (sym e)) ∙ sym (ap (is_party r) (free_at owner p o j f t))
    way false t = refl

-- nor are those that are given back
pub others_released : (owner : ℕ → Option ℕ) (q r : ℕ) → (r ≢ q) → (j : ℕ) → is_party r (released owner q j) ≡ is_party r (owner j)
others_released owner q r ne j = way (owner j)
  where
    here : (x : ℕ) (b : Bool) → (x == q) ≡ b → is_party r (cond b None (Some x)) ≡ (x == r)
    here x true t = sym (ne_eqb x r (λ e. ne (sym e ∙ eqb-true x q t)))
    here x false t = refl

    way : (o : Option ℕ) → is_party r (cond (is_party q o) None o) ≡ is_party r o
    way None = refl
    way (Some x) = here x (x == q) refl
