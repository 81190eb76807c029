-- The hops that a contract crosses, what lies behind each, and how a tick moves a cell.
use Rattle.std.proofs.Common.{◌≡◌, ℕ, zero, suc, ◌+◌, ◌<◌, ◌≤◌, true, false, cond, eqb, List, [], ◌∷◌, length, get_or, Some, None, Option, sym, refl, ap, ◌∙◌, subst, add-zero, arith}
use Rattle.std.proofs.lemmas.Bool.{cond_both, eqb-true, eqb-false, both_ways}
use Rattle.header.specs.declared.Header.{Header}
use Rattle.paths.specs.Route.{cost, constant, rest, deadline, at_end, next, names, further, moved}

next_short : (ds : List ℕ) → next ds ≤ length ds
next_short [] = omega arith
next_short (d ∷ ds) = cond_both (eqb d 0) (suc (next ds)) 0 (λ n. n ≤ suc (length ds)) (λ _. omega (arith, next_short ds)) (λ _. omega arith)

-- the first hop that is crossed is a hop or the end
pub next_within : (gs ds : List ℕ) → length ds ≡ length gs → next ds ≤ length gs
next_within gs ds e = omega (arith, next_short ds)

next_least : (ds : List ℕ) → next ds < length ds → 1 ≤ get_or ds (next ds) 0
next_least [] = λ h. absurd (omega arith)
next_least (d ∷ ds) =
    cond_both (eqb d 0) (suc (next ds)) 0 (λ n. n < suc (length ds) → 1 ≤ get_or (d ∷ ds) n 0)
    (λ _ h. next_least ds (omega arith))
    (λ f h. omega (arith, eqb-false d 0 f))

-- and is crossed if it is a hop
pub next_crossed : (gs ds : List ℕ) → length ds ≡ length gs → next ds < length gs → 1 ≤ get_or ds (next ds) 0
next_crossed gs ds e h = next_least ds (omega arith)

cost_none : (g d : ℕ) → eqb d 0 ≡ true → cost g d ≡ 0
cost_none g d e = ap (λ b. cond b 0 (d + g)) e

cost_least : (g d : ℕ) → d ≤ cost g d
cost_least g d = cond_both (eqb d 0) 0 (d + g) (λ n. d ≤ n) (λ e. omega (arith, eqb-true d 0 e)) (λ e. omega arith)

-- nothing lies in front of the first hop that is crossed
pub rest_next : (gs ds : List ℕ) → length ds ≡ length gs → rest gs ds (next ds) ≡ constant gs ds
rest_next [] ds e = refl
rest_next (g ∷ gs) [] e = refl
rest_next (g ∷ gs) (d ∷ ds) e =
    cond_both (eqb d 0) (suc (next ds)) 0 (λ n. rest (g ∷ gs) (d ∷ ds) n ≡ cost g d + constant gs ds)
    (λ f. omega (arith, rest_next gs ds (omega arith), cost_none g d f))
    (λ _. refl)

-- a cell that is eligible in slot e at the first hop that it crosses is not due there below e
pub deadline_next : (gs ds : List ℕ) (e : ℕ) → length ds ≡ length gs → e ≤ deadline gs ds (e + constant gs ds) (next ds)
deadline_next gs ds e h = far gs ds (e + constant gs ds) h refl
  where
    far : (gs ds : List ℕ) (v : ℕ) → length ds ≡ length gs → v ≡ e + constant gs ds → e ≤ deadline gs ds v (next ds)
    far [] ds v h q = omega arith
    far (g ∷ gs) [] v h q = omega arith
    far (g ∷ gs) (d ∷ ds) v h q =
        cond_both (eqb d 0) (suc (next ds)) 0 (λ n. e ≤ deadline (g ∷ gs) (d ∷ ds) v n)
        (λ f. far gs ds v (omega arith) (omega (arith, cost_none g d f)))
        (λ f. omega (arith, eqb-false d 0 f))

-- the end is where no hop is left
pub end_at : (gs : List ℕ) (k : ℕ) → k ≤ length gs → at_end gs k ≡ true → k ≡ length gs
end_at [] k h e = omega arith
end_at (g ∷ gs) zero h e = absurd (both_ways false refl e)
end_at (g ∷ gs) (suc k) h e = ap suc (end_at gs k (omega arith) e)

pub end_not : (gs : List ℕ) (k : ℕ) → at_end gs k ≡ false → k < length gs
end_not [] k e = absurd (both_ways true e refl)
end_not (g ∷ gs) zero e = omega arith
end_not (g ∷ gs) (suc k) e = omega (arith, end_not gs k e)

pub not_end : (gs : List ℕ) (k : ℕ) → k < length gs → at_end gs k ≡ false
not_end [] k h = absurd (omega arith)
not_end (g ∷ gs) zero h = refl
not_end (g ∷ gs) (suc k) h = not_end gs k (omega arith)

-- nothing lies behind the end, and there a cell stands until it leaves
pub rest_end : (gs ds : List ℕ) → rest gs ds (length gs) ≡ 0
rest_end [] ds = refl
rest_end (g ∷ gs) [] = refl
rest_end (g ∷ gs) (d ∷ ds) = rest_end gs ds

pub deadline_end : (gs ds : List ℕ) (v : ℕ) → deadline gs ds v (length gs) ≡ v
deadline_end [] ds v = refl
deadline_end (g ∷ gs) [] v = refl
deadline_end (g ∷ gs) (d ∷ ds) v = deadline_end gs ds v

-- behind a hop lies a part of the path
pub rest_most : (gs ds : List ℕ) (k : ℕ) → rest gs ds k ≤ constant gs ds
rest_most [] ds k = omega arith
rest_most (g ∷ gs) [] k = omega arith
rest_most (g ∷ gs) (d ∷ ds) zero = omega arith
rest_most (g ∷ gs) (d ∷ ds) (suc k) = omega (arith, rest_most gs ds k)

-- a cell is due before it leaves
pub deadline_most : (gs ds : List ℕ) (v k : ℕ) → length ds ≡ length gs → rest gs ds k ≤ v → deadline gs ds v k ≤ v
deadline_most [] ds v k e h = omega arith
deadline_most (g ∷ gs) [] v k e h = omega arith
deadline_most (g ∷ gs) (d ∷ ds) v zero e h = omega (arith, cost_least g d)
deadline_most (g ∷ gs) (d ∷ ds) v (suc k) e h = deadline_most gs ds v k (omega arith) h

-- at the end a cell is gone in slot v, and stays in any other
pub moved_end : (n : ℕ) (gs ds : List ℕ) (ss : List (Option Header)) (t p v : ℕ) → length ds ≡ length gs → moved n gs ds ss t p v (length gs) ≡ cond (eqb v t) None (Some (length gs))
moved_end n [] ds ss t p v e = refl
moved_end n (g ∷ gs) [] ss t p v e = absurd (omega arith)
moved_end n (g ∷ gs) (d ∷ ds) ss t p v e =
    ap further (moved_end (suc n) gs ds ss t p v (omega arith))
    ∙ cond_both (eqb v t) None (Some (length gs)) (λ o. further o ≡ cond (eqb v t) None (Some (suc (length gs)))) (λ f. ap (λ b. cond b None (Some (suc (length gs)))) (sym f)) (λ f. ap (λ b. cond b None (Some (suc (length gs)))) (sym f))

-- how a tick moves a cell from hop k: `o` is the hop after it, if it is not gone. Hop k is the number n + k of the send table
pub data Step (n : ℕ) (gs ds : List ℕ) (ss : List (Option Header)) (t p v k : ℕ) : Option ℕ → Type 0 where
  gone : k ≡ length gs → v ≡ t → Step n gs ds ss t p v k None
  waits : k ≡ length gs → (v ≡ t → ⊥) → Step n gs ds ss t p v k (Some k)
  stays : k < length gs → names (get_or ss (n + k) None) t p (deadline gs ds v k) ≡ false → Step n gs ds ss t p v k (Some k)
  goes : (j : ℕ) → k < j → j ≤ length gs → (j < length gs → 1 ≤ get_or ds j 0) → rest gs ds j ≤ rest gs ds k → names (get_or ss (n + k) None) t p (deadline gs ds v k) ≡ true → Step n gs ds ss t p v k (Some j)

step_on : {n : ℕ} {gs ds : List ℕ} {ss : List (Option Header)} {t p v k : ℕ} {o : Option ℕ} (g d : ℕ) → Step (suc n) gs ds ss t p v k o → Step n (g ∷ gs) (d ∷ ds) ss t p v (suc k) (further o)
step_on g d (gone a b) = gone (ap suc a) b
step_on g d (waits a b) = waits (ap suc a) b
step_on {n} {gs} {ds} {ss} {t} {p} {v} {k} g d (stays a b) = stays (omega arith) (let e : suc n + k ≡ n + suc k = omega arith in subst (λ i. names (get_or ss i None) t p (deadline gs ds v k) ≡ false) e b)
step_on {n} {gs} {ds} {ss} {t} {p} {v} {k} g d (goes j a b c r e) = goes (suc j) (omega arith) (omega arith) (λ h. c (omega arith)) r (let q : suc n + k ≡ n + suc k = omega arith in subst (λ i. names (get_or ss i None) t p (deadline gs ds v k) ≡ true) q e)

pub step_is : (n : ℕ) (gs ds : List ℕ) (ss : List (Option Header)) (t p v k : ℕ) → length ds ≡ length gs → k ≤ length gs → Step n gs ds ss t p v k (moved n gs ds ss t p v k)
step_is n [] ds ss t p v k e h = cond_both (eqb v t) None (Some k) (Step n [] ds ss t p v k) (λ f. gone (omega arith) (eqb-true v t f)) (λ f. waits (omega arith) (eqb-false v t f))
step_is n (g ∷ gs) [] ss t p v k e h = absurd (omega arith)
step_is n (g ∷ gs) (d ∷ ds) ss t p v zero e h =
    cond_both (names (get_or ss n None) t p (deadline (g ∷ gs) (d ∷ ds) v zero)) (suc (next ds)) zero (λ j. Step n (g ∷ gs) (d ∷ ds) ss t p v zero (Some j))
    (λ f. goes (suc (next ds)) (omega arith) (omega (arith, next_short ds)) (λ l. next_least ds (omega arith)) (omega (arith, rest_next gs ds (omega arith))) (rw add-zero f))
    (λ f. stays (omega arith) (rw add-zero f))
step_is n (g ∷ gs) (d ∷ ds) ss t p v (suc k) e h = step_on g d (step_is (suc n) gs ds ss t p v k (omega arith) (omega arith))
