-- The lowest bad bound, hop by hop.
use Rattle.std.proofs.Common.{◌≡◌, ℕ, zero, suc, ◌+◌, ◌-◌, ◌<◌, ◌≤◌, cond, eqb, ltb, List, [], ◌∷◌, length, drop, MatchOption, Some, None, Option, sym, refl, ap, ◌∙◌, inl, inr, arith}
use Rattle.std.proofs.lemmas.Bool.{cases_lt, cond-true, cond-false, lt-ltb, le-ltb, eq-eqb, ne_eqb}
use Rattle.std.proofs.lemmas.List.{get_or_past}
use Rattle.cells.specs.declared.times.Span.{Span}
use Rattle.paths.specs.Verdicts.{bound, nonzero, bad_bound}

-- past the eight there is none
bound_past : (bs : List Span) (n : ℕ) → length bs ≤ n → bound bs n ≡ 0
bound_past bs n h = ap (λ (s : Span). s.0) (get_or_past bs n (record { 0 = 0 }) h)

nonzero_past : (bs : List Span) (i n : ℕ) → 8 ≤ n → i ≡ 8 - n → nonzero i n bs ≡ None
nonzero_past bs zero n h e = refl
nonzero_past bs (suc i) n h e = absurd (omega arith)

bad_past : (gs : List ℕ) (bs : List Span) (n : ℕ) → length bs ≡ 8 → 8 ≤ n → bad_bound n gs bs ≡ None
bad_past [] bs n l h = nonzero_past bs (8 - n) n h refl
bad_past (g ∷ gs) bs n l h =
    let z = bound_past bs n (omega arith) in
    cond-false (ltb 128 (bound bs n)) _ _ (le-ltb 128 (bound bs n) (omega arith)) ∙ bad_past gs bs (suc n) l (omega arith)

nonzero_at : (bs : List Span) (i n : ℕ) → i ≡ 8 - n → n < 8 → nonzero i n bs ≡ cond (eqb (bound bs n) 0) (nonzero (8 - suc n) (suc n) bs) (Some n)
nonzero_at bs zero n e h = absurd (omega arith)
nonzero_at bs (suc i) n e h = ap (λ j. cond (eqb (bound bs n) 0) (nonzero j (suc n) bs) (Some n)) (omega arith)

-- a bad bound is found
bad_here : (gs : List ℕ) (bs : List Span) (n j : ℕ) → n < 8 → (j < length gs → 128 < bound bs n) → (length gs ≤ j → 0 < bound bs n) → bad_bound n (drop j gs) bs ≡ Some n
bad_here [] bs n zero h a b = nonzero_at bs (8 - n) n refl h ∙ cond-false (eqb (bound bs n) 0) _ _ (ne_eqb (bound bs n) 0 (λ e. let k = b (omega arith) in omega arith))
bad_here [] bs n (suc j) h a b = nonzero_at bs (8 - n) n refl h ∙ cond-false (eqb (bound bs n) 0) _ _ (ne_eqb (bound bs n) 0 (λ e. let k = b (omega arith) in omega arith))
bad_here (g ∷ gs) bs n zero h a b = cond-true (ltb 128 (bound bs n)) _ _ (lt-ltb 128 (bound bs n) (a (omega arith)))
bad_here (g ∷ gs) bs n (suc j) h a b = bad_here gs bs n j h (λ l. a (omega arith)) (λ l. b (omega arith))

-- a good one leaves the rest
good_here : (gs : List ℕ) (bs : List Span) (n j : ℕ) → n < 8 → (j < length gs → bound bs n ≤ 128) → (length gs ≤ j → bound bs n ≡ 0) → bad_bound n (drop j gs) bs ≡ bad_bound (suc n) (drop (suc j) gs) bs
good_here [] bs n zero h a b = nonzero_at bs (8 - n) n refl h ∙ cond-true (eqb (bound bs n) 0) _ _ (eq-eqb (bound bs n) 0 (b (omega arith)))
good_here [] bs n (suc j) h a b = nonzero_at bs (8 - n) n refl h ∙ cond-true (eqb (bound bs n) 0) _ _ (eq-eqb (bound bs n) 0 (b (omega arith)))
good_here (g ∷ gs) bs n zero h a b = cond-false (ltb 128 (bound bs n)) _ _ (le-ltb 128 (bound bs n) (a (omega arith)))
good_here (g ∷ gs) bs n (suc j) h a b = good_here gs bs n j h (λ l. a (omega arith)) (λ l. b (omega arith))

-- the greatest good bound of hop n, on h hops from f on
abbrev pub most_at : ℕ → ℕ → ℕ → ℕ
most_at f h n = cond (ltb (n - f) h) 128 0

module _ (gs : List ℕ) (bs : List Span) (f h : ℕ) (len : length gs ≡ h) where
  has : (n : ℕ) → n - f < length gs → most_at f h n ≡ 128
  has n l = cond-true (ltb (n - f) h) 128 0 (lt-ltb (n - f) h (omega arith))

  lacks : (n : ℕ) → length gs ≤ n - f → most_at f h n ≡ 0
  lacks n l = cond-false (ltb (n - f) h) 128 0 (le-ltb (n - f) h (omega arith))

  -- good ones leave the rest
  good_until : (j : ℕ) → f + j ≤ 8 → ((k : ℕ) → f ≤ k → k < f + j → bound bs k ≤ most_at f h k) → bad_bound f gs bs ≡ bad_bound (f + j) (drop j gs) bs
  good_until zero l g = let e : f ≡ f + 0 = omega arith in ap (λ n. bad_bound n gs bs) e
  good_until (suc j) l g =
      let good = g (f + j) (omega arith) (omega arith) in
      let on : suc (f + j) ≡ f + suc j = omega arith in
      good_until j (omega arith) (λ k a b. g k a (omega arith))
      ∙ good_here gs bs (f + j) j (omega arith) (λ l. omega (arith, has (f + j) (omega arith))) (λ l. omega (arith, lacks (f + j) (omega arith)))
      ∙ ap (λ n. bad_bound n (drop (suc j) gs) bs) on

  -- the first that is bad, or none
  pub first_bad : length bs ≡ 8 → (r : Option ℕ) → MatchOption r ((k : ℕ) → f ≤ k → k < 8 → bound bs k ≤ most_at f h k) (λ i. (f ≤ i) × (i < 8) × (most_at f h i < bound bs i) × ((k : ℕ) → f ≤ k → k < i → bound bs k ≤ most_at f h k)) → r ≡ bad_bound f gs bs
  first_bad eight None good =
      elim (cases_lt 8 f) [
        | inl a ↦ sym (bad_past gs bs f eight (omega arith))
        | inr a ↦ sym (good_until (8 - f) (omega arith) (λ k b d. good k b (omega arith)) ∙ bad_past (drop (8 - f) gs) bs (f + (8 - f)) eight (omega arith))
      ]
  first_bad eight (Some i) m =
      let on : f + (i - f) ≡ i = omega (arith, m.0) in
      let bad = m.2 in
      sym (
      good_until (i - f) (omega (arith, m.0, m.1)) (λ k a b. m.3 k a (omega (arith, m.0)))
      ∙ ap (λ n. bad_bound n (drop (i - f) gs) bs) on
      ∙ bad_here gs bs i (i - f) m.1 (λ l. omega (arith, has i l)) (λ l. omega (arith, lacks i l)))
