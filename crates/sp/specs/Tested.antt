-- What the test of the levels at which a contract stands gives of every level.
use Rattle.std.specs.Prelude.{◌≡◌, ℕ, zero, suc, ◌+◌, ◌*◌, ◌^◌, ◌<◌, ◌≤◌, false, cond, ◌⊎◌, List, length, Some, None, Option, nat_lt, slice_index_or, refl}
use Rattle.std.proofs.Common.{sym, ap, ◌∙◌, inl, inr, pow-suc, arith}
use Rattle.std.proofs.lemmas.List.Sums.{get_or-le-sum_by}
use Rattle.std.proofs.lemmas.Bool.{ne_eqb, lt-ltb, le-ltb, ltb-false, cond_both, cases_lt}
use Rattle.std.proofs.lemmas.Bool.Decides.{nat_tests}
use Rattle.scheduler.specs.declared.terms.Contract.{Contract}
use Rattle.scheduler.specs.Tables.{spacing_or}
use Rattle.scheduler.proofs.Holds.{below_false, none_below}
use Rattle.demand.specs.Counts.{ceil}
use Rattle.demand.specs.Totals.{each_of, total_of}
use Rattle.sp.specs.Levels.{level, one_at, share, standing, shares, overfull, levels_exceeded}
use Rattle.demand.proofs.Counts.{ceil_reach, ceil_least}
use Rattle.demand.proofs.Sums.{sum_zero, sum_le_add}
use Rattle.sp.specs.Powers.{level_most}

-- twice the slots are twice the cells at most
ceil_twice : (n s : ℕ) → 1 ≤ s → ceil (n + n) s ≤ ceil n s + ceil n s
ceil_twice n s h = ceil_least (n + n) s (ceil n s + ceil n s) h (twice (ceil n s) (ceil_reach n s h))
  where
    twice : (k : ℕ) → n ≤ k * s → n + n ≤ (k + k) * s
    twice k q = omega arith

-- a contract that does not stand at the next level has at most twice its share there
share_next : (l n : ℕ) (o : Option Contract) → 1 ≤ spacing_or o → each_of (one_at (suc l)) o ≡ 0 → each_of (share (suc l) (n + n)) o ≤ each_of (share l n) o + each_of (share l n) o
share_next l n None h e = omega arith
share_next l n (Some c) h e = let twice = ceil_twice n c.spacing.0 h in grind (arith, nat_tests)

-- one that does not stand at level 0 has none there
share_first : (n : ℕ) (o : Option Contract) → each_of (one_at 0) o ≡ 0 → each_of (share 0 n) o ≡ 0
share_first n None e = refl
share_first n (Some c) e = grind (arith, nat_tests)

-- where none stands at a level, each contract stands at another
none_at : (cs : List (Option Contract)) (l i : ℕ) → standing cs l ≡ 0 → i < length cs → each_of (one_at l) (slice_index_or cs i None) ≡ 0
none_at cs l i z h = let one = get_or-le-sum_by (each_of (one_at l)) cs i None h in omega arith

-- none stands above level 7
none_above : (cs : List (Option Contract)) (l : ℕ) → 7 < l → standing cs l ≡ 0
none_above cs l h = sum_zero (each_of (one_at l)) cs None (λ i _. one (slice_index_or cs i None))
  where
    one : (o : Option Contract) → each_of (one_at l) o ≡ 0
    one None = refl
    one (Some c) = let m = level_most c.bound.0 in ap (λ b. cond b 1 0) (ne_eqb (level c.bound.0) l (λ e. omega arith))

-- a level at which a contract stands and that is not overfull
not_overfull : (cs : List (Option Contract)) (l : ℕ) → overfull cs l ≡ false → 0 < standing cs l → shares cs l ≤ 2 ^ l
not_overfull cs l e s = ltb-false (2 ^ l) (shares cs l) (sym (ap (λ b. cond b (nat_lt (2 ^ l) (shares cs l)) false) (lt-ltb 0 (standing cs l) s)) ∙ e)

-- by the test no level is overfull, whether a contract stands there or not
pub all_levels : (cs : List (Option Contract)) → ((p : ℕ) → 1 ≤ spacing_or (slice_index_or cs p None)) → levels_exceeded cs ≡ false → (l : ℕ) → shares cs l ≤ 2 ^ l
unfolding levels_exceeded
all_levels cs spaced e l = go l (cases_lt 0 (standing cs l))
  where
    tested : (l : ℕ) → 0 < standing cs l → shares cs l ≤ 2 ^ l
    tested l s =
        elim (cases_lt l 8) [
          | inl h ↦ not_overfull cs l (none_below 8 (overfull cs) e l h) s
          | inr h ↦ absurd (let z = none_above cs l (omega arith) in omega arith)
        ]

    go : (l : ℕ) → (0 < standing cs l) ⊎ (standing cs l ≤ 0) → shares cs l ≤ 2 ^ l
    go l (inl s) = tested l s
    go zero (inr s) =
        let none : shares cs 0 ≡ 0 = sum_zero (each_of (share 0 (2 ^ 0))) cs None (λ i h. share_first (2 ^ 0) (slice_index_or cs i None) (none_at cs 0 i (omega arith) h)) in
        omega arith
    go (suc l) (inr s) =
        let ih = go l (cases_lt 0 (standing cs l)) in
        let two : 2 ^ suc l ≡ 2 ^ l + 2 ^ l = omega (arith, pow-suc 2 l) in
        let sum = sum_le_add (each_of (share (suc l) (2 ^ l + 2 ^ l))) (each_of (share l (2 ^ l))) (each_of (share l (2 ^ l))) cs None (λ i h. share_next l (2 ^ l) (slice_index_or cs i None) (spaced i) (none_at cs (suc l) i (omega arith) h)) in
        let is : shares cs (suc l) ≡ total_of (share (suc l) (2 ^ l + 2 ^ l)) cs = ap (λ n. total_of (share (suc l) n) cs) two in
        omega arith

-- and where none is, the test is passed
pub none_exceeded : (cs : List (Option Contract)) → ((l : ℕ) → shares cs l ≤ 2 ^ l) → levels_exceeded cs ≡ false
unfolding levels_exceeded
none_exceeded cs h = below_false 8 (overfull cs) (λ l _. (cond_both (nat_lt 0 (standing cs l)) (nat_lt (2 ^ l) (shares cs l)) false (λ b. b ≡ false) (λ _. le-ltb (2 ^ l) (shares cs l) (h l)) (λ _. refl)))
