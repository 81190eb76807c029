-- What each call keeps of the slots that suffice for a level.
use Rattle.std.specs.Prelude.{◌≡◌, ℕ, zero, suc, ◌+◌, ◌-◌, ◌*◌, ◌^◌, ◌<◌, ◌≤◌, max, Bool, true, false, cond, List, length, Some, None, sum_by, Option, ◌==◌, nat_le, nat_lt, slice_index_or, slice_set, refl}
use Rattle.std.proofs.Common.{ap, subst, ◌∙◌, inl, inr, arith}
use Rattle.std.proofs.lemmas.Nat.{pow_pos}
use Rattle.std.proofs.lemmas.List.Sums.{sum_by-set, sum_by-le-sum_by}
use Rattle.std.proofs.lemmas.Bool.{both_ways, leb-true, le-leb, eqb-true, eq-eqb, le-ltb, cond_both, cases_lt}
use Rattle.std.proofs.lemmas.Bool.Decides.{nat_tests}
use Rattle.order.specs.First.{foremost}
use Rattle.scheduler.specs.declared.terms.Contract.{Contract}
use Rattle.scheduler.specs.Meaning.{some_below, stamped}
use Rattle.scheduler.specs.Tables.{spacing_or}
use Rattle.scheduler.proofs.Holds.{below_true}
use Rattle.backlog.specs.declared.held.Held.{Held}
use Rattle.backlog.specs.Cells.{Taken}
use Rattle.demand.specs.Counts.{jobs, ceil}
use Rattle.demand.specs.Totals.{each_of}
use Rattle.demand.specs.Cells.{next_slot}
use Rattle.sp.specs.Levels.{level, level_of, share, shares, precedes}
use Rattle.sp.specs.Ends.{arriving, low, stale, suffices, has_end}
use Rattle.sp.specs.Firsts.{lowest}
use Rattle.demand.proofs.Counts.{jobs_least, jobs_mono, jobs_next, ceil_reach}
use Rattle.demand.proofs.Spacing.{next_from, next_later}
use Rattle.demand.proofs.Sums.{sum_le, sum_zero}

-- every contract of a table has a spacing
abbrev Spacings : List (Option Contract) → Type 0
Spacings cs = (p : ℕ) → 1 ≤ spacing_or (slice_index_or cs p None)

-- the span that is found
below_some : (n : ℕ) (f : ℕ → Bool) → some_below n f ≡ true → (k : ℕ) × (k < n) × (f k ≡ true)
below_some zero f h = absurd (both_ways false refl h)
below_some (suc n) f h = way (f n) refl h (below_some n f)
  where
    way : (b : Bool) → f n ≡ b → cond b true (some_below n f) ≡ true → (some_below n f ≡ true → (k : ℕ) × (k < n) × (f k ≡ true)) → (k : ℕ) × (k < suc n) × (f k ≡ true)
    way true t e r = (n, omega arith, t)
    way false t e r = let q = r e in (q.0, (let l = q.1 in omega arith), q.2)

both : (a b : Bool) → cond a b false ≡ true → (a ≡ true) × (b ≡ true)
both true b e = (refl, e)
both false b e = absurd (both_ways false refl e)

-- the cells of level l or lower that are held or may still be put within k slots
abbrev load : ℕ → List (Option Contract) → List Held → ℕ → ℕ → ℕ
load l cs xs t k = sum_by (low l) xs + sum_by (arriving l t (t + k)) cs

ends : (l : ℕ) (cs : List (Option Contract)) (xs : List Held) (t k : ℕ) → k ≤ 2 ^ l → load l cs xs t k ≤ k → sum_by (stale l (t + k)) xs ≡ 0 → has_end l cs xs t ≡ true
unfolding has_end
ends l cs xs t k h a z = below_true (2 ^ l + 1) (suffices l cs xs t) k (omega arith) (ap (λ b. cond b (sum_by (stale l (t + k)) xs == 0) false) (le-leb (load l cs xs t k) k a) ∙ eq-eqb (sum_by (stale l (t + k)) xs) 0 z)

end_of : (l : ℕ) (cs : List (Option Contract)) (xs : List Held) (t : ℕ) → has_end l cs xs t ≡ true → (k : ℕ) × (k ≤ 2 ^ l) × (load l cs xs t k ≤ k) × (sum_by (stale l (t + k)) xs ≡ 0)
unfolding has_end
end_of l cs xs t h =
    let r = below_some (2 ^ l + 1) (suffices l cs xs t) h in
    let k = r.0 in
    let b = both (nat_le (load l cs xs t k) k) (sum_by (stale l (t + k)) xs == 0) r.2 in
    (k, (let lt = r.1 in omega arith), leb-true (load l cs xs t k) k b.0, eqb-true (sum_by (stale l (t + k)) xs) 0 b.1)

-- one contract: what may still come

pick_le : (q : Bool) (a b : ℕ) → a ≤ b → cond q a 0 ≤ cond q b 0
pick_le true a b h = h
pick_le false a b h = omega arith

arrive_reach : (n s t m : ℕ) → 1 ≤ s → t ≤ m → jobs (m + 1) s (t + n) ≤ ceil n s
arrive_reach n s t m h le = jobs_least (m + 1) s (t + n) (ceil n s) h (step (ceil n s) (ceil_reach n s h))
  where
    step : (k : ℕ) → n ≤ k * s → t + n < m + 1 + k * s
    step k q = omega arith

arriving-share : (l t n : ℕ) (o : Option Contract) → 1 ≤ spacing_or o → arriving l t (t + n) o ≤ each_of (share l n) o
arriving-share l t n None h = omega arith
arriving-share l t n (Some c) h = pick_le (nat_le (level c.bound.0) l) _ _ (arrive_reach n c.spacing.0 t (next_slot t c.spacing.0 c.last) h (next_from t c.spacing.0 c.last))

arriving_later : (l t u b : ℕ) (o : Option Contract) → t ≤ u → 1 ≤ spacing_or o → arriving l u b o ≤ arriving l t b o
arriving_later l t u b None le h = omega arith
arriving_later l t u b (Some c) le h =
    let n = next_later t u c.spacing.0 c.last le in
    pick_le (nat_le (level c.bound.0) l) _ _ (jobs_mono (next_slot t c.spacing.0 c.last + 1) (next_slot u c.spacing.0 c.last + 1) c.spacing.0 b b h (omega arith))

arriving_none : (l t : ℕ) (o : Option Contract) → 1 ≤ spacing_or o → arriving l t (t + 0) o ≡ 0
arriving_none l t None h = refl
arriving_none l t (Some c) h =
    let n = next_from t c.spacing.0 c.last in
    let z = jobs_least (next_slot t c.spacing.0 c.last + 1) c.spacing.0 (t + 0) 0 h (omega arith) in
    cond_both (nat_le (level c.bound.0) l) (jobs (next_slot t c.spacing.0 c.last + 1) c.spacing.0 (t + 0)) 0 (λ k. k ≡ 0) (λ _. omega arith) (λ _. refl)

pick_step : (q : Bool) (a b : ℕ) → (q ≡ true → 1 + a ≤ b) → cond q 1 0 + cond q a 0 ≤ cond q b 0
pick_step true a b h = h refl
pick_step false a b h = omega arith

-- one put: the new cell was the first that might come
arriving_put : (l t b : ℕ) (c : Contract) → 1 ≤ c.spacing.0 → next_slot t c.spacing.0 c.last ≡ t → t < b
    → cond (nat_le (level c.bound.0) l) 1 0 + arriving l t b (Some (stamped c t)) ≤ arriving l t b (Some c)
arriving_put l t b c h now lt =
    pick_step (nat_le (level c.bound.0) l) _ _
    (λ _. (let m = jobs_next (next_slot t c.spacing.0 c.last + 1) (max t (t + c.spacing.0) + 1) c.spacing.0 b b h (omega arith) (omega arith) in omega arith))

-- all contracts

sum_none : (cs : List (Option Contract)) (l t : ℕ) → Spacings cs → sum_by (arriving l t (t + 0)) cs ≡ 0
sum_none cs l t h = sum_zero (arriving l t (t + 0)) cs None (λ i _. arriving_none l t (slice_index_or cs i None) (h i))

sum_later : (cs : List (Option Contract)) (l t u b : ℕ) → Spacings cs → t ≤ u → sum_by (arriving l u b) cs ≤ sum_by (arriving l t b) cs
sum_later cs l t u b h le = sum_le (arriving l u b) (arriving l t b) cs None (λ i _. arriving_later l t u b (slice_index_or cs i None) le (h i))

sum_share : (cs : List (Option Contract)) (l t : ℕ) → Spacings cs → sum_by (arriving l t (t + 2 ^ l)) cs ≤ shares cs l
sum_share cs l t h = sum_le (arriving l t (t + 2 ^ l)) (each_of (share l (2 ^ l))) cs None (λ i _. arriving-share l t (2 ^ l) (slice_index_or cs i None) (h i))

-- held cells

stale-low : (l b : ℕ) (x : Held) → stale l b x ≤ low l x
stale-low l b x = pick_le (nat_le (level_of x) l) _ 1 (cond_both (nat_lt (x.cell.eligible.0 + 2 ^ l) b) 1 0 (λ k. k ≤ 1) (λ _. omega arith) (λ _. omega arith))

sum_stale : (xs : List Held) (l b : ℕ) → sum_by (stale l b) xs ≤ sum_by (low l) xs
sum_stale xs l b = sum_by-le-sum_by (stale l b) (low l) xs (stale-low l b)

level-low : (l : ℕ) (x : Held) → level_of x ≤ l → low l x ≡ 1
level-low l x h = ap (λ b. cond b 1 0) (le-leb (level_of x) l h)

-- where no cell of level l or lower is held, no slot is needed
pub starts : (l : ℕ) (cs : List (Option Contract)) (xs : List Held) (t : ℕ) → Spacings cs → sum_by (low l) xs ≡ 0 → has_end l cs xs t ≡ true
starts l cs xs t h z =
    let none = sum_none cs l t h in
    let old = sum_stale xs l (t + 0) in
    ends l cs xs t 0 (omega arith) (omega arith) (omega arith)

-- a slot passes in which the first in the order is served
pub serves : (l : ℕ) (cs : List (Option Contract)) (xs ys : List Held) (x : Held) (t : ℕ) → Spacings cs → foremost precedes xs ≡ Some x → Taken xs (Some x) ys → has_end l cs xs t ≡ true → has_end l cs ys (t + 1) ≡ true
serves l cs xs ys x t h first taken old =
    let one = taken (low l) in
    elim (cases_lt 0 (sum_by (low l) xs)) [
      | inl some ↦
          let r = end_of l cs xs t old in
          let k = r.0 in
          let few = r.2 in
          let own = level-low l x (lowest xs x l first some) in
          let e : t + 1 + (k - 1) ≡ t + k = omega arith in
          let same : sum_by (arriving l (t + 1) (t + 1 + (k - 1))) cs ≡ sum_by (arriving l (t + 1) (t + k)) cs = ap (λ b. sum_by (arriving l (t + 1) b) cs) e in
          let later = sum_later cs l t (t + 1) (t + k) h (omega arith) in
          let rest = taken (stale l (t + k)) in
          let none = r.3 in
          let fresh : sum_by (stale l (t + 1 + (k - 1))) ys ≡ 0 = ap (λ b. sum_by (stale l b) ys) e ∙ omega arith in
          ends l cs ys (t + 1) (k - 1) (let m = r.1 in omega arith) (omega arith) fresh
      | inr none ↦ starts l cs ys (t + 1) h (omega arith)
    ]

-- a put: a cell comes that might come, by a contract that may put now
pub puts : (l : ℕ) (cs : List (Option Contract)) (xs ys : List Held) (x : Held) (t p : ℕ) (c : Contract) → Spacings cs → shares cs l ≤ 2 ^ l
    → p < length cs → slice_index_or cs p None ≡ Some c → next_slot t c.spacing.0 c.last ≡ t
    → ((f : Held → ℕ) → sum_by f ys ≡ sum_by f xs + f x) → x.bound.0 ≡ c.bound.0 → x.cell.eligible.0 ≡ t
    → has_end l cs xs t ≡ true → has_end l (slice_set cs p (Some (stamped c t))) ys t ≡ true
puts l cs xs ys x t p c h test within at now more bound eligible old =
    elim (cases_lt 0 (sum_by (low l) xs)) [
      | inl some ↦
          let r = end_of l cs xs t old in
          let few = r.2 in
          keep r.0 r.1 (omega arith) few r.3
      | inr none ↦
          let all = sum_share cs l t h in
          let old = sum_stale xs l (t + 2 ^ l) in
          keep (2 ^ l) (omega arith) (omega (arith, pow_pos l)) (omega arith) (omega arith)
    ]
  where
    new : List (Option Contract)
    new = slice_set cs p (Some (stamped c t))

    not_stale : (k : ℕ) → k ≤ 2 ^ l → stale l (t + k) x ≡ 0
    not_stale k most =
        cond_both (nat_le (level_of x) l) (cond (nat_lt (x.cell.eligible.0 + 2 ^ l) (t + k)) 1 0) 0 (λ n. n ≡ 0)
        (λ _. ap (λ b. cond b 1 0) (le-ltb (x.cell.eligible.0 + 2 ^ l) (t + k) (omega arith)))
        (λ _. refl)

    spacing : 1 ≤ c.spacing.0
    spacing = subst (λ o. 1 ≤ spacing_or o) at (h p)

    keep : (k : ℕ) → k ≤ 2 ^ l → 1 ≤ k → load l cs xs t k ≤ k → sum_by (stale l (t + k)) xs ≡ 0 → has_end l new ys t ≡ true
    keep k most least few none =
        let set1 = sum_by-set (arriving l t (t + k)) cs p (Some (stamped c t)) None within in
        let was = ap (arriving l t (t + k)) at in
        let one = arriving_put l t (t + k) c spacing now (omega arith) in
        let own : low l x ≡ cond (nat_le (level c.bound.0) l) 1 0 = ap (λ d. cond (nat_le (level d) l) 1 0) bound in
        let cells = more (low l) in
        let fresh : stale l (t + k) x ≡ 0 = not_stale k most in
        let rest = more (stale l (t + k)) in
        ends l new ys t k most (omega arith) (omega arith)

-- a contract is taken away
pub withdraws : (l : ℕ) (cs : List (Option Contract)) (xs : List Held) (t p : ℕ) → p < length cs → has_end l cs xs t ≡ true → has_end l (slice_set cs p None) xs t ≡ true
withdraws l cs xs t p within old =
    let r = end_of l cs xs t old in
    let few = r.2 in
    let less = sum_by-set (arriving l t (t + r.0)) cs p None None within in
    ends l (slice_set cs p None) xs t r.0 r.1 (omega arith) r.3

-- a held cell may still be sent in slot t
pub in_time : (cs : List (Option Contract)) (xs : List Held) (t : ℕ) (x : Held) → ((f : Held → ℕ) → f x ≤ sum_by f xs) → has_end (level_of x) cs xs t ≡ true → t + 1 ≤ x.cell.eligible.0 + 2 ^ level_of x
in_time cs xs t x held old =
    let l = level_of x in
    let r = end_of l cs xs t old in
    let few = r.2 in
    let none = r.3 in
    let one = held (low l) in
    let own : low l x ≡ 1 = level-low l x (omega arith) in
    let rest = held (stale l (t + r.0)) in
    let late = ltb_late (x.cell.eligible.0 + 2 ^ l) (t + r.0) (nat_le l l) (le-leb l l (omega arith)) (omega arith) in
    omega arith
  where
    ltb_late : (a b : ℕ) (q : Bool) → q ≡ true → cond q (cond (nat_lt a b) 1 0) 0 ≤ 0 → b ≤ a
    ltb_late a b q e h = grind (arith, nat_tests)
