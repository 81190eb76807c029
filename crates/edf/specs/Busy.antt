-- A test up to the end of a busy period is a test for ever.
use Rattle.std.specs.Prelude.{◌≡◌, ℕ, zero, suc, ◌+◌, ◌-◌, ◌<◌, ◌≤◌, Bool, true, false, leb, List, Some, None, Option, MatchOption, nat_le, nat_lt, slice_index_or, refl}
use Rattle.std.proofs.Common.{sym, ap, subst, ◌∙◌, ⊎_elim, arith}
use Rattle.std.proofs.lemmas.Bool.{cases_lt, cases_Bool, cond-true, cond-false, leb-true, ltb-false}
use Rattle.scheduler.specs.declared.terms.Contract.{Contract}
use Rattle.scheduler.specs.Tables.{spacing_or, bound_or}
use Rattle.scheduler.proofs.Holds.{none_below}
use Rattle.cells.specs.declared.faults.Cause.TheVariants.{DemandExceeded}
use Rattle.demand.specs.Totals.{each_of, total_of, places}
use Rattle.demand.proofs.Consent.{consent_parts, consent_table}
use Rattle.demand.proofs.Counts.{jobs_split, jobs_none}
use Rattle.demand.proofs.Sums.{sum_le_add, sum_zero}
use Rattle.edf.specs.Admission.{put_in, due_in, work_in, demand_in, least_from, busy_period, over_demand, busy_verdict, test_of}

-- what is found passes, and lies in the range; none that was passed over does
pub least_some : (n a p : ℕ) (f : ℕ → Bool) → least_from n a f ≡ Some p → (f p ≡ true) × (a ≤ p) × (p < a + n)
least_some zero a p f e = absurd (let z : ◌≡◌ {A = ℕ} 0 1 = cc in omega arith)
least_some (suc n) a p f e =
    ⊎_elim
    (λ (t : f a ≡ true). (let s : Some a ≡ Some p = sym (cond-true (f a) (Some a) (least_from n (a + 1) f) t) ∙ e in let q : a ≡ p = cc in (subst (λ k. f k ≡ true) q t, omega arith, omega arith)))
    (λ (t : f a ≡ false). (let r = least_some n (a + 1) p f (sym (cond-false (f a) (Some a) (least_from n (a + 1) f) t) ∙ e) in (r.0, omega (arith, r.1), omega (arith, r.2))))
    (cases_Bool (f a))

pub least_found : (n a i : ℕ) (f : ℕ → Bool) → a ≤ i → i < a + n → ((k : ℕ) → a ≤ k → k < i → f k ≡ false) → f i ≡ true → least_from n a f ≡ Some i
least_found zero a i f l h none t = absurd (omega arith)
least_found (suc n) a i f l h none t =
    ⊎_elim
    (λ (s : a < i). cond-false (f a) (Some a) (least_from n (a + 1) f) (none a (omega arith) s) ∙ least_found n (a + 1) i f (omega arith) (omega arith) (λ k u. none k (omega arith)) t)
    (λ (s : i ≤ a). (let e : i ≡ a = omega arith in cond-true (f a) (Some a) (least_from n (a + 1) f) (subst (λ k. f k ≡ true) e t) ∙ ap Some (sym e)))
    (cases_lt a i)

pub least_none : (n a : ℕ) (f : ℕ → Bool) → ((k : ℕ) → a ≤ k → k < a + n → f k ≡ false) → least_from n a f ≡ None
least_none zero a f none = refl
least_none (suc n) a f none = cond-false (f a) (Some a) (least_from n (a + 1) f) (none a (omega arith) (omega arith)) ∙ least_none n (a + 1) f (λ k u v. none k (omega arith) (omega arith))

-- the least number that passes, from what a search up from a answered
pub least_is : (n a : ℕ) (f : ℕ → Bool) (o : Option ℕ) → MatchOption o ((k : ℕ) → a ≤ k → k < a + n → f k ≡ false) (λ i. (a ≤ i) × (i < a + n) × (f i ≡ true) × ((k : ℕ) → a ≤ k → k < i → f k ≡ false)) → o ≡ least_from n a f
least_is n a f None h = sym (least_none n a f h)
least_is n a f (Some i) h = sym (least_found n a i f h.0 h.1 h.3 h.2)

pub period_one : (cs : List (Option Contract)) → nat_le (work_in cs 1) 1 ≡ true → busy_period cs ≡ Some 1
unfolding busy_period
period_one cs h = least_found 1024 1 1 (λ l. leb (work_in cs l) l) (omega arith) (omega arith) (λ k a b. absurd (omega arith)) h

-- one number more that does not pass
pub one_more : (a n : ℕ) (f : ℕ → Bool) → ((k : ℕ) → a ≤ k → k < n → f k ≡ false) → f n ≡ false → (k : ℕ) → a ≤ k → k < n + 1 → f k ≡ false
one_more a n f h e k l u = ⊎_elim (λ (s : k < n). h k l s) (λ (s : n ≤ k). (let q : n ≡ k = omega arith in subst (λ j. f j ≡ false) q e)) (cases_lt k n)

due_split : (o : Option Contract) (x p : ℕ) → 1 ≤ spacing_or o → p ≤ x → each_of (due_in x) o ≤ each_of (put_in p) o + each_of (due_in (x - p)) o
due_split None x p h le = omega arith
due_split (Some c) x p h le = jobs_split c.bound.0 c.spacing.0 x p h le

due_none : (o : Option Contract) → 1 ≤ spacing_or o → 1 ≤ bound_or o → each_of (due_in 0) o ≡ 0
due_none None h b = refl
due_none (Some c) h b = let n = jobs_none c.bound.0 c.spacing.0 0 h b in omega arith

module _ (cs : List (Option Contract)) (pos : (p : ℕ) → 1 ≤ spacing_or (slice_index_or cs p None)) (bnd : (p : ℕ) → 1 ≤ bound_or (slice_index_or cs p None)) where
  -- past p slots, the demand grows by no more than what is put in p slots
  demand_split : (x p : ℕ) → p ≤ x → demand_in cs x ≤ work_in cs p + demand_in cs (x - p)
  demand_split x p le = sum_le_add (each_of (due_in x)) (each_of (put_in p)) (each_of (due_in (x - p))) cs None (λ i l. due_split (slice_index_or cs i None) x p (pos i) le)

  demand_none : demand_in cs 0 ≡ 0
  demand_none = sum_zero (each_of (due_in 0)) cs None (λ i l. due_none (slice_index_or cs i None) (pos i) (bnd i))

  -- the induction, over a number that n does not pass
  upto : (p : ℕ) → 1 ≤ p → work_in cs p ≤ p → ((k : ℕ) → k < p → demand_in cs (k + 1) ≤ k + 1) → (b n : ℕ) → n ≤ b → demand_in cs n ≤ n
  upto p one work test zero n le = let e : 0 ≡ n = omega arith in subst (λ k. demand_in cs k ≤ k) e (let z = demand_none in omega arith)
  upto p one work test (suc b) zero le = let z = demand_none in omega arith
  upto p one work test (suc b) (suc n) le =
      ⊎_elim
      (λ (lt : n < p). (let e : n + 1 ≡ suc n = omega arith in subst (λ k. demand_in cs k ≤ k) e (test n lt)))
      (λ (ge : p ≤ n). (let ih = upto p one work test b (suc n - p) (omega arith) in let s = demand_split (suc n) p (omega arith) in omega arith))
      (cases_lt n p)

  -- so a table that passes the test asks in no number of slots for more than there are
  pub always : (p : ℕ) → busy_period cs ≡ Some p → over_demand cs p ≡ false → (n : ℕ) → demand_in cs n ≤ n
  unfolding busy_period
  always p e over n =
      let q = least_some 1024 1 p (λ l. leb (work_in cs l) l) e in
      upto p q.1 (leb-true (work_in cs p) p q.0) (λ k lt. ltb-false (k + 1) (demand_in cs (k + 1)) (none_below p (λ j. nat_lt (j + 1) (demand_in cs (j + 1))) over k lt)) n n (omega arith)

  -- what a consent of the whole test tells
  pub consented : test_of cs ≡ None → (total_of places cs ≤ 128) × ((n : ℕ) → demand_in cs n ≤ n)
  consented e =
      let k = consent_table cs (busy_verdict cs (busy_period cs)) e in
      (k.0, ended (busy_period cs) refl k.1)
    where
      ended : (o : Option ℕ) → busy_period cs ≡ o → busy_verdict cs o ≡ None → (n : ℕ) → demand_in cs n ≤ n
      ended None q r = absurd (let z : ◌≡◌ {A = ℕ} 0 1 = cc in omega arith)
      ended (Some p) q r = always p q (consent_parts (over_demand cs p) DemandExceeded None r).0
