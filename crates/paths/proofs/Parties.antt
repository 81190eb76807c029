-- What is gone through party by party: whether one passes a test, and a sum.
use Rattle.std.proofs.Common.{◌≡◌, ℕ, zero, suc, ◌+◌, ◌-◌, ◌<◌, ◌≤◌, Bool, true, false, List, length, get_or, take, IsSomeAnd, IfSome, Some, None, Option, sym, refl, ap, ◌∙◌, arith}
use Rattle.std.proofs.Math.Seq.{take-length}
use Rattle.std.proofs.lemmas.List.Sums.{sum_by_more}
use Rattle.std.proofs.lemmas.Option.{none-some, same_Some}
use Rattle.std.proofs.iter.runs.Sources.{nat_range_inclusive_steps, inclusive_listed}
use Rattle.std.specs.Bool.{MatchBool}
use Rattle.std.specs.Fn.{Called}
use Rattle.std.specs.Iterator.Runs.{Run, SomeRun, AnyItemGives, AllItemsGive}
use Rattle.std.specs.List.{sum_by}
use Rattle.std.specs.Option.{option_map}
use Rattle.std.specs.declared.ops.RangeInclusive.{RangeInclusive}
use Rattle.std.specs.Range.{range_inclusive_start, range_inclusive_end, range_inclusive_exhausted}
use denote.Param.Members.{Mut}
use Rattle.scheduler.specs.Meaning.{some_below}
use Rattle.scheduler.proofs.Holds.{below_true, below_false}
use Rattle.demand.proofs.Counts.{ceil_self}
use Rattle.paths.specs.declared.trail.Trail.{Trail}
use Rattle.paths.specs.Verdicts.{share, sum_below}

-- `any` over the numbers up to m, by the test t that the closure computes
module _ {F : Type 0} (g : Mut F (ℕ × Unit {0}) Bool) (f : F) (t : ℕ → Bool) (s : RangeInclusive ℕ) (m : ℕ) (start : range_inclusive_start s ≡ 0) (end : range_inclusive_end s ≡ m) (fresh : range_inclusive_exhausted s ≡ false)
    (tests : (x : ℕ) (b : Bool) (h : F) → Called g f (x, tt) b h → (h ≡ f) × (b ≡ t x)) where
  passed : (o : Option ℕ) (n b : ℕ) → IsSomeAnd o (λ x. Called g f (x, tt) true f) → IfSome o (λ x. (x ≡ n) × (x < b)) → (x : ℕ) × (x < b) × (t x ≡ true)
  passed None n b h i = absurd h
  passed (Some x) n b h i = (x, i.1, sym (tests x true f h).1)

  failed : (o : Option ℕ) (k : ℕ) → option_map (λ y. y) o ≡ Some k → IfSome o (λ x. Called g f (x, tt) false f) → t k ≡ false
  failed None k e h = absurd (none-some k e)
  failed (Some x) k e h = ap t (sym (same_Some x k e)) ∙ sym (tests x false f h).1

  by_run : (p : Run nat_range_inclusive_steps) → p.from ≡ s → (r : Bool) → MatchBool r (AnyItemGives p g f true) ((p.whole ≡ true) × AllItemsGive p g f false) → r ≡ some_below (m + 1) t
  by_run p e r h =
      let l = inclusive_listed p p.seen in
      let from : l.0 ≡ 0 = l.2 ∙ ap range_inclusive_start e ∙ start in
      let to : l.1 ≡ m + 1 = l.3 ∙ ap (λ z. range_inclusive_end z + 1) e ∙ ap (λ n. n + 1) end in
      let up = (l.4 (ap range_inclusive_exhausted e ∙ fresh)).0 in
      by r h l.0 l.1 from to up.1 up.2 up.3
    where
      by : (r : Bool) → MatchBool r (AnyItemGives p g f true) ((p.whole ≡ true) × AllItemsGive p g f false) → (a b : ℕ) → a ≡ 0 → b ≡ m + 1 → (p.whole ≡ true → p.len ≡ b - a) → ((k : ℕ) → IfSome (p.at k) (λ x. (x ≡ a + k) × (x < b))) → ((k : ℕ) → k < p.len → option_map (λ y. y) (p.at k) ≡ Some (a + k)) → r ≡ some_below (m + 1) t
      by true h a b from to whole item at =
          let i = h (λ z c q k. (tests z.0 c q k).0) in
          let x = passed (p.at i.0) (a + i.0) b i.2 (item i.0) in
          sym (below_true (m + 1) t x.0 (omega (arith, x.1)) x.2)
      by false h a b from to whole item at =
          let none = h.1 (λ z c q k. (tests z.0 c q k).0) in
          let all = whole h.0 in
          sym (below_false (m + 1) t (λ k l. failed (p.at k) k (at k (omega arith) ∙ (let e : a + k ≡ k = omega arith in ap Some e)) (none k)))

  pub any_upto : (r : Bool) → SomeRun nat_range_inclusive_steps s (λ p. MatchBool r (AnyItemGives p g f true) ((p.whole ≡ true) × AllItemsGive p g f false)) → r ≡ some_below (m + 1) t
  any_upto r run = by_run run.0 run.1 r run.2

-- the sum over a table
module _ {X : Type 0} (f : X → ℕ) (xs : List X) (d : X) where
  sum_upto : (i : ℕ) → i ≤ length xs → sum_by f (take i xs) ≡ sum_below i (λ q. f (get_or xs q d))
  sum_upto zero l = refl
  sum_upto (suc i) l =
      let one : suc i ≡ i + 1 = omega arith in
      let here = sum_by_more f xs i d (omega arith) in
      let before = sum_upto i (omega arith) in
      ap (λ n. sum_by f (take n xs)) one ∙ here ∙ (let e : sum_by f (take i xs) + f (get_or xs i d) ≡ f (get_or xs i d) + sum_below i (λ q. f (get_or xs q d)) = omega arith in e)

  pub sum_all : (n : ℕ) → length xs ≡ n → sum_by f xs ≡ sum_below n (λ q. f (get_or xs q d))
  sum_all n e = ap (sum_by f) (sym (take-length xs)) ∙ sum_upto (length xs) (omega arith) ∙ ap (λ i. sum_below i (λ q. f (get_or xs q d))) e

-- the cells of a trail that can wait at once are fewer than its lead has slots
pub share_few : (y : Trail) → share y.lead.0 y.spacing.0 ≤ 191
share_few y = let h = ceil_self y.lead.0 y.spacing.0 y.spaced in omega (arith, y.soon)
