-- What the tests of a held cell tell.
use Rattle.std.proofs.Common.{◌≡◌, ℕ, ◌+◌, ◌<◌, ◌≤◌, Bool, true, false, cond, ◌||◌, eqb, leb, ◌⊎◌, List, [], ◌∷◌, sum_by, refl, ap, arith}
use Rattle.std.proofs.lemmas.List.Sums.{sum_by-cons, sum_by-le-sum_by}
use Rattle.std.proofs.lemmas.Bool.{both_ways}
use Rattle.std.proofs.lemmas.Bool.Decides.{nat_tests}
use Rattle.scheduler.specs.Meaning.{due}
use Rattle.backlog.specs.declared.held.Held.{Held}
use Rattle.backlog.specs.Cells.{due_of, holds_in, at}
use Rattle.demand.specs.Cells.{put_since, stray, due_before}

-- a cell of the party counts from its eligible slot on, and no other does
pub since_yes : (p a : ℕ) (x : Held) → x.cell.party ≡ p → a ≤ x.cell.eligible.0 → put_since p a x ≡ 1
since_yes p a x e h = grind (arith, nat_tests)

pub since_other : (p a : ℕ) (x : Held) → (p ≡ x.cell.party → ⊥) → put_since p a x ≡ 0
since_other p a x h = grind (arith, nat_tests)

pub since_early : (p a : ℕ) (x : Held) → x.cell.eligible.0 < a → put_since p a x ≡ 0
since_early p a x h = grind (arith, nat_tests)

-- a cell of a party and an eligible slot counts for the party from there on
pub at_since : (p e a : ℕ) (x : Held) → a ≤ e → at p e x ≤ put_since p a x
at_since p e a x h = grind (arith, nat_tests)

-- a cell is that of one party and one eligible slot
pub at_cases : (p e : ℕ) (x : Held) → (at p e x ≡ 0) ⊎ ((p ≡ x.cell.party) × (e ≡ x.cell.eligible.0) × (at p e x ≡ 1))
at_cases p e x = grind (arith, nat_tests)

-- a cell of another party is no stray, nor is one under the bound
pub stray_other : (p b : ℕ) (x : Held) → (p ≡ x.cell.party → ⊥) → stray p b x ≡ 0
stray_other p b x h = grind (arith, nat_tests)

pub stray_same : (p b : ℕ) (x : Held) → x.bound.0 ≡ b → stray p b x ≡ 0
stray_same p b x h = grind (arith, nat_tests)

-- one that is no stray is under the bound
pub stray_none : (p b : ℕ) (x : Held) → x.cell.party ≡ p → stray p b x ≡ 0 → x.bound.0 ≡ b
stray_none p b x e h = grind (arith, nat_tests)

-- a cell that is due before slot t, and one that is not
pub before_yes : (t : ℕ) (x : Held) → due_of x < t → due_before t x ≡ 1
before_yes t x h = grind (arith, nat_tests)

pub before_no : (t : ℕ) (x : Held) → t ≤ due_of x → due_before t x ≡ 0
before_no t x h = grind (arith, nat_tests)

pub before_none : (t : ℕ) (x : Held) → due_before t x ≡ 0 → t ≤ due_of x
before_none t x h = grind (arith, nat_tests)

-- a cell that would be due before slot t under the bound b is due before slot t, or a stray
pub at_late : (p e b t : ℕ) (x : Held) → due e b < t → at p e x ≤ due_before t x + stray p b x
at_late p e b t x h = grind (arith, nat_tests)

-- of a party that holds nothing no cell counts, and none is a stray
pub none_since : (p a : ℕ) (xs : List Held) → holds_in xs p ≡ false → sum_by (put_since p a) xs ≡ 0
none_since p a [] h = refl
none_since p a (x ∷ xs) h = way (eqb p x.cell.party) refl h (none_since p a xs)
  where
    way : (b : Bool) → eqb p x.cell.party ≡ b → (b || holds_in xs p) ≡ false → (holds_in xs p ≡ false → sum_by (put_since p a) xs ≡ 0) → sum_by (put_since p a) (x ∷ xs) ≡ 0
    way true t k r = absurd (both_ways true k refl)
    way false t k r =
        let own : put_since p a x ≡ 0 = ap (λ b. cond b (cond (leb a x.cell.eligible.0) 1 0) 0) t in
        let rest = r k in
        omega (arith, sum_by-cons (put_since p a) x xs)

stray_since : (p b : ℕ) (x : Held) → stray p b x ≤ put_since p 0 x
stray_since p b x = grind (arith, nat_tests)

pub stray_le : (p b : ℕ) (xs : List Held) → sum_by (stray p b) xs ≤ sum_by (put_since p 0) xs
stray_le p b xs = sum_by-le-sum_by (stray p b) (put_since p 0) xs (stray_since p b)
