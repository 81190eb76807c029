-- A table that is written at one place, and what it adds up to.
use Rattle.std.proofs.Common.{◌≡◌, ℕ, ◌<◌, ◌≤◌, List, length, get_or, set, Some, None, Option, ap, arith}
use Rattle.std.proofs.lemmas.List.Sums.{sum_by-set}
use Rattle.scheduler.specs.declared.terms.Contract.{Contract}
use Rattle.scheduler.specs.Meaning.{agreed, stamped}
use Rattle.demand.specs.Totals.{each_of, total_of}
use Rattle.demand.proofs.Sums.{sum_zero}

-- a contract that is used asks for what it asked for
pub total_used : (f : ℕ → ℕ → ℕ) (cs : List (Option Contract)) (p t : ℕ) (c : Contract) → p < length cs → get_or cs p None ≡ Some c → total_of f (set cs p (Some (stamped c t))) ≡ total_of f cs
total_used f cs p t c h e =
    let k = sum_by-set (each_of f) cs p (Some (stamped c t)) None h in
    let l = ap (each_of f) e in
    omega arith

-- without a contract, less is asked for
pub total_gone : (f : ℕ → ℕ → ℕ) (cs : List (Option Contract)) (p : ℕ) → p < length cs → total_of f (set cs p None) ≤ total_of f cs
total_gone f cs p h = let k = sum_by-set (each_of f) cs p None None h in omega arith

-- a contract that stands alone: the sum is what it asks for
pub total_alone : (f : ℕ → ℕ → ℕ) (cs : List (Option Contract)) (p s d : ℕ) → ((q : ℕ) → get_or cs q None ≡ None) → p < length cs → total_of f (set cs p (Some (agreed s d))) ≡ f s d
total_alone f cs p s d none h =
    let k = sum_by-set (each_of f) cs p (Some (agreed s d)) None h in
    let z = sum_zero (each_of f) cs None (λ i _. ap (each_of f) (none i)) in
    let o = ap (each_of f) (none p) in
    omega arith
