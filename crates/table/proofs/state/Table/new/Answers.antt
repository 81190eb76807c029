use Rattle.std.proofs.Common.{◌≡◌, ℕ, ◌<◌, ◌≤◌, ◌⊎◌, List, get_or, replicate, None, Option, refl, ap, ◌∙◌, inl, inr, arith}
use mathlib.Core.Path.{fun_ext}
use Rattle.std.proofs.lemmas.List.{get_or_past, get_or-replicate, length-replicate}
use Rattle.std.proofs.lemmas.Bool.{cases_lt}
use Rattle.scheduler.proofs.Updates.{same_meaning}
use Rattle.table.specs.Turns.{no_owner}
use Rattle.table.specs.Helds.{held_by}
use Rattle.table.specs.Keeps.{Kept, kept_along}
use Rattle.table.specs.Waits.{wait_most}
use Rattle.table.proofs.state.Table.new.Goals as goal

-- a table of nothing has nothing at any place
nothing : (n : ℕ) (xs : List (Option ℕ)) → xs ≡ replicate n None → ◌≡◌ {A = ℕ → Option ℕ} (λ k. get_or xs k None) (λ k. None)
nothing n xs e = fun_ext (λ k. ap (λ ys. get_or ys k None) e ∙ at k (cases_lt k n))
  where
    none : Option ℕ
    none = None

    at : (k : ℕ) → (k < n) ⊎ (n ≤ k) → get_or (replicate n none) k none ≡ none
    at k (inl l) = get_or-replicate n k none none l
    at k (inr l) = get_or_past (replicate n none) k none (omega (arith, length-replicate n none))

first : Kept 0 (λ q. None) no_owner (λ q. None)
first = record {
  tenants = λ k. refl;
  recurring = λ q k. omega (arith, wait_most no_owner q k);
  prompt = λ q. omega arith;
  dated = λ q. refl;
}

pub invariant_of-result : goal.invariant_of-result
invariant_of-result c = kept_along _ 0 _ (λ q. None) _ no_owner _ (λ q. None) c.new.ensures.slot c.new.ensures.contracts (nothing 128 c.new-2.result.turns c.new-2.ensures) (nothing 16 c.new-3.result.entries c.new-3.ensures) first

pub returns : goal.returns
returns c = record {
  meaning = same_meaning _ _ _ _ _ _ c.new.ensures.slot c.new.ensures.contracts (ap (λ f. held_by f (λ q. get_or c.new-3.result.entries q None)) c.new.ensures.contracts);
  owners = nothing 128 c.new-2.result.turns c.new-2.ensures;
}
