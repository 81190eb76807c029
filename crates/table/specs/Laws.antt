-- What holds of every table of turns.
use Rattle.std.specs.Prelude.{◌≡◌, ℕ, ◌+◌, ◌≤◌, true, false, is_some, Some, None, Option, slice_index_or, refl}
use Rattle.std.proofs.Common.{sym, ap, subst, ◌∙◌, arith}
use Rattle.std.proofs.lemmas.Bool.{both_ways}
use Rattle.scheduler.specs.declared.terms.Contract.{Contract}
use Rattle.scheduler.specs.Laws.{InTime, Contracted, Past, Since, Consents}
use Rattle.scheduler.specs.Meaning.{holds_of, holds_any}
use Rattle.scheduler.specs.Tables.{contracts_of}
use Rattle.scheduler.proofs.Holds.{holds_of_none, holds_of_some, holds_any_none, holds_any_some, held_within}
use Rattle.scheduler.proofs.Registers.{parties, terms, lasts}
use Rattle.table.specs.declared.state.Table.{Table}
use Rattle.table.specs.Kept.{wait, period_or, last_of, held_of, turn_by, dated, tenant}
use Rattle.table.specs.Tables.{table_meaning, table_test, owner_of}
use Rattle.table.specs.Turns.{period, free, least_free, offset_verdict}
use Rattle.table.specs.Helds.{held_parts, held_none, held_some}
use Rattle.table.specs.Keeps.{Kept}
use Rattle.table.specs.Offsets.{free_none, least_some}
use Rattle.table.specs.Periods.{period_fits}

-- the label kept of each party
abbrev pub label_of : Table → ℕ → Option ℕ
label_of x p = slice_index_or x.labels.entries p None

-- the contract of each party
abbrev pub contract_of : Table → ℕ → Option Contract
contract_of x = contracts_of x.register.contracts

pub kept : (x : Table) → Kept x.register.slot.0 (contract_of x) (owner_of x) (label_of x)
kept x = record { tenants = x.tenants; recurring = x.recurring; prompt = x.prompt; dated = x.dated }

pub contracted : (x : Table) → Contracted (table_meaning x)
contracted x = record {
  parties = parties x.register;
  cells = λ p e h. ap (λ o. held_of (last_of o) (label_of x p) e) h;
}

pub past : (x : Table) → Past (table_meaning x)
past x = record {
  lasts = lasts x.register;
  cells = λ p e l c h k. (let q = held_parts (last_of (contract_of x p)) (label_of x p) e l h in subst (λ o. Since o e) (sym q.1 ∙ ap last_of k) (let s = q.3 in omega arith));
}

-- a held cell waits for its party's turn, which comes within the period, and the period is at most the bound
pub timely : (x : Table) → InTime (table_meaning x)
timely x p e l c h k =
    let q = held_parts (last_of (contract_of x p)) (label_of x p) e l h in
    let t = q.0 in
    let n = x.register.slot.0 in
    let w = wait (owner_of x) p in
    let by : n ≤ t.0 + w t.0 = subst (λ g. n ≤ turn_by n w (Some t) g) q.2 (subst (λ o. n ≤ turn_by n w o (label_of x p)) q.1 (x.prompt p)) in
    let within : w t.0 + 1 ≤ period c.spacing.0 c.bound.0 = subst (λ o. w t.0 + 1 ≤ period_or o) k (x.recurring p t.0) in
    let r = terms x.register p c k in
    let f = period_fits c.spacing.0 c.bound.0 r.spacing_least r.bound_least r.bound_most in
    omega (arith, q.3, f.bound, r.bound_least)

-- without contracts no turn has an owner
unowned : (x : Table) → ((q : ℕ) → contract_of x q ≡ None) → (k : ℕ) → is_some (owner_of x k) ≡ false
unowned x none k = way (owner_of x k) (x.tenants k)
  where
    way : (o : Option ℕ) → tenant (contract_of x) o ≡ true → is_some o ≡ false
    way None h = refl
    way (Some q) h = absurd (both_ways (is_some (contract_of x q)) (ap is_some (none q)) h)

pub consents : (x : Table) → Consents (table_meaning x) (table_test x)
consents x none p s d a b c e f =
    let fits = period_fits s d b e f in
    let o : least_free (owner_of x) (period s d) ≡ Some 0 =
    least_some (period s d) (free (owner_of x) (period s d)) 0 fits.least (free_none (owner_of x) (period s d) 0 (λ k l q. unowned x none k)) (λ k l. absurd (omega arith))
    in ap offset_verdict o

-- whether a cell of a party is held
pub holds_is : (x : Table) (p : ℕ) → holds_of (table_meaning x) p ≡ is_some (label_of x p)
holds_is x p = way (label_of x p) refl
  where
    way : (g : Option ℕ) → label_of x p ≡ g → holds_of (table_meaning x) p ≡ is_some g
    way None e = holds_of_none (table_meaning x) p (λ k. ap (λ g. held_of (last_of (contract_of x p)) g k) e ∙ held_none (last_of (contract_of x p)) k)
    way (Some l) e =
        let q = held_some (last_of (contract_of x p)) l (subst (λ g. dated (last_of (contract_of x p)) g ≡ true) e (x.dated p)) in
        let is = ap (λ g. held_of (last_of (contract_of x p)) g q.0.0) e ∙ q.2 in
        let w = held_within (table_meaning x) (contracted x) (past x) p q.0.0 l is in
        holds_of_some (table_meaning x) p q.0.0 l w.1 is

-- whether one of any party is
pub busy_some : (x : Table) (p l : ℕ) → label_of x p ≡ Some l → holds_any (table_meaning x) ≡ true
busy_some x p l e =
    let q = held_some (last_of (contract_of x p)) l (subst (λ g. dated (last_of (contract_of x p)) g ≡ true) e (x.dated p)) in
    let is = ap (λ g. held_of (last_of (contract_of x p)) g q.0.0) e ∙ q.2 in
    let w = held_within (table_meaning x) (contracted x) (past x) p q.0.0 l is in
    holds_any_some (table_meaning x) p q.0.0 l w.0 w.1 is

pub busy_none : (x : Table) → ((p : ℕ) → label_of x p ≡ None) → holds_any (table_meaning x) ≡ false
busy_none x h = holds_any_none (table_meaning x) (λ p k. ap (λ g. held_of (last_of (contract_of x p)) g k) (h p) ∙ held_none (last_of (contract_of x p)) k)
