-- What a consent tells.
use Rattle.std.proofs.Common.{◌≡◌, ℕ, ◌≤◌, Bool, true, false, ltb, List, [], ◌∷◌, length, is_some, None, Option, refl, arith}
use Rattle.std.proofs.lemmas.Bool.{ltb-false}
use Rattle.cells.specs.declared.faults.Cause.{Cause}
use Rattle.cells.specs.declared.faults.Cause.TheVariants.{PartyOutOfRange, PartyHasContract, SpacingOutOfRange, BoundOutOfRange, CellsPresent, TableExceeded}
use Rattle.scheduler.specs.declared.terms.Contract.{Contract}
use Rattle.scheduler.specs.Meaning.{refused_if, outside, common_verdict}
use Rattle.demand.specs.Totals.{total_of, places, exceeds_table, table_first}

-- neither the test nor what follows refuses
pub consent_parts : (b : Bool) (c : Cause) (v : Option Cause) → refused_if b c v ≡ None → (b ≡ false) × (v ≡ None)
consent_parts true c v e = absurd (let z : ◌≡◌ {A = ℕ} 0 1 = cc in omega arith)
consent_parts false c v e = (refl, e)

-- what no make refuses comes while nothing is held
pub consent_idle : (o : Option Contract) (busy : Bool) (p s d : ℕ) → common_verdict o busy p s d ≡ None → busy ≡ false
consent_idle o busy p s d e =
    let a = (consent_parts (ltb 15 p) PartyOutOfRange _ e).1 in
    let b = (consent_parts (is_some o) PartyHasContract _ a).1 in
    let f = (consent_parts (outside 1 1024 s) SpacingOutOfRange _ b).1 in
    let g = (consent_parts (outside 1 128 d) BoundOutOfRange _ f).1 in
    (consent_parts busy CellsPresent None g).0

pub none_held : {X : Type 0} (xs : List X) → ltb 0 (length xs) ≡ false → xs ≡ []
none_held [] e = refl
none_held (x ∷ xs) e = absurd (let l = ltb-false 0 (length (x ∷ xs)) e in omega arith)

-- the table is not exceeded, and what follows does not refuse
pub consent_table : (cs : List (Option Contract)) (v : Option Cause) → table_first cs v ≡ None → (total_of places cs ≤ 128) × (v ≡ None)
consent_table cs v e = let k = consent_parts (exceeds_table cs) TableExceeded v e in (ltb-false 128 (total_of places cs) k.0, k.1)
