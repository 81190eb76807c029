-- Days without a label, and parties that have none.
use Rattle.std.proofs.Common.{◌≡◌, ℕ, zero, suc, ◌<◌, ◌≤◌, length, get_or, replicate, Some, None, Option, refl, ap, arith}
use Rattle.std.proofs.lemmas.List.{get_or_past}
use Rattle.cells.specs.declared.parties.ByParty.{ByParty}
use Rattle.calendar.specs.Days.{label_at}
use Rattle.calendar.specs.Rows.{row_of}

-- no day has a label
pub label_none : (n k p : ℕ) → label_at (replicate n None) k p ≡ None
label_none n k p = ap (λ o. row_of o p) (none n k)
  where
    none : (n k : ℕ) → ◌≡◌ {A = Option (ByParty ℕ)} (get_or (replicate n None) k None) None
    none zero k = refl
    none (suc n) zero = refl
    none (suc n) (suc k) = none n k

-- no party above 15 has a label
row_past : (o : Option (ByParty ℕ)) (p : ℕ) → 15 < p → row_of o p ≡ None
row_past None p h = refl
row_past (Some r) p h = let w = r.whole in let past : length r.entries ≤ p = omega arith in get_or_past r.entries p None past

pub label_past : (ds : _) (k p : ℕ) → 15 < p → label_at ds k p ≡ None
label_past ds k p = row_past (get_or ds k None) p
