-- Verdicts, and what they tell and leave.
use Rattle.std.proofs.Common.{◌≡◌, ℕ, Some, None, Ok, Err, Option, sym, refl, ap, ◌∙◌, arith}
use Rattle.cells.specs.declared.faults.Cause.{Cause}
use Rattle.cells.specs.declared.faults.Fault.{Fault}
use Rattle.scheduler.specs.declared.terms.Contract.{Contract}
use Rattle.scheduler.specs.Meaning.{Meaning, told, after, or_else}
use Rattle.scheduler.specs.Tables.{Refuses}
use Rattle.scheduler.proofs.Updates.{same_meaning}

-- consent
pub told_ok : {X : Type 0} (v : Option Cause) (p : ℕ) (x : X) → v ≡ None → Ok x ≡ told v p x
told_ok v p x e = ap (λ w. told w p x) (sym e)

pub after_ok : {X : Type 0} (v : Option Cause) (m n k : X) → v ≡ None → n ≡ k → n ≡ after v m k
after_ok v m n k e q = q ∙ ap (λ w. after w m k) (sym e)

-- refusal
pub told_err : {X : Type 0} (v : Option Cause) (p : ℕ) (x : X) (f : Fault) → Refuses v p f → Err f ≡ told v p x
told_err None p x f r = absurd (let z : ◌≡◌ {A = ℕ} 0 1 = cc in omega arith)
told_err (Some c) p x f r = let e : f ≡ _ = cc in ap Err e

pub after_err : {X : Type 0} (v : Option Cause) (p : ℕ) (f : Fault) (m n k : X) → Refuses v p f → n ≡ m → n ≡ after v m k
after_err None p f m n k r e = absurd (let z : ◌≡◌ {A = ℕ} 0 1 = cc in omega arith)
after_err (Some c) p f m n k r e = e

-- a first verdict that refuses, and one that consents
pub or_else_err : (v w : Option Cause) (p : ℕ) (f : Fault) → Refuses v p f → Refuses (or_else v w) p f
or_else_err None w p f r = absurd (let z : ◌≡◌ {A = ℕ} 0 1 = cc in omega arith)
or_else_err (Some c) w p f r = r

pub or_else_ok : (v w : Option Cause) → v ≡ None → or_else v w ≡ w
or_else_ok v w e = ap (λ u. or_else u w) e

-- what stays whatever the verdict
pub after_same : {X : Type 0} (v : Option Cause) (x : X) → x ≡ after v x x
after_same None x = refl
after_same (Some c) x = refl

-- a meaning after a verdict, part by part
pub after_parts : (v : Option Cause) (m : Meaning) (n k : ℕ) (f g : ℕ → Option Contract) (h j : ℕ → ℕ → Option ℕ) → n ≡ after v m.slot k → f ≡ after v m.contracts g → h ≡ after v m.held j
    → ◌≡◌ {A = Meaning} (record { slot = n; contracts = f; held = h }) (after v m (record { slot = k; contracts = g; held = j }))
after_parts None m n k f g h j a b c = same_meaning n k f g h j a b c
after_parts (Some x) m n k f g h j a b c = same_meaning n m.slot f m.contracts h m.held a b c
