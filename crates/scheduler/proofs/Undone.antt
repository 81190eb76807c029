-- A grant that is taken back at once leaves a scheduler as it was.
use Rattle.std.proofs.Common.{◌≡◌, ℕ, false, None, refl, ◌∙◌, rules}
use Rattle.scheduler.specs.Laws.{Contracted}
use Rattle.scheduler.specs.Meaning.{Meaning, granted, withdrawn, withdraw_verdict, holds_of}
use Rattle.scheduler.proofs.Holds.{holds_of_none}
use Rattle.scheduler.proofs.Updates.{updated_twice, updated_same, same_meaning}

pub undone : (m : Meaning) (p s d : ℕ) → m.contracts p ≡ None → withdrawn (granted m p s d) p ≡ m
undone m p s d e = same_meaning _ _ _ _ _ _ refl (updated_twice m.contracts p _ None ∙ updated_same m.contracts p None e) refl

-- and the withdrawal consents
pub undoes : (m : Meaning) (p s d : ℕ) → Contracted m → m.contracts p ≡ None → withdraw_verdict (granted m p s d) p ≡ None
undoes m p s d k e =
    let h : holds_of (granted m p s d) p ≡ false = holds_of_none (granted m p s d) p (λ q. k.cells p q e) in
    search rules
