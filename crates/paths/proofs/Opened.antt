-- What is known with some proof is known with one.
use Rattle.std.proofs.Common.{◌≡◌, ℕ, ◌+◌, Bool, true, false, ◌⊎◌, is_some, Some, None, Option, refl, inl, inr, rules}
use Rattle.std.proofs.Math.Logic.{∥∥₁_elim, ∥∥₁_map}
use Rattle.std.proofs.Props.{props}
use Rattle.cells.specs.declared.times.Slot.{Slot}
use Rattle.paths.specs.Laws.{Lawful}
use Rattle.paths.specs.Route.{Route, Terms}
use Rattle.paths.specs.Trails.{Newest}

pub lawful_opened : (r : Route) → ∥ Lawful r ∥₁ → Lawful r
lawful_opened r s = ∥∥₁_elim s (hlevel props) (λ l. l)

-- of a test that came out true and an equation, which one holds is found by the test
pub either_opened : (b : Bool) (o : Option ℕ) (n : ℕ) → ∥ (b ≡ true) ⊎ (o ≡ Some n) ∥₁ → (b ≡ true) ⊎ (o ≡ Some n)
either_opened true o n s = inl refl
either_opened false o n s = inr (∥∥₁_elim s (hlevel props) (λ e. elim e [ inl f ↦ absurd (false_true f) | inr e ↦ e ]))
  where
    false_true : false ≡ true → ⊥
    false_true e = search rules

pub newest_opened : (r : Route) (t : Terms) (p c : ℕ) (o : Option Slot) → ∥ Newest r t p c o ∥₁ → Newest r t p c o
newest_opened r t p c None s = (λ v. ∥∥₁_elim s (hlevel props) (λ n. n.0 v), ∥∥₁_elim s (hlevel props) (λ n. n.1))
newest_opened r t p c (Some a) s = record {
  cells = λ v x e. ∥∥₁_elim s (hlevel props) (λ u. u.cells v x e);
  last = λ u e. ∥∥₁_elim s (hlevel props) (λ n. n.last u e);
  known = either_opened (is_some (r.cells p (a.0 + c))) t.last (a.0 + c) (∥∥₁_map s (λ u. u.known));
}
