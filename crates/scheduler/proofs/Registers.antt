-- What a register gives of the laws.
use Rattle.std.proofs.Common.{◌≡◌, ℕ, ◌<◌, ◌≤◌, length, Some, None, Option, subst, inl, inr, arith}
use Rattle.std.proofs.lemmas.List.{get_or_past}
use Rattle.cells.specs.declared.times.Slot.{Slot}
use Rattle.scheduler.specs.declared.terms.Contract.{Contract}
use Rattle.scheduler.specs.declared.register.Register.{Register}
use Rattle.scheduler.specs.Laws.{Terms, InRange}
use Rattle.scheduler.proofs.Holds.{low_or_high}
use Rattle.scheduler.specs.Tables.{contracts_of, spacing_or, bound_or, slot_or, last_or}

-- a party above 15 has no contract
pub parties : (r : Register) (p : ℕ) → 15 < p → contracts_of r.contracts p ≡ None
parties r p h = let w = r.whole in let past : length r.contracts ≤ p = omega arith in get_or_past r.contracts p None past

-- a party with a contract is at most 15
pub party : (r : Register) (p : ℕ) (c : Contract) → contracts_of r.contracts p ≡ Some c → p ≤ 15
party r p c e =
    elim (low_or_high p) [ inl a ↦ a | inr a ↦ absurd (let n = parties r p a in let z : ◌≡◌ {A = ℕ} 0 1 = cc in omega arith) ]

-- its terms are in range
pub terms : (r : Register) (p : ℕ) (c : Contract) → contracts_of r.contracts p ≡ Some c → Terms c
terms r p c e = record {
  spacing_least = subst (λ o. 1 ≤ spacing_or o) e (r.spaced p);
  spacing_most = subst (λ o. spacing_or o ≤ 1024) e (r.near p);
  bound_least = subst (λ o. 1 ≤ bound_or o) e (r.bounded p);
  bound_most = subst (λ o. bound_or o ≤ 128) e (r.prompt p);
}

-- no contract was used after this slot
pub lasts : (r : Register) (p : ℕ) (c : Contract) (t : Slot) → contracts_of r.contracts p ≡ Some c → c.last ≡ Some t → t.0 ≤ r.slot.0
lasts r p c t e l = subst (λ o. slot_or r.slot.0 o ≤ r.slot.0) l (subst (λ o. last_or r.slot.0 o ≤ r.slot.0) e (r.past p))

-- whatever is held
pub in_range : (r : Register) (h : ℕ → ℕ → Option ℕ) → InRange (record { slot = r.slot.0; contracts = contracts_of r.contracts; held = h })
in_range r h = record { slots = r.slots; terms = terms r }
