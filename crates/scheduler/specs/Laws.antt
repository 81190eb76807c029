-- What holds of every scheduler.
use Rattle.std.specs.Prelude.{◌≡◌, ℕ, ◌+◌, ◌<◌, ◌≤◌, Some, None, Option}
use Rattle.cells.specs.Faults.{cause_number}
use Rattle.cells.specs.declared.faults.Cause.{Cause}
use Rattle.cells.specs.declared.times.Slot.{Slot}
use Rattle.scheduler.specs.declared.terms.Cell.{Cell}
use Rattle.scheduler.specs.declared.terms.Contract.{Contract}
use Rattle.scheduler.specs.Meaning.{Meaning, due, last_slot}

-- no held cell is due below the slot
abbrev pub InTime : Meaning → Type 0
InTime m = (p e l : ℕ) (c : Contract) → m.held p e ≡ Some l → m.contracts p ≡ Some c → m.slot ≤ due e c.bound.0

-- a party above 15 has no contract, and a party without a contract holds nothing
pub record Contracted (m : Meaning) : Type 0 where
  pub parties : (p : ℕ) → 15 < p → m.contracts p ≡ None
  pub cells : (p e : ℕ) → m.contracts p ≡ None → m.held p e ≡ None

-- a spacing is 1 to 1,024 and a bound 1 to 128
pub record Terms (c : Contract) : Type 0 where
  pub spacing_least : 1 ≤ c.spacing.0
  pub spacing_most : c.spacing.0 ≤ 1024
  pub bound_least : 1 ≤ c.bound.0
  pub bound_most : c.bound.0 ≤ 128

-- so are those of every contract; the slot is at most one past the last
pub record InRange (m : Meaning) : Type 0 where
  pub slots : m.slot ≤ last_slot + 1
  pub terms : (p : ℕ) (c : Contract) → m.contracts p ≡ Some c → Terms c

-- a cell eligible in slot e was put: its party has put one no earlier than that
abbrev pub Since : Option Slot → ℕ → Type 0
Since None e = ⊥
Since (Some t) e = e ≤ t.0

-- no contract was used after this slot; a held cell is no later than its party's last
pub record Past (m : Meaning) : Type 0 where
  pub lasts : (p : ℕ) (c : Contract) (t : Slot) → m.contracts p ≡ Some c → c.last ≡ Some t → t.0 ≤ m.slot
  pub cells : (p e l : ℕ) (c : Contract) → m.held p e ≡ Some l → m.contracts p ≡ Some c → Since c.last e

-- what is chosen is held, under its label
abbrev pub Chosen : Meaning → Option Cell → Type 0
Chosen m None = Unit {0}
Chosen m (Some c) = m.held c.party c.eligible.0 ≡ Some c.label

-- without any contract, the test consents to every contract in range
abbrev pub Consents : Meaning → (ℕ → ℕ → ℕ → Option Cause) → Type 0
Consents m test =
    ((q : ℕ) → m.contracts q ≡ None)
    → (p s d : ℕ) → p ≤ 15 → 1 ≤ s → s ≤ 1024 → 1 ≤ d → d ≤ 128 → test p s d ≡ None

-- a make's own causes are 8 to 12
abbrev pub Own : Option Cause → Type 0
Own None = Unit {0}
Own (Some c) = (8 ≤ cause_number c) × (cause_number c ≤ 12)
