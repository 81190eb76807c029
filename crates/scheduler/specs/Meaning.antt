-- What a scheduler means, and what each call answers and does to that.
use Rattle.std.specs.Prelude.{ℕ, zero, suc, ◌+◌, ◌-◌, Bool, true, false, cond, ltb, is_some, Some, None, Ok, Err, Option, Result, ◌==◌, nat_lt}
use Rattle.cells.specs.declared.faults.Cause.{Cause}
use Rattle.cells.specs.declared.faults.Cause.TheVariants.{PartyOutOfRange, PartyHasContract, SpacingOutOfRange, BoundOutOfRange, CellsPresent, NoContract, TooSoon, SlotsOver, PartyHasCells}
use Rattle.cells.specs.declared.faults.Layer.TheVariants.{Scheduler}
use Rattle.cells.specs.declared.faults.Fault.{Fault}
use Rattle.scheduler.specs.declared.terms.Cell.{Cell}
use Rattle.scheduler.specs.declared.terms.Contract.{Contract}

-- the slot; the contract of each party; of each party and eligible slot the label of the cell held.
-- A party's cells are a spacing apart, so that no two have one eligible slot
pub record Meaning : Type 0 where
  pub slot : ℕ
  pub contracts : ℕ → Option Contract
  pub held : ℕ → ℕ → Option ℕ

-- slot 0, no contract, no cell
abbrev pub fresh : Meaning
fresh = record { slot = 0; contracts = λ p. None; held = λ p e. None }

-- the slot in which a cell is due, the last in which it may be sent, from its eligible slot and its bound
abbrev pub due : ℕ → ℕ → ℕ
due e d = e + d - 1

-- the last slot
abbrev pub last_slot : ℕ
last_slot = 16777215

-- f, with v at k
abbrev pub updated : {X : Type 0} → (ℕ → X) → ℕ → X → ℕ → X
updated f k v q = cond (q == k) v (f q)

-- whether some k below n passes the test
abbrev pub some_below : ℕ → (ℕ → Bool) → Bool
some_below zero f = false
some_below (suc n) f = cond (f n) true (some_below n f)

-- whether a cell of the party is held. Verdicts hang on it, so it is a test that can be carried out: a cell
-- that is held was put, so it is eligible in some slot from 0 to this one, and these are gone through.
-- A make that counts its cells has this test by one lemma for each answer
unfoldable pub holds_of : Meaning → ℕ → Bool
holds_of m p = some_below (m.slot + 1) (λ e. is_some (m.held p e))

-- whether a cell of any party is held: parties are 0 to 15
unfoldable pub holds_any : Meaning → Bool
holds_any m = some_below 16 (holds_of m)

-- a scheduler's fault names the party and no hop
abbrev pub fault : Cause → ℕ → Fault
fault c p = record { cause = c; layer = Scheduler; party = p; hop = 255; line = 0 }

-- what is answered under a verdict: none is consent
abbrev pub told : {X : Type 0} → Option Cause → ℕ → X → Result X Fault
told None p x = Ok x
told (Some c) p x = Err (fault c p)

-- what stands after it: a refusal leaves the old
abbrev pub after : {X : Type 0} → Option Cause → X → X → X
after None old new = new
after (Some c) old new = old

-- the cause c where the test is true, else what follows
abbrev pub refused_if : Bool → Cause → Option Cause → Option Cause
refused_if b c v = cond b (Some c) v

-- the first verdict where it refuses, else the second
abbrev pub or_else : Option Cause → Option Cause → Option Cause
or_else (Some c) v = Some c
or_else None v = v

-- x is below lo or above hi
abbrev pub outside : ℕ → ℕ → ℕ → Bool
outside lo hi x = cond (nat_lt x lo) true (nat_lt hi x)

-- what every make refuses, in this order: the party's contract, if it has one, comes first, and whether a cell is held last
abbrev pub common_verdict : Option Contract → Bool → ℕ → ℕ → ℕ → Option Cause
common_verdict o busy p s d =
    refused_if (nat_lt 15 p) PartyOutOfRange
    (refused_if (is_some o) PartyHasContract
    (refused_if (outside 1 1024 s) SpacingOutOfRange
    (refused_if (outside 1 128 d) BoundOutOfRange
    (refused_if busy CellsPresent None))))

-- a grant: what every make refuses, and then the make's own test
abbrev pub grant_verdict : Meaning → ℕ → ℕ → ℕ → Option Cause → Option Cause
grant_verdict m p s d own = or_else (common_verdict (m.contracts p) (holds_any m) p s d) own

-- a new contract, with no cell put
abbrev pub agreed : ℕ → ℕ → Contract
agreed s d = record { spacing = record { 0 = s }; bound = record { 0 = d }; last = None }

-- the contract is added
abbrev pub granted : Meaning → ℕ → ℕ → ℕ → Meaning
granted m p s d = record { slot = m.slot; contracts = updated m.contracts p (Some (agreed s d)); held = m.held }

-- a withdrawal: no contract, then a cell of the party is held
abbrev pub withdraw_rule : Option Contract → Bool → Option Cause
withdraw_rule None holds = Some NoContract
withdraw_rule (Some c) holds = refused_if holds PartyHasCells None

-- the same, of a scheduler
abbrev pub withdraw_verdict : Meaning → ℕ → Option Cause
withdraw_verdict m p = withdraw_rule (m.contracts p) (holds_of m p)

-- the contract is gone
abbrev pub withdrawn : Meaning → ℕ → Meaning
withdrawn m p = record { slot = m.slot; contracts = updated m.contracts p None; held = m.held }

-- too soon: the slot n is below the last plus the spacing
abbrev pub too_soon : Contract → ℕ → Bool
too_soon c n = elim c.last [ None ↦ false | Some t ↦ ltb n (t.0 + c.spacing.0) ]

-- a put: no contract, then too soon
abbrev pub put_rule : Option Contract → ℕ → Option Cause
put_rule None n = Some NoContract
put_rule (Some c) n = refused_if (too_soon c n) TooSoon None

-- the same, of a scheduler
abbrev pub put_verdict : Meaning → ℕ → Option Cause
put_verdict m p = put_rule (m.contracts p) m.slot

-- the contract, with n as the slot of the last cell put
abbrev pub stamped : Contract → ℕ → Contract
stamped c n = record { spacing = c.spacing; bound = c.bound; last = Some (record { 0 = n }) }

-- the contract, if there is one, with n as its last
abbrev pub used : Option Contract → ℕ → Option Contract
used None n = None
used (Some c) n = Some (stamped c n)

-- the cell is held as eligible in this slot, and this slot becomes the last
abbrev pub filled : Meaning → ℕ → ℕ → Meaning
filled m p l = record {
  slot = m.slot;
  contracts = updated m.contracts p (used (m.contracts p) m.slot);
  held = updated m.held p (updated (m.held p) m.slot (Some l));
}

-- serving: refused once every slot is over
abbrev pub serve_rule : ℕ → Option Cause
serve_rule n = refused_if (nat_lt last_slot n) SlotsOver None

-- the same, of a scheduler
abbrev pub serve_verdict : Meaning → Option Cause
serve_verdict m = serve_rule m.slot

-- all held cells but the one answered
abbrev pub without : (ℕ → ℕ → Option ℕ) → Option Cell → ℕ → ℕ → Option ℕ
without h None = h
without h (Some c) = updated h c.party (updated (h c.party) c.eligible.0 None)

-- one slot on, without the cell answered
abbrev pub stepped : Meaning → Option Cell → Meaning
stepped m c = record { slot = m.slot + 1; contracts = m.contracts; held = without m.held c }
