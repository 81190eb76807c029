-- The worked examples. Contracts are written (spacing, bound).
use Rattle.std.specs.Prelude.{◌≡◌, ℕ, List, [], ◌∷◌, replicate, Some, None, Ok, Option}
use Rattle.cells.specs.Faults.{cause_number}
use Rattle.cells.specs.declared.faults.Cause.{Cause}
use Rattle.header.specs.Headers.{bytes_of, header_of}
use Rattle.header.specs.declared.Header.{Header}
use Rattle.scheduler.specs.declared.terms.Contract.{Contract}
use Rattle.scheduler.specs.Meaning.{agreed}
use Rattle.edf.specs.Admission.{demand_in, busy_period, test_of}
use Rattle.sp.specs.Levels.{sp_verdict}
use Rattle.table.specs.Turns.{period, least_free, assigned, no_owner, offset_verdict}

-- the number of a verdict's cause; none is consent
abbrev pub answered : Option Cause → Option ℕ
answered None = None
answered (Some c) = Some (cause_number c)

-- the contract (s, d)
abbrev pub terms : ℕ → ℕ → Option Contract
terms s d = Some (agreed s d)

-- a table with contracts of the parties 0, 1 and 2
abbrev pub three : Option Contract → Option Contract → Option Contract → List (Option Contract)
three a b c = a ∷ b ∷ c ∷ replicate 13 None

-- EDF with two (2, 2) refuses a third with 9
abbrev pub NoEnd : Type 0
NoEnd = (answered (test_of (three (terms 2 2) (terms 2 2) None)) ≡ None) × (answered (test_of (three (terms 2 2) (terms 2 2) (terms 2 2))) ≡ Some 9)

-- EDF with (2, 1) and (3, 2) refuses (6, 4) with 10: P is 6 and H(5) is 6
abbrev pub too_much : List (Option Contract)
too_much = three (terms 2 1) (terms 3 2) (terms 6 4)

abbrev pub TooMuch : Type 0
TooMuch =
    (answered (test_of (three (terms 2 1) (terms 3 2) None)) ≡ None)
    × (busy_period too_much ≡ Some 6)
    × (demand_in too_much 5 ≡ 6)
    × (answered (test_of too_much) ≡ Some 10)

-- EDF grants three (4, 3), one after another
abbrev pub ThreeByEdf : Type 0
ThreeByEdf =
    (answered (test_of (three (terms 4 3) None None)) ≡ None)
    × (answered (test_of (three (terms 4 3) (terms 4 3) None)) ≡ None)
    × (answered (test_of (three (terms 4 3) (terms 4 3) (terms 4 3))) ≡ None)

-- SP grants two of them and refuses the third with 11
abbrev pub TwoBySp : Type 0
TwoBySp =
    (answered (sp_verdict (three (terms 4 3) None None)) ≡ None)
    × (answered (sp_verdict (three (terms 4 3) (terms 4 3) None)) ≡ None)
    × (answered (sp_verdict (three (terms 4 3) (terms 4 3) (terms 4 3))) ≡ Some 11)

-- the owners of the turns once party 0 has (5, 6), and once party 1 has (8, 9) too
abbrev pub owners_one : ℕ → Option ℕ
owners_one = assigned no_owner 4 0 0

abbrev pub owners_two : ℕ → Option ℕ
owners_two = assigned owners_one 8 1 1

-- TABLE gives (5, 6) period 4 and offset 0, then (8, 9) period 8 and offset 1
abbrev pub TwoTurns : Type 0
TwoTurns =
    (period 5 6 ≡ 4)
    × (least_free no_owner (period 5 6) ≡ Some 0)
    × (period 8 9 ≡ 8)
    × (least_free owners_one (period 8 9) ≡ Some 1)

-- TABLE then refuses (1, 1) with 12
abbrev pub NoTurn : Type 0
NoTurn = answered (offset_verdict (least_free owners_two (period 1 1))) ≡ Some 12

-- party 2, ahead 3, label 700 is 02 03 00 00 02 BC in hexadecimal, and is read back as that
abbrev pub header : Header
header = record { party = 2; ahead = record { 0 = 3 }; label = 700 }

abbrev pub SixBytes : Type 0
SixBytes =
    (bytes_of header ≡ 0x02 ∷ 0x03 ∷ 0x00 ∷ 0x00 ∷ 0x02 ∷ 0xBC ∷ [])
    × (header_of (0x02 ∷ 0x03 ∷ 0x00 ∷ 0x00 ∷ 0x02 ∷ 0xBC ∷ []) ≡ Ok header)

-- all of them
abbrev pub WorkedExamples : Type 0
WorkedExamples = NoEnd × TooMuch × ThreeByEdf × TwoBySp × TwoTurns × NoTurn × SixBytes
