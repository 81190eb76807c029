-- The six bytes that travel with a cell.
use Rattle.std.specs.Prelude.{◌≡◌, ℕ, ◌+◌, ◌*◌, ◌/◌, ◌%◌, cond, List, [], ◌∷◌, length, Ok, Err, Result, ◌==◌, nat_lt, slice_index}
use Rattle.cells.specs.declared.faults.Cause.{Cause}
use Rattle.cells.specs.declared.faults.Cause.TheVariants.{HeaderLength, HeaderParty, HeaderAhead}
use Rattle.cells.specs.declared.faults.Fault.{Fault}
use Rattle.cells.specs.declared.faults.Layer.TheVariants.{Header as InHeader}
use Rattle.header.specs.declared.Header.{Header}

-- a fault of a header names its party, and neither a hop nor a line
abbrev pub header_fault : Cause → ℕ → Fault
header_fault c p = record { cause = c; layer = InHeader; party = p; hop = 255; line = 0 }

-- the bytes of a header: party, ahead, and the label with its highest byte first
abbrev pub bytes_of : Header → List ℕ
bytes_of h = h.party ∷ h.ahead.0 ∷ h.label / 16777216 % 256 ∷ h.label / 65536 % 256 ∷ h.label / 256 % 256 ∷ h.label % 256 ∷ []

-- the number that four bytes write, the highest first
abbrev pub label_of : ℕ → ℕ → ℕ → ℕ → ℕ
label_of a b c d = a * 16777216 + b * 65536 + c * 256 + d

-- the header that six bytes would be
abbrev pub header_in : List ℕ → Header
header_in bs = record {
  party = slice_index bs 0;
  ahead = record { 0 = slice_index bs 1 };
  label = label_of (slice_index bs 2) (slice_index bs 3) (slice_index bs 4) (slice_index bs 5);
}

-- x, for a header in so many bytes: six of them, then a party of at most 15, then at most 127 ahead
abbrev pub checked : {X : Type 0} → ℕ → Header → X → Result X Fault
checked n h x =
    cond (n == 6) (cond (nat_lt 15 h.party) (Err (header_fault HeaderParty h.party)) (cond (nat_lt 127 h.ahead.0) (Err (header_fault HeaderAhead h.party)) (Ok x))) (Err (header_fault HeaderLength 255))

-- what bytes are read as
abbrev pub header_of : List ℕ → Result Header Fault
header_of bs = checked (length bs) (header_in bs) (header_in bs)

-- what so many lent bytes hold once a header is written into them
abbrev pub written : ℕ → Header → Result (List ℕ) Fault
written n h = checked n h (bytes_of h)

-- lent bytes after a write: what was to be written, or a fault and what they held
abbrev pub Writes : List ℕ → Header → List ℕ → Result (Unit {0}) Fault → Type 0
Writes old h new (Ok _) = written (length old) h ≡ Ok new
Writes old h new (Err f) = (written (length old) h ≡ Err f) × (new ≡ old)
