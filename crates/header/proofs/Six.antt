-- Six bytes, and the header that they are.
use Rattle.std.proofs.Common.{◌≡◌, ℕ, ◌/◌, ◌%◌, ◌<◌, Bool, true, false, cond, List, [], ◌∷◌, length, get_or, IfOk, Ok, Err, arith}
use Rattle.cells.specs.declared.faults.Fault.{Fault}
use Rattle.header.specs.Headers.{bytes_of, header_in, label_of}
use Rattle.header.specs.declared.Header.{Header}

-- the bytes of the header that six bytes are, are these bytes
pub six : (xs : List ℕ) → length xs ≡ 6 → ((i : ℕ) → get_or xs i 0 < 256) → bytes_of (header_in xs) ≡ xs
six [] l f = absurd (omega arith)
six (a ∷ []) l f = absurd (omega arith)
six (a ∷ b ∷ []) l f = absurd (omega arith)
six (a ∷ b ∷ c ∷ []) l f = absurd (omega arith)
six (a ∷ b ∷ c ∷ d ∷ []) l f = absurd (omega arith)
six (a ∷ b ∷ c ∷ d ∷ u ∷ []) l f = absurd (omega arith)
six (a ∷ b ∷ c ∷ d ∷ u ∷ v ∷ w ∷ xs) l f = absurd (omega arith)
six (a ∷ b ∷ c ∷ d ∷ u ∷ v ∷ []) l f =
    let fc : c < 256 = f 2 in
    let fd : d < 256 = f 3 in
    let fu : u < 256 = f 4 in
    let fv : v < 256 = f 5 in
    let pc : label_of c d u v / 16777216 % 256 ≡ c = omega arith in
    let pd : label_of c d u v / 65536 % 256 ≡ d = omega arith in
    let pu : label_of c d u v / 256 % 256 ≡ u = omega arith in
    let pv : label_of c d u v % 256 ≡ v = omega arith in
    λ j. a ∷ b ∷ pc j ∷ pd j ∷ pu j ∷ pv j ∷ []

-- what holds of a header holds of it once it is checked
pub checked_keeps : (party ahead : Bool) (x y : Fault) (h : Header) (P : Header → Type 0) → P h → IfOk (cond party (Err x) (cond ahead (Err y) (Ok h))) P
checked_keeps true ahead x y h P p = tt {0}
checked_keeps false true x y h P p = tt {0}
checked_keeps false false x y h P p = p
