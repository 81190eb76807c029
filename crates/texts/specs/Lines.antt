-- A text, line by line, and how an answer is told.
use Rattle.std.specs.Prelude.{◌≡◌, ℕ, ◌+◌, ◌-◌, Bool, cond, ◌&&◌, List, [], ◌∷◌, length, take, Some, None, Ok, Err, Option, Result, ◌==◌, nat_le, slice_index}
use Rattle.cells.specs.Faults.{text_fault}
use Rattle.cells.specs.declared.faults.Cause.{Cause}
use Rattle.cells.specs.declared.faults.Cause.TheVariants.{TextSizeOrEnd}
use Rattle.cells.specs.declared.faults.Fault.{Fault}
use Rattle.cells.specs.declared.faults.Layer.{Layer}
use Rattle.texts.specs.Fields.{pieces}
use Rattle.texts.specs.declared.refusals.Refusal.{Refusal}
use Rattle.texts.specs.declared.refusals.Refusal.TheVariants.{Faulty, NoMemory}

-- r is the answer o, with its value by what f says of it; or there was no memory
abbrev pub ToldBy : {X Y E : Type 0} → (X → Y) → Result Y E → Result X (Refusal E) → Type 0
ToldBy f o (Ok x) = o ≡ Ok (f x)
ToldBy f o (Err (Faulty e)) = o ≡ Err e
ToldBy f o (Err NoMemory) = Unit {0}

-- r is the answer o, or there was no memory
abbrev pub Told : {X E : Type 0} → Result X E → Result X (Refusal E) → Type 0
Told o r = ToldBy (λ x. x) o r

-- go on with what was made; what refused it stays
abbrev pub and_then : {X Y E : Type 0} → Result X E → (X → Result Y E) → Result Y E
and_then (Ok x) f = f x
and_then (Err e) f = Err e

-- the answer of line n of a text: what refused it, as a fault
abbrev pub in_line : {X : Type 0} → Layer → ℕ → Result X Cause → Result X Fault
in_line y n (Ok x) = Ok x
in_line y n (Err c) = Err (text_fault c y n)

-- line by line from line n on: the first fault ends it; after the last line, n is one past it
abbrev pub each_line : {M : Type 0} → Layer → (M → List ℕ → Result M Cause) → (M → Result M Cause) → ℕ → M → List (List ℕ) → Result M Fault
each_line y step end n m [] = in_line y n (end m)
each_line y step end n m (l ∷ ls) = and_then (in_line y n (step m l)) (λ k. each_line y step end (n + 1) k ls)

-- at most 32,768 bytes, the last a newline
abbrev pub fit_text : List ℕ → Bool
fit_text bs = nat_le (length bs) 32768 && slice_index bs (length bs - 1) == 10

-- the lines of a text: all but its last newline
abbrev pub body_of : List ℕ → Option (List ℕ)
body_of bs = cond (fit_text bs) (Some (take (length bs - 1) bs)) None

-- what the lines of a text say, from m on; a fault of no line where it has no body
abbrev pub read_text : {M : Type 0} → Layer → (M → List ℕ → Result M Cause) → (M → Result M Cause) → M → Option (List ℕ) → Result M Fault
read_text y step end m None = Err (text_fault TextSizeOrEnd y 0)
read_text y step end m (Some bs) = each_line y step end 1 m (pieces 10 bs)
