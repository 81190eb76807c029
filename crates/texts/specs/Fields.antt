-- What a text is made of: pieces between the bytes that part them, and numbers.
use Rattle.std.specs.Prelude.{ℕ, Bool, cond, not, ◌&&◌, ◌||◌, List, [], ◌∷◌, length, Some, None, Option, ◌==◌, nat_le, slice_index}
use Rattle.std.specs.List.{slice_split}
use Rattle.std.specs.Str.Parse.{digits_value}
use Rattle.std.specs.Str.{all_ascii_digits}

-- the pieces of a text that the byte b parts: one more than b stands in it
abbrev pub pieces : ℕ → List ℕ → List (List ℕ)
pieces b xs = slice_split (λ x. x == b) xs

-- one to ten digits, the first no zero unless it is alone
abbrev pub is_numeral : List ℕ → Bool
is_numeral ds = (nat_le 1 (length ds) && nat_le (length ds) 10) && ((not (slice_index ds 0 == 48) || nat_le (length ds) 1) && all_ascii_digits ds)

-- the number that a field writes
abbrev pub numeral : List ℕ → Option ℕ
numeral ds = cond (is_numeral ds) (Some (digits_value 10 ds)) None

-- x before a list, where both are there
abbrev pub joined_to : {X : Type 0} → Option X → Option (List X) → Option (List X)
joined_to None ys = None
joined_to (Some x) None = None
joined_to (Some x) (Some ys) = Some (x ∷ ys)

-- the numbers that fields write, where each writes one
abbrev pub numbers_of : List (List ℕ) → Option (List ℕ)
numbers_of [] = Some []
numbers_of (f ∷ fs) = joined_to (numeral f) (numbers_of fs)
