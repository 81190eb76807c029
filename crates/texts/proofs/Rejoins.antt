-- Pieces put together again, and the numbers among them.
use Rattle.std.proofs.Common.{◌≡◌, ℕ, Bool, true, false, cond, eqb, List, [], ◌∷◌, ◌++◌, drop, Some, None, decimal, Option, sym, refl, ap, ◌∙◌, append_assoc, arith}
use Rattle.std.proofs.lemmas.Bool.{eqb-true}
use Rattle.std.specs.List.{onto_first}
use Rattle.std.specs.Str.Parse.{digits_value}
use Rattle.texts.specs.Fields.{pieces, is_numeral, numeral, joined_to, numbers_of}
use Rattle.texts.specs.Writing.{tabbed}
use Rattle.texts.proofs.Numerals.{numeral_tells, written}

-- pieces, the byte b before each
abbrev pub led : ℕ → List (List ℕ) → List ℕ
led b [] = []
led b (p ∷ ps) = b ∷ (p ++ led b ps)

-- pieces, the byte b behind each
abbrev pub ended : ℕ → List (List ℕ) → List ℕ
ended b [] = []
ended b (p ∷ ps) = p ++ (b ∷ ended b ps)

onto_first-led : (b x : ℕ) (ps : List (List ℕ)) (xs : List ℕ) → led b ps ≡ b ∷ xs → led b (onto_first x ps) ≡ b ∷ x ∷ xs
onto_first-led b x [] xs h = let z : ◌≡◌ {A = ℕ} 0 1 = cc in absurd (omega arith)
onto_first-led b x (p ∷ ps) xs h = ap (λ l. b ∷ x ∷ drop 1 l) h

led_cases : (b x : ℕ) (xs : List ℕ) (ps : List (List ℕ)) (t : Bool) → eqb x b ≡ t → led b ps ≡ b ∷ xs → led b (cond t ([] ∷ ps) (onto_first x ps)) ≡ b ∷ x ∷ xs
led_cases b x xs ps true e h = ap (λ l. b ∷ l) h ∙ ap (λ y. b ∷ y ∷ xs) (sym (eqb-true x b e))
led_cases b x xs ps false e h = onto_first-led b x ps xs h

pub led-pieces : (b : ℕ) (xs : List ℕ) → led b (pieces b xs) ≡ b ∷ xs
led-pieces b [] = refl
led-pieces b (x ∷ xs) = led_cases b x xs (pieces b xs) (eqb x b) refl (led-pieces b xs)

pub ended-led : (b : ℕ) (ps : List (List ℕ)) → b ∷ ended b ps ≡ led b ps ++ b ∷ []
ended-led b [] = refl
ended-led b (p ∷ ps) = ap (λ l. b ∷ (p ++ l)) (ended-led b ps) ∙ ap (λ l. b ∷ l) (sym (append_assoc p (led b ps) (b ∷ [])))

-- the lines of a body are the body with one newline more
pub ended-pieces : (b : ℕ) (xs : List ℕ) → ended b (pieces b xs) ≡ xs ++ b ∷ []
ended-pieces b xs = ap (λ l. drop 1 l) (ended-led b (pieces b xs) ∙ ap (λ l. l ++ b ∷ []) (led-pieces b xs))

-- a line is its first piece and the others behind tabs
pub parted : (b : ℕ) (xs w : List ℕ) (ps : List (List ℕ)) → pieces b xs ≡ w ∷ ps → xs ≡ w ++ led b ps
parted b xs w ps e = ap (λ l. drop 1 l) (sym (led-pieces b xs) ∙ ap (led b) e)

-- a field that writes a number is how the number is written
numeral-written : (ds : List ℕ) (t : Bool) (n : ℕ) → is_numeral ds ≡ t → cond t (Some (digits_value 10 ds)) None ≡ Some n → ds ≡ decimal n
numeral-written ds true n h e = let same : digits_value 10 ds ≡ n = cc in (written ds (numeral_tells ds h)).0 ∙ ap decimal same
numeral-written ds false n h e = let z : ◌≡◌ {A = ℕ} 0 1 = cc in absurd (omega arith)

pub numeral_is : (ds : List ℕ) (n : ℕ) → numeral ds ≡ Some n → ds ≡ decimal n
numeral_is ds n e = numeral-written ds (is_numeral ds) n refl e

numbers_joined : (f : List ℕ) (fs : List (List ℕ)) (o : Option ℕ) (q : Option (List ℕ)) (ns : List ℕ) → numeral f ≡ o → ((ms : List ℕ) → q ≡ Some ms → led 9 fs ≡ tabbed ms) → joined_to o q ≡ Some ns → led 9 (f ∷ fs) ≡ tabbed ns
numbers_joined f fs None q ns h k e = let z : ◌≡◌ {A = ℕ} 0 1 = cc in absurd (omega arith)
numbers_joined f fs (Some n) None ns h k e = let z : ◌≡◌ {A = ℕ} 0 1 = cc in absurd (omega arith)
numbers_joined f fs (Some n) (Some ms) ns h k e =
    let same : n ∷ ms ≡ ns = cc in
    ap (λ l. 9 ∷ (f ++ l)) (k ms refl) ∙ ap (λ l. 9 ∷ (l ++ tabbed ms)) (numeral_is f n h) ∙ ap tabbed same

pub numbers_written : (fs : List (List ℕ)) (ns : List ℕ) → numbers_of fs ≡ Some ns → led 9 fs ≡ tabbed ns
numbers_written [] ns e = let same : [] ≡ ns = cc in ap tabbed same
numbers_written (f ∷ fs) ns e = numbers_joined f fs (numeral f) (numbers_of fs) ns refl (numbers_written fs) e
