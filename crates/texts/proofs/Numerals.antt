-- Which fields write a number.
use Rattle.std.proofs.Common.{◌≡◌, ℕ, ◌+◌, ◌-◌, ◌*◌, ◌^◌, ◌<◌, ◌≤◌, Bool, true, false, not, ◌&&◌, ◌||◌, eqb, leb, List, ◌∷◌, ◌++◌, [], length, get_or, take, Some, None, decimal, sym, refl, subst, inl, inr, arith}
use Rattle.std.proofs.lemmas.List.{length-take-le, take_all}
use Rattle.std.proofs.lemmas.Str.{digit_value_digit}
use Rattle.std.proofs.lemmas.Int.Digits.{digits_more, digits_value_more}
use Rattle.std.proofs.lemmas.Bool.{cond-true, cond-false, eq-eqb, lt-leb, le-leb, leb-true, eqb-true, eqb-false, and_parts, and_from, and_left, and_right, or_left, or_right, or_cases, or_from, not-true, not_from_true, not_from_false, cases_Bool}
use Rattle.std.specs.Int.{IsInRange}
use Rattle.std.specs.Str.Parse.{AllDigits, digits_value}
use Rattle.std.specs.Str.{all_ascii_digits}
use Rattle.std.proofs.lemmas.Str.Parse.{IsNumeralModel, numerals_by_value, tells_digits, tells_all_ascii_digits, digit_at, digits_value_short}
use Rattle.std.proofs.lemmas.Fmt.{decimal-digits_value}
use Rattle.texts.specs.Fields.{is_numeral, numeral}

pub own : IsNumeralModel (AllDigits 10) (digits_value 10)
own = numerals_by_value (AllDigits 10) tells_digits

pub tests : IsNumeralModel (λ ds. all_ascii_digits ds ≡ true) (digits_value 10)
tests = numerals_by_value (λ ds. all_ascii_digits ds ≡ true) tells_all_ascii_digits

-- no zero in front, unless it is alone
abbrev pub Bare : List ℕ → Type 0
Bare ds = get_or ds 0 0 ≡ 48 → length ds ≤ 1

pub refused : (ds : List ℕ) → is_numeral ds ≡ false → None ≡ numeral ds
refused ds e = sym (cond-false (is_numeral ds) _ _ e)

undigited : (ds : List ℕ) → all_ascii_digits ds ≡ false → None ≡ numeral ds
undigited ds e =
    refused ds (and_right (leb 1 (length ds) && leb (length ds) 10) _ (and_right (not (eqb (get_or ds 0 0) 48) || leb (length ds) 1) _ e))

pub too_short : (ds : List ℕ) → length ds ≡ 0 → None ≡ numeral ds
too_short ds z = refused ds (and_left _ _ (and_left _ _ (lt-leb 1 (length ds) (omega arith))))

pub too_long : (ds : List ℕ) → 10 < length ds → None ≡ numeral ds
too_long ds l = refused ds (and_left _ _ (and_right _ _ (lt-leb (length ds) 10 l)))

pub padded : (ds : List ℕ) → get_or ds 0 0 ≡ 48 → 1 < length ds → None ≡ numeral ds
padded ds z l =
    refused ds (and_right _ _ (and_left _ _ (or_from _ _ (not_from_true _ (eq-eqb (get_or ds 0 0) 48 z)) (lt-leb (length ds) 1 l))))

no_digit : (ds : List ℕ) (i : ℕ) → i < length ds → (IsInRange 48 57 (get_or ds i 0) → ⊥) → (b : Bool) → all_ascii_digits ds ≡ b → b ≡ false
no_digit ds i l never true e = absurd (never (digit_at ds i (tests.to ds e) l))
no_digit ds i l never false e = refl

pub not_a_digit : (ds : List ℕ) (i : ℕ) → i < length ds → (IsInRange 48 57 (get_or ds i 0) → ⊥) → None ≡ numeral ds
not_a_digit ds i l never = undigited ds (no_digit ds i l never (all_ascii_digits ds) refl)

-- a field with a tab in it writes no number
tab_undigited : (p r : List ℕ) → all_ascii_digits (p ++ 9 ∷ r) ≡ false
tab_undigited [] r = refl
tab_undigited (x ∷ p) r = and_right _ _ (tab_undigited p r)

pub no_tab : (p r : List ℕ) → None ≡ numeral (p ++ 9 ∷ r)
no_tab p r = undigited (p ++ 9 ∷ r) (tab_undigited p r)

bare_test : (ds : List ℕ) → Bare ds → (not (eqb (get_or ds 0 0) 48) || leb (length ds) 1) ≡ true
bare_test ds z =
    elim (cases_Bool (eqb (get_or ds 0 0) 48)) [
      | inl e ↦ or_right _ _ (le-leb (length ds) 1 (z (eqb-true (get_or ds 0 0) 48 e)))
      | inr e ↦ or_left _ _ (not_from_false _ e)
    ]

bare_from : (ds : List ℕ) → (not (eqb (get_or ds 0 0) 48) || leb (length ds) 1) ≡ true → Bare ds
bare_from ds h z =
    elim (or_cases (not (eqb (get_or ds 0 0) 48)) (leb (length ds) 1) h) [
      | inl e ↦ absurd (eqb-false (get_or ds 0 0) 48 (not-true (eqb (get_or ds 0 0) 48) e) z)
      | inr e ↦ leb-true (length ds) 1 e
    ]

-- what the test of a numeral says
pub record Numeral (ds : List ℕ) : Type 0 where
  pub some : 0 < length ds
  pub few : length ds ≤ 10
  pub bare : Bare ds
  pub digits : AllDigits 10 ds

pub numeral_tells : (ds : List ℕ) → is_numeral ds ≡ true → Numeral ds
numeral_tells ds h =
    let a = and_parts (leb 1 (length ds) && leb (length ds) 10) ((not (eqb (get_or ds 0 0) 48) || leb (length ds) 1) && all_ascii_digits ds) h in
    let b = and_parts (leb 1 (length ds)) (leb (length ds) 10) a.0 in
    let d = and_parts (not (eqb (get_or ds 0 0) 48) || leb (length ds) 1) (all_ascii_digits ds) a.1 in
    record { some = omega (arith, leb-true 1 (length ds) b.0); few = leb-true (length ds) 10 b.1; bare = bare_from ds d.0; digits = tests.to ds d.1 }

pub named : (ds : List ℕ) → Numeral ds → Some (digits_value 10 ds) ≡ numeral ds
named ds n =
    sym (cond-true (is_numeral ds) _ _ (and_from _ _ (and_from _ _ (le-leb 1 (length ds) (omega arith)) (le-leb (length ds) 10 n.few)) (and_from _ _ (bare_test ds n.bare) (tests.from ds n.digits))))

pub written : (ds : List ℕ) → Numeral ds → (ds ≡ decimal (digits_value 10 ds)) × (digits_value 10 ds < 10 ^ 10)
written ds n =
    let v = digits_value_short own ds 10 n.digits n.few in
    (sym (decimal-digits_value own ds n.digits n.some (λ e. (let k = n.bare e in omega arith)) (omega arith)), v)

-- one digit more in the loop over a field
pub short : (bs : List ℕ) (i : ℕ) → i < length bs → length bs ≤ 10 → AllDigits 10 (take i bs) → digits_value 10 (take i bs) < 10 ^ 9
short bs i l k d = digits_value_short own (take i bs) 9 d (omega (arith, length-take-le i bs (omega arith)))

pub digit_more : (bs : List ℕ) (i : ℕ) → i < length bs → 48 ≤ get_or bs i 0 → get_or bs i 0 ≤ 57 → AllDigits 10 (take i bs) → AllDigits 10 (take (i + 1) bs)
digit_more bs i l a b d = digits_more 10 bs i l d (omega (arith, digit_value_digit (get_or bs i 0) (a, b)))

pub number_more : (bs : List ℕ) (i n : ℕ) → i < length bs → 48 ≤ get_or bs i 0 → get_or bs i 0 ≤ 57 → n ≡ digits_value 10 (take i bs) → n * 10 + (get_or bs i 0 - 48) ≡ digits_value 10 (take (i + 1) bs)
number_more bs i n l a b e = omega (arith, digits_value_more 10 bs i l, digit_value_digit (get_or bs i 0) (a, b), e)

-- after the last digit
pub whole : (P : List ℕ → Type 0) (bs : List ℕ) (i : ℕ) → length bs ≤ i → P (take i bs) → P bs
whole P bs i l h = subst P (take_all i bs l) h
