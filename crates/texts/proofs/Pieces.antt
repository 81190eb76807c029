-- Where a line is cut.
use Rattle.std.proofs.Common.{◌≡◌, ℕ, ◌+◌, ◌-◌, ◌<◌, Bool, true, false, cond, eqb, ltb, List, [], ◌∷◌, length, take, drop, IfSome, Some, None, Option, sym, refl, ap, ◌∙◌, subst, arith, Bor}
use Rattle.std.proofs.lemmas.List.{take_rest}
use Rattle.std.proofs.lemmas.List.Splits.{slice_split_none, slice_split_first}
use Rattle.std.proofs.lemmas.List.Sums.{fails_before_first}
use Rattle.std.proofs.lemmas.Bool.{ltb-true, ltb-false}
use Rattle.std.specs.List.{position_or_len}
use Rattle.std.specs.Option.{option_map}
use Rattle.texts.specs.Fields.{pieces}

-- the place of the first byte b, or the length
abbrev first : ℕ → List ℕ → ℕ
first b xs = position_or_len (λ x. eqb x b) xs

-- what `position` answers
abbrev pub found : ℕ → List ℕ → Option ℕ
found b xs = cond (ltb (first b xs) (length xs)) (Some (first b xs)) None

uncut_cases : (b : ℕ) (xs : List ℕ) (t : Bool) → ltb (first b xs) (length xs) ≡ t → cond t (Some (first b xs)) None ≡ None → pieces b xs ≡ xs ∷ []
uncut_cases b xs true e h = let z : ◌≡◌ {A = ℕ} 0 1 = cc in absurd (omega arith)
uncut_cases b xs false e h =
    slice_split_none (λ x. eqb x b) xs (λ k d l. fails_before_first (λ x. eqb x b) xs k d (omega (arith, ltb-false (first b xs) (length xs) e)))

pub uncut : (b : ℕ) (xs : List ℕ) → found b xs ≡ None → pieces b xs ≡ xs ∷ []
uncut b xs h = uncut_cases b xs (ltb (first b xs) (length xs)) refl h

cut_cases : (b : ℕ) (xs : List ℕ) (i : ℕ) (t : Bool) → ltb (first b xs) (length xs) ≡ t → cond t (Some (first b xs)) None ≡ Some i → pieces b xs ≡ take i xs ∷ pieces b (take (length xs - (i + 1)) (drop (i + 1) xs))
cut_cases b xs i true e h =
    let same : first b xs ≡ i = cc in
    slice_split_first (λ x. eqb x b) xs 0 (ltb-true (first b xs) (length xs) e)
    ∙ ap (λ k. take k xs ∷ pieces b (drop (k + 1) xs)) same
    ∙ ap (λ ys. take i xs ∷ pieces b ys) (sym (take_rest xs (i + 1)))
cut_cases b xs i false e h = let z : ◌≡◌ {A = ℕ} 0 1 = cc in absurd (omega arith)

pub cut_at : (b : ℕ) (xs : List ℕ) (i : ℕ) → found b xs ≡ Some i → pieces b xs ≡ take i xs ∷ pieces b (take (length xs - (i + 1)) (drop (i + 1) xs))
cut_at b xs i h = cut_cases b xs i (ltb (first b xs) (length xs)) refl h

-- how much of a text is left
abbrev pub left : Option (List ℕ) → ℕ
left None = 0
left (Some xs) = length xs + 1

less : (behind : Option (Bor (List ℕ))) (here : Bor (List ℕ)) → IfSome behind (λ r. length r.now < length here.now) → left (option_map (λ r. r.now) behind) < length here.now + 1
less None here h = omega arith
less (Some r) here h = omega arith

pub left_less : (was behind : Option (Bor (List ℕ))) (here : Bor (List ℕ)) → was ≡ Some here → IfSome behind (λ r. length r.now < length here.now) → left (option_map (λ r. r.now) behind) < left (option_map (λ r. r.now) was)
left_less was behind here e h = subst (λ o. left (option_map (λ r. r.now) behind) < left (option_map (λ r. r.now) o)) (sym e) (less behind here h)
