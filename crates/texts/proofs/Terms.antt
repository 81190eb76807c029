-- The numbers of a PARTY line.
use Rattle.std.proofs.Common.{◌≡◌, ℕ, zero, suc, ◌+◌, ◌-◌, ◌<◌, ◌≤◌, Bool, true, false, ◌&&◌, leb, List, [], ◌∷◌, ◌++◌, map, length, get_or, take, drop, set, replicate, Ok, Err, sym, refl, ap, ◌∙◌, append_assoc, arith}
use lib.ListN.{length-map}
use Rattle.std.proofs.lemmas.List.{take_rest, map_more, set-append_right, length-take-le, take_all}
use Rattle.std.proofs.lemmas.Bool.{cond-true, cond-false, eq-eqb, le-leb, leb-true, and_parts, and_from}
use Rattle.cells.specs.declared.faults.Cause.TheVariants.{NumberOutOfRange}
use Rattle.cells.specs.declared.times.Span.{Span}
use Rattle.texts.specs.declared.forms.PlanEntry.TheVariants.{Party}
use Rattle.texts.specs.PlanLines.{span, terms, eight_of, party_numbers}

pub term_at : (ds : List ℕ) (i : ℕ) → terms ds ≡ true → i < length ds → get_or ds i 0 ≤ 65535
term_at [] i h l = absurd (omega arith)
term_at (d ∷ ds) zero h l = leb-true d 65535 (and_parts (leb d 65535) (terms ds) h).0
term_at (d ∷ ds) (suc i) h l = term_at ds i (and_parts (leb d 65535) (terms ds) h).1 (omega arith)

-- eight places, the first i of them filled
abbrev pub filled : List ℕ → ℕ → List Span
filled xs i = map span (take i xs) ++ replicate (8 - i) (span 0)

pub filled_none : (xs : List ℕ) → replicate 8 (span 0) ≡ filled xs 0
filled_none xs = refl

next_place : (i : ℕ) (s : Span) → i < 8 → set (replicate (8 - i) (span 0)) 0 s ≡ s ∷ replicate (8 - (i + 1)) (span 0)
next_place i s l =
    let e : 8 - i ≡ suc (8 - (i + 1)) = omega arith in
    ap (λ k. set (replicate k (span 0)) 0 s) e

pub filled_more : (xs : List ℕ) (i : ℕ) → i < length xs → length xs ≤ 8 → set (filled xs i) i (span (get_or xs i 0)) ≡ filled xs (i + 1)
filled_more xs i l few =
    let s = span (get_or xs i 0) in
    let here : length (map span (take i xs)) ≡ i = length-map (take i xs) span ∙ length-take-le i xs (omega arith) in
    let z : i - i ≡ 0 = omega arith in
    set-append_right (map span (take i xs)) (replicate (8 - i) (span 0)) i i s here (omega arith)
    ∙ ap (λ k. map span (take i xs) ++ set (replicate (8 - i) (span 0)) k s) z
    ∙ ap (λ ys. map span (take i xs) ++ ys) (next_place i s (omega arith))
    ∙ sym (append_assoc (map span (take i xs)) (s ∷ []) (replicate (8 - (i + 1)) (span 0)))
    ∙ ap (λ ys. ys ++ replicate (8 - (i + 1)) (span 0)) (sym (map_more span xs i 0 l))

pub filled_all : (xs : List ℕ) (i : ℕ) → length xs ≤ i → i ≤ length xs → filled xs i ≡ eight_of xs
filled_all xs i l m =
    let e : i ≡ length xs = omega arith in
    ap (λ ys. map span ys ++ replicate (8 - i) (span 0)) (take_all i xs l) ∙ ap (λ k. map span xs ++ replicate (8 - k) (span 0)) e

two_up : (xs : List ℕ) → 2 ≤ length xs → xs ≡ get_or xs 0 0 ∷ get_or xs 1 0 ∷ drop 2 xs
two_up [] l = absurd (omega arith)
two_up (x ∷ []) l = absurd (omega arith)
two_up (x ∷ y ∷ xs) l = refl

-- the bounds among the numbers, as the slice pattern reads them
abbrev pub bounds_of : List ℕ → List ℕ
bounds_of xs = take (length xs - 2) (drop 2 xs)

parted : (hops : ℕ) (xs : List ℕ) → 2 ≤ length xs → party_numbers hops xs ≡ party_numbers hops (get_or xs 0 0 ∷ get_or xs 1 0 ∷ bounds_of xs)
parted hops xs l =
    ap (party_numbers hops) (two_up xs l) ∙ ap (λ ds. party_numbers hops (get_or xs 0 0 ∷ get_or xs 1 0 ∷ ds)) (sym (take_rest xs 2))

fits : ℕ → ℕ → List ℕ → Bool
fits p s ds = leb p 15 && (leb s 65535 && terms ds)

pub party_made : (hops : ℕ) (xs : List ℕ) → 2 ≤ length xs → length (bounds_of xs) ≡ hops → get_or xs 0 0 ≤ 15 → get_or xs 1 0 ≤ 65535 → terms (bounds_of xs) ≡ true → party_numbers hops xs ≡ Ok (Party (record { number = get_or xs 0 0; spacing = span (get_or xs 1 0); bounds = eight_of (bounds_of xs) }))
party_made hops xs l h a b t =
    parted hops xs l ∙ cond-true _ _ _ (eq-eqb _ _ h) ∙ cond-true _ _ _ (and_from _ _ (le-leb _ 15 a) (and_from _ _ (le-leb _ 65535 b) t))

pub party_refused : (hops : ℕ) (xs : List ℕ) → 2 ≤ length xs → length (bounds_of xs) ≡ hops → (leb (get_or xs 0 0) 15 && (leb (get_or xs 1 0) 65535 && terms (bounds_of xs))) ≡ false → party_numbers hops xs ≡ Err NumberOutOfRange
party_refused hops xs l h f = parted hops xs l ∙ cond-true _ _ _ (eq-eqb _ _ h) ∙ cond-false _ _ _ f
