-- What stands behind the make in a HOP line.
use Rattle.std.proofs.Common.{◌≡◌, ℕ, List, [], ◌∷◌, ◌++◌, Some, None, Err, Option, Result, sym, refl, ap, ◌∙◌, append-nil, arith}
use Rattle.cells.specs.declared.faults.Cause.{Cause}
use Rattle.cells.specs.declared.faults.Cause.TheVariants.{LineForm}
use Rattle.texts.specs.Fields.{pieces, numeral, joined_to, numbers_of}
use Rattle.texts.specs.PlanLines.{hop_numbers, hop_line}
use Rattle.cells.specs.declared.makes.Make.{Make}
use Rattle.texts.specs.declared.forms.PlanEntry.{PlanEntry}
use Rattle.texts.proofs.Numerals.{no_tab}
use Rattle.texts.proofs.Rejoins.{led, led-pieces, parted}

-- the hop with this number for its link
abbrev pub with_link : Make → Option ℕ → Result PlanEntry Cause
with_link k None = Err LineForm
with_link k (Some g) = hop_numbers k (g ∷ [])

one : (k : Make) (o : Option ℕ) → hop_line (Some k) (joined_to o (Some [])) ≡ with_link k o
one k None = refl
one k (Some g) = refl

many : (k : Make) (a b : Option ℕ) (c : Option (List ℕ)) → hop_line (Some k) (joined_to a (joined_to b c)) ≡ Err LineForm
many k None b c = refl
many k (Some x) None c = refl
many k (Some x) (Some y) None = refl
many k (Some x) (Some y) (Some zs) = refl

cases : (k : Make) (xs : List ℕ) (ps : List (List ℕ)) → pieces 9 xs ≡ ps → hop_line (Some k) (numbers_of ps) ≡ with_link k (numeral xs)
cases k xs [] e = let n : [] ≡ 9 ∷ xs = ap (led 9) (sym e) ∙ led-pieces 9 xs in let z : ◌≡◌ {A = ℕ} 0 1 = cc in absurd (omega arith)
cases k xs (p ∷ []) e =
    let same : xs ≡ p = parted 9 xs p [] e ∙ append-nil p in
    one k (numeral p) ∙ ap (λ ys. with_link k (numeral ys)) (sym same)
cases k xs (p ∷ q ∷ qs) e =
    many k (numeral p) (numeral q) (numbers_of qs) ∙ ap (with_link k) (no_tab p (q ++ led 9 qs) ∙ ap numeral (sym (parted 9 xs p (q ∷ qs) e)))

pub link_alone : (k : Make) (xs : List ℕ) → hop_line (Some k) (numbers_of (pieces 9 xs)) ≡ with_link k (numeral xs)
link_alone k xs = cases k xs (pieces 9 xs) refl
