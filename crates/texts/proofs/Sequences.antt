-- Numbers read one after another.
use Rattle.std.proofs.Common.{◌≡◌, ℕ, List, [], ◌∷◌, ◌++◌, Some, None, Option, sym, refl, ap, ◌∙◌, append_assoc, append-nil}
use Rattle.texts.specs.Fields.{numeral, joined_to, numbers_of}

-- xs before what is there
abbrev pub onto : {X : Type 0} → List X → Option (List X) → Option (List X)
onto xs None = None
onto xs (Some ys) = Some (xs ++ ys)

pub onto_nil : {X : Type 0} (o : Option (List X)) → o ≡ onto [] o
onto_nil None = refl
onto_nil (Some ys) = refl

joined-onto : {X : Type 0} (xs : List X) (x : X) (o : Option (List X)) → onto xs (joined_to (Some x) o) ≡ onto (xs ++ x ∷ []) o
joined-onto xs x None = refl
joined-onto xs x (Some ys) = ap (λ zs. Some zs) (sym (append_assoc xs (x ∷ []) ys))

pub one_more : (xs : List ℕ) (n : ℕ) (f : List ℕ) (fs : List (List ℕ)) → Some n ≡ numeral f → onto xs (numbers_of (f ∷ fs)) ≡ onto (xs ++ n ∷ []) (numbers_of fs)
one_more xs n f fs e = ap (λ o. onto xs (joined_to o (numbers_of fs))) (sym e) ∙ joined-onto xs n (numbers_of fs)

pub not_one : (xs : List ℕ) (f : List ℕ) (fs : List (List ℕ)) → None ≡ numeral f → onto xs (numbers_of (f ∷ fs)) ≡ None
not_one xs f fs e = ap (λ o. onto xs (joined_to o (numbers_of fs))) (sym e)

pub all_read : (xs : List ℕ) → onto xs (numbers_of []) ≡ Some xs
all_read xs = ap (λ zs. Some zs) (append-nil xs)
