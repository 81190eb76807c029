-- One place of a table that is written.
use Rattle.std.proofs.Common.{◌≡◌, ℕ, ◌<◌, Bool, true, false, cond, eqb, List, length, get_or, set, None, Option, sym, refl, ap, ◌∙◌, subst, get_or-set_other, get_or-set_same, rules}
use mathlib.Core.Path.{fun_ext}
use Rattle.scheduler.specs.declared.terms.Contract.{Contract}
use Rattle.scheduler.specs.Meaning.{Meaning, updated}
use Rattle.scheduler.specs.Tables.{contracts_of}

pub get_d_set : {X : Type 0} (xs : List X) (i p : ℕ) (v d : X) → i < length xs → get_or (set xs i v) p d ≡ cond (eqb p i) v (get_or xs p d)
get_d_set xs i p v d h = search (rules, get_or-set_same, get_or-set_other)

either_way : {X : Type 0} (Q : X → Type 0) (b : Bool) (v w : X) → (b ≡ true → Q v) → Q w → Q (cond b v w)
either_way Q true v w x y = x refl
either_way Q false v w x y = y

-- what holds of every place holds still, where it holds of the one that is written
pub each_set : {X : Type 0} (Q : ℕ → X → Type 0) (xs : List X) (i : ℕ) (v d : X) → i < length xs → Q i v → ((p : ℕ) → Q p (get_or xs p d)) → (p : ℕ) → Q p (get_or (set xs i v) p d)
each_set Q xs i v d h q all p =
    let here : eqb p i ≡ true → Q p v = λ e. (let s : i ≡ p = search rules in subst (λ k. Q k v) s q) in
    subst (Q p) (sym (get_d_set xs i p v d h)) (either_way (Q p) (eqb p i) v (get_or xs p d) here (all p))

cond_ap : {X Y : Type 0} (f : X → Y) (b : Bool) (v w : X) → f (cond b v w) ≡ cond b (f v) (f w)
cond_ap f true v w = refl
cond_ap f false v w = refl

-- a table as a function, written at one place
pub table-set : {X Y : Type 0} (f : X → Y) (xs : List X) (i : ℕ) (v d : X) → i < length xs → (λ p. f (get_or (set xs i v) p d)) ≡ updated (λ p. f (get_or xs p d)) i (f v)
table-set f xs i v d h = fun_ext (λ p. ap f (get_d_set xs i p v d h) ∙ cond_ap f (eqb p i) v (get_or xs p d))

-- the same of a table of contracts
pub contracts_set : (cs : List (Option Contract)) (i : ℕ) (v : Option Contract) → i < length cs → contracts_of (set cs i v) ≡ updated (contracts_of cs) i v
contracts_set cs i v h = table-set (λ o. o) cs i v None h

-- what is written as it was
pub updated_same : {X : Type 0} (f : ℕ → X) (i : ℕ) (v : X) → f i ≡ v → updated f i v ≡ f
updated_same f i v e = fun_ext (λ q. (search (rules, e)))

-- written twice, the second stays
pub updated_twice : {X : Type 0} (f : ℕ → X) (i : ℕ) (v w : X) → updated (updated f i v) i w ≡ updated f i w
updated_twice f i v w = fun_ext (λ q. (search rules))

-- two meanings of equal parts
pub same_meaning : (m n : ℕ) (f g : ℕ → Option Contract) (h k : ℕ → ℕ → Option ℕ) → m ≡ n → f ≡ g → h ≡ k → ◌≡◌ {A = Meaning} (record { slot = m; contracts = f; held = h }) (record { slot = n; contracts = g; held = k })
same_meaning m n f g h k a b c = λ i. record { slot = a i; contracts = b i; held = c i }
