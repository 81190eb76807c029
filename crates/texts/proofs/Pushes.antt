-- What holds of each element of a list, one element more at its end.
use Rattle.std.proofs.Common.{◌≡◌, ℕ, Bool, true, false, cond, not, ◌&&◌, ◌||◌, eqb, List, [], ◌∷◌, ◌++◌, sym, refl, ◌∙◌, subst}
use Rattle.std.proofs.lemmas.List.Folds.{list_all-append, list_any-append}
use Rattle.std.proofs.lemmas.Bool.{and_parts, and_from, or_parts, or_from, not-true, not_from_false, ne_eqb, eqb-false}
use Rattle.std.specs.List.{list_all}
use Rattle.texts.specs.Parties.{listed, apart}
use Rattle.texts.specs.declared.forms.PlanParty.{PlanParty}

-- after a push: the old list, or one element more
pub push_keeps : {X : Type 0} (P : X → Type 0) (ok : Bool) (old more new : X) → new ≡ cond ok more old → P more → P old → P new
push_keeps P true old more new e p q = subst P (sym e) p
push_keeps P false old more new e p q = subst P (sym e) q

pub all_push : {X : Type 0} (t : X → Bool) (xs : List X) (x : X) → list_all t xs ≡ true → t x ≡ true → list_all t (xs ++ x ∷ []) ≡ true
all_push t xs x h k = list_all-append t xs (x ∷ []) ∙ and_from (list_all t xs) (t x && true) h (and_from (t x) true k refl)

eqb_other : (a b : ℕ) → eqb a b ≡ false → eqb b a ≡ false
eqb_other a b h = ne_eqb b a (λ e. eqb-false a b h (sym e))

unlisted_push : (n : ℕ) (ps : List PlanParty) (p : PlanParty) → listed n ps ≡ false → eqb p.number n ≡ false → listed n (ps ++ p ∷ []) ≡ false
unlisted_push n ps p h k = list_any-append (λ q. eqb q.number n) ps (p ∷ []) ∙ or_from (listed n ps) (eqb p.number n || false) h (or_from (eqb p.number n) false k refl)

pub apart_push : (ps : List PlanParty) (p : PlanParty) → apart ps ≡ true → listed p.number ps ≡ false → apart (ps ++ p ∷ []) ≡ true
apart_push [] p h k = refl
apart_push (q ∷ qs) p h k =
    let u = or_parts (eqb q.number p.number) (listed p.number qs) k in
    let a = and_parts (not (listed q.number qs)) (apart qs) h in
    and_from _ _ (not_from_false _ (unlisted_push q.number qs p (not-true _ a.0) (eqb_other q.number p.number u.0))) (apart_push qs p a.1 u.1)
