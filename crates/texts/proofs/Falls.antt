-- A party's slots, one line more at the end of a trace.
use Rattle.std.proofs.Common.{◌≡◌, ℕ, ◌<◌, ◌≤◌, max, Bool, true, false, cond, eqb, leb, List, [], ◌∷◌, ◌++◌, length, get_or, set, sym, refl, ap, ◌∙◌, subst, inl, inr, arith, get_or-set_other, get_or-set_same}
use Rattle.std.proofs.lemmas.Bool.{and_parts, and_from, eq-eqb, ne_eqb, eqb-true, le-leb, cases_eq, true≢false}
use Rattle.cells.specs.declared.times.Slot.{Slot}
use Rattle.texts.specs.Traces.{slot_at, highest, not_below, never_falls}
use Rattle.texts.specs.declared.forms.TraceLine.{TraceLine}

parts : (b : Bool) (a h s : ℕ) → cond b (max a h) h ≤ s → (b ≡ true → a ≤ s) × (h ≤ s)
parts true a h s k = (λ _. omega arith, omega arith)
parts false a h s k = (λ e. absurd (true≢false (sym e)), k)

topped : (b : Bool) (a h s : ℕ) → (b ≡ true → a ≤ s) → h ≡ s → cond b (max a h) h ≡ s
topped true a h s k e = let m = k refl in omega arith
topped false a h s k e = e

other : (p : ℕ) (ls : List TraceLine) (x : TraceLine) → eqb x.party p ≡ false → highest p (ls ++ x ∷ []) ≡ highest p ls
other p [] x n = ap (λ b. cond b (max x.slot.0 0) 0) n
other p (l ∷ ls) x n = ap (λ h. cond (eqb l.party p) (max l.slot.0 h) h) (other p ls x n)

same : (ls : List TraceLine) (x : TraceLine) → highest x.party ls ≤ x.slot.0 → highest x.party (ls ++ x ∷ []) ≡ x.slot.0
same [] x h = ap (λ b. cond b (max x.slot.0 0) 0) (eq-eqb x.party x.party refl) ∙ omega arith
same (l ∷ ls) x h =
    let k = parts (eqb l.party x.party) l.slot.0 (highest x.party ls) x.slot.0 h in
    topped (eqb l.party x.party) l.slot.0 (highest x.party (ls ++ x ∷ [])) x.slot.0 k.0 (same ls x k.1)

-- the table of the highest slots, with the new line's slot at its party
pub followed : (ls : List TraceLine) (x : TraceLine) (ts : List Slot) → x.party < length ts → highest x.party ls ≤ x.slot.0 → ((p : ℕ) → (get_or ts p (slot_at 0)).0 ≡ highest p ls) → (p : ℕ) → (get_or (set ts x.party x.slot) p (slot_at 0)).0 ≡ highest p (ls ++ x ∷ [])
followed ls x ts within rises all p =
    elim (cases_eq p x.party) [
      | inl e ↦ subst (λ q. (get_or (set ts x.party x.slot) q (slot_at 0)).0 ≡ highest q (ls ++ x ∷ [])) (sym e) (ap (λ s. s.0) (get_or-set_same ts x.party x.slot (slot_at 0) within) ∙ sym (same ls x rises))
      | inr n ↦ ap (λ s. s.0) (get_or-set_other ts x.party p x.slot (slot_at 0) n) ∙ all p ∙ sym (other p ls x (ne_eqb x.party p (λ e. n (sym e))))
    ]

implied : (b c : Bool) → (b ≡ true → c ≡ true) → cond b c true ≡ true
implied true c h = h refl
implied false c h = refl

not_below_push : (l : TraceLine) (ls : List TraceLine) (x : TraceLine) → not_below l ls ≡ true → (eqb x.party l.party ≡ true → l.slot.0 ≤ x.slot.0) → not_below l (ls ++ x ∷ []) ≡ true
not_below_push l [] x h k =
    and_from _ _ (implied (eqb x.party l.party) (leb l.slot.0 x.slot.0) (λ e. le-leb l.slot.0 x.slot.0 (k e))) refl
not_below_push l (m ∷ ms) x h k =
    let a = and_parts (cond (eqb m.party l.party) (leb l.slot.0 m.slot.0) true) (not_below l ms) h in
    and_from _ _ a.0 (not_below_push l ms x a.1 k)

pub never_falls_push : (ls : List TraceLine) (x : TraceLine) → never_falls ls ≡ true → highest x.party ls ≤ x.slot.0 → never_falls (ls ++ x ∷ []) ≡ true
never_falls_push [] x h r = refl
never_falls_push (l ∷ ls) x h r =
    let a = and_parts (not_below l ls) (never_falls ls) h in
    let k = parts (eqb l.party x.party) l.slot.0 (highest x.party ls) x.slot.0 r in
    and_from _ _ (not_below_push l ls x a.0 (λ e. k.0 (eq-eqb l.party x.party (sym (eqb-true x.party l.party e))))) (never_falls_push ls x a.1 k.1)
