-- What a window of 192 days shows of a grid.
use Rattle.std.proofs.Common.{◌≡◌, ℕ, ◌+◌, ◌%◌, ◌<◌, ◌≤◌, Bool, true, false, cond, eqb, ltb, leb, ◌⊎◌, Some, None, Option, refl, ap, ◌∙◌, arith}
use mathlib.Core.Path.{fun_ext}
use Rattle.std.proofs.lemmas.Bool.{both_ways, leb-true, ltb-true, le-leb, lt-leb, lt-ltb, eqb-true, eqb-false, eq-eqb, ne_eqb}
use Rattle.scheduler.specs.Meaning.{updated}
use Rattle.calendar.specs.Rows.{room, window}

both : (a b : Bool) → cond a b false ≡ true → (a ≡ true) × (b ≡ true)
both true b h = (refl, h)
both false b h = absurd (both_ways false refl h)

-- what there is room for
pub room_parts : (n p e : ℕ) → room n p e ≡ true → (p ≤ 15) × (n ≤ e) × (e < n + 192)
room_parts n p e h =
    let a = both (leb p 15) (cond (leb n e) (ltb e (n + 192)) false) h in
    let b = both (leb n e) (ltb e (n + 192)) a.1 in (leb-true p 15 a.0, leb-true n e b.0, ltb-true e (n + 192) b.1)

pub room_from : (n p e : ℕ) → p ≤ 15 → n ≤ e → e < n + 192 → room n p e ≡ true
room_from n p e a b c =
    ap (λ x. cond x (cond (leb n e) (ltb e (n + 192)) false) false) (le-leb p 15 a)
    ∙ ap (λ x. cond x (ltb e (n + 192)) false) (le-leb n e b)
    ∙ lt-ltb e (n + 192) c

-- there is none for a party above 15
pub room_above : (n p e : ℕ) → 15 < p → room n p e ≡ false
room_above n p e h = ap (λ x. cond x (cond (leb n e) (ltb e (n + 192)) false) false) (lt-leb p 15 h)

-- two slots of one window have two days
apart : (n e f : ℕ) → n ≤ e → e < n + 192 → n ≤ f → f < n + 192 → e % 192 ≡ f % 192 → e ≡ f
apart n e f a b c d h = omega arith

-- a cell is put
pub window_put : (n p e l : ℕ) (g h : ℕ → ℕ → Option ℕ) → room n p e ≡ true
    → ((k q : ℕ) → h k q ≡ cond (eqb k (e % 192)) (updated (g k) p (Some l) q) (g k q))
    → window n h ≡ updated (window n g) p (updated (window n g p) e (Some l))
window_put n p e l g h r w = fun_ext (λ q. fun_ext (λ f. at q f (eqb q p) refl))
  where
    here : (f : ℕ) (b s : Bool) → eqb f e ≡ b → room n p f ≡ s → cond s (cond (eqb (f % 192) (e % 192)) (Some l) (g (f % 192) p)) None ≡ cond b (Some l) (cond s (g (f % 192) p) None)
    here f true true t u = ap (λ x. cond x (Some l) (g (f % 192) p)) (eq-eqb (f % 192) (e % 192) (ap (λ k. k % 192) (eqb-true f e t)))
    here f true false t u = absurd (both_ways (room n p f) u (ap (room n p) (eqb-true f e t) ∙ r))
    here f false true t u =
        let a = room_parts n p f u in
        let b = room_parts n p e r in
        let ne : f % 192 ≡ e % 192 → ⊥ = λ x. eqb-false f e t (apart n f e a.1 a.2 b.1 b.2 x) in
        ap (λ x. cond x (Some l) (g (f % 192) p)) (ne_eqb (f % 192) (e % 192) ne)
    here f false false t u = refl

    there : (k q : ℕ) (b : Bool) → cond b (g k q) (g k q) ≡ g k q
    there k q true = refl
    there k q false = refl

    at : (q f : ℕ) (b : Bool) → eqb q p ≡ b → window n h q f ≡ cond b (updated (window n g p) e (Some l)) (window n g q) f
    at q f true t =
        ap (λ x. window n h x f) (eqb-true q p t)
        ∙ ap (λ x. cond (room n p f) x None) (w (f % 192) p ∙ ap (λ x. cond (eqb (f % 192) (e % 192)) (cond x (Some l) (g (f % 192) p)) (g (f % 192) p)) (eq-eqb p p refl))
        ∙ here f (eqb f e) (room n p f) refl refl
    at q f false t =
        ap (λ x. cond (room n q f) x None) (w (f % 192) q ∙ ap (λ x. cond (eqb (f % 192) (e % 192)) (cond x (Some l) (g (f % 192) q)) (g (f % 192) q)) t ∙ there (f % 192) q (eqb (f % 192) (e % 192)))

-- the first slot's cells go, and the window moves on by a slot or stays
pub window_next : (n m : ℕ) (g h : ℕ → ℕ → Option ℕ) → (m ≡ n) ⊎ (m ≡ n + 1)
    → ((k q : ℕ) → h k q ≡ cond (eqb k (n % 192)) None (g k q))
    → window m h ≡ (λ p e. cond (eqb e n) None (window n g p e))
window_next n m g h s w =
    fun_ext (λ p. fun_ext (λ e. ap (λ x. cond (room m p e) x None) (w (e % 192) p) ∙ same (room m p e) (eqb (e % 192) (n % 192)) (eqb e n) (room n p e) (g (e % 192) p) (there p e) (here p e)))
  where
    same : (b d t a : Bool) (x : Option ℕ) → (b ≡ true → d ≡ false → (t ≡ false) × (a ≡ true)) → (t ≡ false → a ≡ true → (b ≡ true) × (d ≡ false)) → cond b (cond d None x) None ≡ cond t None (cond a x None)
    same true true true a x u v = refl
    same true true false true x u v = absurd (both_ways true (v refl refl).1 refl)
    same true true false false x u v = refl
    same true false true a x u v = absurd (both_ways true (u refl refl).0 refl)
    same true false false true x u v = refl
    same true false false false x u v = absurd (both_ways false refl (u refl refl).1)
    same false d true a x u v = refl
    same false d false true x u v = absurd (both_ways false refl (v refl refl).0)
    same false d false false x u v = refl

    there : (p e : ℕ) → room m p e ≡ true → eqb (e % 192) (n % 192) ≡ false → (eqb e n ≡ false) × (room n p e ≡ true)
    there p e r d =
        let a = room_parts m p e r in
        let ne : e % 192 ≡ n % 192 → ⊥ = eqb-false (e % 192) (n % 192) d in
        let far : e ≡ n + 192 → ⊥ = λ x. ne (omega arith) in
        (ne_eqb e n (λ x. ne (ap (λ k. k % 192) x)), room_from n p e a.0 (grind (arith, s)) (grind (arith, s, far)))

    here : (p e : ℕ) → eqb e n ≡ false → room n p e ≡ true → (room m p e ≡ true) × (eqb (e % 192) (n % 192) ≡ false)
    here p e t r =
        let a = room_parts n p e r in
        let ne : e ≡ n → ⊥ = eqb-false e n t in
        let ne2 : e % 192 ≡ n % 192 → ⊥ = λ x. ne (apart n e n a.1 a.2 (omega arith) (omega arith) x) in
        (room_from m p e a.0 (grind (arith, s, ne)) (grind (arith, s)), ne_eqb (e % 192) (n % 192) ne2)
