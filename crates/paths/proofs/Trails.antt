-- What a trail tells of a party's cells on the path: whether a slot is too near to another, and whether one is still there.
use Rattle.std.proofs.Common.{◌≡◌, ℕ, ◌+◌, ◌<◌, ◌≤◌, Bool, true, false, cond, ltb, ◌⊎◌, is_some as option_is_some, Some, None, Option, sym, refl, ap, ◌∙◌, inl, inr, arith}
use Rattle.std.proofs.lemmas.Bool.{both_ways, cases_lt, cond_both, cond-false, cond-true, ltb-true, ltb-false}
use Rattle.cells.specs.declared.times.Slot.{Slot}
use Rattle.scheduler.proofs.Holds.{below_false, below_true, none_below}
use Rattle.paths.specs.Route.{Route, Terms, Place}
use Rattle.paths.specs.Laws.{Lawful}
use Rattle.paths.specs.Trails.{follows, waits_near, crowding, still, Until, Newest}
use Rattle.paths.specs.Verdicts.{holds_of, within, crowded}
use Rattle.paths.proofs.Kept.{is_none}
use Rattle.paths.proofs.Present.{none_some, holds_true, holds_false, within_true, within_apart, apart_within, crowded_last, crowded_cell, clear_cell, not_crowded}
use Rattle.paths.proofs.Ways.{deadline_most}

-- of the party's cells, `w` has those that wait, by the slot in which each is eligible, c slots before it leaves; `last` is the slot of the
-- last that was taken. Each that waits is on the path; a cell on it waits, or leaves no later than the last that was taken; so does the
-- last delivery; and the last that was taken is on the path or was delivered last
pub record Taken (r : Route) (t : Terms) (p c : ℕ) (last : Option Slot) (w : ℕ → Option ℕ) : Type 0 where
  pub waits : (a l : ℕ) → w a ≡ Some l → option_is_some (r.cells p (a + c)) ≡ true
  pub cells : (v : ℕ) (x : Place) → r.cells p v ≡ Some x → ((a : ℕ) × (l : ℕ) × (v ≡ a + c) × (w a ≡ Some l)) ⊎ ((u : Slot) × (last ≡ Some u) × (v ≤ u.0 + c))
  pub lasts : (u : ℕ) → t.last ≡ Some u → (s : Slot) × (last ≡ Some s) × (u ≤ s.0 + c)
  pub known : (u : Slot) → last ≡ Some u → (option_is_some (r.cells p (u.0 + c)) ≡ true) ⊎ (t.last ≡ Some (u.0 + c))

is_some : {X : Type 0} (o : Option X) → option_is_some o ≡ true → (x : X) × (o ≡ Some x)
is_some None e = absurd (both_ways false refl e)
is_some (Some x) e = (x, refl)

same : (a b : Bool) → (a ≡ false → b ≡ false) → (b ≡ false → a ≡ false) → a ≡ b
same true true f g = refl
same true false f g = g refl
same false b f g = sym (f refl)

-- two slots are as far apart c slots on
apart_on : (s v w c : ℕ) → within s v w ≡ false → within s (v + c) (w + c) ≡ false
apart_on s v w c h = apart_within s (v + c) (w + c) (elim (within_apart s v w h) [ inl a ↦ inl (omega arith) | inr a ↦ inr (omega arith) ])

apart_back : (s v w c : ℕ) → within s (v + c) (w + c) ≡ false → within s v w ≡ false
apart_back s v w c h = apart_within s v w (elim (within_apart s (v + c) (w + c) h) [ inl a ↦ inl (omega arith) | inr a ↦ inr (omega arith) ])

module _ (r : Route) (t : Terms) (p : ℕ) where
  -- a slot near one that is on the path or was delivered last
  near : (v a : ℕ) → (option_is_some (r.cells p a) ≡ true) ⊎ (t.last ≡ Some a) → v < a + t.spacing → a < v + t.spacing → crowded r t p v ≡ true
  near v a (inl i) f g = let x = is_some (r.cells p a) i in crowded_cell r t p v a x.0 x.1 (within_true t.spacing v a f g)
  near v a (inr e) f g = crowded_last r t p a v e (within_true t.spacing v a f g)

  -- a slot later than all by a spacing
  far : (v a : ℕ) → Until r t p a → a + t.spacing ≤ v → crowded r t p v ≡ false
  far v a n h =
      not_crowded r t p v
      (λ u e. apart_within t.spacing v u (inl (let k = n.last u e in omega arith)))
      (λ w x e. apart_within t.spacing v w (inl (let k = n.cells w x e in omega arith)))

  module _ (c e : ℕ) (last : Option Slot) (w : ℕ → Option ℕ) (known : Taken r t p c last w) where
    -- those that wait decide, if the last that was taken is as far back as a spacing
    module _ (back : (u : Slot) → last ≡ Some u → u.0 + t.spacing ≤ e) where
      none_near : crowded r t p (e + c) ≡ false → waits_near w t.spacing e ≡ false
      unfolding waits_near
      none_near h = below_false (e + t.spacing) _ (λ a _. at a (w a) refl)
        where
          at : (a : ℕ) (o : Option ℕ) → w a ≡ o → cond (within t.spacing e a) (option_is_some o) false ≡ false
          at a None i = cond_both (within t.spacing e a) false false (λ b. b ≡ false) (λ _. refl) (λ _. refl)
          at a (Some l) i =
              let x = is_some (r.cells p (a + c)) (known.waits a l i) in
              cond-false (within t.spacing e a) _ _ (apart_back t.spacing e a c (clear_cell r t p (e + c) (a + c) x.0 h x.1))

      none_crowds : waits_near w t.spacing e ≡ false → crowded r t p (e + c) ≡ false
      unfolding waits_near
      none_crowds h =
          not_crowded r t p (e + c)
          (λ u i. (let k = known.lasts u i in apart_within t.spacing (e + c) u (inl (omega (arith, back k.0 k.1)))))
          (λ v x i. elim (known.cells v x i) [
            | inl k ↦ (ap (within t.spacing (e + c)) k.2 ∙ apart_on t.spacing e k.0 c (clear k.0 k.1 k.3))
            | inr k ↦ apart_within t.spacing (e + c) v (inl (omega (arith, back k.0 k.1)))
          ])
        where
          shut : (b : Bool) (o : Option ℕ) (l : ℕ) → o ≡ Some l → cond b (option_is_some o) false ≡ false → b ≡ false
          shut true o l i n = absurd (both_ways (option_is_some o) n (ap option_is_some i))
          shut false o l i n = refl

          clear : (a l : ℕ) → w a ≡ Some l → within t.spacing e a ≡ false
          clear a l i =
              elim (cases_lt a (e + t.spacing)) [
                | inl b ↦ shut (within t.spacing e a) (w a) l i (none_below (e + t.spacing) _ h a b)
                | inr b ↦ apart_within t.spacing e a (inr b)
              ]

      waiting_decide : waits_near w t.spacing e ≡ crowded r t p (e + c)
      waiting_decide = same (waits_near w t.spacing e) (crowded r t p (e + c)) none_crowds none_near

    -- the last that was taken, then those that wait
    older : 1 ≤ t.spacing → ((u : Slot) → last ≡ Some u → u.0 ≤ e) → (o : Option Slot) → last ≡ o → cond (follows o t.spacing e) true (waits_near w t.spacing e) ≡ crowded r t p (e + c)
    older s past None i = waiting_decide (λ u j. absurd (none_some i j))
    older s past (Some u) i =
        cond_both (ltb e (u.0 + t.spacing)) true (waits_near w t.spacing e) (λ b. b ≡ crowded r t p (e + c))
        (λ b. (let f = ltb-true e (u.0 + t.spacing) b in let g = past u i in sym (near (e + c) (u.0 + c) (known.known u i) (omega arith) (omega arith))))
        (λ b. waiting_decide (λ x j. (let f = ltb-false e (u.0 + t.spacing) b in let g : u ≡ x = cc in omega (arith, ap (λ (y : Slot). y.0) g))))

-- a trail says whether a cell that is eligible in slot e would leave too near to another
pub crowded_by : (r : Route) (t : Terms) (p c e : ℕ) (latest last : Option Slot) (w : ℕ → Option ℕ) → 1 ≤ t.spacing → Newest r t p c latest → Taken r t p c last w → ((u : Slot) → last ≡ Some u → u.0 ≤ e) → crowding latest last t.spacing w e ≡ crowded r t p (e + c)
crowded_by r t p c e None last w s new known past = sym (not_crowded r t p (e + c) (λ u i. absurd (none_some new.1 i)) (λ v x i. absurd (none_some (new.0 v) i)))
crowded_by r t p c e (Some a) last w s new known past =
    cond_both (ltb e (a.0 + t.spacing)) (cond (ltb a.0 (e + t.spacing)) true (cond (follows last t.spacing e) true (waits_near w t.spacing e))) false (λ b. b ≡ crowded r t p (e + c))
    (λ f. cond_both (ltb a.0 (e + t.spacing)) true (cond (follows last t.spacing e) true (waits_near w t.spacing e)) (λ b. b ≡ crowded r t p (e + c))
    (λ g. (let h = ltb-true e (a.0 + t.spacing) f in let i = ltb-true a.0 (e + t.spacing) g in sym (near r t p (e + c) (a.0 + c) new.known (omega arith) (omega arith))))
    (λ _. older r t p c e last w known s past last refl))
    (λ f. (let h = ltb-false e (a.0 + t.spacing) f in sym (far r t p (e + c) (a.0 + c) new (omega arith))))

-- a cell leaves no sooner than the slot
leaves : (r : Route) → Lawful r → (p v : ℕ) (t : Terms) (x : Place) → r.contracts p ≡ Some t → r.cells p v ≡ Some x → r.slot ≤ v
leaves r law p v t x c i =
    let s = law.stands p v t x c i in
    let d = deadline_most r.links t.bounds v x.hop (law.terms p t c).whole s.way in
    omega (arith, s.in_time)

-- and whether a cell is still on the path
pub holds_by : (r : Route) → Lawful r → (p c : ℕ) (t : Terms) (latest : Option Slot) → r.contracts p ≡ Some t → Newest r t p c latest → holds_of r p ≡ still latest c r.slot
holds_by r law p c t None has new = holds_false r p new.0
holds_by r law p c t (Some a) has new =
    cond_both (ltb (a.0 + c) r.slot) false true (λ b. holds_of r p ≡ b)
    (λ f. holds_false r p (λ v. is_none (r.cells p v) (λ x i. (let h = ltb-true (a.0 + c) r.slot f in let k = new.cells v x i in let l = leaves r law p v t x has i in omega arith))))
    (λ f. elim new.known [
      | inl i ↦ (let x = is_some (r.cells p (a.0 + c)) i in holds_true r law p (a.0 + c) x.0 x.1)
      | inr i ↦ absurd (let h = ltb-false (a.0 + c) r.slot f in let k = (law.terms p t has).over (a.0 + c) i in omega arith)
    ])

-- a test of the slots from `from` on and below `to` tells whether one waits near slot e, where these are those near it as far as any can wait
pub near_by : (w : ℕ → Option ℕ) (s e from to : ℕ) (b : Bool)
    → ((a : ℕ) → from ≤ a → a < to → (e < a + s) × (a < e + s))
    → ((a l : ℕ) → w a ≡ Some l → e < a + s → a < e + s → (from ≤ a) × (a < to))
    → (b ≡ true → (a : ℕ) × (from ≤ a) × (a < to) × (option_is_some (w a) ≡ true))
    → (b ≡ false → (a : ℕ) → from ≤ a → a < to → w a ≡ None)
    → b ≡ waits_near w s e
unfolding waits_near
near_by w s e from to true in-it all found none =
    let k = found refl in
    let n = in-it k.0 k.1 k.2 in
    sym (below_true (e + s) (λ a. cond (within s e a) (option_is_some (w a)) false) k.0 n.1 (cond-true (within s e k.0) _ _ (within_true s e k.0 n.0 n.1) ∙ k.3))
near_by w s e from to false in-it all found none = sym (below_false (e + s) _ (λ a _. at a (w a) refl))
  where
    at : (a : ℕ) (o : Option ℕ) → w a ≡ o → cond (within s e a) (option_is_some o) false ≡ false
    at a None i = cond_both (within s e a) false false (λ b. b ≡ false) (λ _. refl) (λ _. refl)
    at a (Some l) i =
        elim (cases_lt e (a + s)) [
          | inl f ↦ elim (cases_lt a (e + s)) [
            | inl g ↦ (let k = all a l i f g in absurd (none_some (none refl a k.0 k.1) i))
            | inr g ↦ cond-false (within s e a) _ _ (apart_within s e a (inr g))
          ]
          | inr f ↦ cond-false (within s e a) _ _ (apart_within s e a (inl f))
        ]
