-- Whether a cell is on a path, and whether a slot of leaving is too near to another.
use Rattle.std.proofs.Common.{◌≡◌, ℕ, ◌+◌, ◌<◌, ◌≤◌, Bool, true, false, cond, ltb, ◌⊎◌, is_some, Some, None, Option, refl, ap, ◌∙◌, inl, inr, arith}
use Rattle.std.proofs.lemmas.Bool.{both_ways, cases_lt, cond_both, cond-false, cond-true, ltb-false, lt-ltb, le-ltb}
use Rattle.scheduler.specs.Meaning.{some_below}
use Rattle.scheduler.proofs.Holds.{below_true, below_false, none_below, low_or_high}
use Rattle.paths.specs.Route.{Route, Terms, Place, constant}
use Rattle.paths.specs.Laws.{Lawful}
use Rattle.paths.specs.Verdicts.{holds_of, holds_any, within, last_within, crowded}

-- none is not some
pub none_some : {X : Type 0} {x : X} {o : Option X} → o ≡ None → o ≡ Some x → ⊥
none_some e f = let z : ◌≡◌ {A = ℕ} 0 1 = cc in omega arith

-- what holds_of asks of a contract
abbrev asked : Route → ℕ → Option Terms → Bool
asked r p o = elim o [ None ↦ false | Some t ↦ some_below (r.slot + t.lead + constant r.links t.bounds) (λ v. is_some (r.cells p v)) ]

asks : (r : Route) (p : ℕ) → holds_of r p ≡ asked r p (r.contracts p)
unfolding holds_of
asks r p = refl

-- a party with a cell
pub holds_true : (r : Route) → Lawful r → (p v : ℕ) (x : Place) → r.cells p v ≡ Some x → holds_of r p ≡ true
holds_true r law p v x e = asks r p ∙ by (r.contracts p) refl
  where
    by : (o : Option Terms) → r.contracts p ≡ o → asked r p o ≡ true
    by None c = absurd (none_some (law.owned p v c) e)
    by (Some t) c = below_true _ (λ v. is_some (r.cells p v)) v (law.stands p v t x c e).known (ap is_some e)

-- a party without
pub holds_none : (r : Route) → Lawful r → (p : ℕ) → holds_of r p ≡ false → (v : ℕ) → r.cells p v ≡ None
holds_none r law p h v = by (r.cells p v) refl
  where
    by : (o : Option Place) → r.cells p v ≡ o → r.cells p v ≡ None
    by None e = e
    by (Some x) e = absurd (both_ways (holds_of r p) h (holds_true r law p v x e))

pub holds_false : (r : Route) (p : ℕ) → ((v : ℕ) → r.cells p v ≡ None) → holds_of r p ≡ false
holds_false r p h = asks r p ∙ by (r.contracts p)
  where
    by : (o : Option Terms) → asked r p o ≡ false
    by None = refl
    by (Some t) = below_false _ (λ v. is_some (r.cells p v)) (λ v _. ap is_some (h v))

-- a path without a cell
pub any_none : (r : Route) → Lawful r → holds_any r ≡ false → (p v : ℕ) → r.cells p v ≡ None
unfolding holds_any
any_none r law h p v =
    elim (low_or_high p) [
      | inl a ↦ holds_none r law p (none_below 16 (holds_of r) h p (omega arith)) v
      | inr a ↦ law.owned p v (law.parties p a)
    ]

pub any_false : (r : Route) → ((p v : ℕ) → r.cells p v ≡ None) → holds_any r ≡ false
unfolding holds_any
any_false r h = below_false 16 (holds_of r) (λ p _. holds_false r p (h p))

-- less than s apart, or not
pub within_true : (s v w : ℕ) → v < w + s → w < v + s → within s v w ≡ true
within_true s v w a b = cond-true (ltb v (w + s)) _ _ (lt-ltb v (w + s) a) ∙ lt-ltb w (v + s) b

pub within_apart : (s v w : ℕ) → within s v w ≡ false → (w + s ≤ v) ⊎ (v + s ≤ w)
within_apart s v w =
    cond_both (ltb v (w + s)) (ltb w (v + s)) false (λ b. b ≡ false → (w + s ≤ v) ⊎ (v + s ≤ w))
    (λ _ e. inr (ltb-false w (v + s) e))
    (λ e _. inl (ltb-false v (w + s) e))

pub apart_within : (s v w : ℕ) → (w + s ≤ v) ⊎ (v + s ≤ w) → within s v w ≡ false
apart_within s v w (inl h) = cond-false (ltb v (w + s)) _ _ (le-ltb v (w + s) h)
apart_within s v w (inr h) = cond_both (ltb v (w + s)) (ltb w (v + s)) false (λ b. b ≡ false) (λ _. le-ltb w (v + s) h) (λ _. refl)

within_near : (s v w : ℕ) → within s v w ≡ true → w < v + s
within_near s v w h = elim (cases_lt w (v + s)) [ inl a ↦ a | inr a ↦ absurd (both_ways (within s v w) (apart_within s v w (inr a)) h) ]

-- a cell that would leave less than a spacing from the last delivery, or from another cell
pub crowded_last : (r : Route) (t : Terms) (p u v : ℕ) → t.last ≡ Some u → within t.spacing v u ≡ true → crowded r t p v ≡ true
unfolding crowded
crowded_last r t p u v e h = cond-true (last_within t.last t.spacing v) _ _ (ap (λ o. last_within o t.spacing v) e ∙ h)

pub crowded_cell : (r : Route) (t : Terms) (p v w : ℕ) (x : Place) → r.cells p w ≡ Some x → within t.spacing v w ≡ true → crowded r t p v ≡ true
unfolding crowded
crowded_cell r t p v w x e h =
    cond_both (last_within t.last t.spacing v) true _ (λ b. b ≡ true) (λ _. refl)
    (λ _. below_true (v + t.spacing) (λ w. cond (within t.spacing v w) (is_some (r.cells p w)) false) w (within_near t.spacing v w h) (cond-true (within t.spacing v w) _ _ h ∙ ap is_some e))

not_true : (b : Bool) → (b ≡ true → ⊥) → b ≡ false
not_true true h = absurd (h refl)
not_true false h = refl

-- and one that would not
pub clear_last : (r : Route) (t : Terms) (p v u : ℕ) → crowded r t p v ≡ false → t.last ≡ Some u → within t.spacing v u ≡ false
clear_last r t p v u h e = not_true (within t.spacing v u) (λ w. both_ways (crowded r t p v) h (crowded_last r t p u v e w))

pub clear_cell : (r : Route) (t : Terms) (p v w : ℕ) (x : Place) → crowded r t p v ≡ false → r.cells p w ≡ Some x → within t.spacing v w ≡ false
clear_cell r t p v w x h e = not_true (within t.spacing v w) (λ n. both_ways (crowded r t p v) h (crowded_cell r t p v w x e n))

pub not_crowded : (r : Route) (t : Terms) (p v : ℕ) → ((u : ℕ) → t.last ≡ Some u → within t.spacing v u ≡ false) → ((w : ℕ) (x : Place) → r.cells p w ≡ Some x → within t.spacing v w ≡ false) → crowded r t p v ≡ false
unfolding crowded
not_crowded r t p v a b =
    cond-false (last_within t.last t.spacing v) _ _ (delivered t.last a)
    ∙ below_false (v + t.spacing) (λ w. cond (within t.spacing v w) (is_some (r.cells p w)) false) (λ w _. present w (r.cells p w) refl)
  where
    delivered : (o : Option ℕ) → ((u : ℕ) → o ≡ Some u → within t.spacing v u ≡ false) → last_within o t.spacing v ≡ false
    delivered None h = refl
    delivered (Some u) h = h u refl

    present : (w : ℕ) (o : Option Place) → r.cells p w ≡ o → cond (within t.spacing v w) (is_some o) false ≡ false
    present w None e = cond_both (within t.spacing v w) false false (λ b. b ≡ false) (λ _. refl) (λ _. refl)
    present w (Some x) e = cond-false (within t.spacing v w) _ _ (b w x e)
