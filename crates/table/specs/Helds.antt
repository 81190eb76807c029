-- What is held, by the last cell put and the label kept.
use Rattle.std.specs.Prelude.{◌≡◌, ℕ, Bool, true, false, cond, is_some, Some, None, Option, ◌==◌, refl}
use Rattle.std.proofs.Common.{sym, ap, ◌∙◌, arith}
use Rattle.std.proofs.Math.Path.{fun_ext}
use Rattle.std.proofs.lemmas.Bool.{eq-eqb, eqb-true}
use Rattle.cells.specs.declared.times.Slot.{Slot}
use Rattle.scheduler.specs.declared.terms.Cell.{Cell}
use Rattle.scheduler.specs.declared.terms.Contract.{Contract}
use Rattle.scheduler.specs.Laws.{Chosen}
use Rattle.scheduler.specs.Meaning.{Meaning, updated, without}
use Rattle.table.specs.Kept.{last_of, held_of, dated}
use Rattle.table.specs.Tables.{cell_under, cell_at, cell_of}

pub none_some : {X : Type 0} (x : X) → ◌≡◌ {A = Option X} None (Some x) → ⊥
none_some x e = let z : ◌≡◌ {A = ℕ} 0 1 = cc in omega arith

pub is_none : (o : Option ℕ) → is_some o ≡ false → o ≡ None
is_none None e = refl
is_none (Some l) e = absurd (let z : ◌≡◌ {A = ℕ} 0 1 = cc in omega arith)

-- the cell held is the last, under the label kept
pub held_parts : (o : Option Slot) (g : Option ℕ) (e l : ℕ) → held_of o g e ≡ Some l → (t : Slot) × (o ≡ Some t) × (g ≡ Some l) × (e ≡ t.0)
held_parts None g e l h = absurd (none_some l h)
held_parts (Some t) None e l h = absurd (none_some l h)
held_parts (Some t) (Some k) e l h = way (e == t.0) refl h
  where
    way : (b : Bool) → (e == t.0) ≡ b → cond b (Some k) None ≡ Some l → (u : Slot) × (Some t ≡ Some u) × (Some k ≡ Some l) × (e ≡ u.0)
    way true q r = (t, refl, r, eqb-true e t.0 q)
    way false q r = absurd (none_some l r)

pub held_last : (t : Slot) (l : ℕ) → held_of (Some t) (Some l) t.0 ≡ Some l
held_last t l = ap (λ b. cond b (Some l) None) (eq-eqb t.0 t.0 refl)

-- without a label nothing is held
pub held_none : (o : Option Slot) (e : ℕ) → held_of o None e ≡ None
held_none None e = refl
held_none (Some t) e = refl

-- a label that is kept is of the last cell, and is held
pub held_some : (o : Option Slot) (l : ℕ) → dated o (Some l) ≡ true → (t : Slot) × (o ≡ Some t) × (held_of o (Some l) t.0 ≡ Some l)
held_some None l d = absurd (let z : ◌≡◌ {A = ℕ} 0 1 = cc in omega arith)
held_some (Some t) l d = (t, refl, held_last t l)

-- whether something is held
abbrev pub unheld : Option Slot → Option ℕ → Bool
unheld None g = true
unheld (Some t) None = true
unheld (Some t) (Some l) = false

-- the held cells by party, from contracts and labels
abbrev pub held_by : (ℕ → Option Contract) → (ℕ → Option ℕ) → ℕ → ℕ → Option ℕ
held_by f g p = held_of (last_of (f p)) (g p)

-- a contract changes and no cell does
pub held_kept : (f : ℕ → Option Contract) (g : ℕ → Option ℕ) (q : ℕ) (v : Option Contract) → ((e : ℕ) → held_of (last_of v) (g q) e ≡ held_by f g q e) → held_by (updated f q v) g ≡ held_by f g
held_kept f g q v h = fun_ext (λ p. fun_ext (λ e. way p e (p == q) refl))
  where
    way : (p e : ℕ) (b : Bool) → (p == q) ≡ b → held_of (last_of (cond b v (f p))) (g p) e ≡ held_by f g p e
    way p e true t = let s = eqb-true p q t in ap (λ r. held_of (last_of v) (g r) e) s ∙ h e ∙ ap (λ r. held_by f g r e) (sym s)
    way p e false t = refl

-- a cell is put where none was held
pub held_put : (f : ℕ → Option Contract) (g : ℕ → Option ℕ) (q l : ℕ) (c : Contract) (t : Slot) → c.last ≡ Some t → g q ≡ None
    → held_by (updated f q (Some c)) (updated g q (Some l)) ≡ updated (held_by f g) q (updated (held_by f g q) t.0 (Some l))
held_put f g q l c t h k = fun_ext (λ p. fun_ext (λ e. way p e (p == q) refl))
  where
    none : (e : ℕ) → held_by f g q e ≡ None
    none e = ap (λ o. held_of (last_of (f q)) o e) k ∙ held_none (last_of (f q)) e

    way : (p e : ℕ) (b : Bool) → (p == q) ≡ b → held_of (last_of (cond b (Some c) (f p))) (cond b (Some l) (g p)) e ≡ cond b (updated (held_by f g q) t.0 (Some l)) (held_by f g p) e
    way p e true s = ap (λ o. held_of o (Some l) e) h ∙ ap (cond (e == t.0) (Some l)) (sym (none e))
    way p e false s = refl

-- a held cell goes
pub held_served : (f : ℕ → Option Contract) (g : ℕ → Option ℕ) (c : Cell) → last_of (f c.party) ≡ Some c.eligible
    → held_by f (updated g c.party None) ≡ without (held_by f g) (Some c)
held_served f g c h = fun_ext (λ p. fun_ext (λ e. way p e (p == c.party) refl))
  where
    gone : (e : ℕ) (o : Option ℕ) → None ≡ cond (e == c.eligible.0) None (held_of (Some c.eligible) o e)
    gone e None = here (e == c.eligible.0)
      where
        here : (b : Bool) → ◌≡◌ {A = Option ℕ} None (cond b None None)
        here true = refl
        here false = refl
    gone e (Some l) = here (e == c.eligible.0)
      where
        here : (b : Bool) → ◌≡◌ {A = Option ℕ} None (cond b None (cond b (Some l) None))
        here true = refl
        here false = refl

    way : (p e : ℕ) (b : Bool) → (p == c.party) ≡ b → held_of (last_of (f p)) (cond b None (g p)) e ≡ cond b (updated (held_by f g c.party) c.eligible.0 None) (held_by f g p) e
    way p e true s =
        held_none (last_of (f p)) e
        ∙ gone e (g c.party)
        ∙ ap (λ o. cond (e == c.eligible.0) None (held_of o (g c.party) e)) (sym h)
    way p e false s = refl

-- what an owner holds: a held cell of the owner's
pub cell_chosen : (m : Meaning) (o : Option ℕ) → Chosen m (cell_of m o)
cell_chosen m None = tt
cell_chosen m (Some p) = at (last_of (m.contracts p))
  where
    under : (t : Slot) (r : Option ℕ) → m.held p t.0 ≡ r → Chosen m (cell_under p t r)
    under t None e = tt
    under t (Some l) e = e

    at : (s : Option Slot) → Chosen m (cell_at m p s)
    at None = tt
    at (Some t) = under t (m.held p t.0) refl

pub cell_parts : (m : Meaning) (o : Option ℕ) (c : Cell) → cell_of m o ≡ Some c → (o ≡ Some c.party) × (last_of (m.contracts c.party) ≡ Some c.eligible)
cell_parts m None c h = absurd (none_some c h)
cell_parts m (Some p) c h = at (last_of (m.contracts p)) refl h
  where
    Parts : Type 0
    Parts = (Some p ≡ Some c.party) × (last_of (m.contracts c.party) ≡ Some c.eligible)

    under : (t : Slot) (r : Option ℕ) → last_of (m.contracts p) ≡ Some t → cell_under p t r ≡ Some c → Parts
    under t None s e = absurd (none_some c e)
    under t (Some l) s e =
        let a : p ≡ c.party = cc in
        let b : t ≡ c.eligible = cc in
        (ap Some a, ap (λ q. last_of (m.contracts q)) (sym a) ∙ s ∙ ap Some b)

    at : (s : Option Slot) → last_of (m.contracts p) ≡ s → cell_at m p s ≡ Some c → Parts
    at None s e = absurd (none_some c e)
    at (Some t) s e = under t (m.held p t.0) s e

-- an owner that nothing is chosen of holds nothing
pub cell_none : (m : Meaning) (p : ℕ) (g : Option ℕ) → ((e : ℕ) → m.held p e ≡ held_of (last_of (m.contracts p)) g e) → cell_of m (Some p) ≡ None → unheld (last_of (m.contracts p)) g ≡ true
cell_none m p g k h = at (last_of (m.contracts p)) g (λ t s. k t.0 ∙ ap (λ o. held_of o g t.0) s) refl h
  where
    at : (s : Option Slot) (g : Option ℕ) → ((t : Slot) → last_of (m.contracts p) ≡ Some t → m.held p t.0 ≡ held_of (Some t) g t.0) → last_of (m.contracts p) ≡ s → cell_at m p s ≡ None → unheld s g ≡ true
    at None g k s e = refl
    at (Some t) None k s e = refl
    at (Some t) (Some l) k s e =
        let c : cell_under p t (m.held p t.0) ≡ Some (record { party = p; label = l; eligible = t }) = ap (cell_under p t) (k t s ∙ held_last t l) in
        absurd (none_some _ (sym e ∙ c))
