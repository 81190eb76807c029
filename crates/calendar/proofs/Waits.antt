-- What waits in a calendar.
use Rattle.std.proofs.Common.{◌≡◌, ℕ, ◌+◌, ◌%◌, ◌<◌, ◌≤◌, Bool, true, false, cond, eqb, ltb, ◌⊎◌, Some, None, Option, sym, refl, ap, ◌∙◌, inl, inr, arith}
use mathlib.Core.Path.{fun_ext}
use Rattle.std.proofs.lemmas.Bool.{cases_lt, cases_cond}
use Rattle.scheduler.specs.Meaning.{last_slot, updated}
use Rattle.calendar.specs.declared.grid.Calendar.{Calendar}
use Rattle.calendar.specs.Days.{label_at, now_of, waiting_of}
use Rattle.calendar.specs.Rows.{room, window}
use Rattle.calendar.proofs.Grids.{label_past}
use Rattle.calendar.proofs.Windows.{room_parts, room_from, room_above, window_put, window_next}

-- what waits is of a party from 0 to 15, and waits for the present slot or one less than 192 ahead
pub waiting_range : (c : Calendar) (p e l : ℕ) → waiting_of c p e ≡ Some l → (p ≤ 15) × (now_of c ≤ e) × (e < now_of c + 192)
unfolding waiting_of
waiting_range c p e l h = room_parts (now_of c) p e (shown (room (now_of c) p e) (label_at c.days (e % 192) p) h)
  where
    shown : (b : Bool) (o : Option ℕ) → cond b o None ≡ Some l → b ≡ true
    shown true o k = refl
    shown false o k = absurd (let z : ◌≡◌ {A = ℕ} 0 1 = cc in omega arith)

-- the present slot is at most one past the last
pub slots_range : (c : Calendar) → now_of c ≤ last_slot + 1
slots_range c = c.slots

-- where there is room, what stands in the grid
pub waiting_in : (c : Calendar) (p e : ℕ) → room (now_of c) p e ≡ true → waiting_of c p e ≡ label_at c.days (e % 192) p
unfolding waiting_of
waiting_in c p e h = ap (λ b. cond b (label_at c.days (e % 192) p) None) h

-- elsewhere nothing waits
pub waiting_out : (c : Calendar) (p e : ℕ) → room (now_of c) p e ≡ false → waiting_of c p e ≡ None
unfolding waiting_of
waiting_out c p e h = ap (λ b. cond b (label_at c.days (e % 192) p) None) h

-- a grid without a label
pub waiting_none : (c : Calendar) → ((k p : ℕ) → label_at c.days k p ≡ None) → waiting_of c ≡ (λ p e. None)
unfolding waiting_of
waiting_none c h = fun_ext (λ p. fun_ext (λ e. ap (λ o. cond (room (now_of c) p e) o None) (h (e % 192) p) ∙ always (room (now_of c) p e)))
  where
    always : (b : Bool) → ◌≡◌ {A = Option ℕ} (cond b None None) None
    always true = refl
    always false = refl

-- what waits for the present slot
pub waiting_first : (c : Calendar) (k p : ℕ) → k ≡ now_of c % 192 → label_at c.days k p ≡ waiting_of c p (now_of c)
waiting_first c k p e = ap (λ j. label_at c.days j p) e ∙ way (cases_lt 15 p)
  where
    n : ℕ
    n = now_of c

    way : (15 < p) ⊎ (p ≤ 15) → label_at c.days (n % 192) p ≡ waiting_of c p n
    way (inl h) = label_past c.days (n % 192) p h ∙ sym (waiting_out c p n (room_above n p n h))
    way (inr h) = sym (waiting_in c p n (room_from n p n h (omega arith) (omega arith)))

-- a cell is put
pub waiting_put : (c d : Calendar) (p e l k : ℕ) → now_of d ≡ now_of c → true ≡ room (now_of c) p e → k ≡ e % 192
    → ((j q : ℕ) → label_at d.days j q ≡ cond (eqb j k) (updated (label_at c.days j) p (Some l) q) (label_at c.days j q))
    → waiting_of d ≡ cond (room (now_of c) p e) (updated (waiting_of c) p (updated (waiting_of c p) e (Some l))) (waiting_of c)
unfolding waiting_of
waiting_put c d p e l k s r i w =
    ap (λ n. window n (label_at d.days)) s
    ∙ window_put (now_of c) p e l (label_at c.days) (label_at d.days) (sym r) (λ j q. w j q ∙ ap (λ x. cond (eqb j x) (updated (label_at c.days j) p (Some l) q) (label_at c.days j q)) i)
    ∙ ap (λ b. cond b (updated (waiting_of c) p (updated (waiting_of c p) e (Some l))) (waiting_of c)) r

-- the present slot ends
pub waiting_next : (c d : Calendar) (k : ℕ) → now_of d ≡ cond (ltb last_slot (now_of c)) (now_of c) (now_of c + 1) → k ≡ now_of c % 192
    → ((j q : ℕ) → label_at d.days j q ≡ cond (eqb j k) None (label_at c.days j q))
    → waiting_of d ≡ (λ p e. cond (eqb e (now_of c)) None (waiting_of c p e))
unfolding waiting_of
waiting_next c d k s i w =
    window_next (now_of c) (now_of d) (label_at c.days) (label_at d.days) (cases_cond (ltb last_slot (now_of c)) (now_of c) (now_of c + 1) (now_of d) s) (λ j q. w j q ∙ ap (λ x. cond (eqb j x) None (label_at c.days j q)) i)
