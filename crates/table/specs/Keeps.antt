-- What a table of turns keeps through its calls.
use Rattle.std.specs.Prelude.{◌≡◌, ℕ, ◌+◌, ◌<◌, ◌≤◌, Bool, true, false, cond, is_some, Some, None, Option, ◌==◌, ◌≢◌, refl}
use Rattle.std.proofs.Common.{sym, ap, subst, ◌∙◌, inl, inr, arith}
use Rattle.std.proofs.Math.Path.{fun_ext}
use Rattle.std.proofs.lemmas.Bool.{eq-eqb, eqb-true, eqb-false, both_ways, cases_eq}
use Rattle.cells.specs.declared.times.Slot.{Slot}
use Rattle.scheduler.specs.declared.terms.Contract.{Contract}
use Rattle.scheduler.specs.Laws.{Terms}
use Rattle.scheduler.specs.Meaning.{updated, agreed, stamped}
use Rattle.table.specs.Kept.{owns, wait, period_or, last_of, turn_by, dated, tenant}
use Rattle.table.specs.Turns.{turn_of, free, period, is_party, assigned, released}
use Rattle.table.specs.Helds.{none_some, unheld}
use Rattle.table.specs.Periods.{Fits, period_fits}
use Rattle.table.specs.Waits.{wait_most, wait_end, wait_same, wait-assigned, others_assigned, others_released}

-- the slot n, the contracts f, the owners and the labels g go together
abbrev pub Kept : ℕ → (ℕ → Option Contract) → (ℕ → Option ℕ) → (ℕ → Option ℕ) → Type 0
Kept n f owner g = record {
  tenants : (k : ℕ) → tenant f (owner k) ≡ true;
  recurring : (q k : ℕ) → wait owner q k + 1 ≤ period_or (f q);
  prompt : (q : ℕ) → n ≤ turn_by n (wait owner q) (last_of (f q)) (g q);
  dated : (q : ℕ) → dated (last_of (f q)) (g q) ≡ true;
}

-- the same of equal parts
pub kept_along : (n m : ℕ) (f h : ℕ → Option Contract) (owner tenant : ℕ → Option ℕ) (g l : ℕ → Option ℕ) → n ≡ m → f ≡ h → owner ≡ tenant → g ≡ l → Kept m h tenant l → Kept n f owner g
kept_along n m f h owner tenant g l a b c d k =
    subst (λ i. Kept i f owner g) (sym a) (subst (λ i. Kept m i owner g) (sym b) (subst (λ i. Kept m h i g) (sym c) (subst (Kept m h tenant) (sym d) k)))

-- what holds of the place that is written and of the others
pub each : {X : Type 0} (P : ℕ → X → Type 0) (f : ℕ → X) (q : ℕ) (v : X) → P q v → ((r : ℕ) → (r ≢ q) → P r (f r)) → (r : ℕ) → P r (updated f q v r)
each P f q v here there r = way (r == q) refl
  where
    way : (b : Bool) → (r == q) ≡ b → P r (cond b v (f r))
    way true t = subst (λ k. P k v) (sym (eqb-true r q t)) here
    way false t = there r (eqb-false r q t)

-- an owner's contract stays a contract
tenant-updated : (f : ℕ → Option Contract) (q : ℕ) (v : Option Contract) → is_some v ≡ true → (o : Option ℕ) → tenant f o ≡ true → tenant (updated f q v) o ≡ true
tenant-updated f q v s None h = refl
tenant-updated f q v s (Some r) h = way (r == q)
  where
    way : (b : Bool) → is_some (cond b v (f r)) ≡ true
    way true = s
    way false = h

pub kept_granted : (n : ℕ) (f : ℕ → Option Contract) (owner g : ℕ → Option ℕ) (q s d o : ℕ) → Fits s d (period s d) → o < period s d → free owner (period s d) o ≡ true → f q ≡ None
    → Kept n f owner g → Kept n (updated f q (Some (agreed s d))) (assigned owner (period s d) o q) g
kept_granted n f owner g q s d o fits l fr none k = record { tenants = tenants; recurring = recurring; prompt = prompt; dated = dates }
  where
    p : ℕ
    p = period s d

    new : ℕ → Option ℕ
    new = assigned owner p o q

    tenants : (j : ℕ) → tenant (updated f q (Some (agreed s d))) (new j) ≡ true
    tenants j = way (turn_of p o j)
      where
        way : (b : Bool) → tenant (updated f q (Some (agreed s d))) (cond b (Some q) (owner j)) ≡ true
        way true = ap (λ b. is_some (cond b (Some (agreed s d)) (f q))) (eq-eqb q q refl)
        way false = tenant-updated f q (Some (agreed s d)) refl (owner j) (k.tenants j)

    same : (r : ℕ) → (r ≢ q) → (j : ℕ) → wait new r j ≡ wait owner r j
    same r ne j = wait_same new owner r j (others_assigned owner p o q r fr ne)

    recurring : (r j : ℕ) → wait new r j + 1 ≤ period_or (updated f q (Some (agreed s d)) r)
    recurring r j =
        each (λ r c. wait new r j + 1 ≤ period_or c) f q (Some (agreed s d))
        (omega (arith, wait-assigned owner s d p o q j fits l))
        (λ r ne. omega (arith, same r ne j, k.recurring r j))
        r

    prompt : (r : ℕ) → n ≤ turn_by n (wait new r) (last_of (updated f q (Some (agreed s d)) r)) (g r)
    prompt =
        each (λ r c. n ≤ turn_by n (wait new r) (last_of c) (g r)) f q (Some (agreed s d))
        (omega arith)
        (λ r ne. subst (λ w. n ≤ turn_by n w (last_of (f r)) (g r)) (sym (fun_ext (same r ne))) (k.prompt r))

    dates : (r : ℕ) → dated (last_of (updated f q (Some (agreed s d)) r)) (g r) ≡ true
    dates =
        each (λ r c. dated (last_of c) (g r) ≡ true) f q (Some (agreed s d))
        (subst (λ c. dated (last_of c) (g q) ≡ true) none (k.dated q))
        (λ r ne. k.dated r)

pub kept_withdrawn : (n : ℕ) (f : ℕ → Option Contract) (owner g : ℕ → Option ℕ) (q : ℕ) → g q ≡ None → Kept n f owner g → Kept n (updated f q None) (released owner q) g
kept_withdrawn n f owner g q none k = record { tenants = tenants; recurring = recurring; prompt = prompt; dated = dates }
  where
    new : ℕ → Option ℕ
    new = released owner q

    tenants : (j : ℕ) → tenant (updated f q None) (new j) ≡ true
    tenants j = way (owner j) (k.tenants j)
      where
        here : (r : ℕ) (b : Bool) → (r == q) ≡ b → is_some (f r) ≡ true → tenant (updated f q None) (cond b None (Some r)) ≡ true
        here r true t h = refl
        here r false t h = ap (λ b. is_some (cond b None (f r))) t ∙ h

        way : (o : Option ℕ) → tenant f o ≡ true → tenant (updated f q None) (cond (is_party q o) None o) ≡ true
        way None h = refl
        way (Some r) h = here r (r == q) refl h

    same : (r : ℕ) → (r ≢ q) → (j : ℕ) → wait new r j ≡ wait owner r j
    same r ne j = wait_same new owner r j (others_released owner q r ne)

    recurring : (r j : ℕ) → wait new r j + 1 ≤ period_or (updated f q None r)
    recurring r j =
        each (λ r c. wait new r j + 1 ≤ period_or c) f q None
        (omega (arith, wait_most new q j))
        (λ r ne. omega (arith, same r ne j, k.recurring r j))
        r

    prompt : (r : ℕ) → n ≤ turn_by n (wait new r) (last_of (updated f q None r)) (g r)
    prompt =
        each (λ r c. n ≤ turn_by n (wait new r) (last_of c) (g r)) f q None
        (omega arith)
        (λ r ne. subst (λ w. n ≤ turn_by n w (last_of (f r)) (g r)) (sym (fun_ext (same r ne))) (k.prompt r))

    dates : (r : ℕ) → dated (last_of (updated f q None r)) (g r) ≡ true
    dates =
        each (λ r c. dated (last_of c) (g r) ≡ true) f q None
        (ap (dated None) none)
        (λ r ne. k.dated r)

-- what holds of the two places that are written and of the others
both : {X Y : Type 0} (P : ℕ → X → Y → Type 0) (f : ℕ → X) (g : ℕ → Y) (q : ℕ) (v : X) (w : Y) → P q v w → ((r : ℕ) → P r (f r) (g r)) → (r : ℕ) → P r (updated f q v r) (updated g q w r)
both P f g q v w here there r = way (r == q) refl
  where
    way : (b : Bool) → (r == q) ≡ b → P r (cond b v (f r)) (cond b w (g r))
    way true t = subst (λ k. P k v w) (sym (eqb-true r q t)) here
    way false t = there r

pub kept_put : (n : ℕ) (f : ℕ → Option Contract) (owner g : ℕ → Option ℕ) (q l : ℕ) (c : Contract) → f q ≡ Some c → Kept n f owner g → Kept n (updated f q (Some (stamped c n))) owner (updated g q (Some l))
kept_put n f owner g q l c e k = record { tenants = tenants; recurring = recurring; prompt = prompt; dated = dates }
  where
    v : Option Contract
    v = Some (stamped c n)

    tenants : (j : ℕ) → tenant (updated f q v) (owner j) ≡ true
    tenants j = tenant-updated f q v refl (owner j) (k.tenants j)

    recurring : (r j : ℕ) → wait owner r j + 1 ≤ period_or (updated f q v r)
    recurring r j =
        each (λ r c. wait owner r j + 1 ≤ period_or c) f q v (subst (λ c. wait owner q j + 1 ≤ period_or c) e (k.recurring q j)) (λ r ne. k.recurring r j) r

    prompt : (r : ℕ) → n ≤ turn_by n (wait owner r) (last_of (updated f q v r)) (updated g q (Some l) r)
    prompt = both (λ r c b. n ≤ turn_by n (wait owner r) (last_of c) b) f g q v (Some l) (omega arith) k.prompt

    dates : (r : ℕ) → dated (last_of (updated f q v r)) (updated g q (Some l) r) ≡ true
    dates = both (λ r c b. dated (last_of c) b ≡ true) f g q v (Some l) refl k.dated

-- a party that may put again holds nothing: its turn has come
pub idle : (n : ℕ) (w : ℕ → ℕ) (o : Option Slot) (g : Option ℕ) (p s : ℕ) → p ≤ s → ((j : ℕ) → w j + 1 ≤ p) → n ≤ turn_by n w o g → dated o g ≡ true → ((t : Slot) → o ≡ Some t → t.0 + s ≤ n) → g ≡ None
idle n w None None p s h r b d k = refl
idle n w None (Some l) p s h r b d k = absurd (both_ways false refl d)
idle n w (Some t) None p s h r b d k = refl
idle n w (Some t) (Some l) p s h r b d k = absurd (omega (arith, r t.0, k t refl))

-- one slot more
step : (n : ℕ) (owner : ℕ → Option ℕ) (q : ℕ) (o : Option Slot) (g : Option ℕ) → ((t : Slot) → o ≡ Some t → wait owner q t.0 < 128) → (owns owner q n ≡ true → unheld o g ≡ true) → n ≤ turn_by n (wait owner q) o g → n + 1 ≤ turn_by (n + 1) (wait owner q) o g
step n owner q None g w u h = omega arith
step n owner q (Some t) None w u h = omega arith
step n owner q (Some t) (Some l) w u h =
    elim (cases_eq n (t.0 + wait owner q t.0)) [
      | inl e ↦ absurd (both_ways false refl (u (ap (owns owner q) e ∙ wait_end owner q t.0 (w t refl))))
      | inr e ↦ grind arith
    ]

-- under a contract a party waits less than 128 slots
short : (owner : ℕ → Option ℕ) (q : ℕ) (o : Option Contract) → ((c : Contract) → o ≡ Some c → Terms c) → ((j : ℕ) → wait owner q j + 1 ≤ period_or o) → (t : Slot) → last_of o ≡ Some t → wait owner q t.0 < 128
short owner q None terms r t e = absurd (none_some t e)
short owner q (Some c) terms r t e =
    let x = terms c refl in
    let f = period_fits c.spacing.0 c.bound.0 x.spacing_least x.bound_least x.bound_most in
    omega (arith, r t.0, f.most)

pub kept_stepped : (n : ℕ) (f : ℕ → Option Contract) (owner g : ℕ → Option ℕ) → ((q : ℕ) (c : Contract) → f q ≡ Some c → Terms c) → ((q : ℕ) → owns owner q n ≡ true → unheld (last_of (f q)) (g q) ≡ true) → Kept n f owner g → Kept (n + 1) f owner g
kept_stepped n f owner g terms u k =
    record {
      tenants = k.tenants;
      recurring = k.recurring;
      prompt = λ q. step n owner q (last_of (f q)) (g q) (short owner q (f q) (terms q) (k.recurring q)) (u q) (k.prompt q);
      dated = k.dated;
    }

-- a label goes
pub kept_served : (n : ℕ) (f : ℕ → Option Contract) (owner g : ℕ → Option ℕ) (p : ℕ) → Kept n f owner g → Kept n f owner (updated g p None)
kept_served n f owner g p k =
    record {
      tenants = k.tenants;
      recurring = k.recurring;
      prompt = each (λ q b. n ≤ turn_by n (wait owner q) (last_of (f q)) b) g p None (waits (last_of (f p))) (λ q ne. k.prompt q);
      dated = each (λ q b. dated (last_of (f q)) b ≡ true) g p None (dates (last_of (f p))) (λ q ne. k.dated q);
    }
  where
    waits : (o : Option Slot) → n ≤ turn_by n (wait owner p) o None
    waits None = omega arith
    waits (Some t) = omega arith

    dates : (o : Option Slot) → dated o None ≡ true
    dates None = refl
    dates (Some t) = refl

-- the owner of a turn
pub owner_is : (q : ℕ) (o : Option ℕ) → is_party q o ≡ true → o ≡ Some q
owner_is q None h = absurd (both_ways false refl h)
owner_is q (Some r) h = ap Some (eqb-true r q h)

-- the owner of the turn whose label goes holds nothing then
pub served_out : (f : ℕ → Option Contract) (g : ℕ → Option ℕ) (p : ℕ) (o : Option ℕ) → o ≡ Some p → (q : ℕ) → is_party q o ≡ true → unheld (last_of (f q)) (updated g p None q) ≡ true
served_out f g p o e q h =
    let s : q ≡ p = (let t = owner_is q o h in cc) in
    ap (λ b. unheld (last_of (f q)) (cond b None (g q))) (eq-eqb q p s) ∙ out (last_of (f q))
  where
    out : (x : Option Slot) → unheld x None ≡ true
    out None = refl
    out (Some t) = refl
