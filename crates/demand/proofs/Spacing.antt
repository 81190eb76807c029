-- What a party may have put, and one cell more.
use Rattle.std.proofs.Common.{◌≡◌, ℕ, ◌+◌, ◌<◌, ◌≤◌, Bool, true, false, ltb, List, [], ◌∷◌, ◌++◌, length, get_or, set, Some, None, sum_by, Option, sym, refl, ap, ◌∙◌, ⊎_elim, arith, get_or-set_other, get_or-set_same}
use Rattle.std.proofs.lemmas.List.Sums.{sum_by_push}
use Rattle.std.proofs.lemmas.Bool.{cases_lt, cases_eq, ltb-false}
use Rattle.cells.specs.declared.times.Slot.{Slot}
use Rattle.cells.specs.declared.faults.Cause.TheVariants.{TooSoon}
use Rattle.scheduler.specs.declared.terms.Contract.{Contract}
use Rattle.scheduler.specs.Laws.{Since}
use Rattle.scheduler.specs.Meaning.{stamped, put_rule, refused_if}
use Rattle.backlog.specs.declared.held.Held.{Held}
use Rattle.demand.specs.Cells.{next_slot, put_since, allowed_by, allowed}
use Rattle.demand.specs.Counts.{jobs}
use Rattle.demand.proofs.Counts.{jobs_mono, jobs_next, jobs_some, jobs_none}
use Rattle.demand.proofs.Cells.{since_yes, since_other, since_early}

-- a contract that may put in slot t may put again from t on
pub next_now : (c : Contract) (t : ℕ) → put_rule (Some c) t ≡ None → next_slot t c.spacing.0 c.last ≡ t
next_now c t h = way c.last h
  where
    late : (b : Bool) → refused_if b TooSoon None ≡ None → b ≡ false
    late true e = absurd (let z : ◌≡◌ {A = ℕ} 0 1 = cc in omega arith)
    late false e = refl

    way : (o : Option Slot) → refused_if (elim o [ None ↦ false | Some l ↦ ltb t (l.0 + c.spacing.0) ]) TooSoon None ≡ None → next_slot t c.spacing.0 o ≡ t
    way None e = refl
    way (Some l) e = let k = ltb-false t (l.0 + c.spacing.0) (late (ltb t (l.0 + c.spacing.0)) e) in omega arith

pub next_from : (t s : ℕ) (o : Option Slot) → t ≤ next_slot t s o
next_from t s None = omega arith
next_from t s (Some l) = omega arith

pub next_later : (t u s : ℕ) (o : Option Slot) → t ≤ u → next_slot t s o ≤ next_slot u s o
next_later t u s None h = omega arith
next_later t u s (Some l) h = omega arith

-- a cell put in slot a or later: the last was put no earlier
pub allowed_since : (a s : ℕ) (o : Option Slot) → 1 ≤ s → 1 ≤ allowed_by a s o → Since o a
allowed_since a s None h k = omega arith
allowed_since a s (Some l) h k = ⊎_elim (λ (lt : l.0 < a). absurd (let n = jobs_none a s l.0 h lt in omega arith)) (λ (ge : a ≤ l.0). ge) (cases_lt l.0 a)

-- before a put in slot t, none was put in slot t or later
pub allowed_none : (t s : ℕ) (o : Option Slot) → 1 ≤ s → next_slot t s o ≡ t → allowed_by t s o ≤ 0
allowed_none t s None h e = omega arith
allowed_none t s (Some l) h e = jobs_none t s l.0 h (omega arith)

put_more : (a s t : ℕ) (o : Option Slot) → 1 ≤ s → next_slot t s o ≡ t → a ≤ t → allowed_by a s o + 1 ≤ jobs a s t
put_more a s t None h now le = omega (arith, jobs_some a s t h le)
put_more a s t (Some l) h now le = jobs_next a a s t l.0 h (omega arith) le

put_same : (a s t : ℕ) (o : Option Slot) → 1 ≤ s → next_slot t s o ≡ t → allowed_by a s o ≤ jobs a s t
put_same a s t None h now = omega arith
put_same a s t (Some l) h now = jobs_mono a a s t l.0 h (omega arith)

put_own : (c : Contract) (t p a : ℕ) (x : Held) → 1 ≤ c.spacing.0 → next_slot t c.spacing.0 c.last ≡ t → x.cell.party ≡ p → x.cell.eligible.0 ≡ t
    → put_since p a x + allowed a (Some c) ≤ allowed a (Some (stamped c t))
put_own c t p a x h now e f =
    ⊎_elim
    (λ (lt : t < a). omega (arith, since_early p a x (omega arith), put_same a c.spacing.0 t c.last h now))
    (λ (ge : a ≤ t). omega (arith, since_yes p a x e (omega arith), put_more a c.spacing.0 t c.last h now ge))
    (cases_lt t a)

-- a put asks for no more than the contract then allows
pub spaced_put : (cs : List (Option Contract)) (xs : List Held) (t p : ℕ) (c : Contract) (x : Held) → p < length cs → get_or cs p None ≡ Some c → 1 ≤ c.spacing.0 → next_slot t c.spacing.0 c.last ≡ t
    → x.cell.party ≡ p → x.cell.eligible.0 ≡ t → ((q a : ℕ) → sum_by (put_since q a) xs ≤ allowed a (get_or cs q None))
    → (q a : ℕ) → sum_by (put_since q a) (xs ++ x ∷ []) ≤ allowed a (get_or (set cs p (Some (stamped c t))) q None)
spaced_put cs xs t p c x pin here h now e f sp q a =
    let push = sum_by_push (put_since q a) xs x in
    let old = sp q a in
    ⊎_elim
    (λ (s : q ≡ p).
    (let own = put_own c t q a x h now (e ∙ sym s) f in
    let was : allowed a (get_or cs q None) ≡ allowed a (Some c) = ap (λ k. allowed a (get_or cs k None)) s ∙ ap (allowed a) here in
    let new : allowed a (get_or (set cs p (Some (stamped c t))) q None) ≡ allowed a (Some (stamped c t)) = ap (λ k. allowed a (get_or (set cs p (Some (stamped c t))) k None)) s ∙ ap (allowed a) (get_or-set_same cs p (Some (stamped c t)) None pin) in
    omega arith))
    (λ (n : q ≡ p → ⊥).
    (let other = since_other q a x (λ k. n (k ∙ e)) in
    let same : allowed a (get_or (set cs p (Some (stamped c t))) q None) ≡ allowed a (get_or cs q None) = ap (allowed a) (get_or-set_other cs p q (Some (stamped c t)) None n) in
    omega arith))
    (cases_eq q p)
