-- Contracts and held cells stay orderly, and what follows of the laws.
use Rattle.std.proofs.Common.{◌≡◌, ℕ, suc, ◌+◌, ◌<◌, ◌≤◌, Bool, true, false, cond, ltb, List, [], ◌∷◌, ◌++◌, length, get_or, set, Some, None, sum_by, Option, sym, refl, ap, ◌∙◌, subst, ⊎_elim, arith, length-append, get_or-set_other, get_or-set_same}
use Rattle.std.proofs.lemmas.List.Sums.{sum_by_push, get_or-le-sum_by, sum_by-le-sum_by}
use Rattle.std.proofs.lemmas.Bool.{cases_lt, cases_eq, cond-false}
use Rattle.scheduler.specs.declared.register.Register.{Register}
use Rattle.scheduler.specs.declared.terms.Contract.{Contract}
use Rattle.scheduler.specs.Laws.{InTime, Contracted, Past, Since}
use Rattle.scheduler.specs.Meaning.{after, stamped, used, due, put_rule, holds_of, holds_any, without}
use Rattle.scheduler.specs.Tables.{contracts_of, spacing_or, bound_or, last_or}
use Rattle.scheduler.proofs.Registers.{parties, party, lasts, terms}
use Rattle.scheduler.proofs.Updates.{each_set}
use Rattle.backlog.specs.declared.held.Held.{Held}
use Rattle.backlog.specs.Cells.{due_of, is_cell, held_in, holds_in, at, Taken}
use Rattle.backlog.proofs.HeldCells.{held_none, held_taken, busy_is, holds_is}
use Rattle.demand.specs.Cells.{meaning_of, cell_of, put_since, allowed, stray, due_before, Orderly, Puts}
use Rattle.demand.specs.Totals.{total_of, places}
use Rattle.demand.proofs.Sums.{each_le_add}
use Rattle.demand.proofs.Tables.{total_used, total_gone}
use Rattle.demand.proofs.Cells.{at_since, at_late, at_cases, stray_other, stray_same, stray_none, none_since, stray_le, before_no}
use Rattle.demand.proofs.Spacing.{next_now, allowed_since, allowed_none, spaced_put}
use Rattle.demand.proofs.Room.{within}

-- nothing held
pub orderly_none : (cs : List (Option Contract)) (xs : List Held) → xs ≡ [] → total_of places cs ≤ 128 → Orderly cs xs
orderly_none cs xs e fit =
    let none = λ (f : Held → ℕ). ap (sum_by f) e in
    record {
      single = λ p q. (let z = none (at p q) in omega arith);
      spaced = λ p a. (let z = none (put_since p a) in omega arith);
      agreed = λ p. none (stray p (bound_or (get_or cs p None)));
      fits = fit;
    }

-- one cell taken out
pub orderly_taken : (cs : List (Option Contract)) (xs ys : List Held) (o : Option Held) → Taken xs o ys → Orderly cs xs → Orderly cs ys
orderly_taken cs xs ys None t v = subst (Orderly cs) (sym t) v
orderly_taken cs xs ys (Some x) t v = record {
  single = λ p e. (let a = v.single p e in let b = t (at p e) in omega arith);
  spaced = λ p a. (let s = v.spaced p a in let b = t (put_since p a) in omega arith);
  agreed = λ p. (let s = v.agreed p in let b = t (stray p (bound_or (get_or cs p None))) in omega arith);
  fits = v.fits;
}

-- what is held then
pub held_left : (cs : List (Option Contract)) (xs ys : List Held) (o : Option Held) → Taken xs o ys → Orderly cs xs → held_in ys ≡ without (held_in xs) (cell_of o)
held_left cs xs ys None t v = ap held_in t
held_left cs xs ys (Some x) t v = held_taken xs ys x v.single t

-- a contract withdrawn, of a party that holds nothing
pub orderly_withdrawn : (cs : List (Option Contract)) (xs : List Held) (p : ℕ) → p < length cs → holds_in xs p ≡ false → Orderly cs xs → Orderly (set cs p None) xs
orderly_withdrawn cs xs p pin none v = record {
  single = v.single;
  spaced = λ q a. ⊎_elim
      (λ (s : q ≡ p). (let z = ap (λ k. sum_by (put_since k a) xs) s in let n = none_since p a xs none in omega arith))
      (λ (n : q ≡ p → ⊥). (let s = v.spaced q a in let same : allowed a (get_or (set cs p None) q None) ≡ allowed a (get_or cs q None) = ap (allowed a) (get_or-set_other cs p q None None n) in omega arith))
      (cases_eq q p);
  agreed = λ q. ⊎_elim
      (λ (s : q ≡ p). (let b = bound_or (get_or (set cs p None) q None) in let z = ap (λ k. sum_by (stray k b) xs) s in let l = stray_le p b xs in let n = none_since p 0 xs none in omega arith))
      (λ (n : q ≡ p → ⊥). ap (λ o. sum_by (stray q (bound_or o)) xs) (get_or-set_other cs p q None None n) ∙ v.agreed q)
      (cases_eq q p);
  fits = let g = total_gone places cs p pin in let f = v.fits in omega arith;
}

-- a cell put, from what a register answers to a put
pub puts_of : (r : Register) (p : ℕ) (c : Contract) (x : Held) → contracts_of r.contracts p ≡ Some c → put_rule (contracts_of r.contracts p) r.slot.0 ≡ None
    → x.cell.party ≡ p → x.cell.eligible.0 ≡ r.slot.0 → x.bound.0 ≡ c.bound.0 → Puts r.contracts r.slot.0 p c x
puts_of r p c x has ok a b e =
    let low = party r p c has in
    let whole = r.whole in
    record {
      inside = omega arith;
      granted = has;
      consent = ap (λ o. put_rule o r.slot.0) (sym has) ∙ ok;
      spacing = (terms r p c has).spacing_least;
      party = a;
      eligible = b;
      bound = e;
    }

-- and the table that it leaves
pub puts_table : (cs : List (Option Contract)) (p t : ℕ) (c : Contract) → contracts_of cs p ≡ Some c → put_rule (contracts_of cs p) t ≡ None
    → after (put_rule (contracts_of cs p) t) cs (set cs p (used (contracts_of cs p) t)) ≡ set cs p (Some (stamped c t))
puts_table cs p t c has ok = ap (λ w. after w cs (set cs p (used (contracts_of cs p) t))) ok ∙ ap (λ o. set cs p (used o t)) has

-- no cell of its party has its eligible slot
pub put_new : (cs : List (Option Contract)) (xs : List Held) (t p : ℕ) (c : Contract) (x : Held) → Puts cs t p c x → Orderly cs xs → sum_by (at p t) xs ≡ 0
put_new cs xs t p c x k v =
    let le = sum_by-le-sum_by (at p t) (put_since p t) xs (λ y. at_since p t t y (omega arith)) in
    let s = v.spaced p t in
    let w : allowed t (get_or cs p None) ≡ allowed t (Some c) = ap (allowed t) k.granted in
    let n = allowed_none t c.spacing.0 c.last k.spacing (next_now c t k.consent) in
    omega arith

pub orderly_put : (cs : List (Option Contract)) (xs : List Held) (t p : ℕ) (c : Contract) (x : Held) → Puts cs t p c x → Orderly cs xs → Orderly (set cs p (Some (stamped c t))) (xs ++ x ∷ [])
orderly_put cs xs t p c x k v = record {
  single = λ q e. (let push = sum_by_push (at q e) xs x in one q e push);
  spaced = spaced_put cs xs t p c x k.inside k.granted k.spacing (next_now c t k.consent) k.party k.eligible v.spaced;
  agreed = λ q. (let b = bound_or (get_or ds q None) in let push = sum_by_push (stray q b) xs x in let own = mine q in let old : sum_by (stray q b) xs ≡ 0 = ap (λ n. sum_by (stray q n) xs) (same q) ∙ v.agreed q in omega arith);
  fits = let u = total_used places cs p t c k.inside k.granted in let f = v.fits in omega arith;
}
  where
    ds : List (Option Contract)
    ds = set cs p (Some (stamped c t))

    same : (q : ℕ) → bound_or (get_or ds q None) ≡ bound_or (get_or cs q None)
    same q =
        ⊎_elim
        (λ (s : q ≡ p). ap (λ j. bound_or (get_or ds j None)) s ∙ ap bound_or (get_or-set_same cs p (Some (stamped c t)) None k.inside) ∙ sym (ap bound_or k.granted) ∙ sym (ap (λ j. bound_or (get_or cs j None)) s))
        (λ (n : q ≡ p → ⊥). ap bound_or (get_or-set_other cs p q (Some (stamped c t)) None n))
        (cases_eq q p)

    mine : (q : ℕ) → stray q (bound_or (get_or ds q None)) x ≡ 0
    mine q =
        ⊎_elim
        (λ (s : q ≡ p). stray_same q (bound_or (get_or ds q None)) x (k.bound ∙ sym (same q ∙ ap (λ j. bound_or (get_or cs j None)) s ∙ ap bound_or k.granted)))
        (λ (n : q ≡ p → ⊥). stray_other q (bound_or (get_or ds q None)) x (λ e. n (e ∙ k.party)))
        (cases_eq q p)

    one : (q e : ℕ) → sum_by (at q e) (xs ++ x ∷ []) ≡ sum_by (at q e) xs + at q e x → sum_by (at q e) (xs ++ x ∷ []) ≤ 1
    one q e push =
        let old = v.single q e in
        ⊎_elim
        (λ (z : at q e x ≡ 0). omega arith)
        (λ (w : (q ≡ x.cell.party) × (e ≡ x.cell.eligible.0) × (at q e x ≡ 1)).
        (let here = w.2 in
        let none : sum_by (at q e) xs ≡ 0 = ap (λ j. sum_by (at j e) xs) (w.0 ∙ k.party) ∙ ap (λ j. sum_by (at p j) xs) (w.1 ∙ k.eligible) ∙ put_new cs xs t p c x k v in
        omega arith))
        (at_cases q e x)

-- a cell that may be put has a place, where none is late
pub room : (cs : List (Option Contract)) (xs : List Held) (t p : ℕ) (c : Contract) (x : Held) → Puts cs t p c x → Orderly cs xs
    → ((q : ℕ) → 1 ≤ spacing_or (get_or cs q None)) → ((q : ℕ) → last_or t (get_or cs q None) ≤ t) → sum_by (due_before t) xs ≡ 0
    → length xs < 128
room cs xs t p c x k v pos past prompt =
    let new : Option Contract = Some (stamped c t) in
    let ds = set cs p new in
    let ys = xs ++ x ∷ [] in
    let w = orderly_put cs xs t p c x k v in
    let pos2 = each_set (λ q o. 1 ≤ spacing_or o) cs p new None k.inside k.spacing pos in
    let past2 = each_set (λ q o. last_or t o ≤ t) cs p new None k.inside (omega arith) past in
    let el = k.eligible in
    let own : t ≤ due_of x = let b = x.bounded in omega arith in
    let push = sum_by_push (due_before t) xs x in
    let prompt2 : sum_by (due_before t) ys ≡ 0 = let z = before_no t x own in omega arith in
    let all = within ds ys t pos2 past2 w.spaced w.agreed prompt2 in
    let fit = w.fits in
    let long = length-append xs (x ∷ []) in
    omega arith

-- only parties with a contract hold cells
pub contracted_of : (r : Register) (xs : List Held) → Orderly r.contracts xs → Contracted (meaning_of r.slot.0 r.contracts xs)
contracted_of r xs v = record { parties = parties r; cells = λ p e k. cells p e k }
  where
    cells : (p e : ℕ) → contracts_of r.contracts p ≡ None → held_in xs p e ≡ None
    cells p e k =
        let le = sum_by-le-sum_by (at p e) (put_since p 0) xs (λ y. at_since p e 0 y (omega arith)) in
        let s = v.spaced p 0 in
        let w = ap (allowed 0) k in
        held_none p e xs (omega arith)

-- a cell of a party and eligible slot is counted where it is held
pub held_some : (p e l : ℕ) (xs : List Held) → held_in xs p e ≡ Some l → 1 ≤ sum_by (at p e) xs
held_some p e l xs h = ⊎_elim (λ (lt : 0 < sum_by (at p e) xs). lt) (λ (ge : sum_by (at p e) xs ≤ 0). absurd (let n = held_none p e xs (omega arith) in let z : ◌≡◌ {A = ℕ} 0 1 = cc in omega arith)) (cases_lt 0 (sum_by (at p e) xs))

-- a held cell stands at some place
pub held_place : (xs : List Held) (p e l : ℕ) (d : Held) → held_in xs p e ≡ Some l → (i : ℕ) × (i < length xs) × ((get_or xs i d).cell.party ≡ p) × ((get_or xs i d).cell.eligible.0 ≡ e)
held_place [] p e l d h = absurd (let z : ◌≡◌ {A = ℕ} 0 1 = cc in omega arith)
held_place (x ∷ xs) p e l d h =
    ⊎_elim
    (λ (z : at p e x ≡ 0).
    (let miss : is_cell p e x ≡ false = unmarked (is_cell p e x) z in
    let r = held_place xs p e l d (sym (cond-false (is_cell p e x) (Some x.cell.label) (held_in xs p e) miss) ∙ h) in
    (suc r.0, omega (arith, r.1), r.2, r.3)))
    (λ (w : (p ≡ x.cell.party) × (e ≡ x.cell.eligible.0) × (at p e x ≡ 1)). (0, omega arith, sym w.0, sym w.1))
    (at_cases p e x)
  where
    unmarked : (b : Bool) → ◌≡◌ {A = ℕ} (cond b 1 0) 0 → b ≡ false
    unmarked true z = absurd (omega arith)
    unmarked false z = refl

-- and is held under its contract's bound
pub bound_at : (cs : List (Option Contract)) (xs : List Held) (i : ℕ) (d : Held) → Orderly cs xs → i < length xs → (get_or xs i d).bound.0 ≡ bound_or (get_or cs (get_or xs i d).cell.party None)
bound_at cs xs i d v l =
    let y = get_or xs i d in
    let p = y.cell.party in
    let b = bound_or (get_or cs p None) in
    let strays = get_or-le-sum_by (stray p b) xs i d l in
    let own : stray p b y ≡ 0 = let s = v.agreed p in omega arith in
    stray_none p b y refl own

-- a held cell became eligible no later than its party's last was put
pub past_of : (r : Register) (xs : List Held) → Orderly r.contracts xs → Past (meaning_of r.slot.0 r.contracts xs)
past_of r xs v = record { lasts = lasts r; cells = λ p e l c h k. cells p e l c h k }
  where
    cells : (p e l : ℕ) (c : Contract) → held_in xs p e ≡ Some l → contracts_of r.contracts p ≡ Some c → Since c.last e
    cells p e l c h k =
        let some = held_some p e l xs h in
        let le = sum_by-le-sum_by (at p e) (put_since p e) xs (λ y. at_since p e e y (omega arith)) in
        let s = v.spaced p e in
        let w = ap (allowed e) k in
        allowed_since e c.spacing.0 c.last (terms r p c k).spacing_least (omega arith)

-- whether a cell is held
pub busy_of : (r : Register) (xs : List Held) → Orderly r.contracts xs → ltb 0 (length xs) ≡ holds_any (meaning_of r.slot.0 r.contracts xs)
busy_of r xs v = sym (busy_is (meaning_of r.slot.0 r.contracts xs) xs refl (contracted_of r xs v) (past_of r xs v))

-- whether one of the party is
pub holds_by : (r : Register) (xs : List Held) (p : ℕ) → Orderly r.contracts xs → holds_in xs p ≡ holds_of (meaning_of r.slot.0 r.contracts xs) p
holds_by r xs p v = sym (holds_is (meaning_of r.slot.0 r.contracts xs) xs p refl (contracted_of r xs v) (past_of r xs v))

-- where none is due before the slot, none is late under its contract
pub in_time_of : (r : Register) (xs : List Held) → Orderly r.contracts xs → sum_by (due_before r.slot.0) xs ≡ 0 → InTime (meaning_of r.slot.0 r.contracts xs)
in_time_of r xs v prompt p e l c h k =
    let t = r.slot.0 in
    let b = c.bound.0 in
    let some = held_some p e l xs h in
    ⊎_elim
    (λ (lt : due e b < t).
    (let le = each_le_add (at p e) (due_before t) (stray p b) (λ y. at_late p e b t y lt) xs in
    let s : sum_by (stray p b) xs ≡ 0 = ap (λ o. sum_by (stray p (bound_or o)) xs) (sym k) ∙ v.agreed p in
    absurd (omega arith)))
    (λ (ge : t ≤ due e b). ge)
    (cases_lt (due e b) t)
