-- Held cells take no more places than the contracts want.
use Rattle.std.proofs.Common.{◌≡◌, ℕ, zero, suc, ◌+◌, ◌-◌, ◌*◌, ◌<◌, ◌≤◌, List, [], ◌∷◌, length, get_or, Some, None, sum_by, Option, refl, ap, ⊎_elim, arith}
use Rattle.std.proofs.lemmas.List.{get_or_past}
use Rattle.std.proofs.lemmas.List.Sums.{sum_by-cons, get_or-le-sum_by}
use Rattle.std.proofs.lemmas.Bool.{cases_lt}
use Rattle.cells.specs.declared.times.Slot.{Slot}
use Rattle.scheduler.specs.declared.terms.Contract.{Contract}
use Rattle.scheduler.specs.Tables.{spacing_or, bound_or, slot_or, last_or}
use Rattle.backlog.specs.declared.held.Held.{Held}
use Rattle.demand.specs.Cells.{put_since, allowed_by, allowed, stray, due_before}
use Rattle.demand.specs.Counts.{ceil}
use Rattle.demand.specs.Totals.{each_of, total_of, places}
use Rattle.demand.proofs.Counts.{jobs_least, ceil_reach}
use Rattle.demand.proofs.Cells.{since_yes, stray_none, before_none}

-- a sum over the numbers below n
abbrev tot : ℕ → (ℕ → ℕ) → ℕ
tot zero f = 0
tot (suc n) f = f 0 + tot n (λ p. f (suc p))

tot_le : (n : ℕ) (f g : ℕ → ℕ) → ((p : ℕ) → f p ≤ g p) → tot n f ≤ tot n g
tot_le zero f g h = omega arith
tot_le (suc n) f g h = omega (arith, h 0, tot_le n (λ p. f (suc p)) (λ p. g (suc p)) (λ p. h (suc p)))

tot_add : (n : ℕ) (f g : ℕ → ℕ) → tot n f + tot n g ≤ tot n (λ p. f p + g p)
tot_add zero f g = omega arith
tot_add (suc n) f g = omega (arith, tot_add n (λ p. f (suc p)) (λ p. g (suc p)))

tot_at : (n : ℕ) (f : ℕ → ℕ) (q : ℕ) → q < n → f q ≤ tot n f
tot_at zero f q h = absurd (omega arith)
tot_at (suc n) f zero h = omega arith
tot_at (suc n) f (suc q) h = omega (arith, tot_at n (λ p. f (suc p)) q (omega arith))

tot_list : {X : Type 0} (f : X → ℕ) (xs : List X) (d : X) → tot (length xs) (λ p. f (get_or xs p d)) ≤ sum_by f xs
tot_list f [] d = omega arith
tot_list f (x ∷ xs) d = omega (arith, sum_by-cons f x xs, tot_list f xs d)

-- each cell is counted for its own party
by_party : (n : ℕ) (a : ℕ → ℕ) (xs : List Held) → ((j : ℕ) (d : Held) → j < length xs → ((get_or xs j d).cell.party < n) × (a (get_or xs j d).cell.party ≤ (get_or xs j d).cell.eligible.0)) → length xs ≤ tot n (λ p. sum_by (put_since p (a p)) xs)
by_party n a [] h = omega arith
by_party n a (x ∷ xs) h =
    let ih = by_party n a xs (λ j d l. h (suc j) d (omega arith)) in
    let both = tot_add n (λ p. put_since p (a p) x) (λ p. sum_by (put_since p (a p)) xs) in
    let join = tot_le n (λ p. put_since p (a p) x + sum_by (put_since p (a p)) xs) (λ p. sum_by (put_since p (a p)) (x ∷ xs)) (λ p. omega (arith, sum_by-cons (put_since p (a p)) x xs)) in
    let own = h 0 x (omega arith) in
    let one = since_yes x.cell.party (a x.cell.party) x refl own.1 in
    let some = tot_at n (λ p. put_since p (a p) x) x.cell.party own.0 in
    omega arith

-- the first slot from which a party's cells can still be held in slot t
abbrev edge : ℕ → Option Contract → ℕ
edge t None = 0
edge t (Some c) = t + 1 - c.bound.0

within_by : (t s d : ℕ) (o : Option Slot) → 1 ≤ s → slot_or t o ≤ t → allowed_by (t + 1 - d) s o ≤ ceil d s
within_by t s d None h le = omega arith
within_by t s d (Some l) h le = jobs_least (t + 1 - d) s l.0 (ceil d s) h (reach (ceil d s) (ceil_reach d s h))
  where
    reach : (k : ℕ) → d ≤ k * s → l.0 < t + 1 - d + k * s
    reach k q = omega arith

within_one : (t : ℕ) (o : Option Contract) → 1 ≤ spacing_or o → last_or t o ≤ t → allowed (edge t o) o ≤ each_of places o
within_one t None h le = omega arith
within_one t (Some c) h le = within_by t c.spacing.0 c.bound.0 c.last h le

edge_le : (t e b : ℕ) (o : Option Contract) → 1 ≤ allowed 0 o → b ≡ bound_or o → t ≤ e + b - 1 → 1 ≤ b → edge t o ≤ e
edge_le t e b None a k le pos = absurd (omega arith)
edge_le t e b (Some c) a k le pos = omega arith

in_table : (cs : List (Option Contract)) (q : ℕ) → 1 ≤ allowed 0 (get_or cs q None) → q < length cs
in_table cs q h = ⊎_elim (λ (lt : q < length cs). lt) (λ (ge : length cs ≤ q). absurd (omega (arith, h, ap (allowed 0) (get_or_past cs q None ge)))) (cases_lt q (length cs))

-- a party's cells came in the last slots, as many as its bound, and its spacing apart: so each party takes at most ⌈d/s⌉ places
pub within : (cs : List (Option Contract)) (xs : List Held) (t : ℕ) → ((p : ℕ) → 1 ≤ spacing_or (get_or cs p None)) → ((p : ℕ) → last_or t (get_or cs p None) ≤ t)
    → ((p a : ℕ) → sum_by (put_since p a) xs ≤ allowed a (get_or cs p None)) → ((p : ℕ) → sum_by (stray p (bound_or (get_or cs p None))) xs ≡ 0) → sum_by (due_before t) xs ≡ 0
    → length xs ≤ total_of places cs
within cs xs t pos past sp ag prompt =
    let a : ℕ → ℕ = λ p. edge t (get_or cs p None) in
    let one = by_party (length cs) a xs each in
    let two = tot_le (length cs) (λ p. sum_by (put_since p (a p)) xs) (λ p. each_of places (get_or cs p None)) (λ p. (let s = sp p (a p) in let w = within_one t (get_or cs p None) (pos p) (past p) in omega arith)) in
    omega (arith, one, two, tot_list (each_of places) cs None)
  where
    each : (j : ℕ) (d : Held) → j < length xs → ((get_or xs j d).cell.party < length cs) × (edge t (get_or cs (get_or xs j d).cell.party None) ≤ (get_or xs j d).cell.eligible.0)
    each j d l =
        let y = get_or xs j d in
        let p = y.cell.party in
        let b = bound_or (get_or cs p None) in
        let counts = get_or-le-sum_by (put_since p 0) xs j d l in
        let one = since_yes p 0 y refl (omega arith) in
        let has : 1 ≤ allowed 0 (get_or cs p None) = let s = sp p 0 in omega arith in
        let strays = get_or-le-sum_by (stray p b) xs j d l in
        let own : stray p b y ≡ 0 = let s = ag p in omega arith in
        let under = stray_none p b y refl own in
        let lates = get_or-le-sum_by (due_before t) xs j d l in
        let late : due_before t y ≡ 0 = omega arith in
        let due = before_none t y late in
        (in_table cs p has, edge_le t y.cell.eligible.0 y.bound.0 (get_or cs p None) has under due y.bounded)
