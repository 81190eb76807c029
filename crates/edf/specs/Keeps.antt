-- What an EDF scheduler keeps: cells that are held, and that can still come, find slots before they are due.
use Rattle.std.specs.Prelude.{◌≡◌, ℕ, ◌+◌, ◌-◌, ◌<◌, ◌≤◌, true, false, List, [], ◌∷◌, ◌++◌, Some, None, sum_by, Option, slice_index_or, slice_set}
use Rattle.std.proofs.Common.{ap, subst, ⊎_elim, arith}
use Rattle.std.proofs.lemmas.List.Sums.{sum_by-set, sum_by_push}
use Rattle.std.proofs.lemmas.Bool.{cases_lt, le-leb, leb-true}
use Rattle.std.proofs.lemmas.Bool.Decides.{nat_tests}
use Rattle.scheduler.specs.declared.terms.Contract.{Contract}
use Rattle.scheduler.specs.Meaning.{stamped}
use Rattle.scheduler.specs.Tables.{spacing_or}
use Rattle.backlog.specs.declared.held.Held.{Held}
use Rattle.backlog.specs.Cells.{due_of}
use Rattle.demand.specs.Cells.{next_slot, due_before}
use Rattle.demand.specs.Totals.{each_of}
use Rattle.demand.proofs.Cells.{before_yes, before_no}
use Rattle.demand.proofs.Counts.{jobs_mono, jobs_next}
use Rattle.demand.proofs.Firsts.{foremost_least}
use Rattle.demand.proofs.Spacing.{next_now, next_from, next_later}
use Rattle.demand.proofs.Sums.{sum_le, sum_zero}
use Rattle.edf.specs.Admission.{due_in, demand_in}
use Rattle.ordered.specs.States.{Sound}
use Rattle.ordered.specs.Laws.{KeptIdle, KeptServed, KeptWithdrawn, KeptPut, Prompt}
use Rattle.edf.specs.Coming.{earlier, coming, timely_in}

-- what can come from slot t on is at most what the test counts
coming-due : (t n : ℕ) (o : Option Contract) → 1 ≤ spacing_or o → coming t (t + n) o ≤ each_of (due_in n) o
coming-due t n None h = omega arith
coming-due t n (Some c) h = jobs_mono c.bound.0 (next_slot t c.spacing.0 c.last + c.bound.0) c.spacing.0 n (t + n) h (let k = next_from t c.spacing.0 c.last in omega arith)

coming_later : (t u e : ℕ) (o : Option Contract) → t ≤ u → 1 ≤ spacing_or o → coming u e o ≤ coming t e o
coming_later t u e None le h = omega arith
coming_later t u e (Some c) le h = jobs_mono (next_slot t c.spacing.0 c.last + c.bound.0) (next_slot u c.spacing.0 c.last + c.bound.0) c.spacing.0 e e h (let k = next_later t u c.spacing.0 c.last le in omega arith)

-- one put: the new cell was the first that could come
coming_put : (c : Contract) (t e : ℕ) (x : Held) → 1 ≤ c.spacing.0 → next_slot t c.spacing.0 c.last ≡ t → due_of x ≡ t + c.bound.0 - 1 → 1 ≤ c.bound.0
    → due_before e x + coming t e (Some (stamped c t)) ≤ coming t e (Some c)
coming_put c t e x h now due pos =
    let s = c.spacing.0 in
    let d = c.bound.0 in
    ⊎_elim
    (λ (lt : due_of x < e).
    (let one = before_yes e x lt in
    let k = jobs_next (next_slot t s c.last + d) (next_slot t s (stamped c t).last + d) s e e h (omega arith) (omega arith) in
    omega arith))
    (λ (ge : e ≤ due_of x).
    (let none = before_no e x ge in
    let k = jobs_mono (next_slot t s c.last + d) (next_slot t s (stamped c t).last + d) s e e h (omega arith) in
    omega arith))
    (cases_lt (due_of x) e)

-- the order of held cells
not_earlier : (x y : Held) → earlier y x ≡ false → due_of x ≤ due_of y
not_earlier x y h = grind (arith, nat_tests)

pub earlier_asym : (x y : Held) → earlier x y ≡ true → earlier y x ≡ false
earlier_asym x y h = grind (arith, nat_tests)

pub earlier_weak : (x y z : Held) → earlier x y ≡ false → earlier y z ≡ false → earlier x z ≡ false
earlier_weak x y z h k = grind (arith, nat_tests)

module _ (cs : List (Option Contract)) (pos : (p : ℕ) → 1 ≤ spacing_or (slice_index_or cs p None)) where
  all_coming : (t n : ℕ) → sum_by (coming t (t + n)) cs ≤ demand_in cs n
  all_coming t n = sum_le (coming t (t + n)) (each_of (due_in n)) cs None (λ i l. coming-due t n (slice_index_or cs i None) (pos i))

  all_later : (t u e : ℕ) → t ≤ u → sum_by (coming u e) cs ≤ sum_by (coming t e) cs
  all_later t u e le = sum_le (coming u e) (coming t e) cs None (λ i l. coming_later t u e (slice_index_or cs i None) le (pos i))

abbrev Keeps : ℕ → List (Option Contract) → List Held → Type 0
Keeps t cs xs = Sound due_in (λ n. n) timely_in t cs xs

-- what is kept of each number of slots
each : (n t : ℕ) (cs : List (Option Contract)) (xs : List Held) → Keeps t cs xs → sum_by (due_before (t + n)) xs + sum_by (coming t (t + n)) cs ≤ n
each n t cs xs v = leb-true (sum_by (due_before (t + n)) xs + sum_by (coming t (t + n)) cs) n (v.kept n)

-- nothing is held
pub idle : KeptIdle due_in (λ n. n) timely_in
idle n t cs spaced test = le-leb (sum_by (due_before (t + n)) [] + sum_by (coming t (t + n)) cs) n (let k = all_coming cs spaced t n in let h = test n in omega arith)

-- a slot in which the cell that is due first is served
pub served : KeptServed due_in (λ n. n) timely_in earlier
served n t cs xs ys x spaced e k v = le-leb (sum_by (due_before (t + 1 + n)) ys + sum_by (coming (t + 1) (t + 1 + n)) cs) n (
    ⊎_elim
    (λ (lt : due_of x < t + 1 + n).
    (let one = before_yes (t + 1 + n) x lt in
    let less = k (due_before (t + 1 + n)) in
    let was = each (n + 1) t cs xs v in
    let same : t + (n + 1) ≡ t + 1 + n = omega arith in
    let then = subst (λ u. sum_by (due_before u) xs + sum_by (coming t u) cs ≤ n + 1) same was in
    let rest = all_later cs spaced t (t + 1) (t + 1 + n) (omega arith) in
    omega arith))
    (λ (ge : t + 1 + n ≤ due_of x).
    (let none = sum_zero (due_before (t + 1 + n)) xs x (λ i l. before_no (t + 1 + n) (slice_index_or xs i x) (let q = not_earlier x (slice_index_or xs i x) (foremost_least earlier earlier_asym earlier_weak xs x e i x l) in omega arith)) in
    let less = k (due_before (t + 1 + n)) in
    let rest = all_coming cs spaced (t + 1) n in
    let test = v.tested n in
    omega arith))
    (cases_lt (due_of x) (t + 1 + n)))

-- a contract withdrawn
pub withdrawn : KeptWithdrawn due_in (λ n. n) timely_in
withdrawn n t p cs xs pin none v = le-leb (sum_by (due_before (t + n)) xs + sum_by (coming t (t + n)) (slice_set cs p None)) n (
    let g = sum_by-set (coming t (t + n)) cs p None None pin in let h = each n t cs xs v in omega arith)

-- a cell put
pub put : KeptPut due_in (λ n. n) timely_in
put n t p cs xs c x spaced k v = le-leb (sum_by (due_before (t + n)) (xs ++ x ∷ []) + sum_by (coming t (t + n)) (slice_set cs p (Some (stamped c t)))) n (
    let push = sum_by_push (due_before (t + n)) xs x in
    let write = sum_by-set (coming t (t + n)) cs p (Some (stamped c t)) None k.inside in
    let was = ap (coming t (t + n)) k.granted in
    let eb = k.bound in
    let el = k.eligible in
    let pos = x.bounded in
    let one = coming_put c t (t + n) x k.spacing (next_now c t k.consent) (omega arith) (omega arith) in
    let h = each n t cs xs v in
    omega arith)

-- none is due before the slot
pub prompt : Prompt due_in (λ n. n) timely_in
prompt t cs xs v =
    let h = each 0 t cs xs v in
    let e : sum_by (due_before (t + 0)) xs ≡ sum_by (due_before t) xs = ap (λ u. sum_by (due_before u) xs) (let z : t + 0 ≡ t = omega arith in z) in
    omega arith
