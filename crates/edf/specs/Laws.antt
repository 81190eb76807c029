-- What holds of an EDF scheduler: the cell that it serves, and its test of one contract alone.
use Rattle.std.specs.Prelude.{◌≡◌, ℕ, ◌+◌, ◌<◌, ◌≤◌, Bool, true, false, ltb, List, length, get_or, Some, None, Option, nat_le, slice_index_or, slice_set, refl}
use Rattle.std.proofs.Common.{sym, ap, subst, ◌∙◌, arith}
use Rattle.std.proofs.lemmas.Bool.{le-leb, le-ltb}
use Rattle.std.proofs.lemmas.Bool.Decides.{nat_tests}
use Rattle.cells.specs.declared.faults.Cause.{Cause}
use Rattle.cells.specs.declared.faults.Cause.TheVariants.{TableExceeded, DemandExceeded}
use Rattle.order.specs.First.{foremost}
use Rattle.order.proofs.Foremost.{foremost_at}
use Rattle.scheduler.specs.declared.terms.Contract.{Contract}
use Rattle.scheduler.specs.Laws.{Own}
use Rattle.scheduler.specs.Meaning.{due, agreed, refused_if}
use Rattle.scheduler.specs.Tables.{bound_or}
use Rattle.scheduler.proofs.Holds.{below_false}
use Rattle.backlog.specs.declared.held.Held.{Held}
use Rattle.backlog.specs.Cells.{due_of, held_in}
use Rattle.demand.specs.Cells.{meaning_of, cell_of}
use Rattle.demand.specs.Totals.{total_of, places, exceeds_table}
use Rattle.demand.proofs.Counts.{ceil_self, jobs_self}
use Rattle.demand.proofs.Keeps.{held_place, bound_at}
use Rattle.demand.proofs.Firsts.{foremost_none, foremost_least}
use Rattle.demand.proofs.Tables.{total_alone}
use Rattle.ordered.specs.Laws.{Alone, Served}
use Rattle.edf.specs.Admission.{put_in, due_in, work_in, demand_in, busy_period, over_demand, busy_verdict, test_of}
use Rattle.edf.specs.Coming.{earlier}
use Rattle.edf.specs.Served.{Earliest}
use Rattle.edf.specs.Busy.{period_one}
use Rattle.edf.specs.Keeps.{earlier_asym, earlier_weak}

not_earlier : (x y : Held) → earlier y x ≡ false → (due_of x ≤ due_of y) × (due_of x ≡ due_of y → x.cell.party ≤ y.cell.party)
not_earlier x y h = (grind (arith, nat_tests), λ e. grind (arith, nat_tests))

-- none is due before the one chosen
pub first : Served earlier Earliest
first t cs xs v = way (foremost earlier xs) refl
  where
    way : (o : Option Held) → foremost earlier xs ≡ o → Earliest (meaning_of t cs xs) (cell_of o)
    way None k = λ p e. ap (λ ys. held_in ys p e) (foremost_none earlier xs k)
    way (Some y) k = λ p e l c d h kc kd.
        let i = held_place xs p e l y h in
        let z = get_or xs i.0 y in
        let ahead = not_earlier y z (foremost_least earlier earlier_asym earlier_weak xs y k i.0 y i.1) in
        let under : z.bound.0 ≡ c.bound.0 = bound_at cs xs i.0 y v i.1 ∙ ap (λ q. bound_or (slice_index_or cs q None)) i.2 ∙ ap bound_or kc in
        let j = foremost_at earlier xs y y k in
        let own : y.bound.0 ≡ d.bound.0 = subst (λ w. w.bound.0 ≡ bound_or (slice_index_or cs w.cell.party None)) j.2 (bound_at cs xs j.0 y v j.1) ∙ ap bound_or kd in
        let late : due_of z ≡ due e c.bound.0 = ap (λ n. due n z.bound.0) i.3 ∙ ap (due e) under in
        let mine : due_of y ≡ due y.cell.eligible.0 d.bound.0 = ap (due y.cell.eligible.0) own in
        let le = ahead.0 in
        (omega arith, λ q. (let same : due_of y ≡ due_of z = mine ∙ q ∙ sym late in let r = ahead.1 same in let w = i.2 in omega arith))

-- one contract alone is granted, in a table of any length
pub granted_alone : (cs : List (Option Contract)) → ((q : ℕ) → slice_index_or cs q None ≡ None) → (p s d : ℕ) → p < length cs → 1 ≤ s → 1 ≤ d → d ≤ 128 → test_of (slice_set cs p (Some (agreed s d))) ≡ None
granted_alone cs none p s d within hs hd le =
    let table : List (Option Contract) = slice_set cs p (Some (agreed s d)) in
    let fit : exceeds_table table ≡ false = le-ltb 128 (total_of places table) (let a = total_alone places cs p s d none within in let k = ceil_self d s hs in omega arith) in
    let work : nat_le (work_in table 1) 1 ≡ true = le-leb (work_in table 1) 1 (let a = total_alone (put_in 1) cs p s d none within in let k = ceil_self 1 s hs in omega arith) in
    let period : busy_period table ≡ Some 1 = period_one table work in
    let late : over_demand table 1 ≡ false =
    below_false 1 (λ k. ltb (k + 1) (demand_in table (k + 1)))
    (λ k l. le-ltb (k + 1) (demand_in table (k + 1)) (let a = total_alone (due_in (k + 1)) cs p s d none within in let j = jobs_self d s (k + 1) hs hd in omega arith)) in
    ap (λ b. refused_if b TableExceeded (busy_verdict table (busy_period table))) fit ∙ ap (busy_verdict table) period ∙ ap (λ b. refused_if b DemandExceeded None) late

pub alone : Alone test_of
alone cs p s d whole none low hs hd le = granted_alone cs none p s d (omega arith) hs hd le

-- its own causes
pub own : (cs : List (Option Contract)) → Own (test_of cs)
own cs = table (exceeds_table cs) (busy_verdict cs (busy_period cs)) (busy (busy_period cs))
  where
    table : (b : Bool) (v : Option Cause) → Own v → Own (refused_if b TableExceeded v)
    table true v h = (omega arith, omega arith)
    table false v h = h

    over : (b : Bool) → Own (refused_if b DemandExceeded None)
    over true = (omega arith, omega arith)
    over false = tt

    busy : (o : Option ℕ) → Own (busy_verdict cs o)
    busy None = (omega arith, omega arith)
    busy (Some p) = over (over_demand cs p)
