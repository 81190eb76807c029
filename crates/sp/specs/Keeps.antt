-- What SP keeps of each level, by each call, and what follows.
use Rattle.std.specs.Prelude.{◌≡◌, ℕ, ◌^◌, ◌<◌, ◌≤◌, Bool, true, false, List, [], ◌∷◌, ◌++◌, length, get_or, Some, None, Option, nat_le, slice_index_or, slice_set, refl}
use Rattle.std.proofs.Common.{sym, ap, ◌∙◌, arith, length-set}
use Rattle.std.proofs.lemmas.List.Sums.{sum_by_push, get_or-le-sum_by}
use Rattle.std.proofs.lemmas.Bool.{le-ltb, cond_both}
use Rattle.order.specs.First.{foremost}
use Rattle.cells.specs.declared.faults.Cause.{Cause}
use Rattle.cells.specs.declared.faults.Cause.TheVariants.{TableExceeded, LevelExceeded}
use Rattle.scheduler.specs.declared.terms.Contract.{Contract}
use Rattle.scheduler.specs.Laws.{Own}
use Rattle.scheduler.specs.Meaning.{Meaning, refused_if, agreed, updated}
use Rattle.scheduler.specs.Tables.{contracts_of}
use Rattle.scheduler.proofs.Updates.{contracts_set}
use Rattle.backlog.specs.declared.held.Held.{Held}
use Rattle.demand.specs.Cells.{due_before}
use Rattle.demand.specs.Totals.{total_of, places, exceeds_table}
use Rattle.demand.specs.Counts.{ceil}
use Rattle.demand.proofs.Counts.{ceil_self}
use Rattle.demand.proofs.Cells.{before_no}
use Rattle.demand.proofs.Spacing.{next_now}
use Rattle.demand.proofs.Sums.{sum_zero}
use Rattle.demand.proofs.Tables.{total_alone}
use Rattle.demand.proofs.Consent.{consent_parts, consent_table}
use Rattle.ordered.specs.States.{judged_by}
use Rattle.ordered.specs.Keeps.{judged_of}
use Rattle.ordered.specs.Laws.{Tests, Alone, KeptIdle, KeptServed, KeptWithdrawn, KeptPut, Prompt, Served}
use Rattle.sp.specs.Levels.{level, level_of, share, shares, levels_exceeded, sp_verdict, precedes}
use Rattle.sp.specs.Ends.{has_end}
use Rattle.sp.specs.Served.{GoesFirst}
use Rattle.sp.specs.Powers.{level_le}
use Rattle.sp.specs.Tested.{all_levels, none_exceeded}
use Rattle.sp.specs.Firsts.{goes_first}
use Rattle.sp.specs.Suffice.{starts, serves, puts, withdraws, in_time}

-- the cells that contracts may put in a level's span, and its slots
abbrev asked : ℕ → ℕ → ℕ → ℕ
asked l = share l (2 ^ l)

abbrev slots : ℕ → ℕ
slots l = 2 ^ l

abbrev keeps : ℕ → ℕ → List (Option Contract) → List Held → Bool
keeps l t cs xs = has_end l cs xs t

-- no cell is held
pub idle : KeptIdle asked slots keeps
idle l t cs spaced tested = starts l cs [] t spaced refl

-- a slot ends, in which the first in the order is served
pub served : KeptServed asked slots keeps precedes
served l t cs xs ys x spaced first taken v = serves l cs xs ys x t spaced first taken (v.kept l)

-- a cell is put
pub put : KeptPut asked slots keeps
put l t p cs xs c x spaced k v = puts l cs xs (xs ++ x ∷ []) x t p c spaced (v.tested l) k.inside k.granted (next_now c t k.consent) (λ f. sum_by_push f xs x) k.bound k.eligible (v.kept l)

-- a contract is withdrawn
pub withdrawn : KeptWithdrawn asked slots keeps
withdrawn l t p cs xs within none v = withdraws l cs xs t p within (v.kept l)

-- no held cell is due before the slot
pub prompt : Prompt asked slots keeps
prompt t cs [] v = refl
prompt t cs (y ∷ ys) v = sum_zero (due_before t) (y ∷ ys) y (λ i h. one i h)
  where
    one : (i : ℕ) → i < length (y ∷ ys) → due_before t (slice_index_or (y ∷ ys) i y) ≡ 0
    one i h =
        let x = get_or (y ∷ ys) i y in
        let soon = in_time cs (y ∷ ys) t x (λ f. get_or-le-sum_by f (y ∷ ys) i y h) (v.kept (level_of x)) in
        let low = level_le x.bound.0 x.bounded in
        before_no t x (omega arith)

-- the cell that is served goes first
pub first : Served precedes GoesFirst
first t cs xs v = goes_first t cs xs (foremost precedes xs) v refl

-- what the test gives of contracts that it admits
pub tests : Tests sp_verdict asked slots
tests cs spaced bounded e =
    let table = consent_table cs (refused_if (levels_exceeded cs) LevelExceeded None) e in
    let levels = consent_parts (levels_exceeded cs) LevelExceeded None table.1 in
    (table.0, all_levels cs spaced levels.0)

-- a contract that stands alone is admitted, of whatever bound
stands_alone : (cs : List (Option Contract)) (p s d : ℕ) → ((q : ℕ) → slice_index_or cs q None ≡ None) → p < length cs → 1 ≤ s → d ≤ 128 → sp_verdict (slice_set cs p (Some (agreed s d))) ≡ None
stands_alone cs p s d none within h most =
    let new = slice_set cs p (Some (agreed s d)) in
    let few = total_alone places cs p s d none within in
    let self = ceil_self d s h in
    let table : exceeds_table new ≡ false = le-ltb 128 (total_of places new) (omega arith) in
    let levels : levels_exceeded new ≡ false = none_exceeded new one in
    ap (λ b. refused_if b TableExceeded (refused_if (levels_exceeded new) LevelExceeded None)) table ∙ ap (λ b. refused_if b LevelExceeded None) levels
  where
    one : (l : ℕ) → shares (slice_set cs p (Some (agreed s d))) l ≤ 2 ^ l
    one l =
        let is = total_alone (share l (2 ^ l)) cs p s d none within in
        let self = ceil_self (2 ^ l) s h in
        let own : share l (2 ^ l) s d ≤ 2 ^ l = cond_both (nat_le (level d) l) (ceil (2 ^ l) s) 0 (λ n. n ≤ 2 ^ l) (λ _. self) (λ _. omega arith) in
        omega arith

pub alone : Alone sp_verdict
alone cs p s d whole none low h pos most = stands_alone cs p s d none (omega arith) h most

-- and so by its test of any meaning with these contracts
pub admitted : (m : Meaning) (cs : List (Option Contract)) (p s d : ℕ) → m.contracts ≡ contracts_of cs → ((q : ℕ) → slice_index_or cs q None ≡ None) → length cs ≡ 16 → p ≤ 15 → 1 ≤ s → d ≤ 128 → judged_by sp_verdict m p s d ≡ None
admitted m cs p s d is none whole low h most =
    let new : Option Contract = Some (agreed s d) in
    let within : p < length cs = omega arith in
    judged_of sp_verdict m (slice_set cs p new) p s d (length-set cs p new ∙ whole) (contracts_set cs p new within ∙ ap (λ f. updated f p new) (sym is)) ∙ stands_alone cs p s d none within h most

-- its own causes
pub own : (cs : List (Option Contract)) → Own (sp_verdict cs)
own cs = table (exceeds_table cs) (refused_if (levels_exceeded cs) LevelExceeded None) (levels (levels_exceeded cs))
  where
    table : (b : Bool) (v : Option Cause) → Own v → Own (refused_if b TableExceeded v)
    table true v h = (omega arith, omega arith)
    table false v h = h

    levels : (b : Bool) → Own (refused_if b LevelExceeded None)
    levels true = (omega arith, omega arith)
    levels false = tt
