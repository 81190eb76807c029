-- What is answered under a verdict, and an end by its parts.
use Rattle.std.proofs.Common.{◌≡◌, ℕ, zero, suc, ◌+◌, ◌<◌, ◌≤◌, Bool, true, false, cond, eqb, ltb, List, [], get_or, set, replicate, is_some, Some, None, Ok, Err, Option, sym, refl, ap, ◌∙◌, subst, arith}
use mathlib.Core.Path.{fun_ext}
use Rattle.std.proofs.lemmas.Bool.{cond-true, cond-false, le-ltb}
use Rattle.std.proofs.Math.Logic.{∥∥₁_map}
use Rattle.std.specs.Option.{ok_or}
use Rattle.calendar.specs.declared.grid.Calendar.{Calendar}
use Rattle.calendar.specs.Days.{now_of, waiting_of}
use Rattle.calendar.specs.Rows.{room}
use Rattle.calendar.proofs.Windows.{room_from}
use Rattle.cells.specs.declared.faults.Cause.TheVariants.{PartyOutOfRange, PartyHasContract, SpacingOutOfRange, CellsPresent}
use Rattle.cells.specs.declared.faults.Fault.{Fault}
use Rattle.cells.specs.declared.times.Slot.{Slot}
use Rattle.cells.specs.declared.times.Span.{Span}
use Rattle.header.specs.declared.Header.{Header}
use Rattle.scheduler.specs.Meaning.{last_slot, updated, outside}
use Rattle.scheduler.proofs.Updates.{table-set}
use Rattle.paths.specs.declared.trail.Trail.{Trail}
use Rattle.paths.specs.Route.{Route, Terms, fresh, entered, ticked}
use Rattle.paths.specs.Trails.{arrival_by}
use Rattle.paths.specs.Verdicts.{fault, answered, refused_if, refused_at, holds_of, holds_any, bad_hop, common_rule, admitted, grant_rule, grant_verdict, granted, withdraw_rule, withdrawn, out_of_window, arrival_rule}
use Rattle.paths.proofs.Kept.{consents, in_window, party_good}
use Rattle.paths.proofs.Opened.{lawful_opened, newest_opened}
use Rattle.paths.proofs.Present.{none_some}
use Rattle.ends.specs.declared.end.End.{End}
use Rattle.ends.specs.declared.trails.Trails.{Trails}
use Rattle.ends.specs.Ends.{number_in, trail_of, terms_of, terms_in, still_any, Noted, route_of, Tracked}
use Rattle.ends.specs.Meant.{end_route}
use Rattle.ends.proofs.Steps.{Later, tracked_fresh, any_is, arrival_at, arrival_is, route_granted, tracked_granted, route_withdrawn, tracked_withdrawn, route_entered, tracked_entered, route_ticked, tracked_ticked}

-- consent
pub answered_ok : (v : Option Fault) → Ok tt ≡ answered v → v ≡ None
answered_ok None e = refl
answered_ok (Some f) e = absurd (let z : ◌≡◌ {A = ℕ} 0 1 = cc in omega arith)

-- a refusal
pub answered_err : (v : Option Fault) (f : Fault) → Err f ≡ answered v → v ≡ Some f
answered_err None f e = absurd (let z : ◌≡◌ {A = ℕ} 0 1 = cc in omega arith)
answered_err (Some g) f e = let s : g ≡ f = cc in ap Some s

-- who is not refused for want of a contract has a trail, and who is refused has none
pub trail_ok : (o : Option Trail) (f : Fault) (y : Trail) → Ok y ≡ ok_or o f → o ≡ Some y
trail_ok None f y e = absurd (let z : ◌≡◌ {A = ℕ} 0 1 = cc in omega arith)
trail_ok (Some x) f y e = let s : y ≡ x = cc in ap Some (sym s)

pub trail_err : (o : Option Trail) (f g : Fault) → Err g ≡ ok_or o f → (o ≡ None) × (g ≡ f)
trail_err None f g e = (refl, cc)
trail_err (Some x) f g e = absurd (let z : ◌≡◌ {A = ℕ} 0 1 = cc in omega arith)

-- the first verdict where it refuses, else the second
abbrev pub or_else : Option Fault → Option Fault → Option Fault
or_else (Some f) v = Some f
or_else None v = v

-- what follows the checks that come first
pub common_is : (known : Bool) (bad : Option ℕ) (busy : Bool) (p s : ℕ) (v : Option Fault) → common_rule known bad busy p s v ≡ or_else (common_rule known bad busy p s None) v
common_is known bad busy p s v =
    let last : refused_if busy (fault CellsPresent p 255) v ≡ or_else (refused_if busy (fault CellsPresent p 255) None) v = test busy (fault CellsPresent p 255) None v v refl in
    let hops = hop bad _ _ v last in
    let spaces = test (outside 1 1024 s) (fault SpacingOutOfRange p 255) _ _ v hops in
    let knows = test known (fault PartyHasContract p 255) _ _ v spaces in
    test (ltb 15 p) (fault PartyOutOfRange p 255) _ _ v knows
  where
    test : (b : Bool) (f : Fault) (u w x : Option Fault) → w ≡ or_else u x → refused_if b f w ≡ or_else (refused_if b f u) x
    test true f u w x e = refl
    test false f u w x e = e

    hop : (o : Option ℕ) (u w x : Option Fault) → w ≡ or_else u x → refused_at o p w ≡ or_else (refused_at o p u) x
    hop None u w x e = e
    hop (Some k) u w x e = refl

-- who has a trail has a contract
pub contracted : (o : Option Trail) → is_some o ≡ is_some (terms_in o)
contracted None = refl
contracted (Some y) = refl

-- what every end has
pub tracked_of : (x : End) → Tracked (end_route x) (trail_of x.trails)
tracked_of x = record {
  lawful = lawful_opened (end_route x) (∥∥₁_map x.tracked (λ t. t.lawful));
  newest = λ p y e. newest_opened (end_route x) (terms_of y) p 0 y.latest (∥∥₁_map x.tracked (λ t. t.newest p y e));
}

-- the rule of a grant, by what was looked up
pub rule_by : (x : End) (p s lead : ℕ) (bs : List Span) (known : Bool) (bad : Option ℕ) (busy : Bool) → known ≡ is_some (trail_of x.trails p) → bad ≡ bad_hop x.first [] bs lead → busy ≡ still_any (trail_of x.trails) (now_of x.waiting) → common_rule known bad busy p s None ≡ grant_rule (end_route x) p s bs lead None
rule_by x p s lead bs known bad busy a b c =
    let knows = a ∙ contracted (trail_of x.trails p) in
    let holds = c ∙ sym (any_is (now_of x.waiting) x.first (trail_of x.trails) (waiting_of x.waiting) (tracked_of x)) in
    λ i. common_rule (knows i) (b i) (holds i) p s None

-- its verdict: the rule, and then the room
pub verdict_by : (x : End) (p s lead : ℕ) (bs : List Span) → grant_verdict (end_route x) [] p s bs lead ≡ or_else (grant_rule (end_route x) p s bs lead None) (admitted x.first [] [] (end_route x).contracts p s bs lead)
verdict_by x p s lead bs = common_is (is_some ((end_route x).contracts p)) (bad_hop x.first [] bs lead) (holds_any (end_route x)) p s (admitted x.first [] [] (end_route x).contracts p s bs lead)

-- a contract that is taken back was there, and no cell of its party is
pub withdrawal : (o : Option Terms) (b : Bool) (p : ℕ) → withdraw_rule o b p ≡ None → b ≡ false
withdrawal None b p e = absurd (none_some e refl)
withdrawal (Some t) true p e = absurd (none_some e refl)
withdrawal (Some t) false p e = refl

-- one trail that is written
pub trails_set : (t u : Trails) (p : ℕ) (o : Option Trail) → p < 16 → u.parties.entries ≡ set t.parties.entries p o → trail_of u ≡ updated (trail_of t) p o
trails_set t u p o h e = ap (λ xs q. get_or xs q None) e ∙ table-set (λ o. o) t.parties.entries p o None (omega (arith, t.parties.whole))

-- what parts mean, and that they can be those of an end
pub record Becomes (z : Route) (us : ℕ → Option Trail) (r : Route) : Type 0 where
  pub route : z ≡ r
  pub tracked : ∥ Tracked z us ∥₁

pub becomes : {z r : Route} {us ts : ℕ → Option Trail} → z ≡ r → us ≡ ts → Tracked r ts → Becomes z us r
becomes {z} {r} {us} {ts} a b t = record { route = a; tracked = ∣ subst (Tracked z) (sym b) (subst (λ z. Tracked z ts) (sym a) t) ∣₁ }

-- nothing stands in an empty table
pub blank : {X : Type 0} (n p : ℕ) → ◌≡◌ {A = Option X} (get_or (replicate n None) p None) None
blank zero p = refl
blank (suc n) zero = refl
blank (suc n) (suc p) = blank n p

-- an end that was just made
pub end_fresh : (k : ℕ) (q : Calendar) (u : Trails) → k ≤ 8 → now_of q ≡ 0 → waiting_of q ≡ (λ p e. None) → u.parties.entries ≡ replicate 16 None
    → Becomes (route_of (now_of q) k (trail_of u) (waiting_of q)) (trail_of u) (fresh k [])
end_fresh k q u few slot waits none =
    let trails : trail_of u ≡ (λ p. None) = fun_ext (λ p. ap (λ (xs : List (Option Trail)). get_or xs p None) none ∙ blank 16 p) in
    becomes (λ i. route_of (slot i) k (trails i) (waits i)) trails (tracked_fresh k few)

-- an end with another contract
pub end_granted : (x : End) (p s lead : ℕ) (bs : List Span) (y : Trail) (u : Trails) → u.parties.entries ≡ set x.trails.parties.entries p (Some y)
    → y.spacing.0 ≡ s → y.lead.0 ≡ lead → y.latest ≡ None → y.last ≡ None → grant_rule (end_route x) p s bs lead None ≡ None
    → Becomes (route_of (now_of x.waiting) x.first (trail_of u) (waiting_of x.waiting)) (trail_of u) (granted (end_route x) p s bs lead)
end_granted x p s lead bs y u written spaces leads latest last rule =
    let n = now_of x.waiting in
    let ts = trail_of x.trails in
    let w = waiting_of x.waiting in
    let trails = trails_set x.trails u p (Some y) (omega (arith, party_good (end_route x) p s bs lead rule)) written in
    becomes (ap (λ us. route_of n x.first us w) trails ∙ route_granted n x.first ts w (tracked_of x) p s lead bs y spaces leads latest last) trails
    (tracked_granted n x.first ts w (tracked_of x) p s lead bs y spaces leads latest last rule)

-- with one less
pub end_withdrawn : (x : End) (p : ℕ) (u : Trails) → p < 16 → u.parties.entries ≡ set x.trails.parties.entries p None → holds_of (end_route x) p ≡ false
    → Becomes (route_of (now_of x.waiting) x.first (trail_of u) (waiting_of x.waiting)) (trail_of u) (withdrawn (end_route x) p)
end_withdrawn x p u low written none =
    let n = now_of x.waiting in
    let ts = trail_of x.trails in
    let w = waiting_of x.waiting in
    let trails = trails_set x.trails u p None low written in
    becomes (ap (λ us. route_of n x.first us w) trails ∙ route_withdrawn n x.first ts w (tracked_of x) p) trails (tracked_withdrawn n x.first ts w (tracked_of x) p none)

-- an arrival that is not refused, and an end with its cell
pub record Arrived (x : End) (p e l : ℕ) (q : Calendar) (u : Trails) : Type 0 where
  pub rule : arrival_rule (end_route x) ((end_route x).contracts p) p e ≡ None
  pub after : Becomes (route_of (now_of q) x.first (trail_of u) (waiting_of q)) (trail_of u) (entered (end_route x) p e l)

pub end_arrived : (x : End) (p e l : ℕ) (y z : Trail) (d : Slot) (q : Calendar) (u : Trails) → p < 16 → d.0 ≡ e
    → trail_of x.trails p ≡ Some y → arrival_by y (waiting_of x.waiting p) (now_of x.waiting) p e ≡ None
    → z.spacing ≡ y.spacing → z.lead ≡ y.lead → z.last ≡ y.last → Later y.latest d z.latest → now_of q ≡ now_of x.waiting
    → waiting_of q ≡ cond (room (now_of x.waiting) p d.0) (updated (waiting_of x.waiting) p (updated (waiting_of x.waiting p) d.0 (Some l))) (waiting_of x.waiting)
    → u.parties.entries ≡ set x.trails.parties.entries p (Some z) → Arrived x p e l q u
end_arrived x p e l y z d q u low at has clear spacing lead last latest slot cells written =
    let r = end_route x in
    let n = now_of x.waiting in
    let ts = trail_of x.trails in
    let w = waiting_of x.waiting in
    let t = tracked_of x in
    let soon = y.soon in
    let window = in_window n y.lead.0 e (consents (out_of_window n y.lead.0 e) _ _ clear).0 in
    let rule : arrival_rule r (r.contracts p) p e ≡ None = sym (arrival_is n x.first ts w t p e) ∙ ap (λ o. arrival_at o (w p) n p e) has ∙ clear in
    let same : terms_of z ≡ terms_of y = λ i. record { spacing = (spacing i).0; bounds = (terms_of y).bounds; lead = (lead i).0; last = number_in (last i) } in
    let has_room : room n p d.0 ≡ true = room_from n p d.0 (omega arith) (omega (arith, at, window.0)) (omega (arith, at, window.1)) in
    let waits : waiting_of q ≡ updated w p (updated (w p) e (Some l)) = cells ∙ cond-true (room n p d.0) _ _ has_room ∙ ap (λ (k : ℕ). updated w p (updated (w p) k (Some l))) at in
    let trails = trails_set x.trails u p (Some z) low written in
    record {
      rule = rule;
      after = becomes ((λ i. route_of (slot i) x.first (trails i) (waits i)) ∙ route_entered n x.first ts w t p e l y z has same) trails
          (tracked_entered n x.first ts w t p e l y z has same (ap (λ o. arrival_rule r (terms_in o) p e) (sym has) ∙ rule) d at latest);
    }

-- one slot on
pub end_ticked : (x : End) (q : Calendar) (u : Trails) (ss : List (Option Header)) → now_of x.waiting ≤ last_slot
    → now_of q ≡ cond (ltb last_slot (now_of x.waiting)) (now_of x.waiting) (now_of x.waiting + 1)
    → waiting_of q ≡ (λ p e. cond (eqb e (now_of x.waiting)) None (waiting_of x.waiting p e))
    → ((p : ℕ) → Noted (trail_of x.trails p) (waiting_of x.waiting p (now_of x.waiting)) (now_of x.waiting) (trail_of u p))
    → Becomes (route_of (now_of q) x.first (trail_of u) (waiting_of q)) (trail_of u) (ticked (end_route x) ss)
end_ticked x q u ss low slot cells notes =
    let n = now_of x.waiting in
    let ts = trail_of x.trails in
    let w = waiting_of x.waiting in
    let next : now_of q ≡ n + 1 = slot ∙ cond-false (ltb last_slot n) n (n + 1) (le-ltb last_slot n low) in
    becomes ((λ i. route_of (next i) x.first (trail_of u) (cells i)) ∙ route_ticked n x.first ts w (tracked_of x) ss (trail_of u) notes) refl (tracked_ticked n x.first ts w (tracked_of x) ss (trail_of u) notes low)
