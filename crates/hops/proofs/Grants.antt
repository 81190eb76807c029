-- A grant at a hop: what was checked here holds behind and of the scheduler.
use Rattle.std.proofs.Common.{◌≡◌, ℕ, suc, ◌+◌, ◌*◌, ◌≤◌, Bool, true, false, cond, eqb, ltb, List, [], ◌∷◌, length, get_or, is_some, Some, None, Ok, Err, Option, Result, sym, refl, ap, ◌∙◌, subst, arith}
use mathlib.Core.Path.{fun_ext}
use Rattle.std.proofs.lemmas.Bool.{both_ways, cond-false, le-ltb, ltb-false, ne_eqb, eq-eqb, cond-true}
use Rattle.cells.specs.declared.faults.Cause.{Cause}
use Rattle.cells.specs.declared.faults.Cause.TheVariants.{PartyOutOfRange, PartyHasContract, SpacingOutOfRange, BoundOutOfRange, CellsPresent, CalendarExceeded}
use Rattle.cells.specs.declared.faults.Fault.{Fault}
use Rattle.cells.specs.declared.times.Span.{Span}
use Rattle.scheduler.specs.declared.terms.Contract.{Contract}
use Rattle.scheduler.specs.Meaning.{Meaning, outside, updated, told, after, withdraw_verdict}
use Rattle.scheduler.specs.Meaning.{granted as sched-granted, grant_verdict as sched-verdict, refused_if as sched-refused, common_verdict, or_else, holds_any as holds-held, withdrawn as sched-withdrawn}
use Rattle.scheduler.specs.Laws.{Contracted}
use Rattle.scheduler.proofs.Holds.{holds_any_none}
use Rattle.scheduler.proofs.Undone.{undone, undoes}
use Rattle.paths.specs.Route.{Route, Terms, constant, constant_in, cost}
use Rattle.paths.specs.Laws.{Lawful}
use Rattle.paths.specs.Verdicts.{Test, bound, bad_bound, bad_hop, own_number, bounds_from, behind, share, crossing_share, shares, sum_below, fault, refused_if, refused_at, answered, unless, tested, admitted, common_rule, grant_rule, grant_verdict, granted, holds_any}
use Rattle.paths.proofs.Kept.{consents, consents_at, no_first, inside, bounds_good, lawful_granted}
use Rattle.paths.proofs.Present.{any_none, any_false}
use Rattle.hops.specs.declared.crossing.Crossing.{Crossing}
use Rattle.hops.specs.Crossed.{crossing_load}
use Rattle.hops.specs.Joined.{Parts, parts, side, from_here, joined}
use Rattle.hops.specs.Level.{Tied, Level, Sound}
use Rattle.hops.proofs.Seen.{none_some, uncrossed, unbound, seen-own, own_held, unseen_behind}
use Rattle.hops.proofs.Sides.{at_same}
use Rattle.hops.proofs.Levels.{passed_on, granted_behind, level-granted_behind, granted_parts, granted_both, level-granted}

-- no test refused, so what follows decides
pub rule_passes : (known busy : Bool) (bad : Option ℕ) (p s : ℕ) (w : Option Fault) → ltb 15 p ≡ false → known ≡ false → outside 1 1024 s ≡ false → bad ≡ None → busy ≡ false → common_rule known bad busy p s w ≡ w
rule_passes known busy bad p s w a b c d e = λ i.
    refused_if (a i) (fault PartyOutOfRange p 255)
    (refused_if (b i) (fault PartyHasContract p 255)
    (refused_if (c i) (fault SpacingOutOfRange p 255)
    (refused_at (d i) p
    (refused_if (e i) (fault CellsPresent p 255) w))))

-- the same of a scheduler
sched_passes : (o : Option Contract) (busy : Bool) (p s d : ℕ) (w : Option Cause) → ltb 15 p ≡ false → o ≡ None → outside 1 1024 s ≡ false → outside 1 128 d ≡ false → busy ≡ false → or_else (common_verdict o busy p s d) w ≡ w
sched_passes o busy p s d w a b c e f = λ i.
    or_else
    (sched-refused (a i) PartyOutOfRange
    (sched-refused (is_some (b i)) PartyHasContract
    (sched-refused (c i) SpacingOutOfRange
    (sched-refused (e i) BoundOutOfRange
    (sched-refused (f i) CellsPresent None))))) w

refused_first : (b : Bool) (f g : Fault) (v w : Option Fault) → refused_if b f v ≡ Some g → (v ≡ Some g → w ≡ Some g) → refused_if b f w ≡ Some g
refused_first true f g v w e h = e
refused_first false f g v w e h = h e

refused_hop : (o : Option ℕ) (p : ℕ) (g : Fault) (v w : Option Fault) → refused_at o p v ≡ Some g → (v ≡ Some g → w ≡ Some g) → refused_at o p w ≡ Some g
refused_hop None p g v w e h = h e
refused_hop (Some k) p g v w e h = e

-- a test refused, whatever follows
pub rule_refuses : (known busy : Bool) (bad : Option ℕ) (p s : ℕ) (f : Fault) (w : Option Fault) → common_rule known bad busy p s None ≡ Some f → common_rule known bad busy p s w ≡ Some f
rule_refuses known busy bad p s f w e =
    refused_first (ltb 15 p) _ f _ _ e (λ e.
    refused_first known _ f _ _ e (λ e.
    refused_first (outside 1 1024 s) _ f _ _ e (λ e.
    refused_hop bad p f _ _ e (λ e.
    refused_first busy _ f _ _ e (λ e. absurd (none_some refl e))))))

-- none did, whatever follows
pub rule_consents : (known busy : Bool) (bad : Option ℕ) (p s : ℕ) (w : Option Fault) → common_rule known bad busy p s None ≡ None → common_rule known bad busy p s w ≡ w
rule_consents known busy bad p s w e =
    let a = consents (ltb 15 p) _ _ e in
    let b = consents known _ _ a.1 in
    let c = consents (outside 1 1024 s) _ _ b.1 in
    let d = consents_at bad p _ c.1 in
    let f = consents busy _ _ d.1 in
    rule_passes known busy bad p s w a.0 b.0 c.0 d.0 f.0

-- a number in range
not_outside : (lo hi x : ℕ) → lo ≤ x → x ≤ hi → outside lo hi x ≡ false
not_outside lo hi x a b = cond-false (ltb x lo) true (ltb hi x) (le-ltb x lo a) ∙ le-ltb hi x b

-- a contract is seen from here if it is behind, and then has a path constant
pub known_here : (gs : List ℕ) (x : Option Crossing) (o : Option Terms) → is_some (constant_in gs o) ≡ is_some (from_here x o)
known_here gs x None = refl
known_here gs None (Some t) = refl
known_here gs (Some x) (Some t) = refl

no_terms : (x : Option Crossing) (o : Option Terms) → is_some (from_here x o) ≡ false → o ≡ None
no_terms x None e = refl
no_terms None (Some t) e = absurd (both_ways true e refl)
no_terms (Some x) (Some t) e = absurd (both_ways true e refl)

crossed_at : (x : Crossing) → eqb x.bound.0 0 ≡ false
crossed_at x = ne_eqb x.bound.0 0 (λ e. omega (arith, x.bounded))

-- a contract that is seen from here and again from behind is as it was
behind_here : (g : ℕ) (gs : List ℕ) (x : Option Crossing) (c : Option Contract) (t : Option Terms) → Tied g gs x c t → behind g (from_here x t) ≡ t
behind_here g gs x c None h = refl
behind_here g gs None c (Some t) h = refl
behind_here g gs (Some x) None (Some t) h = absurd h
behind_here g gs (Some x) (Some c) (Some t) h =
    ap (λ n. Some (record { spacing = t.spacing; bounds = t.bounds; lead = n; last = t.last }))
    (cond-false (eqb x.bound.0 0) x.trail.lead.0 (x.bound.0 + g) (crossed_at x) ∙ sym h.lead)

-- and counts here if it crosses
share_here : (g : ℕ) (gs : List ℕ) (x : Option Crossing) (c : Option Contract) (t : Option Terms) → Tied g gs x c t → crossing_share (from_here x t) ≡ crossing_load x
share_here g gs None c None h = refl
share_here g gs (Some x) None None h = absurd h
share_here g gs (Some x) (Some c) None h = absurd h
share_here g gs None c (Some t) h = refl
share_here g gs (Some x) None (Some t) h = absurd h
share_here g gs (Some x) (Some c) (Some t) h =
    cond-false (eqb x.bound.0 0) 0 (share x.trail.lead.0 t.spacing) (crossed_at x) ∙ ap (share x.trail.lead.0) h.behind

-- a hop adds at most its bound and its link
cost_most : (g d : ℕ) → g ≤ 63 → d ≤ 128 → cost g d ≤ 191
cost_most g d a b = by (eqb d 0)
  where
    by : (t : Bool) → cond t 0 (d + g) ≤ 191
    by true = omega arith
    by false = omega arith

-- the greatest path constant
pub constant_most : (gs ds : List ℕ) → ((k : ℕ) → get_or gs k 0 ≤ 63) → ((k : ℕ) → get_or ds k 0 ≤ 128) → constant gs ds ≤ 191 * length gs
constant_most [] ds a b = omega arith
constant_most (g ∷ gs) [] a b = omega arith
constant_most (g ∷ gs) (d ∷ ds) a b = omega (arith, cost_most g d (a 0) (b 0), constant_most gs ds (λ k. a (suc k)) (λ k. b (suc k)))

module _ (k : Parts) (v : Level k) where
  -- the contracts behind
  contracts_behind : (λ q. behind k.link ((joined k).contracts q)) ≡ k.behind.contracts
  contracts_behind = fun_ext (λ q. behind_here k.link k.behind.links (k.crossings q) (k.sched.contracts q) (k.behind.contracts q) (v.agrees q).tied)

  -- how many cells can wait here
  loads : shares crossing_share (joined k).contracts ≡ sum_below 16 (λ q. crossing_load (k.crossings q))
  unfolding shares
  loads = ap (sum_below 16) (fun_ext (λ q. share_here k.link k.behind.links (k.crossings q) (k.sched.contracts q) (k.behind.contracts q) (v.agrees q).tied))

  -- what was checked
  pub record Checked (p s : ℕ) (bs : List Span) (lead : ℕ) : Type 0 where
    pub low : ltb 15 p ≡ false
    pub known : is_some ((joined k).contracts p) ≡ false
    pub spacing : outside 1 1024 s ≡ false
    pub lead_in : outside 1 191 lead ≡ false
    pub here : ltb 128 (bound bs k.number) ≡ false
    pub there : bad_bound (suc k.number) k.behind.links bs ≡ None
    pub clear : holds_any (joined k) ≡ false

  module _ (p s : ℕ) (bs : List Span) (lead : ℕ) (rule : grant_rule (joined k) p s bs lead None ≡ None) where
    pub checked : Checked p s bs lead
    checked =
        let a = consents (ltb 15 p) _ _ rule in
        let b = consents (is_some ((joined k).contracts p)) _ _ a.1 in
        let c = consents (outside 1 1024 s) _ _ b.1 in
        let d = consents_at (bad_hop k.number (k.link ∷ k.behind.links) bs lead) p _ c.1 in
        let f = consents (holds_any (joined k)) _ _ d.1 in
        let g = no_first (outside 1 191 lead) k.number (bad_bound k.number (k.link ∷ k.behind.links) bs) d.0 in
        let h = no_first (ltb 128 (bound bs k.number)) k.number (bad_bound (suc k.number) k.behind.links bs) g.1 in
        record { low = a.0; known = b.0; spacing = c.0; lead_in = g.0; here = h.0; there = h.1; clear = f.0 }

    pub bound_most : bound bs k.number ≤ 128
    bound_most = ltb-false 128 (bound bs k.number) checked.here

    no_cells : (q w : ℕ) → (joined k).cells q w ≡ None
    no_cells = any_none (joined k) v.lawful checked.clear

    pub none_behind : (q w : ℕ) → k.behind.cells q w ≡ None
    none_behind q w = unseen_behind (side k q) w (no_cells q w)

    pub no_contract : k.behind.contracts p ≡ None
    no_contract = no_terms (k.crossings p) (k.behind.contracts p) checked.known

    pub no_crossing : k.crossings p ≡ None
    no_crossing = unbound k.link k.behind.links (k.crossings p) (k.sched.contracts p) (k.behind.contracts p) (v.agrees p).tied no_contract

    pub no_scheduled : k.sched.contracts p ≡ None
    no_scheduled = uncrossed k.link k.behind.links (k.crossings p) (k.sched.contracts p) (k.behind.contracts p) (v.agrees p).tied no_crossing

    bad_behind : bad_bound k.behind.first k.behind.links bs ≡ None
    bad_behind = ap (λ n. bad_bound n k.behind.links bs) v.numbers ∙ checked.there

    -- the path behind refuses none of it
    rule_behind : (l : ℕ) → 1 ≤ l → l ≤ 191 → (w : Option Fault) → grant_rule k.behind p s bs l w ≡ w
    rule_behind l a b w =
        rule_passes (is_some (k.behind.contracts p)) (holds_any k.behind) (bad_hop k.behind.first k.behind.links bs l) p s w
        checked.low (ap is_some no_contract) checked.spacing
        (cond-false (outside 1 191 l) (Some (own_number k.behind.first k.behind.links)) (bad_bound k.behind.first k.behind.links bs) (not_outside 1 191 l a b) ∙ bad_behind)
        (any_false k.behind none_behind)

    -- so its answer is whether there is room
    verdict_behind : (ts : List Test) (l : ℕ) → 1 ≤ l → l ≤ 191 → admitted (suc k.number) k.behind.links ts (λ q. behind k.link ((joined k).contracts q)) p s bs l ≡ grant_verdict k.behind ts p s bs l
    verdict_behind ts l a b =
        (λ i. admitted (sym v.numbers i) k.behind.links ts (contracts_behind i) p s bs l)
        ∙ sym (rule_behind l a b (admitted k.behind.first k.behind.links ts k.behind.contracts p s bs l))

    -- a hop that is not crossed asks only behind
    pub verdict_uncrossed : (t : Test) (ts : List Test) → bound bs k.number ≡ 0 → admitted k.number (k.link ∷ k.behind.links) (t ∷ ts) (joined k).contracts p s bs lead ≡ grant_verdict k.behind ts p s bs lead
    verdict_uncrossed t ts z =
        let r = inside 1 191 lead checked.lead_in in
        cond-true (eqb (bound bs k.number) 0) _ _ (eq-eqb (bound bs k.number) 0 z) ∙ verdict_behind ts lead r.0 r.1

    -- one that is crossed asks the calendar, the scheduler, and then behind
    pub verdict_crossed : (t : Test) (ts : List Test) (d : ℕ) → d ≡ bound bs k.number → 1 ≤ d
        → admitted k.number (k.link ∷ k.behind.links) (t ∷ ts) (joined k).contracts p s bs lead
        ≡ refused_if (ltb 192 (sum_below 16 (λ q. crossing_load (k.crossings q)) + share lead s)) (fault CalendarExceeded p k.number) (tested (t p s d) p k.number (grant_verdict k.behind ts p s bs (d + k.link)))
    verdict_crossed t ts d e one =
        cond-false (eqb (bound bs k.number) 0) _ _ (ne_eqb (bound bs k.number) 0 (λ z. omega arith))
        ∙ (λ i. refused_if (ltb 192 (loads i + share lead s)) (fault CalendarExceeded p k.number) (tested (t p s (sym e i)) p k.number (admitted (suc k.number) k.behind.links (ts) (λ q. behind k.link ((joined k).contracts q)) p s bs (sym e i + k.link))))
        ∙ ap (λ w. refused_if (ltb 192 (sum_below 16 (λ q. crossing_load (k.crossings q)) + share lead s)) (fault CalendarExceeded p k.number) (tested (t p s d) p k.number w)) (verdict_behind ts (d + k.link) (omega arith) (omega (arith, bound_most, v.link)))

    -- the path constant behind a new contract
    pub rest_most : constant k.behind.links (bounds_from k.behind.first k.behind.links bs) ≤ 1337
    rest_most = omega (arith, v.lawful.hops, constant_most k.behind.links (bounds_from k.behind.first k.behind.links bs) (λ n. v.lawful.links (suc n)) (bounds_good k.behind.first k.behind.links bs bad_behind))

    module _ (c : Contracted k.sched) where
      -- the scheduler holds none
      pub none_held : (q e : ℕ) → k.sched.held q e ≡ None
      none_held q e = by_cell (k.sched.held q e) refl
        where
          by_crossing : (l : ℕ) (o : Option Crossing) → k.crossings q ≡ o → k.sched.held q e ≡ Some l → ⊥
          by_crossing l None x h = none_some (c.cells q e (uncrossed k.link k.behind.links (k.crossings q) (k.sched.contracts q) (k.behind.contracts q) (v.agrees q).tied x)) h
          by_crossing l (Some y) x h = let o = own_held (side k q) e l h in none_some (no_cells q (e + y.constant.0)) (seen-own (side k q) y e o.0 x o.1)

          by_cell : (o : Option ℕ) → k.sched.held q e ≡ o → k.sched.held q e ≡ None
          by_cell None h = h
          by_cell (Some l) h = absurd (by_crossing l (k.crossings q) refl h)

      -- and its own test alone decides
      pub verdict_scheduler : (d : ℕ) (w : Option Cause) → d ≡ bound bs k.number → 1 ≤ d → sched-verdict k.sched p s d w ≡ w
      verdict_scheduler d w e one =
          sched_passes (k.sched.contracts p) (holds-held k.sched) p s d w
          checked.low no_scheduled checked.spacing (not_outside 1 128 d one (omega (arith, bound_most))) (holds_any_none k.sched none_held)

-- the parts after a grant under a verdict, and the answer
pub record Granting (day : ℕ) (k z : Parts) (p s : ℕ) (bs : List Span) (lead : ℕ) (w : Option Fault) (r : Result (Unit {0}) Fault) : Type 0 where
  pub kept : Sound day z
  pub answer : r ≡ answered w
  pub becomes : joined z ≡ unless w (joined k) (granted (joined k) p s bs lead)

-- a refusal leaves all as it was
pub stays : (day : ℕ) (k z : Parts) (p s : ℕ) (bs : List Span) (lead : ℕ) (w : Option Fault) (r : Result (Unit {0}) Fault) (f : Fault) → Sound day k → z ≡ k → w ≡ Some f → r ≡ Err f → Granting day k z p s bs lead w r
stays day k z p s bs lead w r f h e q a = record {
  kept = subst (Sound day) (sym e) h;
  answer = a ∙ ap answered (sym q);
  becomes = ap joined e ∙ ap (λ w. unless w (joined k) (granted (joined k) p s bs lead)) (sym q);
}

-- a consent leaves the path with the contract
pub grows : (day : ℕ) (k z z' : Parts) (p s : ℕ) (bs : List Span) (lead : ℕ) (w : Option Fault) (r : Result (Unit {0}) Fault) → Sound day z' → joined z' ≡ granted (joined k) p s bs lead → z ≡ z' → w ≡ None → r ≡ Ok tt → Granting day k z p s bs lead w r
grows day k z z' p s bs lead w r h j e q a = record {
  kept = subst (Sound day) (sym e) h;
  answer = a ∙ ap answered (sym q);
  becomes = ap joined e ∙ j ∙ ap (λ w. unless w (joined k) (granted (joined k) p s bs lead)) (sym q);
}

-- a scheduler's answer with the number of its hop
abbrev pub numbered_as : ℕ → Result (Unit {0}) Fault → Result (Unit {0}) Fault
numbered_as n a = elim a [ Ok u ↦ Ok u | Err f ↦ Err (record { cause = f.cause; layer = f.layer; party = f.party; hop = cond (eqb f.hop 255) n f.hop; line = f.line }) ]

-- a scheduler after the path behind has answered
abbrev pub settled_as : Meaning → ℕ → Result (Unit {0}) Fault → Meaning
settled_as m p a = elim a [ Ok u ↦ m | Err f ↦ sched-withdrawn m p ]

some_err : (f g : Fault) → ◌≡◌ {A = Result (Unit {0}) Fault} (Err f) (Err g) → ◌≡◌ {A = Option Fault} (Some f) (Some g)
some_err f g e = cc

ok_err : {X : Type 0} (u : Unit {0}) (g : Fault) → ◌≡◌ {A = Result (Unit {0}) Fault} (Ok u) (Err g) → X
ok_err u g e = absurd (let z : ◌≡◌ {A = ℕ} 0 1 = cc in omega arith)

-- what the calendar answered
room_refused : (b : Bool) (f g : Fault) (w : Option Fault) → answered (refused_if b f None) ≡ Err g → refused_if b f w ≡ Some g
room_refused true f g w e = some_err f g e
room_refused false f g w e = ok_err tt g e

room_found : (b : Bool) (f : Fault) (u : Unit {0}) (w : Option Fault) → answered (refused_if b f None) ≡ Ok u → refused_if b f w ≡ w
room_found true f u w e = ok_err u f (sym e)
room_found false f u w e = refl

-- what the scheduler answered
test_refused : (o : Option Cause) (p n : ℕ) (g : Fault) (w : Option Fault) → numbered_as n (told o p tt) ≡ Err g → tested o p n w ≡ Some g
test_refused None p n g w e = ok_err tt g e
test_refused (Some c) p n g w e = some_err _ g e

after_refused : (o : Option Cause) (p n : ℕ) (g : Fault) (old new : Meaning) → numbered_as n (told o p tt) ≡ Err g → after o old new ≡ old
after_refused None p n g old new e = ok_err tt g e
after_refused (Some c) p n g old new e = refl

test_passed : (o : Option Cause) (p n : ℕ) (u : Unit {0}) → numbered_as n (told o p tt) ≡ Ok u → o ≡ None
test_passed None p n u e = refl
test_passed (Some c) p n u e = ok_err u _ (sym e)

-- what a path answered
pub answer_refused : (o : Option Fault) (g : Fault) → answered o ≡ Err g → o ≡ Some g
answer_refused None g e = ok_err tt g e
answer_refused (Some f) g e = some_err f g e

pub answer_passed : (o : Option Fault) (u : Unit {0}) → answered o ≡ Ok u → o ≡ None
answer_passed None u e = refl
answer_passed (Some f) u e = ok_err u f (sym e)

-- what is checked, by what the hop's calls answer
pub rule_is : (k : Parts) (known busy : Bool) (bad : Option ℕ) (p s : ℕ) (bs : List Span) (lead : ℕ) (w : Option Fault) → known ≡ is_some (constant_in k.behind.links (k.behind.contracts p)) → bad ≡ bad_hop k.number (k.link ∷ k.behind.links) bs lead → busy ≡ holds_any (joined k)
    → common_rule known bad busy p s w ≡ grant_rule (joined k) p s bs lead w
rule_is k known busy bad p s bs lead w a b c = λ i. common_rule ((a ∙ known_here k.behind.links (k.crossings p) (k.behind.contracts p)) i) (b i) (c i) p s w

-- a bad term is refused
pub bad_terms : (day : ℕ) (k : Parts) (p s : ℕ) (bs : List Span) (lead : ℕ) (ts : List Test) (r : Result (Unit {0}) Fault) (g : Fault) → Sound day k → answered (grant_rule (joined k) p s bs lead None) ≡ Err g → r ≡ Err g
    → Granting day k k p s bs lead (grant_verdict (joined k) ts p s bs lead) r
bad_terms day k p s bs lead ts r g h a q =
    stays day k k p s bs lead (grant_verdict (joined k) ts p s bs lead) r g h refl
    (rule_refuses (is_some ((joined k).contracts p)) (holds_any (joined k)) (bad_hop k.number (k.link ∷ k.behind.links) bs lead) p s g _ (answer_refused _ g a)) q

module _ (k : Parts) (v : Level k) (p s : ℕ) (bs : List Span) (lead : ℕ) (rule : grant_rule (joined k) p s bs lead None ≡ None) where
  -- good terms: the room decides
  pub good_terms : (ts : List Test) → grant_verdict (joined k) ts p s bs lead ≡ admitted k.number (k.link ∷ k.behind.links) ts (joined k).contracts p s bs lead
  good_terms ts = rule_consents (is_some ((joined k).contracts p)) (holds_any (joined k)) (bad_hop k.number (k.link ∷ k.behind.links) bs lead) p s _ rule

  -- at a hop that is not crossed the path behind decides
  pub granted-passing : (day : ℕ) (t : Test) (ts : List Test) (b : Route) (r : Result (Unit {0}) Fault) → Sound day k → bound bs k.number ≡ 0 → r ≡ answered (grant_verdict k.behind ts p s bs lead) → b ≡ unless (grant_verdict k.behind ts p s bs lead) k.behind (granted k.behind p s bs lead)
      → Granting day k (parts k.number k.link k.sched k.waits k.crossings b) p s bs lead (grant_verdict (joined k) (t ∷ ts) p s bs lead) r
  granted-passing day t ts b r h z a q = by (grant_verdict k.behind ts p s bs lead) refl
    where
      same : grant_verdict (joined k) (t ∷ ts) p s bs lead ≡ grant_verdict k.behind ts p s bs lead
      same = good_terms (t ∷ ts) ∙ verdict_uncrossed k v p s bs lead rule t ts z

      none : k.crossings p ≡ None
      none = no_crossing k v p s bs lead rule

      new : joined (passed_on k v p (granted k.behind p s bs lead)) ≡ granted (joined k) p s bs lead
      new = granted_behind k v p none s lead bs z

      by : (w : Option Fault) → grant_verdict k.behind ts p s bs lead ≡ w → Granting day k (parts k.number k.link k.sched k.waits k.crossings b) p s bs lead (grant_verdict (joined k) (t ∷ ts) p s bs lead) r
      by (Some f) e =
          stays day k (parts k.number k.link k.sched k.waits k.crossings b) p s bs lead (grant_verdict (joined k) (t ∷ ts) p s bs lead) r f h
          (λ i. parts k.number k.link k.sched k.waits k.crossings ((q ∙ ap (λ w. unless w k.behind (granted k.behind p s bs lead)) e) i))
          (same ∙ e) (a ∙ ap answered e)
      by None e =
          grows day k (parts k.number k.link k.sched k.waits k.crossings b) (passed_on k v p (granted k.behind p s bs lead)) p s bs lead (grant_verdict (joined k) (t ∷ ts) p s bs lead) r
          (record { days = h.days; level = level-granted_behind k v p none s lead bs (subst Lawful (sym new) (lawful_granted (joined k) v.lawful p s bs lead rule)) }) new
          (λ i. parts k.number k.link k.sched k.waits k.crossings ((q ∙ ap (λ w. unless w k.behind (granted k.behind p s bs lead)) e) i))
          (same ∙ e) (a ∙ ap answered e)

-- a contract that is asked for at a hop which the party crosses, once its terms are checked
pub record Asked : Type 0 where
  pub parts : Parts
  pub level : Level parts
  pub contracted : Contracted parts.sched
  pub party : ℕ
  pub spacing : ℕ
  pub bounds : List Span
  pub lead : ℕ
  pub rule : grant_rule (joined parts) party spacing bounds lead None ≡ None
  pub test : Test
  pub tests : List Test
  pub given : ℕ
  pub here : given ≡ bound bounds parts.number
  pub crossed : 1 ≤ given

-- a grant to a party that crosses
module _ (q : Asked) where
  abbrev k : Parts
  k = q.parts

  abbrev v : Level k
  v = q.level

  abbrev c : Contracted k.sched
  c = q.contracted

  abbrev p : ℕ
  p = q.party

  abbrev s : ℕ
  s = q.spacing

  abbrev bs : List Span
  bs = q.bounds

  abbrev lead : ℕ
  lead = q.lead

  abbrev rule : grant_rule (joined k) p s bs lead None ≡ None
  rule = q.rule

  abbrev t : Test
  t = q.test

  abbrev ts : List Test
  ts = q.tests

  abbrev d : ℕ
  d = q.given

  abbrev e : d ≡ bound bs k.number
  e = q.here

  abbrev one : 1 ≤ d
  one = q.crossed

  -- whether there is room; what the calendar answers, then the scheduler, then the path behind
  abbrev pub whole : Option Fault
  whole = admitted k.number (k.link ∷ k.behind.links) (t ∷ ts) (joined k).contracts p s bs lead

  abbrev pub full : Bool
  full = ltb 192 (sum_below 16 (λ q. crossing_load (k.crossings q)) + share lead s)

  abbrev pub calendar : Option Fault
  calendar = refused_if full (fault CalendarExceeded p k.number) None

  abbrev pub here : Option Cause
  here = sched-verdict k.sched p s d (t p s d)

  abbrev pub there : Option Fault
  there = grant_verdict k.behind ts p s bs (d + k.link)

  whole_is : whole ≡ refused_if full (fault CalendarExceeded p k.number) (tested (t p s d) p k.number there)
  whole_is = verdict_crossed k v p s bs lead rule t ts d e one

  here_is : here ≡ t p s d
  here_is = verdict_scheduler k v p s bs lead rule c d (t p s d) e one

  -- the calendar refuses
  pub no_room : (day : ℕ) (r : Result (Unit {0}) Fault) (g : Fault) → Sound day k → answered calendar ≡ Err g → r ≡ Err g → Granting day k k p s bs lead whole r
  no_room day r g h a q = stays day k k p s bs lead whole r g h refl (whole_is ∙ room_refused full _ g _ a) q

  module _ (u : Unit {0}) (room : answered calendar ≡ Ok u) where
    after_room : whole ≡ tested (t p s d) p k.number there
    after_room = whole_is ∙ room_found full _ u _ room

    -- the scheduler refuses
    pub no_consent : (day : ℕ) (m : Meaning) (r : Result (Unit {0}) Fault) (g : Fault) → Sound day k → numbered_as k.number (told here p tt) ≡ Err g → m ≡ after here k.sched (sched-granted k.sched p s d) → r ≡ Err g
        → Granting day k (parts k.number k.link m k.waits k.crossings k.behind) p s bs lead whole r
    no_consent day m r g h a b q =
        stays day k (parts k.number k.link m k.waits k.crossings k.behind) p s bs lead whole r g h
        (λ i. parts k.number k.link ((b ∙ after_refused here p k.number g k.sched (sched-granted k.sched p s d) a) i) k.waits k.crossings k.behind)
        (after_room ∙ ap (λ o. tested o p k.number there) (sym here_is) ∙ test_refused here p k.number g there a) q

    module _ (w : Unit {0}) (consent : numbered_as k.number (told here p tt) ≡ Ok w) (m : Meaning) (becomes : m ≡ after here k.sched (sched-granted k.sched p s d)) where
      consented : here ≡ None
      consented = test_passed here p k.number w consent

      scheduled : m ≡ sched-granted k.sched p s d
      scheduled = becomes ∙ ap (λ o. after o k.sched (sched-granted k.sched p s d)) consented

      whole-there : whole ≡ there
      whole-there = after_room ∙ ap (λ o. tested o p k.number there) (sym here_is ∙ consented)

      -- the scheduler's grant can be taken back
      pub undoing : withdraw_verdict m p ≡ None
      undoing = ap (λ m. withdraw_verdict m p) scheduled ∙ undoes k.sched p s d c (no_scheduled k v p s bs lead rule)

      module _ (o : Result (Unit {0}) Fault) (b : Route) (answer : o ≡ answered there) (route : b ≡ unless there k.behind (granted k.behind p s bs (d + k.link))) where
        -- the path behind refuses
        pub refused_behind : (day : ℕ) (m' : Meaning) (r : Result (Unit {0}) Fault) (g : Fault) → Sound day k → m' ≡ settled_as m p o → o ≡ Err g → r ≡ Err g
            → Granting day k (parts k.number k.link m' k.waits k.crossings b) p s bs lead whole r
        refused_behind day m' r g h f a q =
            let n = answer_refused there g (sym answer ∙ a) in
            stays day k (parts k.number k.link m' k.waits k.crossings b) p s bs lead whole r g h
            (λ i. parts k.number k.link ((f ∙ ap (settled_as m p) a ∙ ap (λ m. sched-withdrawn m p) scheduled ∙ undone k.sched p s d (no_scheduled k v p s bs lead rule)) i) k.waits k.crossings ((route ∙ ap (λ o. unless o k.behind (granted k.behind p s bs (d + k.link))) n) i))
            (whole-there ∙ n) q

        module _ (x : Unit {0}) (ok : o ≡ Ok x) where
          passed : there ≡ None
          passed = answer_passed there x (sym answer ∙ ok)

          route_is : b ≡ granted k.behind p s bs (d + k.link)
          route_is = route ∙ ap (λ o. unless o k.behind (granted k.behind p s bs (d + k.link))) passed

          -- the path constant behind is known now
          pub rest_is : constant_in b.links (b.contracts p) ≡ Some (record { 0 = constant k.behind.links (bounds_from k.behind.first k.behind.links bs) })
          rest_is = ap (λ b. constant_in b.links (b.contracts p)) route_is ∙ ap (constant_in k.behind.links) (at_same k.behind.contracts p p (Some (record { spacing = s; bounds = bounds_from k.behind.first k.behind.links bs; lead = d + k.link; last = None })) refl)

          -- the party crosses from now on
          pub granted-whole : (day : ℕ) (m' : Meaning) (f : ℕ → Option Crossing) (z : Crossing) (r : Result (Unit {0}) Fault) → Sound day k → m' ≡ settled_as m p o → f ≡ updated k.crossings p (Some z)
              → z.trail.spacing.0 ≡ s → z.trail.lead.0 ≡ lead → z.bound.0 ≡ d → z.constant.0 ≡ d + k.link + constant k.behind.links (bounds_from k.behind.first k.behind.links bs)
              → z.trail.latest ≡ None → z.trail.last ≡ None → r ≡ Ok tt → Granting day k (parts k.number k.link m' k.waits f b) p s bs lead whole r
          granted-whole day m' f z r h y q zs zl zb zc zn zt a =
              let new = granted_both k v p s d lead bs z zs zl zb (sym e) zc zn zt (no_crossing k v p s bs lead rule) (none_held k v p s bs lead rule c p) (none_behind k v p s bs lead rule p) in
              let level = level-granted k v p s d lead bs z zs zl zb (sym e) zc zn zt (no_crossing k v p s bs lead rule) (none_held k v p s bs lead rule c p) (none_behind k v p s bs lead rule p)
              (subst Lawful (sym new) (lawful_granted (joined k) v.lawful p s bs lead rule)) in
              grows day k (parts k.number k.link m' k.waits f b) (granted_parts k v p s d bs z) p s bs lead whole r
              (record { days = h.days; level = level }) new
              (λ i. parts k.number k.link ((y ∙ ap (settled_as m p) ok ∙ scheduled) i) k.waits (q i) (route_is i))
              (whole-there ∙ passed) a
