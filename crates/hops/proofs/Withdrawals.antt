-- A party that crosses is withdrawn.
use Rattle.std.proofs.Common.{◌≡◌, ℕ, zero, suc, ◌+◌, ◌≤◌, Bool, true, false, List, ◌∷◌, length, get_or, Some, None, Option, sym, refl, ap, ◌∙◌, subst, arith}
use Rattle.scheduler.specs.Meaning.{fresh as sched-fresh, withdraw_rule as sched-rule, withdraw_verdict as sched-verdict}
use Rattle.scheduler.proofs.Holds.{holds_of_none}
use Rattle.paths.specs.Laws.{Lawful}
use Rattle.paths.specs.Route.{Route, Terms, fresh}
use Rattle.cells.specs.declared.faults.Fault.{Fault}
use Rattle.paths.specs.Verdicts.{unless, holds_of, withdraw_verdict, withdraw_rule, withdrawn}
use Rattle.paths.proofs.Present.{holds_none, holds_false}
use Rattle.paths.proofs.Kept.{lawful_fresh, lawful_withdrawn}
use Rattle.hops.specs.declared.crossing.Crossing.{Crossing}
use Rattle.hops.specs.Joined.{Parts, parts, side, own, seen, from_here, joined}
use Rattle.hops.specs.Level.{Level, Sound}
use Rattle.hops.proofs.Seen.{none_some, unseen_own, unseen_behind, own_none}
use Rattle.hops.proofs.Levels.{withdrawn_behind, level-withdrawn_behind}
use Rattle.hops.proofs.Presence.{holds_behind}
use Rattle.hops.proofs.Sides.{both_of, contract_here}

module _ (k : Parts) (lev : Level k) (p : ℕ) (x : Crossing) (e : k.crossings p ≡ Some x) where
  -- the verdict hangs on its cells alone
  pub crossed_verdict : (b : Bool) → holds_of (joined k) p ≡ b → withdraw_verdict (joined k) p ≡ withdraw_rule (Some (both_of k lev p x e).terms) b p
  crossed_verdict b h = (λ i. withdraw_rule (contract_here k lev p x e i) (h i) p)

  module _ (h : holds_of (joined k) p ≡ false) where
    unseen : (v : ℕ) → seen (side k p) v ≡ None
    unseen v = holds_none (joined k) lev.lawful p h v

    -- nothing stands here or behind
    pub owns_none : (a : ℕ) → own (side k p) a ≡ None
    owns_none a = unseen_own (side k p) x a e (unseen (a + x.constant.0))

    -- so the scheduler and the path behind consent
    pub sched_consents : sched-verdict k.sched p ≡ None
    sched_consents =
        let b = both_of k lev p x e in
        (λ i. sched-rule (b.contract_is i) (holds_of_none k.sched p (λ a. (own_none (side k p) a (owns_none a)).1) i))

    pub behind_consents : withdraw_verdict k.behind p ≡ None
    behind_consents =
        let b = both_of k lev p x e in
        (λ i. withdraw_rule (b.terms_is i) (holds_false k.behind p (λ v. unseen_behind (side k p) v (unseen v)) i) p)

-- a party that does not cross
pub uncrossed_verdict : (k : Parts) (p : ℕ) → k.crossings p ≡ None → holds_of (joined k) p ≡ holds_of k.behind p → withdraw_verdict (joined k) p ≡ withdraw_verdict k.behind p
uncrossed_verdict k p e h = go (k.crossings p) (k.behind.contracts p) e refl refl
  where
    go : (x : Option Crossing) (o : Option Terms) → x ≡ None → k.crossings p ≡ x → k.behind.contracts p ≡ o → withdraw_verdict (joined k) p ≡ withdraw_verdict k.behind p
    go None None e c t = (λ i. withdraw_rule (from_here (c i) (t i)) (h i) p) ∙ sym (λ i. withdraw_rule (t i) (holds_of k.behind p) p)
    go None (Some u) e c t = (λ i. withdraw_rule (from_here (c i) (t i)) (h i) p) ∙ sym (λ i. withdraw_rule (t i) (holds_of k.behind p) p)
    go (Some x) o e c t = absurd (none_some e refl)

-- the same hop before another state of the path behind
abbrev pub passed_on_to : Parts → Route → Parts
passed_on_to k b = parts k.number k.link k.sched k.waits k.crossings b

-- a hop that was made fresh
pub sound_fresh : (n g : ℕ) (gs : List ℕ) → g ≤ 63 → n + suc (length gs) ≤ 8 → ((j : ℕ) → get_or gs j 0 ≤ 63) → Sound 0 (parts n g sched-fresh (λ p e. None) (λ p. None) (fresh (suc n) gs))
sound_fresh n g gs l h near = record {
  days = refl;
  level = record {
    slots = refl;
    numbers = refl;
    link = l;
    agrees = λ p. record { tied = refl; window = λ e l q. absurd (none_some refl q); idle = λ q e. refl; settled = λ x c q. absurd (none_some refl q) };
    lawful = lawful_fresh n (g ∷ gs) (omega arith) links;
  };
}
  where
    links : (j : ℕ) → get_or (g ∷ gs) j 0 ≤ 63
    links zero = l
    links (suc j) = near j

-- the path behind was asked, and the party does not cross
pub record Uncrossed (k : Parts) (n p : ℕ) (b : Route) : Type 0 where
  pub verdict : withdraw_verdict (joined k) p ≡ withdraw_verdict k.behind p
  pub sound : Sound n (passed_on_to k b)
  pub route : joined (passed_on_to k b) ≡ unless (withdraw_verdict (joined k) p) (joined k) (withdrawn (joined k) p)

pub uncrossed : (k : Parts) (n : ℕ) → Sound n k → (p : ℕ) → Lawful k.behind → k.crossings p ≡ None → (b : Route) → b ≡ unless (withdraw_verdict k.behind p) k.behind (withdrawn k.behind p) → Uncrossed k n p b
uncrossed k n s p lb e b q = by (withdraw_verdict k.behind p) refl
  where
    v : withdraw_verdict (joined k) p ≡ withdraw_verdict k.behind p
    v = uncrossed_verdict k p e (holds_behind k s.level p lb e)

    consents_none : (o : Option Terms) (h : Bool) → withdraw_rule o h p ≡ None → h ≡ false
    consents_none None h q = absurd (none_some q refl)
    consents_none (Some t) true q = absurd (none_some q refl)
    consents_none (Some t) false q = refl

    by : (w : Option Fault) → withdraw_verdict k.behind p ≡ w → Uncrossed k n p b
    by None w =
        let to : b ≡ withdrawn k.behind p = q ∙ ap (λ v. unless v k.behind (withdrawn k.behind p)) w in
        let r = withdrawn_behind k s.level p e in
        let none : holds_of (joined k) p ≡ false = consents_none ((joined k).contracts p) (holds_of (joined k) p) (v ∙ w) in
        record {
          verdict = v;
          sound = subst (λ b. Sound n (passed_on_to k b)) (sym to) (record { days = s.days; level = level-withdrawn_behind k s.level p e (subst Lawful (sym r) (lawful_withdrawn (joined k) s.level.lawful p none)) });
          route = ap (λ b. joined (passed_on_to k b)) to ∙ r ∙ sym (ap (λ v. unless v (joined k) (withdrawn (joined k) p)) (v ∙ w));
        }
    by (Some f) w =
        let to : b ≡ k.behind = q ∙ ap (λ v. unless v k.behind (withdrawn k.behind p)) w in
        record {
          verdict = v;
          sound = subst (λ b. Sound n (passed_on_to k b)) (sym to) s;
          route = ap (λ b. joined (passed_on_to k b)) to ∙ sym (ap (λ v. unless v (joined k) (withdrawn (joined k) p)) (v ∙ w));
        }
