-- A party that crosses, seen from the hop.
use Rattle.std.proofs.Common.{◌≡◌, ℕ, ◌+◌, ◌≤◌, eqb, ◌∷◌, Some, None, Option, sym, refl, ap, ◌∙◌, inl, inr, arith}
use Rattle.std.proofs.lemmas.Bool.{cond-true, cond-false, eq-eqb, ne_eqb}
use Rattle.cells.specs.declared.times.Slot.{Slot}
use Rattle.scheduler.specs.Laws.{InTime, Contracted, InRange, Past, Since}
use Rattle.scheduler.specs.Meaning.{Meaning, updated}
use Rattle.paths.specs.Route.{Terms, Place}
use Rattle.paths.specs.Trails.{Newest}
use Rattle.hops.specs.declared.crossing.Crossing.{Crossing}
use Rattle.hops.specs.Joined.{Parts, side, seen, from_here, joined}
use Rattle.hops.specs.Level.{Level, Settled, Latest, last_of}
use Rattle.hops.proofs.Seen.{none_some, some_same, Both, both, Sight, here, there, sight}

-- what every scheduler keeps
pub record Honest (m : Meaning) : Type 0 where
  pub timely : InTime m
  pub contracted : Contracted m
  pub ranged : InRange m
  pub past : Past m

-- a function that is written at one place
pub at_same : {X : Type 0} (f : ℕ → X) (p q : ℕ) (v : X) → q ≡ p → updated f p v q ≡ v
at_same f p q v e = cond-true (eqb q p) v (f q) (eq-eqb q p e)

pub at_other : {X : Type 0} (f : ℕ → X) (p q : ℕ) (v : X) → (q ≡ p → ⊥) → updated f p v q ≡ f q
at_other f p q v e = cond-false (eqb q p) v (f q) (ne_eqb q p e)

-- the contract of a party that crosses
abbrev pub here_terms : Crossing → Terms → Terms
here_terms x t = record { spacing = t.spacing; bounds = x.bound.0 ∷ t.bounds; lead = x.trail.lead.0; last = t.last }

pub last_some : (o : Option Terms) (t : Terms) → o ≡ Some t → last_of o ≡ t.last
last_some o t e = ap last_of e

-- a cell that is held was put no later than the last
pub since_last : (o : Option Slot) (e : ℕ) → Since o e → (u : Slot) × (o ≡ Some u) × (e ≤ u.0)
since_last None e h = absurd h
since_last (Some u) e h = (u, refl, h)

module _ (k : Parts) (v : Level k) (p : ℕ) (x : Crossing) (e : k.crossings p ≡ Some x) where
  pub both_of : Both k.link k.behind.links x (k.sched.contracts p) (k.behind.contracts p)
  both_of = both k.link k.behind.links x (k.crossings p) (k.sched.contracts p) (k.behind.contracts p) (v.agrees p).tied e

  pub settled_of : Settled (side k p) x both_of.contract
  settled_of = (v.agrees p).settled x both_of.contract e both_of.contract_is

  pub contract_here : (joined k).contracts p ≡ Some (here_terms x both_of.terms)
  contract_here = λ i. from_here (e i) (both_of.terms_is i)

  pub last_here : last_of (k.behind.contracts p) ≡ both_of.terms.last
  last_here = last_some (k.behind.contracts p) both_of.terms both_of.terms_is

  same_crossing : (z : Crossing) → k.crossings p ≡ Some z → z ≡ x
  same_crossing z c = some_same c e

  newest_by : (o : Option Slot) → Latest (side k p) x o → Newest (joined k) (here_terms x both_of.terms) p x.constant.0 o
  newest_by None h = (λ w. unseen w (seen (side k p) w) refl, sym last_here ∙ h.0.last)
    where
      nowhere : (w : ℕ) (z : Place) → Sight (side k p) w z → ⊥
      nowhere w z (here y a l c d o) = none_some (h.1 a) o
      nowhere w z (there y n b) = none_some (h.0.cells w) b

      unseen : (w : ℕ) (s : Option Place) → seen (side k p) w ≡ s → seen (side k p) w ≡ None
      unseen w None q = q
      unseen w (Some z) q = absurd (nowhere w z (sight (side k p) w z q))
  newest_by (Some a) h = record {
    cells = λ w z q. cells w z (sight (side k p) w z q);
    last = λ u q. h.0.last u (last_here ∙ q);
    known = elim h.0.known [ inl q ↦ inl q | inr q ↦ inr (sym last_here ∙ q) ];
  }
    where
      cells : (w : ℕ) (z : Place) → Sight (side k p) w z → w ≤ a.0 + x.constant.0
      cells w z (here y b l c d o) = let s = ap (λ (z : Crossing). z.constant.0) (same_crossing y c) in omega (arith, h.1 b l o)
      cells w z (there y n b) = h.0.cells w y b

  -- the latest of its cells
  pub newest_of : Newest (joined k) (here_terms x both_of.terms) p x.constant.0 x.trail.latest
  newest_of = newest_by x.trail.latest settled_of.latest
