-- Whether a cell of a party is on the path, from a hop on.
use Rattle.std.proofs.Common.{◌≡◌, ℕ, Some, None, sym, ap, ◌∙◌, inl, inr}
use Rattle.std.proofs.lemmas.Bool.{cases_Bool, both_ways}
use Rattle.paths.specs.Laws.{Lawful}
use Rattle.paths.specs.Trails.{still}
use Rattle.paths.specs.Verdicts.{holds_of}
use Rattle.paths.proofs.Present.{holds_none, holds_false}
use Rattle.paths.proofs.Trails.{holds_by}
use Rattle.hops.specs.declared.crossing.Crossing.{Crossing}
use Rattle.hops.specs.Joined.{Parts, side, own, leaving, deeper, joined}
use Rattle.hops.specs.Level.{Level}
use Rattle.hops.proofs.Seen.{seen_behind, unseen_behind}
use Rattle.hops.proofs.Sides.{both_of, contract_here, here_terms, newest_of}

module _ (k : Parts) (lev : Level k) (p : ℕ) where
  -- of one that crosses, by its trail
  pub holds_crossed : (x : Crossing) → k.crossings p ≡ Some x → holds_of (joined k) p ≡ still x.trail.latest x.constant.0 k.behind.slot
  holds_crossed x e = holds_by (joined k) lev.lawful p x.constant.0 (here_terms x (both_of k lev p x e).terms) x.trail.latest (contract_here k lev p x e) (newest_of k lev p x e)

  -- of one that does not, by the path behind
  pub holds_behind : Lawful k.behind → k.crossings p ≡ None → holds_of (joined k) p ≡ holds_of k.behind p
  holds_behind lb e = elim (cases_Bool (holds_of k.behind p)) [
    | inl t ↦ elim (cases_Bool (holds_of (joined k) p)) [
      | inl s ↦ s ∙ sym t
      | inr s ↦ absurd (both_ways (holds_of k.behind p) (holds_false k.behind p (λ v. unseen_behind (side k p) v (holds_none (joined k) lev.lawful p s v))) t)
    ]
    | inr t ↦ holds_false (joined k) p (λ v. seen_behind (side k p) v (ap (λ x. leaving x (own (side k p)) v) e) ∙ ap deeper (holds_none k.behind lb p t v)) ∙ sym t
  ]
