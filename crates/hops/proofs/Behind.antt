-- The path behind ticks, and cells that are eligible now are put: what a hop's parts keep.
use Rattle.std.proofs.Common.{◌≡◌, ℕ, ◌+◌, ◌<◌, ◌≤◌, true, false, ltb, ◌⊎◌, List, [], ◌∷◌, length, is_some, Some, None, Option, sym, refl, ap, ◌∙◌, subst, inl, inr, arith}
use Rattle.std.proofs.lemmas.Bool.{cond-true, cond-false, le-ltb, cases_eq}
use Rattle.cells.specs.declared.times.Slot.{Slot}
use Rattle.header.specs.declared.Header.{Header}
use Rattle.scheduler.specs.declared.terms.Contract.{Contract}
use Rattle.scheduler.specs.Meaning.{stamped, put_verdict, put_rule, too_soon}
use Rattle.paths.specs.Route.{Route, Terms, Place, bounds_of, ticked, noted, placed, cell_after, arrived, delivery_of, at_end}
use Rattle.paths.specs.Laws.{Lawful}
use Rattle.paths.proofs.Ways.{Step, gone, waits, stays, goes, step_is}
use Rattle.hops.specs.declared.crossing.Crossing.{Crossing}
use Rattle.hops.specs.Crossed.{Same, Took}
use Rattle.hops.specs.Joined.{Parts, Side, side, own, either}
use Rattle.hops.specs.Level.{Level, Agrees, Settled, Put, last_of}
use Rattle.hops.specs.Rows.{with_row, used_if, held_if}
use Rattle.hops.proofs.Seen.{none_some, some_same, option_cases, Both, own_waits, seen-own, Stand, waiting, holding, stand}
use Rattle.hops.proofs.Sides.{at_same, at_other, both_of, settled_of, contract_here, here_terms}
use Rattle.hops.proofs.Ticks.{Moved, moved_side, agrees_moved, passing, waits_side, agrees_quiet, admit_side, agrees_admit, passing_at, passing_other, none_of}

-- what a tick does to one party's contract and cells
noted_last : (o : Option Terms) (d : Option ℕ) (n u : ℕ) → last_of (noted o d n) ≡ Some u → (last_of o ≡ Some u) ⊎ ((u ≡ n) × ((l : ℕ) × (d ≡ Some l)))
noted_last None d n u e = absurd (none_some refl e)
noted_last (Some k) None n u e = inl e
noted_last (Some k) (Some l) n u e = inr (some_same e refl, (l, refl))

noted_kept : (o : Option Terms) (d : Option ℕ) (n u : ℕ) → last_of o ≡ Some u → (last_of (noted o d n) ≡ Some u) ⊎ ((l : ℕ) × (d ≡ Some l))
noted_kept None d n u e = absurd (none_some refl e)
noted_kept (Some k) None n u e = inl e
noted_kept (Some k) (Some l) n u e = inr (l, refl)

noted_new : (o : Option Terms) (k : Terms) (l n : ℕ) → o ≡ Some k → last_of (noted o (Some l) n) ≡ Some n
noted_new o k l n e = ap (λ o. last_of (noted o (Some l) n)) e

noted-terms : (d : Option ℕ) (n : ℕ) (k : Terms) → (k' : Terms) × (noted (Some k) d n ≡ Some k') × (k'.spacing ≡ k.spacing) × (k'.bounds ≡ k.bounds) × (k'.lead ≡ k.lead)
noted-terms None n k = (k, refl, refl, refl, refl)
noted-terms (Some l) n k = (record { spacing = k.spacing; bounds = k.bounds; lead = k.lead; last = Some n }, refl, refl, refl, refl)

arrived_some : (gs : List ℕ) (o : Option Place) (l : ℕ) → arrived gs o ≡ Some l → is_some o ≡ true
arrived_some gs None l e = absurd (none_some refl e)
arrived_some gs (Some x) l e = refl

end_true : (gs : List ℕ) → at_end gs (length gs) ≡ true
end_true [] = refl
end_true (g ∷ gs) = end_true gs

module _ (r : Route) (law : Lawful r) (ss : List (Option Header)) (p : ℕ) where
  -- a cell has a contract
  pub cell_terms : (v : ℕ) (x : Place) → r.cells p v ≡ Some x → (t : Terms) × (r.contracts p ≡ Some t)
  cell_terms v x e = elim (option_cases (r.contracts p)) [ inl q ↦ absurd (none_some (law.owned p v q) e) | inr q ↦ q ]

  went : (v : ℕ) (x : Place) (t : Terms) → r.cells p v ≡ Some x → r.contracts p ≡ Some t → (j : Option ℕ) → Step r.first r.links (bounds_of (r.contracts p)) ss r.slot p v x.hop j
      → (is_some (placed x.label j) ≡ true) ⊎ ((v ≡ r.slot) × (last_of ((ticked r ss).contracts p) ≡ Some r.slot))
  went v x t e c _ (gone a b) = inr (
    b,
    ap (λ d. last_of (noted (r.contracts p) d r.slot)) (
        ap (λ v. arrived r.links (r.cells p v)) (sym b) ∙ ap (arrived r.links) e ∙ cond-true (at_end r.links x.hop) _ _ (ap (at_end r.links) a ∙ end_true r.links))
        ∙ noted_new (r.contracts p) t x.label r.slot c,
  )
  went v x t e c _ (waits a b) = inl refl
  went v x t e c _ (stays a b) = inl refl
  went v x t e c _ (goes j a b d f g) = inl refl

  pub moved_of : Moved r.slot (r.contracts p) ((ticked r ss).contracts p) (r.cells p) ((ticked r ss).cells p)
  moved_of = record {
    from = λ v z e. elim (option_cases (r.cells p v)) [ inl q ↦ absurd (none_some (ap (cell_after r ss p v) q) e) | inr q ↦ ap is_some q.1 ];
    to = to;
    last_from = λ u e. elim (noted_last (r.contracts p) (delivery_of r p) r.slot u e) [ inl q ↦ inl q | inr q ↦ inr (q.0, arrived_some r.links (r.cells p r.slot) q.1.0 q.1.1) ];
    last_to = λ u e. elim (noted_kept (r.contracts p) (delivery_of r p) r.slot u e) [ inl q ↦ inl q | inr q ↦ inr (arrived_some r.links (r.cells p r.slot) q.0 q.1) ];
    terms = λ k e. subst (λ o. (k' : Terms) × (noted o (delivery_of r p) r.slot ≡ Some k') × (k'.spacing ≡ k.spacing) × (k'.bounds ≡ k.bounds) × (k'.lead ≡ k.lead)) (sym e) (noted-terms (delivery_of r p) r.slot k);
  }
    where
      to : (v : ℕ) (z : Place) → r.cells p v ≡ Some z → (is_some ((ticked r ss).cells p v) ≡ true) ⊎ ((v ≡ r.slot) × (last_of ((ticked r ss).contracts p) ≡ Some r.slot))
      to v z e =
          let t = cell_terms v z e in
          let i = law.terms p t.0 t.1 in
          let s = law.stands p v t.0 z t.1 e in
          let step = step_is r.first r.links (bounds_of (r.contracts p)) ss r.slot p v z.hop (ap (λ o. length (bounds_of o)) t.1 ∙ i.whole) s.hop in
          elim (went v z t.0 e t.1 _ step) [ inl q ↦ inl (ap (λ o. is_some (cell_after r ss p v o)) e ∙ q) | inr q ↦ inr q ]

  pub since_of : (u v : ℕ) (z : Place) → last_of (r.contracts p) ≡ Some u → r.cells p v ≡ Some z → u < v
  since_of u v z a b =
      let t = cell_terms v z b in
      let i = law.terms p t.0 t.1 in
      omega (arith, law.since p u v t.0 z t.1 (sym (ap last_of t.1) ∙ a) b, i.spacing_least)

-- a put that comes a spacing after the last is taken
in_time : (c : Contract) (n : ℕ) (o : Option Slot) → c.last ≡ o → ((t : Slot) → o ≡ Some t → t.0 + c.spacing.0 ≤ n) → too_soon c n ≡ false
in_time c n None e h = ap (λ o. elim o [ None ↦ false | Some t ↦ ltb n (t.0 + c.spacing.0) ]) e
in_time c n (Some t) e h = ap (λ o. elim o [ None ↦ false | Some t ↦ ltb n (t.0 + c.spacing.0) ]) e ∙ le-ltb n (t.0 + c.spacing.0) (h t refl)

put_waits : (y : Side) (x : Crossing) (o : Option Slot) → Put y x o → (t : Slot) → o ≡ Some t → (e l : ℕ) → y.waits e ≡ Some l → t.0 + x.trail.spacing.0 ≤ e
put_waits y x None h t q e l w = absurd (none_some refl q)
put_waits y x (Some u) h t q e l w = let s : u ≡ t = some_same refl q in subst (λ (u : Slot). u.0 + x.trail.spacing.0 ≤ e) s (h.1 e l w)

module _ (k : Parts) (lev : Level k) (p : ℕ) where
  -- one that waits is of a party that crosses
  pub waits_crosses : (e l : ℕ) → k.waits p e ≡ Some l → (x : Crossing) × (k.crossings p ≡ Some x)
  waits_crosses e l w = elim (option_cases (k.crossings p)) [ inl q ↦ absurd (none_some ((lev.agrees p).idle q e) w) | inr q ↦ q ]

  -- the scheduler takes a cell that has waited for this slot
  pub put_consents : (l : ℕ) → k.waits p k.behind.slot ≡ Some l → put_verdict k.sched p ≡ None
  put_consents l w =
      let x = waits_crosses k.behind.slot l w in
      let b = both_of k lev p x.0 x.1 in
      let c = b.contract in
      let s = settled_of k lev p x.0 x.1 in
      let soon = in_time c k.sched.slot c.last refl (λ t q. omega (arith, put_waits (side k p) x.0 c.last s.put t q k.behind.slot l w, b.ties.spacing, lev.slots)) in
      ap (λ o. put_rule o k.sched.slot) b.contract_is ∙ cond-false (too_soon c k.sched.slot) _ _ soon

  -- no cell stands both here and behind
  pub own-apart : (e l : ℕ) (x : Crossing) → k.crossings p ≡ Some x → own (side k p) e ≡ Some l → k.behind.cells p (e + x.constant.0) ≡ None
  own-apart e l x c o = go (stand (side k p) e l o)
    where
      b : Both k.link k.behind.links x (k.sched.contracts p) (k.behind.contracts p)
      b = both_of k lev p x c

      s : Settled (side k p) x b.contract
      s = settled_of k lev p x c

      by_put : (o : Option Slot) → Put (side k p) x o → k.waits p e ≡ Some l → k.behind.cells p (e + x.constant.0) ≡ None
      by_put None h w = h.cells (e + x.constant.0)
      by_put (Some t) h w = none_of (k.behind.cells p (e + x.constant.0)) (λ z q. omega (arith, h.0.cells (e + x.constant.0) z q, h.1 e l w, x.trail.spaced))

      go : Stand (side k p) e l → k.behind.cells p (e + x.constant.0) ≡ None
      go (waiting w) = by_put b.contract.last s.put w
      go (holding w h) = s.apart e l h

  -- cells that stand here are a spacing apart
  pub own_spaced : (x : Crossing) → k.crossings p ≡ Some x → (a b i j : ℕ) → own (side k p) a ≡ Some i → own (side k p) b ≡ Some j → a < b → a + x.trail.spacing.0 ≤ b
  own_spaced x c a b i j oa ob lt =
      let w = both_of k lev p x c in
      omega (arith, lev.lawful.spaced p (a + x.constant.0) (b + x.constant.0) (here_terms x w.terms) _ _ (contract_here k lev p x c) (seen-own (side k p) x a i c oa) (seen-own (side k p) x b j c ob) (omega arith), w.ties.behind)

slot_path : (a b : Slot) → a.0 ≡ b.0 → a ≡ b
slot_path a b e = λ i. record { 0 = e i }

module _ (k : Parts) (lev : Level k) (lb : Lawful k.behind) (ss : List (Option Header)) (xs : ℕ → Option Crossing) (took : (p : ℕ) → Took (k.waits p k.behind.slot) k.behind.slot (k.crossings p) (xs p)) where
  -- the parts once the path behind has ticked and the cells of the slot are put
  abbrev pub put_parts : Parts
  put_parts = record {
    number = k.number;
    link = k.link;
    sched = with_row (λ p. k.waits p k.behind.slot) k.sched;
    waits = λ p. passing (k.waits p) k.behind.slot;
    crossings = xs;
    behind = ticked k.behind ss;
  }

  module _ (p : ℕ) where
    abbrev n : ℕ
    n = k.behind.slot

    abbrev behind_side : Side
    behind_side = moved_side (side k p) ((ticked k.behind ss).contracts p) ((ticked k.behind ss).cells p)

    agrees_behind : Agrees n k.link k.behind.links behind_side
    agrees_behind = agrees_moved n k.link k.behind.links (side k p) ((ticked k.behind ss).contracts p) ((ticked k.behind ss).cells p) (moved_of k.behind lb ss p) (since_of k.behind lb ss p) (lev.agrees p)

    -- nothing waited
    side-quiet : k.waits p n ≡ None → xs p ≡ k.crossings p → side put_parts p ≡ waits_side behind_side (passing (k.waits p) n)
    side-quiet w q = λ i. record {
      crossing = q i;
      contract = used_if (w i) (k.sched.contracts p) k.sched.slot;
      terms = (ticked k.behind ss).contracts p;
      waits = passing (k.waits p) n;
      held = held_if (w i) (k.sched.held p) k.sched.slot;
      behind = (ticked k.behind ss).cells p;
    }

    -- one did
    side_admit : (l : ℕ) (x x' : Crossing) (c : Contract) → k.waits p n ≡ Some l → xs p ≡ Some x' → k.sched.contracts p ≡ Some c → side put_parts p ≡ admit_side n k.link k.behind.links behind_side l x x' c (stamped c n) (record { 0 = n })
    side_admit l x x' c w q ec = λ i. record {
      crossing = q i;
      contract = ((λ j. used_if (w j) (ec j) (lev.slots j)) ∙ refl) i;
      terms = (ticked k.behind ss).contracts p;
      waits = passing (k.waits p) n;
      held = ((λ j. held_if (w j) (k.sched.held p) (lev.slots j)) ∙ refl) i;
      behind = (ticked k.behind ss).cells p;
    }

    by_row : (o : Option ℕ) (y : Option Crossing) → k.waits p n ≡ o → k.crossings p ≡ y → Took o n y (xs p) → Agrees (n + 1) k.link k.behind.links (side put_parts p)
    by_row None y w e t = subst (Agrees (n + 1) k.link k.behind.links) (sym (side-quiet w (t ∙ sym e))) (agrees_quiet n k.link k.behind.links behind_side w agrees_behind)
    by_row (Some l) None w e t = absurd (none_some ((lev.agrees p).idle e n) w)
    by_row (Some l) (Some x) w e t =
        let b = both_of k lev p x e in
        let c = b.contract in
        let x' = t.0 in
        let z = t.2 in
        subst (Agrees (n + 1) k.link k.behind.links) (sym (side_admit l x x' c w t.1 b.contract_is))
        (agrees_admit n k.link k.behind.links behind_side l x x' c (stamped c n) (record { 0 = n }) agrees_behind w e b.contract_is z.same z.latest
        (z.last ∙ ap Some (slot_path z.slot (record { 0 = n }) z.now)) refl refl refl refl (own_spaced k lev p x e))

    pub agrees_put_parts : Agrees (n + 1) k.link k.behind.links (side put_parts p)
    agrees_put_parts = by_row (k.waits p n) (k.crossings p) refl refl (took p)

    -- the same cells stand here
    pub own-put_parts : (e : ℕ) → own (side put_parts p) e ≡ own (side k p) e
    own-put_parts e = go (k.waits p n) refl
      where
        go : (o : Option ℕ) → k.waits p n ≡ o → own (side put_parts p) e ≡ own (side k p) e
        go None w = ap (λ o. either (passing (k.waits p) n e) (held_if o (k.sched.held p) k.sched.slot e)) w ∙ elim (cases_eq e n) [
          | inl q ↦ ap (λ a. either a (k.sched.held p e)) (passing_at (k.waits p) n e q ∙ sym (ap (k.waits p) q ∙ w))
          | inr q ↦ ap (λ a. either a (k.sched.held p e)) (passing_other (k.waits p) n e q)
        ]
        go (Some l) w = ap (λ o. either (passing (k.waits p) n e) (held_if o (k.sched.held p) k.sched.slot e)) w ∙ elim (cases_eq e n) [
          | inl q ↦ (λ i. either (passing_at (k.waits p) n e q i) (at_same (k.sched.held p) k.sched.slot e (Some l) (q ∙ sym lev.slots) i)) ∙ sym (own_waits (side k p) e l (ap (k.waits p) q ∙ w))
          | inr q ↦ (λ i. either (passing_other (k.waits p) n e q i) (at_other (k.sched.held p) k.sched.slot e (Some l) (λ d. q (d ∙ lev.slots)) i))
        ]

    -- how it crosses is the same
    pub crossing_put_parts : (x : Crossing) → k.crossings p ≡ Some x → (x' : Crossing) × (xs p ≡ Some x') × Same x x'
    crossing_put_parts x e = go (k.waits p n) (k.crossings p) e (took p)
      where
        go : (o : Option ℕ) (y : Option Crossing) → y ≡ Some x → Took o n y (xs p) → (x' : Crossing) × (xs p ≡ Some x') × Same x x'
        go None y e t = (x, t ∙ e, record { spacing = refl; lead = refl; bound = refl; constants = refl })
        go (Some l) None e t = absurd (none_some refl e)
        go (Some l) (Some z) e t = (t.0, t.1, subst (λ x. Same x t.0) (some_same refl e) t.2.same)

    pub uncrossed_put_parts : k.crossings p ≡ None → xs p ≡ None
    uncrossed_put_parts e = go (k.waits p n) (k.crossings p) e (took p)
      where
        go : (o : Option ℕ) (y : Option Crossing) → y ≡ None → Took o n y (xs p) → xs p ≡ None
        go None y e t = t ∙ e
        go (Some l) None e t = t
        go (Some l) (Some z) e t = absurd (none_some e refl)
