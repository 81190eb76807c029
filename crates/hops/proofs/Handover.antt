-- A hop's parts after a tick are those of the path one slot on.
use Rattle.std.proofs.Common.{◌≡◌, ℕ, zero, suc, ◌+◌, ◌≤◌, true, false, cond, List, [], ◌∷◌, get_or, is_some, Some, None, Option, sym, refl, ap, ◌∙◌, subst, arith}
use Rattle.header.specs.declared.Header.{Header}
use Rattle.scheduler.specs.Meaning.{Meaning, due, last_slot}
use Rattle.paths.specs.Route.{Terms, Place, MaySend, bounds_of, eligible, deadline, ticked, noted, placed, further, moved, names, next, cell_after, arrived, delivery_of}
use Rattle.paths.specs.Laws.{Lawful}
use Rattle.paths.specs.Verdicts.{Sent}
use Rattle.paths.proofs.Kept.{lawful_ticked}
use Rattle.hops.specs.declared.crossing.Crossing.{Crossing}
use Rattle.hops.specs.Crossed.{Same}
use Rattle.hops.specs.Joined.{Parts, side, own, leaving, deeper, standing, seen, from_here, joined}
use Rattle.hops.specs.Level.{Level, Agrees}
use Rattle.hops.proofs.Seen.{none_some, some_same, some_is, Both, both, leaving_at, leaving_from, seen-own, seen_behind, sight, Sight, here, there, Stand, waiting, holding, stand, constant_here}
use Rattle.hops.proofs.Sides.{Honest, both_of, contract_here}
use Rattle.hops.proofs.Behind.{own-apart, cell_terms}
use Rattle.hops.proofs.Ticks.{none_of}

-- only the entries of the hops from n on matter
moved_cong : (n : ℕ) (gs ds : List ℕ) (ss zs : List (Option Header)) (t p v k : ℕ) → ((j : ℕ) → n ≤ j → get_or ss j None ≡ get_or zs j None) → moved n gs ds ss t p v k ≡ moved n gs ds zs t p v k
moved_cong n [] ds ss zs t p v k h = refl
moved_cong n (g ∷ gs) [] ss zs t p v k h = refl
moved_cong n (g ∷ gs) (d ∷ ds) ss zs t p v zero h = ap (λ y. Some (cond (names y t p (deadline (g ∷ gs) (d ∷ ds) v zero)) (suc (next ds)) zero)) (h n (omega arith))
moved_cong n (g ∷ gs) (d ∷ ds) ss zs t p v (suc k) h = ap further (moved_cong (suc n) gs ds ss zs t p v k (λ j l. h j (omega arith)))

deeper-placed : (l : ℕ) (o : Option ℕ) → deeper (placed l o) ≡ placed l (further o)
deeper-placed l None = refl
deeper-placed l (Some k) = refl

from_noted : (x y : Option Crossing) (o : Option Terms) (d : Option ℕ) (n : ℕ) → ((t : Terms) → from_here y (Some t) ≡ from_here x (Some t)) → from_here y (noted o d n) ≡ noted (from_here x o) d n
from_noted x y None d n h = refl
from_noted None y (Some t) None n h = h t
from_noted (Some x) y (Some t) None n h = h t
from_noted None y (Some t) (Some l) n h = h (record { spacing = t.spacing; bounds = t.bounds; lead = t.lead; last = Some n })
from_noted (Some x) y (Some t) (Some l) n h = h (record { spacing = t.spacing; bounds = t.bounds; lead = t.lead; last = Some n })

arrived-deeper : (g : ℕ) (gs : List ℕ) (o : Option Place) → arrived (g ∷ gs) (deeper o) ≡ arrived gs o
arrived-deeper g gs None = refl
arrived-deeper g gs (Some x) = refl

noted_bounds : (d : Option ℕ) (n : ℕ) (t : Terms) → (u : Terms) × (noted (Some t) d n ≡ Some u) × (u.bounds ≡ t.bounds)
noted_bounds None n t = (t, refl, refl)
noted_bounds (Some l) n t = (record { spacing = t.spacing; bounds = t.bounds; lead = t.lead; last = Some n }, refl, refl)

module _ (k : Parts) (lev : Level k) (lb : Lawful k.behind) where
  -- what is due behind
  deeper-deadline : (x : Option Crossing) (t₀ t : Terms) (v h : ℕ) → from_here x (Some t₀) ≡ Some t → deadline (k.link ∷ k.behind.links) t.bounds v (suc h) ≡ deadline k.behind.links t₀.bounds v h
  deeper-deadline None t₀ t v h e = ap (λ (t : Terms). deadline (k.link ∷ k.behind.links) t.bounds v (suc h)) (some_same refl (sym e))
  deeper-deadline (Some x) t₀ t v h e = ap (λ (t : Terms). deadline (k.link ∷ k.behind.links) t.bounds v (suc h)) (some_same refl (sym e))

  -- the due slot of a cell that stands here
  pub deadline_here : (q a : ℕ) (x : Crossing) → k.crossings q ≡ Some x → deadline (joined k).links (bounds_of ((joined k).contracts q)) (a + x.constant.0) 0 ≡ due a x.bound.0
  deadline_here q a x e =
      let b = both_of k lev q x e in
      ap (λ o. deadline (joined k).links (bounds_of o) (a + x.constant.0) 0) (contract_here k lev q x e)
      ∙ ap (λ n. due n x.bound.0) (omega (arith, constant_here k.link k.behind.links x b.contract b.terms b.ties))

  pub eligible_here : (q a : ℕ) (x : Crossing) → k.crossings q ≡ Some x → eligible (joined k).links (bounds_of ((joined k).contracts q)) (a + x.constant.0) 0 ≡ a
  eligible_here q a x e =
      let b = both_of k lev q x e in
      ap (λ o. eligible (joined k).links (bounds_of o) (a + x.constant.0) 0) (contract_here k lev q x e)
      ∙ omega (arith, constant_here k.link k.behind.links x b.contract b.terms b.ties)

  -- a cell behind is not one here
  pub not_own : (q w : ℕ) (z : Place) → k.behind.cells q w ≡ Some z → leaving (k.crossings q) (own (side k q)) w ≡ None
  not_own q w z b = none_of (leaving (k.crossings q) (own (side k q)) w) (λ l h. go (k.crossings q) refl l h)
    where
      go : (o : Option Crossing) → k.crossings q ≡ o → (l : ℕ) → leaving o (own (side k q)) w ≡ Some l → ⊥
      go None e l h = none_some refl h
      go (Some x) e l h = let f = leaving_from x (own (side k q)) w l h in none_some (own-apart k lev q f.0 l x e f.2) (sym (ap (k.behind.cells q) f.1) ∙ b)

  -- what leaves in this slot stands at the end, behind
  pub delivery_same : (q : ℕ) → delivery_of (joined k) q ≡ delivery_of k.behind q
  delivery_same q = go (leaving (k.crossings q) (own (side k q)) k.behind.slot) refl
    where
      here_none : (o : Option Crossing) (l : ℕ) → k.crossings q ≡ o → leaving o (own (side k q)) k.behind.slot ≡ Some l → k.behind.cells q k.behind.slot ≡ None
      here_none None l e h = absurd (none_some refl h)
      here_none (Some x) l e h = let f = leaving_from x (own (side k q)) k.behind.slot l h in ap (k.behind.cells q) f.1 ∙ own-apart k lev q f.0 l x e f.2

      go : (a : Option ℕ) → leaving (k.crossings q) (own (side k q)) k.behind.slot ≡ a → delivery_of (joined k) q ≡ delivery_of k.behind q
      go None e = ap (arrived (joined k).links) (seen_behind (side k q) k.behind.slot e) ∙ arrived-deeper k.link k.behind.links (k.behind.cells q k.behind.slot)
      go (Some l) e = ap (λ a. arrived (joined k).links (standing a (k.behind.cells q k.behind.slot))) e ∙ sym (ap (arrived k.behind.links) (here_none (k.crossings q) l refl e))

  module _ (ss zs : List (Option Header)) (beyond : (j : ℕ) → suc k.number ≤ j → get_or ss j None ≡ get_or zs j None) where
    -- a cell behind moves on alike, seen from here
    deep_after : (q w : ℕ) → deeper (cell_after k.behind ss q w (k.behind.cells q w)) ≡ cell_after (joined k) zs q w (deeper (k.behind.cells q w))
    deep_after q w = go (k.behind.cells q w) refl
      where
        bounds_deep : (x : Option Crossing) (t : Terms) (l m : ℕ) → placed l (further (moved (suc k.number) k.behind.links t.bounds zs k.behind.slot q w m)) ≡ placed l (moved k.number (k.link ∷ k.behind.links) (bounds_of (from_here x (Some t))) zs k.behind.slot q w (suc m))
        bounds_deep None t l m = refl
        bounds_deep (Some x) t l m = refl

        go : (o : Option Place) → k.behind.cells q w ≡ o → deeper (cell_after k.behind ss q w o) ≡ cell_after (joined k) zs q w (deeper o)
        go None e = refl
        go (Some z) e =
            let t = cell_terms k.behind lb ss q w z e in
            deeper-placed z.label (moved k.behind.first k.behind.links (bounds_of (k.behind.contracts q)) ss k.behind.slot q w z.hop)
            ∙ (λ i. placed z.label (further (moved (lev.numbers i) k.behind.links (bounds_of (t.1 i)) ss k.behind.slot q w z.hop)))
            ∙ ap (λ o. placed z.label (further o)) (moved_cong (suc k.number) k.behind.links t.0.bounds ss zs k.behind.slot q w z.hop beyond)
            ∙ bounds_deep (k.crossings q) t.0 z.label z.hop
            ∙ sym (ap (λ o. placed z.label (moved k.number (k.link ∷ k.behind.links) (bounds_of (from_here (k.crossings q) o)) zs k.behind.slot q w (suc z.hop))) t.1)

    module _ (m : Meaning) (w : ℕ → ℕ → Option ℕ) (xs : ℕ → Option Crossing) (bc : ℕ → ℕ → Option Place) where
      -- the parts after the tick: what the path behind has of contracts is what its tick left
      abbrev pub after_parts : Parts
      after_parts = record {
        number = k.number;
        link = k.link;
        sched = m;
        waits = w;
        crossings = xs;
        behind = record { slot = k.behind.slot + 1; first = k.behind.first; links = k.behind.links; contracts = (ticked k.behind ss).contracts; cells = bc };
      }

      -- a cell that stood here stays, and the send table does not name it; or it is named and stands behind
      pub data Fate (q a l : ℕ) (x : Crossing) : Type 0 where
        stayed : own (side after_parts q) a ≡ Some l → names (get_or zs k.number None) k.behind.slot q (due a x.bound.0) ≡ false → Fate q a l x
        sent : own (side after_parts q) a ≡ None → names (get_or zs k.number None) k.behind.slot q (due a x.bound.0) ≡ true
            → bc q (a + x.constant.0) ≡ Some (record { label = l; hop = next (bounds_of (k.behind.contracts q)) }) → Fate q a l x

      pub record Outcome : Type 0 where
        pub same : (q : ℕ) (x : Crossing) → k.crossings q ≡ Some x → (x' : Crossing) × (xs q ≡ Some x') × Same x x'
        pub none : (q : ℕ) → k.crossings q ≡ None → xs q ≡ None
        pub fate : (q a l : ℕ) (x : Crossing) → k.crossings q ≡ Some x → own (side k q) a ≡ Some l → Fate q a l x
        pub stood : (q a l : ℕ) → own (side after_parts q) a ≡ Some l → is_some (own (side k q) a) ≡ true
        pub others : (q v : ℕ) → leaving (k.crossings q) (own (side k q)) v ≡ None → bc q v ≡ (ticked k.behind ss).cells q v

      module _ (out : Outcome) where
        -- one behind, and none here
        cells_behind : (q v : ℕ) → leaving (k.crossings q) (own (side k q)) v ≡ None → leaving (xs q) (own (side after_parts q)) v ≡ None → seen (side after_parts q) v ≡ cell_after (joined k) zs q v (seen (side k q) v)
        cells_behind q v a b =
            seen_behind (side after_parts q) v b
            ∙ ap deeper (out.others q v a)
            ∙ deep_after q v
            ∙ ap (cell_after (joined k) zs q v) (sym (seen_behind (side k q) v a))

        none_after : (q v : ℕ) (x x' : Crossing) → k.crossings q ≡ Some x → Same x x' → leaving (Some x) (own (side k q)) v ≡ None → leaving (Some x') (own (side after_parts q)) v ≡ None
        none_after q v x x' e s h = none_of (leaving (Some x') (own (side after_parts q)) v) (λ l r.
            let f = leaving_from x' (own (side after_parts q)) v l r in
            let o = some_is (own (side k q) f.0) (out.stood q f.0 l f.2) in
            none_some h (ap (leaving (Some x) (own (side k q))) (f.1 ∙ ap (λ n. f.0 + n) s.constants) ∙ leaving_at x (own (side k q)) f.0 ∙ o.1))

        -- where a cell that stood here goes
        tick_here : (q a l : ℕ) (x : Crossing) → k.crossings q ≡ Some x → cell_after (joined k) zs q (a + x.constant.0) (Some (record { label = l; hop = 0 }))
            ≡ Some (record { label = l; hop = cond (names (get_or zs k.number None) k.behind.slot q (due a x.bound.0)) (suc (next (bounds_of (k.behind.contracts q)))) 0 })
        tick_here q a l x e =
            let b = both_of k lev q x e in
            ap (λ o. placed l (moved k.number (joined k).links (bounds_of o) zs k.behind.slot q (a + x.constant.0) 0)) (contract_here k lev q x e)
            ∙ (λ i. Some (record { label = l; hop = cond (names (get_or zs k.number None) k.behind.slot q ((sym (ap (λ o. deadline (joined k).links (bounds_of o) (a + x.constant.0) 0) (contract_here k lev q x e)) ∙ deadline_here q a x e) i)) (suc (next (bounds_of (sym b.terms_is i)))) 0 }))

        cells_here : (q a l : ℕ) (x x' : Crossing) → k.crossings q ≡ Some x → xs q ≡ Some x' → Same x x' → own (side k q) a ≡ Some l → Fate q a l x
            → seen (side after_parts q) (a + x.constant.0) ≡ cell_after (joined k) zs q (a + x.constant.0) (Some (record { label = l; hop = 0 }))
        cells_here q a l x x' e e' s o (stayed o' f) =
            ap (λ n. seen (side after_parts q) (a + n)) (sym s.constants)
            ∙ seen-own (side after_parts q) x' a l e' o'
            ∙ sym (tick_here q a l x e ∙ ap (λ b. Some (record { label = l; hop = cond b (suc (next (bounds_of (k.behind.contracts q)))) 0 })) f)
        cells_here q a l x x' e e' s o (sent o' f b) =
            seen_behind (side after_parts q) (a + x.constant.0) (ap (λ y. leaving y (own (side after_parts q)) (a + x.constant.0)) e' ∙ ap (λ n. leaving (Some x') (own (side after_parts q)) (a + n)) (sym s.constants) ∙ leaving_at x' (own (side after_parts q)) a ∙ o')
            ∙ ap deeper b
            ∙ sym (tick_here q a l x e ∙ ap (λ b. Some (record { label = l; hop = cond b (suc (next (bounds_of (k.behind.contracts q)))) 0 })) f)

        cells_after : (q v : ℕ) → seen (side after_parts q) v ≡ cell_after (joined k) zs q v (seen (side k q) v)
        cells_after q v = by_crossing (k.crossings q) refl
          where
            by_own : (x x' : Crossing) → k.crossings q ≡ Some x → xs q ≡ Some x' → Same x x' → (o : Option ℕ) → leaving (Some x) (own (side k q)) v ≡ o → seen (side after_parts q) v ≡ cell_after (joined k) zs q v (seen (side k q) v)
            by_own x x' e e' s None h = cells_behind q v (ap (λ y. leaving y (own (side k q)) v) e ∙ h) (ap (λ y. leaving y (own (side after_parts q)) v) e' ∙ none_after q v x x' e s h)
            by_own x x' e e' s (Some l) h =
                let f = leaving_from x (own (side k q)) v l h in
                subst (λ v. seen (side after_parts q) v ≡ cell_after (joined k) zs q v (seen (side k q) v)) (sym f.1)
                (cells_here q f.0 l x x' e e' s f.2 (out.fate q f.0 l x e f.2) ∙ ap (cell_after (joined k) zs q (f.0 + x.constant.0)) (sym (seen-own (side k q) x f.0 l e f.2)))

            by_crossing : (o : Option Crossing) → k.crossings q ≡ o → seen (side after_parts q) v ≡ cell_after (joined k) zs q v (seen (side k q) v)
            by_crossing None e = cells_behind q v (ap (λ y. leaving y (own (side k q)) v) e) (ap (λ y. leaving y (own (side after_parts q)) v) (out.none q e))
            by_crossing (Some x) e = let y = out.same q x e in by_own x y.0 e y.1 y.2 (leaving (Some x) (own (side k q)) v) refl

        contracts_after : (q : ℕ) → from_here (xs q) ((ticked k.behind ss).contracts q) ≡ noted ((joined k).contracts q) (delivery_of (joined k) q) k.behind.slot
        contracts_after q = from_noted (k.crossings q) (xs q) (k.behind.contracts q) (delivery_of k.behind q) k.behind.slot (alike (k.crossings q) refl) ∙ ap (λ d. noted ((joined k).contracts q) d k.behind.slot) (sym (delivery_same q))
          where
            alike : (o : Option Crossing) → k.crossings q ≡ o → (t : Terms) → from_here (xs q) (Some t) ≡ from_here (k.crossings q) (Some t)
            alike None e t = (λ i. from_here ((out.none q e ∙ sym e) i) (Some t))
            alike (Some x) e t =
                let y = out.same q x e in
                ap (λ o. from_here o (Some t)) y.1
                ∙ (λ i. Some (record { spacing = t.spacing; bounds = y.2.bound i ∷ t.bounds; lead = y.2.lead i; last = t.last }))
                ∙ ap (λ o. from_here o (Some t)) (sym e)

        -- the path is one slot on
        pub joined_after : joined after_parts ≡ ticked (joined k) zs
        joined_after = λ i. record {
          slot = k.behind.slot + 1;
          first = k.number;
          links = k.link ∷ k.behind.links;
          contracts = λ q. contracts_after q i;
          cells = λ q v. cells_after q v i;
        }

        -- and it keeps its laws, if no cell is overdue at this hop or behind
        pub lawful_after : k.behind.slot ≤ last_slot → ((q : ℕ) → Agrees (k.behind.slot + 1) k.link k.behind.links (side after_parts q)) → m.slot ≡ k.behind.slot + 1 → Honest m → Lawful after_parts.behind → Lawful (joined after_parts)
        lawful_after le agree slots hon law = subst Lawful (sym joined_after) (lawful_ticked (joined k) lev.lawful zs le in_time)
          where
            by_sight : (q v : ℕ) (t : Terms) (y : Place) → (joined k).contracts q ≡ Some t → Sight (side after_parts q) v y → k.behind.slot + 1 ≤ deadline (k.link ∷ k.behind.links) t.bounds v y.hop
            by_sight q v t y c (here x' a l e d o) = by_crossing (k.crossings q) refl
              where
                b : Both k.link k.behind.links x' (m.contracts q) ((ticked k.behind ss).contracts q)
                b = both k.link k.behind.links x' (xs q) (m.contracts q) ((ticked k.behind ss).contracts q) (agree q).tied e

                due_by : Stand (side after_parts q) a l → k.behind.slot + 1 ≤ due a x'.bound.0
                due_by (waiting h) = omega (arith, (agree q).window a l h, x'.bounded)
                due_by (holding h i) = omega (arith, hon.timely q a l b.contract i b.contract_is, b.ties.bound, slots)

                by_crossing : (z : Option Crossing) → k.crossings q ≡ z → k.behind.slot + 1 ≤ deadline (k.link ∷ k.behind.links) t.bounds v 0
                by_crossing None f = absurd (none_some (out.none q f) e)
                by_crossing (Some x) f =
                    let z = out.same q x f in
                    let s : Same x x' = subst (Same x) (some_same z.1 e) z.2 in
                    let at : v ≡ a + x.constant.0 = d ∙ ap (λ n. a + n) s.constants in
                    let is = ap (λ o. deadline (k.link ∷ k.behind.links) (bounds_of o) v 0) (sym c) ∙ ap (λ v. deadline (k.link ∷ k.behind.links) (bounds_of ((joined k).contracts q)) v 0) at ∙ deadline_here q a x f in
                    omega (arith, is, due_by (stand (side after_parts q) a l o), s.bound)
            by_sight q v t y c (there z n b) = by_terms (k.behind.contracts q) refl
              where
                by_terms : (o : Option Terms) → k.behind.contracts q ≡ o → k.behind.slot + 1 ≤ deadline (k.link ∷ k.behind.links) t.bounds v (suc z.hop)
                by_terms None f = absurd (none_some (law.owned q v (ap (λ o. noted o (delivery_of k.behind q) k.behind.slot) f)) b)
                by_terms (Some t₀) f =
                    let u = noted_bounds (delivery_of k.behind q) k.behind.slot t₀ in
                    let i = (law.stands q v u.0 z (ap (λ o. noted o (delivery_of k.behind q) k.behind.slot) f ∙ u.1) b).in_time in
                    let is = deeper-deadline (k.crossings q) t₀ t v z.hop (sym (ap (from_here (k.crossings q)) f) ∙ c) in
                    omega (arith, i, is, ap (λ ds. deadline k.behind.links ds v z.hop) u.2)

            in_time : (q v : ℕ) (t : Terms) (y : Place) → (joined k).contracts q ≡ Some t → (ticked (joined k) zs).cells q v ≡ Some y → k.behind.slot + 1 ≤ deadline (k.link ∷ k.behind.links) t.bounds v y.hop
            in_time q v t y c e = by_sight q v t y c (sight (side after_parts q) v y (cells_after q v ∙ e))

  -- the bounds of a party behind, seen from here
  bounds_deeper : (q : ℕ) (t : Terms) → k.behind.contracts q ≡ Some t → (d : ℕ) × (bounds_of ((joined k).contracts q) ≡ d ∷ t.bounds)
  bounds_deeper q t e = go (k.crossings q) refl
    where
      go : (o : Option Crossing) → k.crossings q ≡ o → (d : ℕ) × (bounds_of ((joined k).contracts q) ≡ d ∷ t.bounds)
      go None f = (0, (λ i. bounds_of (from_here (f i) (e i))))
      go (Some x) f = (x.bound.0, (λ i. bounds_of (from_here (f i) (e i))))

  -- what a hop behind may send, it may send as a hop of this path
  may_send_behind : (ss : List (Option Header)) (j : ℕ) (y : Header) → MaySend k.behind j y → MaySend (joined k) (suc j) y
  may_send_behind ss j y s =
      let q = y.party in
      let t = cell_terms k.behind lb ss q s.leaving _ s.stands in
      let b = bounds_deeper q t.0 t.1 in
      let c = ap bounds_of t.1 in
      record {
        leaving = s.leaving;
        stands = seen_behind (side k q) s.leaving (not_own q s.leaving _ s.stands) ∙ ap deeper s.stands;
        at_hop = s.at_hop;
        ready = subst (λ ds. eligible (joined k).links ds s.leaving (suc j) ≤ k.behind.slot) (sym b.1) (subst (λ ds. eligible k.behind.links ds s.leaving j ≤ k.behind.slot) c s.ready);
        ahead = ap (λ ds. deadline (joined k).links ds s.leaving (suc j)) b.1 ∙ ap (λ ds. deadline k.behind.links ds s.leaving j) (sym c) ∙ s.ahead;
      }

  -- what this hop may send: a cell that stands here and is eligible
  pub may_send_here : (q a l : ℕ) (x : Crossing) (y : Header) → k.crossings q ≡ Some x → own (side k q) a ≡ Some l → a ≤ k.behind.slot → y.party ≡ q → y.label ≡ l → k.behind.slot + y.ahead.0 ≡ due a x.bound.0 → MaySend (joined k) 0 y
  may_send_here q a l x y e o le p i h = record {
    leaving = a + x.constant.0;
    stands = ap (λ q. (joined k).cells q (a + x.constant.0)) p ∙ seen-own (side k q) x a l e o ∙ ap (λ l. Some (record { label = l; hop = 0 })) (sym i);
    at_hop = refl;
    ready = subst (λ q. eligible (joined k).links (bounds_of ((joined k).contracts q)) (a + x.constant.0) 0 ≤ k.behind.slot) (sym p) (subst (λ n. n ≤ k.behind.slot) (sym (eligible_here q a x e)) le);
    ahead = ap (λ q. deadline (joined k).links (bounds_of ((joined k).contracts q)) (a + x.constant.0) 0) p ∙ deadline_here q a x e ∙ sym h;
  }

  -- the send table, with this hop's entry
  pub sent_after : (old ss zs : List (Option Header)) → Sent k.behind old ss → ((j : ℕ) → (j ≡ k.number → ⊥) → get_or zs j None ≡ get_or ss j None) → ((y : Header) → get_or zs k.number None ≡ Some y → MaySend (joined k) 0 y) → Sent (joined k) old zs
  sent_after old ss zs s other own-entry = record {
    front = λ j h. other j (λ e. omega arith) ∙ s.front j (omega (arith, lev.numbers));
    sends = sends;
  }
    where
      sends : (j : ℕ) (y : Header) → get_or zs (k.number + j) None ≡ Some y → MaySend (joined k) j y
      sends zero y e = own-entry y (sym (ap (λ n. get_or zs n None) (let z : k.number + 0 ≡ k.number = omega arith in z)) ∙ e)
      sends (suc j) y e =
          let at : k.number + suc j ≡ k.behind.first + j = omega (arith, lev.numbers) in
          may_send_behind ss j y (s.sends j y (sym (ap (λ n. get_or ss n None) at) ∙ sym (other (k.number + suc j) (λ q. omega arith)) ∙ e))
