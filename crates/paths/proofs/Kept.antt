-- What each call keeps of the laws.
use Rattle.std.proofs.Common.{◌≡◌, ℕ, zero, suc, ◌+◌, ◌<◌, ◌≤◌, Bool, true, false, cond, not, ◌||◌, eqb, ltb, ◌⊎◌, List, [], ◌∷◌, length, get_or, is_some, Some, None, Option, sym, refl, ap, ◌∙◌, subst, inl, inr, arith}
use Rattle.std.proofs.lemmas.Bool.{both_ways, cases_eq, cond_both, eqb-true, ltb-true, ltb-false}
use Rattle.cells.specs.declared.faults.Fault.{Fault}
use Rattle.cells.specs.declared.times.Span.{Span}
use Rattle.header.specs.declared.Header.{Header}
use Rattle.scheduler.specs.Meaning.{last_slot, outside, updated}
use Rattle.paths.specs.Route.{Route, Terms, Place, fresh, constant, rest, deadline, at_end, next, moved, placed, bounds_of, entered, cell_after, arrived, delivery_of, noted, ticked}
use Rattle.paths.specs.Laws.{Lawful, InRange, Stands}
use Rattle.paths.specs.Verdicts.{refused_if, refused_at, holds_of, holds_any, bound, bad_bound, own_number, bad_hop, bounds_from, grant_rule, granted, withdrawn, out_of_window, crowded, arrival_rule}
use Rattle.paths.proofs.Present.{none_some, holds_none, any_none, clear_last, clear_cell, within_apart}
use Rattle.paths.proofs.Ways.{Step, waits, stays, goes, step_is, end_at, deadline_next, deadline_most, next_within, next_crossed, rest_next}

-- a new path
pub lawful_fresh : (n : ℕ) (gs : List ℕ) → n + length gs ≤ 8 → ((k : ℕ) → get_or gs k 0 ≤ 63) → Lawful (fresh n gs)
lawful_fresh n gs h links = record {
  slots = omega arith;
  hops = h;
  links = links;
  parties = λ p _. refl;
  terms = λ p t e. absurd (none_some refl e);
  owned = λ p v _. refl;
  stands = λ p v t x e _. absurd (none_some refl e);
  spaced = λ p v w t x y e _ _ _. absurd (none_some refl e);
  since = λ p u v t x e _ _. absurd (none_some refl e);
}

-- a verdict of consent: no test refused
pub consents : (b : Bool) (f : Fault) (v : Option Fault) → refused_if b f v ≡ None → (b ≡ false) × (v ≡ None)
consents true f v e = absurd (none_some e refl)
consents false f v e = (refl, e)

pub consents_at : (o : Option ℕ) (p : ℕ) (v : Option Fault) → refused_at o p v ≡ None → (o ≡ None) × (v ≡ None)
consents_at None p v e = (refl, e)
consents_at (Some k) p v e = absurd (none_some e refl)

pub no_first : (b : Bool) (n : ℕ) (o : Option ℕ) → cond b (Some n) o ≡ None → (b ≡ false) × (o ≡ None)
no_first true n o e = absurd (none_some e refl)
no_first false n o e = (refl, e)

pub inside : (lo hi x : ℕ) → outside lo hi x ≡ false → (lo ≤ x) × (x ≤ hi)
inside lo hi x = cond_both (ltb x lo) true (ltb hi x) (λ b. b ≡ false → (lo ≤ x) × (x ≤ hi)) (λ _ e. absurd (both_ways true e refl)) (λ a b. (ltb-false x lo a, ltb-false hi x b))

-- the bounds that no hop refused
pub bounds_whole : (n : ℕ) (gs : List ℕ) (bs : List Span) → length (bounds_from n gs bs) ≡ length gs
bounds_whole n [] bs = refl
bounds_whole n (g ∷ gs) bs = ap suc (bounds_whole (suc n) gs bs)

pub bounds_good : (n : ℕ) (gs : List ℕ) (bs : List Span) → bad_bound n gs bs ≡ None → (k : ℕ) → get_or (bounds_from n gs bs) k 0 ≤ 128
bounds_good n [] bs e k = omega arith
bounds_good n (g ∷ gs) bs e zero = ltb-false 128 (bound bs n) (no_first (ltb 128 (bound bs n)) n (bad_bound (suc n) gs bs) e).0
bounds_good n (g ∷ gs) bs e (suc k) = bounds_good (suc n) gs bs (no_first (ltb 128 (bound bs n)) n (bad_bound (suc n) gs bs) e).1 k

-- a path with other contracts and cells
abbrev with_parts : Route → (ℕ → Option Terms) → (ℕ → ℕ → Option Place) → Route
with_parts r cs xs = record { slot = r.slot; first = r.first; links = r.links; contracts = cs; cells = xs }

module _ (r : Route) (cs : ℕ → Option Terms) (xs : ℕ → ℕ → Option Place) where
  range_with : (t : Terms) → InRange r t → InRange (with_parts r cs xs) t
  range_with t i = record {
    spacing_least = i.spacing_least;
    spacing_most = i.spacing_most;
    lead_least = i.lead_least;
    lead_most = i.lead_most;
    whole = i.whole;
    bounds_most = i.bounds_most;
    over = i.over;
  }

  stands_with : (t : Terms) (v k : ℕ) → Stands r t v k → Stands (with_parts r cs xs) t v k
  stands_with t v k s = record { hop = s.hop; crossed = s.crossed; way = s.way; in_time = s.in_time; known = s.known }

-- the contract of a party without cells is another, or none
module _ (r : Route) (law : Lawful r) (p : ℕ) (o : Option Terms) (clear : (v : ℕ) → r.cells p v ≡ None) where
  spared : (q v : ℕ) (t : Terms) (x : Place) → updated r.contracts p o q ≡ Some t → r.cells q v ≡ Some x → r.contracts q ≡ Some t
  spared q v t x =
      cond_both (eqb q p) o (r.contracts q) (λ c. c ≡ Some t → r.cells q v ≡ Some x → r.contracts q ≡ Some t)
      (λ e _ i. absurd (none_some (clear v) (ap (λ q. r.cells q v) (sym (eqb-true q p e)) ∙ i)))
      (λ _ c _. c)

  recontracted : (15 < p → o ≡ None) → ((t : Terms) → o ≡ Some t → InRange r t) → Lawful (with_parts r (updated r.contracts p o) r.cells)
  recontracted high range = record {
    slots = law.slots;
    hops = law.hops;
    links = law.links;
    parties = λ q h. cond_both (eqb q p) o (r.contracts q) (λ c. c ≡ None) (λ e. (let b = eqb-true q p e in high (omega arith))) (λ _. law.parties q h);
    terms = λ q t c. range_with r _ _ t (cond_both (eqb q p) o (r.contracts q) (λ c. c ≡ Some t → InRange r t) (λ _. range t) (λ _. law.terms q t) c);
    owned = λ q v.
        cond_both (eqb q p) o (r.contracts q) (λ c. c ≡ None → r.cells q v ≡ None)
        (λ e _. ap (λ q. r.cells q v) (eqb-true q p e) ∙ clear v)
        (λ _. law.owned q v);
    stands = λ q v t x c i. stands_with r _ _ t v x.hop (law.stands q v t x (spared q v t x c i) i);
    spaced = λ q v w t x y c i. law.spaced q v w t x y (spared q v t x c i) i;
    since = λ q u v t x c l i. law.since q u v t x (spared q v t x c i) l i;
  }

-- a grant
pub lawful_granted : (r : Route) → Lawful r → (p s : ℕ) (bs : List Span) (lead : ℕ) → grant_rule r p s bs lead None ≡ None → Lawful (granted r p s bs lead)
lawful_granted r law p s bs lead e =
    let a = consents (ltb 15 p) _ _ e in
    let b = consents (is_some (r.contracts p)) _ _ a.1 in
    let c = consents (outside 1 1024 s) _ _ b.1 in
    let d = consents_at (bad_hop r.first r.links bs lead) p _ c.1 in
    let f = consents (holds_any r) _ _ d.1 in
    let low = ltb-false 15 p a.0 in
    let s-in = inside 1 1024 s c.0 in
    let g = no_first (outside 1 191 lead) (own_number r.first r.links) (bad_bound r.first r.links bs) d.0 in
    let l-in = inside 1 191 lead g.0 in
    let new : InRange r (record { spacing = s; bounds = bounds_from r.first r.links bs; lead = lead; last = None }) = record {
      spacing_least = s-in.0;
      spacing_most = s-in.1;
      lead_least = l-in.0;
      lead_most = l-in.1;
      whole = bounds_whole r.first r.links bs;
      bounds_most = bounds_good r.first r.links bs g.1;
      over = λ u q. absurd (none_some refl q);
    } in
    recontracted r law p _ (any_none r law f.0 p) (λ h. absurd (omega arith)) (λ t q. (subst (InRange r) (cc) new))

-- the terms of a grant that the rule passes are in range
pub terms_good : (r : Route) (p s : ℕ) (bs : List Span) (lead : ℕ) → grant_rule r p s bs lead None ≡ None → not (outside 1 1024 s || outside 1 191 lead) ≡ true
terms_good r p s bs lead e =
    let a = consents (ltb 15 p) _ _ e in
    let b = consents (is_some (r.contracts p)) _ _ a.1 in
    let c = consents (outside 1 1024 s) _ _ b.1 in
    let d = consents_at (bad_hop r.first r.links bs lead) p _ c.1 in
    let g = no_first (outside 1 191 lead) (own_number r.first r.links) (bad_bound r.first r.links bs) d.0 in
    ap (λ b. not (b || outside 1 191 lead)) c.0 ∙ ap not g.0

-- and so is the party
pub party_good : (r : Route) (p s : ℕ) (bs : List Span) (lead : ℕ) → grant_rule r p s bs lead None ≡ None → p ≤ 15
party_good r p s bs lead e = ltb-false 15 p (consents (ltb 15 p) _ _ e).0

-- a withdrawal
pub lawful_withdrawn : (r : Route) → Lawful r → (p : ℕ) → holds_of r p ≡ false → Lawful (withdrawn r p)
lawful_withdrawn r law p h = recontracted r law p None (holds_none r law p h) (λ _. refl) (λ t e. absurd (none_some refl e))

pub is_none : {X : Type 0} (o : Option X) → ((x : X) → o ≡ Some x → ⊥) → o ≡ None
is_none None h = refl
is_none (Some x) h = absurd (h x refl)

pub in_window : (t lead e : ℕ) → out_of_window t lead e ≡ false → (t ≤ e) × (e < t + lead)
in_window t lead e =
    cond_both (ltb e t) true (cond (ltb e (t + lead)) false true) (λ b. b ≡ false → (t ≤ e) × (e < t + lead))
    (λ _ q. absurd (both_ways true q refl))
    (λ a. cond_both (ltb e (t + lead)) false true (λ b. b ≡ false → (t ≤ e) × (e < t + lead)) (λ b _. (ltb-false e t a, ltb-true e (t + lead) b)) (λ _ q. absurd (both_ways true q refl)))

-- one cell more: it is the new one, or was there
pub put_from : (f : ℕ → ℕ → Option Place) (p v q w : ℕ) (x y : Place) → updated f p (updated (f p) v (Some x)) q w ≡ Some y → ((q ≡ p) × (w ≡ v) × (x ≡ y)) ⊎ (f q w ≡ Some y)
put_from f p v q w x y =
    cond_both (eqb q p) (updated (f p) v (Some x)) (f q) (λ g. g w ≡ Some y → ((q ≡ p) × (w ≡ v) × (x ≡ y)) ⊎ (f q w ≡ Some y))
    (λ e. (let a = eqb-true q p e in
    cond_both (eqb w v) (Some x) (f p w) (λ o. o ≡ Some y → ((q ≡ p) × (w ≡ v) × (x ≡ y)) ⊎ (f q w ≡ Some y))
    (λ d i. inl (a, eqb-true w v d, cc))
    (λ _ i. inr (ap (λ q. f q w) a ∙ i))))
    (λ _ i. inr i)

-- the path with a cell that enters under these terms, if any
abbrev put_in : Route → ℕ → ℕ → ℕ → Option Terms → Route
put_in r p e l o = with_parts r r.contracts (updated r.cells p (updated (r.cells p) (e + constant r.links (bounds_of o)) (Some (record { label = l; hop = next (bounds_of o) }))))

-- an entry
pub lawful_entered : (r : Route) → Lawful r → (p e l : ℕ) (t : Terms) → r.contracts p ≡ Some t → arrival_rule r (Some t) p e ≡ None → Lawful (entered r p e l)
lawful_entered r law p e l t has rule = subst (λ o. Lawful (put_in r p e l o)) (sym has) (record {
  slots = law.slots;
  hops = law.hops;
  links = law.links;
  parties = law.parties;
  terms = λ q s c. range_with r _ _ s (law.terms q s c);
  owned = λ q w c. is_none _ (λ y i. elim (from q w y i) [
    | inl a ↦ none_some (ap r.contracts (sym a.0) ∙ c) has
    | inr a ↦ none_some (law.owned q w c) a
  ]);
  stands = λ q w s y c i. stands_with r _ _ s w y.hop (elim (from q w y i) [
    | inl a ↦
        let k : t ≡ s = same q s a.0 c in
        subst (λ y. Stands r s w y.hop) a.2 (subst (λ w. Stands r s w (next t.bounds)) (sym a.1) (subst (λ s. Stands r s v (next t.bounds)) k stands))
    | inr a ↦ law.stands q w s y c a
  ]);
  spaced = λ q w u s x y c i j h. elim (from q w x i) [
    | inl a ↦ elim (from q u y j) [
      | inl b ↦ absurd (let d = a.1 in let f = b.1 in omega arith)
      | inr b ↦ elim (apart q u s y a.0 c b) [ inl d ↦ absurd (let f = a.1 in omega arith) | inr d ↦ (let f = a.1 in omega arith) ]
    ]
    | inr a ↦ elim (from q u y j) [
      | inl b ↦ elim (apart q w s x b.0 c a) [ inl d ↦ (let f = b.1 in omega arith) | inr d ↦ absurd (let f = b.1 in omega arith) ]
      | inr b ↦ law.spaced q w u s x y c a b h
    ]
  ];
  since = λ q u w s x c d i. elim (from q w x i) [
    | inl a ↦ (let f = a.1 in let g = later q u s a.0 c d in omega arith)
    | inr a ↦ law.since q u w s x c d a
  ];
})
  where
    window : (r.slot ≤ e) × (e < r.slot + t.lead)
    window = in_window r.slot t.lead e (consents (out_of_window r.slot t.lead e) _ _ rule).0

    v : ℕ
    v = e + constant r.links t.bounds

    new : Place
    new = record { label = l; hop = next t.bounds }

    from : (q w : ℕ) (y : Place) → updated r.cells p (updated (r.cells p) v (Some new)) q w ≡ Some y → ((q ≡ p) × (w ≡ v) × (new ≡ y)) ⊎ (r.cells q w ≡ Some y)
    from q w y = put_from r.cells p v q w new y

    same : (q : ℕ) (s : Terms) → q ≡ p → r.contracts q ≡ Some s → t ≡ s
    same q s a c = let b = sym has ∙ ap r.contracts (sym a) ∙ c in cc

    clear : crowded r t p v ≡ false
    clear = (consents (crowded r t p v) _ _ (consents (out_of_window r.slot t.lead e) _ _ rule).1).0

    range : InRange r t
    range = law.terms p t has

    stands : Stands r t v (next t.bounds)
    stands = record {
      hop = next_within r.links t.bounds range.whole;
      crossed = next_crossed r.links t.bounds range.whole;
      way = omega (arith, rest_next r.links t.bounds range.whole);
      in_time = omega (arith, window.0, deadline_next r.links t.bounds e range.whole);
      known = omega (arith, window.1);
    }

    apart : (q w : ℕ) (s : Terms) (y : Place) → q ≡ p → r.contracts q ≡ Some s → r.cells q w ≡ Some y → (w + s.spacing ≤ v) ⊎ (v + s.spacing ≤ w)
    apart q w s y a c i = subst (λ s. (w + s.spacing ≤ v) ⊎ (v + s.spacing ≤ w)) (same q s a c) (within_apart t.spacing v w (clear_cell r t p v w y clear (ap (λ q. r.cells q w) (sym a) ∙ i)))

    later : (q u : ℕ) (s : Terms) → q ≡ p → r.contracts q ≡ Some s → s.last ≡ Some u → u + s.spacing ≤ v
    later q u s a c = subst (λ s. s.last ≡ Some u → u + s.spacing ≤ v) (same q s a c) (λ d.
        elim (within_apart t.spacing v u (clear_last r t p v u clear d)) [ inl f ↦ f | inr f ↦ absurd (omega (arith, range.over u d, window.0)) ])

-- the terms after slot s, in which d was delivered
abbrev since_slot : Option ℕ → ℕ → Terms → Terms
since_slot d s t = record { spacing = t.spacing; bounds = t.bounds; lead = t.lead; last = elim d [ None ↦ t.last | Some l ↦ Some s ] }

noted_is : (d : Option ℕ) (s : ℕ) (t : Terms) → noted (Some t) d s ≡ Some (since_slot d s t)
noted_is None s t = refl
noted_is (Some l) s t = refl

not_noted : (o : Option Terms) (d : Option ℕ) (s : ℕ) → noted o d s ≡ None → o ≡ None
not_noted None d s e = refl
not_noted (Some t) d s e = absurd (none_some e (noted_is d s t))

last_from : (d : Option ℕ) (s u : ℕ) (t : Terms) → (since_slot d s t).last ≡ Some u → (t.last ≡ Some u) ⊎ ((l : ℕ) × (d ≡ Some l) × (u ≡ s))
last_from None s u t e = inl e
last_from (Some l) s u t e = inr (l, refl, cc)

-- the cell that was delivered stood at the end
arrived_from : (gs : List ℕ) (o : Option Place) (l : ℕ) → arrived gs o ≡ Some l → (x : Place) × (o ≡ Some x) × (at_end gs x.hop ≡ true)
arrived_from gs None l = λ e. absurd (none_some refl e)
arrived_from gs (Some x) l =
    cond_both (at_end gs x.hop) (Some x.label) None (λ o. o ≡ Some l → (y : Place) × (Some x ≡ Some y) × (at_end gs y.hop ≡ true))
    (λ a _. (x, refl, a))
    (λ _ e. absurd (none_some refl e))

-- what holds of the terms as they are noted
by_terms : (P : Terms → Type 0) (o : Option Terms) (d : Option ℕ) (s : ℕ) (n : Terms) → noted o d s ≡ Some n → ((t : Terms) → o ≡ Some t → P (since_slot d s t)) → P n
by_terms P None d s n e h = absurd (none_some refl e)
by_terms P (Some t) d s n e h = subst P (let q = noted_is d s t in cc) (h t refl)

-- a cell after a tick stood there before
record Came (r : Route) (ss : List (Option Header)) (p v : ℕ) (t : Terms) (y : Place) : Type 0 where
  old : Place
  was : r.cells p v ≡ Some old
  stood : Stands r t v old.hop
  step : Step r.first r.links t.bounds ss r.slot p v old.hop (Some y.hop)

-- what a step keeps of where a cell may stand; at the end it waits only for slot v
record Stepped (gs ds : List ℕ) (t v k j : ℕ) : Type 0 where
  hop : j ≤ length gs
  crossed : j < length gs → 1 ≤ get_or ds j 0
  nearer : rest gs ds j ≤ rest gs ds k
  waiting : k ≡ length gs → v ≡ t → ⊥

stepped : {n : ℕ} {gs ds : List ℕ} {ss : List (Option Header)} {t p v k j : ℕ} → k ≤ length gs → (k < length gs → 1 ≤ get_or ds k 0) → Step n gs ds ss t p v k (Some j) → Stepped gs ds t v k j
stepped h c (waits a b) = record { hop = h; crossed = c; nearer = omega arith; waiting = λ _. b }
stepped h c (stays a b) = record { hop = h; crossed = c; nearer = omega arith; waiting = λ q _. omega arith }
stepped h c (goes j a b d e f) = record { hop = b; crossed = d; nearer = e; waiting = λ q _. omega arith }

placed_hop : (l : ℕ) (o : Option ℕ) (y : Place) → placed l o ≡ Some y → o ≡ Some y.hop
placed_hop l None y e = absurd (none_some refl e)
placed_hop l (Some k) y e = let q : ◌≡◌ {A = Place} (record { label = l; hop = k }) y = cc in ap (λ y. Some y.hop) q

module _ (r : Route) (law : Lawful r) (ss : List (Option Header)) where
  came : (p v : ℕ) (t : Terms) (y : Place) → r.contracts p ≡ Some t → (ticked r ss).cells p v ≡ Some y → Came r ss p v t y
  came p v t y c e = by (r.cells p v) refl e
    where
      by : (o : Option Place) → r.cells p v ≡ o → cell_after r ss p v o ≡ Some y → Came r ss p v t y
      by None i e = absurd (none_some refl e)
      by (Some x) i e =
          let s = law.stands p v t x c i in
          let m = placed_hop x.label _ y e in
          record {
            old = x;
            was = i;
            stood = s;
            step = subst (Step r.first r.links t.bounds ss r.slot p v x.hop) (ap (λ o. moved r.first r.links (bounds_of o) ss r.slot p v x.hop) (sym c) ∙ m) (step_is r.first r.links t.bounds ss r.slot p v x.hop (law.terms p t c).whole s.hop);
          }

  -- what was delivered left before every cell that is still there
  left_before : (p v l : ℕ) (t : Terms) (y : Place) → r.contracts p ≡ Some t → delivery_of r p ≡ Some l → (ticked r ss).cells p v ≡ Some y → r.slot + t.spacing ≤ v
  left_before p v l t y c d i =
      let b = came p v t y c i in
      let x = arrived_from r.links (r.cells p r.slot) l d in
      let s = b.stood in
      let w = (law.terms p t c).whole in
      let most = deadline_most r.links t.bounds v b.old.hop w s.way in
      elim (cases_eq v r.slot) [
        | inl e ↦
            let o : x.0 ≡ b.old = (let f = sym x.1 ∙ ap (r.cells p) (sym e) ∙ b.was in cc) in
            let k = end_at r.links b.old.hop s.hop (ap (λ x. at_end r.links x.hop) (sym o) ∙ x.2) in
            absurd ((stepped s.hop s.crossed b.step).waiting k e)
        | inr e ↦ law.spaced p r.slot v t x.0 b.old c x.1 b.was (omega arith)
      ]

  -- a tick after which no cell is overdue at its hop
  pub lawful_ticked : r.slot ≤ last_slot → ((p v : ℕ) (t : Terms) (x : Place) → r.contracts p ≡ Some t → (ticked r ss).cells p v ≡ Some x → r.slot + 1 ≤ deadline r.links t.bounds v x.hop) → Lawful (ticked r ss)
  lawful_ticked m due = record {
    slots = omega arith;
    hops = law.hops;
    links = law.links;
    parties = λ p h. ap (λ o. noted o (delivery_of r p) r.slot) (law.parties p h);
    terms = λ p n e. by_terms (InRange (ticked r ss)) (r.contracts p) (delivery_of r p) r.slot n e (λ t c. (let i = law.terms p t c in record {
      spacing_least = i.spacing_least;
      spacing_most = i.spacing_most;
      lead_least = i.lead_least;
      lead_most = i.lead_most;
      whole = i.whole;
      bounds_most = i.bounds_most;
      over = λ u f. elim (last_from (delivery_of r p) r.slot u t f) [ inl a ↦ omega (arith, i.over u a) | inr a ↦ (let b = a.2 in omega arith) ];
    }));
    owned = λ p v e. ap (cell_after r ss p v) (law.owned p v (not_noted (r.contracts p) (delivery_of r p) r.slot e));
    stands = λ p v n y e i. by_terms (λ t. Stands (ticked r ss) t v y.hop) (r.contracts p) (delivery_of r p) r.slot n e (λ t c.
        let b = came p v t y c i in
        let q = stepped b.stood.hop b.stood.crossed b.step in
        record {
          hop = q.hop;
          crossed = q.crossed;
          way = omega (arith, q.nearer, b.stood.way);
          in_time = due p v t y c i;
          known = omega (arith, b.stood.known);
        });
    spaced = λ p v w n x y e i j h. by_terms (λ t. v + t.spacing ≤ w) (r.contracts p) (delivery_of r p) r.slot n e (λ t c.
        law.spaced p v w t _ _ c (came p v t x c i).was (came p w t y c j).was h);
    since = λ p u v n y e f i. by_terms (λ t. t.last ≡ Some u → u + t.spacing ≤ v) (r.contracts p) (delivery_of r p) r.slot n e (λ t c g.
        elim (last_from (delivery_of r p) r.slot u t g) [
          | inl a ↦ law.since p u v t _ c a (came p v t y c i).was
          | inr a ↦ (let b = a.2 in omega (arith, left_before p v a.0 t y c a.1 i))
        ]) f;
  }
