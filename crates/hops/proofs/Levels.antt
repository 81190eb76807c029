-- What a call for one party does to the parts of a hop.
use Rattle.std.proofs.Common.{◌≡◌, ℕ, suc, ◌+◌, ◌-◌, ◌≤◌, cond, eqb, ltb, List, [], ◌∷◌, Some, None, Option, sym, refl, ap, ◌∙◌, subst, inl, inr, arith}
use mathlib.Core.Path.{fun_ext}
use Rattle.std.proofs.lemmas.Bool.{cases_eq, cases_lt, cond_both, cond-true, cond-false, ne_eqb, lt-ltb}
use Rattle.cells.specs.declared.times.Span.{Span}
use Rattle.scheduler.specs.declared.terms.Contract.{Contract}
use Rattle.scheduler.specs.Meaning.{updated, agreed, used, stamped}
use Rattle.scheduler.specs.Meaning.{granted as sched-granted, withdrawn as sched-withdrawn, filled}
use Rattle.paths.specs.Route.{Route, Terms, Place, entered, constant, constant_of, bounds_of, next}
use Rattle.paths.specs.Laws.{Lawful}
use Rattle.paths.specs.Verdicts.{granted, withdrawn, bound, bounds_from}
use Rattle.hops.specs.declared.crossing.Crossing.{Crossing}
use Rattle.hops.specs.Crossed.{Same}
use Rattle.hops.specs.Joined.{Parts, Side, side, own, either, leaving, deeper, standing, seen, from_here, joined}
use Rattle.hops.specs.Level.{Crosses, Tied, Level, Agrees, Unused, Latest}
use Rattle.hops.proofs.Seen.{none_some, uncrossed, Both, constant_here, seen-own, own_none}
use Rattle.hops.proofs.Sides.{at_same, at_other, both_of}
use Rattle.hops.proofs.Enters.{settled_at, wait_side, put_side, own-wait, own-wait_other, own_put_other}

-- two routes of equal parts
pub same_route : (r : Route) (f g : ℕ → Option Terms) (h j : ℕ → ℕ → Option Place) → f ≡ g → h ≡ j → ◌≡◌ {A = Route} (record { slot = r.slot; first = r.first; links = r.links; contracts = f; cells = h }) (record { slot = r.slot; first = r.first; links = r.links; contracts = g; cells = j })
same_route r f g h j a b = λ i. record { slot = r.slot; first = r.first; links = r.links; contracts = a i; cells = b i }

-- the same for the others, and agreement for one
pub level_by : (k z : Parts) (p : ℕ) → Level k → z.sched.slot ≡ z.behind.slot → z.behind.slot ≡ k.behind.slot → z.behind.first ≡ k.behind.first → z.number ≡ k.number → z.link ≡ k.link → z.behind.links ≡ k.behind.links
    → ((q : ℕ) → (q ≡ p → ⊥) → side z q ≡ side k q) → Agrees k.behind.slot k.link k.behind.links (side z p) → Lawful (joined z) → Level z
level_by k z p v s n f m l g others new lawful = record {
  slots = s;
  numbers = f ∙ v.numbers ∙ ap suc (sym m);
  link = subst (λ n. n ≤ 63) (sym l) v.link;
  agrees = λ q. subst (λ n. Agrees n z.link z.behind.links (side z q)) (sym n) (subst (λ n. Agrees k.behind.slot n z.behind.links (side z q)) (sym l) (subst (λ gs. Agrees k.behind.slot k.link gs (side z q)) (sym g) (each q)));
  lawful = lawful;
}
  where
    each : (q : ℕ) → Agrees k.behind.slot k.link k.behind.links (side z q)
    each q = elim (cases_eq q p) [
      | inl e ↦ subst (λ q. Agrees k.behind.slot k.link k.behind.links (side z q)) (sym e) new
      | inr e ↦ subst (Agrees k.behind.slot k.link k.behind.links) (sym (others q e)) (v.agrees q)
    ]

-- what is written for one party
each_party : {X : Type 0} (f g : ℕ → X) (p : ℕ) (x : X) → f p ≡ x → ((q : ℕ) → (q ≡ p → ⊥) → f q ≡ g q) → f ≡ updated g p x
each_party f g p x e h = fun_ext (λ q. elim (cases_eq q p) [
  | inl r ↦ ap f r ∙ e ∙ sym (at_same g p q x r)
  | inr r ↦ h q r ∙ sym (at_other g p q x r)
])

-- a new contract on a route
abbrev pub new_terms : Route → ℕ → ℕ → List Span → Terms
new_terms r s lead bs = record { spacing = s; bounds = bounds_from r.first r.links bs; lead = lead; last = None }

-- the cells of a party once one more entered
abbrev pub new_cells : Route → ℕ → ℕ → ℕ → ℕ → Option Place
new_cells r p e l = updated (r.cells p) (e + constant_of r p) (Some (record { label = l; hop = next (bounds_of (r.contracts p)) }))

module _ (k : Parts) (v : Level k) (p : ℕ) where
  -- the path behind grants, and the party does not cross
  abbrev pub passed_on : Route → Parts
  passed_on b = record { number = k.number; link = k.link; sched = k.sched; waits = k.waits; crossings = k.crossings; behind = b }

  module _ (none : k.crossings p ≡ None) where
    agrees_uncrossed : (t : Option Terms) (b : ℕ → Option Place) → Agrees k.behind.slot k.link k.behind.links (record { crossing = k.crossings p; contract = k.sched.contracts p; terms = t; waits = k.waits p; held = k.sched.held p; behind = b })
    agrees_uncrossed t b = record {
      tied = subst (λ x. Tied k.link k.behind.links x (k.sched.contracts p) t) (sym none) (uncrossed k.link k.behind.links (k.crossings p) (k.sched.contracts p) (k.behind.contracts p) (v.agrees p).tied none);
      window = (v.agrees p).window;
      idle = (v.agrees p).idle;
      settled = λ x c e _. absurd (none_some none e);
    }

    pub granted_behind : (s lead : ℕ) (bs : List Span) → bound bs k.number ≡ 0 → joined (passed_on (granted k.behind p s bs lead)) ≡ granted (joined k) p s bs lead
    granted_behind s lead bs z = same_route (joined k) _ _ _ _ (each_party (λ q. from_here (k.crossings q) ((granted k.behind p s bs lead).contracts q)) (joined k).contracts p _ here (λ q e. ap (from_here (k.crossings q)) (at_other k.behind.contracts p q _ e))) refl
      where
        here : from_here (k.crossings p) ((granted k.behind p s bs lead).contracts p) ≡ Some (record { spacing = s; bounds = bounds_from k.number (k.link ∷ k.behind.links) bs; lead = lead; last = None })
        here = (λ i. from_here (none i) (at_same k.behind.contracts p p (Some (new_terms k.behind s lead bs)) refl i)) ∙ (λ i. Some (record { spacing = s; bounds = sym z i ∷ bounds_from (v.numbers i) k.behind.links bs; lead = lead; last = None }))

    pub level-granted_behind : (s lead : ℕ) (bs : List Span) → Lawful (joined (passed_on (granted k.behind p s bs lead))) → Level (passed_on (granted k.behind p s bs lead))
    level-granted_behind s lead bs l = level_by k (passed_on (granted k.behind p s bs lead)) p v v.slots refl refl refl refl refl
        (λ q e i. record { crossing = k.crossings q; contract = k.sched.contracts q; terms = at_other k.behind.contracts p q (Some (record { spacing = s; bounds = bounds_from k.behind.first k.behind.links bs; lead = lead; last = None })) e i; waits = k.waits q; held = k.sched.held q; behind = k.behind.cells q })
        (agrees_uncrossed ((granted k.behind p s bs lead).contracts p) (k.behind.cells p)) l

    pub withdrawn_behind : joined (passed_on (withdrawn k.behind p)) ≡ withdrawn (joined k) p
    withdrawn_behind = same_route (joined k) _ _ _ _ (each_party (λ q. from_here (k.crossings q) ((withdrawn k.behind p).contracts q)) (joined k).contracts p None (ap (from_here (k.crossings p)) (at_same k.behind.contracts p p None refl)) (λ q e. ap (from_here (k.crossings q)) (at_other k.behind.contracts p q None e))) refl

    pub level-withdrawn_behind : Lawful (joined (passed_on (withdrawn k.behind p))) → Level (passed_on (withdrawn k.behind p))
    level-withdrawn_behind l = level_by k (passed_on (withdrawn k.behind p)) p v v.slots refl refl refl refl refl
        (λ q e i. record { crossing = k.crossings q; contract = k.sched.contracts q; terms = at_other k.behind.contracts p q None e i; waits = k.waits q; held = k.sched.held q; behind = k.behind.cells q })
        (agrees_uncrossed ((withdrawn k.behind p).contracts p) (k.behind.cells p)) l

    pub entered_behind : (e l : ℕ) (t : Terms) → k.behind.contracts p ≡ Some t → joined (passed_on (entered k.behind p e l)) ≡ entered (joined k) p e l
    entered_behind e l t q = same_route (joined k) _ _ _ _ refl (each_party (λ q w. seen (side (passed_on (entered k.behind p e l)) q) w) (joined k).cells p _ here (λ q n. fun_ext (λ w. ap (λ b. standing (leaving (k.crossings q) (own (side k q)) w) (b w)) (at_other k.behind.cells p q _ n))))
      where
        z : Parts
        z = passed_on (entered k.behind p e l)

        at : ℕ
        at = e + constant_of k.behind p

        new : Place
        new = record { label = l; hop = next (bounds_of (k.behind.contracts p)) }

        -- what an uncrossed hop shows is what stands behind it
        shows : (b : ℕ → Option Place) (w : ℕ) → standing (leaving (k.crossings p) (own (side k p)) w) (b w) ≡ deeper (b w)
        shows b w = ap (λ x. standing (leaving x (own (side k p)) w) (b w)) none

        cost_none : (g : ℕ) (gs : List ℕ) (o : Option Terms) → constant gs (bounds_of o) ≡ constant (g ∷ gs) (bounds_of (from_here None o))
        cost_none g [] None = refl
        cost_none g (h ∷ gs) None = refl
        cost_none g gs (Some t) = omega arith

        same_at : at ≡ e + constant_of (joined k) p
        same_at = ap (λ n. e + n) (cost_none k.link k.behind.links (k.behind.contracts p) ∙ ap (λ x. constant (k.link ∷ k.behind.links) (bounds_of (from_here x (k.behind.contracts p)))) (sym none))

        same_hop : suc (next (bounds_of (k.behind.contracts p))) ≡ next (bounds_of ((joined k).contracts p))
        same_hop = ap (λ o. suc (next (bounds_of o))) q ∙ sym (λ i. next (bounds_of (from_here (none i) (q i))))

        cells : (entered k.behind p e l).cells p ≡ updated (k.behind.cells p) at (Some new)
        cells = at_same k.behind.cells p p (updated (k.behind.cells p) at (Some new)) refl

        here : (λ w. seen (side z p) w) ≡ updated ((joined k).cells p) (e + constant_of (joined k) p) (Some (record { label = l; hop = next (bounds_of ((joined k).contracts p)) }))
        here = fun_ext (λ w. shows ((entered k.behind p e l).cells p) w ∙ ap (λ b. deeper (b w)) cells ∙ elim (cases_eq w at) [
          | inl r ↦ (
              ap deeper (at_same (k.behind.cells p) at w (Some new) r)
              ∙ ap (λ n. Some (record { label = l; hop = n })) same_hop
              ∙ sym (at_same ((joined k).cells p) (e + constant_of (joined k) p) w (Some (record { label = l; hop = next (bounds_of ((joined k).contracts p)) })) (r ∙ same_at)))
          | inr r ↦ (
              ap deeper (at_other (k.behind.cells p) at w (Some new) r)
              ∙ sym (shows (k.behind.cells p) w)
              ∙ sym (at_other ((joined k).cells p) (e + constant_of (joined k) p) w (Some (record { label = l; hop = next (bounds_of ((joined k).contracts p)) })) (λ d. r (d ∙ sym same_at))))
        ])

    pub level-entered_behind : (e l : ℕ) → Lawful (joined (passed_on (entered k.behind p e l))) → Level (passed_on (entered k.behind p e l))
    level-entered_behind e l w = level_by k (passed_on (entered k.behind p e l)) p v v.slots refl refl refl refl refl
        (λ q n i. record { crossing = k.crossings q; contract = k.sched.contracts q; terms = k.behind.contracts q; waits = k.waits q; held = k.sched.held q; behind = at_other k.behind.cells p q (new_cells k.behind p e l) n i })
        (agrees_uncrossed (k.behind.contracts p) ((entered k.behind p e l).cells p)) w

  -- a party that crosses is granted, at the scheduler and behind
  abbrev pub granted_parts : ℕ → ℕ → List Span → Crossing → Parts
  granted_parts s d bs x = record { number = k.number; link = k.link; sched = sched-granted k.sched p s d; waits = k.waits; crossings = updated k.crossings p (Some x); behind = granted k.behind p s bs (d + k.link) }

  module _ (s d lead : ℕ) (bs : List Span) (x : Crossing) (xs : x.trail.spacing.0 ≡ s) (xl : x.trail.lead.0 ≡ lead) (xb : x.bound.0 ≡ d) (bd : bound bs k.number ≡ d)
      (xc : x.constant.0 ≡ d + k.link + constant k.behind.links (bounds_from k.behind.first k.behind.links bs)) (fresh : x.trail.latest ≡ None) (fresh-last : x.trail.last ≡ None)
      (none : k.crossings p ≡ None) (held : (e : ℕ) → k.sched.held p e ≡ None) (cells : (w : ℕ) → k.behind.cells p w ≡ None) where
    own_none_here : (e : ℕ) → own (side k p) e ≡ None
    own_none_here e = (λ i. either ((v.agrees p).idle none e i) (held e i))

    leaving_none : (o : Option Crossing) (w : ℕ) → leaving o (own (side k p)) w ≡ None
    leaving_none None w = refl
    leaving_none (Some y) w = cond_both (ltb w y.constant.0) None (own (side k p) (w - y.constant.0)) (λ o. o ≡ None) (λ _. refl) (λ _. own_none_here (w - y.constant.0))

    same_cells : (joined (granted_parts s d bs x)).cells ≡ (joined k).cells
    same_cells = fun_ext (λ q. fun_ext (λ w. ap (λ a. standing a (k.behind.cells q w)) (elim (cases_eq q p) [
      | inl e ↦ subst (λ q. leaving (updated k.crossings p (Some x) q) (own (side k q)) w ≡ leaving (k.crossings q) (own (side k q)) w) (sym e) (leaving_none (updated k.crossings p (Some x) p) w ∙ sym (leaving_none (k.crossings p) w))
      | inr e ↦ ap (λ o. leaving o (own (side k q)) w) (at_other k.crossings p q (Some x) e)
    ])))

    pub granted_both : joined (granted_parts s d bs x) ≡ granted (joined k) p s bs lead
    granted_both = same_route (joined k) _ _ _ _ (each_party (joined (granted_parts s d bs x)).contracts (joined k).contracts p (Some (new_terms (joined k) s lead bs)) here
        (λ q e i. from_here (at_other k.crossings p q (Some x) e i) (at_other k.behind.contracts p q (Some (new_terms k.behind s (d + k.link) bs)) e i)))
        same_cells
      where
        here : (joined (granted_parts s d bs x)).contracts p ≡ Some (new_terms (joined k) s lead bs)
        here = (λ i. from_here (at_same k.crossings p p (Some x) refl i) (at_same k.behind.contracts p p (Some (new_terms k.behind s (d + k.link) bs)) refl i))
            ∙ (λ i. Some (record { spacing = s; bounds = (xb ∙ sym bd) i ∷ bounds_from (v.numbers i) k.behind.links bs; lead = xl i; last = None }))

    abbrev new_side : Side
    new_side = record { crossing = Some x; contract = Some (agreed s d); terms = Some (new_terms k.behind s (d + k.link) bs); waits = k.waits p; held = k.sched.held p; behind = k.behind.cells p }

    unused : Unused new_side
    unused = record { cells = cells; last = refl }

    new_tied : Crosses k.link k.behind.links x (agreed s d) (new_terms k.behind s (d + k.link) bs)
    new_tied = record { spacing = sym xs; bound = sym xb; last = sym fresh-last; behind = sym xs; lead = ap (λ n. n + k.link) (sym xb); constants = xc ∙ ap (λ n. n + k.link + constant k.behind.links (bounds_from k.behind.first k.behind.links bs)) (sym xb) }

    new_agrees : Agrees k.behind.slot k.link k.behind.links new_side
    new_agrees = record {
      tied = new_tied;
      window = (v.agrees p).window;
      idle = λ e. absurd (none_some e refl);
      settled = settled_at new_side x (agreed s d) refl refl (record {
        apart = λ e l q. absurd (none_some (held e) q);
        put = unused;
        latest = subst (Latest new_side x) (sym fresh) (unused, own_none_here);
      });
    }

    pub level-granted : Lawful (joined (granted_parts s d bs x)) → Level (granted_parts s d bs x)
    level-granted l = level_by k (granted_parts s d bs x) p v v.slots refl refl refl refl refl
        (λ q e i. record {
          crossing = at_other k.crossings p q (Some x) e i;
          contract = at_other k.sched.contracts p q (Some (agreed s d)) e i;
          terms = at_other k.behind.contracts p q (Some (new_terms k.behind s (d + k.link) bs)) e i;
          waits = k.waits q;
          held = k.sched.held q;
          behind = k.behind.cells q;
        })
        (subst (Agrees k.behind.slot k.link k.behind.links) (sym here) new_agrees) l
      where
        here : side (granted_parts s d bs x) p ≡ new_side
        here = λ i. record {
          crossing = at_same k.crossings p p (Some x) refl i;
          contract = at_same k.sched.contracts p p (Some (agreed s d)) refl i;
          terms = at_same k.behind.contracts p p (Some (new_terms k.behind s (d + k.link) bs)) refl i;
          waits = k.waits p;
          held = k.sched.held p;
          behind = k.behind.cells p;
        }

  -- a party that crosses is withdrawn, at the scheduler and behind
  abbrev pub withdrawn_parts : Parts
  withdrawn_parts = record { number = k.number; link = k.link; sched = sched-withdrawn k.sched p; waits = k.waits; crossings = updated k.crossings p None; behind = withdrawn k.behind p }

  module _ (owns : (e : ℕ) → own (side k p) e ≡ None) where
    gone_leaving : (o : Option Crossing) (w : ℕ) → leaving o (own (side k p)) w ≡ None
    gone_leaving None w = refl
    gone_leaving (Some y) w = cond_both (ltb w y.constant.0) None (own (side k p) (w - y.constant.0)) (λ o. o ≡ None) (λ _. refl) (λ _. owns (w - y.constant.0))

    gone_cells : (joined withdrawn_parts).cells ≡ (joined k).cells
    gone_cells = fun_ext (λ q. fun_ext (λ w. ap (λ a. standing a (k.behind.cells q w)) (elim (cases_eq q p) [
      | inl e ↦ subst (λ q. leaving (updated k.crossings p None q) (own (side k q)) w ≡ leaving (k.crossings q) (own (side k q)) w) (sym e) (gone_leaving (updated k.crossings p None p) w ∙ sym (gone_leaving (k.crossings p) w))
      | inr e ↦ ap (λ o. leaving o (own (side k q)) w) (at_other k.crossings p q None e)
    ])))

    pub withdrawn_both : joined withdrawn_parts ≡ withdrawn (joined k) p
    withdrawn_both = same_route (joined k) _ _ _ _ (each_party (joined withdrawn_parts).contracts (joined k).contracts p None
        (ap (from_here (updated k.crossings p None p)) (at_same k.behind.contracts p p None refl))
        (λ q e i. from_here (at_other k.crossings p q None e i) (at_other k.behind.contracts p q None e i)))
        gone_cells

    abbrev left_side : Side
    left_side = record { crossing = None; contract = None; terms = None; waits = k.waits p; held = k.sched.held p; behind = k.behind.cells p }

    pub level-withdrawn : Lawful (joined withdrawn_parts) → Level withdrawn_parts
    level-withdrawn l = level_by k withdrawn_parts p v v.slots refl refl refl refl refl
        (λ q e i. record {
          crossing = at_other k.crossings p q None e i;
          contract = at_other k.sched.contracts p q None e i;
          terms = at_other k.behind.contracts p q None e i;
          waits = k.waits q;
          held = k.sched.held q;
          behind = k.behind.cells q;
        })
        (subst (Agrees k.behind.slot k.link k.behind.links) (sym here) (record {
          tied = refl;
          window = (v.agrees p).window;
          idle = λ _ e. (own_none (side k p) e (owns e)).0;
          settled = λ x c e _. absurd (none_some refl e);
        })) l
      where
        here : side withdrawn_parts p ≡ left_side
        here = λ i. record {
          crossing = at_same k.crossings p p None refl i;
          contract = at_same k.sched.contracts p p None refl i;
          terms = at_same k.behind.contracts p p None refl i;
          waits = k.waits p;
          held = k.sched.held p;
          behind = k.behind.cells p;
        }

  -- a cell enters and waits, or is put at once
  abbrev pub waiting_parts : ℕ → ℕ → Crossing → Parts
  waiting_parts e l x = record { number = k.number; link = k.link; sched = k.sched; waits = updated k.waits p (updated (k.waits p) e (Some l)); crossings = updated k.crossings p (Some x); behind = k.behind }

  abbrev pub putting_parts : ℕ → Crossing → Parts
  putting_parts l x = record { number = k.number; link = k.link; sched = filled k.sched p l; waits = k.waits; crossings = updated k.crossings p (Some x); behind = k.behind }

  module _ (x x' : Crossing) (ex : k.crossings p ≡ Some x) (s : Same x x') (e l : ℕ) where
    -- a side with one more cell here shows one more cell
    shows_more : (y z : Side) → y.crossing ≡ Some x → z.crossing ≡ Some x' → z.behind ≡ y.behind → own z e ≡ Some l → ((a : ℕ) → (a ≡ e → ⊥) → own z a ≡ own y a)
        → (λ w. seen z w) ≡ updated (λ w. seen y w) (e + x.constant.0) (Some (record { label = l; hop = 0 }))
    shows_more y z cy cz b new old = fun_ext (λ w. elim (cases_eq w (e + x.constant.0)) [
      | inl r ↦ (
          ap (seen z) (r ∙ ap (λ n. e + n) (sym s.constants))
          ∙ seen-own z x' e l cz new
          ∙ sym (at_same (seen y) (e + x.constant.0) w (Some (record { label = l; hop = 0 })) r))
      | inr r ↦ (
          (λ i. standing (leaving (cz i) (own z) w) (b i w))
          ∙ ap (λ o. standing o (y.behind w)) (other w r)
          ∙ sym (λ i. standing (leaving (cy i) (own y) w) (y.behind w))
          ∙ sym (at_other (seen y) (e + x.constant.0) w (Some (record { label = l; hop = 0 })) r))
    ])
      where
        other : (w : ℕ) → (w ≡ e + x.constant.0 → ⊥) → leaving (Some x') (own z) w ≡ leaving (Some x) (own y) w
        other w r = (λ i. cond (ltb w (s.constants i)) None (own z (w - s.constants i))) ∙ elim (cases_lt w x.constant.0) [
          | inl a ↦ cond-true (ltb w x.constant.0) None (own z (w - x.constant.0)) (lt-ltb w x.constant.0 a) ∙ sym (cond-true (ltb w x.constant.0) None (own y (w - x.constant.0)) (lt-ltb w x.constant.0 a))
          | inr a ↦ ap (cond (ltb w x.constant.0) None) (old (w - x.constant.0) (λ d. r (omega arith)))
        ]

    both_x : Both k.link k.behind.links x (k.sched.contracts p) (k.behind.contracts p)
    both_x = both_of k v p x ex

    -- where the cell stands on the path: at this hop
    constant_x : constant_of (joined k) p ≡ x.constant.0
    constant_x = (λ i. constant (k.link ∷ k.behind.links) (bounds_of (from_here (ex i) (both_x.terms_is i)))) ∙ constant_here k.link k.behind.links x both_x.contract both_x.terms both_x.ties

    hop_x : next (bounds_of ((joined k).contracts p)) ≡ 0
    hop_x = (λ i. next (bounds_of (from_here (ex i) (both_x.terms_is i)))) ∙ cond-false (eqb x.bound.0 0) _ _ (ne_eqb x.bound.0 0 (λ q. omega (arith, x.bounded)))

    new_cells_x : new_cells (joined k) p e l ≡ updated ((joined k).cells p) (e + x.constant.0) (Some (record { label = l; hop = 0 }))
    new_cells_x = λ i. updated ((joined k).cells p) (e + constant_x i) (Some (record { label = l; hop = hop_x i }))

    -- the contracts stay
    contracts_x : (λ q. from_here (updated k.crossings p (Some x') q) (k.behind.contracts q)) ≡ (joined k).contracts
    contracts_x = fun_ext (λ q. elim (cases_eq q p) [
      | inl r ↦ subst (λ q. from_here (updated k.crossings p (Some x') q) (k.behind.contracts q) ≡ (joined k).contracts q) (sym r) (
          (λ i. from_here (at_same k.crossings p p (Some x') refl i) (both_x.terms_is i))
          ∙ (λ i. Some (record { spacing = both_x.terms.spacing; bounds = s.bound i ∷ both_x.terms.bounds; lead = s.lead i; last = both_x.terms.last }))
          ∙ sym (λ i. from_here (ex i) (both_x.terms_is i)))
      | inr r ↦ ap (λ o. from_here o (k.behind.contracts q)) (at_other k.crossings p q (Some x') r)
    ])

    side-wait : side (waiting_parts e l x') p ≡ wait_side (side k p) e l x x'
    side-wait = λ i. record {
      crossing = at_same k.crossings p p (Some x') refl i;
      contract = k.sched.contracts p;
      terms = k.behind.contracts p;
      waits = at_same k.waits p p (updated (k.waits p) e (Some l)) refl i;
      held = k.sched.held p;
      behind = k.behind.cells p;
    }

    side-wait_other : (q : ℕ) → (q ≡ p → ⊥) → side (waiting_parts e l x') q ≡ side k q
    side-wait_other q r = λ i. record {
      crossing = at_other k.crossings p q (Some x') r i;
      contract = k.sched.contracts q;
      terms = k.behind.contracts q;
      waits = at_other k.waits p q (updated (k.waits p) e (Some l)) r i;
      held = k.sched.held q;
      behind = k.behind.cells q;
    }

    pub entered_waiting : joined (waiting_parts e l x') ≡ entered (joined k) p e l
    entered_waiting = same_route (joined k) _ _ _ _ contracts_x (each_party (joined (waiting_parts e l x')).cells (joined k).cells p (new_cells (joined k) p e l)
        (ap (λ y. λ w. seen y w) side-wait ∙ shows_more (side k p) (wait_side (side k p) e l x x') ex refl refl (own-wait (side k p) e l x x') (own-wait_other (side k p) e l x x') ∙ sym new_cells_x)
        (λ q r. ap (λ y. λ w. seen y w) (side-wait_other q r)))

    pub level_waiting : Agrees k.behind.slot k.link k.behind.links (wait_side (side k p) e l x x') → Lawful (joined (waiting_parts e l x')) → Level (waiting_parts e l x')
    level_waiting a w = level_by k (waiting_parts e l x') p v v.slots refl refl refl refl refl side-wait_other (subst (Agrees k.behind.slot k.link k.behind.links) (sym side-wait) a) w

    module _ (now : e ≡ k.sched.slot) (c : Contract) (ec : k.sched.contracts p ≡ Some c) where
      side_put : side (putting_parts l x') p ≡ put_side (side k p) e l x x' (stamped c e)
      side_put = λ i. record {
        crossing = at_same k.crossings p p (Some x') refl i;
        contract = (at_same k.sched.contracts p p (used (k.sched.contracts p) k.sched.slot) refl ∙ (λ j. used (ec j) (sym now j))) i;
        terms = k.behind.contracts p;
        waits = k.waits p;
        held = (at_same k.sched.held p p (updated (k.sched.held p) k.sched.slot (Some l)) refl ∙ (λ j. updated (k.sched.held p) (sym now j) (Some l))) i;
        behind = k.behind.cells p;
      }

      side_put_other : (q : ℕ) → (q ≡ p → ⊥) → side (putting_parts l x') q ≡ side k q
      side_put_other q r = λ i. record {
        crossing = at_other k.crossings p q (Some x') r i;
        contract = at_other k.sched.contracts p q (used (k.sched.contracts p) k.sched.slot) r i;
        terms = k.behind.contracts q;
        waits = k.waits q;
        held = at_other k.sched.held p q (updated (k.sched.held p) k.sched.slot (Some l)) r i;
        behind = k.behind.cells q;
      }

      pub entered_putting : k.waits p e ≡ None → joined (putting_parts l x') ≡ entered (joined k) p e l
      entered_putting none = same_route (joined k) _ _ _ _ contracts_x (each_party (joined (putting_parts l x')).cells (joined k).cells p (new_cells (joined k) p e l)
          (ap (λ y. λ w. seen y w) side_put ∙ shows_more (side k p) (put_side (side k p) e l x x' (stamped c e)) ex refl refl (λ i. either (none i) (at_same (k.sched.held p) e e (Some l) refl i)) (own_put_other (side k p) e l x x' (stamped c e)) ∙ sym new_cells_x)
          (λ q r. ap (λ y. λ w. seen y w) (side_put_other q r)))

      pub level_putting : Agrees k.behind.slot k.link k.behind.links (put_side (side k p) e l x x' (stamped c e)) → Lawful (joined (putting_parts l x')) → Level (putting_parts l x')
      level_putting a w = level_by k (putting_parts l x') p v v.slots refl refl refl refl refl side_put_other (subst (Agrees k.behind.slot k.link k.behind.links) (sym side_put) a) w
