-- A hop serves a cell, which the path behind takes.
use Rattle.std.proofs.Common.{◌≡◌, ℕ, suc, ◌+◌, ◌≤◌, true, false, eqb, ltb, ◌⊎◌, List, get_or, is_some, Some, None, Option, sym, refl, ap, ◌∙◌, subst, inl, inr, arith}
use Rattle.std.proofs.lemmas.Bool.{cond-true, cond-false, eq-eqb, ne_eqb, lt-ltb, le-ltb, cases_eq, cases_order}
use Rattle.cells.specs.declared.times.Slot.{Slot}
use Rattle.header.specs.declared.Header.{Header}
use Rattle.scheduler.specs.Meaning.{updated, due}
use Rattle.scheduler.proofs.Holds.{held_within}
use Rattle.paths.specs.Route.{Terms, Place, bounds_of, constant, constant_of, next, names, ticked, entered}
use Rattle.paths.specs.Laws.{Lawful}
use Rattle.paths.specs.Verdicts.{arrival_rule, out_of_window, within, crowded}
use Rattle.paths.proofs.Present.{not_crowded, apart_within}
use Rattle.hops.specs.declared.crossing.Crossing.{Crossing}
use Rattle.hops.specs.Crossed.{Same, Took}
use Rattle.hops.specs.Joined.{Parts, side, own, either, leaving, seen}
use Rattle.hops.specs.Level.{Level, Agrees, last_of}
use Rattle.hops.proofs.Seen.{none_some, some_same, some_is, Both, both, uncrossed, leaving_at, seen-own, behind_seen}
use Rattle.hops.proofs.Sides.{at_same, at_other, Honest, both_of, contract_here, here_terms, since_last}
use Rattle.hops.proofs.Ticks.{Moved, none_of, serve_side, agrees_serve}
use Rattle.hops.proofs.Behind.{moved_of, own-apart, put_parts, agrees_put_parts, own-put_parts, crossing_put_parts, uncrossed_put_parts}
use Rattle.hops.proofs.Handover.{Fate, stayed, sent, Outcome}

module _ (k : Parts) (lev : Level k) (lb : Lawful k.behind) (ss : List (Option Header)) (xs : ℕ → Option Crossing) (took : (p : ℕ) → Took (k.waits p k.behind.slot) k.behind.slot (k.crossings p) (xs p))
    (hon : Honest (put_parts k lev lb ss xs took).sched) where
  abbrev mid : Parts
  mid = put_parts k lev lb ss xs took

  abbrev n : ℕ
  n = k.behind.slot

  -- what a held cell is
  pub record Chosen_cell (p e l : ℕ) : Type 0 where
    pub before : Crossing
    pub before_is : k.crossings p ≡ Some before
    pub crossing : Crossing
    pub crossing_is : xs p ≡ Some crossing
    pub same : Same before crossing
    pub ties : Both k.link k.behind.links crossing (mid.sched.contracts p) (mid.behind.contracts p)
    pub stands : own (side k p) e ≡ Some l
    pub party : p ≤ 15
    pub ready : e ≤ n
    pub timely : n ≤ due e crossing.bound.0
    pub since : (u : Slot) × (ties.contract.last ≡ Some u) × (e ≤ u.0)

  pub chosen_cell : (p e l : ℕ) → mid.sched.held p e ≡ Some l → Chosen_cell p e l
  chosen_cell p e l h = by_crossing (k.crossings p) refl
    where
      w : (p ≤ 15) × (e ≤ mid.sched.slot)
      w = held_within mid.sched hon.contracted hon.past p e l h

      ready : e ≤ n
      ready = omega (arith, w.1, lev.slots)

      not_waiting : mid.waits p e ≡ None
      not_waiting = none_of (mid.waits p e) (λ j q. omega (arith, (agrees_put_parts k lev lb ss xs took p).window e j q, ready))

      stands : own (side k p) e ≡ Some l
      stands = sym (own-put_parts k lev lb ss xs took p e) ∙ ap (λ a. either a (mid.sched.held p e)) not_waiting ∙ h

      by_crossing : (o : Option Crossing) → k.crossings p ≡ o → Chosen_cell p e l
      by_crossing None q = absurd (none_some (hon.contracted.cells p e (uncrossed k.link k.behind.links (xs p) (mid.sched.contracts p) (mid.behind.contracts p) (agrees_put_parts k lev lb ss xs took p).tied (uncrossed_put_parts k lev lb ss xs took p q))) h)
      by_crossing (Some x) q =
          let y = crossing_put_parts k lev lb ss xs took p x q in
          let b = both k.link k.behind.links y.0 (xs p) (mid.sched.contracts p) (mid.behind.contracts p) (agrees_put_parts k lev lb ss xs took p).tied y.1 in
          record {
            before = x;
            before_is = q;
            crossing = y.0;
            crossing_is = y.1;
            same = y.2;
            ties = b;
            stands = stands;
            party = w.0;
            ready = ready;
            timely = omega (arith, hon.timely p e l b.contract h b.contract_is, b.ties.bound, lev.slots);
            since = since_last b.contract.last e (hon.past.cells p e l b.contract h b.contract_is);
          }

  module _ (p e l : ℕ) (ch : Chosen_cell p e l) where
    abbrev x : Crossing
    x = ch.before

    -- where it leaves
    abbrev v : ℕ
    v = e + x.constant.0

    seen_v : seen (side k p) v ≡ Some (record { label = l; hop = 0 })
    seen_v = seen-own (side k p) x e l ch.before_is ch.stands

    abbrev t₀ : Both k.link k.behind.links x (k.sched.contracts p) (k.behind.contracts p)
    t₀ = both_of k lev p x ch.before_is

    -- other cells of the party are a spacing away
    apart_cell : (w : ℕ) (z : Place) → k.behind.cells p w ≡ Some z → (w + x.trail.spacing.0 ≤ v) ⊎ (v + x.trail.spacing.0 ≤ w)
    apart_cell w z q =
        let s = behind_seen (side k p) w z q in
        let c = contract_here k lev p x ch.before_is in
        let t = t₀.ties.behind in
        elim (cases_order w v) [
          | inl r ↦ absurd (none_some (own-apart k lev p e l x ch.before_is ch.stands) (sym (ap (k.behind.cells p) r) ∙ q))
          | inr r ↦ elim r [
            | inl lt ↦ inl (omega (arith, lev.lawful.spaced p w v (here_terms x t₀.terms) s.0 _ c s.1 seen_v lt, t))
            | inr lt ↦ inr (omega (arith, lev.lawful.spaced p v w (here_terms x t₀.terms) _ s.0 c seen_v s.1 lt, t))
          ]
        ]

    abbrev t₁ : Terms
    t₁ = ch.ties.terms

    spacing_same : t₁.spacing ≡ x.trail.spacing.0
    spacing_same = ch.ties.ties.behind ∙ ch.same.spacing

    within_none : (w : ℕ) → ((w + x.trail.spacing.0 ≤ v) ⊎ (v + x.trail.spacing.0 ≤ w)) → within t₁.spacing v w ≡ false
    within_none w h = apart_within t₁.spacing v w (elim h [ inl a ↦ inl (omega (arith, spacing_same)) | inr a ↦ inr (omega (arith, spacing_same)) ])

    m : Moved n (k.behind.contracts p) (mid.behind.contracts p) (k.behind.cells p) (mid.behind.cells p)
    m = moved_of k.behind lb ss p

    clear_last : (u : ℕ) → t₁.last ≡ Some u → within t₁.spacing v u ≡ false
    clear_last u q = within_none u (elim (m.last_from u (ap last_of ch.ties.terms_is ∙ q)) [
      | inl r ↦ inl (omega (arith, lev.lawful.since p u v (here_terms x t₀.terms) _ (contract_here k lev p x ch.before_is) (sym (ap last_of t₀.terms_is) ∙ r) seen_v, t₀.ties.behind))
      | inr r ↦ (let s = some_is (k.behind.cells p n) r.1 in subst (λ u. (u + x.trail.spacing.0 ≤ v) ⊎ (v + x.trail.spacing.0 ≤ u)) (sym r.0) (apart_cell n s.0 s.1))
    ])

    clear_cell : (w : ℕ) (z : Place) → mid.behind.cells p w ≡ Some z → within t₁.spacing v w ≡ false
    clear_cell w z q = let s = some_is (k.behind.cells p w) (m.from w z q) in within_none w (apart_cell w s.0 s.1)

    -- the slot in which it is eligible behind, and in which it leaves
    abbrev e₁ : ℕ
    e₁ = e + ch.crossing.bound.0 + k.link

    leaves : e₁ + constant k.behind.links t₁.bounds ≡ v
    leaves = omega (arith, ch.ties.ties.constants, ch.same.constants)

    in_window : out_of_window (n + 1) t₁.lead e₁ ≡ false
    in_window =
        cond-false (ltb e₁ (n + 1)) _ _ (le-ltb e₁ (n + 1) (omega (arith, ch.timely, ch.crossing.bounded)))
        ∙ cond-true (ltb e₁ (n + 1 + t₁.lead)) _ _ (lt-ltb e₁ (n + 1 + t₁.lead) (omega (arith, ch.ties.ties.lead, ch.ready)))

    -- the path behind takes it
    pub consents : arrival_rule mid.behind (mid.behind.contracts p) p e₁ ≡ None
    consents =
        ap (λ o. arrival_rule mid.behind o p e₁) ch.ties.terms_is
        ∙ cond-false (out_of_window (n + 1) t₁.lead e₁) _ _ in_window
        ∙ cond-false (crowded mid.behind t₁ p (e₁ + constant k.behind.links t₁.bounds)) _ _ (ap (crowded mid.behind t₁ p) leaves ∙ not_crowded mid.behind t₁ p v clear_last clear_cell)

    -- where it stands then
    abbrev z₁ : Place
    z₁ = record { label = l; hop = next (bounds_of (mid.behind.contracts p)) }

    abbrev next_cells : ℕ → Option Place
    next_cells = updated (mid.behind.cells p) (e₁ + constant_of mid.behind p) (Some z₁)

    leaves_at : e₁ + constant_of mid.behind p ≡ v
    leaves_at = ap (λ o. e₁ + constant k.behind.links (bounds_of o)) ch.ties.terms_is ∙ leaves

    -- the parts once it is served and has entered behind
    abbrev pub serve_parts : Parts
    serve_parts = record {
      number = k.number;
      link = k.link;
      sched = record { slot = mid.sched.slot + 1; contracts = mid.sched.contracts; held = updated mid.sched.held p (updated (mid.sched.held p) e None) };
      waits = mid.waits;
      crossings = xs;
      behind = entered mid.behind p e₁ l;
    }

    side_serve : side serve_parts p ≡ serve_side n k.link k.behind.links (side mid p) e l (e₁ + constant_of mid.behind p) z₁ ch.crossing ch.ties.contract
    side_serve = λ i. record {
      crossing = xs p;
      contract = mid.sched.contracts p;
      terms = mid.behind.contracts p;
      waits = mid.waits p;
      held = at_same mid.sched.held p p (updated (mid.sched.held p) e None) refl i;
      behind = at_same mid.behind.cells p p next_cells refl i;
    }

    side_serve_other : (q : ℕ) → (q ≡ p → ⊥) → side serve_parts q ≡ side mid q
    side_serve_other q r = λ i. record {
      crossing = xs q;
      contract = mid.sched.contracts q;
      terms = mid.behind.contracts q;
      waits = mid.waits q;
      held = at_other mid.sched.held p q (updated (mid.sched.held p) e None) r i;
      behind = at_other mid.behind.cells p q next_cells r i;
    }

    module _ (held : mid.sched.held p e ≡ Some l) where
      pub agrees_served : (q : ℕ) → Agrees (n + 1) k.link k.behind.links (side serve_parts q)
      agrees_served q = elim (cases_eq q p) [
        | inl r ↦ subst (λ q. Agrees (n + 1) k.link k.behind.links (side serve_parts q)) (sym r) (subst (Agrees (n + 1) k.link k.behind.links) (sym side_serve)
            (agrees_serve n k.link k.behind.links (side mid p) e l (e₁ + constant_of mid.behind p) z₁ ch.crossing ch.ties.contract (agrees_put_parts k lev lb ss xs took p) ch.crossing_is ch.ties.contract_is held
            (leaves_at ∙ ap (λ n. e + n) (sym ch.same.constants)) ch.ready ch.since))
        | inr r ↦ subst (Agrees (n + 1) k.link k.behind.links) (sym (side_serve_other q r)) (agrees_put_parts k lev lb ss xs took q)
      ]

      -- what stands here
      not_waiting : mid.waits p e ≡ None
      not_waiting = none_of (mid.waits p e) (λ j q. omega (arith, (agrees_put_parts k lev lb ss xs took p).window e j q, ch.ready))

      own_sent : own (side serve_parts p) e ≡ None
      own_sent = (λ i. either (not_waiting i) ((ap (λ f. f e) (at_same mid.sched.held p p (updated (mid.sched.held p) e None) refl) ∙ at_same (mid.sched.held p) e e None refl) i))

      own_kept_party : (a : ℕ) → (a ≡ e → ⊥) → own (side serve_parts p) a ≡ own (side mid p) a
      own_kept_party a r = ap (either (mid.waits p a)) (ap (λ f. f a) (at_same mid.sched.held p p (updated (mid.sched.held p) e None) refl) ∙ at_other (mid.sched.held p) e a None r)

      own_kept : (q a : ℕ) → ((q ≡ p) × (a ≡ e) → ⊥) → own (side serve_parts q) a ≡ own (side k q) a
      own_kept q a r = elim (cases_eq q p) [
        | inl s ↦ subst (λ q. own (side serve_parts q) a ≡ own (side k q) a) (sym s) (own_kept_party a (λ d. r (s, d)) ∙ own-put_parts k lev lb ss xs took p a)
        | inr s ↦ ap (λ y. own y a) (side_serve_other q s) ∙ own-put_parts k lev lb ss xs took q a
      ]

      module _ (y : Header) (zs : List (Option Header)) (heads-party : y.party ≡ p) (heads-ahead : n + y.ahead.0 ≡ due e ch.crossing.bound.0) (entry : get_or zs k.number None ≡ Some y)
          (beyond : (j : ℕ) → suc k.number ≤ j → get_or ss j None ≡ get_or zs j None) where
        names_not : (q a : ℕ) (x' : Crossing) → k.crossings q ≡ Some x' → ((q ≡ p) × (a ≡ e) → ⊥) → names (get_or zs k.number None) n q (due a x'.bound.0) ≡ false
        names_not q a x' c r = ap (λ o. names o n q (due a x'.bound.0)) entry ∙ elim (cases_eq q p) [
          | inl s ↦ (
              let b : x' ≡ ch.before = some_same (sym (ap k.crossings s) ∙ c) ch.before_is in
              let d = ap (λ (x : Crossing). x.bound.0) b in
              cond-true (eqb q y.party) _ _ (eq-eqb q y.party (s ∙ sym heads-party))
              ∙ ne_eqb (due a x'.bound.0) (n + y.ahead.0) (λ f. r (s, omega (arith, heads-ahead, d, ch.same.bound, ch.before.bounded))))
          | inr s ↦ cond-false (eqb q y.party) _ _ (ne_eqb q y.party (λ f. s (f ∙ heads-party)))
        ]

        names_it : names (get_or zs k.number None) n p (due e x.bound.0) ≡ true
        names_it = ap (λ o. names o n p (due e x.bound.0)) entry
            ∙ cond-true (eqb p y.party) _ _ (eq-eqb p y.party (sym heads-party))
            ∙ eq-eqb (due e x.bound.0) (n + y.ahead.0) (omega (arith, heads-ahead, ch.same.bound))

        bounds_mid : bounds_of (mid.behind.contracts p) ≡ bounds_of (k.behind.contracts p)
        bounds_mid = let t = m.terms t₀.terms t₀.terms_is in ap bounds_of t.1 ∙ t.3 ∙ sym (ap bounds_of t₀.terms_is)

        abbrev fates : (q a j : ℕ) (x' : Crossing) → Type 0
        fates q a j x' = Fate k lev lb ss zs beyond serve_parts.sched mid.waits xs serve_parts.behind.cells q a j x'

        fate : (q a j : ℕ) (x' : Crossing) → k.crossings q ≡ Some x' → own (side k q) a ≡ Some j → fates q a j x'
        fate q a j x' c o = elim (cases_eq q p) [
          | inl s ↦ elim (cases_eq a e) [
            | inl r ↦ (
                let b : ch.before ≡ x' = some_same ch.before_is (sym (ap k.crossings s) ∙ c) in
                let i : l ≡ j = some_same ch.stands (sym (λ i. own (side k (s i)) (r i)) ∙ o) in
                subst (λ q. fates q a j x') (sym s) (subst (λ a. fates p a j x') (sym r) (subst (λ j. fates p e j x') i (subst (fates p e l) b
                (sent own_sent names_it (ap (λ f. f v) (at_same mid.behind.cells p p next_cells refl) ∙ at_same (mid.behind.cells p) (e₁ + constant_of mid.behind p) v (Some z₁) (sym leaves_at) ∙ ap (λ ds. Some (record { label = l; hop = next ds })) bounds_mid))))))
            | inr r ↦ stayed (own_kept q a (λ d. r d.1) ∙ o) (names_not q a x' c (λ d. r d.1))
          ]
          | inr s ↦ stayed (own_kept q a (λ d. s d.0) ∙ o) (names_not q a x' c (λ d. s d.0))
        ]

        stood : (q a j : ℕ) → own (side serve_parts q) a ≡ Some j → is_some (own (side k q) a) ≡ true
        stood q a j o = elim (cases_eq q p) [
          | inl s ↦ elim (cases_eq a e) [
            | inl r ↦ absurd (none_some own_sent (sym (λ i. own (side serve_parts (s i)) (r i)) ∙ o))
            | inr r ↦ ap is_some (sym (own_kept q a (λ d. r d.1)) ∙ o)
          ]
          | inr s ↦ ap is_some (sym (own_kept q a (λ d. s d.0)) ∙ o)
        ]

        others : (q w : ℕ) → leaving (k.crossings q) (own (side k q)) w ≡ None → serve_parts.behind.cells q w ≡ (ticked k.behind ss).cells q w
        others q w h = elim (cases_eq q p) [
          | inl s ↦ (
              let here : leaving (Some x) (own (side k p)) v ≡ Some l = leaving_at x (own (side k p)) e ∙ ch.stands in
              let not : w ≡ e₁ + constant_of mid.behind p → ⊥ = λ d. none_some (sym (λ i. leaving (ch.before_is i) (own (side k p)) w) ∙ subst (λ q. leaving (k.crossings q) (own (side k q)) w ≡ None) s h) (ap (leaving (Some x) (own (side k p))) (d ∙ leaves_at) ∙ here) in
              ap (λ f. f w) (at_same mid.behind.cells p q next_cells s) ∙ at_other (mid.behind.cells p) (e₁ + constant_of mid.behind p) w (Some z₁) not ∙ ap (λ q. mid.behind.cells q w) (sym s))
          | inr s ↦ ap (λ f. f w) (at_other mid.behind.cells p q next_cells s)
        ]

        pub outcome : Outcome k lev lb ss zs beyond serve_parts.sched mid.waits xs serve_parts.behind.cells
        outcome = record {
          same = crossing_put_parts_of;
          none = λ q c. uncrossed_put_parts k lev lb ss xs took q c;
          fate = fate;
          stood = stood;
          others = others;
        }
          where
            crossing_put_parts_of : (q : ℕ) (x : Crossing) → k.crossings q ≡ Some x → (x' : Crossing) × (xs q ≡ Some x') × Same x x'
            crossing_put_parts_of q x c = crossing_put_parts k lev lb ss xs took q x c
