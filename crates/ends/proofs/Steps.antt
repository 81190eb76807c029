-- What each call does to an end, by its slot, its trails and what waits.
use Rattle.std.proofs.Common.{◌≡◌, ℕ, ◌+◌, ◌*◌, ◌≤◌, Bool, true, false, cond, eqb, ltb, ◌⊎◌, List, [], length, get_or, is_some, Some, None, Option, sym, refl, ap, ◌∙◌, subst, inl, inr, add-zero, arith}
use mathlib.Core.Path.{fun_ext}
use Rattle.std.proofs.lemmas.Bool.{both_ways, cases_eq, cond_both, cond-true, cond-false, eqb-false, eq-eqb, ne_eqb, ltb-true, ltb-false}
use Rattle.std.proofs.lemmas.List.Sums.{sum_by-le}
use Rattle.std.specs.List.{sum_by}
use Rattle.cells.specs.declared.times.Slot.{Slot}
use Rattle.cells.specs.declared.times.Span.{Span}
use Rattle.cells.specs.declared.faults.Cause.TheVariants.{NoContract, TooSoon, EligibleOutOfWindow}
use Rattle.cells.specs.declared.faults.Fault.{Fault}
use Rattle.header.specs.declared.Header.{Header}
use Rattle.scheduler.specs.Meaning.{last_slot, outside, some_below, updated}
use Rattle.scheduler.proofs.Updates.{updated_same}
use Rattle.paths.specs.declared.trail.Trail.{Trail}
use Rattle.paths.specs.Laws.{Lawful}
use Rattle.paths.specs.Route.{Route, Terms, Place, fresh, next, bounds_of, constant_of, entered, placed, cell_after, arrived, delivery_of, noted, ticked}
use Rattle.paths.specs.Trails.{crowding, arrival_by, Until, Newest}
use Rattle.paths.specs.Verdicts.{fault, refused_if, bad_hop, holds_of, holds_any, grant_rule, granted, withdrawn, out_of_window, crowded, arrival_rule, share_of}
use Rattle.paths.proofs.Kept.{lawful_fresh, lawful_granted, lawful_withdrawn, lawful_entered, lawful_ticked, in_window, put_from, consents, consents_at, is_none}
use Rattle.paths.proofs.Parties.{share_few}
use Rattle.paths.proofs.Present.{none_some, holds_false, any_none}
use Rattle.paths.proofs.Trails.{Taken, holds_by, crowded_by}
use Rattle.ends.specs.Ends.{number_in, terms_of, terms_in, latest_in, place_in, still_in, still_any, Noted, route_of, Tracked}

-- an arrival of party p by its trail, if there is one, in slot n, eligible in slot e, where w waits
abbrev pub arrival_at : Option Trail → (ℕ → Option ℕ) → ℕ → ℕ → ℕ → Option Fault
arrival_at None w n p e = Some (fault NoContract p 255)
arrival_at (Some y) w n p e = arrival_by y w n p e

-- a table that is written at one place
pub at_same : {X : Type 0} (f : ℕ → X) (k q : ℕ) (v : X) → q ≡ k → updated f k v q ≡ v
at_same f k q v e = cond-true (eqb q k) v (f q) (eq-eqb q k e)

pub at_other : {X : Type 0} (f : ℕ → X) (k q : ℕ) (v : X) → (q ≡ k → ⊥) → updated f k v q ≡ f q
at_other f k q v e = cond-false (eqb q k) v (f q) (ne_eqb q k e)

cond_ap : {X Y : Type 0} (f : X → Y) (b : Bool) (v w : X) → f (cond b v w) ≡ cond b (f v) (f w)
cond_ap f true v w = refl
cond_ap f false v w = refl

-- the same, seen through h
through : {X Y : Type 0} (h : X → Y) (f : ℕ → X) (k : ℕ) (v : X) → (λ q. h (updated f k v q)) ≡ updated (λ q. h (f q)) k (h v)
through h f k v = fun_ext (λ q. cond_ap h (eqb q k) v (f q))

some_same : {X : Type 0} {x y : X} {o : Option X} → o ≡ Some x → o ≡ Some y → x ≡ y
some_same e f = cc

-- what is kept of the others, and holds of one
by_party : {X : Type 0} (P : ℕ → X → Type 0) (f : ℕ → Option X) (k : ℕ) (v : X) → P k v → ((q : ℕ) (x : X) → (q ≡ k → ⊥) → f q ≡ Some x → P q x) → (q : ℕ) (x : X) → updated f k (Some v) q ≡ Some x → P q x
by_party P f k v here there q x e = elim (cases_eq q k) [
  | inl s ↦ (let same : v ≡ x = some_same (at_same f k q (Some v) s) e in subst (λ q. P q x) (sym s) (subst (P k) same here))
  | inr s ↦ there q x s (sym (at_other f k q (Some v) s) ∙ e)
]

-- a trail says the same of a path with the same cells of its party
newest_with : (r z : Route) (t : Terms) (p : ℕ) (o : Option Slot) → ((v : ℕ) → z.cells p v ≡ r.cells p v) → Newest r t p 0 o → Newest z t p 0 o
newest_with r z t p None e n = (λ v. e v ∙ n.0 v, n.1)
newest_with r z t p (Some a) e n = record {
  cells = λ v x i. n.cells v x (sym (e v) ∙ i);
  last = n.last;
  known = elim n.known [ inl i ↦ inl (ap is_some (e (a.0 + 0)) ∙ i) | inr i ↦ inr i ];
}

-- what waits, seen as a cell
placed_from : (o : Option ℕ) (x : Place) → place_in o ≡ Some x → (l : ℕ) × (o ≡ Some l)
placed_from None x e = absurd (none_some refl e)
placed_from (Some l) x e = (l, refl)

numbered : (o : Option Slot) (u : ℕ) → number_in o ≡ Some u → (s : Slot) × (o ≡ Some s) × (u ≡ s.0)
numbered None u e = absurd (none_some refl e)
numbered (Some s) u e = (s, refl, sym (some_same refl e))

-- the latest slot once a cell that is eligible in slot s has entered
abbrev pub Later : Option Slot → Slot → Option Slot → Type 0
Later o s m = elim o as (λ _. Type 0) [ None ↦ m ≡ Some s | Some a ↦ m ≡ cond (ltb s.0 a.0) (Some a) (Some s) ]

-- fresh
pub tracked_fresh : (k : ℕ) → k ≤ 8 → Tracked (fresh k []) (λ p. None)
tracked_fresh k h = record { lawful = lawful_fresh k [] (omega arith) (λ j. omega arith); newest = λ p y e. absurd (none_some refl e) }

module _ (n k : ℕ) (ts : ℕ → Option Trail) (w : ℕ → ℕ → Option ℕ) (sound : Tracked (route_of n k ts w) ts) where
  abbrev r : Route
  r = route_of n k ts w

  law : Lawful r
  law = sound.lawful

  -- whether a cell of a party is on the path, by its trail
  pub holds_is : (p : ℕ) → holds_of r p ≡ still_in (ts p) n
  holds_is p = by (ts p) refl
    where
      by : (o : Option Trail) → ts p ≡ o → holds_of r p ≡ still_in o n
      by None e = holds_false r p (λ v. law.owned p v (ap terms_in e))
      by (Some y) e = holds_by r law p 0 (terms_of y) y.latest (ap terms_in e) (sound.newest p y e)

  -- and of any
  pub any_is : holds_any r ≡ still_any ts n
  unfolding holds_any still_any
  any_is = ap (some_below 16) (fun_ext holds_is)

  -- a new contract
  module _ (p s lead : ℕ) (bs : List Span) (y : Trail) (spacing : y.spacing.0 ≡ s) (leads : y.lead.0 ≡ lead) (latest : y.latest ≡ None) (last : y.last ≡ None) where
    pub route_granted : route_of n k (updated ts p (Some y)) w ≡ granted r p s bs lead
    route_granted = λ i. record {
      slot = n;
      first = k;
      links = [];
      contracts = (through terms_in ts p (Some y) ∙ (λ j. updated (λ q. terms_in (ts q)) p (Some (record { spacing = spacing j; bounds = []; lead = leads j; last = number_in (last j) })))) i;
      cells = λ q v. place_in (w q v);
    }

    pub tracked_granted : grant_rule r p s bs lead None ≡ None → Tracked (granted r p s bs lead) (updated ts p (Some y))
    tracked_granted e = record {
      lawful = lawful_granted r law p s bs lead e;
      newest = by_party (λ q x. Newest (granted r p s bs lead) (terms_of x) q 0 x.latest) ts p y
          (subst (Newest (granted r p s bs lead) (terms_of y) p 0) (sym latest) (λ v. clear p v, ap number_in last))
          (λ q x _ i. newest_with r (granted r p s bs lead) (terms_of x) q x.latest (λ v. refl) (sound.newest q x i));
    }
      where
        clear : (q v : ℕ) → r.cells q v ≡ None
        clear =
            let a = consents (ltb 15 p) _ _ e in
            let b = consents (is_some (r.contracts p)) _ _ a.1 in
            let c = consents (outside 1 1024 s) _ _ b.1 in
            let d = consents_at (bad_hop k [] bs lead) p _ c.1 in
            any_none r law (consents (holds_any r) _ _ d.1).0

  -- a contract that is taken back
  module _ (p : ℕ) where
    pub route_withdrawn : route_of n k (updated ts p None) w ≡ withdrawn r p
    route_withdrawn = λ i. record { slot = n; first = k; links = []; contracts = through terms_in ts p None i; cells = λ q v. place_in (w q v) }

    pub tracked_withdrawn : holds_of r p ≡ false → Tracked (withdrawn r p) (updated ts p None)
    tracked_withdrawn h = record {
      lawful = lawful_withdrawn r law p h;
      newest = λ q x e. newest_with r (withdrawn r p) (terms_of x) q x.latest (λ v. refl) (sound.newest q x (elim (cases_eq q p) [
        | inl s ↦ absurd (none_some (at_same ts p q None s) e)
        | inr s ↦ (sym (at_other ts p q None s) ∙ e)
      ]));
    }

  -- what waits is what is on the path
  taken : (p : ℕ) (y : Trail) → Taken r (terms_of y) p 0 y.last (w p)
  taken p y = record {
    waits = λ a l e. ap (λ j. is_some (place_in (w p j))) (add-zero a) ∙ ap (λ o. is_some (place_in o)) e;
    cells = λ v x e. inl (let l = placed_from (w p v) x e in (v, l.0, sym (add-zero v), l.1));
    lasts = λ u e. (let s = numbered y.last u e in (s.0, s.1, omega (arith, s.2)));
    known = λ u e. inr (ap number_in e ∙ ap Some (sym (add-zero u.0)));
  }

  -- an arrival, by the trail
  pub arrival_is : (p e : ℕ) → arrival_at (ts p) (w p) n p e ≡ arrival_rule r (r.contracts p) p e
  arrival_is p e = by (ts p) refl
    where
      by : (o : Option Trail) → ts p ≡ o → arrival_at o (w p) n p e ≡ arrival_rule r (terms_in o) p e
      by None c = refl
      by (Some y) c = window (out_of_window n y.lead.0 e) refl
        where
          has : r.contracts p ≡ Some (terms_of y)
          has = ap terms_in c

          near : n ≤ e → crowding y.latest y.last y.spacing.0 (w p) e ≡ crowded r (terms_of y) p (e + 0)
          near h = crowded_by r (terms_of y) p 0 e y.latest y.last (w p) y.spaced (sound.newest p y c) (taken p y) (λ u i. omega (arith, (law.terms p (terms_of y) has).over u.0 (ap number_in i)))

          window : (b : Bool) → out_of_window n y.lead.0 e ≡ b → refused_if b (fault EligibleOutOfWindow p 255) (refused_if (crowding y.latest y.last y.spacing.0 (w p) e) (fault TooSoon p 255) None) ≡ refused_if b (fault EligibleOutOfWindow p 255) (refused_if (crowded r (terms_of y) p (e + 0)) (fault TooSoon p 255) None)
          window true q = refl
          window false q = ap (λ b. refused_if b (fault TooSoon p 255) None) (near (in_window n y.lead.0 e q).0)

  -- a cell that enters
  module _ (p e l : ℕ) (y z : Trail) (has : ts p ≡ Some y) (same : terms_of z ≡ terms_of y) where
    pub route_entered : route_of n k (updated ts p (Some z)) (updated w p (updated (w p) e (Some l))) ≡ entered r p e l
    route_entered = λ i. record {
      slot = n;
      first = k;
      links = [];
      contracts = (through terms_in ts p (Some z) ∙ ap (λ t. updated (λ q. terms_in (ts q)) p (Some t)) same ∙ updated_same (λ q. terms_in (ts q)) p (Some (terms_of y)) (ap terms_in has)) i;
      cells = (through {Y = ℕ → Option Place} (λ (g : ℕ → Option ℕ) v. place_in (g v)) w p (updated (w p) e (Some l)) ∙ ap (updated (λ q v. place_in (w q v)) p) (through place_in (w p) e (Some l) ∙ (λ j. updated (λ v. place_in (w p v)) (sym (add-zero e) j) (Some (record { label = l; hop = next (bounds_of (terms_in (sym has j))) }))))) i;
    }

    pub tracked_entered : arrival_rule r (Some (terms_of y)) p e ≡ None → (s : Slot) → s.0 ≡ e → Later y.latest s z.latest → Tracked (entered r p e l) (updated ts p (Some z))
    tracked_entered rule s at latest = record {
      lawful = lawful_entered r law p e l (terms_of y) (ap terms_in has) rule;
      newest = by_party (λ q x. Newest (entered r p e l) (terms_of x) q 0 x.latest) ts p z
          (subst (λ t. Newest (entered r p e l) t p 0 z.latest) (sym same) (later y.latest z.latest latest (sound.newest p y has)))
          (λ q x d i. newest_with r (entered r p e l) (terms_of x) q x.latest (λ v. ap (λ (g : ℕ → Option Place). g v) (at_other r.cells p q _ d)) (sound.newest q x i));
    }
      where
        new : Place
        new = record { label = l; hop = next (bounds_of (r.contracts p)) }

        cells : (entered r p e l).cells p ≡ updated (r.cells p) (e + constant_of r p) (Some new)
        cells = at_same r.cells p p (updated (r.cells p) (e + constant_of r p) (Some new)) refl

        from : (v : ℕ) (x : Place) → (entered r p e l).cells p v ≡ Some x → (v ≡ e) ⊎ (r.cells p v ≡ Some x)
        from v x i = elim (put_from r.cells p (e + constant_of r p) p v new x i) [ inl a ↦ inl (omega (arith, a.1)) | inr a ↦ inr a ]

        here : (v : ℕ) → v ≡ e → is_some ((entered r p e l).cells p v) ≡ true
        here v i = ap (λ (g : ℕ → Option Place). is_some (g v)) cells ∙ ap is_some (at_same (r.cells p) (e + constant_of r p) v (Some new) (omega arith))

        there : (v : ℕ) → (v ≡ e → ⊥) → (entered r p e l).cells p v ≡ r.cells p v
        there v d = ap (λ (g : ℕ → Option Place). g v) cells ∙ at_other (r.cells p) (e + constant_of r p) v (Some new) (λ i. d (omega arith))

        later : (o m : Option Slot) → Later o s m → Newest r (terms_of y) p 0 o → Newest (entered r p e l) (terms_of y) p 0 m
        later None m i old = subst (Newest (entered r p e l) (terms_of y) p 0) (sym i) (record {
          cells = λ v x c. elim (from v x c) [ inl q ↦ omega arith | inr q ↦ absurd (none_some (old.0 v) q) ];
          last = λ u c. absurd (none_some old.1 c);
          known = inl (here (s.0 + 0) (omega arith));
        })
        later (Some a) m i old =
            subst (Newest (entered r p e l) (terms_of y) p 0) (sym i)
            (cond_both (ltb s.0 a.0) (Some a) (Some s) (Newest (entered r p e l) (terms_of y) p 0)
            (λ t. (let lt = ltb-true s.0 a.0 t in record {
              cells = λ v x c. elim (from v x c) [ inl q ↦ omega arith | inr q ↦ old.cells v x q ];
              last = old.last;
              known = elim old.known [ inl q ↦ inl (ap is_some (there (a.0 + 0) (λ d. omega arith)) ∙ q) | inr q ↦ inr q ];
            }))
            (λ f. (let le = ltb-false s.0 a.0 f in record {
              cells = λ v x c. elim (from v x c) [ inl q ↦ omega arith | inr q ↦ (let b = old.cells v x q in omega arith) ];
              last = λ u c. (let b = old.last u c in omega arith);
              known = inl (here (s.0 + 0) (omega arith));
            })))

  -- the slot ends: what waited for it is gone, and the trails of those delivered say so
  arrives : (o : Option ℕ) → arrived [] (place_in o) ≡ o
  arrives None = refl
  arrives (Some l) = refl

  pub delivers : (p : ℕ) → delivery_of r p ≡ w p n
  delivers p = arrives (w p n)

  -- the trails after the slot
  module _ (ss : List (Option Header)) (us : ℕ → Option Trail) (notes : (p : ℕ) → Noted (ts p) (w p n) n (us p)) where
    left : (p v : ℕ) (o : Option ℕ) → place_in (cond (eqb v n) None o) ≡ cell_after r ss p v (place_in o)
    left p v None = cond_both (eqb v n) None None (λ x. place_in x ≡ None) (λ _. refl) (λ _. refl)
    left p v (Some l) = by (eqb v n)
      where
        by : (b : Bool) → place_in (cond b None (Some l)) ≡ placed l (cond b None (Some 0))
        by true = refl
        by false = refl

    pub route_ticked : route_of (n + 1) k us (λ p v. cond (eqb v n) None (w p v)) ≡ ticked r ss
    route_ticked = λ i. record {
      slot = n + 1;
      first = k;
      links = [];
      contracts = fun_ext (λ p. (notes p).terms ∙ ap (λ o. noted (terms_in (ts p)) o n) (sym (delivers p))) i;
      cells = fun_ext (λ p. fun_ext (λ v. left p v (w p v))) i;
    }

    -- a cell after the tick was there, and did not leave
    from : (p v : ℕ) (x : Place) → (ticked r ss).cells p v ≡ Some x → (v ≡ n → ⊥) × (y : Place) × (r.cells p v ≡ Some y)
    from p v x e = by (w p v) refl (left p v (w p v) ∙ e)
      where
        by : (o : Option ℕ) → w p v ≡ o → place_in (cond (eqb v n) None o) ≡ Some x → (v ≡ n → ⊥) × (y : Place) × (r.cells p v ≡ Some y)
        by None i = cond_both (eqb v n) None None (λ o. place_in o ≡ Some x → (v ≡ n → ⊥) × (y : Place) × (r.cells p v ≡ Some y)) (λ _ e. absurd (none_some refl e)) (λ _ e. absurd (none_some refl e))
        by (Some l) i = cond_both (eqb v n) None (Some l) (λ o. place_in o ≡ Some x → (v ≡ n → ⊥) × (y : Place) × (r.cells p v ≡ Some y)) (λ _ e. absurd (none_some refl e)) (λ f _. (eqb-false v n f, record { label = l; hop = 0 }, ap place_in i))

    -- one that does not leave stays
    stays : (p v : ℕ) → (v ≡ n → ⊥) → (ticked r ss).cells p v ≡ r.cells p v
    stays p v d = sym (left p v (w p v)) ∙ ap place_in (cond-false (eqb v n) None (w p v) (ne_eqb v n d))

    due : (p v : ℕ) (t : Terms) (x : Place) → r.contracts p ≡ Some t → (ticked r ss).cells p v ≡ Some x → n + 1 ≤ v
    due p v t x c e =
        let f = from p v x e in
        let d = f.0 in
        let s = (law.stands p v t f.1 c f.2).in_time in
        omega arith

    newest_ticked : (p : ℕ) (t u : Terms) (d : Option ℕ) (o : Option Slot) → r.contracts p ≡ Some t → w p n ≡ d → noted (Some t) d n ≡ Some u → Newest r t p 0 o → Newest (ticked r ss) u p 0 o
    newest_ticked p t u None None c i e old = (λ v. is_none _ (λ x q. none_some (old.0 v) (from p v x q).2), ap (λ (t : Terms). t.last) (sym (some_same refl e)) ∙ old.1)
    newest_ticked p t u (Some l) None c i e old = absurd (none_some (old.0 n) (ap place_in i))
    newest_ticked p t u None (Some a) c i e old = subst (λ t. Until (ticked r ss) t p (a.0 + 0)) (some_same refl e) (record {
      cells = λ v x q. old.cells v _ (from p v x q).2;
      last = old.last;
      known = elim old.known [ inl q ↦ inl (ap is_some (stays p (a.0 + 0) (λ z. both_ways (is_some (r.cells p (a.0 + 0))) (ap (λ v. is_some (place_in (w p v))) z ∙ ap (λ o. is_some (place_in o)) i) q)) ∙ q) | inr q ↦ inr q ];
    })
    newest_ticked p t u (Some l) (Some a) c i e old = subst (λ t. Until (ticked r ss) t p (a.0 + 0)) (some_same refl e) (record {
      cells = λ v x q. old.cells v _ (from p v x q).2;
      last = λ v q. (let b = old.cells n _ (ap place_in i) in omega (arith, some_same refl q));
      known = elim (cases_eq (a.0 + 0) n) [
        | inl z ↦ inr (ap Some (sym z))
        | inr z ↦ inl (elim old.known [
          | inl q ↦ (ap is_some (stays p (a.0 + 0) z) ∙ q)
          | inr q ↦ absurd (let b = old.cells n _ (ap place_in i) in let m = law.since p (a.0 + 0) n t _ c q (ap place_in i) in let g = (law.terms p t c).spacing_least in omega arith)
        ])
      ];
    })

    pub tracked_ticked : n ≤ last_slot → Tracked (ticked r ss) us
    tracked_ticked h = record {
      lawful = lawful_ticked r law ss h (λ p v t x c e. due p v t x c e);
      newest = λ p z e. by p z (ts p) refl (ap latest_in (sym e) ∙ (notes p).latest) (ap terms_in (sym e) ∙ (notes p).terms);
    }
      where
        by : (p : ℕ) (z : Trail) (o : Option Trail) → ts p ≡ o → Some z.latest ≡ latest_in (ts p) → Some (terms_of z) ≡ noted (terms_in (ts p)) (w p n) n → Newest (ticked r ss) (terms_of z) p 0 z.latest
        by p z None c a b = absurd (none_some (ap latest_in c) (sym a))
        by p z (Some y) c a b =
            let same : y.latest ≡ z.latest = some_same (ap latest_in c) (sym a) in
            subst (Newest (ticked r ss) (terms_of z) p 0) same (newest_ticked p (terms_of y) (terms_of z) (w p n) y.latest (ap terms_in c) refl (ap (λ o. noted (terms_in o) (w p n) n) (sym c) ∙ sym b) (sound.newest p y c))

-- a trail that stays, where nothing was delivered
pub not_noted : (o u : Option Trail) (d : Option ℕ) (t : ℕ) → u ≡ o → d ≡ None → Noted o d t u
not_noted o u d t e f = record { terms = ap terms_in e ∙ sym (ap (λ d. noted (terms_in o) d t) f ∙ by (terms_in o)); latest = ap latest_in e }
  where
    by : (o : Option Terms) → noted o None t ≡ o
    by None = refl
    by (Some k) = refl

-- how many cells of a trail can wait at once, if there is one
abbrev pub share_in : Option Trail → ℕ
share_in o = share_of (terms_in o)

share_most : (o : Option Trail) → share_in o ≤ 191
share_most None = omega arith
share_most (Some y) = share_few y

-- and of all trails
pub shares_few : (ts : List (Option Trail)) → length ts ≡ 16 → sum_by share_in ts ≤ 3056
shares_few ts e = let h = sum_by-le share_in 191 ts (λ k d l. share_most (get_or ts k d)) in omega (arith, ap (λ n. n * 191) e)
