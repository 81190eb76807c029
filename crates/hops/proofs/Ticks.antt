-- One tick, seen from a party's side of a hop: the path behind moves on, cells that are eligible now are put, and one may be served.
use Rattle.std.proofs.Common.{◌≡◌, ℕ, ◌+◌, ◌<◌, ◌≤◌, true, cond, eqb, ◌⊎◌, List, is_some, Some, None, Option, sym, refl, ap, ◌∙◌, subst, inl, inr, arith}
use mathlib.Core.Path.{fun_ext}
use Rattle.std.proofs.lemmas.Bool.{cond-true, cond-false, eq-eqb, ne_eqb, cases_eq}
use Rattle.cells.specs.declared.times.Slot.{Slot}
use Rattle.scheduler.specs.declared.terms.Contract.{Contract}
use Rattle.scheduler.specs.Meaning.{updated}
use Rattle.paths.specs.Route.{Terms, Place, constant}
use Rattle.hops.specs.declared.crossing.Crossing.{Crossing}
use Rattle.hops.specs.Crossed.{Same}
use Rattle.hops.specs.Joined.{Side, own, either, seen}
use Rattle.hops.specs.Level.{Crosses, Tied, Agrees, Settled, Passed, Unused, Put, Latest, last_of}
use Rattle.hops.proofs.Seen.{none_some, some_same, some_is, option_cases, Sight, here, there, sight, Both, both, own_waits, own_held, behind_seen}
use Rattle.hops.proofs.Sides.{at_same, at_other}
use Rattle.hops.proofs.Enters.{seen_some, seen_grows, tied_same, settled_at}

-- the path behind after slot n: what it has of the party came from what it had, and what it had is there or was delivered in slot n
pub record Moved (n : ℕ) (t t' : Option Terms) (b b' : ℕ → Option Place) : Type 0 where
  pub from : (v : ℕ) (z : Place) → b' v ≡ Some z → is_some (b v) ≡ true
  pub to : (v : ℕ) (z : Place) → b v ≡ Some z → (is_some (b' v) ≡ true) ⊎ ((v ≡ n) × (last_of t' ≡ Some n))
  pub last_from : (u : ℕ) → last_of t' ≡ Some u → (last_of t ≡ Some u) ⊎ ((u ≡ n) × (is_some (b n) ≡ true))
  pub last_to : (u : ℕ) → last_of t ≡ Some u → (last_of t' ≡ Some u) ⊎ (is_some (b n) ≡ true)
  pub terms : (k : Terms) → t ≡ Some k → (k' : Terms) × (t' ≡ Some k') × (k'.spacing ≡ k.spacing) × (k'.bounds ≡ k.bounds) × (k'.lead ≡ k.lead)

pub none_of : {X : Type 0} (o : Option X) → ((x : X) → o ≡ Some x → ⊥) → o ≡ None
none_of o h = elim (option_cases o) [ inl e ↦ e | inr e ↦ absurd (h e.0 e.1) ]

abbrev pub moved_side : Side → Option Terms → (ℕ → Option Place) → Side
moved_side y t b = record { crossing = y.crossing; contract = y.contract; terms = t; waits = y.waits; held = y.held; behind = b }

module _ (n g : ℕ) (gs : List ℕ) (y : Side) (t' : Option Terms) (b' : ℕ → Option Place) (m : Moved n y.terms t' y.behind b') where
  none_still : (v : ℕ) → y.behind v ≡ None → b' v ≡ None
  none_still v q = none_of (b' v) (λ z h. let s = some_is (y.behind v) (m.from v z h) in none_some q s.1)

  unused_moved : Unused y → Unused (moved_side y t' b')
  unused_moved h = record {
    cells = λ v. none_still v (h.cells v);
    last = none_of (last_of t') (λ u q. elim (m.last_from u q) [
      | inl a ↦ none_some h.last a
      | inr a ↦ (let s = some_is (y.behind n) a.1 in none_some (h.cells n) s.1)
    ]);
  }

  module _ (x : Crossing) (ex : y.crossing ≡ Some x) (since : (u v : ℕ) (z : Place) → last_of y.terms ≡ Some u → y.behind v ≡ Some z → u < v) where
    passed_moved : (a : ℕ) → Passed y x a → Passed (moved_side y t' b') x a
    passed_moved a h = record {
      cells = λ v z q. (let s = some_is (y.behind v) (m.from v z q) in h.cells v s.0 s.1);
      last = λ u q. elim (m.last_from u q) [
        | inl r ↦ h.last u r
        | inr r ↦ (let s = some_is (y.behind n) r.1 in omega (arith, h.cells n s.0 s.1, r.0))
      ];
      known = elim h.known [ inl q ↦ was_seen q | inr q ↦ was_last q ];
    }
      where
        v : ℕ
        v = a + x.constant.0

        by_sight : (z : Place) → Sight y v z → (is_some (seen (moved_side y t' b') v) ≡ true) ⊎ (last_of t' ≡ Some v)
        by_sight z (here x₀ e l c d o) = inl (
            let q : v ≡ e + x.constant.0 = d ∙ ap (λ (x : Crossing). e + x.constant.0) (some_same c ex) in
            subst (λ v. is_some (seen (moved_side y t' b') v) ≡ true) (sym q) (seen_some (moved_side y t' b') x e ex (ap is_some o)))
        by_sight z (there w k b) = elim (m.to v w b) [
          | inl q ↦ inl (let s = some_is (b' v) q in let r = behind_seen (moved_side y t' b') v s.0 s.1 in ap is_some r.1)
          | inr q ↦ inr (q.1 ∙ ap Some (sym q.0))
        ]

        was_seen : is_some (seen y v) ≡ true → (is_some (seen (moved_side y t' b') v) ≡ true) ⊎ (last_of t' ≡ Some v)
        was_seen q = let s = some_is (seen y v) q in by_sight s.0 (sight y v s.0 s.1)

        was_last : last_of y.terms ≡ Some v → (is_some (seen (moved_side y t' b') v) ≡ true) ⊎ (last_of t' ≡ Some v)
        was_last q = elim (m.last_to v q) [
          | inl r ↦ inr r
          | inr r ↦ (let s = some_is (y.behind n) r in absurd (omega (arith, h.cells n s.0 s.1, since v n s.0 q s.1)))
        ]

    put_moved : (o : Option Slot) → Put y x o → Put (moved_side y t' b') x o
    put_moved None h = unused_moved h
    put_moved (Some t) h = (passed_moved t.0 h.0, h.1)

    latest_moved : (o : Option Slot) → Latest y x o → Latest (moved_side y t' b') x o
    latest_moved None h = (unused_moved h.0, h.1)
    latest_moved (Some t) h = (passed_moved t.0 h.0, h.1)

  tied_moved : (ox : Option Crossing) (oc : Option Contract) (ot : Option Terms) → y.terms ≡ ot → Tied g gs ox oc ot → Tied g gs ox oc t'
  tied_moved None oc ot q h = h
  tied_moved (Some x) None ot q h = h
  tied_moved (Some x) (Some c) None q h = absurd h
  tied_moved (Some x) (Some c) (Some t) q h =
      let w = m.terms t q in
      subst (Tied g gs (Some x) (Some c)) (sym w.1) (record {
        spacing = h.spacing;
        bound = h.bound;
        last = h.last;
        behind = w.2 ∙ h.behind;
        lead = w.4 ∙ h.lead;
        constants = h.constants ∙ ap (λ ds. x.bound.0 + g + constant gs ds) (sym w.3);
      })

  -- the path behind ticks
  pub agrees_moved : ((u v : ℕ) (z : Place) → last_of y.terms ≡ Some u → y.behind v ≡ Some z → u < v) → Agrees n g gs y → Agrees n g gs (moved_side y t' b')
  agrees_moved since h = record {
    tied = tied_moved y.crossing y.contract y.terms refl h.tied;
    window = h.window;
    idle = h.idle;
    settled = λ x c ex ec. record {
      apart = λ e l q. none_still (e + x.constant.0) ((h.settled x c ex ec).apart e l q);
      put = put_moved x ex since c.last (h.settled x c ex ec).put;
      latest = latest_moved x ex since x.trail.latest (h.settled x c ex ec).latest;
    };
  }

-- what waits once slot n is over
abbrev pub passing : (ℕ → Option ℕ) → ℕ → ℕ → Option ℕ
passing w n e = cond (eqb e n) None (w e)

pub passing_at : (w : ℕ → Option ℕ) (n e : ℕ) → e ≡ n → passing w n e ≡ None
passing_at w n e q = cond-true (eqb e n) None (w e) (eq-eqb e n q)

pub passing_other : (w : ℕ → Option ℕ) (n e : ℕ) → (e ≡ n → ⊥) → passing w n e ≡ w e
passing_other w n e q = cond-false (eqb e n) None (w e) (ne_eqb e n q)

passing_same : (w : ℕ → Option ℕ) (n : ℕ) → w n ≡ None → passing w n ≡ w
passing_same w n q = fun_ext (λ e. elim (cases_eq e n) [ inl r ↦ passing_at w n e r ∙ sym (ap w r ∙ q) | inr r ↦ passing_other w n e r ])

abbrev pub waits_side : Side → (ℕ → Option ℕ) → Side
waits_side y w = record { crossing = y.crossing; contract = y.contract; terms = y.terms; waits = w; held = y.held; behind = y.behind }

-- nothing waits for the slot that ends
pub agrees_quiet : (n g : ℕ) (gs : List ℕ) (y : Side) → y.waits n ≡ None → Agrees n g gs y → Agrees (n + 1) g gs (waits_side y (passing y.waits n))
agrees_quiet n g gs y q h = subst (λ w. Agrees (n + 1) g gs (waits_side y w)) (sym (passing_same y.waits n q)) (record {
  tied = h.tied;
  window = window;
  idle = h.idle;
  settled = h.settled;
})
  where
    window : (e l : ℕ) → y.waits e ≡ Some l → n + 1 ≤ e
    window e l r = elim (cases_eq e n) [ inl s ↦ absurd (none_some (ap y.waits s ∙ q) r) | inr s ↦ omega (arith, h.window e l r) ]

module _ (n g : ℕ) (gs : List ℕ) (y : Side) (l : ℕ) (x x' : Crossing) (c c' : Contract) (t' : Slot) where
  -- the cell that waited for the slot is held
  abbrev pub admit_side : Side
  admit_side = record { crossing = Some x'; contract = Some c'; terms = y.terms; waits = passing y.waits n; held = updated y.held n (Some l); behind = y.behind }

  module _ (h : Agrees n g gs y) (w : y.waits n ≡ Some l) (ex : y.crossing ≡ Some x) (ec : y.contract ≡ Some c) (s : Same x x') (latest : x'.trail.latest ≡ x.trail.latest)
      (last : x'.trail.last ≡ Some t') (cs : c'.spacing.0 ≡ c.spacing.0) (cb : c'.bound.0 ≡ c.bound.0) (cl : c'.last ≡ Some t') (at : t'.0 ≡ n)
      (apart : (a b i j : ℕ) → own y a ≡ Some i → own y b ≡ Some j → a < b → a + x.trail.spacing.0 ≤ b) where
    old : Settled y x c
    old = h.settled x c ex ec

    -- the same cells stand here
    own_same : (a : ℕ) → own admit_side a ≡ own y a
    own_same a = elim (cases_eq a n) [
      | inl q ↦ (
          (λ i. either (passing_at y.waits n a q i) (at_same y.held n a (Some l) q i))
          ∙ sym (ap (own y) q ∙ own_waits y n l w))
      | inr q ↦ (λ i. either (passing_other y.waits n a q i) (at_other y.held n a (Some l) q i))
    ]

    seen_same : (v : ℕ) → is_some (seen y v) ≡ true → is_some (seen admit_side v) ≡ true
    seen_same = seen_grows y admit_side x x' ex refl s.constants (λ a k q. ap is_some (own_same a ∙ q)) (λ v z q. ap is_some q)

    own_now : own admit_side n ≡ Some l
    own_now = own_same n ∙ own_waits y n l w

    passed_admit : (a : ℕ) → Passed y x a → Passed admit_side x' a
    passed_admit a p = record {
      cells = λ v z q. omega (arith, p.cells v z q, s.constants);
      last = λ u q. omega (arith, p.last u q, s.constants);
      known = elim p.known [
        | inl q ↦ inl (subst (λ d. is_some (seen admit_side (a + d)) ≡ true) (sym s.constants) (seen_same (a + x.constant.0) q))
        | inr q ↦ inr (q ∙ ap (λ d. Some (a + d)) (sym s.constants))
      ];
    }

    now_seen : is_some (seen admit_side (n + x'.constant.0)) ≡ true
    now_seen = seen_some admit_side x' n refl (ap is_some own_now)

    passed_now : (o : Option Slot) → Put y x o → Passed admit_side x' n
    passed_now None p = record {
      cells = λ v z q. absurd (none_some (p.cells v) q);
      last = λ u q. absurd (none_some p.last q);
      known = inl now_seen;
    }
    passed_now (Some t) p = record {
      cells = λ v z q. omega (arith, p.0.cells v z q, s.constants, p.1 n l w);
      last = λ u q. omega (arith, p.0.last u q, s.constants, p.1 n l w);
      known = inl now_seen;
    }

    behind_none : (o : Option Slot) → Put y x o → y.behind (n + x.constant.0) ≡ None
    behind_none None p = p.cells (n + x.constant.0)
    behind_none (Some t) p = none_of (y.behind (n + x.constant.0)) (λ z q. omega (arith, p.0.cells (n + x.constant.0) z q, p.1 n l w, x.trail.spaced))

    apart_admit : (a k : ℕ) → updated y.held n (Some l) a ≡ Some k → y.behind (a + x'.constant.0) ≡ None
    apart_admit a k q = subst (λ d. y.behind (a + d) ≡ None) (sym s.constants) (elim (cases_eq a n) [
      | inl r ↦ subst (λ a. y.behind (a + x.constant.0) ≡ None) (sym r) (behind_none c.last old.put)
      | inr r ↦ old.apart a k (sym (at_other y.held n a (Some l) r) ∙ q)
    ])

    waits_admit : (a k : ℕ) → passing y.waits n a ≡ Some k → n + x'.trail.spacing.0 ≤ a
    waits_admit a k q = elim (cases_eq a n) [
      | inl r ↦ absurd (none_some (passing_at y.waits n a r) q)
      | inr r ↦ (
          let d = sym (passing_other y.waits n a r) ∙ q in
          let lt : n < a = omega (arith, h.window a k d) in
          omega (arith, apart n a l k (own_waits y n l w) (own_waits y a k d) lt, s.spacing))
    ]

    latest_admit : (o : Option Slot) → Latest y x o → Latest admit_side x' o
    latest_admit None p = absurd (none_some (p.1 n) (own_waits y n l w))
    latest_admit (Some t) p = (passed_admit t.0 p.0, λ a k q. p.1 a k (sym (own_same a) ∙ q))

    bothy : Both g gs x y.contract y.terms
    bothy = both g gs x y.crossing y.contract y.terms h.tied ex

    pub agrees_admit : Agrees (n + 1) g gs admit_side
    agrees_admit = record {
      tied = subst (Tied g gs (Some x') (Some c')) (sym bothy.terms_is) (tied_same g gs x x' c c' bothy.terms (subst (λ d. Crosses g gs x d bothy.terms) (some_same bothy.contract_is ec) bothy.ties) s cs cb (cl ∙ sym last));
      window = λ a k q. elim (cases_eq a n) [
        | inl r ↦ absurd (none_some (passing_at y.waits n a r) q)
        | inr r ↦ omega (arith, h.window a k (sym (passing_other y.waits n a r) ∙ q))
      ];
      idle = λ q. absurd (none_some q refl);
      settled = settled_at admit_side x' c' refl refl (record {
        apart = apart_admit;
        put = subst (Put admit_side x') (sym cl) (subst (Passed admit_side x') (sym at) (passed_now c.last old.put), λ a k q. omega (arith, waits_admit a k q, at));
        latest = subst (Latest admit_side x') (sym latest) (latest_admit x.trail.latest old.latest);
      });
    }

module _ (n g : ℕ) (gs : List ℕ) (y : Side) (e l v : ℕ) (z : Place) (x : Crossing) (c : Contract) where
  -- a held cell goes behind
  abbrev pub serve_side : Side
  serve_side = record { crossing = y.crossing; contract = y.contract; terms = y.terms; waits = y.waits; held = updated y.held e None; behind = updated y.behind v (Some z) }

  module _ (h : Agrees (n + 1) g gs y) (ex : y.crossing ≡ Some x) (ec : y.contract ≡ Some c) (eh : y.held e ≡ Some l) (at : v ≡ e + x.constant.0) (now : e ≤ n)
      (since : (u : Slot) × (c.last ≡ Some u) × (e ≤ u.0)) where
    was : Settled y x c
    was = h.settled x c ex ec

    not_waiting : y.waits e ≡ None
    not_waiting = none_of (y.waits e) (λ k q. omega (arith, h.window e k q))

    own_other : (a : ℕ) → (a ≡ e → ⊥) → own serve_side a ≡ own y a
    own_other a q = ap (either (y.waits a)) (at_other y.held e a None q)

    own_gone : own serve_side e ≡ None
    own_gone = (λ i. either (not_waiting i) (at_same y.held e e None refl i))

    own_was : (a k : ℕ) → own serve_side a ≡ Some k → own y a ≡ Some k
    own_was a k q = elim (cases_eq a e) [ inl r ↦ absurd (none_some (ap (own serve_side) r ∙ own_gone) q) | inr r ↦ sym (own_other a r) ∙ q ]

    behind_some : (w : ℕ) → is_some (y.behind w) ≡ true → is_some (serve_side.behind w) ≡ true
    behind_some w q = elim (cases_eq w v) [ inl r ↦ ap is_some (at_same y.behind v w (Some z) r) | inr r ↦ ap is_some (at_other y.behind v w (Some z) r) ∙ q ]

    behind_was : (w : ℕ) (k : Place) → serve_side.behind w ≡ Some k → (w ≡ v) ⊎ (y.behind w ≡ Some k)
    behind_was w k q = elim (cases_eq w v) [ inl r ↦ inl r | inr r ↦ inr (sym (at_other y.behind v w (Some z) r) ∙ q) ]

    -- what was seen is seen
    seen-still : (w : ℕ) → is_some (seen y w) ≡ true → is_some (seen serve_side w) ≡ true
    seen-still w q = let s = some_is (seen y w) q in go s.0 (sight y w s.0 s.1)
      where
        back : is_some (serve_side.behind w) ≡ true → is_some (seen serve_side w) ≡ true
        back r = let s = some_is (serve_side.behind w) r in let k = behind_seen serve_side w s.0 s.1 in ap is_some k.1

        go : (k : Place) → Sight y w k → is_some (seen serve_side w) ≡ true
        go k (here x₀ a i b f o) =
            let f' : w ≡ a + x.constant.0 = f ∙ ap (λ (x : Crossing). a + x.constant.0) (some_same b ex) in
            elim (cases_eq a e) [
              | inl r ↦ back (ap is_some (at_same y.behind v w (Some z) (f' ∙ ap (λ a. a + x.constant.0) r ∙ sym at)))
              | inr r ↦ subst (λ w. is_some (seen serve_side w) ≡ true) (sym f') (seen_some serve_side x a ex (ap is_some (own_other a r ∙ o)))
            ]
        go k (there k₀ i b) = back (behind_some w (ap is_some b))

    passed_serve : (a : ℕ) → e ≤ a → Passed y x a → Passed serve_side x a
    passed_serve a le p = record {
      cells = λ w k q. elim (behind_was w k q) [ inl r ↦ omega (arith, at) | inr r ↦ p.cells w k r ];
      last = p.last;
      known = elim p.known [ inl q ↦ inl (seen-still (a + x.constant.0) q) | inr q ↦ inr q ];
    }

    put_serve : (o : Option Slot) → c.last ≡ o → Put y x o → Put serve_side x o
    put_serve None q p = absurd (none_some q since.1)
    put_serve (Some t) q p = (passed_serve t.0 (let r : t ≡ since.0 = some_same q since.1 in omega (arith, ap (λ (u : Slot). u.0) r, since.2)) p.0, p.1)

    own_was_here : (i : ℕ) × (own y e ≡ Some i)
    own_was_here = own_held y e l eh

    latest_serve : (o : Option Slot) → Latest y x o → Latest serve_side x o
    latest_serve None p = absurd (none_some (p.1 e) own_was_here.1)
    latest_serve (Some t) p = (passed_serve t.0 (p.1 e own_was_here.0 own_was_here.1) p.0, λ a k q. p.1 a k (own_was a k q))

    apart_serve : (a k : ℕ) → updated y.held e None a ≡ Some k → updated y.behind v (Some z) (a + x.constant.0) ≡ None
    apart_serve a k q = elim (cases_eq a e) [
      | inl r ↦ absurd (none_some (at_same y.held e a None r) q)
      | inr r ↦ at_other y.behind v (a + x.constant.0) (Some z) (λ d. r (omega (arith, at))) ∙ was.apart a k (sym (at_other y.held e a None r) ∙ q)
    ]

    pub agrees_serve : Agrees (n + 1) g gs serve_side
    agrees_serve = record {
      tied = h.tied;
      window = h.window;
      idle = h.idle;
      settled = settled_at serve_side x c ex ec (record { apart = apart_serve; put = put_serve c.last refl was.put; latest = latest_serve x.trail.latest was.latest });
    }
