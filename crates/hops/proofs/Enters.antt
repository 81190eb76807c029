-- A cell enters at a hop: what a party's side keeps.
use Rattle.std.proofs.Common.{◌≡◌, ℕ, ◌+◌, ◌≤◌, true, ◌⊎◌, List, is_some, Some, None, Option, sym, refl, ap, ◌∙◌, subst, inl, inr, arith}
use Rattle.std.proofs.lemmas.Bool.{cases_eq}
use Rattle.cells.specs.declared.times.Slot.{Slot}
use Rattle.scheduler.specs.declared.terms.Contract.{Contract}
use Rattle.scheduler.specs.Meaning.{updated}
use Rattle.paths.specs.Route.{Terms, Place}
use Rattle.hops.specs.declared.crossing.Crossing.{Crossing}
use Rattle.hops.specs.Crossed.{Same}
use Rattle.hops.specs.Joined.{Side, own, either, seen}
use Rattle.hops.specs.Level.{Crosses, Tied, Agrees, Settled, Passed, Unused, Put, Latest, last_of}
use Rattle.hops.proofs.Seen.{none_some, some_same, some_is, option_cases, Sight, here, there, sight, Both, both, own_waits, own_held, seen-own, behind_seen}
use Rattle.hops.proofs.Sides.{at_same, at_other}

-- the later of a slot and another, if there is one
pub data Later : Option Slot → ℕ → Option Slot → Type 0 where
  first : (e : ℕ) (b : Slot) → b.0 ≡ e → Later None e (Some b)
  after : (a b : Slot) (e : ℕ) → b.0 ≡ e → a.0 ≤ e → Later (Some a) e (Some b)
  before : (a : Slot) (e : ℕ) → e ≤ a.0 → Later (Some a) e (Some a)

-- a cell that stands here is seen, whatever the label
pub seen_some : (y : Side) (x : Crossing) (e : ℕ) → y.crossing ≡ Some x → is_some (own y e) ≡ true → is_some (seen y (e + x.constant.0)) ≡ true
seen_some y x e c h = let s = some_is (own y e) h in ap is_some (seen-own y x e s.0 c s.1)

-- more stands here and behind, so more is seen
pub seen_grows : (y z : Side) (x x' : Crossing) → y.crossing ≡ Some x → z.crossing ≡ Some x' → x'.constant.0 ≡ x.constant.0
    → ((a l : ℕ) → own y a ≡ Some l → is_some (own z a) ≡ true) → ((v : ℕ) (w : Place) → y.behind v ≡ Some w → is_some (z.behind v) ≡ true)
    → (v : ℕ) → is_some (seen y v) ≡ true → is_some (seen z v) ≡ true
seen_grows y z x x' c d k owns behinds v h = let s = some_is (seen y v) h in go s.0 (sight y v s.0 s.1)
  where
    go : (w : Place) → Sight y v w → is_some (seen z v) ≡ true
    go w (here x₀ a l b f o) =
        let same : x₀ ≡ x = some_same b c in
        let at : v ≡ a + x'.constant.0 = f ∙ ap (λ (x : Crossing). a + x.constant.0) same ∙ ap (λ n. a + n) (sym k) in
        subst (λ v. is_some (seen z v) ≡ true) (sym at) (seen_some z x' a d (owns a l o))
    go w (there w₀ n b) = let s = some_is (z.behind v) (behinds v w₀ b) in let t = behind_seen z v s.0 s.1 in ap is_some t.1

-- a party's cells and its last delivery are at least s slots from slot v
pub record Clear (y : Side) (s v : ℕ) : Type 0 where
  pub cells : (w : ℕ) (z : Place) → seen y w ≡ Some z → (w + s ≤ v) ⊎ (v + s ≤ w)
  pub last : (u : ℕ) → last_of y.terms ≡ Some u → (u + s ≤ v) ⊎ (v + s ≤ u)

-- what is known is clear too
known_clear : (y : Side) (s v w : ℕ) → Clear y s v → ((is_some (seen y w) ≡ true) ⊎ (last_of y.terms ≡ Some w)) → (w + s ≤ v) ⊎ (v + s ≤ w)
known_clear y s v w c (inl h) = let q = some_is (seen y w) h in c.cells w q.0 q.1
known_clear y s v w c (inr h) = c.last w h

module _ (y : Side) (e l : ℕ) (x x' : Crossing) where
  abbrev pub wait_side : Side
  wait_side = record { crossing = Some x'; contract = y.contract; terms = y.terms; waits = updated y.waits e (Some l); held = y.held; behind = y.behind }

  abbrev pub put_side : Contract → Side
  put_side c = record { crossing = Some x'; contract = Some c; terms = y.terms; waits = y.waits; held = updated y.held e (Some l); behind = y.behind }

  pub own-wait : own wait_side e ≡ Some l
  own-wait = ap (λ a. either a (y.held e)) (at_same y.waits e e (Some l) refl)

  pub own-wait_other : (a : ℕ) → (a ≡ e → ⊥) → own wait_side a ≡ own y a
  own-wait_other a n = ap (λ o. either o (y.held a)) (at_other y.waits e a (Some l) n)

  pub own_put_other : (c : Contract) (a : ℕ) → (a ≡ e → ⊥) → own (put_side c) a ≡ own y a
  own_put_other c a n = ap (either (y.waits a)) (at_other y.held e a (Some l) n)

  own_put : (c : Contract) → is_some (own (put_side c) e) ≡ true
  own_put c = let h = own_held (put_side c) e l (at_same y.held e e (Some l) refl) in ap is_some h.1

  -- the side with one more cell here, eligible in slot e
  record More (z : Side) : Type 0 where
    crossing : z.crossing ≡ Some x'
    terms : z.terms ≡ y.terms
    behind : z.behind ≡ y.behind
    new : is_some (own z e) ≡ true
    old : (a : ℕ) → (a ≡ e → ⊥) → own z a ≡ own y a

  module _ (z : Side) (m : More z) (s : Same x x') (c : y.crossing ≡ Some x) where
    grown : (a b : ℕ) → own y a ≡ Some b → is_some (own z a) ≡ true
    grown a b h = elim (cases_eq a e) [ inl q ↦ subst (λ n. is_some (own z n) ≡ true) (sym q) m.new | inr q ↦ ap is_some (m.old a q ∙ h) ]

    kept : (v : ℕ) → is_some (seen y v) ≡ true → is_some (seen z v) ≡ true
    kept = seen_grows y z x x' c m.crossing s.constants grown (λ v w h. ap is_some (ap (λ f. f v) m.behind ∙ h))

    new_seen : is_some (seen z (e + x'.constant.0)) ≡ true
    new_seen = seen_some z x' e m.crossing m.new

    -- what passed by slot a still has
    passed_more : (a : ℕ) → Passed y x a → Passed z x' a
    passed_more a h = record {
      cells = λ v w q. omega (arith, h.cells v w (sym (ap (λ f. f v) m.behind) ∙ q), s.constants);
      last = λ u q. omega (arith, h.last u (sym (ap last_of m.terms) ∙ q), s.constants);
      known = elim h.known [
        | inl q ↦ inl (subst (λ n. is_some (seen z (a + n)) ≡ true) (sym s.constants) (kept (a + x.constant.0) q))
        | inr q ↦ inr (ap last_of m.terms ∙ q ∙ ap (λ n. Some (a + n)) (sym s.constants))
      ];
    }

    -- and what passed by an earlier slot, or none, has passed by e
    passed_new : (a : ℕ) → a ≤ e → Passed y x a → Passed z x' e
    passed_new a le h = record {
      cells = λ v w q. omega (arith, h.cells v w (sym (ap (λ f. f v) m.behind) ∙ q), s.constants);
      last = λ u q. omega (arith, h.last u (sym (ap last_of m.terms) ∙ q), s.constants);
      known = inl new_seen;
    }

    passed_first : Unused y → Passed z x' e
    passed_first h = record {
      cells = λ v w q. absurd (none_some (h.cells v) (sym (ap (λ f. f v) m.behind) ∙ q));
      last = λ u q. absurd (none_some h.last (sym (ap last_of m.terms) ∙ q));
      known = inl new_seen;
    }

    -- the latest
    latest_more : (o : Option Slot) (n : Option Slot) → Later o e n → Latest y x o → Latest z x' n
    latest_more _ _ (first _ b q) h = (subst (Passed z x') (sym q) (passed_first h.0), owns)
      where
        owns : (a k : ℕ) → own z a ≡ Some k → a ≤ b.0
        owns a k o = elim (cases_eq a e) [ inl r ↦ omega arith | inr r ↦ absurd (none_some (h.1 a) (sym (m.old a r) ∙ o)) ]
    latest_more _ _ (after a b _ q le) h = (subst (Passed z x') (sym q) (passed_new a.0 le h.0), owns)
      where
        owns : (d k : ℕ) → own z d ≡ Some k → d ≤ b.0
        owns d k o = elim (cases_eq d e) [ inl r ↦ omega arith | inr r ↦ omega (arith, h.1 d k (sym (m.old d r) ∙ o)) ]
    latest_more _ _ (before a _ le) h = (passed_more a.0 h.0, owns)
      where
        owns : (d k : ℕ) → own z d ≡ Some k → d ≤ a.0
        owns d k o = elim (cases_eq d e) [ inl r ↦ omega arith | inr r ↦ h.1 d k (sym (m.old d r) ∙ o) ]

  more_wait : More wait_side
  more_wait = record { crossing = refl; terms = refl; behind = refl; new = ap is_some own-wait; old = own-wait_other }

  more_put : (c : Contract) → More (put_side c)
  more_put c = record { crossing = refl; terms = refl; behind = refl; new = own_put c; old = own_put_other c }

-- a crossing in place of another of the same terms
pub tied_same : (g : ℕ) (gs : List ℕ) (x x' : Crossing) (c c' : Contract) (t : Terms) → Crosses g gs x c t → Same x x' → c'.spacing.0 ≡ c.spacing.0 → c'.bound.0 ≡ c.bound.0 → c'.last ≡ x'.trail.last → Crosses g gs x' c' t
tied_same g gs x x' c c' t h s a b l = record {
  spacing = a ∙ h.spacing ∙ sym s.spacing;
  bound = b ∙ h.bound ∙ sym s.bound;
  last = l;
  behind = h.behind ∙ sym s.spacing;
  lead = h.lead ∙ ap (λ d. d + g) (sym s.bound);
  constants = s.constants ∙ h.constants ∙ omega (arith, s.bound);
}

pub settled_at : (z : Side) (x : Crossing) (c : Contract) → z.crossing ≡ Some x → z.contract ≡ Some c → Settled z x c → (x' : Crossing) (c' : Contract) → z.crossing ≡ Some x' → z.contract ≡ Some c' → Settled z x' c'
settled_at z x c e f s x' c' e' f' = subst (λ d. Settled z x' d) (some_same f f') (subst (λ d. Settled z d c) (some_same e e') s)

module _ (n g : ℕ) (gs : List ℕ) (y : Side) (e l : ℕ) (x x' : Crossing) (c : Contract) (h : Agrees n g gs y) (ex : y.crossing ≡ Some x) (ec : y.contract ≡ Some c)
    (s : Same x x') (later : Later x.trail.latest e x'.trail.latest) (soon : n ≤ e) (clear : Clear y x.trail.spacing.0 (e + x.constant.0))
    (past : (u : Slot) → c.last ≡ Some u → u.0 ≤ n) where
  old : Settled y x c
  old = h.settled x c ex ec

  bothy : Both g gs x y.contract y.terms
  bothy = both g gs x y.crossing y.contract y.terms h.tied ex

  crosses : Crosses g gs x c bothy.terms
  crosses = subst (λ d. Crosses g gs x d bothy.terms) (some_same bothy.contract_is ec) bothy.ties

  spaced_one : 1 ≤ x.trail.spacing.0
  spaced_one = x.trail.spaced

  -- the last that was put is a spacing before
  last_before : (t : Slot) → c.last ≡ Some t → Passed y x t.0 → t.0 + x.trail.spacing.0 ≤ e
  last_before t q w =
      let le = past t q in
      elim (known_clear y x.trail.spacing.0 (e + x.constant.0) (t.0 + x.constant.0) clear w.known) [ inl a ↦ omega arith | inr a ↦ absurd (omega (arith, spaced_one)) ]

  put_wait : (o : Option Slot) → c.last ≡ o → Put y x o → Put (wait_side y e l x x') x' o
  put_wait None q w = record { cells = w.cells; last = w.last }
  put_wait (Some t) q w = (passed_more y e l x x' (wait_side y e l x x') (more_wait y e l x x') s ex t.0 w.0, waits)
    where
      waits : (a k : ℕ) → updated y.waits e (Some l) a ≡ Some k → t.0 + x'.trail.spacing.0 ≤ a
      waits a k r = elim (cases_eq a e) [
        | inl b ↦ omega (arith, last_before t q w.0, s.spacing)
        | inr b ↦ omega (arith, w.1 a k (sym (at_other y.waits e a (Some l) b) ∙ r), s.spacing)
      ]

  wait_settled : Settled (wait_side y e l x x') x' c
  wait_settled = record {
    apart = λ a k q. subst (λ d. y.behind (a + d) ≡ None) (sym s.constants) (old.apart a k q);
    put = put_wait c.last refl old.put;
    latest = latest_more y e l x x' (wait_side y e l x x') (more_wait y e l x x') s ex x.trail.latest x'.trail.latest later old.latest;
  }

  tied_wait : x'.trail.last ≡ x.trail.last → Tied g gs (Some x') y.contract y.terms
  tied_wait q =
      let w = tied_same g gs x x' c c bothy.terms crosses s refl refl (crosses.last ∙ sym q) in
      subst (λ d. Tied g gs (Some x') d y.terms) (sym ec) (subst (Tied g gs (Some x') (Some c)) (sym bothy.terms_is) w)

  -- a cell that waits
  pub agrees_wait : x'.trail.last ≡ x.trail.last → Agrees n g gs (wait_side y e l x x')
  agrees_wait q = record {
    tied = tied_wait q;
    window = λ a k r. elim (cases_eq a e) [ inl b ↦ omega arith | inr b ↦ h.window a k (sym (at_other y.waits e a (Some l) b) ∙ r) ];
    idle = λ r. absurd (none_some r refl);
    settled = settled_at (wait_side y e l x x') x' c refl ec wait_settled;
  }

  module _ (now : e ≡ n) (c' : Contract) (cs : c'.spacing.0 ≡ c.spacing.0) (cb : c'.bound.0 ≡ c.bound.0) (t' : Slot) (cl : c'.last ≡ Some t') (at : t'.0 ≡ e) where
    after_put : (o : Option Slot) → c.last ≡ o → Put y x o → Passed (put_side y e l x x' c') x' e
    after_put None q w = passed_first y e l x x' (put_side y e l x x' c') (more_put y e l x x' c') s ex w
    after_put (Some t) q w = passed_new y e l x x' (put_side y e l x x' c') (more_put y e l x x' c') s ex t.0 (omega (arith, past t q)) w.0

    waits_after : (a k : ℕ) → y.waits a ≡ Some k → e + x.trail.spacing.0 ≤ a
    waits_after a k q =
        let i = h.window a k q in
        elim (clear.cells (a + x.constant.0) _ (seen-own y x a k ex (own_waits y a k q))) [ inl b ↦ absurd (omega (arith, spaced_one)) | inr b ↦ omega arith ]

    put_apart : (a k : ℕ) → updated y.held e (Some l) a ≡ Some k → y.behind (a + x'.constant.0) ≡ None
    put_apart a k q = subst (λ d. y.behind (a + d) ≡ None) (sym s.constants) (elim (cases_eq a e) [
      | inl b ↦ subst (λ a. y.behind (a + x.constant.0) ≡ None) (sym b) none
      | inr b ↦ old.apart a k (sym (at_other y.held e a (Some l) b) ∙ q)
    ])
      where
        none : y.behind (e + x.constant.0) ≡ None
        none = elim (option_cases (y.behind (e + x.constant.0))) [
          | inl q ↦ q
          | inr q ↦ (
              let w = behind_seen y (e + x.constant.0) q.0 q.1 in
              absurd (elim (clear.cells (e + x.constant.0) w.0 w.1) [ inl b ↦ omega (arith, spaced_one) | inr b ↦ omega (arith, spaced_one) ]))
        ]

    put_settled : Settled (put_side y e l x x' c') x' c'
    put_settled = record {
      apart = put_apart;
      put = subst (Put (put_side y e l x x' c') x') (sym cl) (
        subst (Passed (put_side y e l x x' c') x') (sym at) (after_put c.last refl old.put),
        λ a k q. omega (arith, waits_after a k q, s.spacing),
      );
      latest = latest_more y e l x x' (put_side y e l x x' c') (more_put y e l x x' c') s ex x.trail.latest x'.trail.latest later old.latest;
    }

    -- a cell that is put at once
    pub agrees_put : x'.trail.last ≡ Some t' → Agrees n g gs (put_side y e l x x' c')
    agrees_put q = record {
      tied = subst (Tied g gs (Some x') (Some c')) (sym bothy.terms_is) (tied_same g gs x x' c c' bothy.terms crosses s cs cb (cl ∙ sym q));
      window = h.window;
      idle = λ r. absurd (none_some r refl);
      settled = settled_at (put_side y e l x x' c') x' c' refl refl put_settled;
    }
