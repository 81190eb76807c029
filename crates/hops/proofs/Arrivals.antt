-- A cell arrives at a hop: what is answered, and what the parts keep.
use Rattle.std.proofs.Common.{◌≡◌, ℕ, ◌+◌, ◌<◌, ◌≤◌, Bool, true, false, cond, ltb, ◌⊎◌, ◌∷◌, is_some, Some, None, Option, sym, refl, ap, ◌∙◌, subst, inl, inr, arith}
use mathlib.Core.Path.{fun_ext}
use Rattle.std.proofs.lemmas.Bool.{cond_both, ltb-true, ltb-false, le-ltb}
use Rattle.cells.specs.declared.faults.Cause.TheVariants.{EligibleOutOfWindow, TooSoon}
use Rattle.cells.specs.declared.faults.Fault.{Fault}
use Rattle.cells.specs.declared.times.Slot.{Slot}
use Rattle.scheduler.specs.Laws.{Past}
use Rattle.scheduler.specs.Meaning.{put_rule, put_verdict, stamped, some_below}
use Rattle.paths.specs.Route.{Route, Terms, Place, entered, constant}
use Rattle.paths.specs.Laws.{Lawful}
use Rattle.paths.specs.Trails.{crowding, arrival_by}
use Rattle.paths.specs.Verdicts.{fault, refused_if, unless, out_of_window, last_within, within, crowded, arrival_rule}
use Rattle.paths.proofs.Kept.{consents, in_window, lawful_entered}
use Rattle.paths.proofs.Present.{within_apart, clear_cell, clear_last}
use Rattle.paths.proofs.Trails.{Taken, crowded_by}
use Rattle.hops.specs.declared.crossing.Crossing.{Crossing}
use Rattle.hops.specs.Crossed.{Same}
use Rattle.hops.specs.Joined.{Parts, side, own, leaving, deeper, standing, from_here, joined}
use Rattle.hops.specs.Level.{Level, Passed, Put}
use Rattle.hops.proofs.Seen.{none_some, some_same, some_is, option_cases, Both, Sight, here, there, sight, seen-own, Stand, waiting, holding, stand, own_waits, constant_here}
use Rattle.hops.proofs.Sides.{here_terms, since_last, both_of, settled_of, contract_here, last_here, newest_of}
use Rattle.hops.proofs.Enters.{Later, first, after, before, Clear, agrees_wait, agrees_put}
use Rattle.hops.proofs.Levels.{passed_on, entered_behind, level-entered_behind, waiting_parts, entered_waiting, level_waiting, putting_parts, entered_putting, level_putting}

-- the latest slot once a cell entered
pub later_by : (o n : Option Slot) (e : Slot) → elim o as (λ _. Type 0) [ None ↦ n ≡ Some e | Some a ↦ n ≡ cond (ltb e.0 a.0) (Some a) (Some e) ] → Later o e.0 n
later_by None n e h = subst (Later None e.0) (sym h) (first e.0 e refl)
later_by (Some a) n e h =
    subst (Later (Some a) e.0) (sym h) (
    cond_both (ltb e.0 a.0) (Some a) (Some e) (Later (Some a) e.0)
    (λ b. (let k = ltb-true e.0 a.0 b in before a e.0 (omega arith)))
    (λ b. after a e e.0 refl (ltb-false e.0 a.0 b)))

-- two crossings of the same terms as a third
pub same_on : {x y z : Crossing} → Same x y → Same y z → Same x z
same_on a b = record { spacing = b.spacing ∙ a.spacing; lead = b.lead ∙ a.lead; bound = b.bound ∙ a.bound; constants = b.constants ∙ a.constants }

module _ (k : Parts) (lev : Level k) (p : ℕ) where
  module _ (past : Past k.sched) (x : Crossing) (ex : k.crossings p ≡ Some x) where
    abbrev b : Both k.link k.behind.links x (k.sched.contracts p) (k.behind.contracts p)
    b = both_of k lev p x ex

    abbrev terms : Terms
    terms = here_terms x b.terms

    -- the last that was put is not later than the slot
    past_now : (u : Slot) → b.contract.last ≡ Some u → u.0 ≤ k.behind.slot
    past_now u q = omega (arith, past.lasts p b.contract u b.contract_is q, lev.slots)

    -- what waits, and the last that was put
    taken : Taken (joined k) terms p x.constant.0 x.trail.last (k.waits p)
    taken = record {
      waits = λ a l q. ap is_some (seen-own (side k p) x a l ex (own_waits (side k p) a l q));
      cells = λ v z q. cells v z (sight (side k p) v z q);
      lasts = λ u q. lasts u q b.contract.last refl (settled_of k lev p x ex).put;
      known = λ u q. known u (b.ties.last ∙ q) b.contract.last refl (settled_of k lev p x ex).put;
    }
      where
        gone : (v : ℕ) (z : Place) (o : Option Slot) → b.contract.last ≡ o → Put (side k p) x o → k.behind.cells p v ≡ Some z → (u : Slot) × (x.trail.last ≡ Some u) × (v ≤ u.0 + x.constant.0)
        gone v z None q h c = absurd (none_some (h.cells v) c)
        gone v z (Some u) q h c = (u, sym b.ties.last ∙ q, h.0.cells v z c)

        stands : (v a l : ℕ) → v ≡ a + x.constant.0 → Stand (side k p) a l
            → ((a : ℕ) × (l : ℕ) × (v ≡ a + x.constant.0) × (k.waits p a ≡ Some l)) ⊎ ((u : Slot) × (x.trail.last ≡ Some u) × (v ≤ u.0 + x.constant.0))
        stands v a l d (waiting h) = inl (a, l, d, h)
        stands v a l d (holding n h) =
            let s = since_last b.contract.last a (past.cells p a l b.contract h b.contract_is) in
            inr (s.0, sym b.ties.last ∙ s.1, omega (arith, d, s.2))

        cells : (v : ℕ) (z : Place) → Sight (side k p) v z
            → ((a : ℕ) × (l : ℕ) × (v ≡ a + x.constant.0) × (k.waits p a ≡ Some l)) ⊎ ((u : Slot) × (x.trail.last ≡ Some u) × (v ≤ u.0 + x.constant.0))
        cells v z (here y a l c d o) = stands v a l (d ∙ ap (λ (x : Crossing). a + x.constant.0) (some_same c ex)) (stand (side k p) a l o)
        cells v z (there y n c) = inr (gone v y b.contract.last refl (settled_of k lev p x ex).put c)

        lasts : (u : ℕ) → b.terms.last ≡ Some u → (o : Option Slot) → b.contract.last ≡ o → Put (side k p) x o → (s : Slot) × (x.trail.last ≡ Some s) × (u ≤ s.0 + x.constant.0)
        lasts u e None q h = absurd (none_some (sym (last_here k lev p x ex) ∙ h.last) e)
        lasts u e (Some s) q h = (s, sym b.ties.last ∙ q, h.0.last u (last_here k lev p x ex ∙ e))

        known : (u : Slot) → b.contract.last ≡ Some u → (o : Option Slot) → b.contract.last ≡ o → Put (side k p) x o → (is_some ((joined k).cells p (u.0 + x.constant.0)) ≡ true) ⊎ (b.terms.last ≡ Some (u.0 + x.constant.0))
        known u e None q h = absurd (none_some q e)
        known u e (Some s) q h =
            let i : s ≡ u = some_same q e in
            subst (λ (u : Slot). (is_some ((joined k).cells p (u.0 + x.constant.0)) ≡ true) ⊎ (b.terms.last ≡ Some (u.0 + x.constant.0))) i (
            elim h.0.known [ inl j ↦ inl j | inr j ↦ inr (sym (last_here k lev p x ex) ∙ j) ])

    -- the trail tells whether a cell comes too near to another
    crowds : (e : ℕ) → k.behind.slot ≤ e → crowding x.trail.latest x.trail.last x.trail.spacing.0 (k.waits p) e ≡ crowded (joined k) terms p (e + x.constant.0)
    crowds e n =
        ap (λ s. crowding x.trail.latest x.trail.last s (k.waits p) e) (sym b.ties.behind)
        ∙ crowded_by (joined k) terms p x.constant.0 e x.trail.latest x.trail.last (k.waits p) (omega (arith, b.ties.behind, x.trail.spaced)) (newest_of k lev p x ex) taken (λ u q. (let h = past_now u (b.ties.last ∙ q) in omega arith))

    constants : constant (k.link ∷ k.behind.links) (x.bound.0 ∷ b.terms.bounds) ≡ x.constant.0
    constants = constant_here k.link k.behind.links x b.contract b.terms b.ties

    -- so it gives the answer
    pub rule_here : (e : ℕ) → arrival_by x.trail (k.waits p) k.behind.slot p e ≡ arrival_rule (joined k) ((joined k).contracts p) p e
    rule_here e = by (out_of_window k.behind.slot x.trail.lead.0 e) refl ∙ sym (ap (λ o. arrival_rule (joined k) o p e) (contract_here k lev p x ex))
      where
        by : (t : Bool) → out_of_window k.behind.slot x.trail.lead.0 e ≡ t
            → refused_if t (fault EligibleOutOfWindow p 255) (refused_if (crowding x.trail.latest x.trail.last x.trail.spacing.0 (k.waits p) e) (fault TooSoon p 255) None)
            ≡ refused_if t (fault EligibleOutOfWindow p 255) (refused_if (crowded (joined k) terms p (e + constant (k.link ∷ k.behind.links) (x.bound.0 ∷ b.terms.bounds))) (fault TooSoon p 255) None)
        by true q = refl
        by false q = ap (λ c. refused_if c (fault TooSoon p 255) None) (crowds e (in_window k.behind.slot x.trail.lead.0 e q).0 ∙ ap (λ n. crowded (joined k) terms p (e + n)) (sym constants))

    -- a cell that is not refused
    module _ (e : ℕ) (rule : arrival_rule (joined k) ((joined k).contracts p) p e ≡ None) where
      rule_terms : arrival_rule (joined k) (Some terms) p e ≡ None
      rule_terms = ap (λ o. arrival_rule (joined k) o p e) (sym (contract_here k lev p x ex)) ∙ rule

      parted : (out_of_window k.behind.slot x.trail.lead.0 e ≡ false) × (crowded (joined k) terms p (e + constant (k.link ∷ k.behind.links) (x.bound.0 ∷ b.terms.bounds)) ≡ false)
      parted =
          let a = consents (out_of_window k.behind.slot x.trail.lead.0 e) _ _ rule_terms in
          let c = consents (crowded (joined k) terms p (e + constant (k.link ∷ k.behind.links) (x.bound.0 ∷ b.terms.bounds))) _ _ a.1 in
          (a.0, c.0)

      pub in_time : (k.behind.slot ≤ e) × (e < k.behind.slot + x.trail.lead.0)
      in_time = in_window k.behind.slot x.trail.lead.0 e parted.0

      uncrowded : crowded (joined k) terms p (e + x.constant.0) ≡ false
      uncrowded = ap (λ n. crowded (joined k) terms p (e + n)) (sym constants) ∙ parted.1

      clear : Clear (side k p) x.trail.spacing.0 (e + x.constant.0)
      clear = subst (λ s. Clear (side k p) s (e + x.constant.0)) b.ties.behind (record {
        cells = λ w z q. within_apart b.terms.spacing (e + x.constant.0) w (clear_cell (joined k) terms p (e + x.constant.0) w z uncrowded q);
        last = λ u q. within_apart b.terms.spacing (e + x.constant.0) u (clear_last (joined k) terms p (e + x.constant.0) u uncrowded (sym (last_here k lev p x ex) ∙ q));
      })

      lawful : (l : ℕ) → Lawful (entered (joined k) p e l)
      lawful l = lawful_entered (joined k) lev.lawful p e l terms (contract_here k lev p x ex) rule_terms

      module _ (x' : Crossing) (s : Same x x') (later : Later x.trail.latest e x'.trail.latest) (l : ℕ) where
        -- it waits
        pub waits_entered : joined (waiting_parts k lev p e l x') ≡ entered (joined k) p e l
        waits_entered = entered_waiting k lev p x x' ex s e l

        pub waits_level : x'.trail.last ≡ x.trail.last → Level (waiting_parts k lev p e l x')
        waits_level q = level_waiting k lev p x x' ex s e l
            (agrees_wait k.behind.slot k.link k.behind.links (side k p) e l x x' b.contract (lev.agrees p) ex b.contract_is s later in_time.0 clear past_now q)
            (subst Lawful (sym waits_entered) (lawful l))

        -- it is put at once
        module _ (now : e ≡ k.behind.slot) where
          now_sched : e ≡ k.sched.slot
          now_sched = now ∙ sym lev.slots

          none_waits : k.waits p e ≡ None
          none_waits = elim (option_cases (k.waits p e)) [
            | inl q ↦ q
            | inr q ↦ absurd (elim (clear.cells (e + x.constant.0) _ (seen-own (side k p) x e q.0 ex (own_waits (side k p) e q.0 q.1))) [ inl a ↦ omega (arith, x.trail.spaced) | inr a ↦ omega (arith, x.trail.spaced) ])
          ]

          pub puts_entered : joined (putting_parts k lev p l x') ≡ entered (joined k) p e l
          puts_entered = entered_putting k lev p x x' ex s e l now_sched b.contract b.contract_is none_waits

          pub puts_level : x'.trail.last ≡ Some (record { 0 = e }) → Level (putting_parts k lev p l x')
          puts_level q = level_putting k lev p x x' ex s e l now_sched b.contract b.contract_is
              (agrees_put k.behind.slot k.link k.behind.links (side k p) e l x x' b.contract (lev.agrees p) ex b.contract_is s later in_time.0 clear past_now now (stamped b.contract e) refl refl (record { 0 = e }) refl refl q)
              (subst Lawful (sym puts_entered) (lawful l))

      -- the scheduler takes a cell that is eligible now
      pub puts_consent : e ≡ k.behind.slot → put_verdict k.sched p ≡ None
      puts_consent now = ap (λ o. put_rule o k.sched.slot) b.contract_is ∙ ap (λ t. cond t (Some TooSoon) None) (by b.contract.last refl (settled_of k lev p x ex).put)
        where
          near : (t : Slot) → b.contract.last ≡ Some t → Passed (side k p) x t.0 → t.0 + x.trail.spacing.0 ≤ e
          near t q h =
              let n = past_now t q in
              let apart : (t.0 + x.constant.0 + x.trail.spacing.0 ≤ e + x.constant.0) ⊎ (e + x.constant.0 + x.trail.spacing.0 ≤ t.0 + x.constant.0) = elim h.known [
                | inl i ↦ (let z = some_is ((joined k).cells p (t.0 + x.constant.0)) i in clear.cells (t.0 + x.constant.0) z.0 z.1)
                | inr i ↦ clear.last (t.0 + x.constant.0) i
              ] in
              elim apart [ inl a ↦ omega arith | inr a ↦ absurd (omega (arith, in_time.0, x.trail.spaced)) ]

          by : (o : Option Slot) → b.contract.last ≡ o → Put (side k p) x o → elim o [ None ↦ false | Some t ↦ ltb k.sched.slot (t.0 + b.contract.spacing.0) ] ≡ false
          by None q h = refl
          by (Some t) q h = le-ltb k.sched.slot (t.0 + b.contract.spacing.0) (omega (arith, near t q h.0, b.ties.spacing, lev.slots))

  -- a party that does not cross
  module _ (none : k.crossings p ≡ None) where
    is_deeper : (o : Option Place) → is_some o ≡ is_some (deeper o)
    is_deeper None = refl
    is_deeper (Some z) = refl

    -- its contract, seen from here
    abbrev unmet : Terms → Terms
    unmet t = record { spacing = t.spacing; bounds = 0 ∷ t.bounds; lead = t.lead; last = t.last }

    crowds_behind : (t : Terms) (v : ℕ) → crowded k.behind t p v ≡ crowded (joined k) (unmet t) p v
    unfolding crowded
    crowds_behind t v =
        ap (λ f. cond (last_within t.last t.spacing v) true (some_below (v + t.spacing) f)) (fun_ext (λ w.
        ap (λ o. cond (within t.spacing v w) o false) (is_deeper (k.behind.cells p w) ∙ ap (λ y. is_some (standing (leaving y (own (side k p)) w) (k.behind.cells p w))) (sym none))))

    rule_by : (o : Option Terms) (e : ℕ) → arrival_rule k.behind o p e ≡ arrival_rule (joined k) (from_here None o) p e
    rule_by None e = refl
    rule_by (Some t) e =
        let far : constant k.behind.links t.bounds ≡ constant (k.link ∷ k.behind.links) (0 ∷ t.bounds) = omega arith in
        ap (λ c. refused_if (out_of_window k.behind.slot t.lead e) (fault EligibleOutOfWindow p 255) (refused_if c (fault TooSoon p 255) None)) (
        crowds_behind t (e + constant k.behind.links t.bounds) ∙ ap (λ n. crowded (joined k) (unmet t) p (e + n)) far)

    -- the path behind answers as this one
    pub rule_behind : (e : ℕ) → arrival_rule k.behind (k.behind.contracts p) p e ≡ arrival_rule (joined k) ((joined k).contracts p) p e
    rule_behind e = rule_by (k.behind.contracts p) e ∙ ap (λ y. arrival_rule (joined k) (from_here y (k.behind.contracts p)) p e) (sym none)

    module _ (e l : ℕ) where
      lawful_behind : (t : Terms) → k.behind.contracts p ≡ Some t → arrival_rule (joined k) ((joined k).contracts p) p e ≡ None → Lawful (joined (passed_on k lev p (entered k.behind p e l)))
      lawful_behind t q rule =
          let here : (joined k).contracts p ≡ Some (unmet t) = (λ i. from_here (none i) (q i)) in
          subst Lawful (sym (entered_behind k lev p none e l t q)) (lawful_entered (joined k) lev.lawful p e l (unmet t) here (ap (λ o. arrival_rule (joined k) o p e) (sym here) ∙ rule))

      contract_for : (o : Option Terms) → arrival_rule k.behind o p e ≡ None → (t : Terms) × (o ≡ Some t)
      contract_for None q = absurd (none_some q refl)
      contract_for (Some t) q = (t, refl)

      -- what the path behind does with the cell, this one does
      passed : (o : Option Fault) → arrival_rule k.behind (k.behind.contracts p) p e ≡ o → (z : Route) → z ≡ unless o k.behind (entered k.behind p e l)
          → Level (passed_on k lev p z) × (joined (passed_on k lev p z) ≡ unless o (joined k) (entered (joined k) p e l))
      passed (Some f) q z h = (subst (λ z. Level (passed_on k lev p z)) (sym h) lev, ap (λ z. joined (passed_on k lev p z)) h)
      passed None q z h =
          let t = contract_for (k.behind.contracts p) q in (
            subst (λ z. Level (passed_on k lev p z)) (sym h) (level-entered_behind k lev p none e l (lawful_behind t.0 t.1 (sym (rule_behind e) ∙ q))),
            ap (λ z. joined (passed_on k lev p z)) h ∙ entered_behind k lev p none e l t.0 t.1,
          )

      pub passed_slot : (o : Option Fault) (z : Route) → z ≡ unless o k.behind (entered k.behind p e l) → z.slot ≡ k.behind.slot
      passed_slot None z h = ap (λ (r : Route). r.slot) h
      passed_slot (Some f) z h = ap (λ (r : Route). r.slot) h

      pub passed_level : (z : Route) → z ≡ unless (arrival_rule k.behind (k.behind.contracts p) p e) k.behind (entered k.behind p e l) → Level (passed_on k lev p z)
      passed_level z h = (passed (arrival_rule k.behind (k.behind.contracts p) p e) refl z h).0

      pub passed_entered : (z : Route) → z ≡ unless (arrival_rule k.behind (k.behind.contracts p) p e) k.behind (entered k.behind p e l)
          → joined (passed_on k lev p z) ≡ unless (arrival_rule (joined k) ((joined k).contracts p) p e) (joined k) (entered (joined k) p e l)
      passed_entered z h = (passed (arrival_rule k.behind (k.behind.contracts p) p e) refl z h).1 ∙ ap (λ o. unless o (joined k) (entered (joined k) p e l)) (rule_behind e)
