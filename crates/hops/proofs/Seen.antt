-- What a hop shows of one party.
use Rattle.std.proofs.Common.{◌≡◌, ℕ, suc, ◌+◌, ◌-◌, ◌≤◌, true, false, eqb, ltb, ◌⊎◌, List, ◌∷◌, is_some, Some, None, Option, sym, refl, ap, ◌∙◌, subst, inl, inr, arith}
use Rattle.std.proofs.lemmas.Bool.{cond-true, cond-false, le-ltb, ltb-false, cases_Bool, ne_eqb}
use Rattle.scheduler.specs.declared.terms.Contract.{Contract}
use Rattle.paths.specs.Route.{Terms, Place, constant, cost}
use Rattle.hops.specs.declared.crossing.Crossing.{Crossing}
use Rattle.hops.specs.Joined.{Side, own, either, leaving, deeper, standing, seen}
use Rattle.hops.specs.Level.{Crosses, Tied}

-- nothing is not something
pub none_some : {X : Type 0} {x : X} {o : Option X} → o ≡ None → o ≡ Some x → ⊥
none_some e f = let z : ◌≡◌ {A = ℕ} 0 1 = cc in omega arith

pub some_same : {X : Type 0} {x y : X} {o : Option X} → o ≡ Some x → o ≡ Some y → x ≡ y
some_same e f = cc

-- an option is none or some
pub option_cases : {X : Type 0} (o : Option X) → (o ≡ None) ⊎ ((x : X) × (o ≡ Some x))
option_cases None = inl refl
option_cases (Some x) = inr (x, refl)

pub some_is : {X : Type 0} (o : Option X) → is_some o ≡ true → (x : X) × (o ≡ Some x)
some_is None e = absurd (let z : ◌≡◌ {A = ℕ} 0 1 = cc in omega arith)
some_is (Some x) e = (x, refl)

pub none_is : {X : Type 0} (o : Option X) → is_some o ≡ false → o ≡ None
none_is None e = refl
none_is (Some x) e = absurd (let z : ◌≡◌ {A = ℕ} 0 1 = cc in omega arith)

-- a party that crosses has both contracts
pub record Both (g : ℕ) (gs : List ℕ) (x : Crossing) (oc : Option Contract) (ot : Option Terms) : Type 0 where
  pub contract : Contract
  pub terms : Terms
  pub contract_is : oc ≡ Some contract
  pub terms_is : ot ≡ Some terms
  pub ties : Crosses g gs x contract terms

pub both : (g : ℕ) (gs : List ℕ) (x : Crossing) (ox : Option Crossing) (oc : Option Contract) (ot : Option Terms) → Tied g gs ox oc ot → ox ≡ Some x → Both g gs x oc ot
both g gs x None oc ot h e = absurd (none_some refl e)
both g gs x (Some y) None ot h e = absurd h
both g gs x (Some y) (Some c) None h e = absurd h
both g gs x (Some y) (Some c) (Some t) h e = record { contract = c; terms = t; contract_is = refl; terms_is = refl; ties = subst (λ z. Crosses g gs z c t) (some_same refl e) h }

-- a party that does not cross has none with the scheduler
pub uncrossed : (g : ℕ) (gs : List ℕ) (ox : Option Crossing) (oc : Option Contract) (ot : Option Terms) → Tied g gs ox oc ot → ox ≡ None → oc ≡ None
uncrossed g gs None oc ot h e = h
uncrossed g gs (Some y) oc ot h e = absurd (none_some e refl)

-- a party without a contract behind does not cross
pub unbound : (g : ℕ) (gs : List ℕ) (ox : Option Crossing) (oc : Option Contract) (ot : Option Terms) → Tied g gs ox oc ot → ot ≡ None → ox ≡ None
unbound g gs None oc ot h e = refl
unbound g gs (Some x) None ot h e = absurd h
unbound g gs (Some x) (Some c) None h e = absurd h
unbound g gs (Some x) (Some c) (Some t) h e = absurd (none_some e refl)

-- the cell that leaves the path constant after slot e
pub leaving_at : (x : Crossing) (f : ℕ → Option ℕ) (e : ℕ) → leaving (Some x) f (e + x.constant.0) ≡ f e
leaving_at x f e =
    cond-false (ltb (e + x.constant.0) x.constant.0) _ _ (le-ltb (e + x.constant.0) x.constant.0 (omega arith)) ∙ ap f (omega arith)

pub leaving_from : (x : Crossing) (f : ℕ → Option ℕ) (v l : ℕ) → leaving (Some x) f v ≡ Some l → (e : ℕ) × (v ≡ e + x.constant.0) × (f e ≡ Some l)
leaving_from x f v l h = elim (cases_Bool (ltb v x.constant.0)) [
  | inl b ↦ absurd (none_some (cond-true (ltb v x.constant.0) None (f (v - x.constant.0)) b) h)
  | inr b ↦ (v - x.constant.0, omega (arith, ltb-false v x.constant.0 b), sym (cond-false (ltb v x.constant.0) None (f (v - x.constant.0)) b) ∙ h)
]

-- a cell here is seen
pub seen-own : (y : Side) (x : Crossing) (e l : ℕ) → y.crossing ≡ Some x → own y e ≡ Some l → seen y (e + x.constant.0) ≡ Some (record { label = l; hop = 0 })
seen-own y x e l c o = ap (λ a. standing (leaving a (own y) (e + x.constant.0)) (y.behind (e + x.constant.0))) c ∙ ap (λ a. standing a (y.behind (e + x.constant.0))) (leaving_at x (own y) e ∙ o)

-- where none stands here, one behind is seen
pub seen_behind : (y : Side) (v : ℕ) → leaving y.crossing (own y) v ≡ None → seen y v ≡ deeper (y.behind v)
seen_behind y v e = ap (λ a. standing a (y.behind v)) e

-- what is seen stands here or behind
pub data Sight (y : Side) (v : ℕ) : Place → Type 0 where
  here : (x : Crossing) (e l : ℕ) → y.crossing ≡ Some x → v ≡ e + x.constant.0 → own y e ≡ Some l → Sight y v (record { label = l; hop = 0 })
  there : (z : Place) → leaving y.crossing (own y) v ≡ None → y.behind v ≡ Some z → Sight y v (record { label = z.label; hop = suc z.hop })

sight_own : (y : Side) (v l : ℕ) (ox : Option Crossing) → y.crossing ≡ ox → leaving ox (own y) v ≡ Some l → Sight y v (record { label = l; hop = 0 })
sight_own y v l None c h = absurd (none_some refl h)
sight_own y v l (Some x) c h = let f = leaving_from x (own y) v l h in here x f.0 l c f.1 f.2

sight_behind : (y : Side) (v : ℕ) (z : Place) (b : Option Place) → leaving y.crossing (own y) v ≡ None → y.behind v ≡ b → deeper b ≡ Some z → Sight y v z
sight_behind y v z None a e h = absurd (none_some refl h)
sight_behind y v z (Some w) a e h = subst (Sight y v) (some_same refl h) (there w a e)

sight_by : (y : Side) (v : ℕ) (z : Place) (a : Option ℕ) → leaving y.crossing (own y) v ≡ a → standing a (y.behind v) ≡ Some z → Sight y v z
sight_by y v z None e h = sight_behind y v z (y.behind v) e refl h
sight_by y v z (Some l) e h = subst (Sight y v) (some_same refl h) (sight_own y v l y.crossing refl e)

pub sight : (y : Side) (v : ℕ) (z : Place) → seen y v ≡ Some z → Sight y v z
sight y v z h = sight_by y v z (leaving y.crossing (own y) v) refl h

-- a cell behind is on the path
pub behind_seen : (y : Side) (v : ℕ) (z : Place) → y.behind v ≡ Some z → (w : Place) × (seen y v ≡ Some w)
behind_seen y v z h = go (leaving y.crossing (own y) v) refl
  where
    go : (a : Option ℕ) → leaving y.crossing (own y) v ≡ a → (w : Place) × (seen y v ≡ Some w)
    go None e = (record { label = z.label; hop = suc z.hop }, seen_behind y v e ∙ ap deeper h)
    go (Some l) e = (record { label = l; hop = 0 }, ap (λ a. standing a (y.behind v)) e)

-- where nothing is seen, nothing stands
pub unseen_behind : (y : Side) (v : ℕ) → seen y v ≡ None → y.behind v ≡ None
unseen_behind y v h = elim (option_cases (y.behind v)) [ inl e ↦ e | inr e ↦ absurd (let s = behind_seen y v e.0 e.1 in none_some h s.1) ]

pub unseen_own : (y : Side) (x : Crossing) (e : ℕ) → y.crossing ≡ Some x → seen y (e + x.constant.0) ≡ None → own y e ≡ None
unseen_own y x e c h = elim (option_cases (own y e)) [ inl o ↦ o | inr o ↦ absurd (none_some h (seen-own y x e o.0 c o.1)) ]

-- one that waits or is held stands here
pub own_waits : (y : Side) (e l : ℕ) → y.waits e ≡ Some l → own y e ≡ Some l
own_waits y e l h = ap (λ a. either a (y.held e)) h

pub own_held : (y : Side) (e l : ℕ) → y.held e ≡ Some l → (k : ℕ) × (own y e ≡ Some k)
own_held y e l h = go (y.waits e) refl
  where
    go : (a : Option ℕ) → y.waits e ≡ a → (k : ℕ) × (own y e ≡ Some k)
    go None q = (l, ap (λ a. either a (y.held e)) q ∙ h)
    go (Some k) q = (k, own_waits y e k q)

pub own_none : (y : Side) (e : ℕ) → own y e ≡ None → (y.waits e ≡ None) × (y.held e ≡ None)
own_none y e h = go (y.waits e) refl
  where
    go : (a : Option ℕ) → y.waits e ≡ a → (y.waits e ≡ None) × (y.held e ≡ None)
    go None q = (q, sym (ap (λ a. either a (y.held e)) q) ∙ h)
    go (Some k) q = absurd (none_some h (own_waits y e k q))

pub data Stand (y : Side) (e l : ℕ) : Type 0 where
  waiting : y.waits e ≡ Some l → Stand y e l
  holding : y.waits e ≡ None → y.held e ≡ Some l → Stand y e l

pub stand : (y : Side) (e l : ℕ) → own y e ≡ Some l → Stand y e l
stand y e l h = go (y.waits e) refl
  where
    go : (a : Option ℕ) → y.waits e ≡ a → Stand y e l
    go None q = holding q (sym (ap (λ a. either a (y.held e)) q) ∙ h)
    go (Some k) q = waiting (q ∙ sym (ap (λ a. either a (y.held e)) q) ∙ h)

-- a hop that is crossed adds its bound and its link
pub cost_crossed : (g d : ℕ) → 1 ≤ d → cost g d ≡ d + g
cost_crossed g d h = cond-false (eqb d 0) _ _ (ne_eqb d 0 (λ e. omega arith))

-- the path constant of a party that crosses
pub constant_here : (g : ℕ) (gs : List ℕ) (x : Crossing) (c : Contract) (t : Terms) → Crosses g gs x c t → constant (g ∷ gs) (x.bound.0 ∷ t.bounds) ≡ x.constant.0
constant_here g gs x c t w = omega (arith, cost_crossed g x.bound.0 x.bounded, w.constants)
