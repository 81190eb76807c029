-- What a list of held cells holds, as cells are added and taken.
use Rattle.std.proofs.Common.{◌≡◌, ℕ, zero, suc, ◌+◌, ◌<◌, ◌≤◌, Bool, true, false, cond, ◌||◌, eqb, ltb, List, [], ◌∷◌, ◌++◌, length, get_or, Some, None, sum_by, Option, sym, refl, ap, ◌∙◌, subst, arith}
use mathlib.Core.Path.{fun_ext}
use Rattle.std.proofs.lemmas.List.Sums.{sum_by-cons, sum_by_push, get_or-le-sum_by}
use Rattle.std.proofs.lemmas.Bool.{eq-eqb, eqb-true, both_ways, lt-ltb}
use Rattle.order.specs.First.{foremost}
use Rattle.order.proofs.Foremost.{foremost_at}
use Rattle.scheduler.specs.Laws.{Contracted, Past}
use Rattle.scheduler.specs.Meaning.{Meaning, updated, without, holds_of, holds_any}
use Rattle.scheduler.proofs.Holds.{holds_of_none, holds_of_some, holds_any_none, holds_any_some, held_within}
use Rattle.backlog.specs.declared.held.Held.{Held}
use Rattle.backlog.specs.Cells.{is_cell, held_in, holds_in, at, Single, Taken}

-- a cell is the cell of its party and eligible slot
pub is_itself : (x : Held) → is_cell x.cell.party x.cell.eligible.0 x ≡ true
is_itself x =
    ap (λ b. cond b (eqb x.cell.eligible.0 x.cell.eligible.0) false) (eq-eqb x.cell.party x.cell.party refl)
    ∙ eq-eqb x.cell.eligible.0 x.cell.eligible.0 refl

-- h, with v at a party and an eligible slot
pub spread : (h : ℕ → ℕ → Option ℕ) (x : Held) (v : Option ℕ) → (λ p e. cond (is_cell p e x) v (h p e)) ≡ updated h x.cell.party (updated (h x.cell.party) x.cell.eligible.0 v)
spread h x v = fun_ext (λ p. fun_ext (λ e. way p e (eqb p x.cell.party) refl))
  where
    way : (p e : ℕ) (b : Bool) → eqb p x.cell.party ≡ b → cond (cond b (eqb e x.cell.eligible.0) false) v (h p e) ≡ cond b (updated (h x.cell.party) x.cell.eligible.0 v) (h p) e
    way p e true t = ap (λ q. cond (eqb e x.cell.eligible.0) v (h q e)) (eqb-true p x.cell.party t)
    way p e false t = refl

push_step : (a b : Bool) (k l : ℕ) (u v : Option ℕ) → (b ≡ true → cond a (Some k) u ≡ None) → ((b ≡ true → u ≡ None) → v ≡ cond b (Some l) u) → cond a (Some k) v ≡ cond b (Some l) (cond a (Some k) u)
push_step true true k l u v h r = absurd (let n = h refl in let z : ◌≡◌ {A = ℕ} 0 1 = cc in omega arith)
push_step true false k l u v h r = refl
push_step false b k l u v h r = r h

push_at : (xs : List Held) (x : Held) (p e : ℕ) → (is_cell p e x ≡ true → held_in xs p e ≡ None) → held_in (xs ++ x ∷ []) p e ≡ cond (is_cell p e x) (Some x.cell.label) (held_in xs p e)
push_at [] x p e h = refl
push_at (y ∷ xs) x p e h = push_step (is_cell p e y) (is_cell p e x) y.cell.label x.cell.label (held_in xs p e) (held_in (xs ++ x ∷ []) p e) h (push_at xs x p e)

is_parts : (p e : ℕ) (x : Held) → is_cell p e x ≡ true → (p ≡ x.cell.party) × (e ≡ x.cell.eligible.0)
is_parts p e x h = parts (eqb p x.cell.party) refl h
  where
    parts : (b : Bool) → eqb p x.cell.party ≡ b → cond b (eqb e x.cell.eligible.0) false ≡ true → (p ≡ x.cell.party) × (e ≡ x.cell.eligible.0)
    parts true t k = (eqb-true p x.cell.party t, eqb-true e x.cell.eligible.0 k)
    parts false t k = absurd (both_ways false refl k)

-- one cell more, where none of its party and eligible slot is held
pub held_push : (xs : List Held) (x : Held) → held_in xs x.cell.party x.cell.eligible.0 ≡ None
    → held_in (xs ++ x ∷ []) ≡ updated (held_in xs) x.cell.party (updated (held_in xs x.cell.party) x.cell.eligible.0 (Some x.cell.label))
held_push xs x h =
    fun_ext (λ p. fun_ext (λ e. push_at xs x p e (λ t. let q = is_parts p e x t in ap (λ k. held_in xs k e) q.0 ∙ ap (held_in xs x.cell.party) q.1 ∙ h)))
    ∙ spread (held_in xs) x (Some x.cell.label)

-- what a push leaves, where there is room: the list, and a sum over it
pub pushed : (xs ys : List Held) (x : Held) → ys ≡ cond (ltb (length xs) 128) (xs ++ x ∷ []) xs → length xs < 128 → ys ≡ xs ++ x ∷ []
pushed xs ys x e h = e ∙ ap (λ b. cond b (xs ++ x ∷ []) xs) (lt-ltb (length xs) 128 h)

pub sum_pushed : (f : Held → ℕ) (xs ys : List Held) (x : Held) → ys ≡ cond (ltb (length xs) 128) (xs ++ x ∷ []) xs → length xs < 128 → sum_by f ys ≡ sum_by f xs + f x
sum_pushed f xs ys x e h = ap (sum_by f) (pushed xs ys x e h) ∙ sum_by_push f xs x

-- the cell of a party and eligible slot as a number: 0 for none, else 1 more than the label
abbrev mark : ℕ → ℕ → Held → ℕ
mark p e x = cond (is_cell p e x) (suc x.cell.label) 0

abbrev read : ℕ → Option ℕ
read zero = None
read (suc l) = Some l

-- without a cell of a party and eligible slot there is no mark
no_mark : (p e : ℕ) (xs : List Held) → sum_by (at p e) xs ≡ 0 → sum_by (mark p e) xs ≡ 0
no_mark p e [] h = refl
no_mark p e (x ∷ xs) h = way (is_cell p e x) refl (no_mark p e xs)
  where
    way : (b : Bool) → is_cell p e x ≡ b → (sum_by (at p e) xs ≡ 0 → sum_by (mark p e) xs ≡ 0) → sum_by (mark p e) (x ∷ xs) ≡ 0
    way true t r =
        let one : at p e x ≡ 1 = ap (λ b. cond b 1 0) t in
        absurd (omega (arith, sum_by-cons (at p e) x xs))
    way false t r =
        let none : at p e x ≡ 0 = ap (λ b. cond b 1 0) t in
        let blank : mark p e x ≡ 0 = ap (λ b. cond b (suc x.cell.label) 0) t in
        let rest : sum_by (at p e) xs ≡ 0 = omega (arith, sum_by-cons (at p e) x xs) in
        let k = r rest in
        omega (arith, sum_by-cons (mark p e) x xs)

-- what is held is what the marks add up to, where no two cells are of one party and eligible slot
held_mark : (p e : ℕ) (xs : List Held) → sum_by (at p e) xs ≤ 1 → held_in xs p e ≡ read (sum_by (mark p e) xs)
held_mark p e [] h = refl
held_mark p e (x ∷ xs) h = way (is_cell p e x) refl (held_mark p e xs)
  where
    way : (b : Bool) → is_cell p e x ≡ b → (sum_by (at p e) xs ≤ 1 → held_in xs p e ≡ read (sum_by (mark p e) xs)) → cond (is_cell p e x) (Some x.cell.label) (held_in xs p e) ≡ read (sum_by (mark p e) (x ∷ xs))
    way true t r =
        let one : at p e x ≡ 1 = ap (λ b. cond b 1 0) t in
        let rest : sum_by (at p e) xs ≡ 0 = omega (arith, sum_by-cons (at p e) x xs) in
        let none = no_mark p e xs rest in
        let own : mark p e x ≡ suc x.cell.label = ap (λ b. cond b (suc x.cell.label) 0) t in
        let all : sum_by (mark p e) (x ∷ xs) ≡ suc x.cell.label = omega (arith, sum_by-cons (mark p e) x xs) in
        ap (λ b. cond b (Some x.cell.label) (held_in xs p e)) t ∙ sym (ap read all)
    way false t r =
        let none : at p e x ≡ 0 = ap (λ b. cond b 1 0) t in
        let blank : mark p e x ≡ 0 = ap (λ b. cond b (suc x.cell.label) 0) t in
        let rest : sum_by (at p e) xs ≤ 1 = omega (arith, sum_by-cons (at p e) x xs) in
        let all : sum_by (mark p e) (x ∷ xs) ≡ sum_by (mark p e) xs = omega (arith, sum_by-cons (mark p e) x xs) in
        ap (λ b. cond b (Some x.cell.label) (held_in xs p e)) t ∙ r rest ∙ sym (ap read all)

-- none of a party and eligible slot is held
pub held_none : (p e : ℕ) (xs : List Held) → sum_by (at p e) xs ≡ 0 → held_in xs p e ≡ None
held_none p e xs h = held_mark p e xs (omega arith) ∙ ap read (no_mark p e xs h)

-- the same of what it holds: a cell of party p, eligible in slot e, of which there was none
pub held_pushed : (xs ys : List Held) (x : Held) → ys ≡ cond (ltb (length xs) 128) (xs ++ x ∷ []) xs → length xs < 128
    → (p e l : ℕ) → x.cell.party ≡ p → x.cell.eligible.0 ≡ e → x.cell.label ≡ l → sum_by (at p e) xs ≡ 0
    → held_in ys ≡ updated (held_in xs) p (updated (held_in xs p) e (Some l))
held_pushed xs ys x is room p e l a b c none =
    let free : held_in xs x.cell.party x.cell.eligible.0 ≡ None = ap (λ q. held_in xs q x.cell.eligible.0) a ∙ ap (held_in xs p) b ∙ held_none p e xs none in
    ap held_in (pushed xs ys x is room)
    ∙ held_push xs x free
    ∙ ap (λ q. updated (held_in xs) q (updated (held_in xs q) x.cell.eligible.0 (Some x.cell.label))) a
    ∙ ap (λ q. updated (held_in xs) p (updated (held_in xs p) q (Some x.cell.label))) b
    ∙ ap (λ q. updated (held_in xs) p (updated (held_in xs p) e (Some q))) c

-- what is taken leaves no two of one party and eligible slot either
pub single_taken : (xs ys : List Held) (x : Held) → Single xs → Taken xs (Some x) ys → Single ys
single_taken xs ys x s t p e = let a = s p e in let b = t (at p e) in omega arith

taken_at : (xs ys : List Held) (x : Held) → Single xs → Taken xs (Some x) ys → (p e : ℕ) → held_in ys p e ≡ cond (is_cell p e x) None (held_in xs p e)
taken_at xs ys x s t p e = way (is_cell p e x) refl
  where
    way : (b : Bool) → is_cell p e x ≡ b → held_in ys p e ≡ cond (is_cell p e x) None (held_in xs p e)
    way true k =
        let one : at p e x ≡ 1 = ap (λ b. cond b 1 0) k in
        let a = s p e in
        let b = t (at p e) in
        let rest : sum_by (at p e) ys ≡ 0 = omega arith in
        held_none p e ys rest ∙ sym (ap (λ b. cond b None (held_in xs p e)) k)
    way false k =
        let none : mark p e x ≡ 0 = ap (λ b. cond b (suc x.cell.label) 0) k in
        let a = s p e in
        let b = t (at p e) in
        let few : sum_by (at p e) ys ≤ 1 = omega arith in
        let m = t (mark p e) in
        let same : sum_by (mark p e) ys ≡ sum_by (mark p e) xs = omega arith in
        held_mark p e ys few ∙ ap read same ∙ sym (held_mark p e xs a) ∙ sym (ap (λ b. cond b None (held_in xs p e)) k)

-- one cell less
pub held_taken : (xs ys : List Held) (x : Held) → Single xs → Taken xs (Some x) ys → held_in ys ≡ without (held_in xs) (Some x.cell)
held_taken xs ys x s t = fun_ext (λ p. fun_ext (λ e. taken_at xs ys x s t p e)) ∙ spread (held_in xs) x None

-- a cell of the list is held, under its label
pub held_at : (xs : List Held) (i : ℕ) (d : Held) → Single xs → i < length xs → held_in xs (get_or xs i d).cell.party (get_or xs i d).cell.eligible.0 ≡ Some (get_or xs i d).cell.label
held_at [] i d s h = absurd (omega arith)
held_at (y ∷ xs) zero d s h = ap (λ b. cond b (Some y.cell.label) (held_in xs y.cell.party y.cell.eligible.0)) (is_itself y)
held_at (y ∷ xs) (suc i) d s h = way (is_cell p e y) refl (held_at xs i d)
  where
    x : Held
    x = get_or xs i d

    p : ℕ
    p = x.cell.party

    e : ℕ
    e = x.cell.eligible.0

    way : (b : Bool) → is_cell p e y ≡ b → (Single xs → i < length xs → held_in xs p e ≡ Some x.cell.label) → cond (is_cell p e y) (Some y.cell.label) (held_in xs p e) ≡ Some x.cell.label
    way true k r =
        let own : at p e x ≡ 1 = ap (λ b. cond b 1 0) (is_itself x) in
        let one : at p e y ≡ 1 = ap (λ b. cond b 1 0) k in
        let within : i < length xs = omega arith in
        let some : at p e x ≤ sum_by (at p e) xs = get_or-le-sum_by (at p e) xs i d within in
        let few = s p e in
        absurd (omega (arith, sum_by-cons (at p e) y xs))
    way false k r =
        let rest : Single xs = λ q f. (let few = s q f in omega (arith, sum_by-cons (at q f) y xs)) in
        ap (λ b. cond b (Some y.cell.label) (held_in xs p e)) k ∙ r rest (omega arith)

-- so is the first in an order
pub held_foremost : (b : Held → Held → Bool) (xs : List Held) (x : Held) → Single xs → foremost b xs ≡ Some x → held_in xs x.cell.party x.cell.eligible.0 ≡ Some x.cell.label
held_foremost b xs x s h =
    let q = foremost_at b xs x x h in
    subst (λ y. held_in xs y.cell.party y.cell.eligible.0 ≡ Some y.cell.label) q.2 (held_at xs q.0 x s q.1)

holds_none_at : (xs : List Held) (p e : ℕ) → holds_in xs p ≡ false → held_in xs p e ≡ None
holds_none_at [] p e h = refl
holds_none_at (x ∷ xs) p e h = way (eqb p x.cell.party) h (holds_none_at xs p e)
  where
    way : (b : Bool) → (b || holds_in xs p) ≡ false → (holds_in xs p ≡ false → held_in xs p e ≡ None) → cond (cond b (eqb e x.cell.eligible.0) false) (Some x.cell.label) (held_in xs p e) ≡ None
    way true k r = absurd (both_ways true k refl)
    way false k r = r k

some_of : (b : Bool) (k : ℕ) (o : Option ℕ) (l : ℕ) → o ≡ Some l → (n : ℕ) × (cond b (Some k) o ≡ Some n)
some_of true k o l e = (k, refl)
some_of false k o l e = (l, e)

holds_some_at : (xs : List Held) (p : ℕ) → holds_in xs p ≡ true → (e : ℕ) × ((l : ℕ) × (held_in xs p e ≡ Some l))
holds_some_at [] p h = absurd (both_ways false refl h)
holds_some_at (x ∷ xs) p h = way (eqb p x.cell.party) refl h (holds_some_at xs p)
  where
    way : (b : Bool) → eqb p x.cell.party ≡ b → (b || holds_in xs p) ≡ true → (holds_in xs p ≡ true → (e : ℕ) × ((l : ℕ) × (held_in xs p e ≡ Some l))) → (e : ℕ) × ((l : ℕ) × (held_in (x ∷ xs) p e ≡ Some l))
    way true t k r = (x.cell.eligible.0, (x.cell.label, ap (λ q. held_in (x ∷ xs) q x.cell.eligible.0) (eqb-true p x.cell.party t) ∙ ap (λ b. cond b (Some x.cell.label) (held_in xs x.cell.party x.cell.eligible.0)) (is_itself x)))
    way false t k r = let q = r k in (q.0, some_of (is_cell p q.0 x) x.cell.label (held_in xs p q.0) q.1.0 q.1.1)

-- whether a scheduler that holds these cells holds one of a party
pub holds_is : (m : Meaning) (xs : List Held) (p : ℕ) → m.held ≡ held_in xs → Contracted m → Past m → holds_of m p ≡ holds_in xs p
holds_is m xs p h c t = way (holds_in xs p) refl
  where
    way : (b : Bool) → holds_in xs p ≡ b → holds_of m p ≡ holds_in xs p
    way false k = holds_of_none m p (λ e. ap (λ f. f p e) h ∙ holds_none_at xs p e k) ∙ sym k
    way true k =
        let q = holds_some_at xs p k in
        let is = ap (λ f. f p q.0) h ∙ q.1.1 in
        let w = held_within m c t p q.0 q.1.0 is in
        holds_of_some m p q.0 q.1.0 w.1 is ∙ sym k

-- whether it holds one at all
pub busy_is : (m : Meaning) (xs : List Held) → m.held ≡ held_in xs → Contracted m → Past m → holds_any m ≡ ltb 0 (length xs)
busy_is m [] h c t = holds_any_none m (λ p e. ap (λ f. f p e) h)
busy_is m (x ∷ xs) h c t =
    let p = x.cell.party in
    let e = x.cell.eligible.0 in
    let is : m.held p e ≡ Some x.cell.label = ap (λ f. f p e) h ∙ ap (λ b. cond b (Some x.cell.label) (held_in xs p e)) (is_itself x) in
    let w = held_within m c t p e x.cell.label is in
    holds_any_some m p e x.cell.label w.0 w.1 is ∙ sym (lt-ltb 0 (length (x ∷ xs)) (omega arith))
