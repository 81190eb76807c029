-- Free offsets, and turns that are taken and given back.
use Rattle.std.specs.Prelude.{◌≡◌, ℕ, zero, suc, ◌+◌, ◌/◌, ◌%◌, ◌<◌, ◌≤◌, Bool, true, false, cond, not, ◌⊎◌, List, length, is_some, Some, None, Option, ◌==◌, ◌≢◌, nat_lt, refl}
use Rattle.std.proofs.Common.{sym, ap, ◌∙◌, inl, inr, div-add-mod', mul-le-mul_right, add-mul, arith}
use Rattle.std.proofs.Math.Path.{fun_ext}
use Rattle.std.proofs.lemmas.List.{get_or_past}
use Rattle.std.proofs.lemmas.Bool.{eq-eqb, eqb-true, lt-ltb, le-ltb, ltb-true, both_ways, not-true, cases_lt, cases_order}
use Rattle.scheduler.specs.Meaning.{some_below}
use Rattle.scheduler.proofs.Holds.{below_true, below_false, none_below}
use Rattle.table.specs.Helds.{is_none}
use Rattle.table.specs.Kept.{owner_in}
use Rattle.table.specs.Turns.{turn_of, Found, free, or_here, least_below, least_free, is_party, released}

split : (k n : ℕ) → k < suc n → (k < n) ⊎ (k ≡ n)
split k n h = grind arith

-- the least that passes
pub least_none : (n : ℕ) (f : ℕ → Bool) → ((k : ℕ) → k < n → f k ≡ false) → least_below n f ≡ None
least_none zero f h = refl
least_none (suc n) f h =
    ap (λ o. or_here o (f n) n) (least_none n f (λ k l. h k (omega arith))) ∙ ap (λ b. cond b (Some n) None) (h n (omega arith))

pub least_some : (n : ℕ) (f : ℕ → Bool) (o : ℕ) → o < n → f o ≡ true → ((k : ℕ) → k < o → f k ≡ false) → least_below n f ≡ Some o
least_some zero f o l t h = absurd (omega arith)
least_some (suc n) f o l t h =
    elim (split o n l) [
      | inl s ↦ ap (λ x. or_here x (f n) n) (least_some n f o s t h)
      | inr s ↦
          ap (λ x. or_here x (f n) n) (least_none n f (λ k q. h k (omega arith)))
          ∙ ap (λ b. cond b (Some n) None) (ap f (sym s) ∙ t)
          ∙ ap Some (sym s)
    ]

-- the turns of an offset
pub turn_is : (p o k : ℕ) → k < 128 → k % p ≡ o → turn_of p o k ≡ true
turn_is p o k l e = ap (λ b. cond b (k % p == o) false) (lt-ltb k 128 l) ∙ eq-eqb (k % p) o e

pub turn_parts : (p o k : ℕ) → turn_of p o k ≡ true → (k < 128) × (k % p ≡ o)
turn_parts p o k e = way (nat_lt k 128) refl e
  where
    way : (b : Bool) → nat_lt k 128 ≡ b → cond b (k % p == o) false ≡ true → (k < 128) × (k % p ≡ o)
    way true t q = (ltb-true k 128 t, eqb-true (k % p) o q)
    way false t q = absurd (both_ways false refl q)

-- an offset with an owned turn
pub free_taken : (owner : ℕ → Option ℕ) (p o k : ℕ) → k < 128 → k % p ≡ o → is_some (owner k) ≡ true → free owner p o ≡ false
unfolding free
free_taken owner p o k l e s =
    ap not (below_true 128 (λ k. cond (turn_of p o k) (is_some (owner k)) false) k l (ap (λ b. cond b (is_some (owner k)) false) (turn_is p o k l e) ∙ s))

-- an offset without one
pub free_none : (owner : ℕ → Option ℕ) (p o : ℕ) → ((k : ℕ) → k < 128 → k % p ≡ o → is_some (owner k) ≡ false) → free owner p o ≡ true
unfolding free
free_none owner p o h =
    ap not (below_false 128 (λ k. cond (turn_of p o k) (is_some (owner k)) false) (λ k l. way k (turn_of p o k) refl))
  where
    way : (k : ℕ) (b : Bool) → turn_of p o k ≡ b → cond b (is_some (owner k)) false ≡ false
    way k true t = let q = turn_parts p o k t in h k q.0 q.1
    way k false t = refl

-- the turns of a free offset have no owner
pub free_at : (owner : ℕ → Option ℕ) (p o k : ℕ) → free owner p o ≡ true → turn_of p o k ≡ true → owner k ≡ None
unfolding free
free_at owner p o k h t =
    let f : ℕ → Bool = λ k. cond (turn_of p o k) (is_some (owner k)) false in
    let q = turn_parts p o k t in
    is_none (owner k) (ap (λ b. cond b (is_some (owner k)) false) (sym t) ∙ none_below 128 f (not-true (some_below 128 f) h) k q.0)

-- what the search finds is the least free offset
pub found_least : (owner : ℕ → Option ℕ) (p : ℕ) (r : Option ℕ) → Found owner p r → least_free owner p ≡ r
found_least owner p None h = least_none p (free owner p) (λ o l. let t = h o l in free_taken owner p o t.0 t.1 t.2 t.3)
found_least owner p (Some o) h = least_some p (free owner p) o h.0 (free_none owner p o h.1) (λ q l. let t = h.2 q l in free_taken owner p q t.0 t.1 t.2 t.3)

-- every turn of the offset o below the turn n is free
abbrev pub FreeTo : (ℕ → Option ℕ) → ℕ → ℕ → ℕ → Type 0
FreeTo owner p o n = (k : ℕ) → k < n → k % p ≡ o → is_some (owner k) ≡ false

two : (q r : ℕ) → (q ≤ r) ⊎ (r + 1 ≤ q)
two q r = grind arith

-- between k and k + p no number has k's remainder by p
no_other : (p k m : ℕ) → k < m → m < k + p → m % p ≢ k % p
no_other p k m a b e =
    let km = div-add-mod' k p in
    let mm = div-add-mod' m p in
    elim (two (m / p) (k / p)) [
      | inl h ↦ omega (arith, mul-le-mul_right p h)
      | inr h ↦ omega (arith, mul-le-mul_right p h, add-mul (k / p) 1 p)
    ]

-- one more turn, at k, is free: all below k + p are
pub free_more : (owner : ℕ → Option ℕ) (p o k : ℕ) → k % p ≡ o → FreeTo owner p o k → is_some (owner k) ≡ false → FreeTo owner p o (k + p)
free_more owner p o k r below here m h e =
    elim (cases_order m k) [
      | inl s ↦ ap (λ j. is_some (owner j)) s ∙ here
      | inr q ↦ elim q [ inl l ↦ below m l e | inr g ↦ absurd (no_other p k m g h (e ∙ sym r)) ]
    ]

-- the table now, from the table old: the turns below n that pass the test have the owner v
abbrev pub Done : ℕ → (ℕ → Bool) → Option ℕ → (ℕ → Option ℕ) → (ℕ → Option ℕ) → Type 0
Done n test v old now = (k : ℕ) → now k ≡ cond (cond (nat_lt k n) (test k) false) v (old k)

-- past the table there is nothing to give back
pub all_released : (os : List (Option ℕ)) (q : ℕ) (now : ℕ → Option ℕ) → length os ≡ 128 → Done 128 (λ k. is_party q (owner_in os k)) None (owner_in os) now → now ≡ released (owner_in os) q
all_released os q now w h = fun_ext (λ k. h k ∙ way k (cases_lt k 128))
  where
    way : (k : ℕ) → (k < 128) ⊎ (128 ≤ k) → cond (cond (nat_lt k 128) (is_party q (owner_in os k)) false) None (owner_in os k) ≡ released (owner_in os) q k
    way k (inl l) = ap (λ b. cond (cond b (is_party q (owner_in os k)) false) None (owner_in os k)) (lt-ltb k 128 l)
    way k (inr l) =
        let past : length os ≤ k = omega arith in
        let none : owner_in os k ≡ None = get_or_past os k None past in
        ap (λ b. cond (cond b (is_party q (owner_in os k)) false) None (owner_in os k)) (le-ltb k 128 l)
        ∙ none
        ∙ sym (ap (λ o. cond (is_party q o) None o) none)
