-- The crossings of a hop, one by one.
use Rattle.std.proofs.Common.{◌≡◌, ℕ, ◌*◌, ◌<◌, ◌≤◌, eqb, List, length, get_or, set, true, false, is_some, IsSomeAnd, MatchOption, Some, None, Option, sym, refl, ap, ◌∙◌, subst, arith}
use Rattle.std.proofs.lemmas.Bool.{cond-true, cond-false, eq-eqb, ne_eqb}
use Rattle.std.proofs.lemmas.List.Sums.{sum_by-le}
use Rattle.std.specs.List.{sum_by}
use Rattle.scheduler.proofs.Updates.{get_d_set}
use Rattle.paths.proofs.Parties.{share_few}
use Rattle.hops.specs.declared.crossing.Crossing.{Crossing}
use Rattle.hops.specs.Crossed.{crossing_load, Taking, Took}
use Rattle.hops.proofs.Seen.{none_some, some_is, none_is}

-- a list that is written at one place
pub set_here : {X : Type 0} (xs : List X) (i p : ℕ) (v d : X) → i < length xs → p ≡ i → get_or (set xs i v) p d ≡ v
set_here xs i p v d h e = get_d_set xs i p v d h ∙ cond-true (eqb p i) v (get_or xs p d) (eq-eqb p i e)

pub set_there : {X : Type 0} (xs : List X) (i p : ℕ) (v d : X) → i < length xs → (p ≡ i → ⊥) → get_or (set xs i v) p d ≡ get_or xs p d
set_there xs i p v d h e = get_d_set xs i p v d h ∙ cond-false (eqb p i) v (get_or xs p d) (ne_eqb p i e)

-- a crossing, if there is one, whose cell was taken
pub took_map : (P : Crossing → Crossing → Type 0) (o : Option ℕ) (n : ℕ) (ox oz : Option Crossing) → is_some o ≡ true → MatchOption ox (oz ≡ None) (λ x. IsSomeAnd oz (P x)) → ((x z : Crossing) → P x z → Taking x n z) → Took o n ox oz
took_map P None n ox oz e m h = absurd (none_some {X = ℕ} {o = None} refl (some_is None e).1)
took_map P (Some l) n None oz e m h = m
took_map P (Some l) n (Some x) None e m h = absurd m
took_map P (Some l) n (Some x) (Some z) e m h = (z, refl, h x z m)

-- and nothing taken
pub took_none : (o : Option ℕ) (n : ℕ) (ox : Option Crossing) → is_some o ≡ false → Took o n ox ox
took_none o n ox e = subst (λ o. Took o n ox ox) (sym (none_is o e)) refl

load_most : (o : Option Crossing) → crossing_load o ≤ 191
load_most None = omega arith
load_most (Some x) = share_few x.trail

-- how many cells of all can wait at once
pub loads_few : (xs : List (Option Crossing)) → length xs ≡ 16 → sum_by crossing_load xs ≤ 3056
loads_few xs e = let h = sum_by-le crossing_load 191 xs (λ k d l. load_most (get_or xs k d)) in omega (arith, ap (λ n. n * 191) e)
