-- What an answer says of its verdict.
use Rattle.std.proofs.Common.{◌≡◌, ℕ, ◌≤◌, ltb, true, MatchOption, is_ok, Some, None, Ok, Err, Option, refl, ap, arith}
use Rattle.std.proofs.lemmas.Bool.{ltb-false}
use Rattle.cells.specs.declared.faults.Cause.{Cause}
use Rattle.cells.specs.declared.faults.Fault.{Fault}
use Rattle.scheduler.specs.Meaning.{told, last_slot}
use Rattle.paths.specs.Route.{Route}
use Rattle.paths.specs.Verdicts.{answered, tick_verdict}
use Rattle.paths.proofs.Kept.{consents}

-- a match on an option, either way
pub on_match : {X Q : Type 0} (N : Type 0) (P : X → Type 0) (o : Option X) → MatchOption o N P → (o ≡ None → N → Q) → ((x : X) → o ≡ Some x → P x → Q) → Q
on_match N P None m f h = f refl m
on_match N P (Some x) m f h = h x refl m

-- an accepted call of a scheduler
pub told_ok_is : {X : Type 0} (v : Option Cause) (p : ℕ) (x y : X) → Ok x ≡ told v p y → (x ≡ y) × (v ≡ None)
told_ok_is None p x y e = (cc, refl)
told_ok_is (Some c) p x y e = absurd (let z : ◌≡◌ {A = ℕ} 0 1 = cc in omega arith)

-- an accepted call of a path
pub answered_ok : (v : Option Fault) → Ok (tt {0}) ≡ answered v → v ≡ None
answered_ok None e = refl
answered_ok (Some f) e = absurd (let z : ◌≡◌ {A = ℕ} 0 1 = cc in omega arith)

-- a refused one
pub answered_err : (v : Option Fault) (f : Fault) → Err f ≡ answered v → v ≡ Some f
answered_err None f e = absurd (let z : ◌≡◌ {A = ℕ} 0 1 = cc in omega arith)
answered_err (Some g) f e = let q : g ≡ f = cc in ap Some q

-- a tick that is accepted comes before the slots are over
pub tick_in_time : (r : Route) → tick_verdict r ≡ None → r.slot ≤ last_slot
tick_in_time r e = ltb-false last_slot r.slot (consents (ltb last_slot r.slot) _ None e).0

-- a verdict that consents is not refused
pub answered_is_ok : (v : Option Fault) → v ≡ None → is_ok (answered v) ≡ true
answered_is_ok v e = ap (λ w. is_ok (answered w)) e

pub told_is_ok : {X : Type 0} (v : Option Cause) (p : ℕ) (x : X) → v ≡ None → is_ok (told v p x) ≡ true
told_is_ok v p x e = ap (λ w. is_ok (told w p x)) e
