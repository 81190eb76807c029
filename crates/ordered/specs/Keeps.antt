-- What each call keeps.
use Rattle.std.specs.Prelude.{◌≡◌, ℕ, ◌+◌, ◌<◌, ◌≤◌, Bool, true, false, cond, List, [], ◌∷◌, ◌++◌, length, Some, None, sum_by, Option, ◌==◌, nat_lt, slice_index_or, slice_set, refl}
use Rattle.std.proofs.Common.{◌⊎◌, sym, ap, subst, ◌∙◌, inl, inr, arith, length-set, get_or-set_other, get_or-set_same}
use Rattle.std.proofs.lemmas.Bool.{cases_eq, cond-true, cond-false, eq-eqb, ne_eqb}
use Rattle.std.proofs.lemmas.List.FromFn.{fill_by_all}
use Rattle.cells.specs.declared.faults.Cause.{Cause}
use Rattle.order.specs.First.{foremost}
use Rattle.scheduler.specs.declared.register.Register.{Register}
use Rattle.scheduler.specs.declared.terms.Contract.{Contract}
use Rattle.scheduler.specs.Laws.{InTime, Contracted, Past, Chosen}
use Rattle.scheduler.specs.Meaning.{Meaning, agreed, after, granted, updated, withdraw_rule, stamped, used, put_rule}
use Rattle.scheduler.specs.Tables.{contracts_of}
use Rattle.scheduler.proofs.Registers.{party}
use Rattle.backlog.specs.declared.held.Held.{Held}
use Rattle.backlog.specs.declared.places.Backlog.{Backlog}
use Rattle.backlog.specs.Cells.{held_in, holds_in, at, Taken}
use Rattle.backlog.proofs.HeldCells.{held_foremost, held_pushed, pushed}
use Rattle.demand.specs.Cells.{meaning_of, cell_of, Orderly, Puts}
use Rattle.demand.specs.Totals.{total_of, places}
use Rattle.demand.proofs.Firsts.{foremost_none}
use Rattle.demand.proofs.Keeps.{puts_of, puts_table, put_new, room, orderly_none, orderly_taken, orderly_withdrawn, orderly_put, contracted_of, past_of, in_time_of}
use Rattle.demand.proofs.Tables.{total_used, total_gone}
use Rattle.ordered.specs.Laws.{Spaced, Tests, KeptIdle, KeptServed, KeptWithdrawn, KeptPut, Prompt}
use Rattle.ordered.specs.States.{Sound, means, table_of, test_by, judged_by}

module _ (asks : ℕ → ℕ → ℕ → ℕ) (limit : ℕ → ℕ) (keeps : ℕ → ℕ → List (Option Contract) → List Held → Bool) where
  -- the same of an equal slot and an equal table
  pub moved : (t u : ℕ) (cs ds : List (Option Contract)) (xs : List Held) → u ≡ t → ds ≡ cs → Sound asks limit keeps t cs xs → Sound asks limit keeps u ds xs
  moved t u cs ds xs a b v = subst (λ n. Sound asks limit keeps n ds xs) (sym a) (subst (λ es. Sound asks limit keeps t es xs) (sym b) v)

  -- and of equal cells
  pub sound_same : (t u : ℕ) (cs ds : List (Option Contract)) (xs ys : List Held) → u ≡ t → ds ≡ cs → ys ≡ xs → Sound asks limit keeps t cs xs → Sound asks limit keeps u ds ys
  sound_same t u cs ds xs ys a b c v = moved t u cs ds ys a b (subst (Sound asks limit keeps t cs) (sym c) v)

  -- nothing held
  pub sound_idle : KeptIdle asks limit keeps → (t : ℕ) (cs : List (Option Contract)) (xs : List Held) → xs ≡ [] → Spaced cs → total_of places cs ≤ 128 → ((n : ℕ) → total_of (asks n) cs ≤ limit n) → Sound asks limit keeps t cs xs
  sound_idle idle t cs xs e spaced fits tested = record { orderly = orderly_none cs xs e fits; tested = tested; kept = λ n. subst (λ ys. keeps n t cs ys ≡ true) (sym e) (idle n t cs spaced tested) }

  -- contracts that the test admits, with nothing held
  pub sound_granted : (verdict : List (Option Contract) → Option Cause) → Tests verdict asks limit → KeptIdle asks limit keeps → (r : Register) (xs : List Held) → xs ≡ [] → verdict r.contracts ≡ None → Sound asks limit keeps r.slot.0 r.contracts xs
  sound_granted verdict tests idle r xs e v = let passed = tests r.contracts r.spaced r.bounded v in sound_idle idle r.slot.0 r.contracts xs e r.spaced passed.0 passed.1

  -- a slot in which the first in the order, if any is held, is served
  pub sound_served : (ahead : Held → Held → Bool) → KeptIdle asks limit keeps → KeptServed asks limit keeps ahead → (t : ℕ) (cs : List (Option Contract)) (xs ys : List Held) (o : Option Held)
      → Spaced cs → foremost ahead xs ≡ o → Taken xs o ys → Sound asks limit keeps t cs xs → Sound asks limit keeps (t + 1) cs ys
  sound_served ahead idle served t cs xs ys None spaced first taken v = sound_idle idle (t + 1) cs ys (taken ∙ foremost_none ahead xs first) spaced v.orderly.fits v.tested
  sound_served ahead idle served t cs xs ys (Some x) spaced first taken v = record { orderly = orderly_taken cs xs ys (Some x) taken v.orderly; tested = v.tested; kept = λ n. served n t cs xs ys x spaced first taken v }

  -- a contract is withdrawn, of a party that holds nothing
  pub sound_gone : KeptWithdrawn asks limit keeps → (t p : ℕ) (cs : List (Option Contract)) (xs : List Held) → p < length cs → holds_in xs p ≡ false → Sound asks limit keeps t cs xs → Sound asks limit keeps t (slice_set cs p None) xs
  sound_gone withdrawn t p cs xs within none v = record {
    orderly = orderly_withdrawn cs xs p within none v.orderly;
    tested = λ n. (let less = total_gone (asks n) cs p within in let old = v.tested n in omega arith);
    kept = λ n. withdrawn n t p cs xs within none v;
  }

  -- after a withdrawal, refused or not
  pub sound_withdrawn : KeptWithdrawn asks limit keeps → (r : Register) (xs : List Held) (p : ℕ) (holds : Bool) → holds ≡ holds_in xs p → Sound asks limit keeps r.slot.0 r.contracts xs
      → Sound asks limit keeps r.slot.0 (after (withdraw_rule (contracts_of r.contracts p) holds) r.contracts (slice_set r.contracts p None)) xs
  sound_withdrawn withdrawn r xs p holds h v = way (contracts_of r.contracts p) refl holds h
    where
      way : (o : Option Contract) → contracts_of r.contracts p ≡ o → (b : Bool) → b ≡ holds_in xs p → Sound asks limit keeps r.slot.0 (after (withdraw_rule o b) r.contracts (slice_set r.contracts p None)) xs
      way None e b k = v
      way (Some c) e true k = v
      way (Some c) e false k =
          let low = party r p c e in
          let whole = r.whole in
          sound_gone withdrawn r.slot.0 p r.contracts xs (omega arith) (sym k) v

  -- a cell is put
  pub sound_put : KeptPut asks limit keeps → (t p : ℕ) (cs : List (Option Contract)) (xs : List Held) (c : Contract) (x : Held) → Spaced cs → Puts cs t p c x → Sound asks limit keeps t cs xs → Sound asks limit keeps t (slice_set cs p (Some (stamped c t))) (xs ++ x ∷ [])
  sound_put put t p cs xs c x spaced k v = record {
    orderly = orderly_put cs xs t p c x k v.orderly;
    tested = λ n. (let same = total_used (asks n) cs p t c k.inside k.granted in let old = v.tested n in omega arith);
    kept = λ n. put n t p cs xs c x spaced k v;
  }

  -- a cell that is put has a place
  pub put_room : Prompt asks limit keeps → (r : Register) (xs : List Held) (p : ℕ) (c : Contract) (x : Held) → Puts r.contracts r.slot.0 p c x → Sound asks limit keeps r.slot.0 r.contracts xs → length xs < 128
  put_room prompt r xs p c x k v = room r.contracts xs r.slot.0 p c x k v.orderly r.spaced r.past (prompt r.slot.0 r.contracts xs v)

  -- so it is held, where none was of its party and eligible slot
  pub put_held : Prompt asks limit keeps → (r : Register) (xs ys : List Held) (p l : ℕ) (c : Contract) (x : Held) → contracts_of r.contracts p ≡ Some c → put_rule (contracts_of r.contracts p) r.slot.0 ≡ None
      → ys ≡ cond (nat_lt (length xs) 128) (xs ++ x ∷ []) xs
      → x.cell.party ≡ p → x.cell.eligible.0 ≡ r.slot.0 → x.bound.0 ≡ c.bound.0 → x.cell.label ≡ l → Sound asks limit keeps r.slot.0 r.contracts xs
      → held_in ys ≡ updated (held_in xs) p (updated (held_in xs p) r.slot.0 (Some l))
  put_held prompt r xs ys p l c x has ok is a b e f v =
      let k = puts_of r p c x has ok a b e in
      held_pushed xs ys x is (put_room prompt r xs p c x k v) p r.slot.0 l a b f (put_new r.contracts xs r.slot.0 p c x k v.orderly)

  -- a cell that is put finds a place, is no other's equal, and leaves all sound
  pub pushes : KeptPut asks limit keeps → Prompt asks limit keeps → (r : Register) (xs ys : List Held) (y : Held) (p : ℕ) (c : Contract) → ys ≡ cond (nat_lt (length xs) 128) (xs ++ y ∷ []) xs
      → contracts_of r.contracts p ≡ Some c → put_rule (contracts_of r.contracts p) r.slot.0 ≡ None
      → y.cell.party ≡ p → y.cell.eligible.0 ≡ r.slot.0 → y.bound.0 ≡ c.bound.0 → Sound asks limit keeps r.slot.0 r.contracts xs
      → (length xs < 128)
      × (sum_by (at p r.slot.0) xs ≡ 0)
      × Sound asks limit keeps r.slot.0 (after (put_rule (contracts_of r.contracts p) r.slot.0) r.contracts (slice_set r.contracts p (used (contracts_of r.contracts p) r.slot.0))) ys
  pushes put prompt r xs ys y p c is has ok a b e v =
      let t = r.slot.0 in
      let cs = r.contracts in
      let k = puts_of r p c y has ok a b e in
      let free = put_room prompt r xs p c y k v in
      let new = sound_put put t p cs xs c y r.spaced k v in (
        free,
        put_new cs xs t p c y k v.orderly,
        subst (λ ds. Sound asks limit keeps t ds ys) (sym (puts_table cs p t c has ok)) (subst (Sound asks limit keeps t (slice_set cs p (Some (stamped c t)))) (sym (pushed xs ys y is free)) new),
      )

  -- the laws of a scheduler
  pub timely : Prompt asks limit keeps → (r : Register) (xs : List Held) → Sound asks limit keeps r.slot.0 r.contracts xs → InTime (meaning_of r.slot.0 r.contracts xs)
  timely prompt r xs v = in_time_of r xs v.orderly (prompt r.slot.0 r.contracts xs v)

  pub contracted : (r : Register) (xs : List Held) → Sound asks limit keeps r.slot.0 r.contracts xs → Contracted (meaning_of r.slot.0 r.contracts xs)
  contracted r xs v = contracted_of r xs v.orderly

  pub past : (r : Register) (xs : List Held) → Sound asks limit keeps r.slot.0 r.contracts xs → Past (meaning_of r.slot.0 r.contracts xs)
  past r xs v = past_of r xs v.orderly

-- what is chosen is held
pub chosen_of : (ahead : Held → Held → Bool) (t : ℕ) (cs : List (Option Contract)) (xs : List Held) (o : Option Held) → Orderly cs xs → foremost ahead xs ≡ o → Chosen (meaning_of t cs xs) (cell_of o)
chosen_of ahead t cs xs None v e = tt
chosen_of ahead t cs xs (Some x) v e = held_foremost ahead xs x v.single e

-- the test of the contracts with a new one is that of a table that has them, whoever keeps it
pub judged_of : (verdict : List (Option Contract) → Option Cause) (m : Meaning) (cs : List (Option Contract)) (p s d : ℕ) → length cs ≡ 16 → contracts_of cs ≡ (granted m p s d).contracts → judged_by verdict m p s d ≡ verdict cs
judged_of verdict m cs p s d whole e = ap verdict (ap table_of (sym e) ∙ sym (fill_by_all (contracts_of cs) cs 16 None whole (λ k h. refl)))

-- the test is a function of what is meant
pub judged : (verdict : List (Option Contract) → Option Cause) (r : Register) (b : Backlog) (p s d : ℕ) → test_by verdict r.contracts p s d ≡ judged_by verdict (means r b) p s d
judged verdict r b p s d = ap verdict (fill_by_all (updated (contracts_of cs) p new) (slice_set cs p new) 16 None (length-set cs p new ∙ r.whole) (λ k h. one k h (cases_eq k p)))
  where
    cs : List (Option Contract)
    cs = r.contracts

    new : Option Contract
    new = Some (agreed s d)

    one : (k : ℕ) → k < 16 → (k ≡ p) ⊎ (k ≡ p → ⊥) → slice_index_or (slice_set cs p new) k None ≡ updated (contracts_of cs) p new k
    one k h (inl e) =
        let whole = r.whole in
        let within : p < length cs = omega arith in
        ap (λ j. slice_index_or (slice_set cs p new) j None) e ∙ get_or-set_same cs p new None within ∙ sym (cond-true (k == p) new (contracts_of cs k) (eq-eqb k p e))
    one k h (inr n) = get_or-set_other cs p k new None n ∙ sym (cond-false (k == p) new (contracts_of cs k) (ne_eqb k p n))
