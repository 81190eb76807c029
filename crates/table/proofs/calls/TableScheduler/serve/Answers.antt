use Rattle.std.proofs.Common.{◌≡◌, ◌+◌, ◌<◌, length, get_or, Some, None, sym, refl, ap, ◌∙◌, arith, rules}
use Rattle.scheduler.specs.Meaning.{serve_verdict, after, updated, without}
use Rattle.scheduler.specs.Tables.{contracts_of}
use Rattle.scheduler.proofs.Registers.{terms}
use Rattle.scheduler.proofs.Updates.{table-set, same_meaning}
use Rattle.scheduler.proofs.Verdicts.{after_ok}
use Rattle.table.specs.Tables.{table_meaning, table_choice, owner_of, cell_of}
use Rattle.table.specs.Turns.{turn}
use Rattle.table.specs.Helds.{held_by, held_served, cell_parts, cell_none}
use Rattle.table.specs.Keeps.{kept_along, kept_stepped, kept_served, owner_is, served_out}
use Rattle.table.specs.Laws.{kept, label_of, contract_of}
use Rattle.table.proofs.calls.TableScheduler.serve.Goals as goal

pub invariant_of-self-in-Some : goal.invariant_of-self-in-Some
invariant_of-self-in-Some c =
    let x = c.args.self.now in
    let n = x.register.slot.0 in
    let f = contract_of x in
    let g = label_of x in
    let p = c.in-Some.cell.party in
    let ok : serve_verdict (table_meaning x) ≡ None = search rules in
    let whole = x.labels.whole in
    let within : p < length x.labels.entries = omega (arith, c.in-Some.ensures.within) in
    let slot = c.tick.ensures.slot ∙ ap (λ v. after v n (n + 1)) ok in
    let parts = cell_parts (table_meaning x) (owner_of x (turn n)) c.in-Some.cell (sym c.in-Some.ensures.value) in
    kept_along _ (n + 1) _ f _ (owner_of x) _ (updated g p None) slot (ap contracts_of c.tick.ensures.table) refl (ap (λ ls q. get_or ls q None) c.clear.ensures ∙ table-set (λ o. o) x.labels.entries p None None within)
    (kept_stepped n f (owner_of x) (updated g p None) (terms x.register) (served_out f g p (owner_of x (turn n)) parts.0) (kept_served n f (owner_of x) g p (kept x)))

pub invariant_of-self-in_default : goal.invariant_of-self-in_default
invariant_of-self-in_default c =
    let x = c.args.self.now in
    let m = table_meaning x in
    let n = x.register.slot.0 in
    let f = contract_of x in
    let g = label_of x in
    let ok : serve_verdict m ≡ None = search rules in
    let slot = c.tick.ensures.slot ∙ ap (λ v. after v n (n + 1)) ok in
    let none : table_choice x ≡ None = sym c.in_default.ensures.value in
    kept_along _ (n + 1) _ f _ (owner_of x) _ g slot (ap contracts_of c.tick.ensures.table) refl refl
    (kept_stepped n f (owner_of x) g (terms x.register) (λ q h. cell_none m q (g q) (λ e. refl) (ap (cell_of m) (sym (owner_is q (owner_of x (turn n)) h)) ∙ none)) (kept x))

pub returns-in-Some : goal.returns-in-Some
returns-in-Some c =
    let x = c.args.self.now in
    let m = table_meaning x in
    let n = x.register.slot.0 in
    let f = contract_of x in
    let g = label_of x in
    let p = c.in-Some.cell.party in
    let ok : serve_verdict m ≡ None = search rules in
    let whole = x.labels.whole in
    let within : p < length x.labels.entries = omega (arith, c.in-Some.ensures.within) in
    let slot = c.tick.ensures.slot ∙ ap (λ v. after v n (n + 1)) ok in
    let value : Some c.in-Some.cell ≡ table_choice x = c.in-Some.ensures.value in
    let parts = cell_parts m (owner_of x (turn n)) c.in-Some.cell (sym value) in
    let cs = ap contracts_of c.tick.ensures.table in
    let gs = ap (λ ls q. get_or ls q None) c.clear.ensures ∙ table-set (λ o. o) x.labels.entries p None None within in
    let held =
    ap (λ h. held_by h (λ q. get_or c.clear.new.labels.entries q None)) cs
    ∙ ap (held_by f) gs
    ∙ held_served f g c.in-Some.cell parts.1
    ∙ ap (without (held_by f g)) value
    in
    record {
      answer = search rules;
      becomes = after_ok _ _ _ _ ok (same_meaning _ _ _ _ _ _ slot cs held);
      owners = refl;
    }
