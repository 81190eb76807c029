use Rattle.std.proofs.Common.{◌≡◌, ℕ, ◌<◌, ◌≤◌, length, get_or, set, vec_items, sym, ap, ◌∙◌, arith, length-set}
use Rattle.std.proofs.lemmas.Bool.{and_parts, leb-true}
use Rattle.texts.specs.Traces.{highest, slot_at}
use Rattle.texts.proofs.Falls.{followed}
use Rattle.texts.proofs.traces.Follow.add.Goals as goal

pub invariant_of-self-2 : goal.invariant_of-self-2
invariant_of-self-2 c =
    let s = c.args.self.now in
    let x = c.args.line in
    let ls = vec_items s.trace.lines in
    let known : x.party ≤ 15 = leb-true _ _ (and_parts _ _ c.requires.ranged).0 in
    let here : x.party < length s.reached = omega (arith, s.whole) in
    let whole = length-set s.reached c.from.result x.slot ∙ s.whole in
    let follows : (p : ℕ) → (get_or (set s.reached c.from.result x.slot) p (slot_at 0)).0 ≡ highest p (vec_items c.add.new.self.lines) = λ p.
    ap (λ k. (get_or (set s.reached k x.slot) p (slot_at 0)).0) c.from.ensures ∙ followed ls x s.reached here c.requires.rises s.follows p ∙ ap (highest p) (sym c.in_ok-add.ensures.added) in
    record { whole = whole; follows = follows }
