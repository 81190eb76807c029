use Rattle.std.proofs.Common.{◌≡◌, true, [], ◌∷◌, ◌++◌, is_ok, vec_items}
use Rattle.std.specs.List.{list_all}
use Rattle.texts.specs.Traces.{line_ranged, never_falls}
use Rattle.texts.proofs.Pushes.{push_keeps, all_push}
use Rattle.texts.proofs.Falls.{never_falls_push}
use Rattle.texts.proofs.traces.Trace.add.Goals as goal

pub invariant_of-self : goal.invariant_of-self
invariant_of-self c =
    let s = c.args.self.now in
    let x = c.args.line in
    let ls = vec_items s.lines in
    let ranged = push_keeps (λ xs. list_all line_ranged xs ≡ true) (is_ok c.push.result) ls (ls ++ x ∷ []) _ c.push.ensures.items (all_push line_ranged ls x s.ranged c.requires.ranged) s.ranged in
    let order = push_keeps (λ xs. never_falls xs ≡ true) (is_ok c.push.result) ls (ls ++ x ∷ []) _ c.push.ensures.items (never_falls_push ls x s.order c.requires.rises) s.order in
    record { ranged = ranged; order = order }
