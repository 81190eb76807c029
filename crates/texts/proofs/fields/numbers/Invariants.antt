use Rattle.std.proofs.Common.{◌≡◌, vec_items}
use Rattle.texts.specs.Fields.{pieces, numbers_of}
use Rattle.texts.proofs.Sequences.{onto}
use Rattle.texts.proofs.Turns.{Gives}
use Rattle.texts.proofs.fields.numbers.Given as goal

-- what is left of the fields gives the answer
abbrev pub invariant-loop-field : goal.invariant-loop-field
invariant-loop-field l = record {
  callable : (goal.iterator-loop-field).can_next l.field-iterator;
  finite : (goal.iterator-loop-field).is_finite l.field-iterator;
  rest : Gives (goal.iterator-loop-field).next_gives (λ x. x.now) l.field-iterator (λ fs. numbers_of (pieces 9 l.fields) ≡ onto (vec_items l.all) (numbers_of fs));
}
