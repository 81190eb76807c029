use Rattle.std.proofs.Common.{◌≡◌, take}
use Rattle.std.specs.Str.Parse.{AllDigits, digits_value}
use Rattle.texts.proofs.fields.number.Given as goal

abbrev pub invariant-loop-x : goal.invariant-loop-x
invariant-loop-x l = AllDigits 10 (take l.x-index l.field) × (l.n ≡ digits_value 10 (take l.x-index l.field))
