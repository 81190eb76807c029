use Rattle.std.proofs.Common.{◌≡◌, ℕ, ◌+◌, ◌*◌, ◌<◌, ◌≤◌, length, get_or, Some, ap, ◌∙◌, inl, inr, arith, rules}
use Rattle.std.specs.Int.{IsInRange}
use Rattle.std.specs.Str.Parse.{AllDigits, digits_value}
use Rattle.texts.proofs.Numerals.{Bare, not_a_digit, named, short, digit_more, number_more, whole}
use Rattle.texts.proofs.fields.number.Goals as goal

pub returns-then-digit-lt48 : goal.returns-then-digit-lt48
returns-then-digit-lt48 c =
    let bs = c.args.field.now in
    let never : IsInRange 48 57 (get_or bs c.loop-x.x-index 0) → ⊥ = λ i. elim c.then-digit-lt48.either [ inl e ↦ omega arith | inr e ↦ omega arith ] in
    not_a_digit bs c.loop-x.x-index c.loop-x-test.true never

pub overflow_mul-n : goal.overflow_mul-n
overflow_mul-n c = omega (arith, short c.args.field.now c.loop-x.x-index (omega arith) (omega arith) c.loop-x.invariant.0, c.loop-x.invariant.1)

pub overflow_add-n : goal.overflow_add-n
overflow_add-n c = omega (arith, short c.args.field.now c.loop-x.x-index (omega arith) (omega arith) c.loop-x.invariant.0, c.loop-x.invariant.1, c.from.ensures)

pub loop-x-preserved : goal.loop-x-preserved
loop-x-preserved c = (
  digit_more c.args.field.now c.loop-x.x-index c.loop-x-test.true c.if-digit-lt48.false c.if-digit-gt57.false c.loop-x.invariant.0,
  ap (λ (d : ℕ). c.loop-x.n * 10 + d) c.from.ensures ∙ number_more c.args.field.now c.loop-x.x-index c.loop-x.n c.loop-x-test.true c.if-digit-lt48.false c.if-digit-gt57.false c.loop-x.invariant.1,
)

pub returns : goal.returns
returns c =
    let bs = c.args.field.now in
    let some : 0 < length bs = search rules in
    let few : length bs ≤ 10 = c.if-field-gt10.false in
    let bare : Bare bs = λ z. elim c.else-field-eq48.either [ inl e ↦ e.1 | inr e ↦ absurd (e z) ] in
    let digits : AllDigits 10 bs = whole (AllDigits 10) bs c.loop-x.x-index c.loop-x-test.false c.loop-x.invariant.0 in
    let same : c.loop-x.n ≡ digits_value 10 bs = whole (λ ds. c.loop-x.n ≡ digits_value 10 ds) bs c.loop-x.x-index c.loop-x-test.false c.loop-x.invariant.1 in
    ap (λ n. Some n) same ∙ named bs (record { some = some; few = few; bare = bare; digits = digits })
