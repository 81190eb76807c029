-- The worked examples, computed.
use Rattle.std.proofs.Common.{refl}
use Rattle.edf.specs.Admission.{busy_period}
use Rattle.sp.specs.Levels.{level, levels_exceeded}
use Rattle.table.specs.Turns.{free, greatest_power}
use Rattle.examples.specs.Worked.{NoEnd, TooMuch, ThreeByEdf, TwoBySp, TwoTurns, NoTurn, SixBytes, WorkedExamples}

pub no_end : NoEnd
unfolding busy_period
no_end = (refl, refl)

pub too_much_lem : TooMuch
unfolding busy_period
too_much_lem = (refl, refl, refl, refl)

pub three_by_edf : ThreeByEdf
unfolding busy_period
three_by_edf = (refl, refl, refl)

pub two_by_sp : TwoBySp
unfolding level levels_exceeded
two_by_sp = (refl, refl, refl)

pub two_turns : TwoTurns
unfolding free greatest_power
two_turns = (refl, refl, refl, refl)

pub no_turn : NoTurn
unfolding free greatest_power
no_turn = refl

pub six_bytes : SixBytes
six_bytes = (refl, refl)

pub worked : WorkedExamples
worked = (no_end, too_much_lem, three_by_edf, two_by_sp, two_turns, no_turn, six_bytes)
