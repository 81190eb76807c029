use Rattle.std.proofs.Common.{◌+◌, ◌<◌, ◌≤◌, sym, ◌∙◌, mod-eq_of_lt, arith, below_more}
use native.Mathlib.Nat.{mod-le, add-mod_right}
use Rattle.table.specs.Kept.{owner_in}
use Rattle.table.specs.Offsets.{free_more}
use Rattle.table.proofs.owners.Owners.least_free_offset.Goals as goal
use Rattle.table.proofs.owners.Owners.least_free_offset.Goals.{else-loop-turn-test, then-loop-turn-test+else-is_some+else-period-turn}

pub loop-turn-init : goal.loop-turn-init
loop-turn-init c = (mod-eq_of_lt c.offsets-test.true, λ k h e. absurd (omega (arith, mod-le k c.args.period)))

pub offsets-preserved : goal.offsets-preserved
offsets-preserved c =
    let within : c.loop-turn.turn < 128 = omega arith in
    below_more _ _ c.offsets.invariant (c.loop-turn.turn, within, c.loop-turn.invariant.0, sym c.if-is_some.ensures)

pub loop-turn-preserved : goal.loop-turn-preserved
loop-turn-preserved c = (
  add-mod_right c.loop-turn.turn c.args.period ∙ c.loop-turn.invariant.0,
  free_more (owner_in c.args.self.now.turns) c.args.period c.offsets.offset c.loop-turn.turn c.loop-turn.invariant.0 c.loop-turn.invariant.1 (sym c.if-is_some.ensures),
)

pub returns-in-offsets : goal.returns-in-offsets
returns-in-offsets c =
    elim c.loop-turn-test.branch [
      | else-loop-turn-test w ↦ (c.offsets-test.true, λ k h. c.loop-turn.invariant.1 k (omega arith), c.offsets.invariant)
      | then-loop-turn-test+else-is_some+else-period-turn w ↦
          let last : 128 ≤ c.loop-turn.turn + c.args.period = omega arith in
          let free = free_more (owner_in c.args.self.now.turns) c.args.period c.offsets.offset c.loop-turn.turn c.loop-turn.invariant.0 c.loop-turn.invariant.1 (sym w.if-is_some.ensures) in
          (c.offsets-test.true, λ k h. free k (omega arith), c.offsets.invariant)
    ]
