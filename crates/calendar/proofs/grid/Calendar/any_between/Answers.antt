use Rattle.std.proofs.Common.{inl, inr, arith}
use Rattle.std.proofs.lemmas.Bool.{cases_Bool}
use Rattle.calendar.specs.Days.{now_of}
use Rattle.calendar.specs.Rows.{room}
use Rattle.calendar.proofs.Waits.{waiting_out}
use Rattle.calendar.proofs.Windows.{room_parts}
use Rattle.calendar.proofs.grid.Calendar.any_between.Goals as goal

pub returns : goal.returns
returns c =
    let s = c.args.self.now in
    let p = c.args.party in
    record {
      found = λ t. (let q = c.any_within.ensures.found t in (q.0, omega (arith, q.1), omega (arith, q.2), q.3));
      none = λ t e a b. elim (cases_Bool (room (now_of s) p e)) [
        | inl r ↦ (let w = room_parts (now_of s) p e r in c.any_within.ensures.none t e (omega arith) (omega arith))
        | inr r ↦ waiting_out s p e r
      ];
    }
