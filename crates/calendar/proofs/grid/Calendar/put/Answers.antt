use Rattle.std.proofs.Common.{◌≡◌, true, refl}
use Rattle.calendar.specs.Days.{now_of}
use Rattle.calendar.specs.Rows.{room}
use Rattle.calendar.proofs.Waits.{waiting_put}
use Rattle.calendar.proofs.grid.Calendar.put.Goals as goal

pub returns : goal.returns
returns c =
    let s = c.args.self.now in
    let free : true ≡ room (now_of s) c.args.party c.args.slot.0 = c.if-not-has_room.ensures in
    record {
      answer = free;
      slot = refl;
      cells = waiting_put s _ c.args.party c.args.slot.0 c.args.label c.day_of.result refl free c.day_of.ensures c.keep.ensures;
    }
