-- What holds of each make holds of the one picked.
use Rattle.cells.specs.declared.makes.Make.{Make}
use Rattle.cells.specs.declared.makes.Make.TheVariants.{Edf, Sp, Table}
use Rattle.switch.specs.Makes.{pick}

pub pick_each : {X : Type 0} (P : X → Type 0) (k : Make) (a b c : X) → P a → P b → P c → P (pick k a b c)
pick_each P Edf a b c x y z = x
pick_each P Sp a b c x y z = y
pick_each P Table a b c x y z = z

-- the same of two things that belong together
pub pick_both : {X Y : Type 0} (P : X → Y → Type 0) (k : Make) (a b c : X) (d e f : Y) → P a d → P b e → P c f → P (pick k a b c) (pick k d e f)
pick_both P Edf a b c d e f x y z = x
pick_both P Sp a b c d e f x y z = y
pick_both P Table a b c d e f x y z = z
