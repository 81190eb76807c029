use Rattle.sp.specs.Powers.{level_zeros}
use Rattle.sp.proofs.levels.level_of.Goals as goal

pub overflow_sub-result : goal.overflow_sub-result
overflow_sub-result c = (level_zeros c.args.bound.0 c.requires.least c.requires.most).0

pub returns : goal.returns
returns c = (level_zeros c.args.bound.0 c.requires.least c.requires.most).1
