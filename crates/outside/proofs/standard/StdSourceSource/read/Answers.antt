use Rattle.std.proofs.lemmas.Grind.{common_steps}
use Rattle.std.proofs.Common.{arith}
use Rattle.outside.proofs.standard.StdSourceSource.read.Goals as goal

pub copy_front-requires : goal.copy_front-requires
copy_front-requires c = grind (arith, common_steps)

pub returns-in-Got : goal.returns-in-Got
returns-in-Got c = grind (arith, common_steps)

pub slice_bounds-copy_front-end : goal.slice_bounds-copy_front-end
slice_bounds-copy_front-end c = grind (arith, common_steps)
