use Rattle.std.proofs.Common.{◌<◌, arith}
use Rattle.worked_examples.proofs.costs.short_ways.Goals as goal

pub returns : goal.returns
returns c = λ setting sub way history address short one settled current.
    let less : way < setting.threshold 0 = short.current settled current in omega (arith, less, one)
