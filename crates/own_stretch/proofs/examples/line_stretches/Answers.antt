use Rattle.std.proofs.Common.{refl}
use Rattle.busy_finds.specs.Levels.{reaching}
use Rattle.own_stretch.proofs.examples.line_stretches.Goals as goal

pub returns : goal.returns
unfolding reaching
returns c = record {
  own = refl;
  any = refl;
  between = refl;
  up = refl;
  back = refl;
  there = refl;
  lowest = refl;
  past = refl;
  top = refl;
  whole = refl;
  part = refl;
}
