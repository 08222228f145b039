use Rattle.busy_finds.proofs.Levels.{end-by-level}
use Rattle.busy_finds.proofs.Own.{any-stretch, own-stretch}
use Rattle.busy_finds.proofs.prices.finds_end_by_level.Goals as goal

pub returns : goal.returns
returns c = record {
  levels = end-by-level c.laws_below.ensures;
  own = own-stretch c.laws_below.ensures (end-by-level c.laws_below.ensures);
  any = any-stretch c.laws_below.ensures (end-by-level c.laws_below.ensures);
}
