use Rattle.std.proofs.Common.{rules, arith}
use Rattle.node_set.proofs.Remains.{word_without}
use Rattle.node_set.proofs.cuts.words_remove.Goals as goal

pub returns : goal.returns
returns c = record {
  enough = c.loop-i.auto.a;
  left = λ k i short below.
      grind (arith, word_without);
}

pub loop-i-preserved : goal.loop-i-preserved
loop-i-preserved c = search rules
