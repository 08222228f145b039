use Rattle.std.proofs.Common.{◌≡◌, ◌≤◌, ◌-◌, true, length, take, fold}
use Rattle.std.specs.List.{list_all}
use Rattle.net_reader.specs.declared.line.Open.TheVariants.{Word}
use Rattle.net_reader.specs.Steps.{is_plain, more}
use Rattle.net_reader.proofs.line.word_run.Given as goal

abbrev pub invariant-letters : goal.invariant-letters
invariant-letters l = record {
  within : l.taken ≤ length l.piece;
  plain : list_all is_plain (take l.taken l.piece) ≡ true;
  read : Word l.word ≡ fold more (Word l.packed) (take l.taken l.piece);
}

abbrev pub decreases-letters : goal.decreases-letters
decreases-letters l = length l.piece - l.taken
