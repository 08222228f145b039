use Rattle.std.proofs.Common.{◌≡◌, ◌≤◌, ◌-◌, true, length, take, fold}
use Rattle.std.specs.List.{list_all}
use Rattle.net_reader.specs.declared.line.Open.TheVariants.{Number}
use Rattle.net_reader.specs.Steps.{is_plain, more}
use Rattle.net_reader.proofs.line.digit_run.Given as goal

abbrev pub invariant-digits : goal.invariant-digits
invariant-digits l = record {
  within : l.taken ≤ length l.piece;
  plain : list_all is_plain (take l.taken l.piece) ≡ true;
  read : Number l.digits l.number ≡ fold more (Number l.count l.value) (take l.taken l.piece);
}

abbrev pub decreases-digits : goal.decreases-digits
decreases-digits l = length l.piece - l.taken
