use Rattle.std.proofs.Common.{◌≡◌, ◌<◌, ◌≤◌, ◌-◌, ◌^◌, true, take, fold}
use Rattle.std.specs.List.{list_all}
use Rattle.net_reader.specs.declared.line.Open.TheVariants.{Number}
use Rattle.net_reader.specs.Steps.{is_plain, more}
use Rattle.net_reader.proofs.line.leading_number.Given as goal

abbrev pub invariant-digits : goal.invariant-digits
invariant-digits l = record {
  within : l.taken ≤ l.most;
  plain : list_all is_plain (take l.taken l.piece) ≡ true;
  read : Number l.taken l.number ≡ fold more (Number 0 0) (take l.taken l.piece);
  small : l.number < 10 ^ l.taken;
}

abbrev pub decreases-digits : goal.decreases-digits
decreases-digits l = l.most - l.taken
