use Rattle.busy_finds.proofs.Repeated.{agains-few, chased-few}
use Rattle.busy_finds.proofs.again.agains_are_few.Goals as goal

pub returns : goal.returns
returns c = record {
  chased = chased-few c.chased_meets_commits.ensures;
  all = agains-few c.missed_finds_are_few.ensures c.chased_meets_commits.ensures;
}
