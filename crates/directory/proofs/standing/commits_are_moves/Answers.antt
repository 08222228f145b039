use Rattle.directory.proofs.StandingLaws.{commits-are_moves, standing-is_stop}
use Rattle.directory.proofs.standing.commits_are_moves.Goals as goal

pub returns : goal.returns
returns c = record {
  commits = commits-are_moves c.mark_words.ensures.unpacked;
  stands = standing-is_stop c.mark_words.ensures.unpacked;
}
