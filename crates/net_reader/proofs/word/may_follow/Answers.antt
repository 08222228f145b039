use Rattle.std.proofs.Common.{rules}
use Rattle.net_reader.proofs.word.may_follow.Goals as goal

pub returns-in-K-matches : goal.returns-in-K-matches
returns-in-K-matches c = search rules
