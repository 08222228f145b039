use Rattle.std.proofs.Common.{arith}
use Rattle.std.proofs.lemmas.List.Sums.{fold-append}
use Rattle.directory.specs.ListLaws.{last_or-push}
use Rattle.directory.proofs.standing.last_commit_tells.Goals as goal

pub returns : goal.returns
returns c = grind (arith, fold-append, last_or-push)
