use Rattle.std.proofs.Common.{arith}
use Rattle.std.proofs.lemmas.List.Elements.{filter_map-append}
use Rattle.directory.specs.StepLaws.{puts-push}
use Rattle.directory.proofs.standing.commits_after.Goals as goal

pub returns : goal.returns
returns c = grind (arith, puts-push, filter_map-append)
