use Rattle.std.proofs.Common.{◌≡◌, List, [], ◌∷◌, ◌++◌}
use Rattle.directory.specs.Courses.{Step}
use Rattle.worked_examples.proofs.orders.wrong_made.Goals as goal

no-step : (before later : List Step) (step : Step) → ◌≡◌ {A = List Step} [] (before ++ step ∷ later) → ⊥
no-step [] later step e = cc
no-step (one ∷ before) later step e = cc

pub returns-clause-unscripted : goal.returns-clause-unscripted
returns-clause-unscripted c = λ history made. no-step made.before made.later made.step made.script
