use Rattle.std.proofs.Common.{◌*◌, ◌<◌, ◌≤◌, subst, arith}
use Rattle.directory.specs.Finds.{found_weight}
use Rattle.stretch_laws.specs.Tracking.{radius}
use Rattle.trail_laws.specs.Rightness.{IsAnswered}
use Rattle.worked_examples.proofs.costs.worked_climbs.Goals as goal

pub returns-clause-early : goal.returns-clause-early
returns-clause-early c = λ law setting sub from history small tracking inside legal apart far.
    let found = law setting 3 2 sub history from small tracking inside legal apart in
    (found.0, found.1, found.2, subst (λ n. radius found.0 < 4 * n) far found.3, found.4)

pub returns-clause-lowest : goal.returns-clause-lowest
returns-clause-lowest c = λ law setting call tracking inside.
    law setting 3 2 call 0 tracking inside (omega arith)

pub returns-clause-highest : goal.returns-clause-highest
returns-clause-highest c = λ law setting call tracking inside high.
    law setting 3 2 call 2 tracking inside high

pub returns-clause-resting : goal.returns-clause-resting
returns-clause-resting c = λ law setting history actor call found tickets small tracking inside legal find quiet rest
    far.
    subst (λ n. IsAnswered found × (found_weight found ≤ 112 * n)) far
    (law setting 3 2 history actor call found tickets small tracking inside legal find quiet rest)
