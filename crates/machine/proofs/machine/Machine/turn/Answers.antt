use Rattle.std.proofs.Common.{arith}
use Rattle.machine.proofs.Finishing.{turned-once}
use Rattle.machine.proofs.machine.Machine.turn.Goals as goal

pub returns-then-stride-eq0-clause-finished : goal.returns-then-stride-eq0-clause-finished
returns-then-stride-eq0-clause-finished c = grind (arith, turned-once)

pub returns-then-stride-eq0-clause-stands : goal.returns-then-stride-eq0-clause-stands
returns-then-stride-eq0-clause-stands c = λ history stands.
    (turned-once c.stride.result c.stride.ensures.few (c.stride.ensures.stands history stands)).stands

pub returns-else-stride-eq0-clause-finished : goal.returns-else-stride-eq0-clause-finished
returns-else-stride-eq0-clause-finished c = λ history stands.
    let turned = turned-once c.stride.result c.stride.ensures.few (c.stride.ensures.stands history stands) in
    (λ same. cc, λ none. absurd (omega (arith, c.if-stride-eq0.false, turned.none.1 none)))

pub returns-else-stride-eq0-clause-stands : goal.returns-else-stride-eq0-clause-stands
returns-else-stride-eq0-clause-stands c = λ history stands.
    (turned-once c.stride.result c.stride.ensures.few (c.stride.ensures.stands history stands)).stands
