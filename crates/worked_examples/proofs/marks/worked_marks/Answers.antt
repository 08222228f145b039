use Rattle.std.proofs.Common.{arith}
use Rattle.worked_examples.proofs.marks.worked_marks.Goals as goal

pub returns-clause-here : goal.returns-clause-here
returns-clause-here c = λ history p tells. tells.0

pub returns-clause-here_number : goal.returns-clause-here_number
returns-clause-here_number c = λ history p tells. tells.1

pub returns-clause-here_on : goal.returns-clause-here_on
returns-clause-here_on c = λ history p tells. tells.2

pub returns-clause-off_here : goal.returns-clause-off_here
returns-clause-off_here c = λ history p tells. tells.0

pub returns-clause-off_number : goal.returns-clause-off_number
returns-clause-off_number c = λ history p tells. tells.1

pub returns-clause-is_off : goal.returns-clause-is_off
returns-clause-is_off c = λ history p tells. tells.2

pub returns-clause-gone : goal.returns-clause-gone
returns-clause-gone c = λ history tells. tells.1

pub returns-clause-gone_first : goal.returns-clause-gone_first
returns-clause-gone_first c = λ history to tells. omega (arith, tells.0)

pub returns-clause-gone_outside : goal.returns-clause-gone_outside
returns-clause-gone_outside c = λ history p tells. omega (arith, tells.2)
