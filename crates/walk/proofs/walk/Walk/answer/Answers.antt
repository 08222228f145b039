use Rattle.std.proofs.Common.{rules, arith}
use Rattle.walk.proofs.Readers.{answer-climbing}
use Rattle.walk.proofs.walk.Walk.answer.Goals as goal

pub returns-in-Climbing : goal.returns-in-Climbing
returns-in-Climbing c = grind (arith, answer-climbing)

pub returns-in-Ended : goal.returns-in-Ended
returns-in-Ended c = search rules
