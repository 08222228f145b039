use Rattle.net_reader.specs.Seen.{seen_input}
use Rattle.move_cost.specs.Counting.{IsCounted}
use Rattle.move_cost.proofs.counting.cost_of.Given as goal

abbrev pub invariant-calls : goal.invariant-calls
invariant-calls l = IsCounted (seen_input l.input) l.plan l.sub l.place l.handset l.line
