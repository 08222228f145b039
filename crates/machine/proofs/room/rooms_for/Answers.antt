use Rattle.std.proofs.Common.{arith, ap, map, Vec, Global}
use Rattle.net_reader.specs.declared.said.Call.{Call}
use Rattle.region_plan.specs.Settings.{setting_of}
use Rattle.scripts.specs.Scripts.{most_visits}
use Rattle.machine.proofs.room.rooms_for.Goals as goal

pub returns-clause-visits : goal.returns-clause-visits
returns-clause-visits c = λ starts. omega (
  arith,
  c.in_ok-visits.ensures starts,
  c.in_ok-order.ensures.exact,
  ap (λ xs. most_visits (setting_of c.args.plan.now starts)
      (map (λ (s : Vec Call Global). s.items) xs)) c.deref.ensures.value,
)
