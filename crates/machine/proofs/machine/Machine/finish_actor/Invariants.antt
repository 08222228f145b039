use Rattle.std.proofs.Common.{◌-◌, ℕ, length}
use Rattle.directory.specs.Histories.{History}
use Rattle.scripts.specs.Scripts.{most_visits}
use Rattle.machine.specs.Machines.{IsSame, HasHistory, HasMade, input_at, setting_at}
use Rattle.machine.proofs.machine.Machine.finish_actor.Given as goal

abbrev pub invariant-turns : goal.invariant-turns
invariant-turns l = record {
  same : IsSame l.fn.self l.self;
  stands : (history : History) → HasHistory l.fn.self history → (k : ℕ) × HasMade l.fn.self l.self history l.actor k;
}

abbrev pub decreases-turns : goal.decreases-turns
decreases-turns l = most_visits (setting_at l.self) (input_at l.self).scripts - length l.self.order.items
