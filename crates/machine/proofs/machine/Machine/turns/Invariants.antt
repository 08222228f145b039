use Rattle.std.proofs.Common.{◌-◌, ◌≤◌}
use Rattle.directory.specs.Histories.{History}
use Rattle.machine.specs.Machines.{IsSame, HasHistory, HasMade}
use Rattle.machine.proofs.machine.Machine.turns.Given as goal

abbrev pub invariant-turns : goal.invariant-turns
invariant-turns l = record {
  same : IsSame l.fn.self l.self;
  few : l.left ≤ l.count;
  stands : (history : History) → HasHistory l.fn.self history
      → HasMade l.fn.self l.self history l.actor (l.count - l.left);
}

abbrev pub decreases-turns : goal.decreases-turns
decreases-turns l = l.left
