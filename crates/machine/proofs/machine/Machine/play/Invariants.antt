use Rattle.std.proofs.Common.{◌≡◌, ◌-◌, ◌≤◌, drop, length}
use Rattle.directory.specs.Histories.{History}
use Rattle.directory.specs.Orders.{after_turns}
use Rattle.machine.specs.Machines.{IsSame, HasHistory, scripts_at, setting_at}
use Rattle.machine.proofs.machine.Machine.play.Given as goal

abbrev pub invariant-runs : goal.invariant-runs
invariant-runs l = record {
  same : IsSame l.fn.self l.self;
  within : l.start ≤ length l.order;
  stands : (history : History) → HasHistory l.fn.self history → (now : History) × HasHistory l.self now
      × (after_turns (setting_at l.fn.self) (scripts_at l.fn.self) now (drop l.start l.order)
      ≡ after_turns (setting_at l.fn.self) (scripts_at l.fn.self) history l.order);
}

abbrev pub decreases-runs : goal.decreases-runs
decreases-runs l = length l.order - l.start
