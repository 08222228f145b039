use Rattle.directory.specs.Histories.{History}
use Rattle.directory.specs.Orders.{after_turns}
use Rattle.machine.specs.Machines.{IsSame, HasHistory, scripts_at, setting_at}
use Rattle.machine.proofs.Finishing.{turns_of}
use Rattle.machine.proofs.machine.Machine.finish.Given as goal

abbrev pub invariant-actors : goal.invariant-actors
invariant-actors l = record {
  same : IsSame l.fn.self l.self;
  stands : (history : History) → HasHistory l.fn.self history → HasHistory l.self
      (after_turns (setting_at l.fn.self) (scripts_at l.fn.self) history
      (turns_of (setting_at l.fn.self) (scripts_at l.fn.self) l.actor));
}
