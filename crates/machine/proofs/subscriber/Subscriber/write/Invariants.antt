use Rattle.std.proofs.Common.{◌≡◌, ◌-◌, ◌≤◌}
use Rattle.net_reader.specs.Seen.{seen_input}
use Rattle.machine.specs.Subscribers.{MakesTurns}
use Rattle.machine.proofs.subscriber.Subscriber.write.Given as goal

abbrev pub invariant-writes : goal.invariant-writes
invariant-writes g l = record {
  few : l.made ≤ l.most;
  still : l.made ≡ 0 → (l.self ≡ l.fn.self) × (l.cells ≡ l.fn.cells);
  written : MakesTurns (seen_input l.input) l.plan l.ticket l.sub l.fn.self l.self l.fn.cells l.cells l.made;
}

abbrev pub decreases-writes : goal.decreases-writes
decreases-writes g l = l.most - l.made
