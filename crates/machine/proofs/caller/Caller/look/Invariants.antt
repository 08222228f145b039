use Rattle.std.proofs.Common.{◌≡◌, ◌-◌, ◌≤◌}
use Rattle.net_reader.specs.Seen.{seen_input}
use Rattle.machine.specs.Callers.{MakesLooks}
use Rattle.machine.proofs.caller.Caller.look.Given as goal

abbrev pub invariant-looks : goal.invariant-looks
invariant-looks g l = record {
  few : l.made ≤ l.most;
  still : l.made ≡ 0 → l.self ≡ l.fn.self;
  passed : MakesLooks (seen_input l.input) l.plan l.cells l.ticket l.actor l.made l.fn.self l.self;
}

abbrev pub decreases-looks : goal.decreases-looks
decreases-looks g l = l.most - l.made
