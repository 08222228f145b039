use Rattle.std.proofs.Common.{◌≡◌, ◌≤◌, ◌+◌, ◌-◌, true}
use Rattle.net_reader.specs.Input.{Contents}
use Rattle.runner.specs.Workers.{HasGoneOn, MayPlay}
use Rattle.runner.proofs.worker.Worker.play.Given as goal

abbrev pub invariant-tries : goal.invariant-tries
invariant-tries g l = record {
  may : (input : Contents) × MayPlay input l.tracker l.plan l.distances l.self;
  gone : (input : Contents) → MayPlay input l.tracker l.plan l.distances l.fn.self
      → HasGoneOn input l.tracker l.fn.self l.self l.held;
  few : l.held + l.kept ≤ l.tries;
  kept : g.G.Gate.is_open l.gate ≡ true → l.kept ≡ 0;
  shut : g.G.Gate.is_shut l.gate ≡ true
      → (l.self.pass ≡ l.fn.self.pass) × (l.self.made ≡ l.fn.self.made) × (l.held ≡ 0);
}

abbrev pub decreases-tries : goal.decreases-tries
decreases-tries g l = l.self.pass.spare + (l.tries - (l.held + l.kept))
