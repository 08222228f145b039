use Rattle.std.proofs.Common.{arith}
use Rattle.machine.proofs.Finishing.{same-through, played-run, played-whole}
use Rattle.machine.proofs.machine.Machine.play.Goals as goal

pub runs-preserved : goal.runs-preserved
runs-preserved c = record {
  same = same-through c.args.self.now c.runs.self c.turns.new.self c.runs.invariant.same c.turns.ensures.same;
  within = c.run_end-end.ensures.within;
  stands = λ history is.
      let now = c.runs.invariant.stands history is in
      played-run c.args.self.now c.runs.self now.0 c.args.order.now c.runs.start c.run_end-end.result
      c.runs.invariant.same c.run_end-end.ensures.run now.2 (c.turns.ensures.stands now.0 now.1);
}

pub returns-clause-stands : goal.returns-clause-stands
returns-clause-stands c = λ history is.
    let now = c.runs.invariant.stands history is in
    played-whole c.args.self.now c.args.order.now c.runs.start (omega (arith, c.runs-test.false)) now.1 now.2
