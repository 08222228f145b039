use Rattle.std.proofs.Common.{◌≡◌, arith, rules, [], None}
use Rattle.handset.specs.Beginning.{move_fault}
use Rattle.tracker_calls.proofs.whole_moves.may_move_to.Goals as goal

pub returns-then-spare-need : goal.returns-then-spare-need
returns-then-spare-need c =
    let none : move_fault c.args.plan.now c.args.handset.now c.args.to ≡ None = search rules in record {
      may = (none, c.most_writes-need.ensures [], omega (arith, c.spare.ensures, c.if-spare-need.true));
    }

pub returns : goal.returns
returns c =
    let none : move_fault c.args.plan.now c.args.handset.now c.args.to ≡ None = search rules in record {
      may = record {
        begins = none;
        room = omega (arith, c.most_writes-need.ensures [], c.spare.ensures, c.if-spare-need.false);
      };
    }
