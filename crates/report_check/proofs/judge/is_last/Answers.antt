use Rattle.report_check.specs.declared.calls.Line.TheVariants.{Switch}
use Rattle.std.proofs.Common.{false}
use Rattle.report_check.proofs.Judging.{last-next, last-none}
use Rattle.report_check.proofs.judge.is_last.Goals as goal

pub returns-then-index-calls : goal.returns-then-index-calls
returns-then-index-calls c = last-none c.args.calls.now c.args.index (Switch 0 false 0 0 0) c.if-index-calls.true

pub returns : goal.returns
returns c =
    last-next c.args.calls.now c.args.index _ c.requires c.if-index-calls.false c.actor_of.ensures c.actor_of-2.ensures
