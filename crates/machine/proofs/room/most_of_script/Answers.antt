use Rattle.std.proofs.Common.{ap, ◌∙◌, arith}
use Rattle.std.proofs.lemmas.List.{take_all}
use Rattle.std.proofs.lemmas.List.Sums.{sum_by_more}
use Rattle.net_reader.specs.declared.said.Call.TheVariants as calls
use Rattle.region_plan.specs.Settings.{setting_of}
use Rattle.scripts.specs.Scripts.{most_of, most_in}
use Rattle.machine.proofs.room.most_of_script.Goals as goal
use Rattle.directory.specs.ListLaws.{added}

pub loop-call-preserved : goal.loop-call-preserved
loop-call-preserved c = λ starts.
    let sum = added _ c.checked_add.result _ c.checked_add.ensures c.ok_or.ensures.value c.in_ok-most.was in
    omega (
      arith,
      sum,
      c.loop-call.invariant starts,
      c.most_of.ensures starts,
      sum_by_more (most_of (setting_of c.args.plan.now starts)) c.args.script.now c.loop-call.call-index
          (calls.Move 0) c.loop-call-test.true,
    )

pub returns : goal.returns
returns c = λ starts. c.loop-call.invariant starts
    ∙ ap (most_in (setting_of c.args.plan.now starts))
    (take_all c.loop-call.call-index c.args.script.now c.loop-call-test.false)
