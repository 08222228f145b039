use Rattle.std.proofs.Common.{◌∙◌, ap, map}
use Rattle.report_check.specs.declared.verdict.Flaw.TheVariants as flaws
use Rattle.report_check.specs.declared.verdict.Verdict.TheVariants.{Unsound}
use Rattle.report_check.proofs.Judging.{judge-bad, judge-done, judge-good}
use Rattle.report_check.proofs.judge.judge.Goals as goal

pub returns-in-Some : goal.returns-in-Some
returns-in-Some c = λ plan is.
    judge-bad plan c.args.ground.now.homes.now (map (λ script. script.items) c.args.scripts.now)
    c.args.lines.now.calls.now c.args.order.now c.lines.index _ c.lines.before c.lines-test.true c.is_last-last.ensures
    (c.in-Some.ensures plan is) c.line_behind.ensures (c.lines.invariant plan is)

pub lines-preserved : goal.lines-preserved
lines-preserved c = λ plan is.
    judge-good plan c.args.ground.now.homes.now (map (λ script. script.items) c.args.scripts.now)
    c.args.lines.now.calls.now c.args.order.now c.lines.index _ c.lines.before c.lines-test.true c.is_last-last.ensures
    (c.in-None.ensures plan is) c.end_before-before.ensures (c.lines.invariant plan is)

pub returns-then-all_called : goal.returns-then-all_called
returns-then-all_called c = λ plan is.
    judge-done plan c.args.ground.now.homes.now (map (λ script. script.items) c.args.scripts.now)
    c.args.lines.now.calls.now c.args.order.now c.lines.index c.lines.before c.lines-test.false c.lines.auto.index-end
    c.if-all_called.ensures (c.lines.invariant plan is)

pub returns-else-all_called : goal.returns-else-all_called
returns-else-all_called c = λ plan is.
    ap (λ l. Unsound l flaws.Tickets) c.line_behind-else-all_called.ensures
    ∙ judge-done plan c.args.ground.now.homes.now (map (λ script. script.items) c.args.scripts.now)
    c.args.lines.now.calls.now c.args.order.now c.lines.index c.lines.before c.lines-test.false c.lines.auto.index-end
    c.if-all_called.ensures (c.lines.invariant plan is)
