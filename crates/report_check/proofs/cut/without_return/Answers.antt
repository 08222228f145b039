use Rattle.std.proofs.Common.{sym}
use Rattle.report_check.proofs.Cutting.{return-at-end, return-kept}
use Rattle.report_check.proofs.cut.without_return.Goals as goal

pub returns-then-last-eq13 : goal.returns-then-last-eq13
returns-then-last-eq13 c = return-at-end c.args.line.now c.in-len1-up.len_at_least c.if-last-eq13.true

pub returns-else-last-eq13 : goal.returns-else-last-eq13
returns-else-last-eq13 c = sym (return-kept c.args.line.now c.if-last-eq13.false)
