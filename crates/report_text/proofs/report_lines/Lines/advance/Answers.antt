use Rattle.std.proofs.lemmas.Grind.{common_steps}
use Rattle.std.proofs.Common.{ap, arith}
use Rattle.report_text.specs.Written.{ReportState}
use Rattle.report_text.proofs.Pieces.{order-step}
use Rattle.report_text.proofs.report_lines.Lines.advance.Goals as goal

pub returns-then-not-is_empty-clause-line : goal.returns-then-not-is_empty-clause-line
returns-then-not-is_empty-clause-line c = λ made.
    let inside = c.self.inside in
    order-step c.args.self.now.left inside.calls.now inside.order.now c.write_next_order-order.result.now
    c.write_next_order-order.new.line inside.visits inside.ended (ap (λ (s : ReportState). s.left) c.self.view_is)
    (omega arith)
    c.write_next_order-order.ensures.line

pub returns-then-not-self-clause-line : goal.returns-then-not-self-clause-line
returns-then-not-self-clause-line c = grind (arith, common_steps)

pub returns-else-not-self : goal.returns-else-not-self
returns-else-not-self c = grind (arith, common_steps)

pub returns-in-len1-up : goal.returns-in-len1-up
returns-in-len1-up c = grind (arith, common_steps)
