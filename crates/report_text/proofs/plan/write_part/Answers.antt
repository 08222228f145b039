use Rattle.std.proofs.Common.{arith}
use Rattle.report_text.proofs.Bodies.{plain_step}
use Rattle.report_text.proofs.plan.write_part.Goals as goal

pub returns : goal.returns
returns c =
    let part = c.write_body_part-behind.ensures in
    plain_step c.args.plan.now c.args.next c.write_body_part-behind.result c.keep.new.self
    c.write_body_part-behind.new.line c.keep.ensures.still part.text part.some part.sound
    (c.keep.ensures.keeps c.args.plan.now c.args.next c.write_body_part-behind.result c.requires.keeps
    (grind arith))
