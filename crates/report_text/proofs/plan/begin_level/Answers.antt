use Rattle.std.proofs.Common.{◌++◌, codes, length, ap, ◌∙◌, arith}
use Rattle.std.proofs.lemmas.Bool.{false≢true}
use Rattle.report_text.proofs.Bodies.{plain_step}
use Rattle.report_text.proofs.Parts.{level-part, levels-end}
use Rattle.report_text.proofs.plan.begin_level.Goals as goal

pub returns-then-level-levels : goal.returns-then-level-levels
returns-then-level-levels c =
    let text = c.word.ensures.text ∙ ap (λ line. line ++ codes "end\n") c.requires.empty in
    grind (arith, plain_step, levels-end, false≢true)

pub returns-then-is_body_of : goal.returns-then-is_body_of
returns-then-is_body_of c =
    let plan = c.args.plan.now in
    let i = c.args.level in
    let body = c.is_body_of.ensures c.if-is_body_of.true in
    record {
      text = grind (arith, level-part);
      some = omega (arith, ap length c.write_level.ensures);
      sound = tt;
      keeps = record { room = c.requires.keeps.room; whole = body.0; some = λ yes. body.1 };
    }

pub returns : goal.returns
returns c =
    let plan = c.args.plan.now in
    let i = c.args.level in
    grind (arith, plain_step, level-part, false≢true)
