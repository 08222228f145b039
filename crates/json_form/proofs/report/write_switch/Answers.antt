use Rattle.directory.specs.declared.answers.Done.TheVariants.{Switched}
use Rattle.json_form.specs.Left.{done_pieces}
use Rattle.json_form.proofs.Pieces.{grown-is}
use Rattle.json_form.proofs.report.write_switch.Goals as goal

pub returns : goal.returns
returns c =
    let a = c.args in
    rw (
      c.word-2.ensures.text,
      c.write_member.ensures.text,
      c.write_off.ensures.text,
      c.write_small-3.ensures.text,
      c.write_small-2.ensures.text,
      c.word.ensures.text,
      c.write_small.ensures.text,
    ) (grown-is a.line.now (done_pieces (Switched a.actor a.off a.node a.number a.ticket)))
