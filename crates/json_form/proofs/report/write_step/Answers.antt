use Rattle.directory.specs.declared.answers.Done.TheVariants.{Moved}
use Rattle.json_form.specs.Left.{done_pieces}
use Rattle.json_form.proofs.Pieces.{grown-is}
use Rattle.json_form.proofs.report.write_step.Goals as goal

pub returns-in-Moved : goal.returns-in-Moved
returns-in-Moved c =
    let a = c.in-Moved in
    rw (
      a.is,
      c.word-in-Moved.ensures.text,
      c.write_member-in-Moved-3.ensures.text,
      c.write_small-in-Moved-3.ensures.text,
      c.write_small-in-Moved-2.ensures.text,
      c.write_member-in-Moved-2.ensures.text,
      c.word.ensures.text,
      c.write_small-in-Moved.ensures.text,
      c.write_member-in-Moved.ensures.text,
      c.write_member.ensures.text,
      c.write_small.ensures.text,
    ) (grown-is c.args.line.now (done_pieces (Moved a.actor a.number a.from a.to a.weight a.first a.commit a.last)))
