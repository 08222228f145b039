use Rattle.std.proofs.Common.{ap, ◌++◌, ◌∙◌, List, ℕ}
use Rattle.std.specs.List.{concat}
use Rattle.directory.specs.declared.answers.Done.TheVariants.{Again}
use Rattle.json_form.specs.Left.{done_pieces}
use Rattle.json_form.proofs.Pieces.{grown-is}
use Rattle.json_form.proofs.Texts.{place_pieces, placed}
use Rattle.json_form.proofs.report.write_find.Goals as goal

pub returns-in-At : goal.returns-in-At
returns-in-At c =
    let a = c.in-At in
    let find = c.args.find in
    rw (
      c.word-in-At.ensures.text,
      c.write_member-in-At.ensures.text,
      c.write_small-in-At-3.ensures.text,
      c.write_small-in-At-2.ensures.text,
      c.write_small-in-At.ensures.text,
      c.write_level.ensures.text,
      c.write_member-2.ensures.text,
      c.word.ensures.text,
      c.kind_of.ensures.text,
      c.write_small-2.ensures.text,
      c.write_member.ensures.text,
      c.write_small.ensures.text,
    ) (grown-is c.args.line.now (place_pieces find a.node a.number a.level a.weight)
    ∙ ap (λ (pieces : List (List ℕ)). c.args.line.now ++ concat pieces)
    (placed find a.is))

pub returns-in-Again : goal.returns-in-Again
returns-in-Again c =
    let a = c.in-Again in
    let find = c.args.find in
    rw (
      c.write_why.ensures,
      c.write_member-in-Again.ensures.text,
      c.write_small-in-Again.ensures.text,
      c.write_why_node.ensures.text,
      c.write_member-2.ensures.text,
      c.word.ensures.text,
      c.kind_of.ensures.text,
      c.write_small-2.ensures.text,
      c.write_member.ensures.text,
      c.write_small.ensures.text,
      a.is,
    ) (grown-is c.args.line.now (done_pieces (Again find.actor find.from find.sub a.why a.weight find.first find.last)))
