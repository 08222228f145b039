use Rattle.std.proofs.Common.{refl}
use Rattle.net_reader.specs.Seen.{seen_line}
use Rattle.net_reader.proofs.Running.{comment-settled, run-plain, run-settled, run-still, wrong-settled}
use Rattle.net_reader.proofs.line.Line.go_on.Goals as goal
use Rattle.net_reader.proofs.line.Line.go_on.Goals.{in-Number, in-Word, in-Comment, in-Wrong, in_default}

pub returns : goal.returns
returns c =
    let line = seen_line c.args.self.now in
    let piece = c.args.piece.now in
    let found = c.match-self.field in
    let rest = c.split_at.result.1.now in
    elim c.match-self.branch [
      | in-Number w ↦
          let run = w.digit_run-count in
          run-plain line run.result.2 piece w.in-Number.is w.field-is c.split_at.ensures.back run.ensures.plain
          run.ensures.read
      | in-Word w ↦
          let run = w.word_run-packed in
          run-plain line run.result.1 piece w.in-Word.is w.field-is c.split_at.ensures.back run.ensures.plain
          run.ensures.read
      | in-Comment w ↦
          run-settled comment-settled line w.rest_of_line.result piece w.in-Comment.is w.field-is
          c.split_at.ensures.back w.rest_of_line.ensures.inside
      | in-Wrong w ↦
          run-settled wrong-settled line w.rest_of_line-in-Wrong.result piece w.in-Wrong.is w.field-is
          c.split_at.ensures.back w.rest_of_line-in-Wrong.ensures.inside
      | in_default w ↦
          run-still line piece refl w.field-is c.split_at.ensures.back
    ]
