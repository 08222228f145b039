use Rattle.std.proofs.Common.{◌∙◌, ap, length}
use Rattle.std.specs.Prelude.{◌==◌}
use Rattle.report_check.specs.Cuts.{behind_blanks}
use Rattle.report_check.proofs.Cutting.{cut-none, cut-some}
use Rattle.report_check.proofs.cut.is_cut.Goals as goal

pub returns-then-is_some : goal.returns-then-is_some
returns-then-is_some c =
    cut-some c.word.result c.args.line.now c.word.new.self.rest.now c.is_some.ensures c.if-is_some.true
    c.word.ensures.some (c.behind_blanks.ensures ∙ ap behind_blanks c.without_return.ensures)
    (c.is_empty.ensures ∙ ap (λ t. length t == 0) c.behind_blanks-then-is_some.ensures)

pub returns-else-is_some : goal.returns-else-is_some
returns-else-is_some c =
    cut-none c.word.result c.args.line.now c.is_some.ensures c.if-is_some.false c.word.ensures.none
    (c.behind_blanks.ensures ∙ ap behind_blanks c.without_return.ensures)
