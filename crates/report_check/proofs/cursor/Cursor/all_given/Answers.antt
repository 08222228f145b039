use Rattle.std.proofs.Common.{◌∙◌, ap, [], arith}
use Rattle.std.proofs.lemmas.List.{drop_all}
use Rattle.outside.specs.Texts.{fields}
use Rattle.report_check.specs.Reading.{word_in}
use Rattle.report_check.proofs.Steps.{fields-missing, fields-step, pass-none, word-done}
use Rattle.report_check.proofs.cursor.Cursor.all_given.Goals as goal

pub returns-in_err-given-clause-none : goal.returns-in_err-given-clause-none
returns-in_err-given-clause-none c =
    pass-none c.from_residual.result (c.numbers.invariant
    ∙ fields-missing c.args.numbers.now c.numbers.number-index c.numbers.self.rest.now c.numbers-test.true
    c.in_err-given.ensures.none)

pub numbers-preserved : goal.numbers-preserved
numbers-preserved c =
    c.numbers.invariant
    ∙ fields-step c.args.numbers.now c.numbers.number-index c.numbers.self.rest.now c.numbers-test.true
    c.in_ok-given.ensures.some

pub returns-clause-some : goal.returns-clause-some
returns-clause-some c =
    c.numbers.invariant
    ∙ ap (λ ns. word_in (fields ns) c.numbers.self.rest.now)
    (drop_all c.numbers.number-index c.args.numbers.now c.numbers-test.false)
    ∙ word-done [] 0 c.numbers.self.rest.now (omega arith)
