use Rattle.std.proofs.Common.{◌∙◌, arith}
use Rattle.word_line.proofs.Numbers.{number_read}
use Rattle.word_line.proofs.number.number_of.Goals as goal

pub returns : goal.returns
returns c =
    c.ok.ensures.value ∙ number_read c.args.word.now c.parse.result c.parse.ensures.value.0 (grind arith) (grind arith)
    (grind arith)
