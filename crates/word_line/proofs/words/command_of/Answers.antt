use Rattle.std.proofs.lemmas.Grind.{common_steps}
use Rattle.std.proofs.Common.{arith}
use Rattle.word_line.proofs.Named.{named}
use Rattle.word_line.proofs.words.command_of.Goals as goal

pub returns-in_default-as_str : goal.returns-in_default-as_str
returns-in_default-as_str c =
    named c.args.words.now c.name-item.result c.as_str.result.now c.plain_command.result c.alone.result
    c.in-len1-up.len_at_least c.name-item.is c.as_str.ensures.value c.in_default-as_str.not-make
    c.in_default-as_str.not-trial c.plain_command.ensures c.alone.ensures

pub returns-in_err-load_of-in-make : goal.returns-in_err-load_of-in-make
returns-in_err-load_of-in-make c = grind (arith, common_steps)

pub returns-in_err-load_of-in-trial : goal.returns-in_err-load_of-in-trial
returns-in_err-load_of-in-trial c = grind (arith, common_steps)

pub returns-in_ok-load_of-in-make : goal.returns-in_ok-load_of-in-make
returns-in_ok-load_of-in-make c = grind (arith, common_steps)

pub returns-in_ok-load_of-in-trial : goal.returns-in_ok-load_of-in-trial
returns-in_ok-load_of-in-trial c = grind (arith, common_steps)
