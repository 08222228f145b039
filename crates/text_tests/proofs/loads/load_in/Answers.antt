use Rattle.std.proofs.Common.{◌≡◌, inl, Option, Some, None, Result, Ok, ap, sym, ◌∙◌}
use Rattle.std.specs.Option.{ok_or}
use Rattle.word_line.specs.declared.command.Command.{Command}
use Rattle.word_line.specs.declared.command.Command.TheVariants.{Make}
use Rattle.word_line.specs.declared.command.WordsFault.{WordsFault}
use Rattle.word_line.specs.declared.command.WordsFault.TheVariants.{Refused}
use Rattle.word_line.specs.declared.load.Load.{Load}
use Rattle.word_line.specs.Forms.{bytes_of, command_of}
use Rattle.text_tests.proofs.loads.load_in.Goals as goal

-- a command that was read is the command of the words
some-of : (read : Option Command) (load : Load) → Ok (Make load) ≡ ok_or read Refused → read ≡ Some (Make load)
some-of None load e = cc
some-of (Some command) load e = cc

pub returns-in-Ok-Make : goal.returns-in-Ok-Make
returns-in-Ok-Make c =
    let words = c.args.words.now in
    let load = c.in-Ok-Make.load in
    let read : Result Command WordsFault = Ok (Make load) in
    let found : read ≡ ok_or (command_of (bytes_of words)) Refused =
    ap (λ (command : Command). let r : Result Command WordsFault = Ok command in r) (sym c.in-Ok-Make.field-0-is)
    ∙ c.in-Ok-Make.ensures in
    c.words_are_loads.ensures (bytes_of words) load (inl (some-of (command_of (bytes_of words)) load found))
