use Rattle.std.proofs.Common.{◌≡◌, drop}
use Rattle.outside.specs.Texts.{fields}
use Rattle.report_check.specs.Reading.{word_in}
use Rattle.report_check.proofs.cursor.Cursor.all_given.Given as goal

abbrev pub invariant-numbers : goal.invariant-numbers
invariant-numbers l = word_in (fields l.numbers) l.fn.self.rest.now
    ≡ word_in (fields (drop l.number-index l.numbers)) l.self.rest.now
