use Rattle.std.proofs.Common.{◌≡◌, drop}
use Rattle.report_check.specs.Reading.{word_in}
use Rattle.report_check.proofs.cursor.Cursor.bytes.Given as goal

abbrev pub invariant-bytes : goal.invariant-bytes
invariant-bytes l = word_in l.word l.self.rest.now ≡ word_in (drop l.byte-index l.word) l.rest
