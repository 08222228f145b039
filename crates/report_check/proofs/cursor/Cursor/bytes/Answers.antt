use Rattle.std.proofs.Common.{◌+◌, ◌∙◌, ap, sym, drop, List, ℕ}
use Rattle.std.proofs.lemmas.List.{take_rest}
use Rattle.report_check.specs.Reading.{word_in}
use Rattle.report_check.proofs.Steps.{word-differs, word-done, word-ended, word-goes}
use Rattle.report_check.proofs.cursor.Cursor.bytes.Goals as goal

pub returns-in-empty-clause-none : goal.returns-in-empty-clause-none
returns-in-empty-clause-none c =
    c.bytes.invariant
    ∙ word-ended c.args.word.now c.bytes.byte-index c.bytes.rest.now c.bytes-test.true c.in-empty.len_below

pub returns-then-byte-first-clause-none : goal.returns-then-byte-first-clause-none
returns-then-byte-first-clause-none c =
    c.bytes.invariant
    ∙ word-differs c.args.word.now c.bytes.byte-index c.bytes.rest.now c.bytes-test.true c.in-len1-up.len_at_least
    c.if-byte-first.true

pub bytes-preserved : goal.bytes-preserved
bytes-preserved c =
    c.bytes.invariant
    ∙ word-goes c.args.word.now c.bytes.byte-index c.bytes.rest.now c.bytes-test.true c.in-len1-up.len_at_least
    (sym c.if-byte-first.false)
    ∙ ap (λ (text : List ℕ). word_in (drop (c.bytes.byte-index + 1) c.args.word.now) text)
    (sym (take_rest c.bytes.rest.now 1))

pub returns-clause-some : goal.returns-clause-some
returns-clause-some c =
    c.bytes.invariant ∙ word-done c.args.word.now c.bytes.byte-index c.bytes.rest.now c.bytes-test.false
