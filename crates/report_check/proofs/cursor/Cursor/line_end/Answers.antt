use Rattle.std.proofs.Common.{◌∙◌, ap, sym, List, ℕ, Some}
use Rattle.std.proofs.lemmas.List.{take_rest}
use Rattle.report_check.proofs.Shorts.{feed-ended, feed-differs, feed-goes}
use Rattle.report_check.proofs.cursor.Cursor.line_end.Goals as goal

pub returns-in_default-clause-none : goal.returns-in_default-clause-none
returns-in_default-clause-none c = feed-ended c.args.self.now.rest.now c.in_default.len_below

pub returns-then-byte-ne10-clause-none : goal.returns-then-byte-ne10-clause-none
returns-then-byte-ne10-clause-none c =
    feed-differs c.args.self.now.rest.now c.in-len1-up.len_at_least c.if-byte-ne10.true

pub returns-clause-some : goal.returns-clause-some
returns-clause-some c =
    feed-goes c.args.self.now.rest.now c.in-len1-up.len_at_least c.if-byte-ne10.false
    ∙ ap (λ (text : List ℕ). Some text) (sym (take_rest c.args.self.now.rest.now 1))
