use Rattle.std.proofs.Common.{◌∙◌, sym, ap, List, ℕ}
use Rattle.std.proofs.lemmas.List.{take_rest}
use Rattle.report_check.specs.Cuts.{behind_blanks}
use Rattle.report_check.proofs.Cutting.{blanks-ended, blanks-goes, blanks-none}
use Rattle.report_check.proofs.cut.behind_blanks.Goals as goal

pub returns-then-not-is_blank : goal.returns-then-not-is_blank
returns-then-not-is_blank c =
    sym (c.blanks.invariant
    ∙ blanks-ended c.blanks.rest.now c.in-len1-up.len_at_least (sym c.is_blank.ensures ∙ c.if-not-is_blank.true))

pub blanks-preserved : goal.blanks-preserved
blanks-preserved c =
    c.blanks.invariant
    ∙ blanks-goes c.blanks.rest.now c.in-len1-up.len_at_least (sym c.is_blank.ensures ∙ c.if-not-is_blank.false)
    ∙ ap (λ (text : List ℕ). behind_blanks text) (sym (take_rest c.blanks.rest.now 1))

pub returns : goal.returns
returns c = sym (c.blanks.invariant ∙ blanks-none c.blanks.rest.now c.in_default.len_below)
