use Rattle.std.proofs.Common.{◌∙◌, sym, ap, ◌+◌}
use Rattle.std.proofs.lemmas.List.{take_rest}
use Rattle.report_check.specs.Cuts.{is_cut}
use Rattle.report_check.proofs.Searching.{input-end, input-found, input-whole, last-line, place-line, place-plain, report-end, report-found}
use Rattle.report_check.proofs.cut.cut_text.Goals as goal
use Rattle.report_check.proofs.cut.cut_text.Goals.{then-text-at-eq10+else-is_cut, else-text-at-eq10}

pub returns-then-is_cut-clause-input : goal.returns-then-is_cut-clause-input
returns-then-is_cut-clause-input c =
    sym (c.bytes.invariant.input
    ∙ input-found c.args.text.now c.bytes.start c.bytes.at c.bytes-test.true c.if-text-at-eq10.true
    (sym c.is_cut.ensures ∙ c.if-is_cut.true))

pub returns-then-is_cut-clause-report : goal.returns-then-is_cut-clause-report
returns-then-is_cut-clause-report c =
    take_rest c.args.text.now (c.bytes.at + 1)
    ∙ sym (c.bytes.invariant.report
    ∙ report-found c.args.text.now c.bytes.start c.bytes.at c.bytes-test.true c.if-text-at-eq10.true
    (sym c.is_cut.ensures ∙ c.if-is_cut.true))

pub bytes-preserved : goal.bytes-preserved
bytes-preserved c =
    elim c.if-text-at-eq10.branch [
      | then-text-at-eq10+else-is_cut w ↦ rw w.start-is (place-line c.bytes.invariant c.bytes-test.true
          w.if-text-at-eq10.true (sym w.is_cut.ensures ∙ w.if-is_cut.false))
      | else-text-at-eq10 w ↦ rw w.start-is (place-plain c.bytes.invariant c.bytes-test.true w.if-text-at-eq10.false)
    ]

pub returns-then-is_cut-2-clause-input : goal.returns-then-is_cut-2-clause-input
returns-then-is_cut-2-clause-input c =
    sym (c.bytes.invariant.input
    ∙ input-end c.args.text.now c.bytes.start c.bytes.at c.bytes-test.false
    (ap is_cut (last-line c.args.text.now c.bytes.start c.bytes.at c.bytes-test.false c.bytes.auto.at-end)
    ∙ sym c.is_cut-2.ensures ∙ c.if-is_cut-2.true))

pub returns-then-is_cut-2-clause-report : goal.returns-then-is_cut-2-clause-report
returns-then-is_cut-2-clause-report c =
    sym (c.bytes.invariant.report ∙ report-end c.args.text.now c.bytes.start c.bytes.at c.bytes-test.false)

pub returns-clause-input : goal.returns-clause-input
returns-clause-input c =
    sym (c.bytes.invariant.input
    ∙ input-whole c.args.text.now c.bytes.start c.bytes.at c.bytes-test.false
    (ap is_cut (last-line c.args.text.now c.bytes.start c.bytes.at c.bytes-test.false c.bytes.auto.at-end)
    ∙ sym c.is_cut-2.ensures ∙ c.if-is_cut-2.false) c.bytes.invariant.front)

pub returns-clause-report : goal.returns-clause-report
returns-clause-report c =
    sym (c.bytes.invariant.report ∙ report-end c.args.text.now c.bytes.start c.bytes.at c.bytes-test.false)
