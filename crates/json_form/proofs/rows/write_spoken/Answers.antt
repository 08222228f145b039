use Rattle.std.proofs.Common.{sym, ◌∙◌}
use Rattle.serde_json.specs.View.{items_view}
use Rattle.json_form.specs.Taking.{call_of, each_in, number_in}
use Rattle.json_form.proofs.Refused.{none-of, spoken-find, spoken-move, spoken-off, spoken-on}
use Rattle.json_form.proofs.rows.write_spoken.Goals as goal

pub returns-then-eq-clause-no : goal.returns-then-eq-clause-no
returns-then-eq-clause-no c = λ no.
    none-of (call_of c.args.word.now) (each_in number_in (items_view c.args.numbers.now)) (c.write_row.ensures.no no)
    (λ ns differs. spoken-move c.args.word.now ns (sym c.eq.ensures ∙ c.if-eq.true) differs)

pub returns-then-eq-2-clause-no : goal.returns-then-eq-2-clause-no
returns-then-eq-2-clause-no c = λ no.
    none-of (call_of c.args.word.now) (each_in number_in (items_view c.args.numbers.now))
    (c.write_row-then-eq-2.ensures.no no) (λ ns differs. spoken-find c.args.word.now ns
    (sym c.eq.ensures ∙ c.if-eq.false) (sym c.eq-else-eq.ensures ∙ c.if-eq-2.true) differs)

pub returns-then-eq-3-clause-no : goal.returns-then-eq-3-clause-no
returns-then-eq-3-clause-no c = λ no.
    none-of (call_of c.args.word.now) (each_in number_in (items_view c.args.numbers.now))
    (c.write_row-then-eq-3.ensures.no no) (λ ns differs. spoken-off c.args.word.now ns
    (sym c.eq.ensures ∙ c.if-eq.false) (sym c.eq-else-eq.ensures ∙ c.if-eq-2.false)
    (sym c.eq-else-eq-2.ensures ∙ c.if-eq-3.true) differs)

pub returns-then-eq-4-clause-no : goal.returns-then-eq-4-clause-no
returns-then-eq-4-clause-no c = λ no.
    none-of (call_of c.args.word.now) (each_in number_in (items_view c.args.numbers.now))
    (c.write_row-then-eq-4.ensures.no no) (λ ns differs. spoken-on c.args.word.now ns (sym c.eq.ensures ∙ c.if-eq.false)
    (sym c.eq-else-eq.ensures ∙ c.if-eq-2.false) (sym c.eq-else-eq-2.ensures ∙ c.if-eq-3.false)
    (sym c.eq-else-eq-3.ensures ∙ c.if-eq-4.true) differs)
