use Rattle.std.proofs.Common.{◌≡◌, ◌∙◌, ◌-◌, ◌+◌, ap, sym, List, ℕ}
use Rattle.report_check.specs.Reading.{most, number_in, numbers_in}
use Rattle.report_check.proofs.Turns.{if-none, if-some, last-read, numbers-ended, numbers-missing, numbers-more}
use Rattle.report_check.proofs.cursor.Cursor.numbers.Goals as goal

pub returns-then-is_some : goal.returns-then-is_some
returns-then-is_some c =
    c.numbers.invariant
    ∙ numbers-ended c.args.room c.numbers._number c.numbers.order.items c.numbers.self.rest.now c.numbers-test.true
    (if-some c.line_end.result (sym c.if-is_some.ensures) c.line_end.ensures.some)

pub returns-in-None : goal.returns-in-None
returns-in-None c =
    let still : c.line_end.new.self.rest.now ≡ c.numbers.self.rest.now =
    if-none c.line_end.result (sym c.if-is_some.ensures) c.line_end.ensures.still in
    c.numbers.invariant
    ∙ numbers-missing c.args.room c.numbers._number c.numbers.order.items c.numbers.self.rest.now
    c.numbers-test.true (if-none c.line_end.result (sym c.if-is_some.ensures) c.line_end.ensures.none)
    (ap (λ (text : List ℕ). number_in most text) (sym still) ∙ c.in-None.ensures.none)

pub numbers-preserved : goal.numbers-preserved
numbers-preserved c =
    let still : c.line_end.new.self.rest.now ≡ c.numbers.self.rest.now =
    if-none c.line_end.result (sym c.if-is_some.ensures) c.line_end.ensures.still in
    c.numbers.invariant
    ∙ numbers-more c.args.room c.numbers._number c.numbers.order.items c.numbers.self.rest.now
    c.listed.new.self.rest.now c.in-Some.number c.numbers-test.true
    (if-none c.line_end.result (sym c.if-is_some.ensures) c.line_end.ensures.none)
    (ap (λ (text : List ℕ). number_in most text) (sym still) ∙ c.in-Some.ensures.some)
    ∙ ap (λ items. numbers_in (c.args.room - (c.numbers._number + 1)) items c.listed.new.self.rest.now)
    (sym c.in_ok-push-in-Some.ensures.items)

pub returns : goal.returns
returns c =
    last-read c.args.room c.numbers._number c.numbers.order.items c.numbers.self.rest.now c.line_end-2.new.self.rest.now
    c.line_end-2.result c.numbers-test.false c.numbers.invariant c.line_end-2.ensures.some c.line_end-2.ensures.none
