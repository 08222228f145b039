use Rattle.std.proofs.Common.{◌≡◌, ◌∙◌, ◌%◌, ap, sym, List, ℕ, Ok, Err, length, arith}
use Rattle.report_check.specs.Reading.{order_line_count}
use Rattle.report_check.proofs.Turns.{full-too, if-none, if-some, orders-bad, orders-last, orders-more, orders-none, orders-short, read-none, read-some}
use Rattle.report_check.proofs.cursor.Cursor.order.Goals as goal

pub returns-then-len-ne0-clause-read : goal.returns-then-len-ne0-clause-read
returns-then-len-ne0-clause-read c =
    c.lines.invariant
    ∙ orders-short (length c.args.self.now.rest.now) c.lines._line c.lines.order.items c.lines.self.rest.now
    c.lines-test.true (λ full.
    let count : length c.lines.order.items ≡ c.len.result = omega (arith, c.len.ensures) in
    c.if-len-ne0.true (ap (λ n. n % 64) (sym count) ∙ full))

pub returns-then-is_none-clause-read : goal.returns-then-is_none-clause-read
returns-then-is_none-clause-read c =
    let same : c.word.new.self.rest.now ≡ c.lines.self.rest.now =
    if-none c.word.result c.if-is_none.ensures c.word.ensures.still in
    c.lines.invariant
    ∙ orders-none (length c.args.self.now.rest.now) c.lines._line c.lines.order.items c.lines.self.rest.now
    c.lines-test.true (full-too (omega (arith, c.len.ensures)) c.if-len-ne0.false)
    (if-none c.word.result c.if-is_none.ensures c.word.ensures.none)
    ∙ ap (λ (text : List ℕ). Ok (c.lines.order.items, text)) (sym same)

pub returns-then-is_none-2-clause-read : goal.returns-then-is_none-2-clause-read
returns-then-is_none-2-clause-read c =
    c.lines.invariant
    ∙ orders-bad (length c.args.self.now.rest.now) c.lines._line c.lines.order.items c.lines.self.rest.now
    c.lines-test.true (full-too (omega (arith, c.len.ensures)) c.if-len-ne0.false)
    (if-some c.word.result c.if-is_none.ensures c.word.ensures.some)
    (read-none _ c.in_ok-order_line.field-0 _ _ c.if-is_none-2.ensures c.in_ok-order_line.ensures)
    ∙ ap Err (ap order_line_count (sym c.deref.ensures.value) ∙ sym c.line_count-lines.ensures.count)

pub lines-preserved : goal.lines-preserved
lines-preserved c =
    c.lines.invariant
    ∙ orders-more (length c.args.self.now.rest.now) c.lines._line c.lines.order.items c.lines.self.rest.now
    c.order_line.new.order.items c.order_line.new.self.rest.now c.lines-test.true
    (full-too (omega (arith, c.len.ensures)) c.if-len-ne0.false)
    (if-some c.word.result c.if-is_none.ensures c.word.ensures.some)
    (read-some _ c.in_ok-order_line.field-0 _ _ c.if-is_none-2.ensures c.in_ok-order_line.ensures)

pub returns-clause-read : goal.returns-clause-read
returns-clause-read c =
    c.lines.invariant
    ∙ orders-last (length c.args.self.now.rest.now) c.lines._line c.lines.order.items c.lines.self.rest.now
    c.lines-test.false
