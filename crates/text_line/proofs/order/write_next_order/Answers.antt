use Rattle.text_line.proofs.Orders.{order-step}
use Rattle.text_line.proofs.order.write_next_order.Goals as goal

pub returns-clause-line : goal.returns-clause-line
returns-clause-line c =
    order-step c.args.actors.now c.split_at.result.0.now c.split_at.result.1.now c.write_order.new.line
    c.count_on_line.result c.requires.some c.write_order.ensures c.count_on_line.ensures.few
    c.count_on_line.ensures.most c.split_at.ensures.front c.split_at.ensures.back
