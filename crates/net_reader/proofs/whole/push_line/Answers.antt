use Rattle.net_reader.proofs.OrderLine.{behind-others}
use Rattle.net_reader.proofs.whole.push_line.Goals as goal

pub returns-clause-taken : goal.returns-clause-taken
returns-clause-taken c =
    behind-others c.args.order.now.items c.in-Some.ensures.taken c.in_ok-extend_from_slice.ensures.items
