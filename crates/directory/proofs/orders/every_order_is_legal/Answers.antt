use Rattle.directory.proofs.NextLaws.{played-legal}
use Rattle.directory.proofs.orders.every_order_is_legal.Goals as goal

pub returns : goal.returns
returns c = played-legal c.mark_words.ensures.unpacked
