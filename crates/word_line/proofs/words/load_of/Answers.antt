use Rattle.std.proofs.Common.{◌∙◌, arith}
use Rattle.word_line.proofs.Six.{six, too_few, too_many}
use Rattle.word_line.proofs.words.load_of.Goals as goal

pub returns-in_default : goal.returns-in_default
returns-in_default c = too_few c.args.words.now (omega arith)

pub returns-in_default-2 : goal.returns-in_default-2
returns-in_default-2 c = too_many c.args.words.now (omega arith)

pub returns : goal.returns
returns c =
    c.load_from.ensures ∙ six c.args.words.now _ _ _ _ _ _ _ _ _ _ _ _ _ _ (omega arith) (omega arith) c.start-item.is
    c.nodes-item.is c.k-item.is c.subs-item.is c.callers-item.is c.calls-item.is
    c.deref.ensures c.deref-2.ensures c.deref-3.ensures c.deref-4.ensures c.deref-5.ensures c.deref-6.ensures
    c.network_numbers.ensures c.actor_numbers.ensures
