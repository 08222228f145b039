use Rattle.std.proofs.Common.{ap, arith, refl, ◌∙◌}
use Rattle.machine.specs.Subscribers.{line_after}
use Rattle.machine.proofs.Written.{line-there, one-put}
use Rattle.machine.proofs.subscriber.Subscriber.put_one.Goals as goal

pub overflow_sub-last : goal.overflow_sub-last
overflow_sub-last c =
    let some = line-there c.mark_words.ensures.unpacked c.own_after.ensures.visits c.own_after.ensures.tickets
    c.tickets_tell.ensures.visits c.scripts_are_valid.ensures c.requires.together c.requires.low
    c.requires.stands.3 c.requires.left in
    omega (arith, c.len-last.ensures, some)

pub index_mut-requires : goal.index_mut-requires
index_mut-requires c =
    let some = line-there c.mark_words.ensures.unpacked c.own_after.ensures.visits c.own_after.ensures.tickets
    c.tickets_tell.ensures.visits c.scripts_are_valid.ensures c.requires.together c.requires.low
    c.requires.stands.3 c.requires.left in
    omega (arith, c.len-last.ensures, some)

pub returns : goal.returns
returns c = λ history sees place its.
    let some = line-there c.mark_words.ensures.unpacked c.own_after.ensures.visits c.own_after.ensures.tickets
    c.tickets_tell.ensures.visits c.scripts_are_valid.ensures c.requires.together c.requires.low its c.requires.left in
    one-put c.mark_words.ensures.unpacked c.own_after.ensures.visits c.own_after.ensures.tickets
    c.tickets_tell.ensures.visits c.scripts_are_valid.ensures c.requires.together c.requires.low _
    c.index_mut.result.now place sees its c.requires.left c.index-write.ensures refl (omega arith)
    (omega (arith, c.len-last.ensures, some)) (c.go_on.ensures
    ∙ ap (λ l. line_after l c.index-write.result.now.commits c.args.ticket) c.index_mut.ensures.value)
    (λ key cell. c.put_at.ensures.history c.args.plan.now key sees.goes cell)
    (c.put_at.ensures.goes c.args.plan.now sees.goes)
