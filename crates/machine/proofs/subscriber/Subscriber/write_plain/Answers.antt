use Rattle.std.proofs.Common.{◌≡◌, ◌+◌, ◌-◌, ◌<◌, ℕ, false, length, set, ap, arith, ◌∙◌}
use Rattle.machine.specs.Subscribers.{line_after}
use Rattle.machine.proofs.Making.{made-none}
use Rattle.machine.proofs.Written.{line-there, may-put, plain-put}
use Rattle.machine.proofs.subscriber.Subscriber.write_plain.Goals as goal

pub put_plain-behind-requires-clause-stands : goal.put_plain-behind-requires-clause-stands
put_plain-behind-requires-clause-stands c = grind (arith, may-put)

pub overflow_sub-last : goal.overflow_sub-last
overflow_sub-last c =
    let left : c.args.self.now.made < length c.args.self.now.ahead.items = grind arith in
    let some = line-there c.mark_words.ensures.unpacked c.own_after.ensures.visits c.own_after.ensures.tickets
    c.tickets_tell.ensures.visits c.scripts_are_valid.ensures c.requires.together c.requires.low
    c.requires.stands.3 left in
    omega (arith, c.len-last.ensures, some)

pub index_mut-requires : goal.index_mut-requires
index_mut-requires c =
    let left : c.args.self.now.made < length c.args.self.now.ahead.items = grind arith in
    let some = line-there c.mark_words.ensures.unpacked c.own_after.ensures.visits c.own_after.ensures.tickets
    c.tickets_tell.ensures.visits c.scripts_are_valid.ensures c.requires.together c.requires.low
    c.requires.stands.3 left in
    omega (arith, c.len-last.ensures, some)

pub returns-then-made-gt0-clause-made : goal.returns-then-made-gt0-clause-made
returns-then-made-gt0-clause-made c = λ history sees place its.
    let old = c.args.self.now in
    let line = c.index_mut.result.now in
    let count : ℕ = c.put_plain-behind.result - c.args.self.now.made in
    let size : c.len-last.result ≡ length old.lines.items = omega (arith, c.len-last.ensures) in
    let come = c.put_plain-behind.ensures.puts c.args.plan.now its.handset c.args.self.now.handset
    (may-put sees its c.as_slice.ensures.value) in
    plain-put c.mark_words.ensures.unpacked c.own_after.ensures.visits c.own_after.ensures.tickets
    c.tickets_tell.ensures.visits c.scripts_are_valid.ensures c.requires.together c.requires.low
    c.each_visit_is_next.ensures.more c.next_is_own.ensures c.put_plain-behind.result _ line place sees its
    c.as_slice.ensures.value come c.if-made-gt0.true c.put_plain-behind.ensures.within
    (ap (set old.lines.items (c.len-last.result - 1)) (c.go_on.ensures
    ∙ ap (λ l. line_after l false (c.args.ticket + count - 1)) c.index_mut.ensures.value) ∙ rw size) (omega arith)

pub returns-else-made-gt0-clause-made : goal.returns-else-made-gt0-clause-made
returns-else-made-gt0-clause-made c = grind (arith, may-put, made-none)
