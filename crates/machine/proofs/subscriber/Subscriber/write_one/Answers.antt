use Rattle.std.proofs.Common.{refl, sym}
use Rattle.net_reader.specs.Seen.{seen_input}
use Rattle.machine.proofs.subscriber.Subscriber.write_one.Goals as goal

pub returns-then-not-has_ahead : goal.returns-then-not-has_ahead
returns-then-not-has_ahead c = λ history sees place its.
    rw (c.if-not-has_ahead.ensures.none refl).0 at (c.begin.ensures history sees place
    (c.has_ahead.ensures.stands (seen_input c.args.input.now) history c.args.sub (sym sees.hold.subs) its))

pub returns : goal.returns
returns c = λ history sees place its.
    c.put_one.ensures history sees place
    (c.has_ahead.ensures.stands (seen_input c.args.input.now) history c.args.sub (sym sees.hold.subs) its)
