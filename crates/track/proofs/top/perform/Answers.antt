use Rattle.track.proofs.Ending.{ended, is_plain}
use Rattle.track.proofs.top.perform.Goals as goal

pub returns-in-Ok-clause-ends : goal.returns-in-Ok-clause-ends
returns-in-Ok-clause-ends g c =
    ended (is_plain c.args.command c.requires) c.make_answer.result c.write_answer.result
    (g.K.Sink.written c.args.sink.now) (g.K.Sink.written c.write_answer.new.sink) (g.K.Sink.faults c.args.sink.now)
    (g.K.Sink.faults c.write_answer.new.sink) c.in-Ok.ensures.all c.make_answer.ensures.text c.write_answer.ensures
