use Rattle.track.proofs.Ending.{ended-json}
use Rattle.track.proofs.top.perform_json.Goals as goal

pub returns-in-Ok-clause-ends : goal.returns-in-Ok-clause-ends
returns-in-Ok-clause-ends g c =
    ended-json c.answer_json.result c.write_answer.result (g.K.Sink.written c.args.sink.now)
    (g.K.Sink.written c.write_answer.new.sink) (g.K.Sink.faults c.args.sink.now)
    (g.K.Sink.faults c.write_answer.new.sink) c.in-Ok.ensures.all
    (rw c.deref.ensures.value at c.answer_json.ensures) c.write_answer.ensures
