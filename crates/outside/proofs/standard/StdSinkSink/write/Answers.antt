use Rattle.outside.proofs.standard.StdSinkSink.write.Goals as goal

pub returns-in-Ok-clause-passes : goal.returns-in-Ok-clause-passes
returns-in-Ok-clause-passes g c = λ _. c.in-Ok.ensures.passes
