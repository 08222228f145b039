use Rattle.std.proofs.Common.{ap, ◌∙◌}
use Rattle.report_check.specs.Cuts.{input_part, report_part}
use Rattle.track.proofs.Ending.{ended-check}
use Rattle.track.proofs.top.perform_check.Goals as goal

pub returns-clause-ends : goal.returns-clause-ends
returns-clause-ends g c =
    let parts = c.cut_text-parts.result in
    ended-check c.judge_parts.result c.write_answer.result (g.K.Sink.written c.args.sink.now)
    (g.K.Sink.written c.write_answer.new.sink) (g.K.Sink.faults c.args.sink.now)
    (g.K.Sink.faults c.write_answer.new.sink) c.in-Ok.ensures.all
    (c.cut_text-parts.ensures.input ∙ ap input_part c.deref.ensures.value)
    (c.cut_text-parts.ensures.report ∙ ap report_part c.deref.ensures.value) c.if-parts-gt-MAX_BYTES.false
    c.judge_parts.ensures c.write_answer.ensures
