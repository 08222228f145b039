use Rattle.std.proofs.Common.{Ok}
use Rattle.std.proofs.lemmas.Result.{IfOk-weaker}
use Rattle.net_reader.specs.Seen.{seen_input}
use Rattle.track.specs.Bodies.{text_of}
use Rattle.track.proofs.Answering.{refused-verdict}
use Rattle.track.proofs.judging.judge_parts.Goals as goal

pub returns-in-Ok : goal.returns-in-Ok
returns-in-Ok c =
    IfOk-weaker c.judge.result _ _ (λ answer is. record {
      input = Ok (seen_input c.in-Ok.found.0);
      says = (c.in-Ok.ensures.input c.args.part.now c.in_ok-reader.ensures).0;
      answer = is;
    }) c.judge.ensures

pub returns-in-Err : goal.returns-in-Err
returns-in-Err c =
    IfOk-weaker c.answer_refused.result _ _ (λ answer is.
    refused-verdict c.args.part.now c.args.report.now c.in-Err.refusal answer.status (text_of answer.body)
    (c.in-Err.ensures.input c.args.part.now c.in_ok-reader.ensures) is) c.answer_refused.ensures
