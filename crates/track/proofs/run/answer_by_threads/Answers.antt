use Rattle.std.proofs.Common.{Ok}
use Rattle.std.proofs.lemmas.Result.{IfOk-weaker}
use Rattle.net_reader.specs.Seen.{seen_input}
use Rattle.track.specs.Bodies.{text_of}
use Rattle.word_line.specs.declared.command.Command.TheVariants.{Run}
use Rattle.track.proofs.Answering.{refused-text}
use Rattle.track.proofs.run.answer_by_threads.Goals as goal

pub returns-in-Ok : goal.returns-in-Ok
returns-in-Ok g c =
    record {
      text = IfOk-weaker c.answer_run.result _ _ (λ answer is. λ bytes stands. record {
        input = Ok (seen_input c.in-Ok.found.0);
        says = (c.in-Ok.ensures.input bytes stands).0;
        answer = is;
      }) c.answer_run.ensures;
    }

pub returns-in-Err : goal.returns-in-Err
returns-in-Err g c =
    record {
      text = IfOk-weaker c.answer_refused.result _ _ (λ answer is. λ bytes stands.
          refused-text Run bytes c.in-Err.refusal answer.status (text_of answer.body)
          (c.in-Err.ensures.input bytes stands) is) c.answer_refused.ensures;
    }
