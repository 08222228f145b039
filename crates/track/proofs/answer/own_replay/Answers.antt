use Rattle.net_reader.specs.Seen.{seen_input}
use Rattle.std.proofs.lemmas.Result.{IfOk-weaker}
use Rattle.track.proofs.Replaying.{sound-text}
use Rattle.track.proofs.answer.own_replay.Goals as goal

pub returns-clause-report : goal.returns-clause-report
returns-clause-report c =
    let contents = seen_input c.args.input.now in
    IfOk-weaker c.replay.result _ _ (λ made over. record {
      over = over;
      sound = sound-text c.own_reports_are_sound.ensures contents.order c.requires.valid over.text_is;
    }) c.replay.ensures.report
