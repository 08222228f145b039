use Rattle.std.proofs.Common.{◌≡◌, subst}
use Rattle.std.specs.Result.{OnOk}
use Rattle.outside.specs.Bytes.{append_known}
use Rattle.track.proofs.writing.write_json.Goals as goal

pub returns-clause-all : goal.returns-clause-all
returns-clause-all g c =
    subst (λ text. OnOk c.write_pieces.result (g.K.Sink.written c.write_pieces.new.sink
    ≡ append_known (g.K.Sink.written c.args.sink.now) text)) c.in_ok-parts.ensures.text c.write_pieces.ensures.all
