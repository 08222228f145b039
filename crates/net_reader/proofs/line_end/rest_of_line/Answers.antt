use Rattle.net_reader.proofs.Running.{inside-front}
use Rattle.net_reader.proofs.line_end.rest_of_line.Goals as goal

pub returns-clause-inside : goal.returns-clause-inside
returns-clause-inside c =
    inside-front c.args.piece.now c.quiet_front.result c.quiet_front.ensures.within c.quiet_front.ensures.inside
