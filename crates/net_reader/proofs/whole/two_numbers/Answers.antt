use Rattle.net_reader.proofs.WholeLine.{two-read}
use Rattle.net_reader.proofs.whole.two_numbers.Goals as goal

pub returns : goal.returns
returns c =
    two-read c.in_ok-second.second c.in_ok-second.rest.now c.in_ok-first.ensures.number c.in_ok-second.ensures
