use Rattle.store_laws.proofs.Turns.{stepped-finds}
use Rattle.store_laws.proofs.stepping.stepped_finds_are_finds.Goals as goal

pub returns : goal.returns
returns c = stepped-finds
