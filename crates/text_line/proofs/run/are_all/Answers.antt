use Rattle.text_line.proofs.Runs.{all_same}
use Rattle.text_line.proofs.run.are_all.Goals as goal

pub returns : goal.returns
returns c = λ empty. all_same c.args.actors.now c.args.actor c.requires empty
