use Rattle.net_reader.proofs.OneInput.{text_says_one}
use Rattle.net_reader.proofs.laws.text_says_one.Goals as goal

pub returns : goal.returns
returns c = text_says_one
