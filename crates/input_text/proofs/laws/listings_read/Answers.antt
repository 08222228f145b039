use Rattle.input_text.proofs.Whole.{listings_read}
use Rattle.input_text.proofs.laws.listings_read.Goals as goal

pub returns : goal.returns
returns c = listings_read
