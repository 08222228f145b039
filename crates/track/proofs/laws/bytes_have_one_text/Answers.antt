use Rattle.track.proofs.OneText.{one_text}
use Rattle.track.proofs.laws.bytes_have_one_text.Goals as goal

pub returns : goal.returns
returns c = one_text c.text_says_one.ensures (record {
  listing = c.one_text.ensures.listing;
  right = c.one_text.ensures.right;
  cause = c.one_text.ensures.cause;
})
