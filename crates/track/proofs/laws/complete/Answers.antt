use Rattle.track.proofs.OneText.{is_complete, is_complete_alone}
use Rattle.track.proofs.laws.complete.Goals as goal

pub returns-clause-input : goal.returns-clause-input
returns-clause-input c = is_complete c.text_says_one.ensures (record {
  listing = c.one_text.ensures.listing;
  right = c.one_text.ensures.right;
  cause = c.one_text.ensures.cause;
})

pub returns-clause-alone : goal.returns-clause-alone
returns-clause-alone c = is_complete_alone
