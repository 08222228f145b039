use Rattle.trail_laws.proofs.Laws.{entries-tell, top-has_entry}
use Rattle.trail_laws.proofs.marks.entries_tell.Goals as goal

pub returns : goal.returns
returns c = record { entries = entries-tell assumption; top = top-has_entry assumption }
