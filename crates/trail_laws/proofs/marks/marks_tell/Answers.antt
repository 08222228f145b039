use Rattle.trail_laws.proofs.Laws.{marks-tell, one-coming}
use Rattle.trail_laws.proofs.marks.marks_tell.Goals as goal

pub returns : goal.returns
returns c = record { marks = marks-tell assumption; one = one-coming assumption }
