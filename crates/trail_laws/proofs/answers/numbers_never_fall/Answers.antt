use Rattle.trail_laws.proofs.Right.{never-fall}
use Rattle.trail_laws.proofs.answers.numbers_never_fall.Goals as goal

pub returns : goal.returns
returns c = never-fall c.marks_tell.ensures.marks c.entries_tell.ensures.entries c.front_is_legal.ensures
