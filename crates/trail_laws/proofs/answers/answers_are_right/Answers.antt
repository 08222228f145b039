use Rattle.trail_laws.proofs.Right.{answers-right}
use Rattle.trail_laws.proofs.answers.answers_are_right.Goals as goal

pub returns : goal.returns
returns c = answers-right c.marks_tell.ensures.marks c.entries_tell.ensures.entries c.front_is_legal.ensures
