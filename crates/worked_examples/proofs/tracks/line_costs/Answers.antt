use Rattle.std.proofs.Common.{refl}
use Rattle.directory.specs.Courses.{highest}
use Rattle.directory.specs.Histories.{tickets_from, words_after}
use Rattle.directory.specs.Outcomes.{step_lines}
use Rattle.directory.specs.Writes.{writes}
use Rattle.worked_examples.proofs.tracks.line_costs.Goals as goal

pub returns : goal.returns
unfolding tickets_from words_after highest writes step_lines
returns c = record { before_old = refl; before_new = refl; passage = refl; after_new = refl; after_old = refl }
