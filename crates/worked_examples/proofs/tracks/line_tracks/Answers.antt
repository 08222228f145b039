use Rattle.std.proofs.Common.{refl, [], ◌∷◌}
use Rattle.plan_laws.specs.Examples.{line_of_four}
use Rattle.worked_examples.proofs.tracks.line_tracks.Goals as goal

pub returns : goal.returns
returns c = record {
  tracks = c.plans_track.ensures line_of_four (3 ∷ []) c.line_has_its_plan.ensures.bounding;
  times = refl;
  travels = refl;
  distance = refl;
}
